use Rattle.std.proofs.Common.{arith, length, ◌*◌}
use Rattle.decimal.specs.Text.{row_text, word_row}
use Rattle.decimal.proofs.TextLaws.{wrote_both}
use Rattle.decimal.proofs.word_row.Goals as goal

pub returns : goal.returns
unfolding word_row
returns c =
    let a = c.args in
    wrote_both (length a.word.now) (32 * length a.ns.now) a.word.now (row_text a.ns.now) a.out.now _ _ _ _ (omega arith) (omega arith) c.write_bytes-a.ensures c.write_row-b.ensures
