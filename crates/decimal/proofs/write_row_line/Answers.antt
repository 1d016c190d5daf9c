use Rattle.std.proofs.Common.{sym, ◌∙◌, [], ◌∷◌, ◌+◌, ◌*◌, length}
use borrow.Author.Tests.{leb-true}
use Rattle.decimal.specs.Text.{word_row}
use Rattle.decimal.proofs.TextLaws.{wrote_both}
use Rattle.decimal.proofs.RowLaws.{word_short}
use Rattle.decimal.proofs.write_row_line.Goals as goal

pub returns : goal.returns
returns c =
    let a = c.args in
    wrote_both (length a.word.now + 32 * length a.ns.now) 1 (word_row a.word.now a.ns.now) (10 ∷ []) a.out.now _ _ _ _
    (word_short a.word.now a.ns.now) (leb-true _ _ (sym c.is_enough.ensures ∙ c.if-not-is_enough.false)) c.word_row-a.ensures c.write_byte-b.ensures
