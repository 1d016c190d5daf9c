use Rattle.std.proofs.Common.{arith, sym, ◌∙◌, ◌∷◌, ◌+◌, ◌*◌, ◌++◌, length}
use borrow.Author.Tests.{leb-true}
use mir.ValLaws.{to_z-of_z}
use Rattle.rules.specs.Limits.{value_width}
use Rattle.decimal.specs.Text.{integer_text, word_row, word_value, ended}
use Rattle.decimal.proofs.TextLaws.{rest_length, wrote_most, wrote_both, wrote_line, wrote_length}
use Rattle.decimal.proofs.RowLaws.{word_short, value_text}
use Rattle.decimal.proofs.write_value_line.Goals as goal

pub end_value-b-requires : goal.end_value-b-requires
end_value-b-requires c =
    let a = c.args in
    let v = c.word_row-a in
    let k = word_short a.word.now a.ns.now in
    omega (arith, leb-true _ _ (sym c.is_enough.ensures ∙ c.if-not-is_enough.false), wrote_length _ _ _ _ _ k v.ensures, wrote_most _ _ _ _ _ k v.ensures, rest_length v.result v.new.out)

pub returns : goal.returns
returns c =
    let a = c.args in
    let k = length a.word.now + 32 * length a.ns.now in
    let e = leb-true _ _ (sym c.is_enough.ensures ∙ c.if-not-is_enough.false) in
    wrote_line (k + 33) (k + 33) (word_row a.word.now a.ns.now ++ ended (32 ∷ integer_text a.x)) (ended (word_value a.word.now a.ns.now a.x)) a.out.now _ _ (omega arith) e (value_text a.word.now a.ns.now a.x)
    (wrote_both k 33 (word_row a.word.now a.ns.now) (ended (32 ∷ integer_text a.x)) a.out.now _ _ _ _ (word_short a.word.now a.ns.now) e c.word_row-a.ensures (rw (to_z-of_z value_width a.x c.ranges.x) at c.end_value-b.ensures))
