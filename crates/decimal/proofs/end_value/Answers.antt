use Rattle.std.proofs.Common.{arith, [], ◌∷◌}
use mir.ValLaws.{to_z-of_z}
use Rattle.rules.specs.Limits.{value_width}
use Rattle.decimal.specs.Text.{integer_text}
use Rattle.decimal.proofs.TextLaws.{value_short, wrote_both}
use Rattle.decimal.proofs.end_value.Goals as goal

pub returns : goal.returns
returns c =
    let a = c.args in
    wrote_both 32 1 (32 ∷ integer_text a.x) (10 ∷ []) a.out.now _ _ _ _ (omega (arith, value_short a.x)) (omega arith)
    (rw (to_z-of_z value_width a.x c.ranges.x) at c.write_value-a.ensures) c.write_byte-b.ensures
