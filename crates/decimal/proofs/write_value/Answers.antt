use mir.ValLaws.{to_z-of_z}
use Rattle.rules.specs.Limits.{value_width}
use Rattle.decimal.specs.Text.{integer_text}
use Rattle.decimal.proofs.TextLaws.{sign}
use Rattle.decimal.proofs.write_value.Goals as goal

pub returns : goal.returns
unfolding integer_text
returns c =
    let x = c.args.x in
    let e = to_z-of_z value_width x c.ranges.x in
    let s = c.unsigned_abs.ensures.value in
    rw (s, e, sign x) at c.write_signed.ensures
