-- `judging::use_rule` meets its contract.
use mathlib.Core.Path.{refl}
use mir.ValLaws.{to_z-of_z}
use Rattle.rules.specs.Limits.{value_width}
use Rattle.rules.specs.Rules.{row_in}
use Rattle.judging.specs.Computed.Checks.{row_of, table}
use Rattle.judging.specs.Computed.Turns.{use_rule}
use Rattle.judging.proofs.use_rule.Goals as goal

pub returns : goal.returns
unfolding use_rule row_of table row_in
returns c = rw (c.first_of.ensures, c.row_at.ensures, c.use_checks.ensures, to_z-of_z value_width c.args.x c.ranges.x) refl
