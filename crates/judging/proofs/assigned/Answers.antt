-- `judging::assigned` meets its contract.
use mir.ValLaws.{to_z-of_z}
use Rattle.rules.specs.Limits.{value_width}
use Rattle.state.specs.Step.{next_cell}
use mathlib.Core.Path.{refl}
use Rattle.judging.proofs.assigned.Goals as goal

pub returns : goal.returns
unfolding next_cell
returns c = rw (to_z-of_z value_width c.args.x c.ranges.x) refl
