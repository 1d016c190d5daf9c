-- `judging::has_written` meets its contract.
use Rattle.state.specs.Step.{next_cell}
use mathlib.Core.Path.{refl}
use Rattle.judging.proofs.has_written.Goals as goal

pub returns : goal.returns
unfolding next_cell
returns c = rw c.pop-d.ensures refl
