-- `judging::stored` meets its contract.
use Rattle.state.specs.Step.{next_cell}
use mathlib.Core.Path.{refl}
use Rattle.judging.proofs.stored.Goals as goal

pub returns : goal.returns
unfolding next_cell
returns c = rw c.push-d.ensures refl
