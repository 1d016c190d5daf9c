-- `judging::used` meets its contract.
use mathlib.Core.Path.{refl}
use Rattle.state.specs.Step.{next_cell}
use Rattle.judging.specs.Computed.Turns.{after_use}
use Rattle.judging.proofs.used.Goals as goal

pub returns : goal.returns
unfolding after_use next_cell
returns c = refl
