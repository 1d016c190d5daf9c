-- `judging::is_used` meets its contract.
use mathlib.Core.Path.{refl}
use Rattle.judging.specs.Computed.Turns.{is_used}
use Rattle.judging.proofs.is_used.Goals as goal

pub returns : goal.returns
unfolding is_used
returns c = refl
