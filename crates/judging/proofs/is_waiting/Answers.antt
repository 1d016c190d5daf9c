-- `judging::is_waiting` meets its contract.
use mathlib.Core.Path.{refl}
use Rattle.judging.specs.Computed.Leads.{is_waiting}
use Rattle.judging.proofs.is_waiting.Goals as goal

pub returns : goal.returns
unfolding is_waiting
returns c = refl
