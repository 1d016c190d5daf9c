-- `judging::is_access` meets its contract.
use mathlib.Core.Path.{refl}
use Rattle.judging.specs.Computed.Leads.{is_access}
use Rattle.judging.proofs.is_access.Goals as goal

pub returns : goal.returns
unfolding is_access
returns c = refl
