-- `judging::assign_checks` meets its contract.
use mathlib.Core.Path.{refl}
use Rattle.judging.proofs.assign_checks.Goals as goal

pub returns : goal.returns
returns c = refl
