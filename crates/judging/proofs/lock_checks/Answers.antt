-- `judging::lock_checks` meets its contract.
use mathlib.Core.Path.{refl}
use Rattle.judging.proofs.lock_checks.Goals as goal

pub returns : goal.returns
returns c = rw c.others_hold.ensures refl
