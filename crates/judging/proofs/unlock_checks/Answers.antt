-- `judging::unlock_checks` meets its contract.
use mathlib.Core.Path.{refl}
use Rattle.state.specs.State.{depth_of}
use Rattle.judging.proofs.Locks.{none_held}
use Rattle.judging.proofs.unlock_checks.Goals as goal

pub returns : goal.returns
returns c = rw (c.depth_of.ensures, none_held (depth_of c.args.a c.args.t)) refl
