-- `judging::others_hold` meets its contract.
use borrow.Author.Tests.{lt-ltb, le-ltb}
use Rattle.judging.specs.Computed.Checks.{others_hold}
use mathlib.Core.Path.{refl}
use Rattle.judging.proofs.others_hold.Goals as goal

pub returns-then-t-lt-THREADS : goal.returns-then-t-lt-THREADS
unfolding others_hold
returns-then-t-lt-THREADS c = rw (lt-ltb _ _ c.if-t-lt-THREADS.true) refl

pub returns-else-t-lt-THREADS : goal.returns-else-t-lt-THREADS
unfolding others_hold
returns-else-t-lt-THREADS c = rw (le-ltb _ _ c.if-t-lt-THREADS.false) refl
