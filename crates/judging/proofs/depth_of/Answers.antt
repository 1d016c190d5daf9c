-- `judging::depth_of` meets its contract.
use borrow.Author.Tests.{lt-ltb, le-ltb, eq-eqb, ne_eqb}
use Rattle.state.specs.State.{depth_of}
use mathlib.Core.Path.{refl}
use Rattle.judging.proofs.depth_of.Goals as goal
use Rattle.judging.proofs.depth_of.Goals.{else-t-lt-THREADS-via-then-t-lt-THREADS+else-a-t, else-t-lt-THREADS-via-else-t-lt-THREADS}

pub returns-then-a-t : goal.returns-then-a-t
unfolding depth_of
returns-then-a-t c = rw (lt-ltb _ _ c.if-t-lt-THREADS.true, eq-eqb _ _ c.if-a-t.true) refl

pub returns-else-t-lt-THREADS : goal.returns-else-t-lt-THREADS
unfolding depth_of
returns-else-t-lt-THREADS c =
    elim c.else-t-lt-THREADS.branch [
      | else-t-lt-THREADS-via-then-t-lt-THREADS+else-a-t w ↦ rw (lt-ltb _ _ w.if-t-lt-THREADS.true, ne_eqb _ _ w.if-a-t.false) refl
      | else-t-lt-THREADS-via-else-t-lt-THREADS w ↦ rw (le-ltb _ _ w.if-t-lt-THREADS.false) refl
    ]
