-- `judging::taken_again` meets its contract.
use mathlib.Core.Path.{refl}
use borrow.Author.Tests.{lt-ltb, le-ltb}
use Rattle.state.specs.Step.{hold_after}
use Rattle.judging.specs.Computed.Turns.{hold_for}
use Rattle.judging.proofs.taken_again.Goals as goal
use Rattle.judging.proofs.taken_again.Goals.{else-t-lt-THREADS-via-then-t-lt-THREADS+else-a-lt2000, else-t-lt-THREADS-via-else-t-lt-THREADS}

pub returns-then-a-lt2000 : goal.returns-then-a-lt2000
unfolding hold_for hold_after
returns-then-a-lt2000 c = rw (lt-ltb _ _ c.if-t-lt-THREADS.true, lt-ltb _ _ c.if-a-lt2000.true) refl

pub returns : goal.returns
unfolding hold_for hold_after
returns c =
    elim c.else-t-lt-THREADS.branch [
      | else-t-lt-THREADS-via-then-t-lt-THREADS+else-a-lt2000 w ↦ rw (lt-ltb _ _ w.if-t-lt-THREADS.true, le-ltb _ _ w.if-a-lt2000.false) refl
      | else-t-lt-THREADS-via-else-t-lt-THREADS w ↦ rw (le-ltb _ _ w.if-t-lt-THREADS.false) refl
    ]
