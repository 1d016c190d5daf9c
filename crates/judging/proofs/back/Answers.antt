-- `judging::back` meets its contract.
use mathlib.Core.Path.{refl}
use borrow.Author.Tests.{lt-ltb, le-ltb}
use Rattle.state.specs.Step.{wait_after}
use Rattle.judging.specs.Computed.Turns.{wait_for}
use Rattle.judging.proofs.back.Goals as goal

pub returns-then-l-lt-LOCKS : goal.returns-then-l-lt-LOCKS
unfolding wait_for wait_after
returns-then-l-lt-LOCKS c = rw (lt-ltb _ _ c.if-l-lt-LOCKS.true) refl

pub returns : goal.returns
unfolding wait_for wait_after
returns c = rw (le-ltb _ _ c.if-l-lt-LOCKS.false) refl
