-- `judging::notified_of` meets its contract.
use mathlib.Core.Path.{refl}
use Rattle.state.specs.State.{notified_of}
use Rattle.judging.proofs.Locks.{not_above}
use Rattle.judging.proofs.notified_of.Goals as goal

pub returns-then-l-w : goal.returns-then-l-w
unfolding notified_of
returns-then-l-w c = refl

pub returns-else-l-w : goal.returns-else-l-w
unfolding notified_of
returns-else-l-w c = rw (not_above c.if-l-w.false) refl
