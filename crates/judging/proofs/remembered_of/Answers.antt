-- `judging::remembered_of` meets its contract.
use mathlib.Core.Path.{refl}
use borrow.Author.Tests.{eq-eqb, ne_eqb}
use Rattle.state.specs.State.{remembered_of}
use Rattle.judging.proofs.Locks.{not_above}
use Rattle.judging.proofs.remembered_of.Goals as goal
use Rattle.judging.proofs.remembered_of.Goals.{else-l-w-via-then-l-w+else-w-l, else-l-w-via-else-l-w}

pub returns-then-w-l : goal.returns-then-w-l
unfolding remembered_of
returns-then-w-l c = rw (eq-eqb _ _ c.if-w-l.true) refl

pub returns-else-l-w : goal.returns-else-l-w
unfolding remembered_of
returns-else-l-w c =
    elim c.else-l-w.branch [
      | else-l-w-via-then-l-w+else-w-l w ↦ rw (ne_eqb _ _ w.if-w-l.false) refl
      | else-l-w-via-else-l-w w ↦ rw (not_above w.if-l-w.false) refl
    ]
