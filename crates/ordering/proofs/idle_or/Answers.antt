-- `ordering::idle_or` meets its contract. Assumes nothing.
use borrow.Author.Tests.{eq-eqb, ne_eqb}
use Rattle.ordering.specs.Computed.Parts.{idle_or}
use Rattle.ordering.proofs.idle_or.Goals as goal

pub returns-then-depth-eq0 : goal.returns-then-depth-eq0
unfolding idle_or
returns-then-depth-eq0 c = rw (eq-eqb _ _ c.if-depth-eq0.true)

pub returns-else-depth-eq0 : goal.returns-else-depth-eq0
unfolding idle_or
returns-else-depth-eq0 c = rw (ne_eqb _ _ c.if-depth-eq0.false)
