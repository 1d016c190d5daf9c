-- `judging::oldest` meets its contract.
use borrow.Author.Tests.{eq-eqb, ne_eqb}
use Rattle.judging.specs.Computed.Checks.{oldest_of}
use mathlib.Core.Path.{refl}
use Rattle.judging.proofs.oldest.Goals as goal

pub returns-then-q-eq0 : goal.returns-then-q-eq0
unfolding oldest_of
returns-then-q-eq0 c = rw (eq-eqb _ _ c.if-q-eq0.true) refl

pub returns-else-q-eq0 : goal.returns-else-q-eq0
unfolding oldest_of
returns-else-q-eq0 c = rw (ne_eqb _ _ c.if-q-eq0.false) refl
