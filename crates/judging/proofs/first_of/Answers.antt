-- `judging::first_of` meets its contract.
use mathlib.Core.Path.{refl}
use Rattle.judging.proofs.first_of.Goals as goal

pub returns-then-b : goal.returns-then-b
returns-then-b c = rw c.if-b.true refl

pub returns-then-b-2 : goal.returns-then-b-2
returns-then-b-2 c = rw (c.if-b.false, c.if-b-2.true) refl

pub returns-then-b-3 : goal.returns-then-b-3
returns-then-b-3 c = rw (c.if-b.false, c.if-b-2.false, c.if-b-3.true) refl

pub returns-then-b-4 : goal.returns-then-b-4
returns-then-b-4 c = rw (c.if-b.false, c.if-b-2.false, c.if-b-3.false, c.if-b-4.true) refl

pub returns-then-b-5 : goal.returns-then-b-5
returns-then-b-5 c = rw (c.if-b.false, c.if-b-2.false, c.if-b-3.false, c.if-b-4.false, c.if-b-5.true) refl

pub returns-else-b-5 : goal.returns-else-b-5
returns-else-b-5 c = rw (c.if-b.false, c.if-b-2.false, c.if-b-3.false, c.if-b-4.false, c.if-b-5.false) refl
