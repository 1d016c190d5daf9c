-- `judging::push` meets its contract.
use borrow.Author.Tests.{lt-ltb, le-ltb}
use mathlib.Core.Path.{refl}
use Rattle.judging.proofs.push.Goals as goal

pub returns-then-q-lt8 : goal.returns-then-q-lt8
returns-then-q-lt8 c = rw (lt-ltb _ _ c.if-q-lt8.true) refl

pub returns-else-q-lt8 : goal.returns-else-q-lt8
returns-else-q-lt8 c = rw (le-ltb _ _ c.if-q-lt8.false) refl
