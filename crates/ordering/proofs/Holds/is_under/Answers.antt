-- `ordering::Holds::is_under` meets its contract. Assumes nothing.
use borrow.Author.Tests.{lt-ltb, le-ltb}
use mathlib.Core.Path.{refl}
use Rattle.ordering.specs.Computed.Parts.{under_in}
use Rattle.ordering.proofs.Holds.is_under.Goals as goal

pub returns-then-g-lt-VARIABLES : goal.returns-then-g-lt-VARIABLES
unfolding under_in
returns-then-g-lt-VARIABLES c = rw (lt-ltb _ _ c.if-g-lt-VARIABLES.true) refl

pub returns-else-g-lt-VARIABLES : goal.returns-else-g-lt-VARIABLES
unfolding under_in
returns-else-g-lt-VARIABLES c = rw (le-ltb _ _ c.if-g-lt-VARIABLES.false) refl
