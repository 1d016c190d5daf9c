-- `state::slot_place` meets its contract.
use borrow.Author.Tests.{lt-ltb, le-ltb}
use Rattle.state.specs.Computed.Places.{slot_place}
use native.Mathlib.Omega.{arith}
use mathlib.Core.Path.{refl}
use Rattle.state.proofs.slot_place.Goals as goal

pub returns-then-i-lt-CELLS : goal.returns-then-i-lt-CELLS
unfolding slot_place
returns-then-i-lt-CELLS c = (rw (c.from-then-i-lt-CELLS.ensures, c.from.ensures, lt-ltb _ _ c.if-i-lt-CELLS.true) refl, omega arith)

pub returns-else-i-lt-CELLS : goal.returns-else-i-lt-CELLS
unfolding slot_place
returns-else-i-lt-CELLS c = (rw (le-ltb _ _ c.if-i-lt-CELLS.false) refl, omega arith)
