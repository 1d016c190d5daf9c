-- `state::cell_place` meets its contract.
use borrow.Author.Tests.{lt-ltb, le-ltb}
use Rattle.state.specs.Computed.Places.{cell_place}
use native.Mathlib.Omega.{arith}
use mathlib.Core.Path.{refl}
use Rattle.state.proofs.cell_place.Goals as goal
use Rattle.state.proofs.cell_place.Goals.{else-t-lt-THREADS-via-then-t-lt-THREADS+else-v-lt-VARIABLES, else-t-lt-THREADS-via-else-t-lt-THREADS}

pub returns-then-v-lt-VARIABLES : goal.returns-then-v-lt-VARIABLES
unfolding cell_place
returns-then-v-lt-VARIABLES c = (rw (lt-ltb _ _ c.if-t-lt-THREADS.true, lt-ltb _ _ c.if-v-lt-VARIABLES.true) refl, omega arith)

pub returns-else-t-lt-THREADS : goal.returns-else-t-lt-THREADS
unfolding cell_place
returns-else-t-lt-THREADS c =
    elim c.else-t-lt-THREADS.branch [
      | else-t-lt-THREADS-via-then-t-lt-THREADS+else-v-lt-VARIABLES w ↦ (rw (lt-ltb _ _ w.if-t-lt-THREADS.true, le-ltb _ _ w.if-v-lt-VARIABLES.false) refl, omega arith)
      | else-t-lt-THREADS-via-else-t-lt-THREADS w ↦ (rw (le-ltb _ _ w.if-t-lt-THREADS.false) refl, omega arith)
    ]
