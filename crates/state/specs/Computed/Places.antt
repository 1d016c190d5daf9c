-- The arrays of a state: their lengths, and the places in them as the functions give them.
use Rattle.std.specs.Prelude.{ℕ, ◌+◌, ◌*◌, cond, ◌&&◌, ◌≡◌, ltb, length}
use Rattle.state.specs.declared.Ring.{Ring}
use Rattle.state.specs.declared.State.{State}
use Rattle.state.specs.State.{slot_number}
use Rattle.rules.specs.Limits.{full, most, cell_number, cell_count}

-- the cell of thread t and variable v; 0 where there is none
unfoldable pub cell_place : ℕ → ℕ → ℕ
cell_place t v = cond (ltb t full.threads && ltb v full.variables) (cell_number t v) 0

-- the j-th of a queue of cell i, from 0; 0 where there is no such cell
unfoldable pub slot_place : ℕ → Ring → ℕ → ℕ
slot_place i q j = cond (ltb i cell_count) (slot_number i (q.first + j)) 0

-- the lengths that the arrays of a state have by their types
pub record Shape (s : State) : Type 0 where
  pub cells : length s.cells ≡ cell_count
  pub reads : length s.reads ≡ most * cell_count
  pub stores : length s.stores ≡ most * cell_count
  pub locked : length s.locked ≡ full.threads
  pub holds : length s.holds ≡ full.locks
  pub memory : length s.memory ≡ full.variables
  pub waits : length s.waits ≡ full.threads
