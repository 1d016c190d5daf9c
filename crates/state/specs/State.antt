-- What a state's fields say of the words.
use Rattle.std.specs.Prelude.{ℕ, zero, suc, ◌+◌, ◌*◌, ◌%◌, Bool, false, cond, ◌&&◌, List, [], ◌∷◌, ltb, eqb, pos, get_or, replicate}
use Rattle.state.specs.declared.Ring.{Ring}
use Rattle.state.specs.declared.Cell.{Cell}
use Rattle.state.specs.declared.Hold.{Hold}
use Rattle.state.specs.declared.Waiting.{Waiting}
use Rattle.rules.specs.declared.Main.{Main}
use Rattle.state.specs.declared.State.{State}
use Rattle.rules.specs.declared.Slot.{Slot}
use Rattle.rules.specs.declared.Counts.{Counts}
use Rattle.rules.specs.Limits.{full, most, cell_number, cell_count}
use Rattle.rules.specs.Rules.{Words}

abbrev pub no_slot : Slot
no_slot = record { value = pos 0; position = 0 }

abbrev pub no_main : Main
no_main = record { value = pos 0 }

abbrev pub no_hold : Hold
no_hold = record { holder = 0; depth = 0 }

-- a thread that does not wait
abbrev pub no_wait : Waiting
no_wait = record { lock = 0; depth = 0; notified = false }

abbrev pub no_ring : Ring
no_ring = record { first = 0; len = 0 }

abbrev pub blank : Cell
blank = record {
  copy = pos 0;
  announced = pos 0;
  source = 0;
  written = 0;
  loaded = 0;
  used = 0;
  assigned = 0;
  reads = no_ring;
  stores = no_ring;
  fresh = false;
  pending = false;
  after_load = false;
  after_assign = false;
}

-- the place of slot f of the eight of cell i, round and round
abbrev pub slot_number : ℕ → ℕ → ℕ
slot_number i f = most * i + f % most

-- the n slots of cell i from the f-th on
unfoldable pub around : List Slot → ℕ → ℕ → ℕ → List Slot
around ss i f zero = []
around ss i f (suc n) = get_or ss (slot_number i f) no_slot ∷ around ss i (suc f) n

-- the queue of cell i, the oldest first
unfoldable pub queued : List Slot → ℕ → Ring → List Slot
queued ss i q = around ss i q.first q.len

-- the cell of thread t and variable v; a blank one for those that no state holds
unfoldable pub cell_at : State → ℕ → ℕ → Cell
cell_at s t v = cond (ltb t full.threads && ltb v full.variables) (get_or s.cells (cell_number t v) blank) blank

-- its outstanding reads and stores, the oldest first
unfoldable pub reads_at : State → ℕ → ℕ → List Slot
reads_at s t v = queued s.reads (cell_number t v) (cell_at s t v).reads

unfoldable pub stores_at : State → ℕ → ℕ → List Slot
stores_at s t v = queued s.stores (cell_number t v) (cell_at s t v).stores

-- how many times t holds a lock: its depth, where t is the holder
unfoldable pub depth_of : Hold → ℕ → ℕ
depth_of a t = cond (ltb t full.threads && eqb a.holder (t + 1)) a.depth 0

-- the number that a thread remembers of lock l: that of its waiting, where it waits on l
unfoldable pub remembered_of : Waiting → ℕ → ℕ
remembered_of w l = cond (eqb w.lock (l + 1)) w.depth 0

-- whether it is notified on l
unfoldable pub notified_of : Waiting → ℕ → Bool
notified_of w l = eqb w.lock (l + 1) && w.notified

-- the words that a state's contents give
unfoldable pub words_in : State → Words
words_in s = record {
  events = s.events;
  copy = λ t v. (cell_at s t v).copy;
  fresh = λ t v. (cell_at s t v).fresh;
  pending = λ t v. (cell_at s t v).pending;
  announced = λ t v. (cell_at s t v).announced;
  usable = λ t v. ltb (get_or s.locked t 0) (cell_at s t v).source;
  reads = λ t v. reads_at s t v;
  stores = λ t v. stores_at s t v;
  last_write = λ t v. (cell_at s t v).written;
  last_lock = λ t. get_or s.locked t 0;
  depth = λ t l. depth_of (get_or s.holds l no_hold) t;
  remembered = λ t l. remembered_of (get_or s.waits t no_wait) l;
  notified = λ t l. notified_of (get_or s.waits t no_wait) l;
  main = λ v. (get_or s.memory v no_main).value;
  after_load = λ t v. (cell_at s t v).after_load;
  after_assign = λ t v. (cell_at s t v).after_assign;
  loaded_read = λ t v. (cell_at s t v).loaded;
  used_read = λ t v. (cell_at s t v).used;
  last_assign = λ t v. (cell_at s t v).assigned;
}

-- the state before the first event of a trace with this head
unfoldable pub start : Counts → State
start h = record {
  counts = h;
  events = 0;
  cells = replicate cell_count blank;
  reads = replicate (most * cell_count) no_slot;
  stores = replicate (most * cell_count) no_slot;
  locked = replicate full.threads 0;
  holds = replicate full.locks no_hold;
  memory = replicate full.variables no_main;
  waits = replicate full.threads no_wait;
}
