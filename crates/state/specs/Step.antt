-- The state after an accepted event, part by part. `proofs/StepWords.antt` proves that its words are those after the event.
use Rattle.std.specs.Prelude.{ℕ, max, ◌+◌, ◌-◌, ◌%◌, ◌<◌, true, false, cond, List, [], ◌∷◌, ltb, leb, ℤ, get_or, set}
use Rattle.state.specs.declared.Ring.{Ring}
use Rattle.state.specs.declared.Cell.{Cell}
use Rattle.state.specs.declared.Hold.{Hold}
use Rattle.state.specs.declared.Waiting.{Waiting}
use Rattle.rules.specs.declared.Main.{Main}
use Rattle.state.specs.declared.State.{State}
use Rattle.state.specs.State.{no_slot, no_hold, no_main, no_wait, slot_number, cell_at, reads_at, depth_of, start}
use Rattle.rules.specs.declared.Event.{Event}
use Rattle.rules.specs.declared.Slot.{Slot}
use Rattle.rules.specs.declared.Counts.{Counts}
use Rattle.rules.specs.declared.Kind.{Kind}
use Rattle.rules.specs.Events.{A, B, C, F, K, L, N, P, R, S, U, W, Y, letter, place, value, among, lock_letters, subject_of, subject}
use Rattle.rules.specs.Limits.{full, most, cell_number}
use Rattle.rules.specs.Words.{first, accesses}

-- one more at the end of a queue; a full one has no place for it
abbrev pub pushed : Ring → Ring
pushed q = cond (ltb q.len most) (record { first = q.first; len = q.len + 1 }) q

-- the oldest taken off
abbrev pub popped : Ring → Ring
popped q = record { first = (q.first + 1) % most; len = q.len - 1 }

-- the cell after an event on it with letter k and value x, at position p; r is its oldest outstanding read
unfoldable pub next_cell : ℕ → Slot → ℕ → ℤ → Cell → Cell
next_cell p r k x c = record {
  copy = cond (among (A ∷ B ∷ L ∷ []) k) x c.copy;
  announced = cond (among (P ∷ []) k) x c.announced;
  source = cond (among (A ∷ B ∷ []) k) p (cond (among (L ∷ []) k) (max c.source r.position) c.source);
  written = cond (among (W ∷ []) k) p c.written;
  loaded = cond (among (L ∷ []) k) r.position c.loaded;
  used = cond (among (U ∷ []) k) c.loaded c.used;
  assigned = cond (among (A ∷ []) k) p c.assigned;
  reads = cond (among (R ∷ []) k) (pushed c.reads) (cond (among (L ∷ []) k) (popped c.reads) c.reads);
  stores = cond (among (S ∷ P ∷ []) k) (pushed c.stores) (cond (among (W ∷ []) k) (popped c.stores) c.stores);
  fresh = cond (among (A ∷ B ∷ S ∷ []) k) (among (A ∷ []) k) c.fresh;
  pending = cond (among (P ∷ B ∷ []) k) (among (P ∷ []) k) c.pending;
  after_load = cond (among accesses k) (among (L ∷ []) k) c.after_load;
  after_assign = cond (among accesses k) (among (A ∷ []) k) c.after_assign;
}

-- the place behind the last outstanding read
unfoldable pub read_after : Slot → ℕ → ℤ → ℕ → Slot
read_after r k x p = cond (among (R ∷ []) k) (record { value = x; position = p }) r

-- the place behind the last outstanding store; a store has the position a of its assign, an early store its own
unfoldable pub store_after : Slot → ℕ → ℤ → ℕ → ℕ → Slot
store_after r k x a p = cond (among (S ∷ P ∷ []) k) (record { value = x; position = cond (among (S ∷ []) k) a p }) r

-- a lock after an event on it by t, whose subject waits as w says; the last unlock leaves it without a holder. "Y .. gives up every hold on the lock", "C ..
-- takes all the holds again".
unfoldable pub hold_after : Hold → Waiting → ℕ → ℕ → Hold
hold_after a w t k =
    cond (among (K ∷ []) k) (record { holder = t + 1; depth = depth_of a t + 1 })
    (cond (among (N ∷ []) k) (cond (leb (depth_of a t) 1) no_hold (record { holder = a.holder; depth = depth_of a t - 1 }))
    (cond (among (Y ∷ []) k) no_hold
    (cond (among (C ∷ []) k) (record { holder = t + 1; depth = w.depth }) a)))

-- the waiting of an event's subject: a Y by t on lock l remembers the number of its holds, an F notifies, a C ends it
unfoldable pub wait_after : Waiting → Hold → ℕ → ℕ → ℕ → Waiting
wait_after w a l t k =
    cond (among (Y ∷ []) k) (record { lock = l + 1; depth = depth_of a t; notified = false })
    (cond (among (F ∷ []) k) (record { lock = w.lock; depth = w.depth; notified = true })
    (cond (among (C ∷ []) k) no_wait w))

-- a variable of main memory
unfoldable pub main_after : Main → ℕ → ℤ → Main
main_after m k x = cond (among (W ∷ []) k) (record { value = x }) m

-- the position of the thread's last lock
unfoldable pub locked_after : ℕ → ℕ → ℕ → ℕ
locked_after q k p = cond (among (K ∷ C ∷ []) k) p q

-- the variable of an event, and its lock; 0 where it has none
unfoldable pub var_of : Kind → ℕ
var_of k = cond (among lock_letters (letter k)) 0 (place k)

unfoldable pub lock_of : Kind → ℕ
lock_of k = cond (among lock_letters (letter k)) (place k) 0

-- the thread, subject, variable and lock of an event have their places in the arrays
pub record Within (t : ℕ) (k : Kind) : Type 0 where
  pub thread : t < full.threads
  pub subject : subject_of (letter k) t (value k) < full.threads
  pub variable : var_of k < full.variables
  pub lock : lock_of k < full.locks

-- the place behind the last of the queue of cell i
abbrev pub behind : ℕ → Ring → ℕ
behind i q = slot_number i (q.first + q.len)

-- the parts that an event is on, put back as it leaves them
unfoldable pub step_state : State → Event → State
step_state s e =
    let t = e.thread in
    let k = letter e.kind in
    let x = value e.kind in
    let v = var_of e.kind in
    let l = lock_of e.kind in
    let u = subject e in
    let a = get_or s.holds l no_hold in
    let w = get_or s.waits u no_wait in
    let p = s.events + 1 in
    let i = cell_number t v in
    let c = cell_at s t v in
    let rb = behind i c.reads in
    let sb = behind i c.stores in
    record {
      counts = s.counts;
      events = p;
      cells = set s.cells i (next_cell p (first (reads_at s t v)) k x c);
      reads = set s.reads rb (read_after (get_or s.reads rb no_slot) k x p);
      stores = set s.stores sb (store_after (get_or s.stores sb no_slot) k x c.assigned p);
      locked = set s.locked t (locked_after (get_or s.locked t 0) k p);
      holds = set s.holds l (hold_after a w t k);
      memory = set s.memory v (main_after (get_or s.memory v no_main) k x);
      waits = set s.waits u (wait_after w a l t k);
    }

-- the state after these events, the latest first
unfoldable pub state_after : Counts → List Event → State
state_after h [] = start h
state_after h (e ∷ es) = step_state (state_after h es) e
