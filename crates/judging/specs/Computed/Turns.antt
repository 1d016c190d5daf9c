-- What a turn answers: the first broken check of the letter's row, and the parts as the event leaves them. A letter that is none of a
-- turn's breaks nothing there and leaves everything.
use Rattle.std.specs.Prelude.{ℕ, Option, Bool, cond, ◌&&◌, not, List, [], ◌∷◌, eqb, ltb, ℤ, pos, get_or}
use Rattle.std.specs.Option.{option_or}
use Rattle.rules.specs.declared.Slot.{Slot}
use Rattle.rules.specs.Events.{A, B, C, F, K, L, N, P, R, S, U, W, Y, among}
use Rattle.rules.specs.Rules.{some}
use Rattle.state.specs.declared.Cell.{Cell}
use Rattle.state.specs.declared.Hold.{Hold}
use Rattle.state.specs.declared.Waiting.{Waiting}
use Rattle.rules.specs.declared.Main.{Main}
use Rattle.state.specs.declared.State.{State}
use Rattle.state.specs.State.{no_slot, no_hold, no_main, no_wait, blank, cell_at}
use Rattle.state.specs.Step.{next_cell, read_after, store_after, hold_after, wait_after, main_after}
use Rattle.state.specs.Computed.Places.{cell_place, slot_place}
use Rattle.judging.specs.declared.OnSome.{OnSome}
use Rattle.judging.specs.declared.CellTurn.{CellTurn}
use Rattle.judging.specs.declared.ReadsTurn.{ReadsTurn}
use Rattle.judging.specs.declared.StoresTurn.{StoresTurn}
use Rattle.judging.specs.declared.LockTurn.{LockTurn}
use Rattle.judging.specs.declared.WaitTurn.{WaitTurn}
use Rattle.judging.specs.declared.Parts.{Parts}
use Rattle.judging.specs.declared.Turn.{Turn}
use Rattle.judging.specs.Computed.Checks.{oldest_of, no_checks, use_checks, assign_checks, load_checks, store_checks, read_checks, write_checks, lock_checks, unlock_checks, notify_checks, prescient_store_checks, prescient_assign_checks, row_of, first_of}

-- a cell after an event with one of these letters; as it was after another
abbrev pub cell_on : List ℕ → ℕ → Slot → ℕ → ℤ → Cell → Cell
cell_on ks p r k x c = cond (among ks k) (next_cell p r k x c) c

-- a lock, within the range of threads and depths
unfoldable pub hold_for : Hold → Waiting → ℕ → ℕ → Hold
hold_for a w t k = cond (ltb t 8 && ltb a.depth 2000) (hold_after a w t k) a

-- the waiting of an event's subject, within the range of locks
unfoldable pub wait_for : Waiting → Hold → ℕ → ℕ → ℕ → Waiting
wait_for w a l t k = cond (ltb l 8) (wait_after w a l t k) w

-- a cell after U, wherever it stands and whatever its value
unfoldable pub after_use : Cell → Cell
after_use c = next_cell 0 no_slot U (pos 0) c

-- U leaves it as it is: the latest of its thread's own events is neither L nor A, and the read of its latest load is that of its latest use
unfoldable pub is_used : Cell → Bool
is_used c = not c.after_load && not c.after_assign && eqb c.used c.loaded

-- U; q is the position of the thread's last lock
unfoldable pub use_rule : Cell → ℕ → ℤ → Option ℕ
use_rule c q x = first_of (use_checks c q x) (row_of U)

-- U, A, B; p is the position of the event
unfoldable pub cell_turn : Cell → ℕ → ℕ → ℤ → ℕ → CellTurn
cell_turn c q k x p = record {
  rule = first_of (cond (eqb U k) (use_checks c q x) (cond (eqb A k) (assign_checks c) (cond (eqb B k) (prescient_assign_checks c x) no_checks))) (row_of k);
  cell = cell_on (U ∷ A ∷ B ∷ []) p no_slot k x c;
}

-- R, L; r is the oldest outstanding read, b stands behind the last
unfoldable pub reads_with : Cell → Slot → Slot → Main → ℕ → ℤ → ℕ → ReadsTurn
reads_with c r b m k x p = record {
  rule = first_of (cond (eqb L k) (load_checks c r x) (cond (eqb R k) (read_checks c m x) no_checks)) (row_of k);
  cell = cell_on (L ∷ R ∷ []) p r k x c;
  slot = read_after b k x p;
}

-- the same, where f stands at the first place of the queue
unfoldable pub reads_turn : Cell → Slot → Slot → Main → ℕ → ℤ → ℕ → ReadsTurn
reads_turn c f b m k x p = reads_with c (oldest_of c.reads f) b m k x p

-- S, P, W; r is the oldest outstanding store, b stands behind the last
unfoldable pub stores_with : Cell → Slot → Slot → Main → ℕ → ℕ → ℤ → ℕ → StoresTurn
stores_with c r b m q k x p = record {
  rule = first_of (cond (eqb W k) (write_checks c r x) (cond (eqb S k) (store_checks c q x) (cond (eqb P k) (prescient_store_checks c) no_checks))) (row_of k);
  cell = cell_on (W ∷ S ∷ P ∷ []) p no_slot k x c;
  slot = store_after b k x c.assigned p;
  main = main_after m k x;
}

unfoldable pub stores_turn : Cell → Slot → Slot → Main → ℕ → ℕ → ℤ → ℕ → StoresTurn
stores_turn c f b m q k x p = stores_with c (oldest_of c.stores f) b m q k x p

-- K, N, of n threads; w is what some variable of the thread has
unfoldable pub lock_turn : Hold → ℕ → ℕ → OnSome → ℕ → ℕ → ℕ → LockTurn
lock_turn a q n w t k p = record {
  rule = first_of (cond (eqb K k) (lock_checks a n w t) (cond (eqb N k) (unlock_checks a w t) no_checks)) (row_of k);
  hold = cond (among (K ∷ N ∷ []) k) (hold_for a no_wait t k) a;
  locked = cond (eqb K k) p q;
}

-- Y, F, C on lock l; z is the waiting of the event's subject
unfoldable pub wait_turn : Hold → Waiting → ℕ → ℕ → OnSome → ℕ → ℕ → ℕ → ℕ → WaitTurn
wait_turn a z q n w t l k p = record {
  rule = first_of (cond (eqb C k) (lock_checks a n w t) (cond (eqb Y k) (unlock_checks a w t) (cond (eqb F k) (notify_checks a t) no_checks))) (row_of k);
  hold = cond (among (Y ∷ C ∷ []) k) (hold_for a z t k) a;
  wait = wait_for z a l t k;
  locked = cond (eqb C k) p q;
}

-- the parts of a state that an event of thread t on variable v or lock l, with subject u, looks at
abbrev pub parts_at : State → ℕ → ℕ → ℕ → ℕ → Parts
parts_at s t v l u =
    let i = cell_place t v in
    let c = get_or s.cells i blank in
    record {
      cell = c;
      reads = record { front = get_or s.reads (slot_place i c.reads 0) no_slot; behind = get_or s.reads (slot_place i c.reads c.reads.len) no_slot };
      stores = record { front = get_or s.stores (slot_place i c.stores 0) no_slot; behind = get_or s.stores (slot_place i c.stores c.stores.len) no_slot };
      main = get_or s.memory v no_main;
      hold = get_or s.holds l no_hold;
      wait = get_or s.waits u no_wait;
      locked = get_or s.locked t 0;
    }

-- all turns one after the other, of which one is the letter's
unfoldable pub turn_of : Parts → ℕ → OnSome → ℕ → ℕ → ℕ → ℤ → ℕ → Turn
turn_of a n w t l k x p =
    let lock = lock_turn a.hold a.locked n w t k p in
    let wait = wait_turn lock.hold a.wait lock.locked n w t l k p in
    let alone = cell_turn a.cell a.locked k x p in
    let read = reads_turn alone.cell a.reads.front a.reads.behind a.main k x p in
    let store = stores_turn read.cell a.stores.front a.stores.behind a.main a.locked k x p in
    record {
      rule = option_or (option_or (option_or (option_or lock.rule wait.rule) alone.rule) read.rule) store.rule;
      cell = store.cell;
      read = read.slot;
      store = store.slot;
      main = store.main;
      hold = wait.hold;
      wait = wait.wait;
      locked = wait.locked;
    }

-- a store that N and Y count is outstanding: with an assign owed the latest is left aside
abbrev pub awaits_write : Cell → Bool
awaits_write c = ltb (cond c.pending 1 0) c.stores.len

-- of the first n variables of thread t: whether one has a pending prescient store, a fresh assign, an outstanding store that N and Y count
unfoldable pub some_of : State → ℕ → ℕ → OnSome
some_of s t n = record {
  pending = some n (λ v. (cell_at s t v).pending);
  fresh = some n (λ v. (cell_at s t v).fresh);
  stored = some n (λ v. awaits_write (cell_at s t v));
}
