-- All turns one after the other judge an event by its row and leave the state after it.
use Prim.Native.Nat.{ℕ, ◌+◌, ◌*◌, ◌≤◌, ◌<◌}
use native.Mathlib.Omega.{arith}
use mathlib.Core.Path.{◌≡◌, refl, sym, ◌∙◌}
use lib.ListN.{get_or, set}
use Rattle.std.specs.Option.{option_or}
use Rattle.rules.specs.declared.Event.{Event}
use Rattle.rules.specs.declared.Kind.{Kind}
use Rattle.rules.specs.declared.Kind.TheVariants as kind
use Rattle.rules.specs.Events.{letter, place, value, subject}
use Rattle.rules.specs.Words.{first}
use Rattle.rules.specs.Rules.{judge}
use Rattle.state.specs.declared.Cell.{Cell}
use Rattle.state.specs.declared.State.{State}
use Rattle.state.specs.State.{no_slot, no_hold, no_main, no_wait, blank, queued, cell_at, reads_at, words_in}
use Rattle.state.specs.Step.{next_cell, read_after, store_after, hold_after, wait_after, main_after, locked_after, var_of, lock_of, Within, behind, step_state}
use Rattle.state.specs.Computed.Places.{cell_place, slot_place}
use Rattle.state.proofs.LeafLaws.{place_is, slot_is, cell_read}
use Rattle.judging.specs.declared.Turn.{Turn}
use Rattle.judging.specs.Computed.Checks.{oldest_of}
use Rattle.judging.specs.Computed.Turns.{cell_turn, reads_with, reads_turn, stores_with, stores_turn, lock_turn, wait_turn, parts_at, turn_of, some_of}
use Rattle.judging.specs.Computed.Leads.{lead_at, ahead_at}
use Rattle.judging.proofs.Rows.{found, or_none, trailing, judge_found}
use Rattle.judging.proofs.Leads.{lead_is}
use Rattle.judging.proofs.Waits.{ahead_is}
use Rattle.judging.proofs.Turned.{By, cell_rule, reads_rule, stores_rule, lock_rule, wait_rule, oldest_is, hold_same, wait_same}

-- an event's cell, and its turn
abbrev pub at : State → Event → ℕ
at s e = cell_place e.thread (var_of e.kind)

abbrev pub cell_found : State → Event → Cell
cell_found s e = get_or s.cells (at s e) blank

abbrev pub turn_in : State → Event → Turn
turn_in s e = turn_of (parts_at s e.thread (var_of e.kind) (lock_of e.kind) (subject e)) s.counts.threads (some_of s e.thread s.counts.variables) e.thread (lock_of e.kind) (letter e.kind) (value e.kind) (s.events + 1)

module _ (s : State) (t line : ℕ) where
  abbrev of : Kind → Event
  of k = record { thread = t; line = line; kind = k }

  abbrev by : (k : Kind) → By (of k) t (place k) (letter k) (value k)
  by k = record { thread = refl; place = refl; letter = refl; value = refl }

  judged : (k : Kind) → Within t k → s.counts.threads ≤ 8 → (turn_in s (of k)).rule ≡ found (trailing s.counts (words_in s) (of k))
  unfolding turn_of cell_turn reads_turn reads_with stores_turn stores_with lock_turn wait_turn var_of lock_of
  judged (kind.Use v x) w h = or_none _ ∙ or_none _ ∙ cell_rule s (of (kind.Use v x)) (by (kind.Use v x)) w tt refl refl
  judged (kind.Assign v x) w h = or_none _ ∙ or_none _ ∙ cell_rule s (of (kind.Assign v x)) (by (kind.Assign v x)) w tt refl refl
  judged (kind.Load v x) w h = or_none _ ∙ reads_rule s (of (kind.Load v x)) (by (kind.Load v x)) w tt refl refl refl refl
  judged (kind.Store v x) w h = stores_rule s (of (kind.Store v x)) (by (kind.Store v x)) w tt refl refl refl refl
  judged (kind.Read v x) w h = or_none _ ∙ reads_rule s (of (kind.Read v x)) (by (kind.Read v x)) w tt refl refl refl refl
  judged (kind.Write v x) w h = stores_rule s (of (kind.Write v x)) (by (kind.Write v x)) w tt refl refl refl refl
  judged (kind.Lock l) w h = or_none _ ∙ or_none _ ∙ or_none _ ∙ or_none _ ∙ lock_rule s (of (kind.Lock l)) (by (kind.Lock l)) w tt _ refl refl h
  judged (kind.Unlock l) w h = or_none _ ∙ or_none _ ∙ or_none _ ∙ or_none _ ∙ lock_rule s (of (kind.Unlock l)) (by (kind.Unlock l)) w tt _ refl refl h
  judged (kind.PrescientStore v x) w h = stores_rule s (of (kind.PrescientStore v x)) (by (kind.PrescientStore v x)) w tt refl refl refl refl
  judged (kind.PrescientAssign v x) w h = or_none _ ∙ or_none _ ∙ cell_rule s (of (kind.PrescientAssign v x)) (by (kind.PrescientAssign v x)) w tt refl refl
  judged (kind.Wait l) w h = or_none _ ∙ or_none _ ∙ or_none _ ∙ wait_rule s (of (kind.Wait l)) (by (kind.Wait l)) w tt refl _ refl refl h
  judged (kind.Notify l u) w h = or_none _ ∙ or_none _ ∙ or_none _ ∙ wait_rule s (of (kind.Notify l u)) (by (kind.Notify l u)) w tt refl _ refl refl h
  judged (kind.Resume l) w h = or_none _ ∙ or_none _ ∙ or_none _ ∙ wait_rule s (of (kind.Resume l)) (by (kind.Resume l)) w tt refl _ refl refl h

  -- what is put back of a cell, behind its last store (S has the position that the cell has before the event), and of a lock event
  put : (k : Kind) → Within t k → (get_or s.holds (lock_of k) no_hold).depth < 2000
      → ((turn_in s (of k)).cell ≡ next_cell (s.events + 1) (oldest_of (cell_found s (of k)).reads (get_or s.reads (slot_place (at s (of k)) (cell_found s (of k)).reads 0) no_slot)) (letter k) (value k) (cell_found s (of k)))
      × ((turn_in s (of k)).store ≡ store_after (parts_at s t (var_of k) (lock_of k) t).stores.behind (letter k) (value k) (cell_found s (of k)).assigned (s.events + 1))
      × ((turn_in s (of k)).locked ≡ locked_after (get_or s.locked t 0) (letter k) (s.events + 1))
      × ((turn_in s (of k)).hold ≡ hold_after (get_or s.holds (lock_of k) no_hold) (get_or s.waits (subject (of k)) no_wait) t (letter k))
      × ((turn_in s (of k)).wait ≡ wait_after (get_or s.waits (subject (of k)) no_wait) (get_or s.holds (lock_of k) no_hold) (lock_of k) t (letter k))
  unfolding turn_of cell_turn reads_turn reads_with stores_turn stores_with store_after next_cell lock_turn wait_turn locked_after hold_after wait_after
  put (kind.Use v x) w deep = (refl, refl, refl, refl, wait_same _ _ _ t _ w.lock)
  put (kind.Assign v x) w deep = (refl, refl, refl, refl, wait_same _ _ _ t _ w.lock)
  put (kind.Load v x) w deep = (refl, refl, refl, refl, wait_same _ _ _ t _ w.lock)
  put (kind.Store v x) w deep = (refl, refl, refl, refl, wait_same _ _ _ t _ w.lock)
  put (kind.Read v x) w deep = (refl, refl, refl, refl, wait_same _ _ _ t _ w.lock)
  put (kind.Write v x) w deep = (refl, refl, refl, refl, wait_same _ _ _ t _ w.lock)
  put (kind.Lock l) w deep = (refl, refl, refl, hold_same _ _ t _ w.thread deep, wait_same _ _ _ t _ w.lock)
  put (kind.Unlock l) w deep = (refl, refl, refl, hold_same _ _ t _ w.thread deep, wait_same _ _ _ t _ w.lock)
  put (kind.PrescientStore v x) w deep = (refl, refl, refl, refl, wait_same _ _ _ t _ w.lock)
  put (kind.PrescientAssign v x) w deep = (refl, refl, refl, refl, wait_same _ _ _ t _ w.lock)
  put (kind.Wait l) w deep = (refl, refl, refl, hold_same _ _ t _ w.thread deep, wait_same _ _ _ t _ w.lock)
  put (kind.Notify l u) w deep = (refl, refl, refl, refl, wait_same _ _ _ t _ w.lock)
  put (kind.Resume l) w deep = (refl, refl, refl, hold_same _ _ t _ w.thread deep, wait_same _ _ _ t _ w.lock)

module _ (s : State) (e : Event) (w : Within e.thread e.kind) where
  pub any_rule : s.counts.threads ≤ 8 → s.counts.variables ≤ 16
      → option_or (ahead_at s e.thread (lock_of e.kind) (letter e.kind) (value e.kind)) (option_or (lead_at s e.thread (var_of e.kind) (letter e.kind)) (turn_in s e).rule) ≡ found (judge s.counts (words_in s) e)
  any_rule h m = (λ j. option_or (ahead_is s e j) (option_or (lead_is s e w m j) (judged s e.thread e.line e.kind w h j))) ∙ sym (judge_found s.counts (words_in s) e)

  number : at s e ≡ 16 * e.thread + var_of e.kind
  number = place_is e.thread (var_of e.kind) w.thread w.variable refl

  low : at s e < 128
  low = omega (arith, number, w.thread, w.variable)

  cell_is : cell_found s e ≡ cell_at s e.thread (var_of e.kind)
  cell_is = cell_read s e.thread (var_of e.kind) w.thread w.variable refl

  oldest : oldest_of (cell_found s e).reads (get_or s.reads (slot_place (at s e) (cell_found s e).reads 0) no_slot) ≡ first (reads_at s e.thread (var_of e.kind))
  unfolding reads_at
  oldest = oldest_is s.reads (cell_found s e).reads low refl ∙ (λ j. first (queued s.reads (number j) (cell_is j).reads))

  read_end : slot_place (at s e) (cell_found s e).reads (cell_found s e).reads.len ≡ behind (16 * e.thread + var_of e.kind) (cell_at s e.thread (var_of e.kind)).reads
  read_end = slot_is (at s e) (cell_found s e).reads (cell_found s e).reads.len low refl ∙ (λ j. behind (number j) (cell_is j).reads)

  store_end : slot_place (at s e) (cell_found s e).stores (cell_found s e).stores.len ≡ behind (16 * e.thread + var_of e.kind) (cell_at s e.thread (var_of e.kind)).stores
  store_end = slot_is (at s e) (cell_found s e).stores (cell_found s e).stores.len low refl ∙ (λ j. behind (number j) (cell_is j).stores)

  pub any_put : (get_or s.holds (lock_of e.kind) no_hold).depth < 2000
      → ◌≡◌ {A = State} (record {
        counts = s.counts;
        events = s.events + 1;
        cells = set s.cells (at s e) (turn_in s e).cell;
        reads = set s.reads (slot_place (at s e) (cell_found s e).reads (cell_found s e).reads.len) (turn_in s e).read;
        stores = set s.stores (slot_place (at s e) (cell_found s e).stores (cell_found s e).stores.len) (turn_in s e).store;
        locked = set s.locked e.thread (turn_in s e).locked;
        holds = set s.holds (lock_of e.kind) (turn_in s e).hold;
        memory = set s.memory (var_of e.kind) (turn_in s e).main;
        waits = set s.waits (subject e) (turn_in s e).wait;
      }) (step_state s e)
  unfolding step_state turn_of reads_turn reads_with stores_turn stores_with
  any_put deep = let put = put s e.thread e.line e.kind w deep in λ j. record {
    counts = s.counts;
    events = s.events + 1;
    cells = ((λ j. set s.cells (at s e) (put.0 j)) ∙ (λ j. set s.cells (number j) (next_cell (s.events + 1) (oldest j) (letter e.kind) (value e.kind) (cell_is j)))) j;
    reads = set s.reads (read_end j) (read_after (get_or s.reads (read_end j) no_slot) (letter e.kind) (value e.kind) (s.events + 1));
    stores = ((λ j. set s.stores (slot_place (at s e) (cell_found s e).stores (cell_found s e).stores.len) (put.1 j)) ∙ (λ j. set s.stores (store_end j) (store_after (get_or s.stores (store_end j) no_slot) (letter e.kind) (value e.kind) (cell_is j).assigned (s.events + 1)))) j;
    locked = set s.locked e.thread (put.2 j);
    holds = set s.holds (lock_of e.kind) (put.3 j);
    memory = set s.memory (var_of e.kind) (main_after (get_or s.memory (var_of e.kind) no_main) (letter e.kind) (value e.kind));
    waits = set s.waits (subject e) (put.4 j);
  }
