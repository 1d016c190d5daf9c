-- What a turn answers from the parts of a state is the row of the rules for that state's words, its leading checks left aside, and the parts put back
-- are the state after the event. Each law takes an equation for what the code read and for what the turn answered.
use Prim.Native.Nat.{ℕ, ◌+◌, ◌*◌, ◌%◌, ◌≤◌, ◌<◌}
use native.Mathlib.Omega.{arith}
use mathlib.Core.Path.{◌≡◌, refl, sym, ap, ◌∙◌, subst}
use mathlib.Core.Bool.{Bool, true, false, not, cond, ◌&&◌, ◌||◌, or-false, false≢true}
use mathlib.Core.List.{List, [], ◌∷◌}
use lib.Dec.{T, eqb, ltb}
use lib.IntN.{ℤ}
use lib.ListN.{get_or, set}
use Rattle.std.specs.Prelude.{Option}
use lib.Seq.{set-get_or}
use borrow.Author.Tests.{lt-ltb, eqb-true}
use Rattle.rules.specs.declared.Event.{Event}
use Rattle.rules.specs.declared.Slot.{Slot}
use Rattle.rules.specs.Events.{A, B, C, F, K, L, N, P, R, S, U, W, Y, letter, place, value, among, is, subject_of, subject, lock_letters, locks, unlocks}
use Rattle.rules.specs.Words.{first}
use Rattle.rules.specs.Rules.{some, no_partner, lock_taken, not_held, pending_bars, not_fresh, not_stored, read_before_write, unwritten, not_written, not_usable, differs, eight_already, dead_read, breaks, row_in, first_broken}
use Rattle.rules.proofs.Laws.{is_true}
use Rattle.state.specs.declared.Ring.{Ring}
use Rattle.state.specs.declared.Cell.{Cell}
use Rattle.state.specs.declared.Hold.{Hold}
use Rattle.state.specs.declared.Waiting.{Waiting}
use Rattle.rules.specs.declared.Main.{Main}
use Rattle.state.specs.declared.State.{State}
use Rattle.state.specs.State.{no_slot, no_hold, no_main, no_wait, blank, queued, cell_at, reads_at, stores_at, words_in}
use Rattle.state.specs.Step.{next_cell, read_after, store_after, hold_after, wait_after, main_after, locked_after, var_of, lock_of, Within, behind, step_state}
use Rattle.state.specs.Computed.Places.{cell_place, slot_place}
use Rattle.state.proofs.LeafLaws.{cond_same, place_is, slot_is, cell_same, cell_read}
use Rattle.state.proofs.Letters.{by_letters, disjoint, none_of}
use Rattle.state.proofs.Rings.{queued_length, queued_none, queued_first}
use Rattle.judging.specs.declared.OnSome.{OnSome}
use Rattle.judging.specs.declared.CellTurn.{CellTurn}
use Rattle.judging.specs.declared.ReadsTurn.{ReadsTurn}
use Rattle.judging.specs.declared.StoresTurn.{StoresTurn}
use Rattle.judging.specs.declared.LockTurn.{LockTurn}
use Rattle.judging.specs.declared.WaitTurn.{WaitTurn}
use Rattle.judging.specs.Computed.Checks.{oldest_of, row_of}
use Rattle.judging.specs.Computed.Turns.{hold_for, wait_for, after_use, is_used, use_rule, cell_turn, reads_with, reads_turn, stores_with, stores_turn, lock_turn, wait_turn, awaits_write, some_of}
use Rattle.judging.proofs.Locks.{others_same}
use Rattle.judging.proofs.Rows.{found, found_cond, trailing}

-- an event by its numbers
pub record By (e : Event) (t v k : ℕ) (x : ℤ) : Type 0 where
  pub thread : t ≡ e.thread
  pub place : v ≡ place e.kind
  pub letter : k ≡ letter e.kind
  pub value : x ≡ value e.kind

-- the place of an event on a variable, and of one on a lock
pub var_place : {e : Event} {t v k : ℕ} {x : ℤ} → By e t v k x → among lock_letters k ≡ false → v ≡ var_of e.kind
unfolding var_of
var_place n q = n.place ∙ rw (subst (λ (m : ℕ). among lock_letters m ≡ false) n.letter q) refl

pub lock_place : {e : Event} {t v k : ℕ} {x : ℤ} → By e t v k x → T (among lock_letters k) → v ≡ lock_of e.kind
unfolding lock_of
lock_place {k = k} n h = n.place ∙ rw (subst (λ (m : ℕ). among lock_letters m ≡ true) n.letter (is_true {b = among lock_letters k} h)) refl

-- ---- the rule of a turn is the row's, its leading checks left aside

stored_same : (s : State) (t n : ℕ) → some n (λ v. awaits_write (cell_at s t v)) ≡ some n (λ v. unwritten (words_in s) t v)
unfolding unwritten words_in stores_at
stored_same s t n = ap (λ (f : ℕ → Bool). some n f) (λ i. λ v. ltb (cond (cell_at s t v).pending 1 0) (sym (queued_length s.stores (16 * t + v) (cell_at s t v).stores) i))

-- a cell that U leaves as it is
used_same : (c : Cell) → is_used c ≡ true → after_use c ≡ c
unfolding is_used after_use next_cell
used_same c q = by c.after_load refl c.after_assign refl (eqb c.used c.loaded) refl q
  where
    by : (a : Bool) → c.after_load ≡ a → (b : Bool) → c.after_assign ≡ b → (d : Bool) → eqb c.used c.loaded ≡ d → not a && not b && d ≡ true → after_use c ≡ c
    by false l false a true u q = λ j. record {
      copy = c.copy;
      announced = c.announced;
      source = c.source;
      written = c.written;
      loaded = c.loaded;
      used = sym (eqb-true c.used c.loaded u) j;
      assigned = c.assigned;
      reads = c.reads;
      stores = c.stores;
      fresh = c.fresh;
      pending = c.pending;
      after_load = sym l j;
      after_assign = sym a j;
    }
    by true l b a d u q = absurd (false≢true q)
    by false l true a d u q = absurd (false≢true q)
    by false l false a false u q = absurd (false≢true q)

module _ (s : State) (e : Event) where
  abbrev own : Cell
  own = cell_at s e.thread (place e.kind)

  abbrev main : Main
  main = get_or s.memory (place e.kind) no_main

  abbrev locked : ℕ
  locked = get_or s.locked e.thread 0

  abbrev hold : Hold
  hold = get_or s.holds (place e.kind) no_hold

  cell_judged : T (among (U ∷ A ∷ B ∷ []) (letter e.kind)) → (cell_turn own locked (letter e.kind) (value e.kind) (s.events + 1)).rule ≡ found (trailing s.counts (words_in s) e)
  unfolding cell_turn row_of row_in first_broken breaks no_partner not_usable differs dead_read is words_in reads_at
  cell_judged h = by_letters (λ k. letter e.kind ≡ k → (cell_turn own locked k (value e.kind) (s.events + 1)).rule ≡ found (trailing s.counts (words_in s) e))
      (U ∷ A ∷ B ∷ []) ((λ q. simp (q, found_cond, or-false)), ((λ q. simp (q, found_cond, queued_none, or-false)), ((λ q. simp (q, found_cond)), tt))) (letter e.kind) h refl

  reads_judged : (b : Slot) → T (among (R ∷ L ∷ []) (letter e.kind))
      → (reads_with own (first (reads_at s e.thread (place e.kind))) b main (letter e.kind) (value e.kind) (s.events + 1)).rule ≡ found (trailing s.counts (words_in s) e)
  unfolding reads_with row_of row_in first_broken breaks no_partner pending_bars not_stored not_written read_before_write differs eight_already dead_read locks unlocks is words_in reads_at stores_at
  reads_judged b h = by_letters (λ k. letter e.kind ≡ k → (reads_with own (first (reads_at s e.thread (place e.kind))) b main k (value e.kind) (s.events + 1)).rule ≡ found (trailing s.counts (words_in s) e))
      (R ∷ L ∷ []) ((λ q. simp (q, found_cond, queued_length, queued_none, or-false)), ((λ q. simp (q, found_cond, queued_none, or-false)), tt)) (letter e.kind) h refl

  stores_judged : (b : Slot) → T (among (S ∷ P ∷ W ∷ []) (letter e.kind))
      → (stores_with own (first (stores_at s e.thread (place e.kind))) b main locked (letter e.kind) (value e.kind) (s.events + 1)).rule ≡ found (trailing s.counts (words_in s) e)
  unfolding stores_with row_of row_in first_broken breaks no_partner pending_bars not_fresh not_usable differs eight_already dead_read locks is words_in reads_at stores_at
  stores_judged b h = by_letters (λ k. letter e.kind ≡ k → (stores_with own (first (stores_at s e.thread (place e.kind))) b main locked k (value e.kind) (s.events + 1)).rule ≡ found (trailing s.counts (words_in s) e))
      (S ∷ P ∷ W ∷ []) ((λ q. simp (q, found_cond, queued_length, or-false)), ((λ q. simp (q, found_cond, queued_length, queued_none, or-false)), ((λ q. simp (q, found_cond, queued_none, or-false)), tt))) (letter e.kind) h refl

  lock_judged : e.thread < 8 → s.counts.threads ≤ 8 → T (among (K ∷ N ∷ []) (letter e.kind))
      → (lock_turn hold locked s.counts.threads (some_of s e.thread s.counts.variables) e.thread (letter e.kind) (s.events + 1)).rule ≡ found (trailing s.counts (words_in s) e)
  unfolding lock_turn some_of row_of row_in first_broken breaks lock_taken not_held pending_bars not_stored not_written locks unlocks is words_in
  lock_judged l m h = by_letters (λ k. letter e.kind ≡ k → (lock_turn hold locked s.counts.threads (some_of s e.thread s.counts.variables) e.thread k (s.events + 1)).rule ≡ found (trailing s.counts (words_in s) e))
      (K ∷ N ∷ []) ((λ q. simp (q, found_cond, others_same hold s.counts.threads e.thread l m, or-false)), ((λ q. simp (q, found_cond, stored_same s e.thread s.counts.variables)), tt)) (letter e.kind) h refl

  wait_judged : (z : Waiting) → e.thread < 8 → s.counts.threads ≤ 8 → T (among (Y ∷ F ∷ C ∷ []) (letter e.kind))
      → (wait_turn hold z locked s.counts.threads (some_of s e.thread s.counts.variables) e.thread (place e.kind) (letter e.kind) (s.events + 1)).rule ≡ found (trailing s.counts (words_in s) e)
  unfolding wait_turn some_of row_of row_in first_broken breaks lock_taken not_held pending_bars not_stored not_written locks unlocks is words_in
  wait_judged z l m h = by_letters (λ k. letter e.kind ≡ k → (wait_turn hold z locked s.counts.threads (some_of s e.thread s.counts.variables) e.thread (place e.kind) k (s.events + 1)).rule ≡ found (trailing s.counts (words_in s) e))
      (Y ∷ F ∷ C ∷ []) ((λ q. simp (q, found_cond, stored_same s e.thread s.counts.variables)), ((λ q. simp (q, found_cond)), ((λ q. simp (q, found_cond, others_same hold s.counts.threads e.thread l m, or-false)), tt))) (letter e.kind) h refl

-- ---- what an event leaves as it was, by its letter

-- a letter that is none of the locks'
pub no_lock_law : (k : ℕ) → among lock_letters k ≡ false → (eqb K k ≡ false) × (eqb N k ≡ false) × (eqb Y k ≡ false) × (eqb F k ≡ false) × (eqb C k ≡ false)
no_lock_law k h = go (eqb K k) (eqb N k) (eqb Y k) (eqb F k) (eqb C k) h
  where
    go : (a b c d e : Bool) → (a || (b || (c || (d || (e || false))))) ≡ false → (a ≡ false) × (b ≡ false) × (c ≡ false) × (d ≡ false) × (e ≡ false)
    go false false false false false h = (refl, refl, refl, refl, refl)
    go true b c d e h = absurd (false≢true (sym h))
    go false true c d e h = absurd (false≢true (sym h))
    go false false true d e h = absurd (false≢true (sym h))
    go false false false true e h = absurd (false≢true (sym h))
    go false false false false true h = absurd (false≢true (sym h))

module _ (s : State) (e : Event) where
  reads_off : among (R ∷ []) (letter e.kind) ≡ false → s.reads ≡ (step_state s e).reads
  unfolding step_state read_after
  reads_off h = sym (rw h (set-get_or s.reads (behind (16 * e.thread + var_of e.kind) (cell_at s e.thread (var_of e.kind)).reads) no_slot))

  stores_off : among (S ∷ P ∷ []) (letter e.kind) ≡ false → s.stores ≡ (step_state s e).stores
  unfolding step_state store_after
  stores_off h = sym (rw h (set-get_or s.stores (behind (16 * e.thread + var_of e.kind) (cell_at s e.thread (var_of e.kind)).stores) no_slot))

  memory_off : among (W ∷ []) (letter e.kind) ≡ false → s.memory ≡ (step_state s e).memory
  unfolding step_state main_after
  memory_off h = sym (rw h (set-get_or s.memory (var_of e.kind) no_main))

  module _ (h : among lock_letters (letter e.kind) ≡ false) where
    locked_off : s.locked ≡ (step_state s e).locked
    unfolding step_state locked_after
    locked_off = let q = no_lock_law (letter e.kind) h in sym (rw (q.0, q.4) (set-get_or s.locked e.thread 0))

    holds_off : s.holds ≡ (step_state s e).holds
    unfolding step_state hold_after
    holds_off = let q = no_lock_law (letter e.kind) h in sym (rw (q.0, q.1, q.2, q.4) (set-get_or s.holds (lock_of e.kind) no_hold))

    waits_off : s.waits ≡ (step_state s e).waits
    unfolding step_state wait_after
    waits_off = let q = no_lock_law (letter e.kind) h in sym (rw (q.2, q.3, q.4) (set-get_or s.waits (subject e) no_wait))

cell_off : (k : ℕ) → T (among lock_letters k) → (p : ℕ) (r : Slot) (x : ℤ) (c : Cell) → next_cell p r k x c ≡ c
unfolding next_cell
cell_off k h p r x c = by_letters (λ k. next_cell p r k x c ≡ c) lock_letters (refl, (refl, (refl, (refl, (refl, tt))))) k h

pub hold_same : (a : Hold) (z : Waiting) (t k : ℕ) → t < 8 → a.depth < 2000 → hold_for a z t k ≡ hold_after a z t k
unfolding hold_for
hold_same a z t k h l = rw (lt-ltb t 8 h, lt-ltb a.depth 2000 l) refl

pub wait_same : (z : Waiting) (a : Hold) (l t k : ℕ) → l < 8 → wait_for z a l t k ≡ wait_after z a l t k
unfolding wait_for
wait_same z a l t k h = rw (lt-ltb l 8 h) refl

-- the oldest of a queue, read at its first place
pub oldest_is : (ss : List Slot) (q : Ring) {i f : ℕ} → i < 128 → f ≡ slot_place i q 0 → oldest_of q (get_or ss f no_slot) ≡ first (queued ss i q)
unfolding oldest_of
oldest_is ss q {i} h e = rw (slot_is i q 0 h e, queued_first ss i q) (ap (λ (n : ℕ). cond (eqb q.len 0) no_slot (get_or ss (8 * i + n % 8) no_slot)) (let z : q.first + 0 ≡ q.first = omega arith in z))

-- ---- the laws for the loop

module _ (s : State) (e : Event) {t v k : ℕ} {x : ℤ} (n : By e t v k x) (w : Within e.thread e.kind) where
  abbrev p : ℕ
  p = s.events + 1

  own_letter : (ks : List ℕ) → T (among ks k) → T (among ks (letter e.kind))
  own_letter ks h = subst (λ (m : ℕ). T (among ks m)) n.letter h

  -- the event's letter is none of ls
  off : (ks ls : List ℕ) → T (disjoint ks ls) → T (among ks k) → among ls (letter e.kind) ≡ false
  off ks ls d h = none_of ks ls d (letter e.kind) (own_letter ks h)

  -- an event on a variable, whose cell is at i
  module _ (ks : List ℕ) (d : T (disjoint ks lock_letters)) (h : T (among ks k)) {i : ℕ} (ei : i ≡ cell_place t v) where
    abbrev c : Cell
    c = get_or s.cells i blank

    var_own : v ≡ var_of e.kind
    var_own = var_place n (none_of ks lock_letters d k h)

    thread_in_law : t < 8
    thread_in_law = subst (λ (m : ℕ). m < 8) (sym n.thread) w.thread

    var_in : v < 16
    var_in = subst (λ (m : ℕ). m < 16) (sym var_own) w.variable

    number : i ≡ 16 * t + v
    number = place_is t v thread_in_law var_in ei

    low : i < 128
    low = let a = thread_in_law in let b = var_in in omega (arith, number)

    cell_is : c ≡ cell_at s t v
    cell_is = cell_read s t v thread_in_law var_in ei

    oldest_in : (f : Cell → Ring) (ss : List Slot) {j : ℕ} → j ≡ slot_place i (f c) 0 → oldest_of (f c) (get_or ss j no_slot) ≡ first (queued ss (16 * t + v) (f (cell_at s t v)))
    oldest_in f ss q = oldest_is ss (f c) low q ∙ (λ j. first (queued ss (number j) (f (cell_is j))))

    behind_in : (f : Cell → Ring) {b : ℕ} → b ≡ slot_place i (f c) (f c).len → b ≡ behind (16 * e.thread + var_of e.kind) (f (cell_at s e.thread (var_of e.kind)))
    behind_in f q = slot_is i (f c) (f c).len low q ∙ (λ j. behind (number j) (f (cell_is j))) ∙ (λ j. behind (16 * n.thread j + var_own j) (f (cell_at s (n.thread j) (var_own j))))

    cells_on : {a : Cell} → a ≡ next_cell p (first (reads_at s t v)) k x (cell_at s t v) → set s.cells i a ≡ (step_state s e).cells
    unfolding step_state
    cells_on q = (λ j. set s.cells (number j) (q j))
        ∙ (λ j. set s.cells (16 * n.thread j + var_own j) (next_cell p (first (reads_at s (n.thread j) (var_own j))) (n.letter j) (n.value j) (cell_at s (n.thread j) (var_own j))))

  module _ (h : T (among (U ∷ A ∷ B ∷ []) k)) {i : ℕ} (ei : i ≡ cell_place t v) {r : CellTurn} (er : r ≡ cell_turn (get_or s.cells i blank) (get_or s.locked t 0) k x p) where
    cell_turned : r ≡ cell_turn (cell_at s t v) (get_or s.locked t 0) k x p
    cell_turned = er ∙ (λ j. cell_turn (cell_is (U ∷ A ∷ B ∷ []) tt h ei j) (get_or s.locked t 0) k x p)

    pub cell_rule : r.rule ≡ found (trailing s.counts (words_in s) e)
    cell_rule = ap (λ (z : CellTurn). z.rule) cell_turned
        ∙ (λ j. (cell_turn (cell_at s (n.thread j) (n.place j)) (get_or s.locked (n.thread j) 0) (n.letter j) (n.value j) p).rule) ∙ cell_judged s e (own_letter (U ∷ A ∷ B ∷ []) h)

    pub cell_next : r.cell ≡ next_cell p (first (reads_at s t v)) k x (cell_at s t v)
    unfolding cell_turn next_cell
    cell_next = ap (λ (z : CellTurn). z.cell) cell_turned
        ∙ by_letters (λ m. (cell_turn (cell_at s t v) (get_or s.locked t 0) m x p).cell ≡ next_cell p (first (reads_at s t v)) m x (cell_at s t v)) (U ∷ A ∷ B ∷ []) (refl, (refl, (refl, tt))) k h

    pub cell_put : ◌≡◌ {A = State} (record { counts = s.counts; events = p; cells = set s.cells i r.cell; reads = s.reads; stores = s.stores; locked = s.locked; holds = s.holds; memory = s.memory; waits = s.waits })
        (step_state s e)
    unfolding step_state
    cell_put = λ j. record {
      counts = s.counts;
      events = p;
      cells = cells_on (U ∷ A ∷ B ∷ []) tt h ei cell_next j;
      reads = reads_off s e (off (U ∷ A ∷ B ∷ []) (R ∷ []) tt h) j;
      stores = stores_off s e (off (U ∷ A ∷ B ∷ []) (S ∷ P ∷ []) tt h) j;
      locked = locked_off s e (off (U ∷ A ∷ B ∷ []) lock_letters tt h) j;
      holds = holds_off s e (off (U ∷ A ∷ B ∷ []) lock_letters tt h) j;
      memory = memory_off s e (off (U ∷ A ∷ B ∷ []) (W ∷ []) tt h) j;
      waits = waits_off s e (off (U ∷ A ∷ B ∷ []) lock_letters tt h) j;
    }

  -- a use, which leaves all but the cell
  module _ (h : k ≡ U) where
    used : T (among (U ∷ A ∷ B ∷ []) k)
    used = subst (λ (m : ℕ). T (among (U ∷ A ∷ B ∷ []) m)) (sym h) tt

    pub use_rule_law : {i : ℕ} → i ≡ cell_place t v → {r : Option ℕ} → r ≡ use_rule (get_or s.cells i blank) (get_or s.locked t 0) x → r ≡ found (trailing s.counts (words_in s) e)
    use_rule_law {i} ei er =
        let c = get_or s.cells i blank in
        let q = get_or s.locked t 0 in
        let a : use_rule c q x ≡ (cell_turn c q U x p).rule = unfold use_rule cell_turn in refl in
        er ∙ a ∙ ap (λ (m : ℕ). (cell_turn c q m x p).rule) (sym h) ∙ cell_rule used ei refl

    use_cell : (c : Cell) → after_use c ≡ (cell_turn c (get_or s.locked t 0) k x p).cell
    use_cell c = subst (λ (m : ℕ). after_use c ≡ (cell_turn c (get_or s.locked t 0) m x p).cell) (sym h) (unfold after_use cell_turn next_cell in refl)

    module _ {i : ℕ} (ei : i ≡ cell_place t v) {d : Cell} (ed : d ≡ after_use (get_or s.cells i blank)) where
      pub use_next : d ≡ next_cell p (first (reads_at s t v)) k x (cell_at s t v)
      use_next = ed ∙ use_cell (get_or s.cells i blank) ∙ cell_next used ei refl

      pub use_put : ◌≡◌ {A = State} (record { counts = s.counts; events = p; cells = set s.cells i d; reads = s.reads; stores = s.stores; locked = s.locked; holds = s.holds; memory = s.memory; waits = s.waits }) (step_state s e)
      use_put =
          let b = ed ∙ use_cell (get_or s.cells i blank) in
          (λ j. record { counts = s.counts; events = p; cells = set s.cells i (b j); reads = s.reads; stores = s.stores; locked = s.locked; holds = s.holds; memory = s.memory; waits = s.waits }) ∙ cell_put used ei refl

    -- the same, where it leaves the cell too
    pub use_kept : {i : ℕ} → i ≡ cell_place t v → is_used (get_or s.cells i blank) ≡ true
        → ◌≡◌ {A = State} (record { counts = s.counts; events = p; cells = s.cells; reads = s.reads; stores = s.stores; locked = s.locked; holds = s.holds; memory = s.memory; waits = s.waits }) (step_state s e)
    use_kept {i} ei q =
        let b : s.cells ≡ set s.cells i (after_use (get_or s.cells i blank)) = sym (set-get_or s.cells i blank) ∙ ap (λ (c : Cell). set s.cells i c) (sym (used_same (get_or s.cells i blank) q)) in
        (λ j. record { counts = s.counts; events = p; cells = b j; reads = s.reads; stores = s.stores; locked = s.locked; holds = s.holds; memory = s.memory; waits = s.waits }) ∙ use_put ei refl

  module _ (h : T (among (R ∷ L ∷ []) k)) {i : ℕ} (ei : i ≡ cell_place t v)
      {f b : ℕ} (ef : f ≡ slot_place i (get_or s.cells i blank).reads 0) (eb : b ≡ slot_place i (get_or s.cells i blank).reads (get_or s.cells i blank).reads.len)
      {r : ReadsTurn} (er : r ≡ reads_turn (get_or s.cells i blank) (get_or s.reads f no_slot) (get_or s.reads b no_slot) (get_or s.memory v no_main) k x p) where
    reads_turned : r ≡ reads_with (cell_at s t v) (first (reads_at s t v)) (get_or s.reads b no_slot) (get_or s.memory v no_main) k x p
    unfolding reads_turn reads_at
    reads_turned = er ∙ (λ j. reads_with (cell_is (R ∷ L ∷ []) tt h ei j) (oldest_in (R ∷ L ∷ []) tt h ei (λ c. c.reads) s.reads ef j) (get_or s.reads b no_slot) (get_or s.memory v no_main) k x p)

    pub reads_rule : r.rule ≡ found (trailing s.counts (words_in s) e)
    reads_rule = ap (λ (z : ReadsTurn). z.rule) reads_turned
        ∙ (λ j. (reads_with (cell_at s (n.thread j) (n.place j)) (first (reads_at s (n.thread j) (n.place j))) (get_or s.reads b no_slot) (get_or s.memory (n.place j) no_main) (n.letter j) (n.value j) p).rule)
        ∙ reads_judged s e (get_or s.reads b no_slot) (own_letter (R ∷ L ∷ []) h)

    pub reads_next : r.cell ≡ next_cell p (first (reads_at s t v)) k x (cell_at s t v)
    unfolding reads_with
    reads_next = ap (λ (z : ReadsTurn). z.cell) reads_turned
        ∙ by_letters (λ m. (reads_with (cell_at s t v) (first (reads_at s t v)) (get_or s.reads b no_slot) (get_or s.memory v no_main) m x p).cell ≡ next_cell p (first (reads_at s t v)) m x (cell_at s t v)) (R ∷ L ∷ []) (refl, (refl, tt)) k h

    reads_on : set s.reads b r.slot ≡ (step_state s e).reads
    unfolding step_state reads_with
    reads_on = let q = behind_in (R ∷ L ∷ []) tt h ei (λ c. c.reads) eb in
        (λ j. set s.reads b (reads_turned j).slot) ∙ (λ j. set s.reads (q j) (read_after (get_or s.reads (q j) no_slot) (n.letter j) (n.value j) p))

    pub reads_put : ◌≡◌ {A = State} (record { counts = s.counts; events = p; cells = set s.cells i r.cell; reads = set s.reads b r.slot; stores = s.stores; locked = s.locked; holds = s.holds; memory = s.memory; waits = s.waits })
        (step_state s e)
    unfolding step_state
    reads_put = λ j. record {
      counts = s.counts;
      events = p;
      cells = cells_on (R ∷ L ∷ []) tt h ei reads_next j;
      reads = reads_on j;
      stores = stores_off s e (off (R ∷ L ∷ []) (S ∷ P ∷ []) tt h) j;
      locked = locked_off s e (off (R ∷ L ∷ []) lock_letters tt h) j;
      holds = holds_off s e (off (R ∷ L ∷ []) lock_letters tt h) j;
      memory = memory_off s e (off (R ∷ L ∷ []) (W ∷ []) tt h) j;
      waits = waits_off s e (off (R ∷ L ∷ []) lock_letters tt h) j;
    }

  module _ (h : T (among (S ∷ P ∷ W ∷ []) k)) {i : ℕ} (ei : i ≡ cell_place t v)
      {f b : ℕ} (ef : f ≡ slot_place i (get_or s.cells i blank).stores 0) (eb : b ≡ slot_place i (get_or s.cells i blank).stores (get_or s.cells i blank).stores.len)
      {r : StoresTurn} (er : r ≡ stores_turn (get_or s.cells i blank) (get_or s.stores f no_slot) (get_or s.stores b no_slot) (get_or s.memory v no_main) (get_or s.locked t 0) k x p) where
    stores_turned : r ≡ stores_with (cell_at s t v) (first (stores_at s t v)) (get_or s.stores b no_slot) (get_or s.memory v no_main) (get_or s.locked t 0) k x p
    unfolding stores_turn stores_at
    stores_turned = er ∙ (λ j. stores_with (cell_is (S ∷ P ∷ W ∷ []) tt h ei j) (oldest_in (S ∷ P ∷ W ∷ []) tt h ei (λ c. c.stores) s.stores ef j) (get_or s.stores b no_slot) (get_or s.memory v no_main) (get_or s.locked t 0) k x p)

    pub stores_rule : r.rule ≡ found (trailing s.counts (words_in s) e)
    stores_rule = ap (λ (z : StoresTurn). z.rule) stores_turned
        ∙ (λ j. (stores_with (cell_at s (n.thread j) (n.place j)) (first (stores_at s (n.thread j) (n.place j))) (get_or s.stores b no_slot) (get_or s.memory (n.place j) no_main) (get_or s.locked (n.thread j) 0) (n.letter j) (n.value j) p).rule)
        ∙ stores_judged s e (get_or s.stores b no_slot) (own_letter (S ∷ P ∷ W ∷ []) h)

    pub stores_next : r.cell ≡ next_cell p (first (reads_at s t v)) k x (cell_at s t v)
    unfolding stores_with next_cell
    stores_next = ap (λ (z : StoresTurn). z.cell) stores_turned
        ∙ by_letters (λ m. (stores_with (cell_at s t v) (first (stores_at s t v)) (get_or s.stores b no_slot) (get_or s.memory v no_main) (get_or s.locked t 0) m x p).cell ≡ next_cell p (first (reads_at s t v)) m x (cell_at s t v)) (S ∷ P ∷ W ∷ []) (refl, (refl, (refl, tt))) k h

    stores_on : set s.stores b r.slot ≡ (step_state s e).stores
    unfolding step_state stores_with
    stores_on = let q = behind_in (S ∷ P ∷ W ∷ []) tt h ei (λ c. c.stores) eb in
        let o = var_own (S ∷ P ∷ W ∷ []) tt h ei in
        (λ j. set s.stores b (stores_turned j).slot) ∙ (λ j. set s.stores (q j) (store_after (get_or s.stores (q j) no_slot) (n.letter j) (n.value j) (cell_at s (n.thread j) (o j)).assigned p))

    main_on : set s.memory v r.main ≡ (step_state s e).memory
    unfolding step_state stores_with
    main_on = let q = var_own (S ∷ P ∷ W ∷ []) tt h ei in
        (λ j. set s.memory v (stores_turned j).main) ∙ (λ j. set s.memory (q j) (main_after (get_or s.memory (q j) no_main) (n.letter j) (n.value j)))

    pub stores_put : ◌≡◌ {A = State} (record { counts = s.counts; events = p; cells = set s.cells i r.cell; reads = s.reads; stores = set s.stores b r.slot; locked = s.locked; holds = s.holds; memory = set s.memory v r.main; waits = s.waits })
        (step_state s e)
    unfolding step_state
    stores_put = λ j. record {
      counts = s.counts;
      events = p;
      cells = cells_on (S ∷ P ∷ W ∷ []) tt h ei stores_next j;
      reads = reads_off s e (off (S ∷ P ∷ W ∷ []) (R ∷ []) tt h) j;
      stores = stores_on j;
      locked = locked_off s e (off (S ∷ P ∷ W ∷ []) lock_letters tt h) j;
      holds = holds_off s e (off (S ∷ P ∷ W ∷ []) lock_letters tt h) j;
      memory = main_on j;
      waits = waits_off s e (off (S ∷ P ∷ W ∷ []) lock_letters tt h) j;
    }

  -- a lock event, whose subject is u, by what is put back
  locks_put : T (among lock_letters k) → {u : ℕ} → u ≡ subject_of k t x → (get_or s.holds v no_hold).depth < 2000
      → {q : ℕ} → q ≡ locked_after (get_or s.locked t 0) k p
      → {a : Hold} → a ≡ hold_for (get_or s.holds v no_hold) (get_or s.waits u no_wait) t k
      → {z : Waiting} → z ≡ wait_for (get_or s.waits u no_wait) (get_or s.holds v no_hold) v t k
      → ◌≡◌ {A = State} (record { counts = s.counts; events = p; cells = s.cells; reads = s.reads; stores = s.stores; locked = set s.locked t q; holds = set s.holds v a; memory = s.memory; waits = set s.waits u z })
      (step_state s e)
  unfolding step_state
  locks_put h {u} eu deep eq ea ez = λ j. record {
    counts = s.counts;
    events = p;
    cells = cells_off j;
    reads = reads_off s e (off lock_letters (R ∷ []) tt h) j;
    stores = stores_off s e (off lock_letters (S ∷ P ∷ []) tt h) j;
    locked = ((λ j. set s.locked t (eq j)) ∙ (λ j. set s.locked (n.thread j) (locked_after (get_or s.locked (n.thread j) 0) (n.letter j) p))) j;
    holds = ((λ j. set s.holds v ((ea ∙ hold_same (get_or s.holds v no_hold) (get_or s.waits u no_wait) t k thread_in_law deep) j))
        ∙ (λ j. set s.holds (lock_place n h j) (hold_after (get_or s.holds (lock_place n h j) no_hold) (get_or s.waits (subject_own j) no_wait) (n.thread j) (n.letter j)))) j;
    memory = memory_off s e (off lock_letters (W ∷ []) tt h) j;
    waits = ((λ j. set s.waits u ((ez ∙ wait_same (get_or s.waits u no_wait) (get_or s.holds v no_hold) v t k lock_in) j))
        ∙ (λ j. set s.waits (subject_own j) (wait_after (get_or s.waits (subject_own j) no_wait) (get_or s.holds (lock_place n h j) no_hold) (lock_place n h j) (n.thread j) (n.letter j)))) j;
  }
    where
      thread_in_law : t < 8
      thread_in_law = subst (λ (m : ℕ). m < 8) (sym n.thread) w.thread

      lock_in : v < 8
      lock_in = subst (λ (m : ℕ). m < 8) (sym (lock_place n h)) w.lock

      subject_own : u ≡ subject e
      subject_own = eu ∙ (λ j. subject_of (n.letter j) (n.thread j) (n.value j))

      cells_off : s.cells ≡ (step_state s e).cells
      cells_off = unfold step_state in sym (ap (λ (c : Cell). set s.cells (16 * e.thread + var_of e.kind) c)
          (cell_off (letter e.kind) (own_letter lock_letters h) p (first (reads_at s e.thread (var_of e.kind))) (value e.kind) (cell_at s e.thread (var_of e.kind)) ∙ cell_same s e.thread (var_of e.kind) w.thread w.variable)
          ∙ set-get_or s.cells (16 * e.thread + var_of e.kind) blank)

  module _ (h : T (among (K ∷ N ∷ []) k)) (any : OnSome)
      {r : LockTurn} (er : r ≡ lock_turn (get_or s.holds v no_hold) (get_or s.locked t 0) s.counts.threads any t k p) where
    pub lock_rule : any ≡ some_of s t s.counts.variables → s.counts.threads ≤ 8 → r.rule ≡ found (trailing s.counts (words_in s) e)
    lock_rule ea m = ap (λ (z : LockTurn). z.rule) er
        ∙ (λ j. (lock_turn (get_or s.holds (n.place j) no_hold) (get_or s.locked (n.thread j) 0) s.counts.threads ((ea ∙ ap (λ (i : ℕ). some_of s i s.counts.variables) n.thread) j) (n.thread j) (n.letter j) p).rule)
        ∙ lock_judged s e w.thread m (own_letter (K ∷ N ∷ []) h)

    pub lock_put : (get_or s.holds v no_hold).depth < 2000
        → ◌≡◌ {A = State} (record { counts = s.counts; events = p; cells = s.cells; reads = s.reads; stores = s.stores; locked = set s.locked t r.locked; holds = set s.holds v r.hold; memory = s.memory; waits = s.waits })
        (step_state s e)
    unfolding lock_turn locked_after hold_for hold_after wait_for wait_after subject_of
    lock_put deep =
        let a = get_or s.holds v no_hold in
        let z = get_or s.waits t no_wait in
        let q = get_or s.locked t 0 in
        let own = by_letters (λ m. (T (among lock_letters m)) × (t ≡ subject_of m t x) × ((lock_turn a q s.counts.threads any t m p).locked ≡ locked_after q m p) × ((lock_turn a q s.counts.threads any t m p).hold ≡ hold_for a z t m) × (z ≡ wait_for z a v t m)) (K ∷ N ∷ [])
        ((tt, refl, refl, refl, sym (cond_same (ltb v 8) z)), ((tt, refl, refl, refl, sym (cond_same (ltb v 8) z)), tt)) k h in
        (λ j. record { counts = s.counts; events = p; cells = s.cells; reads = s.reads; stores = s.stores; locked = set s.locked t r.locked; holds = set s.holds v r.hold; memory = s.memory; waits = sym (set-get_or s.waits t no_wait) j })
        ∙ locks_put own.0 own.1 deep (ap (λ (z : LockTurn). z.locked) er ∙ own.2) (ap (λ (z : LockTurn). z.hold) er ∙ own.3) own.4

  -- u is the event's subject
  module _ (h : T (among (Y ∷ F ∷ C ∷ []) k)) {u : ℕ} (eu : u ≡ subject_of k t x) (any : OnSome)
      {r : WaitTurn} (er : r ≡ wait_turn (get_or s.holds v no_hold) (get_or s.waits u no_wait) (get_or s.locked t 0) s.counts.threads any t v k p) where
    pub wait_rule : any ≡ some_of s t s.counts.variables → s.counts.threads ≤ 8 → r.rule ≡ found (trailing s.counts (words_in s) e)
    wait_rule ea m = ap (λ (z : WaitTurn). z.rule) er
        ∙ (λ j. (wait_turn (get_or s.holds (n.place j) no_hold) (get_or s.waits u no_wait) (get_or s.locked (n.thread j) 0) s.counts.threads ((ea ∙ ap (λ (i : ℕ). some_of s i s.counts.variables) n.thread) j) (n.thread j) (n.place j) (n.letter j) p).rule)
        ∙ wait_judged s e (get_or s.waits u no_wait) w.thread m (own_letter (Y ∷ F ∷ C ∷ []) h)

    pub wait_put : (get_or s.holds v no_hold).depth < 2000
        → ◌≡◌ {A = State} (record { counts = s.counts; events = p; cells = s.cells; reads = s.reads; stores = s.stores; locked = set s.locked t r.locked; holds = set s.holds v r.hold; memory = s.memory; waits = set s.waits u r.wait })
        (step_state s e)
    unfolding wait_turn locked_after hold_for hold_after
    wait_put deep =
        let a = get_or s.holds v no_hold in
        let z = get_or s.waits u no_wait in
        let q = get_or s.locked t 0 in
        let own = by_letters (λ m. (T (among lock_letters m)) × ((wait_turn a z q s.counts.threads any t v m p).locked ≡ locked_after q m p) × ((wait_turn a z q s.counts.threads any t v m p).hold ≡ hold_for a z t m)) (Y ∷ F ∷ C ∷ [])
        ((tt, refl, refl), ((tt, refl, sym (cond_same (ltb t 8 && ltb a.depth 2000) a)), ((tt, refl, refl), tt))) k h in
        locks_put own.0 eu deep (ap (λ (z : WaitTurn). z.locked) er ∙ own.1) (ap (λ (z : WaitTurn). z.hold) er ∙ own.2) (ap (λ (z : WaitTurn). z.wait) er)

-- ---- for what is tallied beside a state

-- a use, and an event on the reads, leave it
pub kept_tally : (k : ℕ) → T (among (U ∷ R ∷ L ∷ []) k) → (p : ℕ) (r : Slot) (x : ℤ) (c : Cell)
    → ((next_cell p r k x c).pending ≡ c.pending) × ((next_cell p r k x c).fresh ≡ c.fresh) × ((next_cell p r k x c).stores ≡ c.stores)
unfolding next_cell
kept_tally k h p r x c = by_letters (λ k. ((next_cell p r k x c).pending ≡ c.pending) × ((next_cell p r k x c).fresh ≡ c.fresh) × ((next_cell p r k x c).stores ≡ c.stores)) (U ∷ R ∷ L ∷ [])
    ((refl, refl, refl), ((refl, refl, refl), ((refl, refl, refl), tt))) k h
