-- Refusal 8 as facts, and that an accepted step leaves a state in range in range.
use Prim.Native.Nat.{ℕ, zero, suc, max, ◌+◌, ◌-◌, ◌*◌, ◌%◌, ◌≤◌, ◌<◌, zero-le}
use native.Mathlib.Omega.{arith}
use native.Mathlib.Nat.{not-suc-le-zero, le_refl, le_step}
use native.Mathlib.Numerals.{add-one}
use mathlib.Core.Path.{◌≡◌, refl, sym, ◌∙◌, subst}
use mathlib.Core.Logic.{inl, inr}
use mathlib.Core.Bool.{Bool, true, false, not, cond, ◌&&◌, ◌||◌, or-true}
use mathlib.Core.List.{List, [], ◌∷◌}
use lib.Dec.{T, eqb, ltb, leb, lit<}
use lib.IntN.{ℤ}
use lib.ListN.{length, get_or, set}
use borrow.Author.Tests.{lt-ltb, ltb-true, ltb-false, eqb-true, eqb-false, eq-eqb, leb-true, leb-false, le-leb, lt-leb}
use Rattle.state.specs.Computed.Places.{Shape}
use Rattle.state.specs.declared.Ring.{Ring}
use Rattle.state.specs.declared.Cell.{Cell}
use Rattle.state.specs.declared.Hold.{Hold}
use Rattle.state.specs.declared.Waiting.{Waiting}
use Rattle.state.specs.declared.State.{State}
use Rattle.state.specs.State.{no_slot, no_hold, no_wait, blank, queued, cell_at, reads_at, depth_of, words_in}
use Rattle.state.specs.Range.{every, hold_ok, holds_in, holds_ok, wait_ok, threads_in, threads_ok, cell_ok, cells_in, cells_ok, slot_at, slots_in, queue_ok, queues_in, queues_ok, in_range}
use Rattle.state.specs.Step.{pushed, popped, next_cell, read_after, store_after, hold_after, wait_after, locked_after, var_of, lock_of, behind, step_state}
use Rattle.state.specs.Step.{Within}
use Rattle.state.proofs.LeafLaws.{both_true, both, depth_under, every_at, every_all, cell_same}
use Rattle.state.proofs.Rings.{queued_after, queued_apart, UpTo, up_more, up_after, up_first, up_around, around_up}
use Rattle.state.proofs.StepWords.{WaitFits, Bounded, set_at, read_few, store_few, unlock_own, waits_there}
use Rattle.rules.specs.declared.Event.{Event}
use Rattle.rules.specs.declared.Counts.{Counts}
use Rattle.rules.specs.declared.Slot.{Slot}
use Rattle.rules.specs.Events.{A, B, C, F, K, L, N, P, R, S, U, W, Y, letter, place, value, among, is, subject, lock_letters, on_lock}
use Rattle.rules.specs.Limits.{Limits, UpToFull, full, allowed, declared}
use Rattle.rules.specs.Words.{first}
use Rattle.rules.specs.Rules.{judge}
use Rattle.rules.proofs.Bounds.{declares, allowed_full, subject_bound}
use Rattle.rules.proofs.Laws.{each_among}

-- ---- a queue

abbrev pub QueueFits : ℕ → List Slot → ℕ → Ring → Type 0
QueueFits n ss i q = (q.len ≤ 8) × UpTo n (queued ss i q)

queue_fits : (n : ℕ) (ss : List Slot) (i : ℕ) (q : Ring) → queue_ok n ss i q ≡ true → QueueFits n ss i q
unfolding queue_ok queued
queue_fits n ss i q e =
    let p = both_true (leb q.len 8) (every 8 (slots_in n ss i q)) e in
    let few = leb-true q.len 8 p.0 in
    (few, up_around n ss i q.first q.len (λ j h. one j h (every_at 8 (slots_in n ss i q) p.1 j (under j h few))))
  where
    under : (j : ℕ) → j < q.len → q.len ≤ 8 → j < 8
    under j h k = omega arith

    one : (j : ℕ) → j < q.len → (leb q.len j || leb (slot_at ss i q j).position n) ≡ true → (slot_at ss i q j).position ≤ n
    one j h t = leb-true (slot_at ss i q j).position n (rw (lt-leb q.len j h) at t)

queue_ok_law : (n : ℕ) (ss : List Slot) (i : ℕ) (q : Ring) → QueueFits n ss i q → queue_ok n ss i q ≡ true
unfolding queue_ok queued
queue_ok_law n ss i q f =
    both (leb q.len 8) (every 8 (slots_in n ss i q)) (le-leb q.len 8 f.0)
    (every_all 8 (slots_in n ss i q) (λ j h. one j (leb q.len j) refl))
  where
    one : (j : ℕ) (b : Bool) → leb q.len j ≡ b → (b || leb (slot_at ss i q j).position n) ≡ true
    one j true p = refl
    one j false p = le-leb (slot_at ss i q j).position n (around_up n ss i q.first q.len f.1 j (leb-false q.len j p))

-- ---- a lock

pub record HoldFits (t n : ℕ) (a : Hold) : Type 0 where
  pub holder : a.holder ≤ t
  pub depth : a.depth ≤ n
  pub none : a.holder ≡ 0 → a.depth ≡ 0
  pub some : a.depth ≡ 0 → a.holder ≡ 0

hold_fits : (t n : ℕ) (a : Hold) → hold_ok t n a ≡ true → HoldFits t n a
hold_fits t n a e = record {
  holder = leb-true a.holder t q.0;
  depth = leb-true a.depth n q.1;
  none = λ z. left z (eqb a.holder 0) (eqb a.depth 0) refl (eq-eqb a.holder 0 z) qc.1;
  some = λ z. right z (eqb a.holder 0) (eqb a.depth 0) refl (eq-eqb a.depth 0 z) qd.1;
}
  where
    A1 : Bool
    A1 = leb a.holder t && leb a.depth n

    C1 : Bool
    C1 = not (eqb a.holder 0) || eqb a.depth 0

    D1 : Bool
    D1 = eqb a.holder 0 || not (eqb a.depth 0)

    qd : ((A1 && C1) ≡ true) × (D1 ≡ true)
    qd = both_true (A1 && C1) D1 e

    qc : (A1 ≡ true) × (C1 ≡ true)
    qc = both_true A1 C1 qd.0

    q : (leb a.holder t ≡ true) × (leb a.depth n ≡ true)
    q = both_true (leb a.holder t) (leb a.depth n) qc.0

    left : a.holder ≡ 0 → (x y : Bool) → eqb a.depth 0 ≡ y → x ≡ true → (not x || y) ≡ true → a.depth ≡ 0
    left z true y r s h = eqb-true a.depth 0 (r ∙ h)
    left z false y r s h = absurd (subst T (sym s) tt)

    right : a.depth ≡ 0 → (x y : Bool) → eqb a.holder 0 ≡ x → y ≡ true → (x || not y) ≡ true → a.holder ≡ 0
    right z true y r s h = eqb-true a.holder 0 r
    right z false true r s h = absurd (subst T (sym h) tt)
    right z false false r s h = absurd (subst T (sym s) tt)

hold_ok_law : (t n : ℕ) (a : Hold) → HoldFits t n a → hold_ok t n a ≡ true
hold_ok_law t n a f = rw (le-leb a.holder t f.holder, le-leb a.depth n f.depth) (go (eqb a.holder 0) (eqb a.depth 0) refl refl)
  where
    go : (x y : Bool) → eqb a.holder 0 ≡ x → eqb a.depth 0 ≡ y → ((not x || y) && (x || not y)) ≡ true
    go true true p q = refl
    go true false p q = absurd (eqb-false a.depth 0 q (f.none (eqb-true a.holder 0 p)))
    go false true p q = absurd (eqb-false a.holder 0 p (f.some (eqb-true a.depth 0 q)))
    go false false p q = refl

-- ---- a waiting

wait_fits : (l n : ℕ) (w : Waiting) → wait_ok l n w ≡ true → WaitFits l n w
wait_fits l n w e = go (eqb w.lock 0) refl e
  where
    go : (b : Bool) → eqb w.lock 0 ≡ b → (b || leb w.lock l && ltb 0 w.depth && leb w.depth n) ≡ true → WaitFits l n w
    go true q e = inl (eqb-true w.lock 0 q)
    go false q e =
        let three = both_true (leb w.lock l && ltb 0 w.depth) (leb w.depth n) e in
        let two = both_true (leb w.lock l) (ltb 0 w.depth) three.0 in
        inr (leb-true w.lock l two.0, ltb-true 0 w.depth two.1, leb-true w.depth n three.1)

wait_ok_law : (l n : ℕ) (w : Waiting) → WaitFits l n w → wait_ok l n w ≡ true
wait_ok_law l n w (inl q) = rw (eq-eqb w.lock 0 q)
wait_ok_law l n w (inr f) = rw (le-leb w.lock l f.0, lt-ltb 0 w.depth f.1, le-leb w.depth n f.2) (or-true (eqb w.lock 0))

-- ---- a cell

-- its positions are at most n
pub record CellFits (n : ℕ) (c : Cell) : Type 0 where
  pub source : c.source ≤ n
  pub written : c.written ≤ n
  pub loaded : c.loaded ≤ n
  pub used : c.used ≤ n
  pub assigned : c.assigned ≤ n

cell_fits : (n : ℕ) (c : Cell) → cell_ok n c ≡ true → CellFits n c
cell_fits n c e =
    let five = both_true (leb c.source n && leb c.written n && leb c.loaded n && leb c.used n) (leb c.assigned n) e in
    let four = both_true (leb c.source n && leb c.written n && leb c.loaded n) (leb c.used n) five.0 in
    let three = both_true (leb c.source n && leb c.written n) (leb c.loaded n) four.0 in
    let two = both_true (leb c.source n) (leb c.written n) three.0 in
    record {
      source = leb-true c.source n two.0;
      written = leb-true c.written n two.1;
      loaded = leb-true c.loaded n three.1;
      used = leb-true c.used n four.1;
      assigned = leb-true c.assigned n five.1;
    }

cell_ok_law : (n : ℕ) (c : Cell) → CellFits n c → cell_ok n c ≡ true
cell_ok_law n c f = rw (le-leb c.source n f.source, le-leb c.written n f.written, le-leb c.loaded n f.loaded, le-leb c.used n f.used, le-leb c.assigned n f.assigned) refl

-- ---- the whole state

pub record Range (m : Limits) (s : State) : Type 0 where
  pub counts : allowed m s.counts ≡ true
  pub events : s.events ≤ m.events
  pub hold : (l : ℕ) → l < 8 → HoldFits s.counts.threads s.events (get_or s.holds l no_hold)
  pub locked : (t : ℕ) → t < 8 → get_or s.locked t 0 ≤ s.events
  pub wait : (t : ℕ) → t < 8 → WaitFits s.counts.locks s.events (get_or s.waits t no_wait)
  pub cell : (i : ℕ) → i < 128 → CellFits s.events (get_or s.cells i blank)
  pub reads : (i : ℕ) → i < 128 → QueueFits s.events s.reads i (get_or s.cells i blank).reads
  pub stores : (i : ℕ) → i < 128 → QueueFits s.events s.stores i (get_or s.cells i blank).stores

module _ (m : Limits) (s : State) where
  abbrev Q : ℕ → Bool
  Q = queues_in s.events s.cells s.reads (λ c. c.reads)

  abbrev O : ℕ → Bool
  O = queues_in s.events s.cells s.stores (λ c. c.stores)

  abbrev A2 : Bool
  A2 = allowed m s.counts && leb s.events m.events

  abbrev thread : (t : ℕ) → threads_in s t ≡ true → (wait_ok s.counts.locks s.events (get_or s.waits t no_wait) ≡ true) × (leb (get_or s.locked t 0) s.events ≡ true)
  thread t e = both_true (wait_ok s.counts.locks s.events (get_or s.waits t no_wait)) (leb (get_or s.locked t 0) s.events) e

  pub range : in_range m s ≡ true → Range m s
  unfolding in_range holds_ok threads_ok cells_ok queues_ok
  range e =
      let seven = both_true (A2 && every 8 (holds_in s) && every 8 (threads_in s) && every 128 (cells_in s) && every 128 Q) (every 128 O) e in
      let six = both_true (A2 && every 8 (holds_in s) && every 8 (threads_in s) && every 128 (cells_in s)) (every 128 Q) seven.0 in
      let five = both_true (A2 && every 8 (holds_in s) && every 8 (threads_in s)) (every 128 (cells_in s)) six.0 in
      let four = both_true (A2 && every 8 (holds_in s)) (every 8 (threads_in s)) five.0 in
      let three = both_true A2 (every 8 (holds_in s)) four.0 in
      let two = both_true (allowed m s.counts) (leb s.events m.events) three.0 in
      record {
        counts = two.0;
        events = leb-true s.events m.events two.1;
        hold = λ l h. hold_fits s.counts.threads s.events (get_or s.holds l no_hold) (every_at 8 (holds_in s) three.1 l h);
        locked = λ t h. leb-true (get_or s.locked t 0) s.events (thread t (every_at 8 (threads_in s) four.1 t h)).1;
        wait = λ t h. wait_fits s.counts.locks s.events (get_or s.waits t no_wait) (thread t (every_at 8 (threads_in s) four.1 t h)).0;
        cell = λ i h. cell_fits s.events (get_or s.cells i blank) (every_at 128 (cells_in s) five.1 i h);
        reads = λ i h. queue_fits s.events s.reads i (get_or s.cells i blank).reads (every_at 128 Q six.1 i h);
        stores = λ i h. queue_fits s.events s.stores i (get_or s.cells i blank).stores (every_at 128 O seven.1 i h);
      }

  pub in_range_law : Range m s → in_range m s ≡ true
  unfolding in_range holds_ok threads_ok cells_ok queues_ok
  in_range_law r =
      rw (
        r.counts,
        le-leb s.events m.events r.events,
        every_all 8 (holds_in s) (λ i h. hold_ok_law s.counts.threads s.events (get_or s.holds i no_hold) (r.hold i h)),
        every_all 8 (threads_in s) (λ t h. rw (wait_ok_law s.counts.locks s.events (get_or s.waits t no_wait) (r.wait t h), le-leb (get_or s.locked t 0) s.events (r.locked t h)) refl),
        every_all 128 (cells_in s) (λ i h. cell_ok_law s.events (get_or s.cells i blank) (r.cell i h)),
        every_all 128 Q (λ i h. queue_ok_law s.events s.reads i (get_or s.cells i blank).reads (r.reads i h)),
        every_all 128 O (λ i h. queue_ok_law s.events s.stores i (get_or s.cells i blank).stores (r.stores i h)),
      )

-- ---- what the range gives

-- the declared counts fit the arrays
pub record Room (h : Counts) : Type 0 where
  pub threads : h.threads ≤ 8
  pub variables : h.variables ≤ 16
  pub locks : h.locks ≤ 8

pub room : (m : Limits) (h : Counts) → UpToFull m → allowed m h ≡ true → Room h
room m h u e =
    let d = declares m h e in
    record { threads = omega (arith, d.threads, u.threads); variables = omega (arith, d.variables, u.variables); locks = omega (arith, d.locks, u.locks) }

-- what is declared of an event
place_declared : (h : Counts) (e : Event) → declared h e ≡ true → place e.kind < cond (on_lock e) h.locks h.variables
unfolding declared
place_declared h e d =
    let r = cond (on_lock e) h.locks h.variables in
    let p = (both_true (ltb e.thread h.threads) (ltb (subject e) h.threads && ltb (place e.kind) r) d).1 in
    ltb-true (place e.kind) r (both_true (ltb (subject e) h.threads) (ltb (place e.kind) r) p).1

pub thread_declared : (h : Counts) (e : Event) → declared h e ≡ true → e.thread < h.threads
unfolding declared
thread_declared h e d =
    ltb-true e.thread h.threads
    (both_true (ltb e.thread h.threads) (ltb (subject e) h.threads && ltb (place e.kind) (cond (on_lock e) h.locks h.variables)) d).0

lock_declared : (h : Counts) (e : Event) → declared h e ≡ true → T (among lock_letters (letter e.kind)) → lock_of e.kind < h.locks
unfolding on_lock is lock_of
lock_declared h e d b = go (among lock_letters (letter e.kind)) b (place_declared h e d)
  where
    go : (x : Bool) → T x → place e.kind < cond x h.locks h.variables → cond x (place e.kind) 0 < h.locks
    go true b q = q
    go false b q = absurd b

-- the places of a declared event lie in the arrays
pub within : (h : Counts) (e : Event) → Room h → declared h e ≡ true → Within e.thread e.kind
unfolding on_lock is var_of lock_of
within h e r d = record {
  thread = up (thread_declared h e d) r.threads;
  subject = up (subject_bound h e d) r.threads;
  variable = var (among lock_letters (letter e.kind)) (place e.kind) (place_declared h e d);
  lock = lock (among lock_letters (letter e.kind)) (place e.kind) (place_declared h e d);
}
  where
    up : {x y z : ℕ} → x < y → y ≤ z → x < z
    up p q = omega arith

    var : (b : Bool) (x : ℕ) → x < cond b h.locks h.variables → cond b 0 x < 16
    var true x q = lit< tt
    var false x q = up q r.variables

    lock : (b : Bool) (x : ℕ) → x < cond b h.locks h.variables → cond b x 0 < 8
    lock true x q = up q r.locks
    lock false x q = lit< tt

past : {A : Type 0} (l : List A) (i : ℕ) (d : A) → length l ≤ i → get_or l i d ≡ d
past [] i d h = refl
past (x ∷ l) zero d h = absurd (not-suc-le-zero h)
past (x ∷ l) (suc i) d h = past l i d (omega arith)

pub bounded : (m : Limits) (s : State) → Shape s → Range m s → Bounded s
bounded m s h r = record { source = λ t v. source t v (ltb t 8) (ltb v 16) refl refl; locked = λ t. locked t (ltb t 8) refl; holder = λ l. holder l (ltb l 8) refl; waits = λ t. waits t (ltb t 8) refl }
  where
    number : (t v : ℕ) → t < 8 → v < 16 → 16 * t + v < 128
    number t v g k = omega arith

    source : (t v : ℕ) (x y : Bool) → ltb t 8 ≡ x → ltb v 16 ≡ y → (cell_at s t v).source ≤ s.events
    source t v true true p q = rw (cell_same s t v (ltb-true t 8 p) (ltb-true v 16 q)) (r.cell (16 * t + v) (number t v (ltb-true t 8 p) (ltb-true v 16 q))).source
    source t v true false p q = unfold cell_at in rw (p, q) zero-le
    source t v false y p q = unfold cell_at in rw p zero-le

    locked : (t : ℕ) (x : Bool) → ltb t 8 ≡ x → get_or s.locked t 0 ≤ s.events
    locked t true p = r.locked t (ltb-true t 8 p)
    locked t false p = let q = ltb-false t 8 p in let z = h.locked in rw (past s.locked t 0 (omega arith)) zero-le

    holder : (l : ℕ) (x : Bool) → ltb l 8 ≡ x → (get_or s.holds l no_hold).holder ≤ s.counts.threads
    holder l true p = (r.hold l (ltb-true l 8 p)).holder
    holder l false p = let q = ltb-false l 8 p in let z = h.holds in rw (past s.holds l no_hold (omega arith)) zero-le

    waits : (t : ℕ) (x : Bool) → ltb t 8 ≡ x → WaitFits s.counts.locks s.events (get_or s.waits t no_wait)
    waits t true p = r.wait t (ltb-true t 8 p)
    waits t false p = let q = ltb-false t 8 p in let z = h.waits in rw (past s.waits t no_wait (omega arith)) (inl refl)

-- ---- an accepted event keeps the range

-- a queue, of the cell that the event is on and of every other
queue_kept : (f : Cell → Ring) (ss : List Slot) (cs : List Cell) (a : ℕ) (x : Slot) (m n : Bool) (c : Cell) (k : ℕ)
    → length cs ≡ 128 → length ss ≡ 1024 → a < 128 → (T m → (f (get_or cs a blank)).len < 8)
    → f c ≡ cond m (pushed (f (get_or cs a blank))) (cond n (popped (f (get_or cs a blank))) (f (get_or cs a blank)))
    → x.position ≤ suc k
    → ((i : ℕ) → i < 128 → QueueFits k ss i (f (get_or cs i blank))) → (i : ℕ) → i < 128
    → QueueFits (suc k) (set ss (behind a (f (get_or cs a blank))) (cond m x (get_or ss (behind a (f (get_or cs a blank))) no_slot))) i (f (get_or (set cs a c) i blank))
queue_kept f ss cs a x m n c k lc ls ha room after px old i hi = rw (set_at cs a c blank (omega arith) i) (go (eqb a i) refl)
  where
    q : Ring
    q = f (get_or cs a blank)

    y : Slot
    y = cond m x (get_or ss (behind a q) no_slot)

    inside : (a k : ℕ) → a < 128 → 8 * a + k % 8 < length ss
    inside a k h = omega arith

    few : (m n : Bool) → (T m → q.len < 8) → q.len ≤ 8 → (cond m (pushed q) (cond n (popped q) q)).len ≤ 8
    few true n r h = rw (lt-ltb q.len 8 (r tt)) (more q.len (r tt))
      where
        more : (l : ℕ) → l < 8 → l + 1 ≤ 8
        more l h = omega arith
    few false true r h = less q.len h
      where
        less : (l : ℕ) → l ≤ 8 → l - 1 ≤ 8
        less l h = omega arith
    few false false r h = h

    go : (b : Bool) → eqb a i ≡ b → QueueFits (suc k) (set ss (behind a q) y) i (f (cond b c (get_or cs i blank)))
    go true e = rw (← (eqb-true a i e), after)
        (few m n room (old a ha).0, rw (queued_after ss a q x m n room (inside a (q.first + q.len) ha)) (up_after k (queued ss a q) x m n (old a ha).1 px))
    go false e = ((old i hi).0, rw (queued_apart ss y i a (q.first + q.len) (f (get_or cs i blank)) (λ z. eqb-false a i e (sym z))) (up_more k (queued ss i (f (get_or cs i blank))) (old i hi).1))

hold_more : (t n : ℕ) (a : Hold) → HoldFits t n a → HoldFits t (suc n) a
hold_more t n a f = record { holder = f.holder; depth = le_step f.depth; none = f.none; some = f.some }

-- a C takes a number from 1 to n
hold_kept : (h n : ℕ) (a : Hold) (w : Waiting) (t k : ℕ) → t < h → HoldFits h n a → (T (among (C ∷ []) k) → (0 < w.depth) × (w.depth ≤ n)) → HoldFits h (suc n) (hold_after a w t k)
unfolding hold_after
hold_kept h n a w t k l f b = go (among (K ∷ []) k) (among (N ∷ []) k) (among (Y ∷ []) k) (among (C ∷ []) k) (leb (depth_of a t) 1) refl (up (depth_under a t) f.depth) b
  where
    lost : {d : ℕ} → 1 < d → d - 1 ≡ 0 → ⊥
    lost h e = omega arith

    held : (d : ℕ) → d ≤ a.depth → 1 < d → a.holder ≡ 0 → ⊥
    held d p q e = let z = f.none e in omega arith

    up : {x y z : ℕ} → x ≤ y → y ≤ z → x ≤ z
    up p q = omega arith

    -- t holds it d times
    holds : (d : ℕ) → 0 < d → d ≤ suc n → HoldFits h (suc n) (record { holder = t + 1; depth = d })
    holds d p q = record { holder = omega arith; depth = q; none = λ e. absurd (more t e); some = λ e. absurd (some d p e) }
      where
        more : (x : ℕ) → x + 1 ≡ 0 → ⊥
        more x e = omega arith

        some : (x : ℕ) → 0 < x → x ≡ 0 → ⊥
        some x h e = omega arith

    nobody : HoldFits h (suc n) no_hold
    nobody = record { holder = zero-le; depth = zero-le; none = λ e. refl; some = λ e. refl }

    go : (x y v c z : Bool) → leb (depth_of a t) 1 ≡ z → depth_of a t ≤ n → (T c → (0 < w.depth) × (w.depth ≤ n))
        → HoldFits h (suc n)
        (cond x (record { holder = t + 1; depth = depth_of a t + 1 })
        (cond y (cond z no_hold (record { holder = a.holder; depth = depth_of a t - 1 })) (cond v no_hold (cond c (record { holder = t + 1; depth = w.depth }) a))))
    go true y v c z p d b = holds (depth_of a t + 1) (omega arith) (omega arith)
    go false true v c true p d b = nobody
    go false true v c false p d b = record { holder = f.holder; depth = omega arith; none = λ e. absurd (held (depth_of a t) (depth_under a t) (leb-false (depth_of a t) 1 p) e); some = λ e. absurd (lost (leb-false (depth_of a t) 1 p) e) }
    go false false true c z p d b = nobody
    go false false false true z p d b = holds w.depth (b tt).0 (le_step (b tt).1)
    go false false false false z p d b = hold_more h n a f

wait_more : (l n : ℕ) (w : Waiting) → WaitFits l n w → WaitFits l (suc n) w
wait_more l n w (inl q) = inl q
wait_more l n w (inr f) = inr (f.0, f.1, le_step f.2)

-- a Y is on one of l locks, which t holds
wait_kept : (l n : ℕ) (w : Waiting) (a : Hold) (i t k : ℕ) → WaitFits l n w → a.depth ≤ n → (T (among (Y ∷ []) k) → (i < l) × (0 < depth_of a t)) → WaitFits l (suc n) (wait_after w a i t k)
unfolding wait_after
wait_kept l n w a i t k f d b = go (among (Y ∷ []) k) (among (F ∷ []) k) (among (C ∷ []) k) b f
  where
    next : (x : ℕ) → x < l → x + 1 ≤ l
    next x h = omega arith

    up : {x y : ℕ} → x ≤ y → y ≤ n → x ≤ suc n
    up p q = omega arith

    go : (x y z : Bool) → (T x → (i < l) × (0 < depth_of a t)) → WaitFits l n w
        → WaitFits l (suc n) (cond x (record { lock = i + 1; depth = depth_of a t; notified = false }) (cond y (record { lock = w.lock; depth = w.depth; notified = true }) (cond z no_wait w)))
    go true y z b f = inr (next i (b tt).0, (b tt).1, up (depth_under a t) d)
    go false true z b f = wait_more l n w f
    go false false true b f = inl refl
    go false false false b f = wait_more l n w f

cell_more : (n : ℕ) (c : Cell) → CellFits n c → CellFits (suc n) c
cell_more n c f = record { source = le_step f.source; written = le_step f.written; loaded = le_step f.loaded; used = le_step f.used; assigned = le_step f.assigned }

cell_kept : (n : ℕ) (r : Slot) (k : ℕ) (x : ℤ) (c : Cell) → r.position ≤ n → CellFits n c → CellFits (suc n) (next_cell (suc n) r k x c)
unfolding next_cell
cell_kept n r k x c p h = record {
  source = source (among (A ∷ B ∷ []) k) (among (L ∷ []) k);
  written = one (among (W ∷ []) k) (le_refl (suc n)) (le_step h.written);
  loaded = one (among (L ∷ []) k) (le_step p) (le_step h.loaded);
  used = one (among (U ∷ []) k) (le_step h.loaded) (le_step h.used);
  assigned = one (among (A ∷ []) k) (le_refl (suc n)) (le_step h.assigned);
}
  where
    source : (x y : Bool) → cond x (suc n) (cond y (max c.source r.position) c.source) ≤ suc n
    source true y = le_refl (suc n)
    source false true = let q = h.source in omega arith
    source false false = le_step h.source

    one : (b : Bool) {x y : ℕ} → x ≤ suc n → y ≤ suc n → cond b x y ≤ suc n
    one true p q = p
    one false p q = q

pub kept : (m : Limits) (s : State) (e : Event) → UpToFull m → Shape s → Range m s → leb m.events s.events ≡ false → declared s.counts e ≡ true → judge s.counts (words_in s) e ≡ 0
    → Range m (step_state s e)
unfolding step_state
kept m s e u h r below d p = record {
  counts = r.counts;
  events = let z = leb-false m.events s.events below in omega arith;
  hold = λ l k. rw (add-one s.events, set_at s.holds (lock_of e.kind) (hold_after before waited t (letter e.kind)) no_hold in_holds l)
      (either (HoldFits s.counts.threads (suc s.events)) (eqb (lock_of e.kind) l)
      (hold_kept s.counts.threads s.events before waited t (letter e.kind) (thread_declared s.counts e d) (r.hold (lock_of e.kind) w.lock) back)
      (hold_more s.counts.threads s.events (get_or s.holds l no_hold) (r.hold l k)));
  wait = λ v k. rw (add-one s.events, set_at s.waits (subject e) (wait_after waited before (lock_of e.kind) t (letter e.kind)) no_wait in_waits v)
      (either (WaitFits s.counts.locks (suc s.events)) (eqb (subject e) v)
      (wait_kept s.counts.locks s.events waited before (lock_of e.kind) t (letter e.kind) (r.wait (subject e) w.subject) (r.hold (lock_of e.kind) w.lock).depth given_up_law)
      (wait_more s.counts.locks s.events (get_or s.waits v no_wait) (r.wait v k)));
  locked = λ v k. rw (add-one s.events, set_at s.locked t (locked_after (get_or s.locked t 0) (letter e.kind) (suc s.events)) 0 in_locked v)
      (either (λ (z : ℕ). z ≤ suc s.events) (eqb t v) (unfold locked_after in position (among (K ∷ C ∷ []) (letter e.kind))) (le_step (r.locked v k)));
  cell = λ j k. rw (add-one s.events, set_at s.cells i (next_cell (suc s.events) (first (reads_at s t v)) (letter e.kind) (value e.kind) (cell_at s t v)) blank in_cells j)
      (either (CellFits (suc s.events)) (eqb i j)
      (cell_kept s.events (first (reads_at s t v)) (letter e.kind) (value e.kind) (cell_at s t v) front (rw own (r.cell i num)))
      (cell_more s.events (get_or s.cells j blank) (r.cell j k)));
  reads = λ j k. rw (add-one s.events, own) (unfold read_after in
      queue_kept (λ c. c.reads) s.reads s.cells i (record { value = value e.kind; position = suc s.events }) (among (R ∷ []) (letter e.kind)) (among (L ∷ []) (letter e.kind)) (next_cell (suc s.events) (first (reads_at s t v)) (letter e.kind) (value e.kind) (get_or s.cells i blank)) s.events
      h.cells h.reads num (λ b. rw own at (read_few s e p b)) (unfold next_cell in refl) (le_refl (suc s.events)) r.reads j k);
  stores = λ j k. rw (add-one s.events, own) (unfold store_after in
      queue_kept (λ c. c.stores) s.stores s.cells i (record { value = value e.kind; position = cond (among (S ∷ []) (letter e.kind)) (get_or s.cells i blank).assigned (suc s.events) }) (among (S ∷ P ∷ []) (letter e.kind)) (among (W ∷ []) (letter e.kind)) (next_cell (suc s.events) (first (reads_at s t v)) (letter e.kind) (value e.kind) (get_or s.cells i blank)) s.events
      h.cells h.stores num (λ b. rw own at (store_few s e p b)) (unfold next_cell in refl) (either (λ (z : ℕ). z ≤ suc s.events) (among (S ∷ []) (letter e.kind)) (le_step (r.cell i num).assigned) (le_refl (suc s.events))) r.stores j k);
}
  where
    t : ℕ
    t = e.thread

    v : ℕ
    v = var_of e.kind

    i : ℕ
    i = 16 * e.thread + var_of e.kind

    w : Within e.thread e.kind
    w = within s.counts e (room m s.counts u r.counts) d

    before : Hold
    before = get_or s.holds (lock_of e.kind) no_hold

    waited : Waiting
    waited = get_or s.waits (subject e) no_wait

    -- what C takes again, by 30
    back : T (among (C ∷ []) (letter e.kind)) → (0 < waited.depth) × (waited.depth ≤ s.events)
    back b = go (r.wait (subject e) w.subject)
      where
        there : (waited.lock ≡ lock_of e.kind + 1) × (0 < waited.depth)
        there = waits_there s e p (each_among (among (F ∷ C ∷ [])) (C ∷ []) (letter e.kind) tt b)

        lost : (x y : ℕ) → x ≡ 0 → x ≡ y + 1 → ⊥
        lost x y p q = omega arith

        go : WaitFits s.counts.locks s.events waited → (0 < waited.depth) × (waited.depth ≤ s.events)
        go (inl q) = absurd (lost waited.lock (lock_of e.kind) q there.0)
        go (inr f) = (f.1, f.2)

    -- what Y remembers, by 12
    given_up_law : T (among (Y ∷ []) (letter e.kind)) → (lock_of e.kind < s.counts.locks) × (0 < depth_of before t)
    given_up_law b = (
      lock_declared s.counts e d (each_among (among lock_letters) (Y ∷ []) (letter e.kind) tt b),
      unlock_own s e p (each_among (among (N ∷ Y ∷ [])) (Y ∷ []) (letter e.kind) tt b),
    )

    num : i < 128
    num = let x = w.thread in let y = w.variable in omega arith

    own : cell_at s t v ≡ get_or s.cells i blank
    own = cell_same s t v w.thread w.variable

    front : (first (reads_at s t v)).position ≤ s.events
    front = up_first s.events (reads_at s t v) (unfold reads_at in rw own (r.reads i num).1)

    in_holds : lock_of e.kind < length s.holds
    in_holds = let x = w.lock in let y = h.holds in omega arith

    in_waits : subject e < length s.waits
    in_waits = let x = w.subject in let y = h.waits in omega arith

    in_locked : t < length s.locked
    in_locked = let x = w.thread in let y = h.locked in omega arith

    in_cells : i < length s.cells
    in_cells = let x = num in let y = h.cells in omega arith

    either : {X : Type 0} (Q : X → Type 0) (b : Bool) {x y : X} → Q x → Q y → Q (cond b x y)
    either Q true p q = p
    either Q false p q = q

    position : (b : Bool) → cond b (suc s.events) (get_or s.locked t 0) ≤ suc s.events
    position true = le_refl (suc s.events)
    position false = le_step (r.locked t w.thread)

-- in range by limits up to the full ones: by the full ones too
pub range_full : (m : Limits) (s : State) → UpToFull m → in_range m s ≡ true → in_range full s ≡ true
range_full m s u e =
    let r = range m s e in
    in_range_law full s (record {
      counts = allowed_full m s.counts u r.counts;
      events = omega (arith, r.events, u.events);
      hold = r.hold;
      locked = r.locked;
      wait = r.wait;
      cell = r.cell;
      reads = r.reads;
      stores = r.stores;
    })
