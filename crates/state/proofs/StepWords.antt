-- The words of the state after an accepted event are `next` of the words before it.
use Prim.Native.Nat.{ℕ, suc, pred, max, ◌+◌, ◌-◌, ◌*◌, ◌%◌, ◌≤◌, ◌<◌}
use native.Mathlib.Omega.{arith}
use native.Mathlib.Nat.{not-suc-le-zero}
use native.Mathlib.Numerals.{add-one, sub-one}
use mathlib.Core.Path.{◌≡◌, refl, sym, ap, ◌∙◌, subst}
use mathlib.Core.Logic.{◌≢◌, ◌⊎◌, inl, inr}
use mathlib.Core.Bool.{Bool, true, false, not, cond, ◌&&◌, ◌||◌, and-true, and-false}
use mathlib.Core.List.{List, [], ◌∷◌, ◌++◌}
use lib.Dec.{T, eqb, ltb, leb}
use lib.IntN.{ℤ}
use lib.ListN.{length, get_or, set, length-set}
use lib.Seq.{get_or-set_same, get_or-set_other}
use borrow.Author.Tests.{lt-ltb, le-ltb, ltb-true, ltb-false, eqb-true, eqb-false, eq-eqb, ne_eqb, leb-true, leb-false, not-false}
use Rattle.state.specs.declared.Ring.{Ring}
use Rattle.state.specs.declared.Cell.{Cell}
use Rattle.state.specs.declared.Hold.{Hold}
use Rattle.state.specs.declared.Waiting.{Waiting}
use Rattle.rules.specs.declared.Main.{Main}
use Rattle.state.specs.declared.State.{State}
use Rattle.state.specs.State.{no_slot, no_hold, no_wait, no_main, blank, around, queued, cell_at, reads_at, stores_at, depth_of, remembered_of, notified_of, words_in}
use Rattle.state.specs.Computed.Places.{Shape}
use Rattle.state.specs.Step.{pushed, popped, next_cell, read_after, store_after, hold_after, wait_after, main_after, locked_after, var_of, lock_of, Within, behind, step_state}
use Rattle.state.proofs.Letters.{disjoint, none_of}
use Rattle.state.proofs.LeafLaws.{cond_same, both_true}
use Rattle.state.proofs.Rings.{queued_length, queued_after, queued_apart}
use Rattle.rules.specs.declared.Event.{Event}
use Rattle.rules.specs.declared.Slot.{Slot}
use Rattle.rules.specs.declared.Kind.{Kind}
use Rattle.rules.specs.Events.{A, B, C, F, K, L, N, P, R, S, U, W, Y, letter, place, value, among, is, of, on, subject, lock_letters, locks}
use Rattle.rules.specs.Limits.{most}
use Rattle.rules.specs.Words.{first, accesses, by, locks_by, grip_after, tells}
use Rattle.rules.specs.Rules.{loc, waits, judge, some}
use Rattle.rules.proofs.Laws.{is_true, or_false_left, all_of, each_among, some_none, lock_free, unlock_held, barred, not_waiting, notify_waits, resume_waits, read_room, store_room, prescient_room}
use Rattle.rules.proofs.Held.{own_subject}
use Rattle.rules.proofs.Next.{others, grip_in, next}

pub step_shape : (s : State) (e : Event) → Shape s → Shape (step_state s e)
unfolding step_state
step_shape s e h = record {
  cells = simp length-set h.cells;
  reads = simp length-set h.reads;
  stores = simp length-set h.stores;
  locked = simp length-set h.locked;
  holds = simp length-set h.holds;
  memory = simp length-set h.memory;
  waits = simp length-set h.waits;
}

-- ---- tests

pub set_at : {A : Type 0} (l : List A) (i : ℕ) (a d : A) → i < length l → (j : ℕ) → get_or (set l i a) j d ≡ cond (eqb i j) a (get_or l j d)
set_at l i a d h j = go (eqb i j) refl
  where
    go : (x : Bool) → eqb i j ≡ x → get_or (set l i a) j d ≡ cond x a (get_or l j d)
    go true q = rw (← (eqb-true i j q)) (get_or-set_same l i a d h)
    go false q = get_or-set_other l i j a d (λ e. eqb-false i j q (sym e))

-- the place of an event on a variable, and of one on a lock
var_is : (ks : List ℕ) → T (disjoint ks lock_letters) → (k : Kind) → T (among ks (letter k)) → place k ≡ var_of k
unfolding var_of
var_is ks a k h = rw (none_of ks lock_letters a (letter k) h) refl

lock_is : (ks : List ℕ) → T (all_of (among lock_letters) ks) → (k : Kind) → T (among ks (letter k)) → place k ≡ lock_of k
unfolding lock_of
lock_is ks a k h = rw (is_true {b = among lock_letters (letter k)} (each_among (among lock_letters) ks (letter k) a h)) refl

-- the subject of an event that is no F
subject_own : (ks : List ℕ) → T (disjoint ks (F ∷ [])) → (e : Event) → T (among ks (letter e.kind)) → subject e ≡ e.thread
unfolding is
subject_own ks d e h = own_subject e (none_of ks (F ∷ []) d (letter e.kind) h)

-- one of two letters
either : {X : Type 0} (a b : Bool) → T (a || (b || false)) → (T (a || false) → X) → (T (b || false) → X) → X
either true b h f g = f tt
either false true h f g = g tt
either false false h f g = absurd h

-- two tests that are the same where b holds
where_held : (b : Bool) {x y : Bool} → (T b → x ≡ y) → (b && x) ≡ (b && y)
where_held true q = q tt
where_held false q = refl

-- a test on letters, with the event's variable, or its lock, for its place
by_at : (ks : List ℕ) → T (disjoint ks lock_letters) → (t v : ℕ) (e : Event)
    → by ks t v e ≡ (among ks (letter e.kind) && (eqb e.thread t && eqb (var_of e.kind) v))
unfolding by is of on
by_at ks a t v e = where_held (among ks (letter e.kind)) (λ h. ap (λ (z : ℕ). eqb e.thread t && eqb z v) (var_is ks a e.kind h))

lock_at_law : (ks : List ℕ) → T (all_of (among lock_letters) ks) → (t l : ℕ) (e : Event)
    → by ks t l e ≡ (among ks (letter e.kind) && (eqb e.thread t && eqb (lock_of e.kind) l))
unfolding by is of on
lock_at_law ks a t l e = where_held (among ks (letter e.kind)) (λ h. ap (λ (z : ℕ). eqb e.thread t && eqb z l) (lock_is ks a e.kind h))

-- and with its subject for its thread, where it is no F
subject_at : (ks : List ℕ) → T (all_of (among lock_letters) ks) → T (disjoint ks (F ∷ [])) → (t l : ℕ) (e : Event)
    → by ks t l e ≡ (among ks (letter e.kind) && (eqb (subject e) t && eqb (lock_of e.kind) l))
subject_at ks a d t l e =
    lock_at_law ks a t l e ∙ where_held (among ks (letter e.kind)) (λ h. ap (λ (z : ℕ). eqb z t && eqb (lock_of e.kind) l) (sym (subject_own ks d e h)))

tells_at : (t l : ℕ) (e : Event) → tells t l e ≡ (among (Y ∷ F ∷ C ∷ []) (letter e.kind) && (eqb (subject e) t && eqb (lock_of e.kind) l))
unfolding tells is on
tells_at t l e = where_held (among (Y ∷ F ∷ C ∷ []) (letter e.kind)) (λ h. ap (λ (z : ℕ). eqb (subject e) t && eqb z l) (lock_is (Y ∷ F ∷ C ∷ []) tt e.kind h))

-- ---- one cell changed

-- whether two numbers are of one cell
apart : (t v a b : ℕ) → v < 16 → b < 16 → (eqb a t && eqb b v) ≡ false → 16 * t + v ≢ 16 * a + b
apart t v a b h k q e = go (eqb a t) (eqb b v) refl refl q
  where
    go : (x y : Bool) → eqb a t ≡ x → eqb b v ≡ y → (x && y) ≡ false → ⊥
    go true true p r q = subst T q tt
    go true false p r q = let n = eqb-true a t p in eqb-false b v r (omega arith)
    go false y p r q = eqb-false a t p (omega arith)

set_cell : (cs : List Cell) (a b : ℕ) (c : Cell) → length cs ≡ 128 → a < 8 → b < 16 → (t v : ℕ)
    → cond (ltb t 8 && ltb v 16) (get_or (set cs (16 * a + b) c) (16 * t + v) blank) blank
    ≡ cond (eqb a t && eqb b v) c (cond (ltb t 8 && ltb v 16) (get_or cs (16 * t + v) blank) blank)
set_cell cs a b c n h k t v = go (eqb a t && eqb b v) refl
  where
    same : a ≡ t → b ≡ v → cond (ltb t 8 && ltb v 16) (get_or (set cs (16 * a + b) c) (16 * t + v) blank) blank ≡ c
    same p r = rw (← p, ← r, lt-ltb a 8 h, lt-ltb b 16 k) (get_or-set_same cs (16 * a + b) c blank (omega arith))

    other : (x y : Bool) → ltb v 16 ≡ y → (eqb a t && eqb b v) ≡ false
        → cond (x && y) (get_or (set cs (16 * a + b) c) (16 * t + v) blank) blank ≡ cond (x && y) (get_or cs (16 * t + v) blank) blank
    other true true p q = get_or-set_other cs (16 * a + b) (16 * t + v) c blank (apart t v a b (ltb-true v 16 p) k q)
    other true false p q = refl
    other false y p q = refl

    go : (x : Bool) → (eqb a t && eqb b v) ≡ x
        → cond (ltb t 8 && ltb v 16) (get_or (set cs (16 * a + b) c) (16 * t + v) blank) blank
        ≡ cond x c (cond (ltb t 8 && ltb v 16) (get_or cs (16 * t + v) blank) blank)
    go true q = let p = both_true (eqb a t) (eqb b v) q in same (eqb-true a t p.0) (eqb-true b v p.1)
    go false q = other (ltb t 8) (ltb v 16) refl q

-- the cell that an event is on becomes `next_cell`, the others stay
pub cell_after : (s : State) (e : Event) → Shape s → Within e.thread e.kind → (t v : ℕ)
    → cell_at (step_state s e) t v
    ≡ cond (eqb e.thread t && eqb (var_of e.kind) v) (next_cell (s.events + 1) (first (reads_at s t v)) (letter e.kind) (value e.kind) (cell_at s t v)) (cell_at s t v)
cell_after s e h w t v = unfold cell_at step_state in (set_cell s.cells a b (after a b) h.cells w.thread w.variable t v) ∙ go (eqb a t && eqb b v) refl
  where
    a : ℕ
    a = e.thread

    b : ℕ
    b = var_of e.kind

    after : ℕ → ℕ → Cell
    after t v = next_cell (s.events + 1) (first (reads_at s t v)) (letter e.kind) (value e.kind) (cell_at s t v)

    go : (x : Bool) → (eqb a t && eqb b v) ≡ x → cond x (after a b) (cell_at s t v) ≡ cond x (after t v) (cell_at s t v)
    go true q = let r = both_true (eqb a t) (eqb b v) q in rw (eqb-true a t r.0, eqb-true b v r.1)
    go false q = refl

-- ---- a queue changed

-- a cell that no state holds has empty queues
no_cell : (s : State) (t v : ℕ) (f : Cell → Ring) → (ltb t 8 && ltb v 16) ≡ false → f (cell_at s t v) ≡ f blank
unfolding cell_at
no_cell s t v f q = rw q

queue_after : (f : Cell → Ring) (ss : List Slot) (s : State) (a b : ℕ) (x : Slot) (m n : Bool) (c : ℕ → ℕ → Cell)
    → (f blank).len ≡ 0 → length ss ≡ 1024 → a < 8 → b < 16 → (T m → (f (cell_at s a b)).len < 8)
    → ((t v : ℕ) → f (c t v) ≡ cond m (pushed (f (cell_at s t v))) (cond n (popped (f (cell_at s t v))) (f (cell_at s t v))))
    → (t v : ℕ)
    → queued (set ss (behind (16 * a + b) (f (cell_at s a b))) (cond m x (get_or ss (behind (16 * a + b) (f (cell_at s a b))) no_slot))) (16 * t + v) (f (cond (eqb a t && eqb b v) (c t v) (cell_at s t v)))
    ≡ cond (m && (eqb a t && eqb b v)) (queued ss (16 * t + v) (f (cell_at s t v)) ++ (x ∷ [])) (cond (n && (eqb a t && eqb b v)) (others (queued ss (16 * t + v) (f (cell_at s t v)))) (queued ss (16 * t + v) (f (cell_at s t v))))
queue_after f ss s a b x m n c none len ha hb room after t v = go (eqb a t && eqb b v) refl
  where
    q : Ring
    q = f (cell_at s a b)

    y : Slot
    y = cond m x (get_or ss (behind (16 * a + b) q) no_slot)

    inside : (i k : ℕ) → i < 128 → 8 * i + k % 8 < length ss
    inside i k h = omega arith

    number : (a b : ℕ) → a < 8 → b < 16 → 16 * a + b < 128
    number a b g h = omega arith

    same : a ≡ t → b ≡ v
        → queued (set ss (behind (16 * a + b) q) y) (16 * t + v) (f (c t v))
        ≡ cond (m && true) (queued ss (16 * t + v) (f (cell_at s t v)) ++ (x ∷ [])) (cond (n && true) (others (queued ss (16 * t + v) (f (cell_at s t v)))) (queued ss (16 * t + v) (f (cell_at s t v))))
    same p r = rw (← p, ← r, after a b, and-true m, and-true n) (queued_after ss (16 * a + b) q x m n room (inside (16 * a + b) (q.first + q.len) (number a b ha hb)))

    empty : (r : Ring) → r.len ≡ 0 → (zs : List Slot) (i : ℕ) → queued zs i r ≡ []
    empty r h zs i = unfold queued in rw h (unfold around in refl)

    other : (z : Bool) → (ltb t 8 && ltb v 16) ≡ z → (eqb a t && eqb b v) ≡ false → queued (set ss (behind (16 * a + b) q) y) (16 * t + v) (f (cell_at s t v)) ≡ queued ss (16 * t + v) (f (cell_at s t v))
    other true z p = queued_apart ss y (16 * t + v) (16 * a + b) (q.first + q.len) (f (cell_at s t v)) (apart t v a b (ltb-true v 16 (both_true (ltb t 8) (ltb v 16) z).1) hb p)
    other false z p = rw (no_cell s t v f z, empty (f blank) none (set ss (behind (16 * a + b) q) y) (16 * t + v), empty (f blank) none ss (16 * t + v)) refl

    go : (z : Bool) → (eqb a t && eqb b v) ≡ z
        → queued (set ss (behind (16 * a + b) q) y) (16 * t + v) (f (cond z (c t v) (cell_at s t v)))
        ≡ cond (m && z) (queued ss (16 * t + v) (f (cell_at s t v)) ++ (x ∷ [])) (cond (n && z) (others (queued ss (16 * t + v) (f (cell_at s t v)))) (queued ss (16 * t + v) (f (cell_at s t v))))
    go true p = let r = both_true (eqb a t) (eqb b v) p in same (eqb-true a t r.0) (eqb-true b v r.1)
    go false p = rw (and-false m, and-false n) (other (ltb t 8 && ltb v 16) refl p)

-- ---- a lock changed

pub holder_eqb : (t u : ℕ) → eqb (t + 1) (u + 1) ≡ eqb t u
holder_eqb t u = go (eqb t u) refl
  where
    differ : (t ≡ u → ⊥) → t + 1 ≡ u + 1 → ⊥
    differ d e = d (omega arith)

    go : (y : Bool) → eqb t u ≡ y → eqb (t + 1) (u + 1) ≡ y
    go true p = let q = eqb-true t u p in eq-eqb (t + 1) (u + 1) (omega arith)
    go false p = ne_eqb (t + 1) (u + 1) (differ (eqb-false t u p))

nobody : (u : ℕ) → eqb 0 (u + 1) ≡ false
nobody u = ne_eqb 0 (u + 1) none
  where
    none : 0 ≡ u + 1 → ⊥
    none e = omega arith

-- a lock that t holds has t for its holder
pub holder_is : (a : Hold) (t : ℕ) → 0 < depth_of a t → (ltb t 8 ≡ true) × (a.holder ≡ t + 1)
unfolding depth_of
holder_is a t h = go (ltb t 8) (eqb a.holder (t + 1)) refl h
  where
    go : (x y : Bool) → eqb a.holder (t + 1) ≡ y → 0 < cond (x && y) a.depth 0 → (x ≡ true) × (a.holder ≡ t + 1)
    go true true q h = (refl, eqb-true a.holder (t + 1) q)
    go true false q h = absurd (not-suc-le-zero h)
    go false y q h = absurd (not-suc-le-zero h)

-- the depth of a hold by its holder, and by others
depth_own : (h d t : ℕ) → t < 8 → h ≡ t + 1 → depth_of (record { holder = h; depth = d }) t ≡ d
unfolding depth_of
depth_own h d t l e = rw (lt-ltb t 8 l, eq-eqb h (t + 1) e) refl

pub depth_other : (h d u : ℕ) → eqb h (u + 1) ≡ false → depth_of (record { holder = h; depth = d }) u ≡ 0
unfolding depth_of
depth_other h d u q = rw (q, and-false (ltb u 8)) refl

-- who holds a lock is alone
alone : (a : Hold) (t u : ℕ) → 0 < depth_of a t → eqb t u ≡ false → eqb a.holder (u + 1) ≡ false
alone a t u h q = ap (λ (z : ℕ). eqb z (u + 1)) (holder_is a t h).1 ∙ holder_eqb t u ∙ q

-- after K and C, where nobody else holds the lock; after N and Y, where t holds it; after any other event. g is what u remembers of it
hold_depth : (a : Hold) (w : Waiting) (t u k g : ℕ) → t < 8
    → (T (among (K ∷ C ∷ []) k) → eqb t u ≡ false → depth_of a u ≡ 0) → (T (among (N ∷ Y ∷ []) k) → 0 < depth_of a t)
    → (T (among (C ∷ []) k) → eqb t u ≡ true → (0 < g) × (w.depth ≡ g))
    → depth_of (hold_after a w t k) u
    ≡ cond (among (K ∷ []) k && eqb t u) (suc (depth_of a u))
    (cond (among (N ∷ []) k && eqb t u) (pred (depth_of a u)) (cond (among (Y ∷ []) k && eqb t u) 0 (cond (among (C ∷ []) k && eqb t u && ltb 0 g) g (depth_of a u))))
unfolding hold_after
hold_depth a w t u k g l free own back = go (eqb K k) (eqb N k) (eqb Y k) (eqb C k) (eqb t u) refl free own back
  where
    -- T's own depth after N
    less : (b : Bool) → leb (depth_of a t) 1 ≡ b → 0 < depth_of a t
        → depth_of (cond b no_hold (record { holder = a.holder; depth = depth_of a t - 1 })) t ≡ pred (depth_of a t)
    less true q h = let x = leb-true (depth_of a t) 1 q in depth_other 0 0 t (nobody t) ∙ one (depth_of a t) x
      where
        one : (d : ℕ) → d ≤ 1 → 0 ≡ pred d
        one d x = omega arith
    less false q h = depth_own a.holder (depth_of a t - 1) t l (holder_is a t h).1 ∙ sub-one (depth_of a t)

    -- another's after N
    rest : (b : Bool) → eqb t u ≡ false → 0 < depth_of a t → depth_of (cond b no_hold (record { holder = a.holder; depth = depth_of a t - 1 })) u ≡ 0
    rest true q h = depth_other 0 0 u (nobody u)
    rest false q h = depth_other a.holder (depth_of a t - 1) u (alone a t u h q)

    none : 0 < depth_of a t → eqb t u ≡ false → 0 ≡ depth_of a u
    none h q = sym (depth_other a.holder a.depth u (alone a t u h q))

    go : (m n y c z : Bool) → eqb t u ≡ z → (T (m || (c || false)) → z ≡ false → depth_of a u ≡ 0) → (T (n || (y || false)) → 0 < depth_of a t)
        → (T (c || false) → z ≡ true → (0 < g) × (w.depth ≡ g))
        → depth_of
        (cond (m || false) (record { holder = t + 1; depth = depth_of a t + 1 })
        (cond (n || false) (cond (leb (depth_of a t) 1) no_hold (record { holder = a.holder; depth = depth_of a t - 1 }))
        (cond (y || false) no_hold (cond (c || false) (record { holder = t + 1; depth = w.depth }) a)))) u
        ≡ cond ((m || false) && z) (suc (depth_of a u))
        (cond ((n || false) && z) (pred (depth_of a u)) (cond ((y || false) && z) 0 (cond ((c || false) && z && ltb 0 g) g (depth_of a u))))
    go true n y c true q f o b = rw (← (eqb-true t u q)) (depth_own (t + 1) (depth_of a t + 1) t l refl ∙ add-one (depth_of a t))
    go true n y c false q f o b =
        depth_other (t + 1) (depth_of a t + 1) u (holder_eqb t u ∙ q) ∙ sym (f tt refl) ∙ rw (and-false (n || false), and-false (y || false), and-false (c || false)) refl
    go false true y c true q f o b = rw (← (eqb-true t u q)) (less (leb (depth_of a t) 1) refl (o tt))
    go false true y c false q f o b = rest (leb (depth_of a t) 1) q (o tt) ∙ none (o tt) q ∙ rw (and-false (y || false), and-false (c || false)) refl
    go false false true c true q f o b = depth_other 0 0 u (nobody u)
    go false false true c false q f o b = depth_other 0 0 u (nobody u) ∙ none (o tt) q ∙ rw (and-false (c || false)) refl
    go false false false true true q f o b =
        rw (lt-ltb 0 g (b tt refl).0) (depth_own (t + 1) w.depth u (subst (λ (z : ℕ). z < 8) (eqb-true t u q) l) (ap (λ (z : ℕ). z + 1) (eqb-true t u q)) ∙ (b tt refl).1)
    go false false false true false q f o b = depth_other (t + 1) w.depth u (holder_eqb t u ∙ q) ∙ sym (f tt refl)
    go false false false false z q f o b = refl

-- ---- a waiting changed

-- what a thread remembers of the lock that it waits on, and of others
remembered_own : (w : Waiting) (l : ℕ) → w.lock ≡ l + 1 → remembered_of w l ≡ w.depth
unfolding remembered_of
remembered_own w l q = rw (eq-eqb w.lock (l + 1) q) refl

remembered_other : (w : Waiting) (l : ℕ) → eqb w.lock (l + 1) ≡ false → remembered_of w l ≡ 0
unfolding remembered_of
remembered_other w l q = rw q refl

notified_other : (w : Waiting) (l : ℕ) → eqb w.lock (l + 1) ≡ false → notified_of w l ≡ false
unfolding notified_of
notified_other w l q = rw q refl

-- a thread that remembers something of a lock waits on it
waiting_is : (w : Waiting) (l : ℕ) → 0 < remembered_of w l → (w.lock ≡ l + 1) × (0 < w.depth)
unfolding remembered_of
waiting_is w l h = go (eqb w.lock (l + 1)) refl h
  where
    go : (x : Bool) → eqb w.lock (l + 1) ≡ x → 0 < cond x w.depth 0 → (w.lock ≡ l + 1) × (0 < w.depth)
    go true q h = (eqb-true w.lock (l + 1) q, h)
    go false q h = absurd (not-suc-le-zero h)

-- one that waits on no lock does not wait on lock i, nor does one that waits on another
nowhere : (w : Waiting) (i : ℕ) → w.lock ≡ 0 → eqb w.lock (i + 1) ≡ false
nowhere w i q = ap (λ (z : ℕ). eqb z (i + 1)) q ∙ nobody i

elsewhere : (w : Waiting) (l i : ℕ) → w.lock ≡ l + 1 → eqb l i ≡ false → eqb w.lock (i + 1) ≡ false
elsewhere w l i p q = ap (λ (z : ℕ). eqb z (i + 1)) p ∙ holder_eqb l i ∙ q

-- after Y, where the subject waits on no lock; after F and C, where it waits on l; after any other event. n is what t holds of lock i
module _ (w : Waiting) (a : Hold) (l t k i : ℕ) (idle : T (among (Y ∷ []) k) → w.lock ≡ 0) (there : T (among (F ∷ C ∷ []) k) → w.lock ≡ l + 1) where
  wait_remembered : (n : ℕ) → (T (among (Y ∷ []) k) → eqb l i ≡ true → depth_of a t ≡ n)
      → remembered_of (wait_after w a l t k) i ≡ cond (among (Y ∷ []) k && eqb l i) n (cond (among (C ∷ []) k && eqb l i) 0 (remembered_of w i))
  unfolding wait_after
  wait_remembered n same = go (eqb Y k) (eqb F k) (eqb C k) (eqb l i) refl idle there same (none_of (F ∷ []) (C ∷ []) tt k)
    where
      go : (y f c z : Bool) → eqb l i ≡ z → (T (y || false) → w.lock ≡ 0) → (T (f || (c || false)) → w.lock ≡ l + 1) → (T (y || false) → z ≡ true → depth_of a t ≡ n)
          → (T (f || false) → (c || false) ≡ false)
          → remembered_of
          (cond (y || false) (record { lock = l + 1; depth = depth_of a t; notified = false })
          (cond (f || false) (record { lock = w.lock; depth = w.depth; notified = true }) (cond (c || false) no_wait w))) i
          ≡ cond ((y || false) && z) n (cond ((c || false) && z) 0 (remembered_of w i))
      go true f c true q j h s d = remembered_own (record { lock = l + 1; depth = depth_of a t; notified = false }) i (ap (λ (x : ℕ). x + 1) (eqb-true l i q)) ∙ s tt refl
      go true f c false q j h s d =
          remembered_other (record { lock = l + 1; depth = depth_of a t; notified = false }) i (holder_eqb l i ∙ q)
          ∙ sym (remembered_other w i (nowhere w i (j tt))) ∙ rw (and-false (c || false)) refl
      go false true c z q j h s d = rw (d tt) (unfold remembered_of in refl)
      go false false true true q j h s d = remembered_other no_wait i (nobody i)
      go false false true false q j h s d = remembered_other no_wait i (nobody i) ∙ sym (remembered_other w i (elsewhere w l i (h tt) q))
      go false false false z q j h s d = refl

  wait_notified : notified_of (wait_after w a l t k) i ≡ cond (among (Y ∷ F ∷ C ∷ []) k && eqb l i) (among (F ∷ []) k) (notified_of w i)
  unfolding wait_after
  wait_notified = go (eqb Y k) (eqb F k) (eqb C k) (eqb l i) refl idle there (none_of (Y ∷ []) (F ∷ []) tt k)
    where
      go : (y f c z : Bool) → eqb l i ≡ z → (T (y || false) → w.lock ≡ 0) → (T (f || (c || false)) → w.lock ≡ l + 1) → (T (y || false) → (f || false) ≡ false)
          → notified_of
          (cond (y || false) (record { lock = l + 1; depth = depth_of a t; notified = false })
          (cond (f || false) (record { lock = w.lock; depth = w.depth; notified = true }) (cond (c || false) no_wait w))) i
          ≡ cond ((y || (f || (c || false))) && z) (f || false) (notified_of w i)
      go true f c true q j h d = unfold notified_of in (and-false (eqb (l + 1) (i + 1)) ∙ sym (d tt))
      go true f c false q j h d = unfold notified_of in and-false (eqb (l + 1) (i + 1)) ∙ sym (notified_other w i (nowhere w i (j tt)))
      go false true c true q j h d = unfold notified_of in rw (h tt, holder_eqb l i, q) refl
      go false true c false q j h d =
          let z : eqb w.lock (i + 1) ≡ false = elsewhere w l i (h tt) q in
          notified_other (record { lock = w.lock; depth = w.depth; notified = true }) i z ∙ sym (notified_other w i z)
      go false false true true q j h d = notified_other no_wait i (nobody i)
      go false false true false q j h d = notified_other no_wait i (nobody i) ∙ sym (notified_other w i (elsewhere w l i (h tt) q))
      go false false false z q j h d = refl

-- ---- what an accepted event tells of the state

few : (ss : List Slot) (i : ℕ) (q : Ring) → leb most (length (queued ss i q)) ≡ false → q.len < 8
few ss i q h = leb-false 8 q.len (rw (queued_length ss i q) at h)

-- there is room for a read, and for a store
pub read_few : (s : State) (e : Event) → judge s.counts (words_in s) e ≡ 0 → T (among (R ∷ []) (letter e.kind)) → (cell_at s e.thread (var_of e.kind)).reads.len < 8
unfolding words_in reads_at is
read_few s e p h =
    subst (λ (v : ℕ). (cell_at s e.thread v).reads.len < 8) (var_is (R ∷ []) tt e.kind h)
    (few s.reads (16 * e.thread + loc e) (cell_at s e.thread (loc e)).reads (read_room s.counts (words_in s) e p h))

pub store_few : (s : State) (e : Event) → judge s.counts (words_in s) e ≡ 0 → T (among (S ∷ P ∷ []) (letter e.kind)) → (cell_at s e.thread (var_of e.kind)).stores.len < 8
unfolding words_in stores_at is
store_few s e p h =
    subst (λ (v : ℕ). (cell_at s e.thread v).stores.len < 8) (var_is (S ∷ P ∷ []) tt e.kind h)
    (few s.stores (16 * e.thread + loc e) (cell_at s e.thread (loc e)).stores
    (either (eqb S (letter e.kind)) (eqb P (letter e.kind)) h (store_room s.counts (words_in s) e p) (prescient_room s.counts (words_in s) e p)))

-- ---- the words

-- a thread that waits does so on one of l locks, and remembers a number from 1 to n
abbrev pub WaitFits : ℕ → ℕ → Waiting → Type 0
WaitFits l n w = (w.lock ≡ 0) ⊎ ((w.lock ≤ l) × (0 < w.depth) × (w.depth ≤ n))

-- the numbers of a state that the words compare
pub record Bounded (s : State) : Type 0 where
  pub source : (t v : ℕ) → (cell_at s t v).source ≤ s.events
  pub locked : (t : ℕ) → get_or s.locked t 0 ≤ s.events
  pub holder : (l : ℕ) → (get_or s.holds l no_hold).holder ≤ s.counts.threads
  pub waits : (t : ℕ) → WaitFits s.counts.locks s.events (get_or s.waits t no_wait)

-- what an accepted event tells of its lock, and of the waiting of its subject
module _ (s : State) (e : Event) (p : judge s.counts (words_in s) e ≡ 0) where
  -- T holds a lock that it unlocks
  pub unlock_own : T (among (N ∷ Y ∷ []) (letter e.kind)) → 0 < depth_of (get_or s.holds (lock_of e.kind) no_hold) e.thread
  unlock_own b = subst (λ (l : ℕ). 0 < depth_of (get_or s.holds l no_hold) e.thread) (lock_is (N ∷ Y ∷ []) tt e.kind b)
      (ltb-true 0 (depth_of (get_or s.holds (loc e) no_hold) e.thread) (unfold words_in is in unlock_held s.counts (words_in s) e p (each_among (among (N ∷ Y ∷ F ∷ [])) (N ∷ Y ∷ []) (letter e.kind) tt b)))

  -- nobody but T holds a lock that T takes
  free : Bounded s → T (among (K ∷ C ∷ []) (letter e.kind)) → (u : ℕ) → eqb e.thread u ≡ false → depth_of (get_or s.holds (lock_of e.kind) no_hold) u ≡ 0
  free r h u d = subst (λ (l : ℕ). depth_of (get_or s.holds l no_hold) u ≡ 0) (lock_is (K ∷ C ∷ []) tt e.kind h) (go (ltb u s.counts.threads) refl)
    where
      a : Hold
      a = get_or s.holds (loc e) no_hold

      taken : some s.counts.threads (λ t. not (eqb t e.thread) && ltb 0 (depth_of (get_or s.holds (loc e) no_hold) t)) ≡ false
      taken = unfold words_in locks is in lock_free s.counts (words_in s) e p h

      turn : eqb u e.thread ≡ false
      turn = ne_eqb u e.thread (λ q. eqb-false e.thread u d (sym q))

      none : (n : ℕ) → ltb 0 n ≡ false → n ≡ 0
      none n q = let x = ltb-false 0 n q in omega arith

      past : s.counts.threads ≤ u → a.holder ≢ u + 1
      past h q = let x = r.holder (loc e) in omega arith

      go : (b : Bool) → ltb u s.counts.threads ≡ b → depth_of a u ≡ 0
      go true q =
          let z = some_none s.counts.threads (λ t. not (eqb t e.thread) && ltb 0 (depth_of (get_or s.holds (loc e) no_hold) t)) taken u (ltb-true u s.counts.threads q) in
          none (depth_of a u) (rw turn at z)
      go false q = depth_other a.holder a.depth u (ne_eqb a.holder (u + 1) (past (ltb-false u s.counts.threads q)))

  -- by 29 a thread that starts to wait waits on no lock
  idle : Bounded s → T (among (Y ∷ []) (letter e.kind)) → (get_or s.waits (subject e) no_wait).lock ≡ 0
  idle r h = subst (λ (t : ℕ). (get_or s.waits t no_wait).lock ≡ 0) (sym (subject_own (Y ∷ []) tt e h)) (go (r.waits e.thread))
    where
      w : Waiting
      w = get_or s.waits e.thread no_wait

      none : some s.counts.locks (λ l. ltb 0 (remembered_of (get_or s.waits e.thread no_wait) l)) ≡ false
      none = unfold words_in waits is in not_waiting s.counts (words_in s) e p (each_among (among barred) (Y ∷ []) (letter e.kind) tt h)

      below : (n m : ℕ) → (n ≡ 0 → ⊥) → n ≤ m → (n - 1 < m) × (n ≡ n - 1 + 1)
      below n m d h = (omega arith, omega arith)

      lost : (n : ℕ) → 0 < n → ltb 0 n ≡ false → ⊥
      lost n h q = let x = ltb-false 0 n q in omega arith

      some_lock : (w.lock ≤ s.counts.locks) × (0 < w.depth) × (w.depth ≤ s.events) → (b : Bool) → eqb w.lock 0 ≡ b → w.lock ≡ 0
      some_lock f true q = eqb-true w.lock 0 q
      some_lock f false q =
          let x = below w.lock s.counts.locks (eqb-false w.lock 0 q) f.0 in
          let z = some_none s.counts.locks (λ l. ltb 0 (remembered_of (get_or s.waits e.thread no_wait) l)) none (w.lock - 1) x.0 in
          absurd (lost w.depth f.1 (rw (remembered_own w (w.lock - 1) x.1) at z))

      go : WaitFits s.counts.locks s.events w → w.lock ≡ 0
      go (inl q) = q
      go (inr f) = some_lock f (eqb w.lock 0) refl

  -- by 30 a thread that is notified, or comes back, waits on the lock
  pub waits_there : T (among (F ∷ C ∷ []) (letter e.kind)) → ((get_or s.waits (subject e) no_wait).lock ≡ lock_of e.kind + 1) × (0 < (get_or s.waits (subject e) no_wait).depth)
  unfolding words_in is
  waits_there b = rw (← (lock_is (F ∷ C ∷ []) tt e.kind b)) (waiting_is (get_or s.waits (subject e) no_wait) (loc e) (either (eqb F (letter e.kind)) (eqb C (letter e.kind)) b notify resume))
    where
      notify : T (among (F ∷ []) (letter e.kind)) → 0 < remembered_of (get_or s.waits (subject e) no_wait) (loc e)
      notify h = ltb-true 0 _ (not-false _ (or_false_left _ _ (notify_waits s.counts (words_in s) e p h)))

      resume : T (among (C ∷ []) (letter e.kind)) → 0 < remembered_of (get_or s.waits (subject e) no_wait) (loc e)
      resume h = rw (subject_own (C ∷ []) tt e h)
          (ltb-true 0 _ (both_true _ _ (resume_waits s.counts (words_in s) e p h)).0)

-- the words of locks after an accepted event
module _ (s : State) (e : Event) (h : Shape s) (w : Within e.thread e.kind) (r : Bounded s) (p : judge s.counts (words_in s) e ≡ 0) (u i : ℕ) where
  abbrev t : ℕ
  t = e.thread

  abbrev k : ℕ
  k = letter e.kind

  abbrev l : ℕ
  l = lock_of e.kind

  abbrev before : Hold
  before = get_or s.holds (lock_of e.kind) no_hold

  abbrev waited : Waiting
  waited = get_or s.waits (subject e) no_wait

  depth_after_law : depth_of (get_or (step_state s e).holds i no_hold) u ≡ (grip_after u i e (grip_in (words_in s) u i)).held
  unfolding grip_after words_in
  depth_after_law =
      rw (lock_at_law (K ∷ []) tt u i e, lock_at_law (N ∷ []) tt u i e, lock_at_law (Y ∷ []) tt u i e, lock_at_law (C ∷ []) tt u i e) (ap (λ (z : Hold). depth_of z u) put ∙ go (eqb l i) refl)
    where
      inside : lock_of e.kind < length s.holds
      inside = let x = w.lock in let y = h.holds in omega arith

      put : get_or (step_state s e).holds i no_hold ≡ cond (eqb l i) (hold_after before waited t k) (get_or s.holds i no_hold)
      put = unfold step_state in set_at s.holds l (hold_after before waited t k) no_hold inside i

      D : ℕ
      D = depth_of (get_or s.holds i no_hold) u

      G : ℕ
      G = remembered_of (get_or s.waits u no_wait) i

      back : T (among (C ∷ []) (letter e.kind)) → eqb t u ≡ true → (0 < remembered_of (get_or s.waits u no_wait) l) × (waited.depth ≡ remembered_of (get_or s.waits u no_wait) l)
      back b q =
          let z = waits_there s e p (each_among (among (F ∷ C ∷ [])) (C ∷ []) (letter e.kind) tt b) in
          let same : subject e ≡ u = subject_own (C ∷ []) tt e b ∙ eqb-true t u q in
          rw (← same, remembered_own waited l z.0) (z.1, refl)

      off : (m n y c x : Bool) → D ≡ cond (m && (x && false)) (suc D) (cond (n && (x && false)) (pred D) (cond (y && (x && false)) 0 (cond (c && (x && false) && ltb 0 G) G D)))
      off m n y c x = rw (and-false x, and-false m, and-false n, and-false y, and-false c) refl

      go : (x : Bool) → eqb l i ≡ x
          → depth_of (cond x (hold_after before waited t k) (get_or s.holds i no_hold)) u
          ≡ cond (among (K ∷ []) k && (eqb t u && x)) (suc D)
          (cond (among (N ∷ []) k && (eqb t u && x)) (pred D) (cond (among (Y ∷ []) k && (eqb t u && x)) 0 (cond (among (C ∷ []) k && (eqb t u && x) && ltb 0 G) G D)))
      go true q = rw (and-true (eqb t u), ← (eqb-true l i q)) (hold_depth before waited t u k (remembered_of (get_or s.waits u no_wait) l) w.thread (λ b d. free s e p r b u d) (unlock_own s e p) back)
      go false q = off (among (K ∷ []) k) (among (N ∷ []) k) (among (Y ∷ []) k) (among (C ∷ []) k) (eqb t u)

  wait_put : get_or (step_state s e).waits u no_wait ≡ cond (eqb (subject e) u) (wait_after waited before l t k) (get_or s.waits u no_wait)
  wait_put = unfold step_state in set_at s.waits (subject e) (wait_after waited before l t k) no_wait (inside w.subject h.waits) u
    where
      inside : {x y : ℕ} → x < 8 → y ≡ 8 → x < y
      inside p q = omega arith

  remembered_after : remembered_of (get_or (step_state s e).waits u no_wait) i ≡ (grip_after u i e (grip_in (words_in s) u i)).remembered
  unfolding grip_after words_in
  remembered_after = rw (subject_at (Y ∷ []) tt tt u i e, subject_at (C ∷ []) tt tt u i e) (ap (λ (z : Waiting). remembered_of z i) wait_put ∙ go (eqb (subject e) u) refl)
    where
      D : ℕ
      D = depth_of (get_or s.holds i no_hold) u

      G : ℕ
      G = remembered_of (get_or s.waits u no_wait) i

      same : subject e ≡ u → T (among (Y ∷ []) (letter e.kind)) → eqb l i ≡ true → depth_of before t ≡ depth_of (get_or s.holds i no_hold) u
      same q b d = rw (← q, ← (eqb-true l i d), subject_own (Y ∷ []) tt e b) refl

      go : (x : Bool) → eqb (subject e) u ≡ x
          → remembered_of (cond x (wait_after waited before l t k) (get_or s.waits u no_wait)) i
          ≡ cond (among (Y ∷ []) k && (x && eqb l i)) D (cond (among (C ∷ []) k && (x && eqb l i)) 0 G)
      go true q =
          wait_remembered waited before l t k i (idle s e p r) (λ b. (waits_there s e p b).0) D (same (eqb-true (subject e) u q))
          ∙ ap (λ (z : ℕ). cond (among (Y ∷ []) k && eqb l i) D (cond (among (C ∷ []) k && eqb l i) 0 (remembered_of (get_or s.waits z no_wait) i))) (eqb-true (subject e) u q)
      go false q = rw (and-false (among (Y ∷ []) k), and-false (among (C ∷ []) k)) refl

  notified_after : notified_of (get_or (step_state s e).waits u no_wait) i ≡ cond (tells u i e) (is (F ∷ []) e) (notified_of (get_or s.waits u no_wait) i)
  unfolding is
  notified_after = rw (tells_at u i e) (ap (λ (z : Waiting). notified_of z i) wait_put ∙ go (eqb (subject e) u) refl)
    where
      go : (x : Bool) → eqb (subject e) u ≡ x
          → notified_of (cond x (wait_after waited before l t k) (get_or s.waits u no_wait)) i
          ≡ cond (among (Y ∷ F ∷ C ∷ []) k && (x && eqb l i)) (among (F ∷ []) k) (notified_of (get_or s.waits u no_wait) i)
      go true q =
          wait_notified waited before l t k i (idle s e p r) (λ b. (waits_there s e p b).0)
          ∙ ap (λ (z : ℕ). cond (among (Y ∷ F ∷ C ∷ []) k && eqb l i) (among (F ∷ []) k) (notified_of (get_or s.waits z no_wait) i)) (eqb-true (subject e) u q)
      go false q = rw (and-false (among (Y ∷ F ∷ C ∷ []) k)) refl

-- ---- the other words

locked_after_law : (s : State) (e : Event) → Shape s → Within e.thread e.kind → (t : ℕ)
    → get_or (step_state s e).locked t 0 ≡ cond (locks_by t e) (s.events + 1) (get_or s.locked t 0)
unfolding step_state locked_after locks_by locks is of
locked_after_law s e h w t = set_at s.locked e.thread (cond (among (K ∷ C ∷ []) (letter e.kind)) (s.events + 1) (get_or s.locked e.thread 0)) 0 inside t ∙ go (eqb e.thread t) refl
  where
    inside : e.thread < length s.locked
    inside = let x = w.thread in let y = h.locked in omega arith

    go : (x : Bool) → eqb e.thread t ≡ x
        → cond x (cond (among (K ∷ C ∷ []) (letter e.kind)) (s.events + 1) (get_or s.locked e.thread 0)) (get_or s.locked t 0)
        ≡ cond (among (K ∷ C ∷ []) (letter e.kind) && x) (s.events + 1) (get_or s.locked t 0)
    go true q = rw (and-true (among (K ∷ C ∷ []) (letter e.kind)), eqb-true e.thread t q) refl
    go false q = rw (and-false (among (K ∷ C ∷ []) (letter e.kind))) refl

main_after_law : (s : State) (e : Event) → Shape s → Within e.thread e.kind → (v : ℕ)
    → (get_or (step_state s e).memory v no_main).value ≡ cond (is (W ∷ []) e && on v e) (value e.kind) (get_or s.memory v no_main).value
main_after_law s e h w v = ap (λ (z : Main). z.value) put ∙ go (eqb b v) refl ∙ ap (λ (z : Bool). cond z (value e.kind) (get_or s.memory v no_main).value) test
  where
    b : ℕ
    b = var_of e.kind

    m : Bool
    m = among (W ∷ []) (letter e.kind)

    inside : var_of e.kind < length s.memory
    inside = let x = w.variable in let y = h.memory in omega arith

    put : get_or (step_state s e).memory v no_main ≡ cond (eqb b v) (main_after (get_or s.memory b no_main) (letter e.kind) (value e.kind)) (get_or s.memory v no_main)
    put = unfold step_state in set_at s.memory b (main_after (get_or s.memory b no_main) (letter e.kind) (value e.kind)) no_main inside v

    -- of any thread: by_at at the event's own
    test : (m && eqb b v) ≡ (is (W ∷ []) e && on v e)
    test = unfold is on in (short ∙ sym long)
      where
        own : eqb e.thread e.thread ≡ true
        own = eq-eqb e.thread e.thread refl

        short : (m && eqb b v) ≡ by (W ∷ []) e.thread v e
        short = sym (by_at (W ∷ []) tt e.thread v e ∙ rw own refl)

        long : (is (W ∷ []) e && on v e) ≡ by (W ∷ []) e.thread v e
        long = unfold by of in rw own refl

    through : (n : Bool) → (cond n (record { value = value e.kind }) (get_or s.memory b no_main)).value ≡ cond n (value e.kind) (get_or s.memory b no_main).value
    through true = refl
    through false = refl

    go : (x : Bool) → eqb b v ≡ x
        → (cond x (main_after (get_or s.memory b no_main) (letter e.kind) (value e.kind)) (get_or s.memory v no_main)).value
        ≡ cond (m && x) (value e.kind) (get_or s.memory v no_main).value
    go true q = rw (and-true m, ← (eqb-true b v q)) (unfold main_after in through m)
    go false q = rw (and-false m) refl

-- later of two positions
later : (l a b : ℕ) → ltb l (max a b) ≡ (ltb l b || ltb l a)
later l a b = go (ltb l b) (ltb l a) refl refl
  where
    go : (x y : Bool) → ltb l b ≡ x → ltb l a ≡ y → ltb l (max a b) ≡ (x || y)
    go true y p q = let h = ltb-true l b p in lt-ltb l (max a b) (omega arith)
    go false true p q = let h = ltb-true l a q in lt-ltb l (max a b) (omega arith)
    go false false p q = let h = ltb-false l b p in let k = ltb-false l a q in le-ltb l (max a b) (omega arith)

usable_after : (s : State) (e : Event) → Shape s → Within e.thread e.kind → Bounded s → (t v : ℕ)
    → ltb (get_or (step_state s e).locked t 0) (cell_at (step_state s e) t v).source
    ≡ (not (locks_by t e) && (by (A ∷ B ∷ []) t v e || by (L ∷ []) t v e && ltb (get_or s.locked t 0) (first (reads_at s t v)).position || ltb (get_or s.locked t 0) (cell_at s t v).source))
usable_after s e h w r t v =
    rw (locked_after_law s e h w t, cell_after s e h w t v, by_at (A ∷ B ∷ []) tt t v e, by_at (L ∷ []) tt t v e) (go (locks_by t e) refl)
  where
    k : ℕ
    k = letter e.kind

    p : ℕ
    p = s.events + 1

    c : Cell
    c = cell_at s t v

    f : ℕ
    f = (first (reads_at s t v)).position

    lk : ℕ
    lk = get_or s.locked t 0

    same : Bool
    same = eqb e.thread t && eqb (var_of e.kind) v

    after : Cell
    after = next_cell p (first (reads_at s t v)) k (value e.kind) c

    -- a lock keeps the source, which is no later than the events so far
    low : (b m n : Bool) → m ≡ false → n ≡ false → cond b (cond m p (cond n (max c.source f) c.source)) c.source ≤ s.events
    low b m n x y = rw (x, y, cond_same b c.source) (r.source t v)

    source_of : (b : Bool) → (cond b after c).source ≡ cond b (cond (among (A ∷ B ∷ []) k) p (cond (among (L ∷ []) k) (max c.source f) c.source)) c.source
    source_of true = unfold next_cell in refl
    source_of false = refl

    -- since the thread's last lock
    kept : (m n b : Bool) → ltb lk (cond b (cond m p (cond n (max c.source f) c.source)) c.source) ≡ (m && b || n && b && ltb lk f || ltb lk c.source)
    kept true n true = lt-ltb lk p (more (r.locked t))
      where
        more : lk ≤ s.events → lk < p
        more x = omega arith
    kept false true true = later lk c.source f
    kept false false true = refl
    kept true true false = refl
    kept true false false = refl
    kept false true false = refl
    kept false false false = refl

    go : (m : Bool) → locks_by t e ≡ m
        → ltb (cond m p lk) (cond same after c).source
        ≡ (not m && (among (A ∷ B ∷ []) k && same || among (L ∷ []) k && same && ltb lk f || ltb lk c.source))
    go true q =
        let b : T (among (K ∷ C ∷ []) k) = unfold locks_by locks is in subst T (sym (both_true (among (K ∷ C ∷ []) k) (of t e) q).0) tt in
        rw (source_of same) (le-ltb p (cond same (cond (among (A ∷ B ∷ []) k) p (cond (among (L ∷ []) k) (max c.source f) c.source)) c.source)
        (up (low same (among (A ∷ B ∷ []) k) (among (L ∷ []) k) (none_of (K ∷ C ∷ []) (A ∷ B ∷ []) tt k b) (none_of (K ∷ C ∷ []) (L ∷ []) tt k b))))
      where
        up : {x : ℕ} → x ≤ s.events → x ≤ p
        up h = omega arith
    go false q = rw (source_of same) (kept (among (A ∷ B ∷ []) k) (among (L ∷ []) k) same)

pub step_words : (s : State) (e : Event) → Shape s → Within e.thread e.kind → Bounded s → judge s.counts (words_in s) e ≡ 0
    → words_in (step_state s e) ≡ next (words_in s) e
unfolding words_in next
step_words s e h w r p = λ i. record {
  events = counted i;
  copy = λ t v. plain (λ c. c.copy) (A ∷ B ∷ L ∷ []) x tt (λ t v. unfold next_cell in refl) t v i;
  fresh = λ t v. plain (λ c. c.fresh) (A ∷ B ∷ S ∷ []) (is (A ∷ []) e) tt (λ t v. unfold next_cell is in refl) t v i;
  pending = λ t v. plain (λ c. c.pending) (P ∷ B ∷ []) (is (P ∷ []) e) tt (λ t v. unfold next_cell is in refl) t v i;
  announced = λ t v. plain (λ c. c.announced) (P ∷ []) x tt (λ t v. unfold next_cell in refl) t v i;
  usable = λ t v. usable_after s e h w r t v i;
  reads = λ t v. reads_after t v i;
  stores = λ t v. stores_after t v i;
  last_write = λ t v. (plain (λ c. c.written) (W ∷ []) at tt (λ t v. unfold next_cell in refl) t v ∙ ap (λ (z : ℕ). cond (by (W ∷ []) t v e) z (cell_at s t v).written) (add-one s.events)) i;
  last_lock = λ t. (locked_after_law s e h w t ∙ ap (λ (z : ℕ). cond (locks_by t e) z (get_or s.locked t 0)) (add-one s.events)) i;
  depth = λ t m. depth_after_law s e h w r p t m i;
  remembered = λ t m. remembered_after s e h w r p t m i;
  notified = λ t m. notified_after s e h w r p t m i;
  main = λ v. main_after_law s e h w v i;
  after_load = λ t v. plain (λ c. c.after_load) accesses (is (L ∷ []) e) tt (λ t v. unfold next_cell is in refl) t v i;
  after_assign = λ t v. plain (λ c. c.after_assign) accesses (is (A ∷ []) e) tt (λ t v. unfold next_cell is in refl) t v i;
  loaded_read = λ t v. varied (λ c. c.loaded) (L ∷ []) (λ t v. (first (reads_at s t v)).position) tt (λ t v. unfold next_cell in refl) t v i;
  used_read = λ t v. varied (λ c. c.used) (U ∷ []) (λ t v. (cell_at s t v).loaded) tt (λ t v. unfold next_cell in refl) t v i;
  last_assign = λ t v. (plain (λ c. c.assigned) (A ∷ []) at tt (λ t v. unfold next_cell in refl) t v ∙ ap (λ (z : ℕ). cond (by (A ∷ []) t v e) z (cell_at s t v).assigned) (add-one s.events)) i;
}
  where
    k : ℕ
    k = letter e.kind

    x : ℤ
    x = value e.kind

    at : ℕ
    at = s.events + 1

    a : ℕ
    a = e.thread

    b : ℕ
    b = var_of e.kind

    counted : (step_state s e).events ≡ suc s.events
    counted = unfold step_state in add-one s.events

    after : ℕ → ℕ → Cell
    after t v = next_cell at (first (reads_at s t v)) k x (cell_at s t v)

    field : {X : Type 0} (f : Cell → X) (m b : Bool) (y : X) (c d : Cell) → f d ≡ cond m y (f c) → f (cond b d c) ≡ cond (m && b) y (f c)
    field f true true y c d q = q
    field f false true y c d q = q
    field f true false y c d q = refl
    field f false false y c d q = refl

    -- a field that events with these letters set, to what the cell and its queues have
    varied : {X : Type 0} (f : Cell → X) (ks : List ℕ) (y : ℕ → ℕ → X) → T (disjoint ks lock_letters)
        → ((t v : ℕ) → f (after t v) ≡ cond (among ks k) (y t v) (f (cell_at s t v))) → (t v : ℕ)
        → f (cell_at (step_state s e) t v) ≡ cond (by ks t v e) (y t v) (f (cell_at s t v))
    varied f ks y n q t v =
        rw (cell_after s e h w t v, by_at ks n t v e) (field f (among ks k) (eqb a t && eqb b v) (y t v) (cell_at s t v) (after t v) (q t v))

    plain : {X : Type 0} (f : Cell → X) (ks : List ℕ) (y : X) → T (disjoint ks lock_letters)
        → ((t v : ℕ) → f (after t v) ≡ cond (among ks k) y (f (cell_at s t v))) → (t v : ℕ)
        → f (cell_at (step_state s e) t v) ≡ cond (by ks t v e) y (f (cell_at s t v))
    plain f ks y n q t v = varied f ks (λ t v. y) n q t v

    new : Slot
    new = record { value = x; position = suc s.events }

    new_same : ◌≡◌ {A = Slot} (record { value = x; position = at }) new
    new_same = λ i. record { value = x; position = add-one s.events i }

    reads_after : (t v : ℕ) → reads_at (step_state s e) t v
        ≡ cond (by (R ∷ []) t v e) (reads_at s t v ++ (new ∷ [])) (cond (by (L ∷ []) t v e) (others (reads_at s t v)) (reads_at s t v))
    reads_after t v =
        rw (← new_same, by_at (R ∷ []) tt t v e, by_at (L ∷ []) tt t v e)
        (unfold reads_at in rw (cell_after s e h w t v) (unfold step_state read_after in
        queue_after (λ c. c.reads) s.reads s a b (record { value = x; position = at }) (among (R ∷ []) k) (among (L ∷ []) k) after refl h.reads w.thread w.variable (read_few s e p) (λ t v. unfold next_cell in refl) t v))

    -- a store of T on V, where it is the next event
    put : ℕ → ℕ → Slot
    put t v = record { value = x; position = cond (among (S ∷ []) k) (cell_at s t v).assigned at }

    placed : ℕ → ℕ → Slot
    placed t v = record { value = x; position = cond (is (S ∷ []) e) (cell_at s t v).assigned (suc s.events) }

    put_same : (t v : ℕ) → put t v ≡ placed t v
    put_same t v = unfold is in λ i. record { value = x; position = cond (among (S ∷ []) k) (cell_at s t v).assigned (add-one s.events i) }

    -- it is put where the event is
    put_there : (m z : Bool) (t v : ℕ) → (eqb a t && eqb b v) ≡ z → (ss rs : List Slot) → cond (m && z) (ss ++ (put a b ∷ [])) rs ≡ cond (m && z) (ss ++ (put t v ∷ [])) rs
    put_there m true t v q ss rs = let r = both_true (eqb a t) (eqb b v) q in rw (eqb-true a t r.0, eqb-true b v r.1)
    put_there true false t v q ss rs = refl
    put_there false false t v q ss rs = refl

    -- what is left where nothing is put
    rest : ℕ → ℕ → List Slot
    rest t v = cond (among (W ∷ []) k && (eqb a t && eqb b v)) (others (stores_at s t v)) (stores_at s t v)

    stores_after : (t v : ℕ) → stores_at (step_state s e) t v
        ≡ cond (by (S ∷ P ∷ []) t v e) (stores_at s t v ++ (placed t v ∷ [])) (cond (by (W ∷ []) t v e) (others (stores_at s t v)) (stores_at s t v))
    stores_after t v =
        rw (by_at (S ∷ P ∷ []) tt t v e, by_at (W ∷ []) tt t v e)
        (unfold stores_at in rw (cell_after s e h w t v) (unfold step_state store_after in
        queue_after (λ c. c.stores) s.stores s a b (put a b) (among (S ∷ P ∷ []) k) (among (W ∷ []) k) after refl h.stores w.thread w.variable (store_few s e p) (λ t v. unfold next_cell in refl) t v)
        ∙ put_there (among (S ∷ P ∷ []) k) (eqb a t && eqb b v) t v refl (stores_at s t v) (rest t v)
        ∙ ap (λ (y : Slot). cond (among (S ∷ P ∷ []) k && (eqb a t && eqb b v)) (stores_at s t v ++ (y ∷ [])) (rest t v)) (put_same t v))
