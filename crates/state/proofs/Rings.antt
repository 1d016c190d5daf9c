-- A queue kept round eight places: one more at the end, the oldest taken off, and what a change elsewhere leaves alone.
use Prim.Native.Nat.{ℕ, zero, suc, ◌+◌, ◌-◌, ◌%◌, ◌≤◌, ◌<◌, zero-le, suc-le-suc}
use native.Mathlib.Omega.{arith}
use native.Mathlib.Nat.{suc-ne-zero, not-suc-le-zero, le_of_suc-le-suc}
use mathlib.Core.Path.{◌≡◌, refl, sym, ap, subst}
use mathlib.Core.Logic.{◌≢◌}
use mathlib.Core.Bool.{Bool, true, false, cond}
use mathlib.Core.List.{List, [], ◌∷◌, ◌++◌}
use lib.Dec.{T, eqb}
use lib.ListN.{length, get_or, set}
use lib.Seq.{get_or-set_same, get_or-set_other, set-get_or}
use borrow.Author.Tests.{ne_eqb, lt-ltb}
use Rattle.state.specs.declared.Ring.{Ring}
use Rattle.state.specs.State.{no_slot, slot_number, around, queued}
use Rattle.state.specs.Step.{pushed, popped, behind}
use Rattle.rules.specs.declared.Slot.{Slot}
use Rattle.rules.specs.Limits.{most}
use Rattle.rules.specs.Words.{first}
use Rattle.rules.specs.Rules.{none?}
use Rattle.rules.proofs.Next.{others}

-- ---- what a queue has

pub around_length : (ss : List Slot) (i f n : ℕ) → length (around ss i f n) ≡ n
unfolding around
around_length ss i f zero = refl
around_length ss i f (suc n) = ap suc (around_length ss i (suc f) n)

pub queued_length : (ss : List Slot) (i : ℕ) (q : Ring) → length (queued ss i q) ≡ q.len
unfolding queued
queued_length ss i q = around_length ss i q.first q.len

pub queued_none : (ss : List Slot) (i : ℕ) (q : Ring) → none? (queued ss i q) ≡ eqb q.len 0
unfolding queued around
queued_none ss i q = go q.len
  where
    go : (n : ℕ) → none? (around ss i q.first n) ≡ eqb n 0
    go zero = refl
    go (suc n) = sym (ne_eqb (suc n) 0 (suc-ne-zero n))

pub queued_first : (ss : List Slot) (i : ℕ) (q : Ring) → first (queued ss i q) ≡ cond (eqb q.len 0) no_slot (get_or ss (slot_number i q.first) no_slot)
unfolding queued around
queued_first ss i q = go q.len
  where
    go : (n : ℕ) → first (around ss i q.first n) ≡ cond (eqb n 0) no_slot (get_or ss (slot_number i q.first) no_slot)
    go zero = refl
    go (suc n) = rw (ne_eqb (suc n) 0 (suc-ne-zero n)) refl

-- ---- the oldest taken off

around_same : (ss : List Slot) (i f g n : ℕ) → f % most ≡ g % most → around ss i f n ≡ around ss i g n
unfolding around
around_same ss i f g zero h = refl
around_same ss i f g (suc n) h = rw (h, around_same ss i (suc f) (suc g) n (omega arith)) refl

pub queued_popped : (ss : List Slot) (i : ℕ) (q : Ring) → queued ss i (popped q) ≡ others (queued ss i q)
unfolding queued around
queued_popped ss i q = go q.len
  where
    one_less : (n : ℕ) → suc n - 1 ≡ n
    one_less n = omega arith

    go : (n : ℕ) → around ss i ((q.first + 1) % most) (n - 1) ≡ others (around ss i q.first n)
    go zero = refl
    go (suc n) = rw (one_less n) (around_same ss i ((q.first + 1) % most) (suc q.first) n (omega arith))

-- ---- one more at the end

around_more : (ss : List Slot) (x : Slot) (i f n : ℕ) → n < most → slot_number i (f + n) < length ss → around (set ss (slot_number i (f + n)) x) i f (suc n) ≡ around ss i f n ++ (x ∷ [])
unfolding around
around_more ss x i f zero h l = ap (λ (y : Slot). y ∷ []) (here (f + 0) (omega arith) l)
  where
    here : (g : ℕ) → g ≡ f → slot_number i g < length ss → get_or (set ss (slot_number i g) x) (slot_number i f) no_slot ≡ x
    here g e k = rw e (get_or-set_same ss (slot_number i f) x no_slot (rw e at k))
around_more ss x i f (suc n) h l = next (f + suc n) (omega arith) l (λ k. around_more ss x i (suc f) n (omega arith) k)
  where
    apart : (g : ℕ) → g ≡ suc f + n → slot_number i f ≢ slot_number i g
    apart g e q = omega arith

    next : (g : ℕ) → g ≡ suc f + n → slot_number i g < length ss
        → (slot_number i (suc f + n) < length ss → around (set ss (slot_number i (suc f + n)) x) i (suc f) (suc n) ≡ around ss i (suc f) n ++ (x ∷ []))
        → get_or (set ss (slot_number i g) x) (slot_number i f) no_slot ∷ around (set ss (slot_number i g) x) i (suc f) (suc n) ≡ (get_or ss (slot_number i f) no_slot ∷ around ss i (suc f) n) ++ (x ∷ [])
    next g e k more = subst (λ g. slot_number i g < length ss → get_or (set ss (slot_number i g) x) (slot_number i f) no_slot ∷ around (set ss (slot_number i g) x) i (suc f) (suc n) ≡ (get_or ss (slot_number i f) no_slot ∷ around ss i (suc f) n) ++ (x ∷ [])) (sym e) (λ l. rw (get_or-set_other ss (slot_number i (suc f + n)) (slot_number i f) x no_slot (apart (suc f + n) refl)) (ap (λ (z : List Slot). get_or ss (slot_number i f) no_slot ∷ z) (more l))) k

pub queued_pushed : (ss : List Slot) (i : ℕ) (q : Ring) (x : Slot) → q.len < most → behind i q < length ss → queued (set ss (behind i q) x) i (pushed q) ≡ queued ss i q ++ (x ∷ [])
unfolding queued
queued_pushed ss i q x h l = rw (lt-ltb q.len most h) (plus (q.len + 1) (omega arith))
  where
    plus : (n : ℕ) → n ≡ suc q.len → around (set ss (behind i q) x) i q.first n ≡ around ss i q.first q.len ++ (x ∷ [])
    plus n e = rw e (around_more ss x i q.first q.len h l)

-- ---- a change elsewhere

around_apart : (ss : List Slot) (x : Slot) (j i f n : ℕ) → ((k : ℕ) → slot_number i k ≢ j) → around (set ss j x) i f n ≡ around ss i f n
unfolding around
around_apart ss x j i f zero d = refl
around_apart ss x j i f (suc n) d = rw (get_or-set_other ss j (slot_number i f) x no_slot (d f), around_apart ss x j i (suc f) n d) refl

pub queued_apart : (ss : List Slot) (x : Slot) (i j k : ℕ) (q : Ring) → i ≢ j → queued (set ss (slot_number j k) x) i q ≡ queued ss i q
unfolding queued
queued_apart ss x i j k q d = around_apart ss x (slot_number j k) i q.first q.len (λ m e. d (omega arith))

-- ---- a queue after an event on it: one more where m, one fewer where n
pub queued_after : (ss : List Slot) (i : ℕ) (q : Ring) (x : Slot) (m n : Bool) → (T m → q.len < most) → behind i q < length ss
    → queued (set ss (behind i q) (cond m x (get_or ss (behind i q) no_slot))) i (cond m (pushed q) (cond n (popped q) q))
    ≡ cond m (queued ss i q ++ (x ∷ [])) (cond n (others (queued ss i q)) (queued ss i q))
queued_after ss i q x true n h l = queued_pushed ss i q x (h tt) l
queued_after ss i q x false true h l = rw (set-get_or ss (behind i q) no_slot) (queued_popped ss i q)
queued_after ss i q x false false h l = rw (set-get_or ss (behind i q) no_slot) refl

-- ---- positions up to n

abbrev pub UpTo : ℕ → List Slot → Type 0
UpTo n [] = Unit {0}
UpTo n (s ∷ ss) = (s.position ≤ n) × UpTo n ss

pub up_more : (n : ℕ) (ss : List Slot) → UpTo n ss → UpTo (suc n) ss
up_more n [] u = tt
up_more n (s ∷ ss) u = let h = u.0 in (omega arith, up_more n ss u.1)

pub up_others : (n : ℕ) (ss : List Slot) → UpTo n ss → UpTo n (others ss)
up_others n [] u = tt
up_others n (s ∷ ss) u = u.1

pub up_append : (n : ℕ) (ss : List Slot) (x : Slot) → UpTo n ss → x.position ≤ n → UpTo n (ss ++ (x ∷ []))
up_append n [] x u h = (h, tt)
up_append n (s ∷ ss) x u h = (u.0, up_append n ss x u.1 h)

pub up_first : (n : ℕ) (ss : List Slot) → UpTo n ss → (first ss).position ≤ n
up_first n [] u = zero-le
up_first n (s ∷ ss) u = u.0

pub up_after : (n : ℕ) (ss : List Slot) (x : Slot) (m k : Bool) → UpTo n ss → x.position ≤ suc n → UpTo (suc n) (cond m (ss ++ (x ∷ [])) (cond k (others ss) ss))
up_after n ss x true k u h = up_append (suc n) ss x (up_more n ss u) h
up_after n ss x false true u h = up_others (suc n) ss (up_more n ss u)
up_after n ss x false false u h = up_more n ss u

-- of a queue: by its places and by its list
pub up_around : (m : ℕ) (ss : List Slot) (i f n : ℕ) → ((j : ℕ) → j < n → (get_or ss (slot_number i (f + j)) no_slot).position ≤ m) → UpTo m (around ss i f n)
unfolding around
up_around m ss i f zero h = tt
up_around m ss i f (suc n) h = (zeroth (f + 0) (omega arith) (h 0 (suc-le-suc zero-le)), up_around m ss i (suc f) n (λ j k. later j (f + suc j) (omega arith) (h (suc j) (suc-le-suc k))))
  where
    zeroth : (g : ℕ) → g ≡ f → (get_or ss (slot_number i g) no_slot).position ≤ m → (get_or ss (slot_number i f) no_slot).position ≤ m
    zeroth g e p = rw e at p

    later : (j g : ℕ) → g ≡ suc f + j → (get_or ss (slot_number i g) no_slot).position ≤ m → (get_or ss (slot_number i (suc f + j)) no_slot).position ≤ m
    later j g e p = rw e at p

pub around_up : (m : ℕ) (ss : List Slot) (i f n : ℕ) → UpTo m (around ss i f n) → (j : ℕ) → j < n → (get_or ss (slot_number i (f + j)) no_slot).position ≤ m
unfolding around
around_up m ss i f zero u j h = absurd (not-suc-le-zero h)
around_up m ss i f (suc n) u zero h = zeroth (f + 0) (omega arith) u.0
  where
    zeroth : (g : ℕ) → g ≡ f → (get_or ss (slot_number i f) no_slot).position ≤ m → (get_or ss (slot_number i g) no_slot).position ≤ m
    zeroth g e p = rw e p
around_up m ss i f (suc n) u (suc j) h = later (f + suc j) (omega arith) (around_up m ss i (suc f) n u.1 j (le_of_suc-le-suc h))
  where
    later : (g : ℕ) → g ≡ suc f + j → (get_or ss (slot_number i (suc f + j)) no_slot).position ≤ m → (get_or ss (slot_number i g) no_slot).position ≤ m
    later g e p = rw e p
