-- Tests at each number below a bound, and the places of cells and slots.
use Prim.Native.Nat.{ℕ, zero, suc, ◌+◌, ◌*◌, ◌%◌, ◌≤◌, ◌<◌, zero-le}
use native.Mathlib.Omega.{arith}
use native.Mathlib.Nat.{not-suc-le-zero, le_refl, le_step}
use native.Mathlib.Numerals.{add-one}
use mathlib.Core.Path.{◌≡◌, refl, sym, ap, ◌∙◌, subst}
use mathlib.Core.Bool.{Bool, true, false, cond, ◌&&◌, ◌||◌}
use lib.Dec.{T, eqb, ltb, leb}
use lib.ListN.{length, get_or, take}
use lib.Seq.{take_all}
use mathlib.Core.List.{List}
use Rattle.std.specs.List.{list_all, range_with_len}
use Rattle.std.proofs.lemmas.List.FromFn.{get_or-range_with_len, length-range_with_len}
use Rattle.std.proofs.lemmas.List.Folds.{list_all_more}
use Rattle.std.proofs.Math.Bool.{and_comm}
use borrow.Author.Tests.{lt-ltb, eqb-true, eqb-false, le-leb, lt-leb}
use Rattle.state.specs.declared.Ring.{Ring}
use Rattle.state.specs.declared.Hold.{Hold}
use Rattle.state.specs.declared.State.{State}
use Rattle.state.specs.State.{blank, cell_at, depth_of}
use Rattle.state.specs.Range.{every}
use Rattle.state.specs.Computed.Places.{cell_place, slot_place}

pub cond_same : {A : Type 0} (b : Bool) (x : A) → cond b x x ≡ x
cond_same true x = refl
cond_same false x = refl

pub both_true : (a b : Bool) → (a && b) ≡ true → (a ≡ true) × (b ≡ true)
both_true true b q = (refl, q)
both_true false b q = absurd (subst T (sym q) tt)

pub both : (a b : Bool) → a ≡ true → b ≡ true → (a && b) ≡ true
both a b p q = rw (p, q)

-- a thread holds a lock at most as deep as anybody does
pub depth_under : (a : Hold) (t : ℕ) → depth_of a t ≤ a.depth
unfolding depth_of
depth_under a t = go (ltb t 8 && eqb a.holder (t + 1))
  where
    go : (b : Bool) → cond b a.depth 0 ≤ a.depth
    go true = le_refl a.depth
    go false = zero-le

-- ---- a test at each number below n

pub every_zero : (f : ℕ → Bool) → true ≡ every 0 f
unfolding every
every_zero f = refl

pub every_more : (n : ℕ) (f : ℕ → Bool) {b c : Bool} → b ≡ every n f → c ≡ f n → (c && b) ≡ every (n + 1) f
unfolding every
every_more n f p q = rw (add-one n, p, q) refl

pub every_end : (n : ℕ) (f : ℕ → Bool) {i : ℕ} {b : Bool} → i ≤ n → n ≤ i → b ≡ every i f → b ≡ every n f
every_end n f {i} h k e = let same : i ≡ n = omega arith in e ∙ ap (λ (m : ℕ). every m f) same

pub every_at : (n : ℕ) (f : ℕ → Bool) → every n f ≡ true → (i : ℕ) → i < n → f i ≡ true
unfolding every
every_at zero f e i h = absurd (not-suc-le-zero h)
every_at (suc n) f e i h = go (eqb i n) refl (λ k. every_at n f (both_true (f n) (every n f) e).1 i k)
  where
    below : (i ≡ n → ⊥) → i < n
    below d = omega arith

    go : (b : Bool) → eqb i n ≡ b → (i < n → f i ≡ true) → f i ≡ true
    go true p r = rw (eqb-true i n p) (both_true (f n) (every n f) e).0
    go false p r = r (below (eqb-false i n p))

pub every_all : (n : ℕ) (f : ℕ → Bool) → ((i : ℕ) → i < n → f i ≡ true) → every n f ≡ true
unfolding every
every_all zero f h = refl
every_all (suc n) f h = both (f n) (every n f) (h n (le_refl (suc n))) (every_all n f (λ i k. h i (le_step k)))

-- ---- places

pub place_is : (t v : ℕ) {i : ℕ} → t < 8 → v < 16 → i ≡ cell_place t v → i ≡ 16 * t + v
unfolding cell_place
place_is t v h l e = e ∙ rw (lt-ltb t 8 h, lt-ltb v 16 l) refl

pub slot_is : (i : ℕ) (q : Ring) (j : ℕ) {r : ℕ} → i < 128 → r ≡ slot_place i q j → r ≡ 8 * i + (q.first + j) % 8
unfolding slot_place
slot_is i q j h e = e ∙ rw (lt-ltb i 128 h) refl

-- the cell of a thread and a variable that have a place
pub cell_same : (s : State) (t v : ℕ) → t < 8 → v < 16 → cell_at s t v ≡ get_or s.cells (16 * t + v) blank
unfolding cell_at
cell_same s t v h l = rw (lt-ltb t 8 h, lt-ltb v 16 l) refl

pub cell_read : (s : State) (t v : ℕ) {i : ℕ} → t < 8 → v < 16 → i ≡ cell_place t v → get_or s.cells i blank ≡ cell_at s t v
cell_read s t v h k e = ap (λ (n : ℕ). get_or s.cells n blank) (place_is t v h k e) ∙ sym (cell_same s t v h k)

-- a test of each element of a list of n
every_within : {A : Type 0} (f : A → Bool) (xs : List A) (d : A) (k : ℕ) → k ≤ length xs → list_all f (take k xs) ≡ every k (λ i. f (get_or xs i d))
unfolding every
every_within f xs d zero h = refl
every_within f xs d (suc k) h =
    rw (← add-one k, list_all_more f xs k d (omega arith), every_within f xs d k (omega arith)) (and_comm (every k (λ i. f (get_or xs i d))) (f (get_or xs k d)))

pub every_of : {A : Type 0} (f : A → Bool) (xs : List A) (d : A) (n : ℕ) → length xs ≡ n → list_all f xs ≡ every n (λ i. f (get_or xs i d))
every_of f xs d n e = sym (ap (λ (l : List _). list_all f l) (take_all n xs (omega arith))) ∙ every_within f xs d n (omega arith)

-- tests that agree below n
pub every_ext : (n : ℕ) (f g : ℕ → Bool) → ((i : ℕ) → i < n → f i ≡ g i) → every n f ≡ every n g
unfolding every
every_ext zero f g h = refl
every_ext (suc n) f g h = rw (h n (omega arith), every_ext n f g (λ i k. h i (omega arith)))

-- two tests, each of all numbers
pub every_both : (n : ℕ) (f g : ℕ → Bool) → every n (λ i. f i && g i) ≡ (every n f && every n g)
unfolding every
every_both zero f g = refl
every_both (suc n) f g = rw (every_both n f g) (swap (f n) (g n) (every n f) (every n g))
  where
    swap : (a b c d : Bool) → ((a && b) && (c && d)) ≡ ((a && c) && (b && d))
    swap true true c d = refl
    swap true false true d = refl
    swap true false false d = refl
    swap false b c d = refl

-- a test of each number below len, which is at most n
every_below : (len : ℕ) (f : ℕ → Bool) (n : ℕ) → len ≤ n → every len f ≡ every n (λ j. leb len j || f j)
unfolding every
every_below len f zero h = let e : len ≡ 0 = omega arith in ap (λ (m : ℕ). every m f) e
every_below len f (suc n) h = go (eqb len (suc n)) refl (every_below len f n)
  where
    g : ℕ → Bool
    g j = leb len j || f j

    go : (b : Bool) → eqb len (suc n) ≡ b → (len ≤ n → every len f ≡ every n g) → every len f ≡ every (suc n) g
    go true e r = every_ext len f g (λ j k. sym (rw (lt-leb len j k))) ∙ ap (λ (m : ℕ). every m g) (eqb-true len (suc n) e)
    go false e r =
        let d = eqb-false len (suc n) e in
        let l : len ≤ n = omega (arith, d) in
        rw (le-leb len n l) (r l)

pub every_range : (len : ℕ) (f : ℕ → Bool) (n : ℕ) → len ≤ n → list_all f (range_with_len 0 len) ≡ every n (λ j. leb len j || f j)
every_range len f n h =
    every_of f (range_with_len 0 len) 0 len (length-range_with_len 0 len)
    ∙ every_ext len _ f (λ i k. let e : 0 + i ≡ i = omega arith in ap f (get_or-range_with_len 0 len i 0 k ∙ e))
    ∙ every_below len f n h
