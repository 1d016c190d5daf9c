-- Lists of what a function gives for the numbers from one on, or below one.
use Prim.Native.Nat.{ℕ, zero, suc, ◌+◌, ◌-◌, ◌≤◌, ◌<◌}
use native.Mathlib.Omega.{arith}
use mathlib.Core.Path.{◌≡◌, refl, sym, ap, ap₂, ◌∙◌}
use mathlib.Core.Bool.{Bool, true, false}
use lib.Dec.{eqb}
use lib.Seq.{get_or-set_same, get_or-set_other}
use borrow.Author.Tests.{eqb-true, eqb-false}
use mathlib.Core.List.{List, [], ◌∷◌, ◌++◌, append_assoc, append-nil}
use native.Mathlib.Numerals.{add-one}
use lib.ListN.{length, get_or, set, replicate}
use Rattle.rules.specs.Memories.{from, below, each}

module _ {X : Type 0} (f : ℕ → X) where
  pub from_step : (i n : ℕ) → i < n → from f i (n - i) ≡ f i ∷ from f (suc i) (n - suc i)
  unfolding from
  from_step i n h = ap (from f i) {x = n - i} {y = suc (n - suc i)} (omega arith)

  pub from_end : (i n : ℕ) → n ≤ i → from f i (n - i) ≡ []
  unfolding from
  from_end i n h = ap (from f i) {x = n - i} {y = 0} (omega arith)

  pub length_from : (i n : ℕ) → length (from f i n) ≡ n
  unfolding from
  length_from i zero = refl
  length_from i (suc n) = ap suc (length_from (suc i) n)

  -- a list that has f's values at its places
  pub from_is : (d : X) (l : List X) (i : ℕ) → ((j : ℕ) → j < length l → f (i + j) ≡ get_or l j d) → from f i (length l) ≡ l
  unfolding from
  from_is d [] i h = refl
  from_is d (x ∷ l) i h =
      ap₂ (λ (y : X) (ys : List X). y ∷ ys) (ap f {x = i} {y = i + 0} (omega arith) ∙ h 0 (omega arith))
      (from_is d l (suc i) (λ j q. ap f {x = suc i + j} {y = i + suc j} (omega arith) ∙ h (suc j) (omega arith)))

  pub from_at : (d : X) (i n j : ℕ) → j < n → get_or (from f i n) j d ≡ f (i + j)
  unfolding from
  from_at d i zero j h = absurd (omega arith)
  from_at d i (suc n) zero h = ap f {x = i} {y = i + 0} (omega arith)
  from_at d i (suc n) (suc j) h = from_at d (suc i) n j (omega arith) ∙ ap f {x = suc i + j} {y = i + suc j} (omega arith)

-- f's values below i + n alone count
pub from_same : {X : Type 0} (f g : ℕ → X) (i n : ℕ) → ((j : ℕ) → i ≤ j → j < i + n → f j ≡ g j) → from f i n ≡ from g i n
unfolding from
from_same f g i zero h = refl
from_same {X} f g i (suc n) h = ap₂ (λ (y : X) (ys : List X). y ∷ ys) (h i (omega arith) (omega arith)) (from_same f g (suc i) n (λ j a b. h j (omega arith) (omega arith)))

pub from_all : {X : Type 0} (f : ℕ → X) (x : X) (i n : ℕ) → ((j : ℕ) → f j ≡ x) → from f i n ≡ replicate n x
unfolding from
from_all f x i zero e = refl
from_all f x i (suc n) e = rw (e i, from_all f x (suc i) n e) refl

-- ---- a list filled place by place

pub fill_more : {X : Type 0} (f : ℕ → X) (d : X) (l : List X) (i : ℕ) (x : X) → i < length l → ((j : ℕ) → j < i → get_or l j d ≡ f j) → x ≡ f i
    → (j : ℕ) → j < i + 1 → get_or (set l i x) j d ≡ f j
fill_more f d l i x n h e j k = go (eqb j i) refl
  where
    go : (b : Bool) → eqb j i ≡ b → get_or (set l i x) j d ≡ f j
    go true q = rw (eqb-true j i q) (get_or-set_same l i x d n ∙ e)
    go false q = get_or-set_other l i j x d (eqb-false j i q) ∙ h j (omega (arith, eqb-false j i q))

pub filled : {X : Type 0} (f : ℕ → X) (d : X) (l : List X) (n : ℕ) → length l ≡ n → ((j : ℕ) → j < n → get_or l j d ≡ f j) → l ≡ from f 0 n
filled f d l n e h = sym (ap (λ (k : ℕ). from f 0 k) (sym e) ∙ from_is f d l 0 (λ j q. let z : 0 + j ≡ j = omega arith in ap f z ∙ sym (h j (omega arith))))

-- ---- the numbers below one

module _ {X : Type 0} (f : ℕ → List X) where
  each_append : (ms ns : List ℕ) → each f (ms ++ ns) ≡ each f ms ++ each f ns
  unfolding each
  each_append [] ns = refl
  each_append (m ∷ ms) ns = ap (λ (z : List X). f m ++ z) (each_append ms ns) ∙ sym (append_assoc (f m) (each f ms) (each f ns))

  pub each_suc : (n : ℕ) → each f (below (suc n)) ≡ each f (below n) ++ f n
  unfolding below
  each_suc n = each_append (below n) (n ∷ []) ∙ ap (λ (z : List X). each f (below n) ++ z) (unfold each in append-nil (f n))

  pub each_more : (n : ℕ) → each f (below (n + 1)) ≡ each f (below n) ++ f n
  each_more n = ap (λ (k : ℕ). each f (below k)) (add-one n) ∙ each_suc n

-- what gives the same for each of them
pub each_same : {X : Type 0} (f g : ℕ → List X) (n : ℕ) → ((m : ℕ) → m < n → f m ≡ g m) → each f (below n) ≡ each g (below n)
each_same f g zero e = unfold below each in refl
each_same f g (suc n) e = each_suc f n ∙ ap₂ (λ (x y : List _). x ++ y) (each_same f g n (λ m k. e m (omega arith))) (e n (omega arith)) ∙ sym (each_suc g n)
