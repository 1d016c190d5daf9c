-- Sums over the declared threads, variables and locks, and the lengths of lists made of their parts.
use Prim.Native.Nat.{ℕ, zero, suc, ◌+◌, ◌*◌, ◌≤◌, ◌<◌}
use native.Mathlib.Omega.{arith}
use mathlib.Core.Path.{◌≡◌, refl, ap, ◌∙◌}
use mathlib.Core.Bool.{Bool, true, false, cond, ◌&&◌}
use mathlib.Core.List.{List}
use lib.Dec.{eqb}
use lib.ListN.{length, length-append}
use Rattle.rules.specs.declared.Counts.{Counts}
use Rattle.rules.specs.Memories.{below, each}
use Rattle.rules.proofs.From.{each_suc}
use Rattle.rules.proofs.Sums.{total, total_most, total_none, total_least, total_part, total_above}

-- what the declared threads add, for each declared variable and each declared lock
unfoldable pub sums : Counts → (ℕ → ℕ → ℕ) → (ℕ → ℕ → ℕ) → ℕ
sums h f d = total h.threads (λ t. total h.variables (f t) + total h.locks (d t))

-- f is above g for thread t and variable or lock v alone, by x at most
abbrev pub Near : ℕ → ℕ → ℕ → (ℕ → ℕ → ℕ) → (ℕ → ℕ → ℕ) → Type 0
Near t v x f g = (u m : ℕ) → f u m ≤ cond (eqb t u && eqb v m) x 0 + g u m

total_near : (n t v x : ℕ) (f g : ℕ → ℕ → ℕ) → Near t v x f g → (u : ℕ) → total n (f u) ≤ cond (eqb t u) x 0 + total n (g u)
total_near n t v x f g h u = go (eqb t u) (h u)
  where
    go : (b : Bool) → ((m : ℕ) → f u m ≤ cond (b && eqb v m) x 0 + g u m) → total n (f u) ≤ cond b x 0 + total n (g u)
    go true k = total_above n v x (f u) (g u) k
    go false k = omega (arith, total_most n 0 (f u) (g u) (λ m l. omega (arith, k m)))

pub sums_near : (h : Counts) (t v x y : ℕ) (f g c d : ℕ → ℕ → ℕ) → Near t v x f g → Near t v y c d → sums h f c ≤ x + y + sums h g d
unfolding sums
sums_near h t v x y f g c d p q =
    total_above h.threads t (x + y) _ _ (λ u. add (eqb t u) (total h.variables (g u)) (total h.locks (d u)) (total_near h.variables t v x f g p u) (total_near h.locks t v y c d q u))
  where
    add : {i k : ℕ} (b : Bool) (j l : ℕ) → i ≤ cond b x 0 + j → k ≤ cond b y 0 + l → i + k ≤ cond b (x + y) 0 + (j + l)
    add true j l a e = omega arith
    add false j l a e = omega arith

pub sums_none : (h : Counts) (f d : ℕ → ℕ → ℕ) → ((t v : ℕ) → t < h.threads → v < h.variables → f t v ≡ 0) → ((t l : ℕ) → t < h.threads → l < h.locks → d t l ≡ 0) → sums h f d ≡ 0
unfolding sums
sums_none h f d p q = total_none h.threads _ (λ t a. rw (total_none h.variables (f t) (λ v b. p t v a b), total_none h.locks (d t) (λ l b. q t l a b)))

-- no term of f is below c, and the term of d for a thread and the lock of its number is not below e
pub sums_least : (h : Counts) (c e : ℕ) (f d : ℕ → ℕ → ℕ) → h.threads ≤ h.locks → ((t v : ℕ) → t < h.threads → v < h.variables → c ≤ f t v) → ((t : ℕ) → t < h.threads → e ≤ d t t)
    → h.threads * (h.variables * c + e) ≤ sums h f d
unfolding sums
sums_least h c e f d b p q = total_least h.threads (h.variables * c + e) _
    (λ t a. omega (arith, total_least h.variables c (f t) (λ v o. p t v a o), q t a, total_part h.locks t (d t) (omega arith)))

-- ---- lists made of parts

module _ {A : Type 0} (f : ℕ → List A) where
  pub each_length : (g : ℕ → ℕ) → ((u : ℕ) → length (f u) ≡ g u) → (n : ℕ) → length (each f (below n)) ≡ total n g
  unfolding total below each
  each_length g h zero = refl
  each_length g h (suc n) = ap length (each_suc f n) ∙ omega (arith, length-append (each f (below n)) (f n), each_length g h n, h n)
