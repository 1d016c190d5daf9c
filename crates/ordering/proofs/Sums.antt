-- Sums over the numbers below n.
use Prim.Native.Nat.{ℕ, zero, suc, ◌+◌, ◌*◌, ◌<◌, ◌≤◌}
use native.Mathlib.Decide.{ℕ_discrete}
use native.Mathlib.Omega.{arith}
use mathlib.Core.Path.{◌≡◌, refl, ◌∙◌, ap, ap₂}
use mathlib.Core.Bool.{Bool, ◌||◌}
use borrow.Author.Tests.{lt-ltb}
use lib.Dec.{ltb}
use Rattle.rules.specs.Rules.{some}
use Rattle.rules.proofs.Sums.{total}

pub total_some : (n : ℕ) (f : ℕ → ℕ) → ltb 0 (total n f) ≡ some n (λ i. ltb 0 (f i))
unfolding total some
total_some zero f = refl
total_some (suc n) f = by (f n) (total n f) (some n (λ i. ltb 0 (f i))) (total_some n f)
  where
    by : (a m : ℕ) (o : Bool) → ltb 0 m ≡ o → ltb 0 (a + m) ≡ (ltb 0 a || o)
    by zero m o e = ap (ltb 0) {x = 0 + m} {y = m} (omega arith) ∙ e
    by (suc a) m o e = rw (lt-ltb 0 (suc a) (omega arith)) (lt-ltb 0 (suc a + m) (omega arith))

pub total_same : (n : ℕ) (f g : ℕ → ℕ) → ((i : ℕ) → i < n → g i ≡ f i) → total n g ≡ total n f
unfolding total
total_same zero f g e = refl
total_same (suc n) f g e = ap₂ (λ a b. a + b) (e n (omega arith)) (total_same n f g (λ i h. e i (omega arith)))

pub total_zero : (n : ℕ) → total n (λ i. 0) ≡ 0
unfolding total
total_zero zero = refl
total_zero (suc n) = omega (arith, total_zero n)

-- each is at most 2,000
pub total_low : (n : ℕ) (f : ℕ → ℕ) → ((i : ℕ) → f i ≤ 2000) → total n f ≤ n * 2000
unfolding total
total_low zero f e = omega arith
total_low (suc n) f e = omega (arith, e n, total_low n f e)

-- f and g differ at p alone
pub total_moved : (n p : ℕ) (f g : ℕ → ℕ) → p < n → ((i : ℕ) → i < n → (i ≡ p → ⊥) → g i ≡ f i) → total n g + f p ≡ total n f + g p
unfolding total
total_moved zero p f g h e = absurd (omega arith)
total_moved (suc n) p f g h e = by (ℕ_discrete n p) (λ k. total_moved n p f g k (λ i l. e i (omega arith)))
  where
    by : Dec (n ≡ p) → (p < n → total n g + f p ≡ total n f + g p) → g n + total n g + f p ≡ f n + total n f + g p
    by (yes q) r = omega (arith, ap f q, ap g q, total_same n f g (λ i k. e i (omega arith) (λ j. omega (arith, k, j, q))))
    by (no q) r = omega (arith, e n (omega arith) q, r (omega (arith, h, q)))

-- the sum, where the others are 0
pub total_one : (n p : ℕ) (f : ℕ → ℕ) → p < n → ((i : ℕ) → i < n → (i ≡ p → ⊥) → f i ≡ 0) → total n f ≡ f p
total_one n p f h e = omega (arith, total_moved n p (λ i. 0) f h e, total_zero n)
