-- Sums over the numbers below n.
use Prim.Native.Nat.{ℕ, zero, suc, ◌+◌, ◌*◌, ◌≤◌, ◌<◌}
use native.Mathlib.Omega.{arith}
use mathlib.Core.Path.{◌≡◌, refl, ap}
use mathlib.Core.Bool.{cond}
use lib.Dec.{eqb}
use borrow.Author.Tests.{eqb-true, eqb-false, ne_eqb}
use Rattle.rules.proofs.Laws.{cases}

-- the sum of f over the numbers below n
unfoldable pub total : ℕ → (ℕ → ℕ) → ℕ
total zero f = 0
total (suc n) f = f n + total n f

-- no term is above that of g by more than k
pub total_most : (n k : ℕ) (f g : ℕ → ℕ) → ((u : ℕ) → u < n → f u ≤ g u + k) → total n f ≤ total n g + n * k
unfolding total
total_most zero k f g h = omega arith
total_most (suc n) k f g h = omega (arith, h n (omega arith), total_most n k f g (λ u l. h u (omega arith)))

pub total_none : (n : ℕ) (f : ℕ → ℕ) → ((u : ℕ) → u < n → f u ≡ 0) → total n f ≡ 0
unfolding total
total_none zero f h = refl
total_none (suc n) f h = omega (arith, h n (omega arith), total_none n f (λ u l. h u (omega arith)))

pub total_least : (n c : ℕ) (f : ℕ → ℕ) → ((u : ℕ) → u < n → c ≤ f u) → n * c ≤ total n f
unfolding total
total_least zero c f h = omega arith
total_least (suc n) c f h = omega (arith, h n (omega arith), total_least n c f (λ u l. h u (omega arith)))

-- one of them is at most their sum
pub total_part : (n k : ℕ) (f : ℕ → ℕ) → k < n → f k ≤ total n f
unfolding total
total_part zero k f h = absurd (omega arith)
total_part (suc n) k f h = cases (eqb k n) (λ q. omega (arith, ap f (eqb-true k n q))) (λ q. omega (arith, total_part n k f (omega (arith, h, eqb-false k n q))))

-- only the term of k is above that of g, by x at most
pub total_above : (n k x : ℕ) (f g : ℕ → ℕ) → ((u : ℕ) → f u ≤ cond (eqb k u) x 0 + g u) → total n f ≤ x + total n g
unfolding total
total_above zero k x f g h = omega arith
total_above (suc n) k x f g h = cases (eqb k n)
    (λ q. omega (arith, rw q at (h n), total_most n 0 f g (λ u l. omega (arith, rw (ne_eqb k u (λ p. omega (arith, eqb-true k n q))) at (h u)))))
    (λ q. omega (arith, rw q at (h n), total_above n k x f g h))
