-- A test of some number below n, asked from 0 on.
use Prim.Native.Nat.{ℕ, zero, suc, ◌+◌}
use native.Mathlib.Omega.{arith}
use mathlib.Core.Path.{◌≡◌, refl, ap, ap₂, sym, ◌∙◌}
use mathlib.Core.Bool.{Bool, true, false, ◌||◌}
use Rattle.std.specs.List.{list_any, range_with_len}
use Rattle.rules.specs.Rules.{some}
use Rattle.rules.proofs.Laws.{some_ext}

swap_or : (a b c : Bool) → (a || (b || c)) ≡ (b || (a || c))
swap_or true true c = refl
swap_or true false c = refl
swap_or false b c = refl

some_front : (n : ℕ) (f : ℕ → Bool) → some (suc n) f ≡ (f 0 || some n (λ i. f (suc i)))
unfolding some
some_front zero f = refl
some_front (suc n) f = ap (λ b. f (suc n) || b) (some_front n f) ∙ swap_or (f (suc n)) (f 0) (some n (λ i. f (suc i)))

any_from : (a n : ℕ) (f : ℕ → Bool) → list_any f (range_with_len a n) ≡ some n (λ i. f (a + i))
unfolding some
any_from a zero f = refl
any_from a (suc n) f =
    let z : a ≡ a + 0 = omega arith in
    ap₂ (λ b c. b || c) (ap f z) (any_from (a + 1) n f ∙ some_ext n (λ i. f (a + 1 + i)) (λ i. f (a + suc i)) (λ i q. ap f (omega arith)))
    ∙ sym (some_front n (λ i. f (a + i)))

pub any_below : (n : ℕ) (f : ℕ → Bool) → list_any f (range_with_len 0 n) ≡ some n f
any_below n f = any_from 0 n f ∙ some_ext n (λ i. f (0 + i)) f (λ i q. ap f (omega arith))
