-- One place written of an array that has a place for each thread, or for each thread and variable or lock; f has its values before, g after.
use Prim.Native.Nat.{ℕ, ◌+◌, ◌*◌, ◌<◌}
use native.Mathlib.Decide.{ℕ_discrete}
use native.Mathlib.Omega.{arith}
use mathlib.Core.Path.{◌≡◌, sym, ◌∙◌}
use mathlib.Core.List.{List}
use lib.ListN.{length, get_or, set}
use lib.Seq.{get_or-set_same, get_or-set_other}

module _ {X : Type 0} (d : X) (xs : List X) where
  pub thread_set : (f g : ℕ → X) → length xs ≡ 8 → ((t : ℕ) → t < 8 → get_or xs t d ≡ f t) → (u : ℕ) {x : X} → u < 8 → x ≡ g u → ((t : ℕ) → (u ≡ t → ⊥) → g t ≡ f t)
      → (t : ℕ) → t < 8 → get_or (set xs u x) t d ≡ g t
  thread_set f g long at u {x} hu own other t ht = go (ℕ_discrete u t)
    where
      go : Dec (u ≡ t) → get_or (set xs u x) t d ≡ g t
      go (yes q) = rw (← q) (get_or-set_same xs u x d (omega (arith, hu, long)) ∙ own)
      go (no q) = get_or-set_other xs u t x d (λ p. q (sym p)) ∙ at t ht ∙ sym (other t q)

  pub cell_set : (f g : ℕ → ℕ → X) → length xs ≡ 128 → ((t l : ℕ) → t < 8 → l < 16 → get_or xs (t * 16 + l) d ≡ f t l)
      → (u p : ℕ) {x : X} → u < 8 → p < 16 → x ≡ g u p → ((t l : ℕ) → (u ≡ t → p ≡ l → ⊥) → g t l ≡ f t l)
      → (t l : ℕ) → t < 8 → l < 16 → get_or (set xs (u * 16 + p) x) (t * 16 + l) d ≡ g t l
  cell_set f g long at u p {x} hu hp own other t l ht hl = go (ℕ_discrete (t * 16 + l) (u * 16 + p))
    where
      go : Dec (t * 16 + l ≡ u * 16 + p) → get_or (set xs (u * 16 + p) x) (t * 16 + l) d ≡ g t l
      go (yes q) =
          rw (let a : t ≡ u = omega (arith, q, ht, hl, hp) in a, let b : l ≡ p = omega (arith, q, ht, hl, hp) in b)
          (get_or-set_same xs (u * 16 + p) x d (omega (arith, hu, hp, long)) ∙ own)
      go (no q) = get_or-set_other xs (u * 16 + p) (t * 16 + l) x d q ∙ at t l ht hl ∙ sym (other t l (λ a b. q (omega (arith, a, b))))
