-- Laws of parts of lists.
use mathlib.Core.Path.{◌≡◌, refl}
use mathlib.Core.List.{List, [], ◌∷◌}
use Prim.Native.Nat.{ℕ, ◌<◌, ◌≤◌, ◌-◌}
use native.Mathlib.Omega.{arith}
use lib.ListN.{length, take, drop, length-drop}
use lib.Seq.{take_all}
use lib.Dec.{ltb}
use mathlib.Core.Bool.{Bool, true, false}
use mathlib.Core.Logic.{◌⊎◌, inl, inr}
use borrow.Author.Tests.{ltb-true, ltb-false}

pub empty : (f : List ℕ) → length f ≡ 0 → f ≡ []
empty [] h = refl
empty (x ∷ xs) h = absurd (omega arith)

-- the part from a to the end, as the code has it
pub rest : (a : ℕ) (s : List ℕ) → take (length s - a) (drop a s) ≡ drop a s
rest a s = take_all (length s - a) (drop a s) (omega (arith, length-drop a s))

pub lt_or_le : (a b : ℕ) → (a < b) ⊎ (b ≤ a)
lt_or_le a b = split (ltb a b) refl
  where
    split : (t : Bool) → ltb a b ≡ t → (a < b) ⊎ (b ≤ a)
    split true e = inl (ltb-true a b e)
    split false e = inr (ltb-false a b e)
