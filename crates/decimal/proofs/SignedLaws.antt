-- A negative number is -1 - k: at any width.
use mathlib.Core.Path.{◌≡◌, refl, ap}
use Prim.Native.Nat.{ℕ, zero, suc, ◌<◌, ◌^◌}
use native.Mathlib.Omega.{arith}
use lib.IntN.{pos, negsuc, ◌-ℤ◌}
use mir.Syntax.{Width}
use mir.Val.{SFits, to_z, hbits}
use mir.ValLaws.{to_z_pos}

-- -1 - k
pub less_one : (k : ℕ) → negsuc 0 -ℤ pos k ≡ negsuc k
less_one zero = refl
less_one (suc k) = ap (λ (n : ℕ). negsuc n) (omega arith)

pub minus : (w : Width) (k : ℕ) → k < 2 ^ hbits w → negsuc 0 -ℤ to_z w k ≡ negsuc k
minus w k h = rw (to_z_pos w k h) (less_one k)

pub minus_fits : (w : Width) (k : ℕ) → k < 2 ^ hbits w → SFits w (negsuc 0 -ℤ to_z w k)
minus_fits w k h = rw (minus w k h) (record { sfits = h })
