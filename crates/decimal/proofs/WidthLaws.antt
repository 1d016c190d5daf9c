-- A field read as a value of a narrower width.
use mathlib.Core.Path.{◌≡◌, refl}
use mathlib.Core.Bool.{Bool, true, false, cond}
use mathlib.Core.List.{List}
use Prim.Native.Nat.{ℕ, zero, suc, ◌<◌, ◌≤◌, ◌-◌}
use native.Mathlib.Omega.{arith}
use borrow.Author.Tests.{ltb-false, leb-false, le-ltb, lt-leb, ne_eqb}
use lib.Dec.{eqb, ltb, leb}
use lib.IntN.{ℤ, pos, negsuc}
use lib.ListN.{get_or, drop, replicate}
use mir.Syntax.{Width}
use Rattle.rules.specs.Limits.{value_width, limit}
use Rattle.rules.specs.Widths.{narrow, fits}
use Rattle.std.proofs.Common.{Option, Some, None, Result, Ok, Err}
use Rattle.decimal.specs.declared.NotValue.{NotValue}
use Rattle.decimal.specs.declared.NotValue.TheVariants.{Outside}
use Rattle.decimal.specs.Decimal.{digits_from, natural_of, positive_of, negative_of, integer_of}
use Rattle.decimal.specs.Text.{digits_in, natural_text, integer_text}

-- a value outside the width is outside the range
abbrev pub narrowed_integer : Width → Result ℤ NotValue → Result ℤ NotValue
narrowed_integer w (Err e) = Err e
narrowed_integer w (Ok x) = cond (fits w x) (Ok x) (Err Outside)

module _ (w : Width) (l : limit w ≤ limit value_width) where
  positive_narrowed : (n : Option ℕ) → positive_of w n ≡ narrowed_integer w (positive_of value_width n)
  positive_narrowed None = refl
  positive_narrowed (Some n) = by (ltb n (limit value_width)) refl
    where
      by : (b : Bool) → ltb n (limit value_width) ≡ b → cond (ltb n (limit w)) (Ok (pos n)) (Err Outside) ≡ narrowed_integer w (cond b (Ok (pos n)) (Err Outside))
      by true q = refl
      by false q = let h : limit w ≤ n = omega (arith, l, ltb-false n (limit value_width) q) in rw (le-ltb n (limit w) h)

  negative_narrowed : (n : Option ℕ) → negative_of w n ≡ narrowed_integer w (negative_of value_width n)
  negative_narrowed None = refl
  negative_narrowed (Some zero) = refl
  negative_narrowed (Some (suc n)) = rw (ne_eqb (suc n) 0 (λ z. omega arith), suc_less n) (by (leb (suc n) (limit value_width)) refl)
    where
      suc_less : (n : ℕ) → suc n - 1 ≡ n
      suc_less n = omega arith

      by : (b : Bool) → leb (suc n) (limit value_width) ≡ b → cond (leb (suc n) (limit w)) (Ok (negsuc n)) (Err Outside) ≡ narrowed_integer w (cond b (Ok (negsuc n)) (Err Outside))
      by true q = refl
      by false q = let h : limit w < suc n = omega (arith, l, leb-false (suc n) (limit value_width) q) in rw (lt-leb (suc n) (limit w) h)

  pub integer_narrowed : (f : List ℕ) → integer_of w f ≡ narrowed_integer w (integer_of value_width f)
  unfolding integer_of
  integer_narrowed f = by (eqb (get_or f 0 0) 45)
    where
      by : (b : Bool) → cond b (negative_of w (natural_of (drop 1 f))) (positive_of w (natural_of f)) ≡ narrowed_integer w (cond b (negative_of value_width (natural_of (drop 1 f))) (positive_of value_width (natural_of f)))
      by true = negative_narrowed (natural_of (drop 1 f))
      by false = positive_narrowed (natural_of f)

-- ---- the ends of the range, computed

-- A value outside 64 bits is 4; both ends are in.
pub ends_computed : (integer_of value_width (integer_text (pos 9223372036854775807)) ≡ Ok (pos 9223372036854775807)) × (integer_of value_width (integer_text (pos 9223372036854775808)) ≡ Err Outside)
    × (integer_of value_width (integer_text (negsuc 9223372036854775807)) ≡ Ok (negsuc 9223372036854775807)) × (integer_of value_width (integer_text (negsuc 9223372036854775808)) ≡ Err Outside)
unfolding integer_of natural_of digits_from integer_text natural_text digits_in
ends_computed = (refl, refl, refl, refl)

-- the same of 32 bits
pub narrow_ends_computed : (integer_of narrow.width (integer_text (pos 2147483647)) ≡ Ok (pos 2147483647)) × (integer_of narrow.width (integer_text (pos 2147483648)) ≡ Err Outside)
    × (integer_of narrow.width (integer_text (negsuc 2147483647)) ≡ Ok (negsuc 2147483647)) × (integer_of narrow.width (integer_text (negsuc 2147483648)) ≡ Err Outside)
unfolding integer_of natural_of digits_from integer_text natural_text digits_in
narrow_ends_computed = (refl, refl, refl, refl)

-- a thousand nines
pub long_computed : integer_of value_width (replicate 1000 57) ≡ Err Outside
unfolding integer_of natural_of digits_from
long_computed = refl
