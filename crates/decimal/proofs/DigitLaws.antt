-- Laws of `digits_from`: what one byte more does.
use mathlib.Core.Path.{◌≡◌, refl, sym, ap, ◌∙◌}
use mathlib.Core.Bool.{Bool, true, false, cond, ◌&&◌}
use mathlib.Core.List.{List, [], ◌∷◌}
use Prim.Native.Nat.{ℕ, suc, ◌≤◌, ◌<◌, ◌+◌, ◌-◌, ◌*◌, min}
use native.Mathlib.Omega.{arith}
use native.Mathlib.Numerals.{add-one}
use borrow.Author.Tests.{le-leb, lt-leb, leb-true}
use lib.Dec.{leb}
use Rattle.std.specs.Char.{is_ascii_digit}
use lib.ListN.{length, get_or, drop, drop_of_length-le}
use lib.Seq.{drop-cons}
use Rattle.std.proofs.Common.{Option, Some, None}
use Rattle.decimal.specs.Decimal.{cap, is_digit, digits_from}

-- the cap may be taken at any place
capped : (n : ℕ) (bs : List ℕ) → digits_from (min cap n) bs ≡ digits_from n bs
unfolding digits_from
capped n [] = ap Some (omega arith)
capped n (b ∷ bs) =
    let e : min cap (min cap n * 10 + (b - 48)) ≡ min cap (n * 10 + (b - 48)) = omega arith in
    ap (λ (z : Option ℕ). cond (is_digit b) z None)
    (sym (capped (min cap n * 10 + (b - 48)) bs) ∙ ap (λ (m : ℕ). digits_from m bs) e ∙ capped (n * 10 + (b - 48)) bs)

-- std's test of a digit is this one
pub digit_same : (b : ℕ) → is_ascii_digit b ≡ is_digit b
digit_same b = by (leb 48 b)
  where
    by : (q : Bool) → (q && leb b 57) ≡ cond q (leb b 57) false
    by true = refl
    by false = refl

-- what the test of a digit says of a byte
pub digit_below : (b : ℕ) → b < 48 → is_digit b ≡ false
digit_below b h = rw (lt-leb 48 b h)

pub digit_above : (b : ℕ) → 57 < b → is_digit b ≡ false
digit_above b h = let l : 48 ≤ b = omega arith in rw (le-leb 48 b l, lt-leb b 57 h)

pub digit_between : (b : ℕ) → is_digit b ≡ true → (48 ≤ b) × (b ≤ 57)
digit_between b g = by (leb 48 b) (leb b 57) refl refl g
  where
    by : (p q : Bool) → leb 48 b ≡ p → leb b 57 ≡ q → cond p q false ≡ true → (48 ≤ b) × (b ≤ 57)
    by true true l u g = (leb-true 48 b l, leb-true b 57 u)
    by true false l u g = cc
    by false q l u g = cc

pub digits_end : (n i : ℕ) (f : List ℕ) → length f ≤ i → n ≤ cap → Some n ≡ digits_from n (drop i f)
unfolding digits_from
digits_end n i f h k = rw (drop_of_length-le f h) (ap Some (omega arith))

pub digits_stop : (n i : ℕ) (f : List ℕ) → i < length f → is_digit (get_or f i 0) ≡ false → None ≡ digits_from n (drop i f)
unfolding digits_from
digits_stop n i f h e = rw (drop-cons f i 0 h, e)

pub digits_stop_low : (n i : ℕ) (f : List ℕ) → i < length f → get_or f i 0 < 48 → digits_from n (drop i f) ≡ None
digits_stop_low n i f h l = sym (digits_stop n i f h (digit_below (get_or f i 0) l))

pub digits_stop_high : (n i : ℕ) (f : List ℕ) → i < length f → 57 < get_or f i 0 → digits_from n (drop i f) ≡ None
digits_stop_high n i f h l = sym (digits_stop n i f h (digit_above (get_or f i 0) l))

pub digits_on : (n i : ℕ) (f : List ℕ) → i < length f → is_digit (get_or f i 0) ≡ true
    → digits_from n (drop i f) ≡ digits_from (min cap (n * 10 + (get_or f i 0 - 48))) (drop (i + 1) f)
unfolding digits_from
digits_on n i f h e =
    rw (drop-cons f i 0 h, e, add-one i) (sym (capped (n * 10 + (get_or f i 0 - 48)) (drop (suc i) f)))
