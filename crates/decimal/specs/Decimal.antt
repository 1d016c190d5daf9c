-- Numbers are base ten, no leading zeros, no plus sign, no `-0`; only a value may have a minus.
use Rattle.std.specs.Prelude.{ℕ, ◌+◌, ◌*◌, ◌-◌, min, List, [], ◌∷◌, Bool, false, cond, ltb, leb, eqb, length, get_or, drop, ℤ, pos, negsuc, Option, Some, None, Result, Ok, Err}
use Rattle.std.specs.Int.{Width}
use Rattle.rules.specs.Limits.{value_width, limit}
use Rattle.decimal.specs.declared.NotValue.{NotValue}
use Rattle.decimal.specs.declared.NotValue.TheVariants.{Bad, Outside}

-- numbers from here on are not told apart: each is above the size of every value, and above every limit
abbrev pub cap : ℕ
cap = limit value_width + 1

abbrev pub is_digit : ℕ → Bool
is_digit b = cond (leb 48 b) (leb b 57) false

-- n, and then the digits of the list after it
unfoldable pub digits_from : ℕ → List ℕ → Option ℕ
digits_from n [] = Some (min cap n)
digits_from n (b ∷ bs) = cond (is_digit b) (digits_from (n * 10 + (b - 48)) bs) None

-- digits alone, at least one; a 0 in front of others is refused
unfoldable pub natural_of : List ℕ → Option ℕ
natural_of f =
    cond (eqb (length f) 0) None
    (cond (cond (eqb (get_or f 0 0) 48) (ltb 1 (length f)) false) None (digits_from 0 f))

-- n without a minus before it
abbrev pub positive_of : Width → Option ℕ → Result ℤ NotValue
positive_of w None = Err Bad
positive_of w (Some n) = cond (ltb n (limit w)) (Ok (pos n)) (Err Outside)

-- n with a minus before it; `negsuc m` is -1 - m
abbrev pub negative_of : Width → Option ℕ → Result ℤ NotValue
negative_of w None = Err Bad
negative_of w (Some n) = cond (eqb n 0) (Err Bad) (cond (leb n (limit w)) (Ok (negsuc (n - 1))) (Err Outside))

-- with or without a minus
unfoldable pub integer_of : Width → List ℕ → Result ℤ NotValue
integer_of w f = cond (eqb (get_or f 0 0) 45) (negative_of w (natural_of (drop 1 f))) (positive_of w (natural_of f))
