-- A number read forward from a place in a text, up to a byte that ends it.
use Rattle.std.specs.Prelude.{ℕ, ◌+◌, ◌*◌, ◌-◌, min, List, [], ◌∷◌, cond, ltb, eqb, length, take, Option, Some, None}
use Rattle.lines.specs.Lines.{before}
use Rattle.decimal.specs.declared.Reached.{Reached}
use Rattle.decimal.specs.Decimal.{cap, is_digit, natural_of}

-- a number and the place e behind it, where there is a number
abbrev pub reached : ℕ → Option ℕ → Option Reached
reached e None = None
reached e (Some n) = Some (record { number = n; next = e })

-- the number from the front of t, which starts at `at`, up to the byte d, and the place behind this byte
unfoldable pub number_until : ℕ → ℕ → List ℕ → Option Reached
number_until d at t = cond (ltb (before d t) (length t)) (reached (at + before d t + 1) (natural_of (take (before d t) t))) None

-- the same without a look at a leading zero or an empty field, byte after byte, with n before the byte at i
unfoldable pub scan : ℕ → ℕ → ℕ → List ℕ → Option Reached
scan d n i [] = None
scan d n i (b ∷ bs) =
    cond (eqb b d) (Some (record { number = min cap n; next = i + 1 }))
    (cond (is_digit b) (scan d (n * 10 + (b - 48)) (i + 1) bs) None)
