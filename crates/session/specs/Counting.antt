-- Document 02 (j): the numbers of the traces of a sheet, how often each occurs, and a share in lowest terms.
use Rattle.std.specs.Prelude.{ℕ, zero, suc, ◌*◌, ◌/◌, ◌%◌, ◌≡◌, Bool, cond, ◌&&◌, List, [], ◌∷◌, map, eqb}
use Rattle.rules.specs.Limits.{Limits}
use Rattle.rules.specs.Rules.{number_in}
use Rattle.marking.specs.Marking.{marked_of}

-- The marker's verdict on each trace: the number of its refusal, 0 where it is accepted. "A paper with 20 to 22 counts as accepted": these refuse no
-- paper.
unfoldable pub numbers_of : Limits → List (List ℕ) → List ℕ
numbers_of m ts = map (λ t. number_in (marked_of m t)) ts

-- which numbers a trace of a sheet may have (`sheet_numbers`)
abbrev pub known : List ℕ
known = 0 ∷ 3 ∷ 4 ∷ 5 ∷ 6 ∷ 9 ∷ 10 ∷ 11 ∷ 12 ∷ 13 ∷ 14 ∷ 15 ∷ 16 ∷ 17 ∷ 18 ∷ 19 ∷ 23 ∷ 25 ∷ 26 ∷ 27 ∷ 28 ∷ 29 ∷ 30 ∷ []

-- how often k occurs
unfoldable pub times : ℕ → List ℕ → ℕ
times k [] = 0
times k (n ∷ ns) = cond (eqb n k) (suc (times k ns)) (times k ns)

-- d divides both
abbrev pub divides_both : ℕ → ℕ → ℕ → Bool
divides_both d a b = eqb (a % d) 0 && eqb (b % d) 0

-- the greatest number up to d that divides both
unfoldable pub common : ℕ → ℕ → ℕ → ℕ
common zero a b = 1
common (suc d) a b = cond (divides_both (suc d) a b) (suc d) (common d a b)

-- a over n "in lowest terms, `0/1` where none is accepted"
unfoldable pub above : ℕ → ℕ → ℕ
above a n = a / common a a n

unfoldable pub beneath : ℕ → ℕ → ℕ
beneath a n = cond (eqb a 0) 1 (n / common a a n)

-- x/y is a/n in lowest terms: the same share, and no number but 1 divides both
pub record Lowest (a n x y : ℕ) : Type 0 where
  pub same : x * n ≡ a * y
  pub lowest : (d p q : ℕ) → x ≡ d * p → y ≡ d * q → d ≡ 1
