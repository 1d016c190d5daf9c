-- Document 02 (j), the session sheet: "Papers of a sitting are joined end to end", and how these traces are found again.
use Rattle.std.specs.Prelude.{ℕ, zero, suc, ◌-◌, ◌≡◌, cond, ◌&&◌, Option, Some, None, List, [], ◌∷◌, ◌++◌, eqb, ltb, leb, length, get_or, take, drop}
use Rattle.rules.specs.Limits.{full}
use Rattle.trace.specs.Trace.{last_line, last_number, trailer_of}

-- ---- what a sheet is

-- traces joined end to end
unfoldable pub joined : List (List ℕ) → List ℕ
joined [] = []
joined (t ∷ ts) = t ++ joined ts

-- A trace of a sheet begins with `H`, and its last line is a trailer with the number of bytes before it: it points back to the head. The rest is
-- for the marker to say.
pub record Ends (t : List ℕ) : Type 0 where
  pub begins : get_or t 0 0 ≡ 72
  pub trailed : trailer_of t ≡ Some (last_line t)

-- ---- how it is read

-- A trailer at `at` with the number n points back by n bytes: not before the first byte, and at an `H`.
abbrev pub pointed : List ℕ → ℕ → Option ℕ → Option ℕ
pointed s at None = None
pointed s at (Some n) = cond (leb n at && eqb (get_or s (at - n) 0) 72) (Some (at - n)) None

-- where the last trace starts
unfoldable pub start_of : List ℕ → Option ℕ
start_of s = pointed s (last_line s) (last_number s)

-- the traces that a sheet holds, in their order, or the number of its refusal (line 0)
pub data Sheet : Type 0 where
  holds : List (List ℕ) → Sheet
  turned_away : ℕ → Sheet

abbrev pub on_start : {A : Type 0} → Option ℕ → A → (ℕ → A) → A
on_start None stop f = stop
on_start (Some a) stop f = f a

-- "Find them from the last trailer backwards." The traces ts are found already. Turned away: 31, what is left does not end in a trailer, or a
-- trailer points before the first byte or not at an `H`. Each round takes a byte at least, so that `length s` rounds are enough.
unfoldable pub find_from : ℕ → List ℕ → List (List ℕ) → Sheet
find_from zero s ts = cond (eqb (length s) 0) (holds ts) (turned_away 31)
find_from (suc k) s ts = cond (eqb (length s) 0) (holds ts) (on_start (start_of s) (turned_away 31) (λ a. find_from k (take a s) (drop a s ∷ ts)))

-- In at most 65,536 bytes, else 1.
unfoldable pub sheet_of : List ℕ → Sheet
sheet_of s = cond (ltb full.bytes (length s)) (turned_away 1) (find_from (length s) s [])
