-- The traces of a sheet as they are counted.
use Rattle.std.specs.Prelude.{ℕ, suc, ◌+◌, Option, Some, None, List, [], ◌∷◌, ◌++◌, length, get_or, set, replicate}
use Rattle.rules.specs.Limits.{Limits}
use Rattle.rules.specs.Rules.{refused, said}
use Rattle.listing.specs.Listing.{accepted_line, papers_line}
use Rattle.session.specs.declared.Session.{Session}
use Rattle.session.specs.declared.Tally.{Tally}
use Rattle.session.specs.Sheet.{Sheet, holds, turned_away}
use Rattle.session.specs.Counting.{numbers_of}
use Rattle.session.specs.Session.{refused_lines, lowest_line, greatest}

-- how often each number occurs, in a row
unfoldable pub counts_of : List ℕ → List ℕ
counts_of [] = replicate (suc greatest) 0
counts_of (n ∷ ns) = set (counts_of ns) n (get_or (counts_of ns) n 0 + 1)

-- how often k occurs
abbrev pub count_in : List ℕ → ℕ → ℕ
count_in cs k = get_or cs k 0

-- how many the traces are, and how often each number occurs, where they are found
abbrev pub tally_of : Limits → Sheet → Option Tally
tally_of m (holds ts) = Some (record { count = length ts; counts = counts_of (numbers_of m ts) })
tally_of m (turned_away n) = None

-- what is said after a refusal and a text of this length
abbrev pub refused_with : ℕ → ℕ → Session
refused_with number written = record { verdict = said (refused number 0); traces = 0; accepted = 0; written = written }

-- the lines of n traces in two parts, where a are accepted
abbrev pub head_lines : ℕ → ℕ → List (List ℕ)
head_lines n a = papers_line n ∷ accepted_line a ∷ []

abbrev pub end_lines : ℕ → ℕ → (ℕ → ℕ) → List (List ℕ)
end_lines n a f = refused_lines greatest f ++ (lowest_line a n ∷ [])
