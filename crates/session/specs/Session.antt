-- Document 02 (j): what is said of a sheet and printed for it.
use Rattle.std.specs.Prelude.{ℕ, suc, ◌≡◌, cond, List, [], ◌∷◌, ◌++◌, eqb, ltb, length}
use Rattle.rules.specs.Limits.{Limits, full}
use Rattle.rules.specs.Memories.{below, each}
use Rattle.rules.specs.Rules.{Marked, accepted, refused, told, said}
use Rattle.decimal.specs.Text.{over}
use Rattle.listing.specs.Listing.{accepted_line, refused_line, papers_line, share_line, text_of}
use Rattle.session.specs.declared.Session.{Session}
use Rattle.session.specs.Sheet.{Sheet, holds, turned_away, sheet_of}
use Rattle.session.specs.Counting.{numbers_of, times, above, beneath}

-- ---- the lines

-- `refused k n` for each number k that occurs: n times
abbrev pub count_lines : ℕ → ℕ → List (List ℕ)
count_lines k n = cond (eqb n 0) [] (refused_line k n ∷ [])

-- rising, where f says how often each of the numbers 1 to n occurs
unfoldable pub refused_lines : ℕ → (ℕ → ℕ) → List (List ℕ)
refused_lines n f = each (λ k. count_lines (suc k) (f (suc k))) (below n)

-- `share a/b`, accepted over papers in lowest terms
abbrev pub lowest_line : ℕ → ℕ → List ℕ
lowest_line a n = share_line (above a n) (beneath a n)

-- the greatest number of a refusal of a trace (`numbers_low`)
abbrev pub greatest : ℕ
greatest = 30

-- "Print, a line each: `papers n`, `accepted n`, `refused k n` for each number k that occurs, rising, and `share a/b`" of n traces, where f says how
-- often each number occurs, and 0 stands for accepted
unfoldable pub counted_lines : ℕ → (ℕ → ℕ) → List (List ℕ)
counted_lines n f = papers_line n ∷ accepted_line (f 0) ∷ (refused_lines greatest f ++ (lowest_line (f 0) n ∷ []))

-- No count is printed for a sheet that is turned away.
abbrev pub sheet_lines : Limits → Sheet → List (List ℕ)
sheet_lines m (holds ts) = counted_lines (length ts) (λ k. times k (numbers_of m ts))
sheet_lines m (turned_away number) = refused_line 0 number ∷ []

unfoldable pub sheet_text : Limits → List ℕ → List ℕ
sheet_text m s = text_of (sheet_lines m (sheet_of s))

-- ---- the whole

abbrev pub sheet_verdict : Sheet → Marked
sheet_verdict (holds ts) = accepted
sheet_verdict (turned_away number) = refused number 0

-- of a sheet that is turned away nothing is counted
abbrev pub traces_in : Sheet → List (List ℕ)
traces_in (holds ts) = ts
traces_in (turned_away number) = []

-- the verdict, how many traces there are and how many of them are accepted, and the length of the text
abbrev pub session_with : Limits → Sheet → Session
session_with m q = record {
  verdict = said (sheet_verdict q);
  traces = length (traces_in q);
  accepted = times 0 (numbers_of m (traces_in q));
  written = length (text_of (sheet_lines m q));
}

-- 7, line 0: nothing else is said
abbrev pub too_little : Session
too_little = record { verdict = said (refused 7 0); traces = 0; accepted = 0; written = 0 }

-- 7 before all, for an output under 32,768 bytes, which then stays untouched; else bytes past the text do.
pub record Sessions (m : Limits) (s out : List ℕ) (r : Session) (out' : List ℕ) : Type 0 where
  pub told_is : told r.verdict ≡ cond (ltb (length out) full.output) (refused 7 0) (sheet_verdict (sheet_of s))
  pub says : r ≡ cond (ltb (length out) full.output) too_little (session_with m (sheet_of s))
  pub prints : out' ≡ cond (ltb (length out) full.output) out (over (sheet_text m s) out)
