-- Document 02 (e): "A short-course paper gets the full marker's verdict", and its records, order and listing. For every sequence of bytes.
use Prim.Native.Nat.{ℕ, ◌≤◌}
use mathlib.Core.Path.{◌≡◌, refl}
use mathlib.Core.List.{List, ◌∷◌, ◌++◌, map, reverse}
use mathlib.Core.Logic.{◌⊎◌, ◌↔◌}
use mathlib.Core.Option.{Option, none, some}
use lib.Dec.{T}
use lib.ListN.{length}
use Rattle.rules.specs.declared.Course.TheVariants.{Short}
use Rattle.rules.specs.declared.Event.{Event}
use Rattle.rules.specs.Limits.{full, short, line_after}
use Rattle.rules.specs.Rules.{refused, Accepted}
use Rattle.rules.proofs.Bounds.{up_to_full}
use Rattle.trace.specs.Trace.{trace_of, head_in}
use Rattle.marking.specs.Marking.{lines_in, marked_of}
use Rattle.marking.specs.Courses.{OverHead, OverEvents, MarkedAlike, ByLimits, head, events, other}
use Rattle.marking.proofs.Courses.{over_or_alike, excess_exact, within_alike, wrong_line, never_said}
use Rattle.report.specs.Same.{SameReport}
use Rattle.report.proofs.Same.{same_report}

module _ (s : List ℕ) where
  -- A paper is refused with 25 for its head, at line 1, or for its 201st event, at its line; or it has the full marker's report.
  pub short_paper : ByLimits short s (SameReport short s)
  short_paper = by (over_or_alike short (up_to_full Short) refl refl refl s)
    where
      by : ByLimits short s (MarkedAlike short s) → ByLimits short s (SameReport short s)
      by (head o q) = head o q
      by (events o q) = events o q
      by (other a) = other (same_report short s a)

  -- 25 is said exactly of these.
  pub short_exact : (line : ℕ) → marked_of short s ≡ refused 25 line ↔ ((OverHead short s × (line ≡ 1)) ⊎ (OverEvents short s × (line ≡ line_after (head_in (trace_of full s)) 200)))
  short_exact line = excess_exact short (up_to_full Short) refl refl refl s (never_said s) line

  -- A paper whose head is not over the limits and which has at most 200 event lines has the full marker's report.
  pub short_same : (OverHead short s → ⊥) → length (lines_in full s) ≤ 200 → SameReport short s
  short_same n few = same_report short s (within_alike short (up_to_full Short) refl refl refl s n few)

  -- A 201st event line that is no event is 4, behind 200 accepted ones.
  pub short_wrong : (OverHead short s → ⊥) → (earlier : List Event) (rest : List (Option Event)) → lines_in full s ≡ map some earlier ++ (none ∷ rest)
      → length earlier ≡ 200 → T (Accepted full (head_in (trace_of full s)) (reverse earlier)) → marked_of short s ≡ refused 4 (line_after (head_in (trace_of full s)) 200)
  short_wrong n earlier rest q c a = wrong_line short (up_to_full Short) refl refl refl s n earlier rest q c a
