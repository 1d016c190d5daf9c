-- What stays the same by other limits.
use Rattle.std.specs.Prelude.{ℕ, ◌≡◌, List, ℤ}
use Rattle.rules.specs.Limits.{Limits, full}
use Rattle.marking.specs.Marking.{marked_of, events_in, marking_of}
use Rattle.ordering.specs.declared.Ordering.{Ordering}
use Rattle.ordering.specs.Traces.{ordering_of, entries_of}
use Rattle.report.specs.Report.{listing_of, brief_of, whats_after, values_after, report_of}

-- By the limits m a paper has the verdict, head, guards, events and memories, the listing, order list and records that it has by the full limits.
pub record SameReport (m : Limits) (s : List ℕ) : Type 0 where
  pub marked : marked_of m s ≡ marked_of full s
  pub events : events_in m s ≡ events_in full s
  pub marking : marking_of m s ≡ marking_of full s
  pub report : (o : Ordering) (text : List ℕ) → report_of m s o text ≡ report_of full s o text
  pub ordering : ordering_of m s ≡ ordering_of full s
  pub entries : entries_of m s ≡ entries_of full s
  pub listing : listing_of m s ≡ listing_of full s
  pub brief : brief_of m s ≡ brief_of full s
  pub whats : (lent : List ℕ) → whats_after m s lent ≡ whats_after full s lent
  pub values : (lent : List ℤ) → values_after m s lent ≡ values_after full s lent
