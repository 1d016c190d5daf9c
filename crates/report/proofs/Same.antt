-- Limits by which a paper has the same trace, verdict and events as by the full ones: its whole report is the same. So it is where another scratch
-- is asked for.
use Prim.Native.Nat.{ℕ}
use mathlib.Core.Path.{◌≡◌, refl, ap}
use mathlib.Core.Bool.{true}
use mathlib.Core.List.{List, reverse}
use Rattle.rules.specs.declared.Event.{Event}
use Rattle.rules.specs.Limits.{Limits, full, full_with, value_width}
use Rattle.trace.specs.Trace.{trace_of}
use Rattle.marking.specs.Marking.{marked_of, past_of, events_in, accepted_of, marking_of, read_in}
use Rattle.marking.specs.Courses.{MarkedAlike}
use Rattle.marking.proofs.FullWith.{scratch_alike, scratch_read}
use Rattle.ordering.specs.Traces.{ordering_of, entries_of}
use Rattle.report.specs.Same.{SameReport}
use Rattle.report.specs.Report.{order_lines, memory_lines, refusal_lines, listing_with, listing_of, brief_of, records_after, whats_after, values_after, count_of, report_of}

module _ (m : Limits) (s : List ℕ) (a : MarkedAlike m s) where
  t : trace_of m s ≡ trace_of full s
  t = a.trace

  k : marked_of m s ≡ marked_of full s
  k = a.marked

  p : past_of m s ≡ past_of full s
  p = a.past

  events : events_in m s ≡ events_in full s
  unfolding events_in
  events = ap (λ (es : List Event). reverse es) p

  ordering : ordering_of m s ≡ ordering_of full s
  unfolding ordering_of
  ordering = rw (k, t, events) refl

  listing : listing_of m s ≡ listing_of full s
  unfolding listing_of listing_with order_lines memory_lines refusal_lines
  listing = rw (k, t, events, p) refl

  pub same_report : SameReport m s
  unfolding marking_of accepted_of report_of count_of brief_of listing_with memory_lines refusal_lines entries_of whats_after values_after records_after
  same_report = record {
    marked = k;
    events = events;
    marking = rw (k, t, events, p) refl;
    report = λ o text. rw (k, events) refl;
    ordering = ordering;
    entries = rw (t, events) refl;
    listing = listing;
    brief = rw (k, t, events, p) refl;
    whats = λ lent. rw (k, events) refl;
    values = λ lent. rw (k, events) refl;
  }

-- Document 02 (k): "Give the same order from scratch of 1,000 numbers." Whatever scratch the limits ask for, 2,000 places as in document 01 or another
-- number, a paper has the same verdict, order, listing and records, and the rows that are room for its records hold the same too.
pub scratch_same : (k : ℕ) (s : List ℕ) → SameReport (full_with k value_width true) s × (read_in (full_with k value_width true) s ≡ read_in full s)
scratch_same k s = (same_report (full_with k value_width true) s (scratch_alike k s), scratch_read k s)
