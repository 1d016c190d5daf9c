-- A whole trace: what is said of it, its records, its order and its listing, each over its bytes.
use Rattle.std.specs.Prelude.{ℕ, min, ◌≡◌, Bool, cond, ◌||◌, List, [], ◌∷◌, ◌++◌, map, ℤ, length}
use Rattle.rules.specs.Limits.{Limits, lent_short, order_short}
use Rattle.rules.specs.Memories.{memory, copies}
use Rattle.rules.specs.Rules.{words_of, refused, told, said, number_in, line_in, on_marked}
use Rattle.decimal.specs.Text.{over}
use Rattle.records.specs.Records.{packed, value_in}
use Rattle.trace.specs.Trace.{trace_of, head_in, guards_in}
use Rattle.marking.specs.Marking.{read_in, marked_of, past_of, events_in}
use Rattle.sections.specs.Denials.{Denial, fit, denied}
use Rattle.sections.specs.Refusals.{denial}
use Rattle.sections.specs.Order.{order}
use Rattle.listing.specs.Listing.{refused_line, unordered_line, text_of, state_lines, section_lines}
use Rattle.ordering.specs.declared.Ordering.{Ordering}
use Rattle.ordering.specs.declared.Ordering.TheVariants.{NoOrder}
use Rattle.ordering.specs.Answer.{guard_of, on_guards, Given}
use Rattle.ordering.specs.Traces.{ordering_of, entries_of}
use Rattle.report.specs.declared.Report.{Report}

-- ---- the listing

-- The sections; for 20 to 22 the sections give way to `unordered line number`.
abbrev pub denial_lines : Denial → List (List ℕ) → List (List ℕ)
denial_lines fit sections = sections
denial_lines (denied number line) sections = unordered_line line number ∷ []

-- With `G -` there are neither.
unfoldable pub order_lines : Limits → List ℕ → List (List ℕ)
order_lines m s =
    on_guards (guards_in (trace_of m s))
    (λ locks. denial_lines (denial (head_in (trace_of m s)) (guard_of locks) (events_in m s)) (section_lines (order (head_in (trace_of m s)) (events_in m s)))) []

-- Events; each declared variable and its value in main memory; each usable copy.
unfoldable pub memory_lines : Limits → List ℕ → List (List ℕ)
memory_lines m s = state_lines (length (events_in m s)) (memory (head_in (trace_of m s)) (words_of (past_of m s))) (copies (head_in (trace_of m s)) (words_of (past_of m s)))

-- Otherwise only `refused line number`.
unfoldable pub refusal_lines : Limits → List ℕ → List (List ℕ)
refusal_lines m s = refused_line (line_in (marked_of m s)) (number_in (marked_of m s)) ∷ []

-- with these lines about the order of an accepted trace
unfoldable pub listing_with : Limits → List ℕ → List (List ℕ) → List ℕ
listing_with m s ends = text_of (on_marked (marked_of m s) (memory_lines m s ++ ends) (refusal_lines m s))

-- where an order is wanted
unfoldable pub listing_of : Limits → List ℕ → List ℕ
listing_of m s = listing_with m s (order_lines m s)

-- where no order is wanted
unfoldable pub brief_of : Limits → List ℕ → List ℕ
brief_of m s = listing_with m s []

-- ---- records

-- One record for each event line; places past the events stay untouched, and all of them after a refusal.
unfoldable pub records_after : {X : Type 0} → Limits → List ℕ → List X → List X → List X
records_after m s records lent = on_marked (marked_of m s) (over records lent) lent

unfoldable pub whats_after : Limits → List ℕ → List ℕ → List ℕ
whats_after m s lent = records_after m s (map packed (events_in m s)) lent

unfoldable pub values_after : Limits → List ℕ → List ℤ → List ℤ
values_after m s lent = records_after m s (map value_in (events_in m s)) lent

-- ---- what is said

-- how many events an accepted trace has; 0 of a refused one
unfoldable pub count_of : Limits → List ℕ → ℕ
count_of m s = on_marked (marked_of m s) (length (events_in m s)) 0

-- where enough is lent: the verdict, the events, what is said of the order, and the length of the listing
unfoldable pub report_of : Limits → List ℕ → Ordering → List ℕ → Report
report_of m s o text = record { verdict = said (marked_of m s); events = count_of m s; ordering = o; written = length text }

-- 7, line 0: nothing else is said
abbrev pub too_little_report : Report
too_little_report = record { verdict = said (refused 7 0); events = 0; ordering = NoOrder; written = 0 }

-- ---- where an order is wanted: so many places are lent for records, and these lists for output, order list and scratch

abbrev pub too_little : Limits → ℕ → List ℕ → List ℕ → List ℕ → Bool
too_little m places out list scratch = lent_short m places (length out) || order_short m (length list) (length scratch)

-- 7 before all: after it nothing lent is touched.
pub record Reports (m : Limits) (s : List ℕ) (places : ℕ) (out list scratch : List ℕ) (r : Report) (out' list' scratch' : List ℕ) : Type 0 where
  pub told_is : told r.verdict ≡ cond (too_little m places out list scratch) (refused 7 0) (marked_of m s)
  pub says : r ≡ cond (too_little m places out list scratch) too_little_report (report_of m s (ordering_of m s) (listing_of m s))
  pub prints : out' ≡ cond (too_little m places out list scratch) out (over (listing_of m s) out)
  pub orders : Given (cond (too_little m places out list scratch) NoOrder (ordering_of m s)) (entries_of m s) list scratch r.ordering list' scratch'

-- The same with the records, in two rows.
pub record Fills (m : Limits) (s whats : List ℕ) (values : List ℤ) (out list scratch : List ℕ) (r : Report) (whats' : List ℕ) (values' : List ℤ) (out' list' scratch' : List ℕ) : Type 0 where
  pub reports : Reports m s (min (length whats) (length values)) out list scratch r out' list' scratch'
  pub fills : whats' ≡ cond (too_little m (min (length whats) (length values)) out list scratch) whats (whats_after m s whats)
  pub beside : values' ≡ cond (too_little m (min (length whats) (length values)) out list scratch) values (values_after m s values)

-- The same with two rows that are room for the records: those of the events that were read stand at their front, after a refusal too.
pub record Lends (m : Limits) (s : List ℕ) (places : ℕ) (what : List ℕ) (value : List ℤ) (out list scratch : List ℕ) (r : Report) (what' : List ℕ) (value' : List ℤ) (out' list' scratch' : List ℕ) : Type 0 where
  pub reports : Reports m s places out list scratch r out' list' scratch'
  pub keeps : what' ≡ cond (too_little m places out list scratch) what (over (map packed (read_in m s)) what)
  pub beside : value' ≡ cond (too_little m places out list scratch) value (over (map value_in (read_in m s)) value)

-- ---- where no order is wanted: 7 asks records and output alone
pub record Briefs (m : Limits) (s whats : List ℕ) (values : List ℤ) (out : List ℕ) (r : Report) (whats' : List ℕ) (values' : List ℤ) (out' : List ℕ) : Type 0 where
  pub told_is : told r.verdict ≡ cond (lent_short m (min (length whats) (length values)) (length out)) (refused 7 0) (marked_of m s)
  pub says : r ≡ cond (lent_short m (min (length whats) (length values)) (length out)) too_little_report (report_of m s NoOrder (brief_of m s))
  pub prints : out' ≡ cond (lent_short m (min (length whats) (length values)) (length out)) out (over (brief_of m s) out)
  pub fills : whats' ≡ cond (lent_short m (min (length whats) (length values)) (length out)) whats (whats_after m s whats)
  pub beside : values' ≡ cond (lent_short m (min (length whats) (length values)) (length out)) values (values_after m s values)
