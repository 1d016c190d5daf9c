-- Lent rows of events: what they hold after a call.
use Rattle.std.specs.Prelude.{ℕ, min, ◌≡◌, cond, List, ℤ, length, Result}
use Rattle.rules.specs.declared.Event.{Event}
use Rattle.rules.specs.declared.Counts.{Counts}
use Rattle.rules.specs.Limits.{Limits, full, line_after}
use Rattle.rules.specs.Rules.{on_marked}
use Rattle.rules.specs.Memories.{from}
use Rattle.rules.specs.Reading.{read_from}
use Rattle.decimal.specs.Text.{over}
use Rattle.records.specs.Records.{record_at}
use Rattle.trace.specs.Trace.{trace_of, head_in}
use Rattle.marking.specs.Marking.{events_in, past_of}
use Rattle.rules.specs.declared.Refusal.{Refusal}
use Rattle.finishing.specs.declared.Tail.{Tail}
use Rattle.finishing.specs.Tail.{tail_of, tail_verdict, answer_of}
use Rattle.report.specs.declared.Report.{Report}
use Rattle.report.specs.Report.{too_little, records_after, Reports}

-- how many records are looked at: as many as asked for, never more than a row has places, and never more than 2,000, the most that a trace has
unfoldable pub fitting : ℕ → List Event → List ℕ → List ℤ → ℕ
fitting n records ws xs = min (min n full.records) (min (length records) (min (length ws) (length xs)))

-- a lent row of events after its first places were filled from two rows of records, up to the first record that is no event; places past the
-- events stay untouched
unfoldable pub filled : Counts → List ℕ → List ℤ → ℕ → List Event → List Event
filled h ws xs n records = over (read_from full 0 (from (record_at h ws xs) 0 (fitting n records ws xs))) records

-- A whole trace with its events. One record for each event line; places past the events stay untouched, and all of them after a refusal.
-- 7 before all: after it nothing lent is touched.
pub record FillsEvents (m : Limits) (s : List ℕ) (records : List Event) (out list scratch : List ℕ) (r : Report) (records' : List Event) (out' list' scratch' : List ℕ) : Type 0 where
  pub reports : Reports m s (length records) out list scratch r out' list' scratch'
  pub fills : records' ≡ cond (too_little m (length records) out list scratch) records (records_after m s (events_in m s) records)

-- The tail of a trace in a lent row of events: all of it or none, and before that nothing is written. Places past the tail stay untouched.
pub record GivesEvents (m : Limits) (s : List ℕ) (records : List Event) (r : Result Tail Refusal) (records' : List Event) : Type 0 where
  pub answers : r ≡ answer_of (tail_verdict m s (length records)) (length (tail_of m s)) (line_after (head_in (trace_of m s)) (length (past_of m s)))
  pub fills : records' ≡ on_marked (tail_verdict m s (length records)) (over (tail_of m s) records) records
