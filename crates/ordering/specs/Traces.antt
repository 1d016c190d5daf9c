-- The order of a whole trace, over its bytes.
use Rattle.std.specs.Prelude.{ℕ, ◌≡◌, cond, List, map, ℤ, length, Result, Ok, Err}
use Rattle.rules.specs.Limits.{Limits, order_short}
use Rattle.rules.specs.Rules.{refused, told, on_marked}
use Rattle.decimal.specs.Text.{over}
use Rattle.records.specs.Records.{packed, value_in}
use Rattle.rules.specs.declared.Refusal.{Refusal}
use Rattle.trace.specs.Trace.{trace_of, head_in, guards_in}
use Rattle.marking.specs.declared.Marking.{Marking}
use Rattle.marking.specs.Marking.{marked_of, events_in, marking_of, read_in}
use Rattle.ordering.specs.declared.Ordering.{Ordering}
use Rattle.ordering.specs.declared.Ordering.TheVariants.{NoOrder}
use Rattle.ordering.specs.declared.Outcome.{Outcome}
use Rattle.ordering.specs.Answer.{answer_for, entries_for, Given}
use Rattle.ordering.specs.Serial.{SerialAnswer}

-- Then, with guards, 20 and 21 event by event, 22 last. Of the order of a refused trace nothing is said.
unfoldable pub ordering_of : Limits → List ℕ → Ordering
ordering_of m s = on_marked (marked_of m s) (answer_for (head_in (trace_of m s)) (guards_in (trace_of m s)) (events_in m s)) NoOrder

-- the entries of the order
unfoldable pub entries_of : Limits → List ℕ → List ℕ
entries_of m s = entries_for (head_in (trace_of m s)) (events_in m s)

-- Demand 3, of the answer o and the numbers in the order list after it: the sequential memory is fed these numbers and the trace's events
abbrev pub SerialTrace : Limits → List ℕ → Ordering → List ℕ → Type 0
SerialTrace m s o list' = SerialAnswer (head_in (trace_of m s)) (guards_in (trace_of m s)) (events_in m s) o list'

-- the marking in an answer, and what it says of the order: nothing where the trace is refused
abbrev pub marking_in : Result Outcome Refusal → Result Marking Refusal
marking_in (Ok o) = Ok o.marking
marking_in (Err r) = Err r

abbrev pub ordering_in : Result Outcome Refusal → Ordering
ordering_in (Ok o) = o.ordering
ordering_in (Err r) = NoOrder

-- a whole trace, marked and ordered; 7 before all, and nothing is touched after it
pub record OrdersTrace (m : Limits) (s whats : List ℕ) (values : List ℤ) (list scratch : List ℕ) (r : Result Outcome Refusal) (whats' : List ℕ) (values' : List ℤ) (list' scratch' : List ℕ) : Type 0 where
  pub says : told r ≡ cond (order_short m (length list) (length scratch)) (refused 7 0) (marked_of m s)
  pub marks : marking_in r ≡ cond (order_short m (length list) (length scratch)) (Err (record { number = 7; line = 0 })) (marking_of m s)
  pub keeps : whats' ≡ cond (order_short m (length list) (length scratch)) whats (over (map packed (read_in m s)) whats)
  pub beside : values' ≡ cond (order_short m (length list) (length scratch)) values (over (map value_in (read_in m s)) values)
  pub gives : Given (cond (order_short m (length list) (length scratch)) NoOrder (ordering_of m s)) (entries_of m s) list scratch (ordering_in r) list' scratch'
