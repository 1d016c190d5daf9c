-- The marking of a whole trace, which document 01 calls a paper: finding it, then its event lines, one after the other.
use Rattle.std.specs.Prelude.{ℕ, ◌≡◌, List, [], map, reverse, ℤ, length, Result}
use Rattle.std.proofs.Math.Option.{Option}
use Rattle.rules.specs.declared.Event.{Event}
use Rattle.rules.specs.declared.Refusal.{Refusal}
use Rattle.rules.specs.Limits.{Limits, first_line}
use Rattle.rules.specs.Rules.{words_of, Marked, told, answered, refused_or, mark_read, past_read}
use Rattle.rules.specs.Memories.{memories_of}
use Rattle.rules.specs.Reading.{read_from}
use Rattle.decimal.specs.Text.{over}
use Rattle.records.specs.Records.{packed, value_in}
use Rattle.trace.specs.Trace.{trace_of, events_of, head_in, guards_in}
use Rattle.events.specs.Events.{part_lines, readings}
use Rattle.marking.specs.declared.Marking.{Marking}

-- the lines of the part that holds the events, each an event or none
unfoldable pub lines_in : Limits → List ℕ → List (Option Event)
lines_in m s = readings m.width (first_line (head_in (trace_of m s))) (part_lines (events_of s (trace_of m s)))

-- Whole paper: 1, 2, 3 (25), 6, then line by line 4, 9 (25), 5 and the row.
unfoldable pub marked_of : Limits → List ℕ → Marked
marked_of m s = refused_or (told (trace_of m s)) (mark_read m (head_in (trace_of m s)) [] (lines_in m s))

-- the events of a trace before its first refusal, all of them where it is accepted: the latest first, and in their own order
unfoldable pub past_of : Limits → List ℕ → List Event
past_of m s = past_read m (head_in (trace_of m s)) [] (lines_in m s)

unfoldable pub events_in : Limits → List ℕ → List Event
events_in m s = reverse (past_of m s)

-- ---- the answer of the code

-- an accepted trace: its head and guards, how many events it has, and the memories after the last
unfoldable pub accepted_of : Limits → List ℕ → Marking
accepted_of m s = record { head = (head_in (trace_of m s)); guards = (guards_in (trace_of m s)); events = length (events_in m s); memories = memories_of (words_of (past_of m s)) }

-- A refusal gives number and line and nothing else.
unfoldable pub marking_of : Limits → List ℕ → Result Marking Refusal
marking_of m s = answered (marked_of m s) (accepted_of m s)

-- the events that are read into the rows: up to the first line that is none, or up to the limit
unfoldable pub read_in : Limits → List ℕ → List Event
read_in m s = read_from m 0 (lines_in m s)

-- What is said of a trace, and what the two rows then hold at their front: the records of the events that were read, all of a trace that is accepted.
pub record Marks (m : Limits) (s whats : List ℕ) (values : List ℤ) (r : Result Marking Refusal) (whats' : List ℕ) (values' : List ℤ) : Type 0 where
  pub says : told r ≡ marked_of m s
  pub gives : r ≡ marking_of m s
  pub keeps : whats' ≡ over (map packed (read_in m s)) whats
  pub beside : values' ≡ over (map value_in (read_in m s)) values
