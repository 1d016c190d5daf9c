-- A record as two plain numbers: what the event is (letter, thread, variable or lock), and its value, of an F the thread that it notifies. A record is kept at its event's place in
-- two rows, and the place gives the line.
use Rattle.std.specs.Prelude.{ℕ, ◌+◌, ◌*◌, ◌/◌, ◌%◌, cond, List, ltb, ℤ, pos, length, get_or, take}
use Rattle.std.proofs.Math.Option.{Option}
use Rattle.rules.specs.declared.Counts.{Counts}
use Rattle.rules.specs.declared.Event.{Event}
use Rattle.rules.specs.declared.Kind.{Kind}
use Rattle.rules.specs.declared.Kind.TheVariants.{Read}
use Rattle.std.specs.Prelude.{Some, None}
use Rattle.std.specs.Prelude.{Option as Option'}
use Rattle.rules.specs.Events.{letter, place, capped, value, kind_of, event_with}
use Rattle.rules.specs.Limits.{line_after}
use Rattle.rules.specs.Memories.{from}
use Rattle.decimal.specs.Text.{over}

-- what an event is, from its letter, thread, and variable or lock
unfoldable pub what_of : ℕ → ℕ → ℕ → ℕ
what_of k t p = k * 65536 + capped t * 256 + capped p

-- the record of an event: what it is, and its value
unfoldable pub packed : Event → ℕ
packed e = what_of (letter e.kind) e.thread (place e.kind)

abbrev pub value_in : Event → ℤ
value_in e = value e.kind

-- the parts of a record; a number above a byte is no letter
unfoldable pub letter_in : ℕ → ℕ
letter_in w = cond (ltb (w / 65536) 256) (w / 65536) 0

unfoldable pub thread_in : ℕ → ℕ
thread_in w = w / 256 % 256

unfoldable pub place_in : ℕ → ℕ
place_in w = w % 256

-- the line of a record as an event, or none
unfoldable pub event_in : ℕ → ℕ → ℤ → Option Event
event_in line w x = event_with line (thread_in w) (kind_of (letter_in w) (place_in w) x)

-- the line of the record at place i of two rows
unfoldable pub record_at : Counts → List ℕ → List ℤ → ℕ → Option Event
record_at h ws xs i = event_in (line_after h i) (get_or ws i 0) (get_or xs i (pos 0))

-- the lines of two rows
unfoldable pub row_lines : Counts → List ℕ → List ℤ → List (Option Event)
row_lines h ws xs = from (record_at h ws xs) 0 (length ws)

-- the same as events, of rows where each number names a kind; no contract of an entry cites what another stands for
abbrev pub or_read : Option' Kind → ℕ → ℤ → Kind
or_read None p x = Read p x
or_read (Some kind) p x = kind

unfoldable pub unpacked : ℕ → ℕ → ℤ → Event
unpacked line w x = record { thread = thread_in w; line = line; kind = or_read (kind_of (letter_in w) (place_in w) x) (place_in w) x }

-- the event of the record at place i of two rows
unfoldable pub event_at : Counts → List ℕ → List ℤ → ℕ → Event
event_at h ws xs i = unpacked (line_after h i) (get_or ws i 0) (get_or xs i (pos 0))

-- the events of two rows
unfoldable pub row_events : Counts → List ℕ → List ℤ → List Event
row_events h ws xs = from (event_at h ws xs) 0 (length ws)

-- ---- a lent row with these at its front, as far as it has places for them
abbrev pub onto : {A : Type 0} → List A → List A → List A
onto row lent = over (take (length lent) row) lent
