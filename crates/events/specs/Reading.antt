-- Reading the lines of a part that holds events into two rows of records.
use Rattle.std.specs.Prelude.{ℕ, ◌≡◌, List, map, ℤ, length}
use Rattle.std.proofs.Math.Option.{Option}
use Rattle.rules.specs.declared.Event.{Event}
use Rattle.rules.specs.declared.Counts.{Counts}
use Rattle.rules.specs.Limits.{Limits, first_line}
use Rattle.rules.specs.Rules.{told}
use Rattle.rules.specs.Reading.{read_from, stop_from}
use Rattle.decimal.specs.Text.{over}
use Rattle.records.specs.Records.{packed, value_in}
use Rattle.events.specs.declared.Read.{Read}
use Rattle.events.specs.Events.{readings, part_lines}

-- the lines of any bytes, each an event or none
abbrev pub lines_read : Limits → Counts → List ℕ → List (Option Event)
lines_read m h s = readings m.width (first_line h) (part_lines s)

-- the events up to the first line that is none, or up to the limit
abbrev pub events_read : Limits → Counts → List ℕ → List Event
events_read m h s = read_from m 0 (lines_read m h s)

-- how many events were read, what ended the reading, and what the two lent rows hold then: the records in front, the rest as it was
pub record Reads (m : Limits) (h : Counts) (s : List ℕ) (r : Read) (what what' : List ℕ) (value value' : List ℤ) : Type 0 where
  pub count : r.count ≡ length (events_read m h s)
  pub verdict : told r.verdict ≡ stop_from m h 0 (lines_read m h s)
  pub what_is : what' ≡ over (map packed (events_read m h s)) what
  pub value_is : value' ≡ over (map value_in (events_read m h s)) value
