-- Rows of records, of which the first stands for a line.
use Rattle.std.specs.Prelude.{ℕ, ◌+◌, List, ℤ, pos, get_or}
use Rattle.rules.specs.declared.Event.{Event}
use Rattle.records.specs.Records.{unpacked}

-- the event of the record at place i
abbrev pub event_on : ℕ → List ℕ → List ℤ → ℕ → Event
event_on line ws xs i = unpacked (line + i) (get_or ws i 0) (get_or xs i (pos 0))
