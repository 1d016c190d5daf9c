-- The lines of records.
use Rattle.std.specs.Prelude.{ℕ, List, [], ℤ}
use Rattle.std.specs.List.{flat_map}
use Rattle.std.proofs.Math.Option.{Option, none, some}
use Rattle.rules.specs.declared.Event.{Event}
use Rattle.decimal.specs.Text.{ended}
use Rattle.records.specs.Records.{event_in}
use Rattle.writer.specs.Text.{event_line}

-- an event line is written where so many bytes remain; none is longer
abbrev pub line_room : ℕ
line_room = 98

-- the line of an event, if it is one
abbrev pub line_for : Option Event → List ℕ
line_for none = []
line_for (some e) = ended (event_line e)

-- the line of a record; no line tells its own number
unfoldable pub record_text : ℕ → ℤ → List ℕ
record_text w x = line_for (event_in 0 w x)

-- the lines of records, each with its value
unfoldable pub records_text : List (ℕ × ℤ) → List ℕ
records_text rs = flat_map (λ r. record_text r.0 r.1) rs
