-- An entry of the order as one number: thread, last line and first line, each line below 4,096.
use Rattle.std.specs.Prelude.{ℕ, ◌+◌, ◌*◌, ◌/◌, ◌%◌}
use Rattle.sections.specs.CriticalSections.{Entry}

unfoldable pub entry_code : Entry → ℕ
entry_code s = s.thread * 16777216 + s.last * 4096 + s.first

-- the entry of a number
unfoldable pub entry_in : ℕ → Entry
entry_in x = record { thread = x / 16777216; first = x % 4096; last = x / 4096 % 4096 }
