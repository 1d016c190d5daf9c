-- The marking of rows that were read: the first refusal in line order, of the rows or of what ended the reading.
use Rattle.std.specs.Prelude.{ℕ, List, ℤ, take, Result}
use Rattle.rules.specs.declared.Counts.{Counts}
use Rattle.rules.specs.declared.Refusal.{Refusal}
use Rattle.rules.specs.Limits.{full}
use Rattle.rules.specs.Rules.{words_of, Marked, told, answered, refused_or}
use Rattle.rules.specs.Memories.{memories_of}
use Rattle.trace.specs.Trace.{Guards}
use Rattle.events.specs.declared.Read.{Read}
use Rattle.machine.specs.Rows.{row_marked, row_past}
use Rattle.marking.specs.declared.Marking.{Marking}

module _ (h : Counts) (g : Guards) (read : Read) (what : List ℕ) (value : List ℤ) where
  unfoldable pub read_marked : Marked
  read_marked = refused_or (row_marked full h (take read.count what) (take read.count value)) (told read.verdict)

  unfoldable pub read_accepted : Marking
  read_accepted = record { head = h; guards = g; events = read.count; memories = memories_of (words_of (row_past full h (take read.count what) (take read.count value))) }

  unfoldable pub read_marking : Result Marking Refusal
  read_marking = answered read_marked read_accepted
