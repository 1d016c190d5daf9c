-- The events that were read so far lie over the rows, and the lines from here on are left.
use Rattle.std.proofs.Common.{◌-◌, length}
use Rattle.events.proofs.ReadLaws.{Turn}
use Rattle.events.proofs.read_lines.Given as goal

abbrev pub invariant-loop-at : goal.invariant-loop-at
invariant-loop-at l = Turn l.course l.h l.s l.from l.initial.what l.initial.value l.what l.value l.at l.n

abbrev pub decreases-loop-at : goal.decreases-loop-at
decreases-loop-at l = length l.s - l.at
