-- What stands before the first b is what was passed and what stands before it in the rest.
use Rattle.std.proofs.Common.{◌≡◌, ◌+◌, drop}
use Rattle.lines.specs.Lines.{before}
use Rattle.lines.proofs.find.Given as goal

abbrev pub invariant-loop-i : goal.invariant-loop-i
invariant-loop-i l = before l.b l.s ≡ l.i + before l.b (drop l.i l.s)
