-- `machine::run` meets its contract: `Running` holds at each record. Assumes nothing.
use Rattle.machine.proofs.Running.{Running}
use Rattle.machine.proofs.run.Given as goal

abbrev pub invariant-loop-i : goal.invariant-loop-i
invariant-loop-i l = Running l.initial.s l.what l.value l.s l.tallies l.i
