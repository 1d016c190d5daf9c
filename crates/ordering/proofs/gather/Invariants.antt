-- `ordering::gather` meets its contract: the loop puts one number after the other to the list. Assumes nothing.
use Rattle.ordering.proofs.Gathering.{Gathered}
use Rattle.ordering.proofs.gather.Given as goal

abbrev pub invariant-loop-x : goal.invariant-loop-x
invariant-loop-x l = Gathered l.part l.initial.list l.list l.c l.x-index
