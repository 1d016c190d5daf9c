-- `ordering::deny` meets its contract: the loop asks 20 and 21 of each event, 22 is asked at the end. Assumes nothing.
use Rattle.ordering.proofs.Denying.{Going}
use Rattle.ordering.proofs.deny.Given as goal

abbrev pub invariant-loop-i : goal.invariant-loop-i
invariant-loop-i l = Going l.rows.head l.locks l.rows.what.now l.rows.value.now l.holds l.pending l.late l.i
