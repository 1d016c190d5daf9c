-- `session::count_traces` meets its contract: the bytes behind `left` are traces, whose numbers are counted.
use lib.ListN.{length}
use Rattle.session.proofs.Rounds.{Counting}
use Rattle.session.proofs.count_traces.Given as goal

abbrev pub invariant-loop-left : goal.invariant-loop-left
invariant-loop-left l = Counting l.course l.s l.counts l.count l.left

abbrev pub decreases-loop-left : goal.decreases-loop-left
decreases-loop-left l = length l.left
