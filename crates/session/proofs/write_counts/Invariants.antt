-- `session::write_counts` meets its contract: the numbers below k are listed.
use Rattle.session.specs.Computed.Tally.{count_in}
use Rattle.session.proofs.SheetLines.{ListedBelow}
use Rattle.session.proofs.write_counts.Given as goal

abbrev pub invariant-loop-k : goal.invariant-loop-k
invariant-loop-k l = ListedBelow (count_in l.counts) l.initial.out l.k l.a l.out
