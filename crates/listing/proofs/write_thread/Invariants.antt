-- `listing::write_thread` meets its contract: after v turns the copies of the first v variables are listed. Assumes nothing.
use Rattle.rules.specs.Memories.{below, each}
use Rattle.listing.specs.Listing.{copy_lines, copy_at}
use Rattle.listing.proofs.LineLaws.{Listed}
use Rattle.listing.proofs.write_thread.Given as goal

abbrev pub invariant-loop-v : goal.invariant-loop-v
invariant-loop-v l = Listed (λ i. copy_lines (each (copy_at l.copies l.t) (below i))) l.n l.initial.out l.v l.a l.out
