-- `listing::write_copies` meets its contract: after t turns the copies of the first t threads are listed. Assumes nothing.
use Rattle.rules.specs.Memories.{below, each}
use Rattle.listing.specs.Listing.{copy_lines, copies_at}
use Rattle.listing.proofs.LineLaws.{Listed}
use Rattle.listing.proofs.write_copies.Given as goal

abbrev pub invariant-loop-t : goal.invariant-loop-t
invariant-loop-t l = Listed (λ i. copy_lines (each (copies_at l.copies l.n) (below i))) l.m l.initial.out l.t l.a l.out
