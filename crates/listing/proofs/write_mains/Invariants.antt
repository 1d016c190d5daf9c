-- `listing::write_mains` meets its contract: after v turns the first v variables are listed. Assumes nothing.
use Rattle.rules.specs.Memories.{below, each}
use Rattle.listing.specs.Listing.{main_lines, main_at}
use Rattle.listing.proofs.LineLaws.{Listed}
use Rattle.listing.proofs.write_mains.Given as goal

abbrev pub invariant-loop-v : goal.invariant-loop-v
invariant-loop-v l = Listed (λ i. main_lines (each (main_at l.main) (below i))) l.n l.initial.out l.v l.a l.out
