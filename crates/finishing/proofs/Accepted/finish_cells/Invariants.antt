-- `finishing::Accepted::finish_cells` meets its contract. Assumes nothing.
use Rattle.rules.specs.Memories.{below, each}
use Rattle.finishing.specs.Computed.Parts.{cells_entries}
use Rattle.finishing.specs.Computed.Filled.{Adds}
use Rattle.finishing.proofs.Accepted.finish_cells.Given as goal

abbrev pub invariant-loop-place : goal.invariant-loop-place
invariant-loop-place l = Adds (each (cells_entries l.self.copies.now l.thread l.self.rows) (below l.place)) l.initial.out l.out
