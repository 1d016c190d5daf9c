-- `finishing::Accepted::finish` meets its contract. Assumes nothing.
use Rattle.rules.specs.Memories.{below, each}
use Rattle.finishing.specs.Computed.Parts.{thread_entries}
use Rattle.finishing.specs.Computed.Filled.{Adds}
use Rattle.finishing.proofs.Accepted.finish.Given as goal

abbrev pub invariant-loop-thread : goal.invariant-loop-thread
invariant-loop-thread l = Adds (each (thread_entries l.self.head l.self.copies.now l.self.rows) (below l.thread)) l.initial.out l.out
