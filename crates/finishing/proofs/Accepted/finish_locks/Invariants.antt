-- `finishing::Accepted::finish_locks` meets its contract. Assumes nothing.
use Rattle.rules.specs.Memories.{below, each}
use Rattle.finishing.specs.Computed.Parts.{lock_entries, whats_of}
use Rattle.finishing.specs.Computed.Filled.{Adds}
use Rattle.finishing.proofs.Accepted.finish_locks.Given as goal

abbrev pub invariant-loop-place : goal.invariant-loop-place
invariant-loop-place l = Adds (each (lock_entries l.thread (whats_of l.self.rows)) (below l.place)) l.initial.out l.out
