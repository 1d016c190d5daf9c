-- `finishing::Accepted::finish` meets its contract. Assumes nothing.
use native.Mathlib.Omega.{arith}
use Rattle.finishing.specs.Computed.Parts.{thread_entries, tail_entries}
use Rattle.finishing.proofs.Adding.{adds_start, adds_next, adds_end, adds_then}
use Rattle.finishing.proofs.Accepted.finish.Goals as goal

pub loop-thread-init : goal.loop-thread-init
loop-thread-init c = adds_start _ c.args.out.now

pub loop-thread-preserved : goal.loop-thread-preserved
unfolding thread_entries
loop-thread-preserved c = adds_next _ c.loop-thread.thread c.loop-thread.invariant (adds_then c.finish_cells.ensures c.finish_locks.ensures)

pub returns : goal.returns
unfolding tail_entries
returns c = adds_end _ c.loop-thread.thread c.args.self.now.head.threads (omega arith) c.loop-thread.invariant
