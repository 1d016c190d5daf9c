-- `finishing::Accepted::finish_locks` meets its contract. Assumes nothing.
use native.Mathlib.Omega.{arith}
use Rattle.finishing.specs.Computed.Parts.{lock_entries}
use Rattle.finishing.proofs.Adding.{adds_start, adds_next, adds_end}
use Rattle.finishing.proofs.Accepted.finish_locks.Goals as goal

pub loop-place-init : goal.loop-place-init
loop-place-init c = adds_start _ c.args.out.now

pub loop-place-preserved : goal.loop-place-preserved
unfolding lock_entries
loop-place-preserved c = adds_next _ c.loop-place.place c.loop-place.invariant (rw c.depth_of.ensures at c.put_unlocks.ensures)

pub returns : goal.returns
returns c = adds_end _ c.loop-place.place c.args.self.now.head.locks (omega arith) c.loop-place.invariant
