-- `finishing::Accepted::finish_cells` meets its contract. Assumes nothing.
use native.Mathlib.Omega.{arith}
use Rattle.finishing.proofs.Adding.{adds_start, adds_next, adds_end}
use Rattle.finishing.proofs.Accepted.finish_cells.Goals as goal

pub loop-place-init : goal.loop-place-init
loop-place-init c = adds_start _ c.args.out.now

pub loop-place-preserved : goal.loop-place-preserved
loop-place-preserved c = adds_next _ c.loop-place.place c.loop-place.invariant c.finish_cell.ensures

pub returns : goal.returns
returns c = adds_end _ c.loop-place.place c.args.self.now.head.variables (omega arith) c.loop-place.invariant
