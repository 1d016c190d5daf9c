-- `session::write_counts` meets its contract: the numbers below k are listed.
use native.Mathlib.Omega.{arith}
use Rattle.listing.proofs.LineLaws.{listed_place, listed_length}
use Rattle.session.proofs.SheetLines.{below_start, below_step, below_end}
use Rattle.session.proofs.write_counts.Goals as goal

pub loop-k-init : goal.loop-k-init
loop-k-init c = below_start _ _

pub slice_bounds-write_count-count : goal.slice_bounds-write_count-count
slice_bounds-write_count-count c = listed_place _ _ _ _ _ _ c.loop-k.invariant

pub slice_bounds-write_count-start : goal.slice_bounds-write_count-start
slice_bounds-write_count-start c = listed_place _ _ _ _ _ _ c.loop-k.invariant

-- one number more
again : goal.loop-k-preserved
again c =
    let l = c.loop-k in
    let w = c.write_count-a in
    below_step _ _ _ _ _ l.invariant (omega arith) (omega arith) w.new.out w.result w.ensures

pub overflow_add-a : goal.overflow_add-a
overflow_add-a c =
    let n = again c in
    omega (arith, listed_place _ _ _ _ _ _ n, listed_length _ _ _ _ _ _ n)

pub loop-k-preserved : goal.loop-k-preserved
loop-k-preserved c = again c

pub returns : goal.returns
returns c = below_end _ _ _ _ _ c.loop-k.invariant (omega arith)
