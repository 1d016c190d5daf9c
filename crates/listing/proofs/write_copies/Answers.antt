-- `listing::write_copies` meets its contract: after t turns the copies of the first t threads are listed. Assumes nothing.
use native.Mathlib.Omega.{arith}
use Rattle.listing.proofs.LineLaws.{listed_start, listed_place, listed_length, listed_step, listed_end}
use Rattle.listing.proofs.ListLaws.{copies_none, copies_more, fit_copies}
use Rattle.listing.proofs.write_copies.Goals as goal

pub loop-t-init : goal.loop-t-init
loop-t-init c = listed_start _ _ _ (fit_copies _) (copies_none _)

pub slice_bounds-write_thread-count : goal.slice_bounds-write_thread-count
slice_bounds-write_thread-count c = listed_place _ _ _ _ _ _ c.loop-t.invariant

pub slice_bounds-write_thread-start : goal.slice_bounds-write_thread-start
slice_bounds-write_thread-start c = listed_place _ _ _ _ _ _ c.loop-t.invariant

pub overflow_add-a : goal.overflow_add-a
overflow_add-a c =
    let l = c.loop-t in
    let w = c.write_thread-a in
    let n = listed_step _ _ _ _ _ _ l.invariant (omega arith) _ (copies_more _ l.t) (fit_copies _) w.new.out w.result w.ensures in
    omega (arith, listed_place _ _ _ _ _ _ n, listed_length _ _ _ _ _ _ n)

pub loop-t-preserved : goal.loop-t-preserved
loop-t-preserved c =
    let l = c.loop-t in
    let w = c.write_thread-a in
    listed_step _ _ _ _ _ _ l.invariant (omega arith) _ (copies_more _ l.t) (fit_copies _) w.new.out w.result w.ensures

pub shape_of-out : goal.shape_of-out
shape_of-out c = listed_length _ _ _ _ _ _ c.loop-t.invariant

pub returns : goal.returns
returns c = listed_end _ _ _ _ _ _ c.loop-t.invariant (omega arith)
