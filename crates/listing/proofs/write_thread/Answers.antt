-- `listing::write_thread` meets its contract: after v turns the copies of the first v variables are listed. Assumes nothing.
use native.Mathlib.Omega.{arith}
use Rattle.listing.proofs.LineLaws.{listed_start, listed_place, listed_length, listed_step, listed_end}
use Rattle.listing.proofs.ListLaws.{copies_none, copies_more, fit_copies}
use Rattle.listing.proofs.write_thread.Goals as goal

pub loop-v-init : goal.loop-v-init
loop-v-init c = listed_start _ _ _ (fit_copies _) (copies_none _)

pub slice_bounds-write_copy-count : goal.slice_bounds-write_copy-count
slice_bounds-write_copy-count c = listed_place _ _ _ _ _ _ c.loop-v.invariant

pub slice_bounds-write_copy-start : goal.slice_bounds-write_copy-start
slice_bounds-write_copy-start c = listed_place _ _ _ _ _ _ c.loop-v.invariant

pub overflow_add-a : goal.overflow_add-a
overflow_add-a c =
    let l = c.loop-v in
    let w = c.write_copy-a in
    let n = listed_step _ _ _ _ _ _ l.invariant (omega arith) _ (copies_more _ l.v) (fit_copies _) w.new.out w.result w.ensures in
    omega (arith, listed_place _ _ _ _ _ _ n, listed_length _ _ _ _ _ _ n)

pub loop-v-preserved : goal.loop-v-preserved
loop-v-preserved c =
    let l = c.loop-v in
    let w = c.write_copy-a in
    listed_step _ _ _ _ _ _ l.invariant (omega arith) _ (copies_more _ l.v) (fit_copies _) w.new.out w.result w.ensures

pub shape_of-out : goal.shape_of-out
shape_of-out c = listed_length _ _ _ _ _ _ c.loop-v.invariant

pub returns : goal.returns
returns c = listed_end _ _ _ _ _ _ c.loop-v.invariant (omega arith)
