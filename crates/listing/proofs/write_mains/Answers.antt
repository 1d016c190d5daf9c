-- `listing::write_mains` meets its contract: after v turns the first v variables are listed. Assumes nothing.
use native.Mathlib.Omega.{arith}
use Rattle.listing.proofs.LineLaws.{listed_start, listed_place, listed_length, listed_step, listed_end, wrote_one}
use Rattle.listing.proofs.ListLaws.{mains_none, mains_more, fit_mains}
use Rattle.listing.proofs.write_mains.Goals as goal

pub loop-v-init : goal.loop-v-init
loop-v-init c = listed_start _ _ _ (fit_mains 0 _) (mains_none _)

pub slice_bounds-write_main-count : goal.slice_bounds-write_main-count
slice_bounds-write_main-count c = listed_place _ _ _ _ _ _ c.loop-v.invariant

pub slice_bounds-write_main-start : goal.slice_bounds-write_main-start
slice_bounds-write_main-start c = listed_place _ _ _ _ _ _ c.loop-v.invariant

pub overflow_add-a : goal.overflow_add-a
overflow_add-a c =
    let l = c.loop-v in
    let w = c.write_main-a in
    let n = listed_step _ _ _ _ _ _ l.invariant (omega arith) _ (mains_more _ l.v) (fit_mains 0 _) w.new.out w.result (wrote_one _ _ _ _ w.ensures) in
    omega (arith, listed_place _ _ _ _ _ _ n, listed_length _ _ _ _ _ _ n)

pub loop-v-preserved : goal.loop-v-preserved
loop-v-preserved c =
    let l = c.loop-v in
    let w = c.write_main-a in
    listed_step _ _ _ _ _ _ l.invariant (omega arith) _ (mains_more _ l.v) (fit_mains 0 _) w.new.out w.result (wrote_one _ _ _ _ w.ensures)

pub shape_of-out : goal.shape_of-out
shape_of-out c = listed_length _ _ _ _ _ _ c.loop-v.invariant

pub returns : goal.returns
returns c = listed_end _ _ _ _ _ _ c.loop-v.invariant (omega arith)
