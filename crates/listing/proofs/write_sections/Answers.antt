-- `listing::write_sections` meets its contract: after i turns the first i sections are listed. Assumes nothing.
use native.Mathlib.Omega.{arith}
use lib.ListN.{length, take}
use Rattle.listing.specs.Listing.{entry_lines}
use Rattle.listing.proofs.LineLaws.{listed_start, listed_place, listed_length, listed_step, listed_end, wrote_one, wrote_as}
use Rattle.listing.proofs.ListLaws.{entries_none, entries_more, entries_all, fit_sections}
use Rattle.listing.proofs.write_sections.Goals as goal

pub loop-w-init : goal.loop-w-init
loop-w-init c = listed_start _ _ _ (fit_sections _) (entries_none c.args.entries.now)

pub slice_bounds-write_section-count : goal.slice_bounds-write_section-count
slice_bounds-write_section-count c = listed_place _ _ _ _ _ _ c.loop-w.invariant

pub slice_bounds-write_section-start : goal.slice_bounds-write_section-start
slice_bounds-write_section-start c = listed_place _ _ _ _ _ _ c.loop-w.invariant

pub overflow_add-a : goal.overflow_add-a
overflow_add-a c =
    let l = c.loop-w in
    let w = c.write_section-a in
    let n = listed_step _ _ _ _ _ _ l.invariant (omega arith) _ (entries_more _ l.w-index (omega arith)) (fit_sections _) w.new.out w.result (wrote_one _ _ _ _ w.ensures) in
    omega (arith, listed_place _ _ _ _ _ _ n, listed_length _ _ _ _ _ _ n)

pub loop-w-preserved : goal.loop-w-preserved
loop-w-preserved c =
    let l = c.loop-w in
    let w = c.write_section-a in
    listed_step _ _ _ _ _ _ l.invariant (omega arith) _ (entries_more _ l.w-index (omega arith)) (fit_sections _) w.new.out w.result (wrote_one _ _ _ _ w.ensures)

pub shape_of-out : goal.shape_of-out
shape_of-out c = listed_length _ _ _ _ _ _ c.loop-w.invariant

pub returns : goal.returns
returns c =
    let ws = c.args.entries.now in
    wrote_as (entry_lines (take (length ws) ws)) (entry_lines ws) _ _ _ (entries_all ws) (listed_end _ _ _ _ _ _ c.loop-w.invariant (omega arith))
