-- `session::write_ends` meets its contract: the numbers that occur, and then the share.
use native.Mathlib.Omega.{arith}
use Rattle.listing.proofs.LineLaws.{wrote_all, wrote_one, all_place, all_length}
use Rattle.session.proofs.SheetLines.{refused_fit, end_fit}
use Rattle.session.proofs.write_ends.Goals as goal

starts : goal.slice_bounds-write_lowest-count
starts c = all_place _ c.args.out.now _ _ (refused_fit _ _) c.write_counts-a.ensures

pub slice_bounds-write_lowest-count : goal.slice_bounds-write_lowest-count
slice_bounds-write_lowest-count c = starts c

pub slice_bounds-write_lowest-start : goal.slice_bounds-write_lowest-start
slice_bounds-write_lowest-start c = starts c

whole : goal.returns
whole c = wrote_all _ _ _ _ _ _ _ c.write_counts-a.ensures (wrote_one _ _ _ _ c.write_lowest-b.ensures)

pub overflow_add-result : goal.overflow_add-result
overflow_add-result c =
    let a = c.args in
    omega (arith, all_place _ a.out.now _ _ (end_fit a.tally.now.count _ _) (whole c), all_length _ a.out.now _ _ (end_fit a.tally.now.count _ _) (whole c))

pub returns : goal.returns
returns c = whole c
