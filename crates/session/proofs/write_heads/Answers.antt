-- `session::write_heads` meets its contract: two lines.
use mathlib.Core.List.{[], ◌∷◌}
use native.Mathlib.Omega.{arith}
use Rattle.decimal.specs.Text.{ended}
use Rattle.decimal.proofs.TextLaws.{wrote_within}
use Rattle.listing.specs.Listing.{papers_line, line_room}
use Rattle.listing.proofs.LineLaws.{wrote_all, wrote_one, all_place, all_length}
use Rattle.session.proofs.SheetLines.{head_fit}
use Rattle.session.proofs.write_heads.Goals as goal

starts : goal.slice_bounds-write_accepted-count
starts c = let a = c.args in wrote_within line_room (ended (papers_line a.tally.now.count)) a.out.now _ _ (head_fit a.tally.now.count 0).0 c.write_papers-a.ensures

pub slice_bounds-write_accepted-count : goal.slice_bounds-write_accepted-count
slice_bounds-write_accepted-count c = starts c

pub slice_bounds-write_accepted-start : goal.slice_bounds-write_accepted-start
slice_bounds-write_accepted-start c = starts c

whole : goal.returns
whole c = wrote_all (papers_line c.args.tally.now.count ∷ []) _ _ _ _ _ _ (wrote_one _ _ _ _ c.write_papers-a.ensures) (wrote_one _ _ _ _ c.write_accepted-b.ensures)

pub overflow_add-result : goal.overflow_add-result
overflow_add-result c =
    let a = c.args in
    omega (arith, all_place _ a.out.now _ _ (head_fit a.tally.now.count _) (whole c), all_length _ a.out.now _ _ (head_fit a.tally.now.count _) (whole c))

pub returns : goal.returns
returns c = whole c
