-- `session::write_tally` meets its contract: all lines, in two parts.
use mathlib.Core.List.{◌++◌}
use Prim.Native.Nat.{◌+◌, ◌-◌}
use native.Mathlib.Omega.{arith}
use borrow.Rule.Slice.PartMut.{put_mid}
use lib.ListN.{length}
use Rattle.decimal.specs.Text.{Wrote}
use Rattle.listing.specs.Listing.{write_all}
use Rattle.listing.proofs.LineLaws.{wrote_all, wrote_as, all_place, all_length}
use Rattle.session.specs.Computed.Tally.{count_in, head_lines, end_lines}
use Rattle.session.proofs.SheetLines.{head_fit, counted_fit, both_parts}
use Rattle.session.proofs.write_tally.Goals as goal
use Rattle.session.proofs.write_tally.Goals.{After-slice_known-3-1}

starts : goal.slice_bounds-write_ends-count
starts c = all_place _ c.args.out.now _ _ (head_fit c.args.tally.now.count _) c.write_heads-a.ensures

pub slice_bounds-write_ends-count : goal.slice_bounds-write_ends-count
slice_bounds-write_ends-count c = starts c

pub slice_bounds-write_ends-start : goal.slice_bounds-write_ends-start
slice_bounds-write_ends-start c = starts c

-- both parts, one behind the other
abbrev Both : (c : After-slice_known-3-1) → Type 0
Both c =
    let a = c.args in
    let u = c.write_heads-a in
    let v = c.write_ends-b in
    let f = count_in a.tally.now.counts in
    Wrote (write_all (head_lines a.tally.now.count (f 0) ++ end_lines a.tally.now.count (f 0) f)) a.out.now (u.result + v.result) (put_mid u.result (length u.new.out - u.result) u.new.out v.new.out)

whole : (c : After-slice_known-3-1) → Both c
whole c = wrote_all _ _ _ _ _ _ _ c.write_heads-a.ensures c.write_ends-b.ensures

pub overflow_add-result : goal.overflow_add-result
overflow_add-result c =
    let a = c.args in
    omega (arith, all_place _ a.out.now _ _ (counted_fit a.tally.now.count _) (whole (goal.at.overflow_add-result c).After-slice_known-3-1), all_length _ a.out.now _ _ (counted_fit a.tally.now.count _) (whole (goal.at.overflow_add-result c).After-slice_known-3-1))

pub returns : goal.returns
returns c = wrote_as _ _ _ _ _ (both_parts c.args.tally.now.count _) (whole (goal.at.returns c).After-slice_known-3-1)
