-- `report::write_listing` meets its contract: the lines of the memories, then those about the order.
use Prim.Native.Nat.{◌+◌, ◌-◌}
use mathlib.Core.List.{◌++◌}
use native.Mathlib.Omega.{arith}
use borrow.Rule.Slice.PartMut.{put_mid}
use lib.ListN.{length}
use Rattle.serial.specs.Lists.{All}
use Rattle.decimal.specs.Text.{Wrote}
use Rattle.listing.specs.Listing.{write_all, lines_for}
use Rattle.listing.proofs.LineLaws.{Fits, wrote_all, all_place, all_length}
use Rattle.listing.proofs.ListLaws.{both, fit_lines}
use Rattle.report.specs.Computed.Parts.{ordering_lines}
use Rattle.report.proofs.Lines.{fit_order}
use Rattle.report.proofs.write_listing.Goals as goal
use Rattle.report.proofs.write_listing.Goals.{After-write_order-b}

-- what is written by both calls
whole : (c : After-write_order-b) → let a = c.args in
    let v = c.write_memories-a in
    let w = c.write_order-b in
    Wrote (write_all (lines_for a.outcome.now.marking.events a.outcome.now.marking.head a.outcome.now.marking.memories ++ ordering_lines a.outcome.now.ordering a.list.now)) a.out.now (v.result + w.result) (put_mid v.result (length v.new.out - v.result) v.new.out w.new.out)
whole c = wrote_all _ _ _ _ _ _ _ c.write_memories-a.ensures c.write_order-b.ensures

-- each line fits its room
fit : (c : After-write_order-b) → let a = c.args in All Fits (lines_for a.outcome.now.marking.events a.outcome.now.marking.head a.outcome.now.marking.memories ++ ordering_lines a.outcome.now.ordering a.list.now)
fit c =
    let a = c.args in
    both Fits (lines_for a.outcome.now.marking.events a.outcome.now.marking.head a.outcome.now.marking.memories) (ordering_lines a.outcome.now.ordering a.list.now) (fit_lines a.outcome.now.marking.events a.outcome.now.marking.head a.outcome.now.marking.memories) (fit_order a.outcome.now.ordering a.list.now)

pub slice_bounds-write_order-count : goal.slice_bounds-write_order-count
slice_bounds-write_order-count c =
    let a = c.args in
    all_place _ _ _ _ (fit_lines a.outcome.now.marking.events a.outcome.now.marking.head a.outcome.now.marking.memories) c.write_memories-a.ensures

pub slice_bounds-write_order-start : goal.slice_bounds-write_order-start
slice_bounds-write_order-start c =
    let a = c.args in
    all_place _ _ _ _ (fit_lines a.outcome.now.marking.events a.outcome.now.marking.head a.outcome.now.marking.memories) c.write_memories-a.ensures

pub overflow_add-result : goal.overflow_add-result
overflow_add-result c = omega (arith, all_place _ _ _ _ (fit (goal.at.overflow_add-result c).After-write_order-b) (whole (goal.at.overflow_add-result c).After-write_order-b), all_length _ _ _ _ (fit (goal.at.overflow_add-result c).After-write_order-b) (whole (goal.at.overflow_add-result c).After-write_order-b))

pub returns : goal.returns
returns c = whole (goal.at.returns c).After-write_order-b
