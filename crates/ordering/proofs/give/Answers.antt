-- `ordering::give` meets its contract: the sections are filled in, gathered, and the scratch is cleared. Assumes nothing.
use mathlib.Core.Path.{◌≡◌, sym}
use lib.ListN.{length}
use lib.Seq.{length-take-le}
use borrow.Author.Rules.{rules}
use Rattle.ordering.proofs.Listing.{part_in, gather_in, written}
use Rattle.ordering.proofs.give.Goals as goal

pub fill-n-requires : goal.fill-n-requires
fill-n-requires c = let o = c.requires in record { ended = o.ended; places = o.places }

pub slice_bounds-gather-end : goal.slice_bounds-gather-end
slice_bounds-gather-end c =
    let a = c.args in
    let S = c.fill-n.new.scratch in
    let z : length S ≡ length a.scratch.now = search rules in
    part_in a.rows.head a.rows.what.now a.rows.value.now a.list.now a.scratch.now c.requires S z c.fill-n.result c.fill-n.ensures

pub slice_bounds-gather-end-2 : goal.slice_bounds-gather-end-2
slice_bounds-gather-end-2 c =
    let a = c.args in
    let S = c.fill-n.new.scratch in
    let z : length S ≡ length a.scratch.now = search rules in
    sym (length-take-le c.fill-n.result S (part_in a.rows.head a.rows.what.now a.rows.value.now a.list.now a.scratch.now c.requires S z c.fill-n.result c.fill-n.ensures))

pub gather-c-requires : goal.gather-c-requires
gather-c-requires c =
    let a = c.args in
    let S = c.fill-n.new.scratch in
    let z : length S ≡ length a.scratch.now = search rules in
    gather_in a.rows.head a.rows.what.now a.rows.value.now a.list.now a.scratch.now c.requires S z c.fill-n.result c.fill-n.ensures

pub returns : goal.returns
returns c =
    let a = c.args in
    let S = c.fill-n.new.scratch in
    let z : length S ≡ length a.scratch.now = search rules in
    written a.rows.head a.rows.what.now a.rows.value.now a.list.now a.scratch.now c.requires S z c.fill-n.result c.fill-n.ensures c.gather-c.result c.gather-c.new.list c.fill.new.self c.gather-c.ensures (c.fill.ensures.after (λ y q. search rules))
