-- `report::mark_lent` meets its contract: 7, a refusal, or the listing of an accepted trace.
use Rattle.report.proofs.Reported.{too_little_law, little_lends, refused_lends, accepted_lends}
use Rattle.report.proofs.mark_lent.Goals as goal

pub returns-then-is_lent_short-is_order_short : goal.returns-then-is_lent_short-is_order_short
returns-then-is_lent_short-is_order_short c =
    let a = c.args in
    let e = too_little_law a.course a.places a.out.now a.list.now a.scratch.now _ _ _ c.is_lent_short.ensures c.is_order_short.ensures c.if-is_lent_short-is_order_short.true in
    little_lends a.course a.bytes.now a.places a.what.now a.value.now a.out.now a.list.now a.scratch.now c.lent_short.result e c.lent_short.ensures

pub returns-in-Ok : goal.returns-in-Ok
returns-in-Ok c =
    let a = c.args in
    let o = c.order_trace in
    let e = too_little_law a.course a.places a.out.now a.list.now a.scratch.now _ _ _ c.is_lent_short.ensures c.is_order_short.ensures c.if-is_lent_short-is_order_short.false in
    accepted_lends a.course a.bytes.now a.places a.what.now a.value.now a.out.now a.list.now a.scratch.now e _ o.new.what o.new.value o.new.list o.new.scratch c.in-Ok.ensures _ _ c.write_listing.ensures

pub returns-in-Err : goal.returns-in-Err
returns-in-Err c =
    let a = c.args in
    let o = c.order_trace in
    let e = too_little_law a.course a.places a.out.now a.list.now a.scratch.now _ _ _ c.is_lent_short.ensures c.is_order_short.ensures c.if-is_lent_short-is_order_short.false in
    refused_lends a.course a.bytes.now a.places a.what.now a.value.now a.out.now a.list.now a.scratch.now e _ o.new.what o.new.value o.new.list o.new.scratch c.in-Err.ensures c.refuse.result _ c.refuse.ensures.says c.refuse.ensures.writes
