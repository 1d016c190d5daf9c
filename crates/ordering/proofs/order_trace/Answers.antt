-- `ordering::order_trace` meets its contract: the records of an accepted trace are ordered. Assumes nothing.
use native.Mathlib.Omega.{arith}
use mathlib.Core.Path.{◌≡◌, sym, ◌∙◌}
use mathlib.Core.Bool.{true, false}
use lib.ListN.{length}
use Rattle.std.proofs.lemmas.Result.{err_from_is_err_and}
use Rattle.rules.specs.Limits.{full, limits_of, order_short}
use Rattle.rules.proofs.Bounds.{up_to_full}
use Rattle.marking.proofs.Handed.{rows_hold}
use Rattle.ordering.proofs.RowEvents.{row_few}
use Rattle.ordering.proofs.Traces.{front_fits, orders_nothing, orders_refused, orders_accepted}
use Rattle.ordering.proofs.order_trace.Goals as goal

pub returns-then-is_order_short : goal.returns-then-is_order_short
unfolding order_short
returns-then-is_order_short c =
    let a = c.args in
    let z : order_short full (length a.list.now) (length a.scratch.now) ≡ true = sym c.is_order_short.ensures ∙ c.if-is_order_short.true in
    orders_nothing (limits_of a.course) (up_to_full a.course) a.bytes.now a.what.now a.value.now a.list.now a.scratch.now z

pub returns-in_err-marking : goal.returns-in_err-marking
unfolding order_short
returns-in_err-marking c =
    let a = c.args in
    let z : order_short full (length a.list.now) (length a.scratch.now) ≡ false = sym c.is_order_short.ensures ∙ c.if-is_order_short.false in
    let p = err_from_is_err_and c.from_residual.result c.from_residual.ensures.1 in
    rw (p.1, p.2) (orders_refused (limits_of a.course) (up_to_full a.course) a.bytes.now a.what.now a.value.now a.list.now a.scratch.now z _ _ _ c.in_err-marking.ensures)

pub shared_ref_as_front-rows : goal.shared_ref_as_front-rows
shared_ref_as_front-rows c =
    let a = c.args in
    let h = rows_hold (limits_of a.course) (up_to_full a.course) a.bytes.now a.what.now a.value.now _ _ _ c.in_ok-marking.ensures in
    omega (arith, h.0)

pub invariant_of-rows : goal.invariant_of-rows
invariant_of-rows c =
    let a = c.args in
    let f = front_fits (limits_of a.course) (up_to_full a.course) a.bytes.now a.what.now a.value.now _ _ _ c.in_ok-marking.ensures in
    record { fits = f; few = row_few _ _ _ f }

pub returns : goal.returns
unfolding order_short
returns c =
    let a = c.args in
    let z : order_short full (length a.list.now) (length a.scratch.now) ≡ false = sym c.is_order_short.ensures ∙ c.if-is_order_short.false in
    orders_accepted (limits_of a.course) (up_to_full a.course) a.bytes.now a.what.now a.value.now a.list.now a.scratch.now z _ _ _ c.in_ok-marking.ensures _ _ _ c.order_rows-ordering.ensures
