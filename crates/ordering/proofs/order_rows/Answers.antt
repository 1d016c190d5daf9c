-- `ordering::order_rows` meets its contract: the answers of an accepted trace, one after the other. Assumes nothing.
use mathlib.Core.Path.{refl}
use Rattle.std.specs.Prelude.{Some, None}
use Rattle.records.specs.Records.{row_events}
use Rattle.sections.specs.Refusals.{denial}
use Rattle.ordering.specs.Answer.{guard_of, answer_for, entries_for}
use Rattle.ordering.proofs.Answering.{untouched, no_guards_law, is_denied, is_fit, orders, is_ordered}
use Rattle.ordering.proofs.order_rows.Goals as goal

pub returns-in_default : goal.returns-in_default
returns-in_default c =
    let a = c.args in
    let es = row_events a.rows.head a.rows.what.now a.rows.value.now in
    rw c.in_default.is (untouched (answer_for a.rows.head None es) (entries_for a.rows.head es) a.list.now a.scratch.now _ (no_guards_law a.rows.head es) refl)

pub give-requires : goal.give-requires
give-requires c =
    let a = c.args in
    let es = row_events a.rows.head a.rows.what.now a.rows.value.now in
    orders a.rows.head (guard_of c.in-Some.locks) a.rows.what.now a.rows.value.now a.list.now a.scratch.now a.rows.fits c.requires (is_fit c.deny.result (denial a.rows.head (guard_of c.in-Some.locks) es) c.in-Ok.is c.deny.ensures)

pub returns-in-Ok : goal.returns-in-Ok
returns-in-Ok c =
    let a = c.args in
    let es = row_events a.rows.head a.rows.what.now a.rows.value.now in
    rw c.in-Some.is (is_ordered a.rows.head es c.in-Some.locks (is_fit c.deny.result (denial a.rows.head (guard_of c.in-Some.locks) es) c.in-Ok.is c.deny.ensures) a.list.now a.scratch.now c.give.result c.give.new.list c.give.new.scratch c.give.ensures)

pub returns-in-Err : goal.returns-in-Err
returns-in-Err c =
    let a = c.args in
    let es = row_events a.rows.head a.rows.what.now a.rows.value.now in
    rw c.in-Some.is (untouched (answer_for a.rows.head (Some c.in-Some.locks) es) (entries_for a.rows.head es) a.list.now a.scratch.now _ (is_denied a.rows.head es c.in-Some.locks c.deny.result c.in-Err.refusal c.in-Err.is c.deny.ensures) refl)
