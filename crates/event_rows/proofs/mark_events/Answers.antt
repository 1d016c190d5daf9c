-- `event_rows::mark_events` meets its contract. Assumes nothing.
use mathlib.Core.Path.{ap}
use Rattle.trace.specs.Trace.{head_in}
use Rattle.event_rows.proofs.EventLaws.{fills_events, fills_none}
use Rattle.event_rows.proofs.mark_events.Goals as goal

pub returns-in-Ok : goal.returns-in-Ok
returns-in-Ok c =
    let a = c.args in
    let r = c.mark_lent-report in
    fills_events a.course a.bytes.now a.records.now a.out.now a.list.now a.scratch.now r.result c.in-Ok.found.head r.new.what r.new.value r.new.out r.new.list r.new.scratch r.ensures (ap head_in c.in-Ok.ensures) c.fill_records.new.records c.fill_records.ensures

pub returns-in_default : goal.returns-in_default
returns-in_default c =
    let a = c.args in
    let r = c.mark_lent-report in
    fills_none a.course a.bytes.now a.records.now a.out.now a.list.now a.scratch.now r.result c.in_default.field-0 r.new.what r.new.value r.new.out r.new.list r.new.scratch r.ensures c.in_default.ensures
