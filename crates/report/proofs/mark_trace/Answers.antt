-- `report::mark_trace` meets its contract: the records of the events, over the lent ones.
use mathlib.Core.Path.{◌∙◌}
use Rattle.records.proofs.Copies.{onto_all}
use Rattle.report.proofs.Reported.{Front, front_whats, front_values, fills}
use Rattle.report.proofs.mark_trace.Goals as goal
use Rattle.report.proofs.mark_trace.Goals.{After-mark_lent-report}

-- what stands at the front of each row, with room for it in the lent one
whats : (c : After-mark_lent-report) → Front c.mark_lent-report.result.events c.mark_lent-report.new.what c.args.whats.now
whats c =
    let a = c.args in
    let l = c.mark_lent-report in
    front_whats a.course a.bytes.now a.whats.now a.values.now _ _ a.out.now a.list.now a.scratch.now l.result _ _ _ _ _ (rw c.min-places.ensures at l.ensures)

values : (c : After-mark_lent-report) → Front c.mark_lent-report.result.events c.mark_lent-report.new.value c.args.values.now
values c =
    let a = c.args in
    let l = c.mark_lent-report in
    front_values a.course a.bytes.now a.whats.now a.values.now _ _ a.out.now a.list.now a.scratch.now l.result _ _ _ _ _ (rw c.min-places.ensures at l.ensures)

pub slice_bounds-what-end : goal.slice_bounds-what-end
slice_bounds-what-end c = (whats (goal.at.slice_bounds-what-end c).After-mark_lent-report).inside

pub slice_bounds-copy_row-end : goal.slice_bounds-copy_row-end
slice_bounds-copy_row-end c = (whats (goal.at.slice_bounds-copy_row-end c).After-mark_lent-report).count

pub slice_bounds-value-end : goal.slice_bounds-value-end
slice_bounds-value-end c = (values (goal.at.slice_bounds-value-end c).After-mark_lent-report).inside

pub slice_bounds-copy_row-end-2 : goal.slice_bounds-copy_row-end-2
slice_bounds-copy_row-end-2 c = (values (goal.at.slice_bounds-copy_row-end-2 c).After-mark_lent-report).count

pub returns : goal.returns
returns c =
    let a = c.args in
    let l = c.mark_lent-report in
    let w = whats (goal.at.returns c).After-mark_lent-report in
    let v = values (goal.at.returns c).After-mark_lent-report in
    fills a.course a.bytes.now a.whats.now a.values.now _ _ a.out.now a.list.now a.scratch.now l.result _ _ _ _ _ (rw c.min-places.ensures at l.ensures) _ _ (c.copy_row.ensures ∙ onto_all _ a.whats.now w.room) (c.copy_row-2.ensures ∙ onto_all _ a.values.now v.room)
