-- `report::mark_unordered` meets its contract: 7, a refusal, or records and listing of an accepted trace.
use Prim.Native.Nat.{min}
use mathlib.Core.Path.{◌≡◌, ◌∙◌}
use mathlib.Core.Bool.{false}
use lib.ListN.{length}
use Rattle.rules.specs.Limits.{limits_of, lent_short}
use Rattle.records.proofs.Copies.{onto_all}
use Rattle.report.proofs.Reported.{Front}
use Rattle.report.proofs.Briefed.{brief_little, little_brief, refused_brief, front_whats, front_values, accepted_brief}
use Rattle.report.proofs.mark_unordered.Goals as goal
use Rattle.report.proofs.mark_unordered.Goals.{In-Ok}

pub returns-then-is_lent_short : goal.returns-then-is_lent_short
returns-then-is_lent_short c =
    let a = c.args in
    let e = brief_little a.course a.whats.now a.values.now a.out.now _ _ _ c.min.ensures c.is_lent_short.ensures c.if-is_lent_short.true in
    little_brief a.course a.bytes.now a.whats.now a.values.now a.out.now c.lent_short.result e c.lent_short.ensures

pub returns-in-Err : goal.returns-in-Err
returns-in-Err c =
    let a = c.args in
    let e = brief_little a.course a.whats.now a.values.now a.out.now _ _ _ c.min.ensures c.is_lent_short.ensures c.if-is_lent_short.false in
    refused_brief a.course a.bytes.now a.whats.now a.values.now a.out.now e _ _ _ _ _ c.in-Err.ensures c.refuse.result _ c.refuse.ensures.says c.refuse.ensures.writes

-- ---- an accepted trace

-- enough is lent
enough : (c : In-Ok) → lent_short (limits_of c.args.course) (min (length c.args.whats.now) (length c.args.values.now)) (length c.args.out.now) ≡ false
enough c = brief_little c.args.course c.args.whats.now c.args.values.now c.args.out.now _ _ _ c.min.ensures c.is_lent_short.ensures c.if-is_lent_short.false

-- what stands at the front of each row, with room for it in the lent one
whats : (c : In-Ok) → Front c.in-Ok.marking.events c.mark.new.what c.args.whats.now
whats c = let a = c.args in front_whats a.course a.bytes.now a.whats.now a.values.now a.out.now (enough c) _ _ _ _ _ c.in-Ok.ensures

values : (c : In-Ok) → Front c.in-Ok.marking.events c.mark.new.value c.args.values.now
values c = let a = c.args in front_values a.course a.bytes.now a.whats.now a.values.now a.out.now (enough c) _ _ _ _ _ c.in-Ok.ensures

pub slice_bounds-what-end : goal.slice_bounds-what-end
slice_bounds-what-end c = (whats (goal.at.slice_bounds-what-end c).In-Ok).inside

pub slice_bounds-copy_row-end : goal.slice_bounds-copy_row-end
slice_bounds-copy_row-end c = (whats (goal.at.slice_bounds-copy_row-end c).In-Ok).count

pub slice_bounds-value-end : goal.slice_bounds-value-end
slice_bounds-value-end c = (values (goal.at.slice_bounds-value-end c).In-Ok).inside

pub slice_bounds-copy_row-end-in-Ok : goal.slice_bounds-copy_row-end-in-Ok
slice_bounds-copy_row-end-in-Ok c = (values (goal.at.slice_bounds-copy_row-end-in-Ok c).In-Ok).count

pub returns-in-Ok : goal.returns-in-Ok
returns-in-Ok c =
    let a = c.args in
    let e = enough (goal.at.returns-in-Ok c).In-Ok in
    let w = whats (goal.at.returns-in-Ok c).In-Ok in
    let v = values (goal.at.returns-in-Ok c).In-Ok in
    accepted_brief a.course a.bytes.now a.whats.now a.values.now a.out.now e _ _ _ _ _ c.in-Ok.ensures c.write_memories.result _ _ _ (c.copy_row.ensures ∙ onto_all _ a.whats.now w.room) (c.copy_row-in-Ok.ensures ∙ onto_all _ a.values.now v.room) c.write_memories.ensures
