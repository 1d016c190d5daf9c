use Rattle.std.proofs.Common.{sym, ap, ◌∙◌}
use Rattle.rules.specs.Limits.{limits_of}
use Rattle.trace.specs.Trace.{events_of}
use Rattle.trace.proofs.TraceLaws.{Lies, lies}
use Rattle.trace.proofs.find_events.Goals as goal
use Rattle.trace.proofs.find_events.Goals.{In-Ok}

-- the part lies in the bytes
part_lies : (c : In-Ok) → Lies c.in-Ok.t c.args.s.now
part_lies c = lies (limits_of c.args.course) c.args.s.now c.in-Ok.t (sym c.find.ensures ∙ c.in-Ok.is)

pub slice_bounds-result-count : goal.slice_bounds-result-count
slice_bounds-result-count c = (part_lies (goal.at.slice_bounds-result-count c).In-Ok).start

pub slice_bounds-result-start : goal.slice_bounds-result-start
slice_bounds-result-start c = (part_lies (goal.at.slice_bounds-result-start c).In-Ok).start

pub slice_bounds-result-end : goal.slice_bounds-result-end
slice_bounds-result-end c = (part_lies (goal.at.slice_bounds-result-end c).In-Ok).end

pub returns-in-Ok : goal.returns-in-Ok
unfolding events_of
returns-in-Ok c = ap (events_of c.args.s.now) (sym c.in-Ok.is ∙ c.find.ensures)

pub returns-in-Err : goal.returns-in-Err
unfolding events_of
returns-in-Err c = ap (events_of c.args.s.now) (sym c.in-Err.is ∙ c.find.ensures)
