use Rattle.std.proofs.Common.{refl, ◌≤◌, rules, sym, ◌∙◌, arith, length}
use Rattle.rules.proofs.Bounds.{up_to_full}
use Rattle.rules.specs.Limits.{full, line_after}
use Rattle.events.proofs.ReadLaws.{turn_next, turn_more, turn_end, turn_wrong, turn_full}
use Rattle.events.proofs.read_lines.Goals as goal

pub stopped-requires : goal.stopped-requires
stopped-requires c = omega (arith, c.loop-at.invariant.small, (up_to_full c.args.course).events)

pub stopped-requires-then-most-n : goal.stopped-requires-then-most-n
stopped-requires-then-most-n c = omega (arith, c.loop-at.invariant.small, (up_to_full c.args.course).events)

pub returns-in_default : goal.returns-in_default
returns-in_default c = rw c.stopped.ensures (turn_wrong c.loop-at.invariant (line_after c.args.h c.loop-at.n) (sym c.line_at.ensures ∙ c.in_default.is) c.loop-at-test.true refl)

pub returns-then-most-n : goal.returns-then-most-n
returns-then-most-n c =
    rw c.stopped-then-most-n.ensures
    (turn_full c.loop-at.invariant c.in-Some.l c.excess_of.result (line_after c.args.h c.loop-at.n) (sym c.line_at.ensures ∙ c.in-Some.is) (omega (arith, c.if-most-n.true, c.most_events-most.ensures)) c.excess_of.ensures refl)

pub loop-at-smaller : goal.loop-at-smaller
loop-at-smaller c = omega (arith, c.loop-at-test.true, turn_next c.loop-at.invariant c.in-Some.l (sym c.line_at.ensures ∙ c.in-Some.is))

pub loop-at-preserved : goal.loop-at-preserved
loop-at-preserved c =
    let a : full.events ≤ length c.args.what.now = omega arith in
    let b : full.events ≤ length c.args.value.now = omega arith in
    turn_more c.loop-at.invariant c.in-Some.l c.what_of.result _ (sym c.line_at.ensures ∙ c.in-Some.is) (omega (arith, c.if-most-n.false, c.most_events-most.ensures)) a b c.what_of.ensures (search rules)

pub returns : goal.returns
returns c = turn_end c.loop-at.invariant (omega arith)
