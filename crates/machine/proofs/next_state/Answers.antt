-- `machine::next_state` meets its contract.
use native.Mathlib.Omega.{arith}
use mathlib.Core.Path.{sym, ap, ◌∙◌}
use Rattle.std.specs.Prelude.{Err}
use Rattle.rules.specs.declared.Refusal.{Refusal}
use Rattle.rules.specs.Limits.{limits_of}
use Rattle.rules.proofs.Bounds.{up_to_full}
use Rattle.machine.specs.Computed.Walk.{answer_of}
use Rattle.machine.proofs.OneStep.{step_out, step_limit, step_undeclared, turnable, step_row}
use Rattle.machine.proofs.next_state.Goals as goal

pub returns-then-not-in_range : goal.returns-then-not-in_range
returns-then-not-in_range c =
    let a = c.args in
    step_out (limits_of a.course) a.s.now a.e (sym c.in_range.ensures.0 ∙ c.if-not-in_range.true)

pub returns-then-most_events-s : goal.returns-then-most_events-s
returns-then-most_events-s c =
    let a = c.args in
    let r = sym c.in_range.ensures.0 ∙ c.if-not-in_range.false in
    let n = c.excess_of-excess in
    ap (λ (z : Refusal). answer_of a.s.now (Err z)) c.refusal_after.ensures
    ∙ step_limit (limits_of a.course) a.s.now a.e (up_to_full a.course) r n.result n.ensures (omega (arith, c.if-most_events-s.true, c.most_events.ensures))

pub returns-then-not-is_declared : goal.returns-then-not-is_declared
returns-then-not-is_declared c =
    let a = c.args in
    let r = sym c.in_range.ensures.0 ∙ c.if-not-in_range.false in
    ap (λ (z : Refusal). answer_of a.s.now (Err z)) c.refusal_after-then-not-is_declared.ensures
    ∙ step_undeclared (limits_of a.course) a.s.now a.e (up_to_full a.course) r (omega (arith, c.if-most_events-s.false, c.most_events.ensures)) (sym c.is_declared.ensures ∙ c.if-not-is_declared.true)

pub take_turn-requires : goal.take_turn-requires
take_turn-requires c =
    let a = c.args in
    let r = sym c.in_range.ensures.0 ∙ c.if-not-in_range.false in
    turnable (limits_of a.course) a.s.now a.e (up_to_full a.course) r (omega (arith, c.if-most_events-s.false, c.most_events.ensures)) (sym c.is_declared.ensures ∙ c.if-not-is_declared.false)

pub returns : goal.returns
returns c =
    let a = c.args in
    let r = sym c.in_range.ensures.0 ∙ c.if-not-in_range.false in
    c.take_turn.ensures ∙ step_row (limits_of a.course) a.s.now a.e (up_to_full a.course) r (omega (arith, c.if-most_events-s.false, c.most_events.ensures)) (sym c.is_declared.ensures ∙ c.if-not-is_declared.false)
