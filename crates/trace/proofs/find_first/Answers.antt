use Rattle.std.proofs.Common.{sym, ap, ◌∙◌, length, ℕ, Err}
use Rattle.std.proofs.lemmas.Result.{err_from_is_err_and}
use Rattle.rules.specs.Limits.{limits_of}
use Rattle.trace.specs.Trace.{refusal}
use Rattle.trace.proofs.Exits.{none_at_err, some_at_ok}
use Rattle.trace.proofs.TraceLaws.{first_none, head_wrong, head_over, head_right}
use Rattle.trace.proofs.find_first.Goals as goal

pub returns-then-s-a : goal.returns-then-s-a
returns-then-s-a c =
    let a = c.args in
    first_none (limits_of a.course) a.s.now (length a.s.now) c.find-a.result c.find-a.ensures c.if-s-a.true

pub returns-in_err-head : goal.returns-in_err-head
returns-in_err-head c =
    let a = c.args in
    let s = a.s.now in
    let o = none_at_err c.read_head.result _ _ _ c.in_err-head.was c.ok_or.ensures.value in
    let p = err_from_is_err_and c.from_residual.result c.from_residual.ensures.1 in
    rw (p.1, p.2) (ap Err o.1 ∙ head_wrong (limits_of a.course) s (length s) c.find-a.result c.find-a.ensures c.if-s-a.false c.read_head.result c.read_head.ensures o.0)

pub returns-then-not-is_allowed : goal.returns-then-not-is_allowed
returns-then-not-is_allowed c =
    let a = c.args in
    let s = a.s.now in
    let o = some_at_ok c.read_head.result _ _ _ c.in_ok-head.was c.ok_or.ensures.value in
    ap (λ (n : ℕ). Err (refusal n 1)) c.excess_of.ensures
    ∙ head_over (limits_of a.course) s (length s) c.find-a.result c.find-a.ensures c.if-s-a.false c.read_head.result c.read_head.ensures c.in_ok-head.head o (sym c.is_allowed.ensures ∙ c.if-not-is_allowed.true)

pub returns : goal.returns
returns c =
    let a = c.args in
    let s = a.s.now in
    let o = some_at_ok c.read_head.result _ _ _ c.in_ok-head.was c.ok_or.ensures.value in
    c.find_second.ensures
    ∙ head_right (limits_of a.course) s (length s) c.find-a.result c.find-a.ensures c.if-s-a.false c.read_head.result c.read_head.ensures c.in_ok-head.head o (sym c.is_allowed.ensures ∙ c.if-not-is_allowed.false)
