use Rattle.std.proofs.Common.{◌≤◌, sym, ap, ◌∙◌, arith, length, take, ℕ, Err}
use Rattle.std.proofs.lemmas.Result.{err_from_is_err_and}
use lib.Seq.{length-take-le}
use Rattle.rules.specs.Limits.{limits_of}
use Rattle.trace.specs.Trace.{first_of, behind_trailer}
use Rattle.trace.proofs.Exits.{none_at_err, some_at_ok}
use Rattle.trace.proofs.TraceLaws.{trailer_le, trace_long, trace_short}
use Rattle.trace.proofs.find_plain.Goals as goal
use Rattle.trace.proofs.find_plain.Goals.{In_ok-to}

pub returns-then-s-gt65536 : goal.returns-then-s-gt65536
returns-then-s-gt65536 c = trace_long (limits_of c.args.course) c.args.s.now c.if-s-gt65536.true

pub returns-in_err-to : goal.returns-in_err-to
returns-in_err-to c =
    let a = c.args in
    let o = none_at_err c.find_trailer.result _ _ _ c.in_err-to.was c.ok_or.ensures.value in
    let p = err_from_is_err_and c.from_residual.result c.from_residual.ensures.1 in
    rw (p.1, p.2) (ap Err o.1 ∙ ap (behind_trailer (limits_of a.course) a.s.now) (sym o.0 ∙ c.find_trailer.ensures) ∙ trace_short (limits_of a.course) a.s.now (omega arith))

-- the trailer lies in the bytes
within : (c : In_ok-to) → c.in_ok-to.to ≤ length c.args.s.now
within c = trailer_le c.args.s.now c.in_ok-to.to (sym c.find_trailer.ensures ∙ some_at_ok c.find_trailer.result _ _ _ c.in_ok-to.was c.ok_or.ensures.value)

pub slice_bounds-find_first-end : goal.slice_bounds-find_first-end
slice_bounds-find_first-end c = sym (length-take-le c.in_ok-to.to c.args.s.now (within (goal.at.slice_bounds-find_first-end c).In_ok-to))

pub returns : goal.returns
returns c =
    let a = c.args in
    let e = c.in_ok-to.to in
    let o = some_at_ok c.find_trailer.result _ _ _ c.in_ok-to.was c.ok_or.ensures.value in
    let n = length-take-le e a.s.now (within (goal.at.returns c).In_ok-to) in
    c.find_first.ensures ∙ ap (λ (k : ℕ). first_of (limits_of a.course) (take e a.s.now) k) n
    ∙ ap (behind_trailer (limits_of a.course) a.s.now) (sym o ∙ c.find_trailer.ensures) ∙ trace_short (limits_of a.course) a.s.now (omega arith)
