use Rattle.std.proofs.Common.{sym, ap, ◌∙◌, drop, length, Err}
use Rattle.std.proofs.lemmas.Result.{err_from_is_err_and}
use Rattle.lines.proofs.PartLaws.{rest}
use Rattle.trace.proofs.Exits.{none_at_err, some_at_ok}
use Rattle.trace.proofs.TraceLaws.{second_none, second_some}
use Rattle.trace.proofs.find_second.Goals as goal

pub returns-then-rest-b : goal.returns-then-rest-b
returns-then-rest-b c =
    let a = c.args in
    let s = a.s.now in
    let e = rest a.at s in
    second_none (drop a.at s) a.at (length s) c.find-b.result a.head (rw e at c.find-b.ensures) (rw e at c.if-rest-b.true)

pub returns-in_err-guards : goal.returns-in_err-guards
returns-in_err-guards c =
    let a = c.args in
    let s = a.s.now in
    let e = rest a.at s in
    let w = second_some (drop a.at s) a.at (length s) c.find-b.result a.head (rw e at c.find-b.ensures) (rw e at c.if-rest-b.false) in
    let o = none_at_err c.read_guards.result _ _ _ c.in_err-guards.was c.ok_or.ensures.value in
    let g = sym (rw e at c.read_guards.ensures) ∙ o.0 in
    let p = err_from_is_err_and c.from_residual.result c.from_residual.ensures.1 in
    rw (p.1, p.2) (ap Err o.1 ∙ (rw g at w))

pub returns : goal.returns
returns c =
    let a = c.args in
    let s = a.s.now in
    let e = rest a.at s in
    let w = second_some (drop a.at s) a.at (length s) c.find-b.result a.head (rw e at c.find-b.ensures) (rw e at c.if-rest-b.false) in
    let g = sym (rw e at c.read_guards.ensures) ∙ some_at_ok c.read_guards.result _ _ _ c.in_ok-guards.was c.ok_or.ensures.value in
    rw g at w
