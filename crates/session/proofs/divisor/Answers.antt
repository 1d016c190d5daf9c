-- `session::divisor` meets its contract: no greater number divides both.
use mathlib.Core.Path.{sym, ◌∙◌}
use native.Mathlib.Omega.{arith}
use Rattle.session.proofs.Rounds.{common_here, common_next, common_end}
use Rattle.session.proofs.divisor.Goals as goal

pub returns-then-divides_both : goal.returns-then-divides_both
returns-then-divides_both c =
    let l = c.loop-d in
    let a = c.args in
    common_here l.d a.a a.n (omega arith) (sym c.divides_both.ensures ∙ c.if-divides_both.true) ∙ l.invariant

pub loop-d-preserved : goal.loop-d-preserved
loop-d-preserved c =
    let l = c.loop-d in
    let a = c.args in
    common_next l.d a.a a.n (omega arith) (sym c.divides_both.ensures ∙ c.if-divides_both.false) ∙ l.invariant

pub returns : goal.returns
returns c =
    let l = c.loop-d in
    let a = c.args in
    common_end l.d a.a a.n (omega arith) ∙ l.invariant
