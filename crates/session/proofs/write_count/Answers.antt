-- `session::write_count` meets its contract: a line where the number occurs, and else nothing.
use mathlib.Core.List.{[]}
use Rattle.listing.proofs.LineLaws.{wrote_one, wrote_nothing, wrote_as}
use Rattle.session.proofs.SheetLines.{count_there, count_not}
use Rattle.session.proofs.write_count.Goals as goal

pub returns-then-n-eq0 : goal.returns-then-n-eq0
returns-then-n-eq0 c =
    let a = c.args in
    wrote_as [] _ a.out.now a.out.now 0 (count_not a.k a.n c.if-n-eq0.true) (wrote_nothing a.out.now)

pub returns : goal.returns
returns c =
    let a = c.args in
    wrote_as _ _ a.out.now _ _ (count_there a.k a.n c.if-n-eq0.false) (wrote_one _ a.out.now _ _ c.write_refused.ensures)
