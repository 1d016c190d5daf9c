-- `session::find_start` meets its contract: where the last line points.
use mathlib.Core.Path.{ap, ◌∙◌}
use native.Mathlib.Omega.{arith}
use Rattle.trace.specs.declared.LastLine.{LastLine}
use Rattle.trace.proofs.TraceLaws.{last_le}
use Rattle.session.specs.Sheet.{pointed, start_of}
use Rattle.session.proofs.find_start.Goals as goal

pub point-requires : goal.point-requires
point-requires c =
    let s = c.args.s.now in
    omega (arith, ap (λ (l : LastLine). l.at) c.last_line-l.ensures, last_le s, c.requires)

pub returns : goal.returns
unfolding start_of
returns c = c.point.ensures ∙ ap (λ (l : LastLine). pointed c.args.s.now l.at l.number) c.last_line-l.ensures
