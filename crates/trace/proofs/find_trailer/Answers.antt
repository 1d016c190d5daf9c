use Rattle.std.proofs.Common.{◌≡◌, rules, ap, ◌∙◌}
use Rattle.trace.specs.declared.LastLine.{LastLine}
use Rattle.trace.specs.Trace.{check_at, trailer_of}
use Rattle.trace.proofs.find_trailer.Goals as goal

pub returns : goal.returns
unfolding trailer_of
returns c =
    let l = c.last_line-l in
    let e : c.filter.result ≡ check_at l.result.at l.result.number = search rules in
    e ∙ ap (λ (l : LastLine). check_at l.at l.number) l.ensures
