use Rattle.std.proofs.Common.{sym, ◌∙◌, pos, drop}
use Rattle.events.specs.Events.{right}
use Rattle.events.proofs.LineLaws.{number_line}
use Rattle.events.proofs.lock_end.Goals as goal

pub returns-in_err-r : goal.returns-in_err-r
returns-in_err-r c =
    let a = c.args in
    rw (number_line (λ l. right a.line.letter a.line.thread l (pos 0)) a.line.next (drop a.line.next a.s.now), sym c.number_until.ensures ∙ c.in_err-r.was) c.from_residual.ensures

pub returns : goal.returns
returns c =
    let a = c.args in
    rw (number_line (λ l. right a.line.letter a.line.thread l (pos 0)) a.line.next (drop a.line.next a.s.now), sym c.number_until.ensures ∙ c.in_ok-r.was)
