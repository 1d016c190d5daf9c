use Rattle.std.proofs.Common.{sym, ◌∙◌, pos, drop, arith}
use mir.ValLaws.{to_z-of_z}
use Rattle.rules.specs.Events.{capped}
use Rattle.rules.specs.Limits.{value_width}
use Rattle.rules.proofs.Letters.{capped_low}
use Rattle.events.specs.Events.{right}
use Rattle.events.proofs.LineLaws.{number_line}
use Rattle.events.proofs.notify_end.Goals as goal

pub returns-in_err-r : goal.returns-in_err-r
returns-in_err-r c =
    let a = c.args in
    rw (number_line (λ u. right a.line.letter a.line.thread a.line.place (pos (capped u))) a.line.next (drop a.line.next a.s.now), sym c.number_until.ensures ∙ c.in_err-r.was) c.from_residual.ensures

pub returns : goal.returns
returns c =
    let a = c.args in
    let e = rw c.cap.ensures at c.from.ensures in
    let v = to_z-of_z value_width (pos (capped c.in_ok-r.r.number)) (record { sfits = omega (arith, capped_low c.in_ok-r.r.number) }) in
    rw (number_line (λ u. right a.line.letter a.line.thread a.line.place (pos (capped u))) a.line.next (drop a.line.next a.s.now), sym c.number_until.ensures ∙ c.in_ok-r.was, e, v)
