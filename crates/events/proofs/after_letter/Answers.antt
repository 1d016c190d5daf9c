use Rattle.std.proofs.Common.{sym, ◌∙◌, drop}
use Rattle.rules.specs.Limits.{value_width}
use Rattle.events.specs.Events.{after_thread}
use Rattle.events.proofs.StageLaws.{stage_bad, stage_number}
use Rattle.events.proofs.LineLaws.{thread_none}
use Rattle.events.proofs.after_letter.Goals as goal

pub returns-in_err-r : goal.returns-in_err-r
returns-in_err-r c =
    let a = c.args in
    c.from_residual.ensures ∙ sym (stage_bad (after_thread value_width a.line.letter) (thread_none a.line.letter) a.line.next (drop a.line.next a.s.now) (sym c.number_until.ensures ∙ c.in_err-r.was))

pub returns : goal.returns
returns c =
    let a = c.args in
    c.after_thread.ensures ∙ sym (stage_number (after_thread value_width a.line.letter) a.line.next a.s.now c.in_ok-r.r (sym c.number_until.ensures ∙ c.in_ok-r.was))
