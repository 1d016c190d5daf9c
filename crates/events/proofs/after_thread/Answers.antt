use Rattle.std.proofs.Common.{refl, sym, ◌∙◌, drop}
use Rattle.rules.specs.Events.{is_lock_letter}
use Rattle.rules.specs.Limits.{value_width}
use Rattle.events.specs.Events.{field, last, value_end, lock_fields}
use Rattle.events.proofs.StageLaws.{stage_bad, stage_number}
use Rattle.events.proofs.LineLaws.{stage_else}
use Rattle.events.proofs.after_thread.Goals as goal

pub returns-in_err-r : goal.returns-in_err-r
returns-in_err-r c =
    let a = c.args in
    c.from_residual.ensures
    ∙ sym (stage_bad (λ v. last (value_end value_width a.line.letter a.line.thread v)) (λ n. refl) a.line.next (drop a.line.next a.s.now) (sym c.number_until.ensures ∙ c.in_err-r.was))
    ∙ stage_else (is_lock_letter a.line.letter) (lock_fields a.line.letter a.line.thread) (field (λ v. last (value_end value_width a.line.letter a.line.thread v))) a.line.next (drop a.line.next a.s.now) (sym c.is_lock_letter.ensures ∙ c.if-is_lock_letter.false)

pub returns : goal.returns
returns c =
    let a = c.args in
    c.value_end.ensures
    ∙ sym (stage_number (λ v. last (value_end value_width a.line.letter a.line.thread v)) a.line.next a.s.now c.in_ok-r.r (sym c.number_until.ensures ∙ c.in_ok-r.was))
    ∙ stage_else (is_lock_letter a.line.letter) (lock_fields a.line.letter a.line.thread) (field (λ v. last (value_end value_width a.line.letter a.line.thread v))) a.line.next (drop a.line.next a.s.now) (sym c.is_lock_letter.ensures ∙ c.if-is_lock_letter.false)
