use Rattle.std.proofs.Common.{refl, sym, ◌∙◌, drop}
use borrow.Author.Tests.{eq-eqb}
use lib.Dec.{eqb}
use Rattle.rules.specs.Events.{F}
use Rattle.events.specs.Events.{field, last, lock_end, notify_end}
use Rattle.events.proofs.StageLaws.{stage_bad, stage_number}
use Rattle.events.proofs.LineLaws.{stage_then}
use Rattle.events.proofs.lock_fields.Goals as goal

pub returns-in_err-r : goal.returns-in_err-r
returns-in_err-r c =
    let a = c.args in
    c.from_residual.ensures
    ∙ sym (stage_bad (λ l. last (notify_end a.line.letter a.line.thread l)) (λ n. refl) a.line.next (drop a.line.next a.s.now) (sym c.number_until.ensures ∙ c.in_err-r.was))
    ∙ stage_then (eqb a.line.letter F) (field (λ l. last (notify_end a.line.letter a.line.thread l))) (last (lock_end a.line.letter a.line.thread)) a.line.next (drop a.line.next a.s.now) (eq-eqb _ _ c.if-line-ne70.false)

pub returns : goal.returns
returns c =
    let a = c.args in
    c.notify_end.ensures
    ∙ sym (stage_number (λ l. last (notify_end a.line.letter a.line.thread l)) a.line.next a.s.now c.in_ok-r.r (sym c.number_until.ensures ∙ c.in_ok-r.was))
    ∙ stage_then (eqb a.line.letter F) (field (λ l. last (notify_end a.line.letter a.line.thread l))) (last (lock_end a.line.letter a.line.thread)) a.line.next (drop a.line.next a.s.now) (eq-eqb _ _ c.if-line-ne70.false)
