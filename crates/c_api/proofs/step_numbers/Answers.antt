-- `c_api::step_numbers` meets its contract. Assumes nothing.
use mir.ValLaws.{to_z-of_z}
use Rattle.rules.specs.Limits.{limits_of, value_width}
use Rattle.rules.proofs.Bounds.{up_to_full}
use Rattle.c_api.proofs.StepLaws.{step_told}
use Rattle.c_api.proofs.step_numbers.Goals as goal

pub returns : goal.returns
returns c =
    let a = c.args in
    step_told (limits_of a.course) a.s (up_to_full a.course) a.thread a.letter a.place a.value _ (to_z-of_z value_width _ c.ranges.value) _ c.kind_of-kind.ensures
    _ _ _ _ _ c.line_after-line.ensures c.event_of-e.ensures c.step-a.ensures c.from.ensures c.reply_to.ensures
