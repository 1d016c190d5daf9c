-- `session::mark_sheet` meets its contract: 7, 1, 31, or the counts.
use mathlib.Core.Path.{sym, ◌∙◌}
use Rattle.rules.specs.Limits.{limits_of}
use Rattle.session.proofs.Answers.{short_answer, long_answer, lost_answer, counted_answer}
use Rattle.session.proofs.mark_sheet.Goals as goal

pub returns-then-out-lt-OUTPUT : goal.returns-then-out-lt-OUTPUT
returns-then-out-lt-OUTPUT c =
    let a = c.args in
    short_answer (limits_of a.course) a.bytes.now a.out.now c.if-out-lt-OUTPUT.true _ c.turned_away.ensures

pub returns-then-bytes-gt65536 : goal.returns-then-bytes-gt65536
returns-then-bytes-gt65536 c =
    let a = c.args in
    let r = c.refuse in
    long_answer (limits_of a.course) a.bytes.now a.out.now c.if-out-lt-OUTPUT.false c.if-bytes-gt65536.true r.result r.new.out r.ensures.0 r.ensures.1

pub returns-in_default : goal.returns-in_default
returns-in_default c =
    let a = c.args in
    let r = c.refuse-in_default in
    lost_answer (limits_of a.course) a.bytes.now a.out.now c.if-out-lt-OUTPUT.false c.if-bytes-gt65536.false (sym c.in_default.is ∙ c.count_traces.ensures) r.result r.new.out r.ensures.0 r.ensures.1

pub returns : goal.returns
returns c =
    let a = c.args in
    let w = c.write_tally-written in
    counted_answer (limits_of a.course) a.bytes.now a.out.now c.if-out-lt-OUTPUT.false c.if-bytes-gt65536.false c.in-Some.tally (sym c.in-Some.is ∙ c.count_traces.ensures) w.result w.new.out w.ensures
