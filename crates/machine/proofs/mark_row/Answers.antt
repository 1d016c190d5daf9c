-- `machine::mark_row` meets its contract. Assumes nothing.
use mathlib.Core.Path.{sym, ◌∙◌}
use Rattle.machine.proofs.RowMarks.{ready_start, row_uneven, row_head, row_run}
use Rattle.machine.proofs.Tallies.{tally_zero}
use Rattle.machine.proofs.mark_row.Goals as goal

pub returns-then-value-what : goal.returns-then-value-what
returns-then-value-what c = row_uneven c.args.h c.args.what.now c.args.value.now c.if-value-what.true

pub returns-then-not-is_allowed : goal.returns-then-not-is_allowed
returns-then-not-is_allowed c = row_head c.args.h c.args.what.now c.args.value.now c.if-value-what.false (sym c.is_allowed.ensures ∙ c.if-not-is_allowed.true)

pub run-requires-clause-ready : goal.run-requires-clause-ready
run-requires-clause-ready c = ready_start c.args.h c.initial.result c.default.result c.initial.ensures (tally_zero c.default.ensures.0 c.default.ensures.1.0 c.default.ensures.1.1) (sym c.is_allowed.ensures ∙ c.if-not-is_allowed.false)

pub returns : goal.returns
returns c = row_run c.args.h c.args.what.now c.args.value.now c.if-value-what.false (sym c.is_allowed.ensures ∙ c.if-not-is_allowed.false) c.initial.ensures c.run.ensures
