use Rattle.std.proofs.Common.{sym, ◌∙◌, arith}
use Rattle.rules.specs.Limits.{value_width}
use Rattle.events.specs.Events.{from_fields}
use Rattle.events.specs.Computed.Lines.{line_at}
use Rattle.events.proofs.LineLaws.{at_none, at_last, at_other, at_space, stage_out}
use Rattle.events.proofs.line_at.Goals as goal

pub returns-then-s-at : goal.returns-then-s-at
unfolding line_at
returns-then-s-at c = stage_out (from_fields value_width) c.args.s.now c.args.at c.if-s-at.true

pub returns-then-not-is_letter : goal.returns-then-not-is_letter
unfolding line_at
returns-then-not-is_letter c = sym (at_none c.args.s.now c.args.at (omega arith) (sym c.is_letter.ensures ∙ c.if-not-is_letter.true))

pub returns-then-s-a : goal.returns-then-s-a
unfolding line_at
returns-then-s-a c = sym (at_last c.args.s.now c.args.at (omega arith) c.if-s-a.true (sym c.is_letter.ensures ∙ c.if-not-is_letter.false))

pub returns-then-s-a-ne32 : goal.returns-then-s-a-ne32
unfolding line_at
returns-then-s-a-ne32 c = sym (at_other c.args.s.now c.args.at (omega arith) (sym c.is_letter.ensures ∙ c.if-not-is_letter.false) c.if-s-a-ne32.true)

pub returns : goal.returns
unfolding line_at
returns c = c.after_letter.ensures ∙ sym (at_space c.args.s.now c.args.at (omega arith) (sym c.is_letter.ensures ∙ c.if-not-is_letter.false) c.if-s-a-ne32.false)
