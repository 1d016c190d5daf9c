-- `judging::ahead_rule` meets its contract.
use mathlib.Core.Path.{refl}
use Rattle.judging.specs.Computed.Leads.{ahead_rule}
use Rattle.judging.proofs.ahead_rule.Goals as goal

pub returns-then-is_barred : goal.returns-then-is_barred
unfolding ahead_rule
returns-then-is_barred c = rw (← c.is_barred.ensures, c.if-is_barred.true) refl

pub returns-then-is_untold : goal.returns-then-is_untold
unfolding ahead_rule
returns-then-is_untold c = rw (← c.is_barred.ensures, c.if-is_barred.false, ← c.is_untold.ensures, c.if-is_untold.true) refl

pub returns-else-is_untold : goal.returns-else-is_untold
unfolding ahead_rule
returns-else-is_untold c = rw (← c.is_barred.ensures, c.if-is_barred.false, ← c.is_untold.ensures, c.if-is_untold.false) refl
