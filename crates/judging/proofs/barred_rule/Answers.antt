-- `judging::barred_rule` meets its contract.
use mathlib.Core.Path.{refl}
use Rattle.judging.specs.Computed.Leads.{barred_rule}
use Rattle.judging.proofs.barred_rule.Goals as goal

pub returns-then-is_barred : goal.returns-then-is_barred
unfolding barred_rule
returns-then-is_barred c = rw (← c.is_barred.ensures, c.if-is_barred.true) refl

pub returns-else-is_barred : goal.returns-else-is_barred
unfolding barred_rule
returns-else-is_barred c = rw (← c.is_barred.ensures, c.if-is_barred.false) refl
