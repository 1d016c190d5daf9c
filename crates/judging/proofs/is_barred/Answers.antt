-- `judging::is_barred` meets its contract.
use mathlib.Core.Path.{refl, sym}
use mathlib.Core.Bool.{and-false}
use Rattle.judging.specs.Computed.Leads.{is_waiting, is_barred}
use Rattle.judging.proofs.is_barred.Goals as goal

pub returns-then-w-eq0 : goal.returns-then-w-eq0
unfolding is_barred is_waiting
returns-then-w-eq0 c = sym (rw (c.if-w-eq0.true, and-false) refl)

pub returns : goal.returns
unfolding is_barred
returns c = rw c.is_waiting.ensures refl
