-- `judging::lock_turn` meets its contract.
use Rattle.state.specs.Step.{hold_after}
use Rattle.judging.specs.Computed.Turns.{hold_for, lock_turn}
use borrow.Author.Tests.{ne_eqb}
use native.Mathlib.Omega.{arith}
use mathlib.Core.Path.{◌≡◌, refl}
use Rattle.rules.specs.Rules.{row_in}
use Rattle.judging.specs.Computed.Checks.{row_of, table}
use Rattle.judging.proofs.lock_turn.Goals as goal

pub returns-in-75 : goal.returns-in-75
unfolding lock_turn hold_for hold_after row_of table row_in
returns-in-75 c = rw (c.taken.ensures, c.first_of.ensures, c.row_at.ensures, c.lock_checks.ensures, c.in-75.is) refl

pub returns-in-78 : goal.returns-in-78
unfolding lock_turn hold_for hold_after row_of table row_in
returns-in-78 c = rw (c.left.ensures, c.first_of-in-78.ensures, c.row_at-in-78.ensures, c.unlock_checks.ensures, c.in-78.is) refl

pub returns-in_default : goal.returns-in_default
unfolding lock_turn row_of table row_in
returns-in_default c = simp (ne_eqb 75 c.args.k (λ (q : 75 ≡ c.args.k). omega arith), ne_eqb 78 c.args.k (λ (q : 78 ≡ c.args.k). omega arith)) refl
