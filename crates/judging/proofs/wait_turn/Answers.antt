-- `judging::wait_turn` meets its contract.
use native.Mathlib.Omega.{arith}
use mathlib.Core.Path.{◌≡◌, refl}
use Rattle.rules.specs.Rules.{row_in}
use Rattle.state.specs.Step.{hold_after, wait_after}
use Rattle.state.proofs.LeafLaws.{cond_same}
use borrow.Author.Tests.{ne_eqb}
use Rattle.judging.specs.Computed.Checks.{row_of, table}
use Rattle.judging.specs.Computed.Turns.{hold_for, wait_for, wait_turn}
use Rattle.judging.proofs.wait_turn.Goals as goal

pub returns-in-67 : goal.returns-in-67
unfolding wait_turn hold_for hold_after wait_for wait_after row_of table row_in
returns-in-67 c = rw (c.back-turn.ensures, c.taken_again-turn.ensures, c.first_of-turn.ensures, c.row_at.ensures, c.lock_checks.ensures, c.in-67.is) refl

pub returns-in-89 : goal.returns-in-89
unfolding wait_turn hold_for hold_after wait_for wait_after row_of table row_in
returns-in-89 c = rw (c.waiting-turn.ensures, c.given_up-turn.ensures, c.first_of-turn-in-89.ensures, c.row_at-in-89.ensures, c.unlock_checks.ensures, c.in-89.is) refl

pub returns-in-70 : goal.returns-in-70
unfolding wait_turn hold_for hold_after wait_for wait_after row_of table row_in
returns-in-70 c = rw (c.notified-turn.ensures, c.first_of-turn-in-70.ensures, c.row_at-in-70.ensures, c.notify_checks.ensures, c.in-70.is) refl

pub returns-in_default : goal.returns-in_default
unfolding wait_turn hold_for hold_after wait_for wait_after row_of table row_in
returns-in_default c = simp (ne_eqb 67 c.args.k (λ (q : 67 ≡ c.args.k). omega arith), ne_eqb 89 c.args.k (λ (q : 89 ≡ c.args.k). omega arith), ne_eqb 70 c.args.k (λ (q : 70 ≡ c.args.k). omega arith), cond_same) refl
