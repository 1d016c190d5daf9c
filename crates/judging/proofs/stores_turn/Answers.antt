-- `judging::stores_turn` meets its contract.
use mir.ValLaws.{to_z-of_z}
use Rattle.rules.specs.Limits.{value_width}
use Rattle.state.specs.Step.{next_cell, store_after, main_after}
use Rattle.judging.specs.Computed.Turns.{stores_with, stores_turn}
use borrow.Author.Tests.{ne_eqb}
use native.Mathlib.Omega.{arith}
use mathlib.Core.Path.{◌≡◌, refl}
use Rattle.rules.specs.Rules.{row_in}
use Rattle.judging.specs.Computed.Checks.{row_of, table}
use Rattle.judging.proofs.stores_turn.Goals as goal

pub returns-in-87 : goal.returns-in-87
unfolding stores_turn stores_with next_cell store_after main_after row_of table row_in
returns-in-87 c = rw (c.has_written-turn.ensures, c.first_of-turn.ensures, c.row_at.ensures, c.write_checks.ensures, c.oldest.ensures, c.in-87.is, to_z-of_z value_width c.args.x c.ranges.x) refl

pub returns-in-83 : goal.returns-in-83
unfolding stores_turn stores_with next_cell store_after main_after row_of table row_in
returns-in-83 c = rw (c.stored-turn.ensures, c.first_of-turn-in-83.ensures, c.row_at-in-83.ensures, c.store_checks.ensures, c.in-83.is, to_z-of_z value_width c.args.x c.ranges.x) refl

pub returns-in-80 : goal.returns-in-80
unfolding stores_turn stores_with next_cell store_after main_after row_of table row_in
returns-in-80 c = rw (c.prescient_stored-turn.ensures, c.first_of-turn-in-80.ensures, c.row_at-in-80.ensures, c.prescient_store_checks.ensures, c.in-80.is, to_z-of_z value_width c.args.x c.ranges.x) refl

pub returns-in_default : goal.returns-in_default
unfolding stores_turn stores_with next_cell store_after main_after row_of table row_in
returns-in_default c = simp (ne_eqb 87 c.args.k (λ (q : 87 ≡ c.args.k). omega arith), ne_eqb 83 c.args.k (λ (q : 83 ≡ c.args.k). omega arith), ne_eqb 80 c.args.k (λ (q : 80 ≡ c.args.k). omega arith)) refl
