-- `judging::cell_turn` meets its contract.
use mir.ValLaws.{to_z-of_z}
use Rattle.rules.specs.Limits.{value_width}
use Rattle.state.specs.Step.{next_cell}
use Rattle.judging.specs.Computed.Turns.{after_use, use_rule, cell_turn}
use borrow.Author.Tests.{ne_eqb}
use native.Mathlib.Omega.{arith}
use mathlib.Core.Path.{◌≡◌, refl}
use Rattle.rules.specs.Rules.{row_in}
use Rattle.judging.specs.Computed.Checks.{row_of, table}
use Rattle.judging.proofs.cell_turn.Goals as goal

pub returns-in-85 : goal.returns-in-85
unfolding use_rule after_use cell_turn next_cell row_of table row_in
returns-in-85 c = rw (c.used.ensures, c.use_rule.ensures, c.in-85.is, to_z-of_z value_width c.args.x c.ranges.x) refl

pub returns-in-65 : goal.returns-in-65
unfolding use_rule cell_turn next_cell row_of table row_in
returns-in-65 c = rw (c.assigned.ensures, c.first_of.ensures, c.row_at.ensures, c.assign_checks.ensures, c.in-65.is, to_z-of_z value_width c.args.x c.ranges.x) refl

pub returns-in-66 : goal.returns-in-66
unfolding use_rule cell_turn next_cell row_of table row_in
returns-in-66 c = rw (c.prescient_assigned.ensures, c.first_of-in-66.ensures, c.row_at-in-66.ensures, c.prescient_assign_checks.ensures, c.in-66.is, to_z-of_z value_width c.args.x c.ranges.x) refl

pub returns-in_default : goal.returns-in_default
unfolding use_rule cell_turn next_cell row_of table row_in
returns-in_default c = simp (ne_eqb 85 c.args.k (λ (q : 85 ≡ c.args.k). omega arith), ne_eqb 65 c.args.k (λ (q : 65 ≡ c.args.k). omega arith), ne_eqb 66 c.args.k (λ (q : 66 ≡ c.args.k). omega arith)) refl
