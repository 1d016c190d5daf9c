-- `judging::reads_turn` meets its contract.
use mir.ValLaws.{to_z-of_z}
use Rattle.rules.specs.Limits.{value_width}
use Rattle.state.specs.Step.{next_cell, read_after}
use Rattle.judging.specs.Computed.Turns.{reads_with, reads_turn}
use borrow.Author.Tests.{ne_eqb}
use native.Mathlib.Omega.{arith}
use mathlib.Core.Path.{◌≡◌, refl}
use Rattle.rules.specs.Rules.{row_in}
use Rattle.judging.specs.Computed.Checks.{row_of, table}
use Rattle.judging.proofs.reads_turn.Goals as goal

pub returns-in-76 : goal.returns-in-76
unfolding reads_turn reads_with next_cell read_after row_of table row_in
returns-in-76 c = rw (c.loaded.ensures, c.first_of.ensures, c.row_at.ensures, c.load_checks.ensures, c.oldest-s.ensures, c.in-76.is, to_z-of_z value_width c.args.x c.ranges.x) refl

pub returns-in-82 : goal.returns-in-82
unfolding reads_turn reads_with next_cell read_after row_of table row_in
returns-in-82 c = rw (c.has_read.ensures, c.first_of-in-82.ensures, c.row_at-in-82.ensures, c.read_checks.ensures, c.in-82.is, to_z-of_z value_width c.args.x c.ranges.x) refl

pub returns-in_default : goal.returns-in_default
unfolding reads_turn reads_with next_cell read_after row_of table row_in
returns-in_default c = simp (ne_eqb 76 c.args.k (λ (q : 76 ≡ c.args.k). omega arith), ne_eqb 82 c.args.k (λ (q : 82 ≡ c.args.k). omega arith)) refl
