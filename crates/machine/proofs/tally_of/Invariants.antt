-- `machine::tally_of` meets its contract: after v turns the numbers are those of the first v variables. Assumes nothing.
use mathlib.Core.Path.{◌≡◌}
use Rattle.state.specs.State.{cell_at}
use Rattle.judging.specs.Computed.Turns.{awaits_write}
use Rattle.machine.specs.Computed.Tallies.{number}
use Rattle.machine.proofs.tally_of.Given as goal

abbrev pub invariant-loop-v : goal.invariant-loop-v
invariant-loop-v l =
    (l.tally.pending ≡ number l.v (λ w. (cell_at l.s l.t w).pending)) × (l.tally.fresh ≡ number l.v (λ w. (cell_at l.s l.t w).fresh)) × (l.tally.stored ≡ number l.v (λ w. awaits_write (cell_at l.s l.t w)))
