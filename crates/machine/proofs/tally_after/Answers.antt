-- `machine::tally_after` meets its contract. Assumes nothing.
use mathlib.Core.Path.{refl}
use Rattle.machine.specs.Computed.Tallies.{tally_after}
use Rattle.machine.proofs.tally_after.Goals as goal

pub returns : goal.returns
unfolding tally_after
returns c = rw (c.moved.ensures, c.moved-2.ensures, c.moved-3.ensures, c.awaits_write-2.ensures, c.awaits_write.ensures) refl
