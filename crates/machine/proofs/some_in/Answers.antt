-- `machine::some_in` meets its contract. Assumes nothing.
use mathlib.Core.Path.{refl}
use Rattle.machine.specs.Computed.Tallies.{some_in}
use Rattle.machine.proofs.some_in.Goals as goal

pub returns : goal.returns
unfolding some_in
returns c = refl
