-- `ordering::Holds::none` meets its contract. Assumes nothing.
use mathlib.Core.Path.{refl}
use Rattle.ordering.specs.Computed.Parts.{no_holds}
use Rattle.ordering.proofs.Holds.none.Goals as goal

pub returns : goal.returns
unfolding no_holds
returns c = refl
