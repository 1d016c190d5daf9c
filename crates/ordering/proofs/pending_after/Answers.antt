-- `ordering::pending_after` meets its contract. Assumes nothing.
use mathlib.Core.Path.{refl}
use Rattle.ordering.specs.Computed.Parts.{pending_after}
use Rattle.ordering.proofs.pending_after.Goals as goal

pub returns : goal.returns
unfolding pending_after
returns c = refl
