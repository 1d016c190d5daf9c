-- `ordering::late_after` meets its contract. Assumes nothing.
use mathlib.Core.Path.{refl}
use Rattle.ordering.specs.Computed.Parts.{late_after}
use Rattle.ordering.proofs.late_after.Goals as goal

pub returns : goal.returns
unfolding late_after
returns c = refl
