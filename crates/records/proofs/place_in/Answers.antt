-- `records::place_in` meets its contract. Assumes nothing.
use mathlib.Core.Path.{refl}
use Rattle.records.specs.Records.{place_in}
use Rattle.records.proofs.place_in.Goals as goal

pub returns : goal.returns
unfolding place_in
returns c = refl
