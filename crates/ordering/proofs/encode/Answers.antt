-- `ordering::encode` meets its contract. Assumes nothing.
use mathlib.Core.Path.{refl}
use Rattle.sections.specs.Entries.{entry_code}
use Rattle.ordering.proofs.encode.Goals as goal

pub returns : goal.returns
unfolding entry_code
returns c = refl
