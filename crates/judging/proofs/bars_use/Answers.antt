-- `judging::bars_use` meets its contract.
use mathlib.Core.Path.{refl}
use Rattle.judging.proofs.bars_use.Goals as goal

pub returns : goal.returns
returns c = refl
