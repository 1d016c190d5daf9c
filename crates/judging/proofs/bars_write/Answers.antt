-- `judging::bars_write` meets its contract.
use mathlib.Core.Path.{refl}
use Rattle.judging.proofs.bars_write.Goals as goal

pub returns : goal.returns
returns c = refl
