-- `judging::row_at` meets its contract: the constant is the table of the definition's rows.
use mathlib.Core.Path.{refl}
use Rattle.judging.specs.Computed.Checks.{table}
use Rattle.judging.proofs.row_at.Goals as goal

pub returns : goal.returns
unfolding table
returns c = refl
