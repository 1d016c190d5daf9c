-- `state::wait_ok` meets its contract.
use mathlib.Core.Path.{refl}
use Rattle.state.proofs.wait_ok.Goals as goal

pub returns : goal.returns
returns c = refl
