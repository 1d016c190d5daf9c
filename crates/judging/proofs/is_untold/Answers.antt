-- `judging::is_untold` meets its contract.
use mathlib.Core.Path.{refl}
use Rattle.judging.specs.Computed.Leads.{is_untold}
use Rattle.judging.proofs.is_untold.Goals as goal

pub returns : goal.returns
unfolding is_untold
returns c = rw (c.notified_of-told.ensures, c.remembered_of-n.ensures) refl
