-- `judging::bars_event` meets its contract.
use mathlib.Core.Path.{refl}
use Rattle.judging.specs.Computed.Leads.{bars_event}
use Rattle.judging.proofs.bars_event.Goals as goal

pub returns : goal.returns
unfolding bars_event
returns c = rw (c.bars_write-written.ensures, c.bars_use-used.ensures) refl
