-- `machine::bars_at` meets its contract. Assumes nothing.
use Rattle.judging.proofs.Leads.{bars_is}
use Rattle.machine.proofs.bars_at.Goals as goal

pub returns : goal.returns
returns c = let a = c.args in bars_is a.cells.now a.stores.now a.t a.v a.k a.u c.cell_place-at.ensures.0 c.slot_place.ensures.0 c.cell_place-i.ensures.0 c.slot_place-2.ensures.0 c.bars_event.ensures
