-- `finishing::Accepted::finish_cell` meets its contract. Assumes nothing.
use Rattle.finishing.specs.Computed.Parts.{cell_entries, cells_entries}
use Rattle.finishing.proofs.Adding.{adds_then}
use Rattle.finishing.proofs.Accepted.finish_cell.Goals as goal

pub returns : goal.returns
unfolding cell_entries cells_entries
returns c = rw c.facts_of-facts.ensures at (adds_then c.put_rest.ensures (adds_then c.put_closing.ensures c.put_rest-2.ensures))
