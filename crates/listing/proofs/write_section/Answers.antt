-- `listing::write_section` meets its contract: the parts of the number. Assumes nothing.
use Rattle.sections.specs.Entries.{entry_in}
use Rattle.listing.proofs.write_section.Goals as goal

pub returns : goal.returns
unfolding entry_in
returns c = c.row_line.ensures
