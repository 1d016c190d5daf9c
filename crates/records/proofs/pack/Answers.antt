-- `records::pack` meets its contract. Assumes nothing.
use Rattle.records.specs.Records.{packed}
use Rattle.records.proofs.pack.Goals as goal

pub returns : goal.returns
unfolding packed
returns c = rw (c.what_of.ensures, c.place_of.ensures, c.letter_of.ensures)
