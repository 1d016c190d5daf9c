-- `records::thread_in` meets its contract. Assumes nothing.
use mathlib.Core.Path.{refl}
use Rattle.records.specs.Records.{thread_in}
use Rattle.records.proofs.thread_in.Goals as goal

pub returns : goal.returns
unfolding thread_in
returns c = refl
