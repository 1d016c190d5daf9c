-- `finishing::Out::put_unlocks` meets its contract. Assumes nothing.
use lib.IntN.{pos}
use lib.ListN.{replicate}
use Rattle.rules.specs.Events.{N}
use Rattle.finishing.specs.Computed.Parts.{entry_of}
use Rattle.finishing.specs.Computed.Filled.{Adds}
use Rattle.finishing.proofs.Out.put_unlocks.Given as goal

abbrev pub invariant-loop : goal.invariant-loop
invariant-loop l = Adds (replicate l.counter (entry_of N l.key.thread l.key.place (pos 0))) l.initial.self l.self
