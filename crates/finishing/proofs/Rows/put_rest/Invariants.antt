-- `finishing::Rows::put_rest` meets its contract. Assumes nothing.
use mathlib.Core.List.{map}
use Rattle.finishing.specs.Computed.Parts.{entry_of}
use Rattle.finishing.specs.Computed.Filled.{Adds}
use Rattle.finishing.proofs.Rows.put_rest.Given as goal

abbrev pub invariant-loop-value : goal.invariant-loop-value
invariant-loop-value l = Adds (map (λ p. entry_of l.fn.letter l.fn.key.thread l.fn.key.place p.1.now) l.yielded) l.initial.out l.out
