-- Demand 3 of an answer about an order and of the order list after it.
use Rattle.std.specs.Prelude.{ℕ, List, [], map, take}
use Rattle.rules.specs.declared.Event.{Event}
use Rattle.rules.specs.declared.Counts.{Counts}
use Rattle.trace.specs.Trace.{Guards}
use Rattle.sections.specs.Denials.{fit, denied}
use Rattle.sections.specs.Demand3.{Demand3}
use Rattle.sections.specs.Entries.{entry_in}
use Rattle.ordering.specs.declared.Ordering.{Ordering}
use Rattle.ordering.specs.declared.Ordering.TheVariants.{Ordered, Unordered, NoOrder}
use Rattle.ordering.specs.Answer.{guard_of, locks_in}

-- The sequential memory is fed the events and the first c numbers of the order list; where an order is denied nothing is run. A trace that is
-- due demand 3 gets an order or a denial, and nothing else.
abbrev pub SerialAnswer : Counts → Guards → List Event → Ordering → List ℕ → Type 0
SerialAnswer h g events (Ordered c) list = Demand3 h (guard_of (locks_in g)) events fit (map entry_in (take c list))
SerialAnswer h g events (Unordered r) list = Demand3 h (guard_of (locks_in g)) events (denied r.number r.line) []
SerialAnswer h g events NoOrder list = ⊥
