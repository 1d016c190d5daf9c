-- Document 01's plain memory, the sequential memory: it is fed the order and the trace's events, and nothing from the marker's state.
use Rattle.std.specs.Prelude.{ℕ, suc, Bool, cond, ◌&&◌, List, [], ◌∷◌, ◌++◌, leb, ℤ, pos}
use Rattle.rules.specs.declared.Event.{Event}
use Rattle.rules.specs.declared.Counts.{Counts}
use Rattle.rules.specs.Events.{A, B, U, value, is, of, on}
use Rattle.rules.specs.Limits.{first_line}
use Rattle.rules.specs.Rules.{loc}
use Rattle.sections.specs.CriticalSections.{Entry}

-- Of a section it takes the events of that section's thread, from the first line to the last:
-- it takes the event e in line n
unfoldable pub takes : Entry → ℕ → Event → Bool
takes s n e = of s.thread e && (leb s.first n && leb n s.last)

-- as they stand in the paper. The first of these events stands in line n
unfoldable pub part_from : ℕ → Entry → List Event → List Event
part_from n s [] = []
part_from n s (e ∷ events) = let rest = part_from (suc n) s events in cond (takes s n e) (e ∷ rest) rest

unfoldable pub part : Counts → Entry → List Event → List Event
part h s events = part_from (first_line h) s events

-- The sections are run in the order's sequence, each to its end before the next.
unfoldable pub serially : Counts → List Entry → List Event → List Event
serially h [] events = []
serially h (s ∷ ss) events = part h s events ++ serially h ss events

-- how many sections of the order take the event e in line n
unfoldable pub times : ℕ → Event → List Entry → ℕ
times n e [] = 0
times n e (s ∷ ss) = cond (takes s n e) (suc (times n e ss)) (times n e ss)

-- It has one value for each declared variable, 0 at the start.
unfoldable pub zeros : ℕ → ℤ
zeros v = pos 0

-- A and B set their variable to the event's value. Every other kind does nothing, P included.
unfoldable pub assign : Event → (ℕ → ℤ) → ℕ → ℤ
assign e memory v = cond (is (A ∷ B ∷ []) e && on v e) (value e.kind) (memory v)

-- the memory after a run
unfoldable pub after : List Event → (ℕ → ℤ) → ℕ → ℤ
after [] memory = memory
after (e ∷ events) memory = after events (assign e memory)

-- U changes nothing and is given its variable's value; the value in the U itself is not looked at. What each U of a run is given
unfoldable pub given : List Event → (ℕ → ℤ) → List ℤ
given [] memory = []
given (e ∷ events) memory = let rest = given events (assign e memory) in cond (is (U ∷ []) e) (memory (loc e) ∷ rest) rest

-- the values in the U's lines
unfoldable pub stated : List Event → List ℤ
stated [] = []
stated (e ∷ events) = let rest = stated events in cond (is (U ∷ []) e) (value e.kind ∷ rest) rest
