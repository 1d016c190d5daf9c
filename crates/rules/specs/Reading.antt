-- Reading lines and marking events one after the other: the events up to the first line that is none, or up to the limit, and what ends the reading.
use Rattle.std.specs.Prelude.{ℕ, suc, ◌≡◌, Bool, true, cond, List, [], ◌∷◌, leb}
use Rattle.std.proofs.Math.Option.{Option, none, some}
use Rattle.rules.specs.declared.Event.{Event}
use Rattle.rules.specs.declared.Counts.{Counts}
use Rattle.rules.specs.Limits.{Limits, line_after}
use Rattle.rules.specs.Rules.{Marked, accepted, refused}

-- the events that are read where n events are in
unfoldable pub read_from : Limits → ℕ → List (Option Event) → List Event
read_from m n [] = []
read_from m n (none ∷ rest) = []
read_from m n (some e ∷ rest) = cond (leb m.events n) [] (e ∷ read_from m (suc n) rest)

-- what ends the reading: nothing, a line that is no event, or one event too many
unfoldable pub stop_from : Limits → Counts → ℕ → List (Option Event) → Marked
stop_from m h n [] = accepted
stop_from m h n (none ∷ rest) = refused 4 (line_after h n)
stop_from m h n (some e ∷ rest) = cond (leb m.events n) (refused m.excess (line_after h n)) (stop_from m h (suc n) rest)

-- what a line is where an event that fails the test is none
abbrev pub only_if : (Event → Bool) → Option Event → Option Event
only_if p none = none
only_if p (some e) = cond (p e) (some e) none

-- each of these lines that is an event passes the test
abbrev pub AllPass : (Event → Bool) → List (Option Event) → Type 0
AllPass p [] = Unit {0}
AllPass p (none ∷ rs) = AllPass p rs
AllPass p (some e ∷ rs) = (p e ≡ true) × AllPass p rs
