-- The serial order of a trace, by one scan. What it lists is stated, with no scan, in `CriticalSections`.
use Rattle.std.specs.Prelude.{ℕ, suc, ◌-◌, Bool, true, false, List, [], ◌∷◌, map, reverse, T, ℤ, length}
use Rattle.rules.specs.declared.Event.{Event}
use Rattle.rules.specs.declared.Counts.{Counts}
use Rattle.rules.specs.Limits.{line_after}
use Rattle.serial.specs.Sections.{Section, next}
use Rattle.sections.specs.View.{view}
use Rattle.sections.specs.Places.{holds_some}
use Rattle.sections.specs.CriticalSections.{Entry}

abbrev pub told : (b : Bool) → Dec (T b)
told true = yes tt
told false = no (λ t. t)

-- The sections of a list of events, the latest first, each with its thread, its first and last position, the position of
-- its last K and its events; the one with the latest K first. See `Rattle.serial.specs.Sections.next`: a K by a thread
-- that holds nothing opens a section, another K puts its thread's section in front.
unfoldable pub sections : Counts → List Event → List (Section ℤ)
sections h [] = []
sections h (e ∷ es) = next (view e) (told (holds_some h e.thread es)) (suc (length es)) (sections h es)

-- the line of the event at this position, from 1
abbrev pub line_of : Counts → ℕ → ℕ
line_of h p = line_after h p - 1

abbrev pub entry : Counts → Section ℤ → Entry
entry h s = record { thread = s.owner; first = line_of h s.first; last = line_of h s.last }

-- the sections of a trace in the order of their last K
unfoldable pub order : Counts → List Event → List Entry
order h events = map (entry h) (reverse (sections h (reverse events)))
