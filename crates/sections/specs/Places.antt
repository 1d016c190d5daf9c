-- The lines of a trace: the event in a line, the events up to a line, and what a thread holds after it. Entries, denials and all
-- that follows here speak of lines; `position` goes from a line to the place of its event in the list.
use Rattle.std.specs.Prelude.{ℕ, zero, suc, ◌-◌, Bool, false, ◌&&◌, List, [], ◌∷◌, reverse, take}
use Rattle.std.proofs.Math.Option.{Option, none, some}
use Rattle.rules.specs.declared.Event.{Event}
use Rattle.rules.specs.declared.Counts.{Counts}
use Rattle.rules.specs.Events.{A, B, U, is, of, unlocks}
use Rattle.rules.specs.Limits.{first_line}
use Rattle.rules.specs.Words.{locks_by}
use Rattle.rules.specs.Rules as Rules
use Rattle.rules.specs.Rules.{words_of, held}

-- the position of the event in this line, from 1; 0 before the first. Behind the last event it goes on, where there is none.
unfoldable pub position : Counts → ℕ → ℕ
position h line = suc line - first_line h

-- the event that has n events before it
unfoldable pub nth : ℕ → List Event → Option Event
nth n [] = none
nth zero (e ∷ events) = some e
nth (suc n) (e ∷ events) = nth n events

-- the event at this position, from 1
unfoldable pub at_position : ℕ → List Event → Option Event
at_position zero events = none
at_position (suc n) events = nth n events

-- the first n events, as the words about earlier events take them: the latest first
unfoldable pub so_far : ℕ → List Event → List Event
so_far n events = reverse (take n events)

-- the event in this line
unfoldable pub event_at : Counts → ℕ → List Event → Option Event
event_at h line events = at_position (position h line) events

-- the events up to this line, the latest first
unfoldable pub up_to : Counts → ℕ → List Event → List Event
up_to h line events = so_far (position h line) events

-- U, A or B
unfoldable pub uses_or_assigns : Event → Bool
uses_or_assigns e = is (U ∷ A ∷ B ∷ []) e

-- T unlocks, on whichever lock: an N, or a Y, which counts "as an unlock of each hold given up"
unfoldable pub unlocks_by : ℕ → Event → Bool
unlocks_by t e = unlocks e && of t e

abbrev pub passes : (Event → Bool) → Option Event → Bool
passes f none = false
passes f (some e) = f e

-- in this line stands a K by thread t, or a C, which counts "as a lock of each taken again"
unfoldable pub lock_at : Counts → ℕ → List Event → ℕ → Bool
lock_at h t events line = passes (locks_by t) (event_at h line events)

-- in this line stands an N by thread t, or a Y
unfoldable pub unlock_at : Counts → ℕ → List Event → ℕ → Bool
unlock_at h t events line = passes (unlocks_by t) (event_at h line events)

-- T holds something: a declared lock
unfoldable pub holds_some : Counts → ℕ → List Event → Bool
holds_some h t es = Rules.some h.locks (λ l. held (words_of es) t l)

-- thread t holds something after this line
unfoldable pub holding : Counts → ℕ → List Event → ℕ → Bool
holding h t events line = holds_some h t (up_to h line events)
