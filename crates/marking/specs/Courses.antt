-- Document 02 (e): "A short-course paper gets the full marker's verdict. Turned away: 25, over the short course's limits, after 3 for the head (line 1) and in
-- place of 9 for events." What is over limits m, those of the short course or others, and what it means that a paper is marked as by the full limits.
use Rattle.std.specs.Prelude.{ℕ, ◌≤◌, ◌≡◌, false, List, ◌∷◌, ◌++◌, map, reverse, T, length, take, Some}
use Rattle.std.proofs.Math.Option.{Option, some}
use Rattle.rules.specs.declared.Counts.{Counts}
use Rattle.rules.specs.declared.Event.{Event}
use Rattle.rules.specs.Limits.{Limits, full, line_after, allowed}
use Rattle.rules.specs.Rules.{Accepted, refused}
use Rattle.trace.specs.Trace.{trailer_of, first_head, trace_of, head_in}
use Rattle.marking.specs.Marking.{lines_in, marked_of, past_of}

-- the head is over the limits: length, trailer and line 1 are right, and the counts are not allowed
pub record OverHead (m : Limits) (s : List ℕ) : Type 0 where
  pub at : ℕ
  pub few : length s ≤ full.bytes
  pub trailed : trailer_of s ≡ Some at
  pub counts : Counts
  pub right : first_head (take at s) ≡ Some counts
  pub over : allowed m counts ≡ false

-- the head is not, and the events are: behind as many accepted ones as are allowed the next line is an event too
pub record OverEvents (m : Limits) (s : List ℕ) : Type 0 where
  pub within : OverHead m s → ⊥
  pub earlier : List Event
  pub event : Event
  pub rest : List (Option Event)
  pub lines : lines_in full s ≡ map some earlier ++ (some event ∷ rest)
  pub count : length earlier ≡ m.events
  pub clean : T (Accepted full (head_in (trace_of full s)) (reverse earlier))

-- what is found, the verdict, and the events before it are those of the full limits
pub record MarkedAlike (m : Limits) (s : List ℕ) : Type 0 where
  pub trace : trace_of m s ≡ trace_of full s
  pub marked : marked_of m s ≡ marked_of full s
  pub past : past_of m s ≡ past_of full s

-- a paper by limits m: over them in its head, or in its events, and refused for it; or else as X says
pub data ByLimits (m : Limits) (s : List ℕ) (X : Type 0) : Type 0 where
  head : OverHead m s → marked_of m s ≡ refused m.excess 1 → ByLimits m s X
  events : OverEvents m s → marked_of m s ≡ refused m.excess (line_after (head_in (trace_of full s)) m.events) → ByLimits m s X
  other : X → ByLimits m s X
