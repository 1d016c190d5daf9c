-- Document 02 (g): "Old papers whose values all lie within 32 bits give their old verdicts; a paper refused with 4 for a value within 64 bits is now
-- marked by its events."
use Rattle.std.specs.Prelude.{ℕ, suc, ◌≡◌, false, List, ◌∷◌, ◌++◌, map, reverse, T, length, take}
use Rattle.std.proofs.Math.Option.{Option, some}
use Rattle.rules.specs.declared.Event.{Event}
use Rattle.rules.specs.Events.{value}
use Rattle.rules.specs.Limits.{full, line_after}
use Rattle.rules.specs.Rules.{Accepted, refused, verdict, unless, mark_read, passing, past_read}
use Rattle.rules.specs.Widths.{narrow, fits, AllWithin}
use Rattle.trace.specs.Trace.{trace_of, head_in}
use Rattle.marking.specs.Marking.{lines_in, marked_of, past_of, events_in}
use Rattle.marking.specs.Courses.{MarkedAlike}

-- the values of the lines that are marked, up to the one that is refused, lie within 32 bits
abbrev pub MarkedWithin : List ℕ → Type 0
MarkedWithin s = AllWithin narrow.width (take (suc (length (past_of full s))) (lines_in full s))

-- What is marked lies within 32 bits, and the verdict and the events before it are those that values of 32 bits give.
pub record SameMarked (s : List ℕ) : Type 0 where
  pub fitting : MarkedWithin s
  pub alike : MarkedAlike narrow s

-- With values of 32 bits the paper is refused with 4 at its first line that is an event with a value outside 32 bits. The events before it are
-- accepted, and with values of 64 bits the paper is marked by its events from that line on.
pub record Widened (s : List ℕ) : Type 0 where
  pub earlier : List Event
  pub event : Event
  pub rest : List (Option Event)
  pub line : ℕ
  pub lines : lines_in full s ≡ map some earlier ++ (some event ∷ rest)
  pub line_is : line ≡ line_after (head_in (trace_of full s)) (length earlier)
  pub fitting : AllWithin narrow.width (map some earlier)
  pub clean : T (Accepted full (head_in (trace_of full s)) (reverse earlier))
  pub outside : fits narrow.width (value event.kind) ≡ false
  pub narrow_marked : marked_of narrow s ≡ refused 4 line
  pub before : events_in narrow s ≡ earlier
  pub marked : marked_of full s ≡ unless (verdict full (head_in (trace_of full s)) (reverse earlier) event) line (mark_read full (head_in (trace_of full s)) (event ∷ reverse earlier) rest)
  pub past : past_of full s ≡ passing (verdict full (head_in (trace_of full s)) (reverse earlier) event) (reverse earlier) (past_read full (head_in (trace_of full s)) (event ∷ reverse earlier) rest)
