-- Document 02 (i): a whole paper marked before waiting and notification, when a line with the letter Y, F or C was no event. proofs/Ten.antt proves what the
-- request changes.
use Rattle.std.specs.Prelude.{ℕ, suc, ◌≡◌, false, List, [], ◌∷◌, ◌++◌, map, reverse, T, length, take}
use Rattle.std.proofs.Math.Option.{Option, some}
use Rattle.rules.specs.declared.Event.{Event}
use Rattle.rules.specs.Limits.{full, line_after}
use Rattle.rules.specs.Rules.{Marked, Accepted, refused, told, refused_or, verdict, unless, mark_read}
use Rattle.rules.specs.Ten.{is_ten, ten_line, AllTen, mark_ten, past_ten}
use Rattle.trace.specs.Trace.{trace_of, head_in}
use Rattle.marking.specs.Marking.{lines_in, marked_of, past_of}

-- as `marked_of` and `past_of`
unfoldable pub ten_of : List ℕ → Marked
ten_of s = refused_or (told (trace_of full s)) (mark_ten full (head_in (trace_of full s)) [] (map ten_line (lines_in full s)))

unfoldable pub past_ten_of : List ℕ → List Event
past_ten_of s = past_ten full (head_in (trace_of full s)) [] (map ten_line (lines_in full s))

-- The lines that are marked, up to the one that is refused, are without Y, F and C, and the verdict and the events before it are those that they were.
pub record SameTen (s : List ℕ) : Type 0 where
  pub fitting : AllTen (take (suc (length (past_of full s))) (lines_in full s))
  pub marked : ten_of s ≡ marked_of full s
  pub past : past_ten_of s ≡ past_of full s

-- The paper was refused with 4 at its first line that is a Y, F or C. The events before it are accepted, and the paper is marked by its events from that
-- line on.
pub record NewKind (s : List ℕ) : Type 0 where
  pub earlier : List Event
  pub event : Event
  pub rest : List (Option Event)
  pub line : ℕ
  pub lines : lines_in full s ≡ map some earlier ++ (some event ∷ rest)
  pub line_is : line ≡ line_after (head_in (trace_of full s)) (length earlier)
  pub clean : T (Accepted full (head_in (trace_of full s)) (reverse earlier))
  pub new : is_ten event ≡ false
  pub ten_marked : ten_of s ≡ refused 4 line
  pub marked : marked_of full s ≡ unless (verdict full (head_in (trace_of full s)) (reverse earlier) event) line (mark_read full (head_in (trace_of full s)) (event ∷ reverse earlier) rest)
