-- Document 02 (c): the tail of a trace, over its bytes, and what is given of it.
use Rattle.std.specs.Prelude.{ℕ, min, ◌≤◌, ◌≡◌, Bool, false, cond, ◌||◌, List, [], ◌∷◌, map, ltb, ℤ, length, Result}
use Rattle.rules.specs.declared.Event.{Event}
use Rattle.rules.specs.Events.{C, F, Y, is}
use Rattle.rules.specs.Limits.{Limits, line_after, any_volatile}
use Rattle.rules.specs.Rules.{Marked, accepted, refused, answered, on_marked, refused_or}
use Rattle.decimal.specs.Text.{over}
use Rattle.records.specs.Records.{packed, value_in}
use Rattle.trace.specs.Trace.{head_in, trace_of}
use Rattle.marking.specs.Marking.{marked_of, past_of}
use Rattle.tails.specs.Tails.{tail_after}
use Rattle.finishing.specs.declared.Tail.{Tail}
use Rattle.rules.specs.declared.Refusal.{Refusal}

-- one of these events is a Y, F or C
unfoldable pub some_new : List Event → Bool
some_new [] = false
some_new (e ∷ es) = is (Y ∷ F ∷ C ∷ []) e || some_new es

-- A tail for a paper with a `V` line is refused with 24; so is a tail for papers with Y, F or C.
unfoldable pub tailless : Limits → List ℕ → Bool
tailless m s = any_volatile (head_in (trace_of m s)) || some_new (past_of m s)

-- Events after which nothing is outstanding, fresh, owed or held, each with the line that it would have in the paper.
unfoldable pub tail_of : Limits → List ℕ → List Event
tail_of m s = tail_after (head_in (trace_of m s)) (past_of m s)

-- A refused paper gives its own refusal. 24 (line 0): too few records for the tail, of so many that are lent.
unfoldable pub tail_verdict : Limits → List ℕ → ℕ → Marked
tail_verdict m s places = refused_or (marked_of m s) (cond (tailless m s || ltb places (length (tail_of m s))) (refused 24 0) accepted)

-- what a tail is given for: an accepted trace that has one, and so many places for it
pub record HasTail (m : Limits) (s : List ℕ) (places : ℕ) : Type 0 where
  pub accepts : marked_of m s ≡ accepted
  pub tails : tailless m s ≡ false
  pub room : length (tail_of m s) ≤ places

-- each case of the answer: how many events the tail has, and the line of the first; or number and line of the refusal
abbrev pub answer_of : Marked → ℕ → ℕ → Result Tail Refusal
answer_of v n line = answered v (record { events = n; line = line })

-- What is given of the tail of a trace: all of it or none, and before that nothing is written. Places past the tail stay untouched.
pub record Gives (m : Limits) (s whats : List ℕ) (values : List ℤ) (r : Result Tail Refusal) (whats' : List ℕ) (values' : List ℤ) : Type 0 where
  pub answers : r ≡ answer_of (tail_verdict m s (min (length whats) (length values))) (length (tail_of m s)) (line_after (head_in (trace_of m s)) (length (past_of m s)))
  pub fills : whats' ≡ on_marked (tail_verdict m s (min (length whats) (length values))) (over (map packed (tail_of m s)) whats) whats
  pub beside : values' ≡ on_marked (tail_verdict m s (min (length whats) (length values))) (over (map value_in (tail_of m s)) values) values
