-- The marking of two rows of plain numbers, which hold the records of a trace.
use Rattle.std.specs.Prelude.{ℕ, ◌≡◌, cond, List, [], eqb, ℤ, length, Result, IfOk}
use Rattle.rules.specs.declared.Counts.{Counts}
use Rattle.rules.specs.declared.Event.{Event}
use Rattle.rules.specs.declared.Memories.{Memories}
use Rattle.rules.specs.declared.Refusal.{Refusal}
use Rattle.rules.specs.Limits.{Limits, full, allowed}
use Rattle.rules.specs.Rules.{words_of, Marked, refused, told, mark_read, past_read}
use Rattle.rules.specs.Memories.{memories_of}
use Rattle.records.specs.Records.{row_lines}

-- 7 where fewer values than events are lent, or more; 3 for counts that no head may have; then line by line 4, 9, 5 and the row
unfoldable pub row_marked : Limits → Counts → List ℕ → List ℤ → Marked
row_marked m h ws xs = cond (eqb (length xs) (length ws)) (cond (allowed m h) (mark_read m h [] (row_lines h ws xs)) (refused 3 1)) (refused 7 0)

-- the events before the first refusal, the latest first
unfoldable pub row_past : Limits → Counts → List ℕ → List ℤ → List Event
row_past m h ws xs = past_read m h [] (row_lines h ws xs)

-- A refusal gives number and line and nothing else.
pub record MarksRow (h : Counts) (ws : List ℕ) (xs : List ℤ) (r : Result Memories Refusal) : Type 0 where
  pub says : told r ≡ row_marked full h ws xs
  pub holds : IfOk r (λ m. m ≡ memories_of (words_of (row_past full h ws xs)))
