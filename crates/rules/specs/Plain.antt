-- The marking without the volatile rules of document 02 (f): no 26 to 28 in the rows, and each store with its own position. proofs/Plain.antt proves
-- that a trace without a `V` line is marked so, and that one accepted with a `V` line is accepted without it.
use Rattle.std.specs.Prelude.{ℕ, ◌≡◌, false, List, [], ◌∷◌, drop}
use Rattle.std.proofs.Math.Option.{Option}
use Rattle.rules.specs.declared.Event.{Event}
use Rattle.rules.specs.declared.Slot.{Slot}
use Rattle.rules.specs.declared.Counts.{Counts}
use Rattle.rules.specs.Events.{P, S, W, letter}
use Rattle.rules.specs.Limits.{Limits, full, full_with, value_width, volatile, with_flags, no_volatiles}
use Rattle.rules.specs.Words.{count, slot, in_order, by}
use Rattle.rules.specs.Rules.{Words, words_by, rows_behind, row_in, first_broken, answer_with, Marked, mark_by, past_by}

-- no variable is volatile
abbrev pub Plain : Counts → Type 0
Plain h = (v : ℕ) → volatile h v ≡ false

-- the same counts without the `V` line
abbrev pub without_volatiles : Counts → Counts
without_volatiles h = with_flags h no_volatiles

-- the full limits without a `V` line: what stands behind the guards are the events
abbrev pub full_plain : Limits
full_plain = full_with full.scratch value_width false

-- as `stores`, each with its own position
unfoldable pub plain_stores : ℕ → ℕ → List Event → List Slot
plain_stores t v es = drop (count (by (W ∷ []) t v) es) (in_order slot (by (S ∷ P ∷ []) t v) es)

unfoldable pub plain_words_of : List Event → Words
plain_words_of es = words_by plain_stores es

-- the first rule of its row that e breaks, where 29 and 30 alone lead the rows; 0 where it breaks none
unfoldable pub plain_judge : Counts → Words → Event → ℕ
plain_judge h w e = first_broken (row_in (rows_behind (29 ∷ 30 ∷ [])) (letter e.kind)) h w e

-- as `verdict`: 9 (25), 5, then the row
unfoldable pub plain_verdict : Limits → Counts → List Event → Event → ℕ
plain_verdict m h es e = answer_with m h (plain_words_of es) e (plain_judge h (plain_words_of es) e)

-- as `mark_read` and `past_read`
unfoldable pub mark_plain : Limits → Counts → List Event → List (Option Event) → Marked
mark_plain m h es rs = mark_by (plain_verdict m h) h es rs

unfoldable pub past_plain : Limits → Counts → List Event → List (Option Event) → List Event
past_plain m h es rs = past_by (plain_verdict m h) es rs
