-- Document 02 (d), what 16 at N, and so at Y, is for: "only an assign already made must reach main memory before the unlock"; and the marking with 16 at N as
-- document 01 has it. proofs/PrescientStores.antt proves that N's test is this, and that no other verdict changes.
use Rattle.std.specs.Prelude.{ℕ, Bool, false, not, cond, ◌&&◌, ◌||◌, List, [], ◌∷◌, eqb}
use Rattle.std.proofs.Math.Option.{Option}
use Rattle.rules.specs.declared.Event.{Event}
use Rattle.rules.specs.declared.Slot.{Slot}
use Rattle.rules.specs.declared.Counts.{Counts}
use Rattle.rules.specs.Events.{P, unlocks}
use Rattle.rules.specs.Limits.{Limits}
use Rattle.rules.specs.Words.{last_at, by, stores, pending, announced}
use Rattle.rules.specs.Rules.{Words, words_of, none?, on_some, breaks, judge, answer_with, Marked, mark_by, past_by}

-- the store of T's latest P on V
unfoldable pub prescient_store : ℕ → ℕ → List Event → Slot
prescient_store t v es = record { value = announced t v es; position = last_at (by (P ∷ []) t v) es }

-- a store of T on V whose assign is owed: that of the latest P, while V is owed
unfoldable pub assign_pending : ℕ → ℕ → List Event → Slot → Bool
assign_pending t v es s = pending t v es && eqb s.position (prescient_store t v es).position

-- one of these stores of T on V has its assign made
unfoldable pub some_made : ℕ → ℕ → List Event → List Slot → Bool
some_made t v es [] = false
some_made t v es (s ∷ ss) = not (assign_pending t v es s) || some_made t v es ss

-- T has an outstanding store on V whose assign is made
unfoldable pub made_unwritten : ℕ → ℕ → List Event → Bool
made_unwritten t v es = some_made t v es (stores t v es)

-- ---- 16 at N, and so at Y, as document 01 has it

-- The first rule of its row that e breaks, 0 where it breaks none; 16 at N by document 01: "N while T has an outstanding store. The syllabus counts
-- an early store here like the others." (Of the numbers that lead a row N and Y can break 29 alone.)
unfoldable pub judge_strict : Counts → Words → Event → ℕ
judge_strict h w e =
    cond (unlocks e)
    (cond (breaks 29 h w e) 29 (cond (breaks 12 h w e) 12 (cond (breaks 15 h w e) 15 (cond (on_some h (λ t v. not (none? (w.stores t v))) e) 16 0))))
    (judge h w e)

-- as `verdict`: 9 (25), 5, then the row
unfoldable pub verdict_strict : Limits → Counts → List Event → Event → ℕ
verdict_strict m h es e = answer_with m h (words_of es) e (judge_strict h (words_of es) e)

-- as `mark_read` and `past_read`
unfoldable pub mark_strict : Limits → Counts → List Event → List (Option Event) → Marked
mark_strict m h es rs = mark_by (verdict_strict m h) h es rs

unfoldable pub past_strict : Limits → Counts → List Event → List (Option Event) → List Event
past_strict m h es rs = past_by (verdict_strict m h) es rs
