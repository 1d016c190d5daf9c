-- 20 to 22 and the order before waiting and notification: K alone locks and N alone unlocks, and nobody waits. proofs/Ten.antt proves that a list of events
-- without Y, F and C is denied and ordered so.
use Rattle.std.specs.Prelude.{ℕ, suc, Bool, false, not, cond, ◌&&◌, ◌||◌, List, [], ◌∷◌, map, reverse, ℤ, length}
use Rattle.rules.specs.declared.Event.{Event}
use Rattle.rules.specs.declared.Counts.{Counts}
use Rattle.rules.specs.Events.{K, N, is, of}
use Rattle.rules.specs.Limits.{line_after}
use Rattle.rules.specs.Words.{pending}
use Rattle.rules.specs.Rules.{some, loc, held}
use Rattle.rules.specs.Ten.{ten_words_of}
use Rattle.serial.specs.Sections.{Section, next}
use Rattle.sections.specs.View.{view}
use Rattle.sections.specs.Places.{uses_or_assigns}
use Rattle.sections.specs.CriticalSections.{Entry}
use Rattle.sections.specs.Denials.{Denial, fit, denied}
use Rattle.sections.specs.Order.{told, entry}

-- T holds something: a declared lock
unfoldable pub ten_holds_some : Counts → ℕ → List Event → Bool
ten_holds_some h t es = some h.locks (λ l. held (ten_words_of es) t l)

-- T is in a section, and has done an N in it
unfoldable pub ten_after_unlock : Counts → ℕ → List Event → Bool
ten_after_unlock h t [] = false
ten_after_unlock h t (e ∷ es) = ten_holds_some h t (e ∷ es) && (is (N ∷ []) e && of t e || ten_after_unlock h t es)

-- 20. Use or assign (U, A, B) not under its variable's guard.
unfoldable pub ten_not_under : (ℕ → ℕ) → List Event → Event → Bool
ten_not_under guard es e = uses_or_assigns e && not (held (ten_words_of es) e.thread (guard (loc e)))

-- 21. K by a thread after an N in the same section.
unfoldable pub ten_late_lock : Counts → List Event → Event → Bool
ten_late_lock h es e = is (K ∷ []) e && ten_after_unlock h e.thread es

-- 22. At the end a lock is held or an assign owed.
unfoldable pub ten_unfinished : Counts → List Event → Bool
ten_unfinished h es = some h.threads (λ t. ten_holds_some h t es || some h.variables (λ v. pending t v es))

-- as `denial_from`: 20 and 21 event by event, 22 last
unfoldable pub ten_denial_from : Counts → (ℕ → ℕ) → List Event → List Event → Denial
ten_denial_from h guard es [] = cond (ten_unfinished h es) (denied 22 (line_after h (length es))) fit
ten_denial_from h guard es (e ∷ rest) =
    let d = ten_denial_from h guard (e ∷ es) rest in
    cond (ten_not_under guard es e) (denied 20 (line_after h (length es))) (cond (ten_late_lock h es e) (denied 21 (line_after h (length es))) d)

unfoldable pub ten_denial : Counts → (ℕ → ℕ) → List Event → Denial
ten_denial h guard events = ten_denial_from h guard [] events

-- as `sections` and `order`
unfoldable pub ten_sections : Counts → List Event → List (Section ℤ)
ten_sections h [] = []
ten_sections h (e ∷ es) = next (view e) (told (ten_holds_some h e.thread es)) (suc (length es)) (ten_sections h es)

unfoldable pub ten_order : Counts → List Event → List Entry
ten_order h events = map (entry h) (reverse (ten_sections h (reverse events)))
