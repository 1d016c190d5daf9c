-- The refusals 20 to 22 computed, over the list of earlier events, the latest first. What they say is stated in `Denials`.
use Rattle.std.specs.Prelude.{ℕ, Bool, false, not, cond, ◌&&◌, ◌||◌, List, [], ◌∷◌, length}
use Rattle.rules.specs.declared.Event.{Event}
use Rattle.rules.specs.declared.Counts.{Counts}
use Rattle.rules.specs.Events.{locks}
use Rattle.rules.specs.Limits.{line_after}
use Rattle.rules.specs.Words.{pending}
use Rattle.rules.specs.Rules.{some, loc, words_of, held, waits}
use Rattle.sections.specs.Places.{uses_or_assigns, unlocks_by, holds_some}
use Rattle.sections.specs.Denials.{Denial, fit, denied}

-- T is in a section, and has done an N or Y in it
unfoldable pub after_unlock : Counts → ℕ → List Event → Bool
after_unlock h t [] = false
after_unlock h t (e ∷ es) = holds_some h t (e ∷ es) && (unlocks_by t e || after_unlock h t es)

-- 20. Use or assign (U, A, B) not under its variable's guard.
unfoldable pub not_under : (ℕ → ℕ) → List Event → Event → Bool
not_under guard es e = uses_or_assigns e && not (held (words_of es) e.thread (guard (loc e)))

-- 21. K by a thread after an N in the same section; C and Y count as these.
unfoldable pub late_lock : Counts → List Event → Event → Bool
late_lock h es e = locks e && after_unlock h e.thread es

-- 22. At the end a lock is held or an assign owed, or a thread is still waiting.
unfoldable pub unfinished : Counts → List Event → Bool
unfinished h es = some h.threads (λ t. holds_some h t es || (some h.variables (λ v. pending t v es) || waits h (words_of es) t))

-- 20 and 21 event by event, 22 last, at the trailer's line. The events es are earlier, the latest first
unfoldable pub denial_from : Counts → (ℕ → ℕ) → List Event → List Event → Denial
denial_from h guard es [] = cond (unfinished h es) (denied 22 (line_after h (length es))) fit
denial_from h guard es (e ∷ rest) =
    let d = denial_from h guard (e ∷ es) rest in
    cond (not_under guard es e) (denied 20 (line_after h (length es))) (cond (late_lock h es e) (denied 21 (line_after h (length es))) d)

unfoldable pub denial : Counts → (ℕ → ℕ) → List Event → Denial
denial h guard events = denial_from h guard [] events
