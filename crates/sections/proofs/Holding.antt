-- What one event does to whether a thread holds something. After any list a hold is lost by the thread's own N or Y alone, and got by its own K or C
-- alone; one that the rules accept takes its lock.
use Prim.Native.Nat.{ℕ, zero, suc}
use native.Mathlib.Omega.{arith}
use mathlib.Core.Path.{◌≡◌, refl, sym, ◌∙◌, subst}
use mathlib.Core.Bool.{Bool, true, false, ◌&&◌, ◌||◌, and-false, true≢false}
use mathlib.Core.List.{List, [], ◌∷◌}
use lib.Dec.{T, ltb}
use borrow.Author.Tests.{lt-ltb, ltb-true}
use Rattle.rules.specs.declared.Event.{Event}
use Rattle.rules.specs.declared.Kind.{Kind}
use Rattle.rules.specs.declared.Kind.TheVariants.{Lock, Resume, Store, PrescientAssign, Write, PrescientStore, Wait, Read, Load, Use, Assign, Notify, Unlock}
use Rattle.rules.specs.declared.Counts.{Counts}
use Rattle.rules.specs.Events.{place, is, of, on, locks}
use Rattle.rules.specs.Words.{by, locks_by, grip_after, grip, depth, remembered}
use Rattle.rules.specs.Rules as Rules
use Rattle.rules.specs.Rules.{loc, words_of, held, judge}
use Rattle.rules.proofs.Laws.{is_true, and_left, resume_waits}
use Rattle.rules.proofs.Cells.{event_by}
use Rattle.rules.proofs.Held.{depth_keeps, depth_gains}
use Rattle.sections.specs.Places.{unlocks_by, holds_some}
use Rattle.sections.specs.Refusals.{after_unlock}
use Rattle.sections.proofs.Cells.{eqb_yes}

-- what is held in one list is held in the other
some_more : (n : ℕ) (f g : ℕ → Bool) → ((i : ℕ) → f i ≡ true → g i ≡ true) → Rules.some n f ≡ true → Rules.some n g ≡ true
unfolding Rules.some
some_more zero f g m h = h
some_more (suc n) f g m h = go (f n) (g n) (m n) h (some_more n f g m)
  where
    go : (a b : Bool) → (a ≡ true → b ≡ true) → (a || Rules.some n f) ≡ true → (Rules.some n f ≡ true → Rules.some n g ≡ true) → (b || Rules.some n g) ≡ true
    go a true k h r = refl
    go true false k h r = absurd (true≢false (sym (k refl)))
    go false false k h r = r h

module _ (h : Counts) (t : ℕ) (e : Event) (es : List Event) where
  pub keeps_held : unlocks_by t e ≡ false → holds_some h t es ≡ true → holds_some h t (e ∷ es) ≡ true
  unfolding holds_some words_of unlocks_by
  keeps_held n = some_more h.locks (λ l. ltb 0 (depth t l es)) (λ l. ltb 0 (depth t l (e ∷ es))) (λ l p. lt-ltb 0 (depth t l (e ∷ es)) (depth_keeps t l e es n (ltb-true 0 (depth t l es) p)))

  pub gains_none : locks_by t e ≡ false → holds_some h t (e ∷ es) ≡ true → holds_some h t es ≡ true
  unfolding holds_some words_of locks_by
  gains_none n = some_more h.locks (λ l. ltb 0 (depth t l (e ∷ es))) (λ l. ltb 0 (depth t l es)) (λ l p. lt-ltb 0 (depth t l es) (depth_gains t l e es n (ltb-true 0 (depth t l (e ∷ es)) p)))

  pub stays_idle : locks_by t e ≡ false → holds_some h t es ≡ false → holds_some h t (e ∷ es) ≡ false
  stays_idle n i = go (holds_some h t (e ∷ es)) refl
    where
      go : (b : Bool) → holds_some h t (e ∷ es) ≡ b → b ≡ false
      go true q = sym (gains_none n q) ∙ i
      go false q = refl

  pub same_holds : locks_by t e ≡ false → unlocks_by t e ≡ false → holds_some h t (e ∷ es) ≡ holds_some h t es
  same_holds n m = go (holds_some h t es) refl
    where
      go : (b : Bool) → holds_some h t es ≡ b → holds_some h t (e ∷ es) ≡ b
      go true q = keeps_held m q
      go false q = stays_idle n q

  -- who has done an N in its section holds something
  after_held : after_unlock h t es ≡ true → holds_some h t es ≡ true
  after_held a = go es a
    where
      left : (a b : Bool) → (a && b) ≡ true → a ≡ true
      left true b p = refl
      left false b p = p

      go : (es : List Event) → after_unlock h t es ≡ true → holds_some h t es ≡ true
      go [] a = absurd (true≢false (sym (unfold after_unlock in a)))
      go (d ∷ ds) a = left (holds_some h t (d ∷ ds)) (unlocks_by t d || after_unlock h t ds) (unfold after_unlock in a)

  -- an event that is no N or Y of the thread leaves whether it has done one in its section
  pub after_same : unlocks_by t e ≡ false → after_unlock h t (e ∷ es) ≡ after_unlock h t es
  unfolding after_unlock
  after_same n = rw n (go (after_unlock h t es) refl)
    where
      go : (b : Bool) → after_unlock h t es ≡ b → (holds_some h t (e ∷ es) && b) ≡ b
      go true q = rw (keeps_held n (after_held q))
      go false q = and-false (holds_some h t (e ∷ es))

-- ---- a K or C that the rules accept takes its lock

pub lock_taken_law : (h : Counts) (es : List Event) (e : Event) → judge h (words_of es) e ≡ 0 → locks e ≡ true → held (words_of (e ∷ es)) e.thread (loc e) ≡ true
unfolding words_of depth grip grip_after by is of on locks
lock_taken_law h es e j q = go e.kind j (subst T (sym q) tt)
  where
    u : ℕ
    u = e.thread

    go : (k : Kind) → judge h (words_of es) (event_by u e.line k) ≡ 0 → T (locks (event_by u e.line k)) → held (words_of (event_by u e.line k ∷ es)) u (place k) ≡ true
    go (Use _ _) j q = elim q [ ]
    go (Assign _ _) j q = elim q [ ]
    go (Load _ _) j q = elim q [ ]
    go (Store _ _) j q = elim q [ ]
    go (Read _ _) j q = elim q [ ]
    go (Write _ _) j q = elim q [ ]
    go (Unlock _) j q = elim q [ ]
    go (PrescientStore _ _) j q = elim q [ ]
    go (PrescientAssign _ _) j q = elim q [ ]
    go (Wait _) j q = elim q [ ]
    go (Notify _ _) j q = elim q [ ]
    go (Lock i) j q = rw (eqb_yes u u refl, eqb_yes i i refl) (lt-ltb 0 (suc (grip u i es).held) (omega arith))
    go (Resume i) j q = rw (eqb_yes u u refl, eqb_yes i i refl, waited, waited)
      where
        waited : ltb 0 (grip u i es).remembered ≡ true
        waited = unfold remembered in is_true (and_left (ltb 0 (remembered u i es)) ((words_of es).notified u i) (subst T (sym (resume_waits h (words_of es) (event_by u e.line (Resume i)) j tt)) tt))
