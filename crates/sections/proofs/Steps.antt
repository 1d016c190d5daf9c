-- What one event does to what a thread holds, and to the thread's sections in the scan's list.
use Prim.Native.Nat.{ℕ, zero, suc, ◌≤◌, ◌<◌}
use native.Mathlib.Decide.{ℕ_discrete}
use native.Mathlib.Omega.{arith}
use mathlib.Core.Path.{◌≡◌, refl, sym, ap, ◌∙◌, subst}
use mathlib.Core.Bool.{Bool, true, false, ◌&&◌, and-false}
use mathlib.Core.List.{List, [], ◌∷◌, reverse}
use lib.Dec.{T, eqb, eqb→eq}
use lib.IntN.{ℤ}
use lib.ListN.{length}
use borrow.Author.Tests.{eq-eqb, ne_eqb}
use Rattle.rules.specs.declared.Event.{Event}
use Rattle.rules.specs.declared.Kind.{Kind}
use Rattle.rules.specs.declared.Counts.{Counts}
use Rattle.rules.specs.Events.{C, K, N, Y, place, is, of, locks, unlocks}
use Rattle.rules.specs.Words.{locks_by, grip, depth}
use Rattle.rules.specs.Rules as Rules
use Rattle.rules.specs.Rules.{loc, words_of, held}
use Rattle.rules.proofs.Laws.{is_true, and_left, and_right, is_apart}
use Rattle.rules.proofs.Cells.{event_by}
use Rattle.serial.specs.Events as E
use Rattle.serial.specs.Lists.{All}
use Rattle.serial.specs.Sections as Q
use Rattle.sections.specs.View.{viewed, view}
use Rattle.sections.specs.Order.{told, sections}
use Rattle.sections.specs.Places.{so_far, unlocks_by, holds_some}
use Rattle.sections.proofs.Valid.{Valid, row, Declared}
use Rattle.sections.proofs.Whole.{from_held}
use Rattle.sections.proofs.Viewed.{Viewed, mem, lock, unlock, idle, on_variable, memory, idling, facts, seen, whose}
use Rattle.sections.proofs.Ordered.{busy_some}
use Rattle.sections.proofs.Holding.{keeps_held, stays_idle, lock_taken_law}
use Rattle.sections.proofs.Places.{locks_at, unlocks_at, holds_then, Here, at_place, length_so_far, all_so_far, valid_so_far, lock_signal, unlock_signal, holds_more}
use Rattle.serial.proofs.Stacks.{own, grow, own_push, own_next_other, own_next_lock, own_next_open}
use Rattle.serial.proofs.Signals.{Step, Stack, none_yet, other_busy, out, opening, raising, going}

not_both : (u : ℕ) (e : Event) → locks_by u e ≡ true → unlocks_by u e ≡ false
unfolding locks_by unlocks_by locks unlocks
not_both u e q = rw (is_apart (K ∷ C ∷ []) (N ∷ Y ∷ []) e tt (and_left (is (K ∷ C ∷ []) e) (of u e) (subst T (sym q) tt)))

none_held : (n : ℕ) (t : ℕ) → Rules.some n (λ l. Rules.held (words_of []) t l) ≡ false
unfolding Rules.some words_of depth grip
none_held zero t = refl
none_held (suc n) t = none_held n t

pub idle_start : (h : Counts) (t : ℕ) (events : List Event) → holds_then h t events 0 ≡ false
unfolding holds_then so_far holds_some
idle_start h t events = none_held h.locks t

module _ (c : Counts) (events : List Event) (d : All (Declared c) events) (a : Valid c (reverse events)) where
  pub steps : (u n : ℕ) → n < length events → Step (locks_at u events) (unlocks_at u events) (holds_then c u events) n
  steps u n h = record { lock_holds = lock_holds; idle_keeps = idle_keeps; busy_keeps = busy_keeps; apart = apart }
    where
      at : Here (Declared c) events n
      at = at_place (Declared c) events n d h

      e : Event
      e = at.event

      es : List Event
      es = so_far n events

      before : All (Declared c) es
      before = all_so_far (Declared c) n events d

      both : All (Declared c) (e ∷ es)
      both = (at.good, before)

      now : holds_then c u events (suc n) ≡ holds_some c u (e ∷ es)
      now = holds_more c u (suc n) events (e ∷ es) at.more

      was : holds_then c u events n ≡ holds_some c u es
      was = holds_more c u n events es refl

      l_sig : locks_at u events (suc n) ≡ locks_by u e
      l_sig = lock_signal u (suc n) events e at.stands

      u_sig : unlocks_at u events (suc n) ≡ unlocks_by u e
      u_sig = unlock_signal u (suc n) events e at.stands

      lock_holds : locks_at u events (suc n) ≡ true → holds_then c u events (suc n) ≡ true
      lock_holds k =
          now ∙ busy_some c u (loc e) (e ∷ es) both
          (from_held u (loc e) (e ∷ es)
          (subst (λ t. held (words_of (e ∷ es)) t (loc e) ≡ true) mine (lock_taken_law c es e (row c e es valid) (is_true (and_left (locks e) (of u e) here)))))
        where
          here : T (locks e && of u e)
          here = unfold locks_by in subst T (sym (sym l_sig ∙ k)) tt

          mine : e.thread ≡ u
          mine = unfold of in eqb→eq e.thread u (and_right (locks e) (of u e) here)

          valid : Valid c (e ∷ es)
          valid = subst (λ l. Valid c l) at.more (valid_so_far c (suc n) events a)

      idle_keeps : holds_then c u events n ≡ false → locks_at u events (suc n) ≡ false → holds_then c u events (suc n) ≡ false
      idle_keeps i k = now ∙ stays_idle c u e es (sym l_sig ∙ k) (sym was ∙ i)

      busy_keeps : holds_then c u events n ≡ true → unlocks_at u events (suc n) ≡ false → holds_then c u events (suc n) ≡ true
      busy_keeps i k = now ∙ keeps_held c u e es (sym u_sig ∙ k) (sym was ∙ i)

      apart : locks_at u events (suc n) ≡ true → unlocks_at u events (suc n) ≡ false
      apart k = u_sig ∙ not_both u e (sym l_sig ∙ k)

-- ---- one event of the scan

module _ (L F G : ℕ → Bool) (n : ℕ) (f : Step L F G n) where
  calm : (l : List (Q.Section ℤ)) → L (suc n) ≡ false → F (suc n) ≡ false → (b : Bool) → G n ≡ b → Stack L F G b n l → Stack L F G (G (suc n)) (suc n) l
  calm l k v true q st = rw (f.busy_keeps q v) (other_busy L F G n f l q k v st)
  calm l k v false q st = rw (f.idle_keeps q k) (out L F G n f l q st)

  module _ (u : ℕ) (ss : List (Q.Section ℤ)) where
    plainly : (x : E.Event ℤ) → own u (Q.next x (told true) (suc n) ss) ≡ grow u (suc n) x (own u ss) → Q.next x (told false) (suc n) ss ≡ ss
        → L (suc n) ≡ false → (b : Bool) → G n ≡ b → Stack L F G b n (own u ss) → Stack L F G (G (suc n)) (suc n) (own u (Q.next x (told b) (suc n) ss))
    plainly x p q k true g st = rw p (going L F G n f u x (own u ss) k g st)
    plainly x p q k false g st = rw (q, f.idle_keeps g k) (out L F G n f (own u ss) g st)

    locked : (j l : ℕ) → L (suc n) ≡ true → (b : Bool) → G n ≡ b → Stack L F G b n (own u ss) → Stack L F G (G (suc n)) (suc n) (own u (Q.next (E.lock j u l) (told b) (suc n) ss))
    locked j l k true g st = rw (own_next_lock {B = T true} j u l (tt {0}) (suc n) ss, f.lock_holds k) (raising L F G n f u (E.lock j u l) (own u ss) k st)
    locked j l k false g st = rw (own_next_open {B = T false} j u l (λ t. t) (suc n) ss, f.lock_holds k) (opening L F G n f u (E.lock j u l) (own u ss) g k st)

    mine : (ln : ℕ) {k : Kind} {x : E.Event ℤ} → Viewed u k x → L (suc n) ≡ locks (event_by u ln k) → (b : Bool) → G n ≡ b → Stack L F G b n (own u ss)
        → Stack L F G (G (suc n)) (suc n) (own u (Q.next x (told b) (suc n) ss))
    unfolding locks is Q.next
    mine ln {x = x} (mem κ v y) q b g st = plainly x (own_push u (suc n) x ss) refl (q ∙ is_apart memory (K ∷ C ∷ []) (event_by u ln (on_variable κ v y)) tt (facts κ v y).has) b g st
    mine ln {k} (lock j a i) q b g st = locked j (place k) (q ∙ is_true a) b g st
    mine ln {k} {x} (unlock j a i) q b g st = plainly x (own_push u (suc n) x ss) refl (q ∙ is_apart (N ∷ Y ∷ []) (K ∷ C ∷ []) (event_by u ln k) tt a) b g st
    mine ln {k} {x} (idle a) q b g st = plainly x (own_push u (suc n) x ss) refl (q ∙ is_apart idling (K ∷ C ∷ []) (event_by u ln k) tt a) b g st

    and_yes : (a b : Bool) → b ≡ true → (a && b) ≡ a
    and_yes true b h = h
    and_yes false b h = refl

    -- one more event; b: its thread holds something before it
    pub one_more : (e : Event) (b : Bool) → L (suc n) ≡ locks_by u e → F (suc n) ≡ unlocks_by u e → (e.thread ≡ u → G n ≡ b)
        → Stack L F G (G n) n (own u ss) → Stack L F G (G (suc n)) (suc n) (own u (Q.next (view e) (told b) (suc n) ss))
    unfolding locks_by unlocks_by of
    one_more e b k v g st = see (ℕ_discrete e.thread u)
      where
        see : Dec (e.thread ≡ u) → Stack L F G (G (suc n)) (suc n) (own u (Q.next (view e) (told b) (suc n) ss))
        see (no o) =
            rw (own_next_other u (view e) (told b) (suc n) ss (λ p. o (sym (whose e.kind e.thread) ∙ p)))
            (calm (own u ss) (k ∙ rw (ne_eqb e.thread u o) (and-false (locks e))) (v ∙ rw (ne_eqb e.thread u o) (and-false (unlocks e))) (G n) refl st)
        see (yes p) =
            subst (λ w. Stack L F G (G (suc n)) (suc n) (own u (Q.next (viewed w e.kind) (told b) (suc n) ss))) (sym p)
            (mine e.line (seen u e.kind) (k ∙ and_yes (locks e) (eqb e.thread u) (eq-eqb e.thread u p) ∙ unfold locks is in refl) b (g p) (subst (λ c. Stack L F G c n (own u ss)) (g p) st))

module _ (c : Counts) (events : List Event) (d : All (Declared c) events) (a : Valid c (reverse events)) where
  -- u's sections in the scan's list, after the first n events
  pub stack : (u n : ℕ) → n ≤ length events → Stack (locks_at u events) (unlocks_at u events) (holds_then c u events) (holds_then c u events n) n (own u (sections c (so_far n events)))
  stack u zero h = rw (idle_start c u events) (unfold so_far sections own in none_yet (locks_at u events) (unlocks_at u events) (holds_then c u events))
  stack u (suc n) h = go (stack u n (omega arith))
    where
      at : Here (Declared c) events n
      at = at_place (Declared c) events n d (omega arith)

      scan : sections c (at.event ∷ so_far n events) ≡ Q.next (view at.event) (told (holds_some c at.event.thread (so_far n events))) (suc n) (sections c (so_far n events))
      scan = unfold sections in rw (length_so_far n events (omega arith))

      go : Stack (locks_at u events) (unlocks_at u events) (holds_then c u events) (holds_then c u events n) n (own u (sections c (so_far n events)))
          → Stack (locks_at u events) (unlocks_at u events) (holds_then c u events) (holds_then c u events (suc n)) (suc n) (own u (sections c (so_far (suc n) events)))
      go st =
          rw (at.more, scan)
          (one_more (locks_at u events) (unlocks_at u events) (holds_then c u events) n (steps c events d a u n (omega arith)) u (sections c (so_far n events)) at.event (holds_some c at.event.thread (so_far n events))
          (lock_signal u (suc n) events at.event at.stands) (unlock_signal u (suc n) events at.event at.stands)
          (λ p. holds_more c u n events (so_far n events) refl ∙ ap (λ t. holds_some c t (so_far n events)) (sym p)) st)
