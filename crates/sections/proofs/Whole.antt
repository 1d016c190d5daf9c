-- Demand 3 from the rules' own acceptance.
use Prim.Native.Nat.{ℕ, zero, suc, ◌+◌, ◌<◌}
use native.Mathlib.Decide.{ℕ_discrete, dec_lt}
use native.Mathlib.Omega.{arith}
use mathlib.Core.Path.{◌≡◌, refl, sym, ap, ◌∙◌, subst}
use mathlib.Core.Bool.{Bool, true, false, not, cond, ◌&&◌, and-false, true≢false}
use mathlib.Core.List.{List, [], ◌∷◌, map}
use lib.Dec.{T, eqb, eqb→eq}
use lib.IntN.{ℤ, pos}
use borrow.Author.Tests.{eqb-true, lt-ltb, ltb-true}
use Rattle.rules.specs.declared.Event.{Event}
use Rattle.rules.specs.declared.Kind.{Kind}
use Rattle.rules.specs.Events.{place, is, of, on, lock_letters, on_lock, locks}
use Rattle.rules.specs.declared.Counts.{Counts}
use Rattle.rules.specs.Words.{by, Grip, grip_after, grip, depth, remembered}
use Rattle.rules.specs.Rules.{Words, words_of, loc, held, waits_on, judge}
use Rattle.rules.proofs.Laws.{cases, is_true, is_among, is_apart, lock_free, some_none}
use Rattle.rules.proofs.Held.{gripping, grip_kept}
use Rattle.rules.proofs.Cells.{event_by}
use Rattle.serial.specs.Words as C
use Rattle.serial.specs.Events as E
use Rattle.serial.specs.Sections as Q
use Rattle.serial.proofs.Counted as H
use Rattle.serial.specs.Lists.{All}
use Rattle.sections.specs.View.{view}
use Rattle.sections.proofs.Valid.{Valid, before, row, Declared, lock_low}
use Rattle.sections.proofs.Viewed.{Viewed, mem, lock, unlock, idle, on_variable, memory, idling, facts, seen, locking}
use Rattle.sections.proofs.Cells.{cells, mains, eqb_yes, eqb_no}
use Rattle.sections.proofs.Judged.{allowed}

-- the rows hold, as the theory words them
pub accepted : (h : Counts) (v : ℕ) → v < h.variables → (es : List Event) → Valid h es → C.Accepted (pos 0) v (map view es)
unfolding C.Accepted
accepted h v b [] a = tt
accepted h v b (e ∷ es) a = (here, accepted h v b es (before h e es a))
  where
    here : (t : ℕ) → C.Allowed (C.act t v (view e)) (C.cell (pos 0) t v (map view es)) (C.main (pos 0) v (map view es))
    here t = rw (cells h t v es (before h e es a), mains h v es (before h e es a)) (allowed h (words_of es) e.thread e.line (seen e.thread e.kind) (row h e es a) t v b)

-- ---- the locks: what a thread has of a lock, in the theory's terms and in the rules'

where_cond : {X : Type 0} (u t i l : ℕ) (x g : X) → H.where_both (ℕ_discrete u t) (ℕ_discrete i l) x g ≡ cond (eqb u t && eqb i l) x g
where_cond u t i l x g = go (ℕ_discrete u t) (ℕ_discrete i l)
  where
    go : (d : Dec (u ≡ t)) (d' : Dec (i ≡ l)) → H.where_both d d' x g ≡ cond (eqb u t && eqb i l) x g
    go (yes p) (yes q) = rw (eqb_yes u t p, eqb_yes i l q)
    go (yes p) (no q) = rw (eqb_yes u t p, eqb_no i l q)
    go (no p) (yes q) = rw (eqb_no u t p)
    go (no p) (no q) = rw (eqb_no u t p)

abbrev grip_of : Grip → H.Grip
grip_of g = record { held = g.held; remembered = g.remembered }

one_grip : (t l : ℕ) (es : List (E.Event ℤ)) (g : Grip) → H.grip t l es ≡ grip_of g → (u ln : ℕ) {k : Kind} {x : E.Event ℤ} → Viewed u k x
    → H.grip t l (x ∷ es) ≡ grip_of (grip_after t l (event_by u ln k) g)
unfolding H.grip grip_after by is of on
one_grip t l es g h u ln (mem κ v y) = let e = event_by u ln (on_variable κ v y) in h ∙ ap grip_of (sym (grip_kept t l e g (rw (is_apart memory gripping e tt (facts κ v y).has))))
one_grip t l es g h u ln {k} (idle a) = let e = event_by u ln k in h ∙ ap grip_of (sym (grip_kept t l e g (rw (is_apart idling gripping e tt a))))
one_grip t l es g h u ln {k} (lock zero a i) = where_cond u t (place k) l (H.gained 0 (H.grip t l es)) (H.grip t l es) ∙ cases (eqb u t && eqb (place k) l) (λ q. rw (i, q) (ap (H.gained 0) h)) (λ q. rw (i, q) h)
one_grip t l es g h u ln {k} (lock (suc j) a i) = where_cond u t (place k) l (H.gained 1 (H.grip t l es)) (H.grip t l es) ∙ cases (eqb u t && eqb (place k) l) (λ q. rw (i, q) (ap (H.gained 1) h)) (λ q. rw (i, q) h)
one_grip t l es g h u ln {k} (unlock zero a i) = where_cond u t (place k) l (H.given_up 0 (H.grip t l es)) (H.grip t l es) ∙ cases (eqb u t && eqb (place k) l) (λ q. rw (i, q) (ap (H.given_up 0) h)) (λ q. rw (i, q) h)
one_grip t l es g h u ln {k} (unlock (suc j) a i) = where_cond u t (place k) l (H.given_up 1 (H.grip t l es)) (H.grip t l es) ∙ cases (eqb u t && eqb (place k) l) (λ q. rw (i, q) (ap (H.given_up 1) h)) (λ q. rw (i, q) h)

pub grips : (t l : ℕ) (es : List Event) → H.grip t l (map view es) ≡ grip_of (grip t l es)
unfolding grip
grips t l [] = unfold H.grip in refl
grips t l (e ∷ es) = one_grip t l (map view es) (grip t l es) (grips t l es) e.thread e.line (seen e.thread e.kind)

-- Held, in the theory's terms and in the rules'
pub to_held : (t l : ℕ) (es : List Event) → H.Holds t l (map view es) → held (words_of es) t l ≡ true
unfolding H.Holds words_of depth
to_held t l es h = lt-ltb 0 (grip t l es).held (rw (grips t l es) at h)

pub from_held : (t l : ℕ) (es : List Event) → held (words_of es) t l ≡ true → H.Holds t l (map view es)
unfolding H.Holds words_of depth
from_held t l es h = rw (grips t l es) (ltb-true 0 (grip t l es).held h)

-- ---- a thread that holds or waits on something is declared, and so is the lock

module _ (h : Counts) (t l : ℕ) (o : t < h.threads → l < h.locks → ⊥) where
  -- no event is t's on l
  miss : (u i : ℕ) → u < h.threads → i < h.locks → (eqb u t && eqb i l) ≡ false
  miss u i a b = go (eqb u t) (eqb i l) refl refl
    where
      go : (x y : Bool) → eqb u t ≡ x → eqb i l ≡ y → (x && y) ≡ false
      go true true p q = absurd (o (subst (λ j. j < h.threads) (eqb-true u t p) a) (subst (λ j. j < h.locks) (eqb-true i l q) b))
      go true false p q = refl
      go false y p q = refl

  abbrev blank : Grip
  blank = record { held = 0; remembered = 0 }

  no_grip : (es : List Event) → All (Declared h) es → grip t l es ≡ blank
  unfolding grip by of on
  no_grip [] d = refl
  no_grip (e ∷ es) d = ap (grip_after t l e) (no_grip es d.1) ∙ grip_kept t l e blank (cases (is gripping e) (λ p. rw (on_lock_law p) (and-false (is gripping e))) (λ p. rw p))
    where
      on_lock_law : is gripping e ≡ true → (eqb e.thread t && eqb (loc e) l) ≡ false
      on_lock_law p = miss e.thread (loc e) d.0.0 (lock_low h e d.0 (unfold on_lock in is_true (is_among gripping lock_letters e tt (subst T (sym p) tt))))

pub known : (h : Counts) (t l : ℕ) (es : List Event) → All (Declared h) es → 0 < (grip t l es).held + (grip t l es).remembered → (t < h.threads) × (l < h.locks)
known h t l es d p = go (dec_lt t h.threads) (dec_lt l h.locks)
  where
    none : (t < h.threads → l < h.locks → ⊥) → ⊥
    none o = absurd (omega (arith, rw (no_grip h t l o es d) at p))

    go : Dec (t < h.threads) → Dec (l < h.locks) → (t < h.threads) × (l < h.locks)
    go (yes a) (yes b) = (a, b)
    go (yes a) (no b) = absurd (none (λ x y. b y))
    go (no a) b = absurd (none (λ x y. a x))

pub holds_known : (h : Counts) (t l : ℕ) (es : List Event) → All (Declared h) es → H.Holds t l (map view es) → (t < h.threads) × (l < h.locks)
unfolding H.Holds
holds_known h t l es d b = known h t l es d (let q : 0 < (grip t l es).held = rw (grips t l es) at b in omega arith)

pub holds_below : (h : Counts) (t l : ℕ) (es : List Event) → All (Declared h) es → H.Holds t l (map view es) → t < h.threads
holds_below h t l es d b = (holds_known h t l es d b).0

pub waits_known : (h : Counts) (t l : ℕ) (es : List Event) → All (Declared h) es → waits_on (words_of es) t l ≡ true → (t < h.threads) × (l < h.locks)
unfolding words_of remembered
waits_known h t l es d b = known h t l es d (let q : 0 < (grip t l es).remembered = ltb-true 0 (grip t l es).remembered b in omega arith)

-- 11, as the theory words it
sole : (h : Counts) (w : Words) (e : Event) (t : ℕ) → judge h w e ≡ 0 → T (locks e) → t < h.threads → held w t (loc e) ≡ true → t ≡ e.thread
sole h w e t p k b q = go (eqb t e.thread) refl (rw q at (some_none h.threads (λ t. not (eqb t e.thread) && held w t (loc e)) (lock_free h w e p k) t b))
  where
    go : (c : Bool) → eqb t e.thread ≡ c → (not c && true) ≡ false → t ≡ e.thread
    go true r x = eqb→eq t e.thread (subst T (sym r) tt)
    go false r x = absurd (true≢false x)

pub exclusive : (h : Counts) (es : List Event) → All (Declared h) es → Valid h es → Q.Exclusive H.counted (map view es)
unfolding Q.Exclusive
exclusive h [] d a = tt
exclusive h (e ∷ es) d a = (here, exclusive h es d.1 (before h e es a))
  where
    here : (t l j : ℕ) → view e ≡ E.lock j t l → (u : ℕ) → H.Holds u l (map view es) → u ≡ t
    here t l j p u b =
        let q = locking e t l j p in
        sole h (words_of es) e u (row h e es a) (subst T (sym q.0) tt) (holds_below h u l es d.1 b) (rw q.2 (to_held u l es b)) ∙ q.1
