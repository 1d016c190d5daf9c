-- In the trace's own order: under a guard that 20 and 22 speak of, each use has the value of the latest A or B before it,
-- by any thread, and where nobody holds the guard main memory is that value too. 21 is not needed here.
use Prim.Native.Nat.{ℕ, suc}
use native.Mathlib.Decide.{ℕ_discrete}
use native.Mathlib.Omega.{arith}
use mathlib.Core.Path.{◌≡◌, refl, sym, ◌∙◌, subst}
use mathlib.Core.Logic.{◌⊎◌, inl, inr, ite}
use mathlib.Core.Bool.{Bool, true, false, true≢false, false≢true}
use mathlib.Core.List.{List, [], ◌∷◌, cons≢nil}
use lib.ListN.{length}
use Rattle.serial.specs.Events.{Kind, Use, Assign, Load, Store, Read, Write, PrescientStore, PrescientAssign, Event, lock, unlock, idle, mem, thread}
use Rattle.serial.specs.Sections.{Locks, Exclusive, Under}
use Rattle.serial.proofs.Order.{mutex}
use Rattle.serial.specs.Words.{Act, own, locks, unlocks, nothing, Touch, at, elsewhere, touch, seen_by, act, change, written, assigned, through, guarded, guarded_at, uses, Allowed, cell, main, plain, Accepted}
use Rattle.serial.proofs.Memory.{Good, Facts, asks, loud, act_on, advance}

module _ {X : Type 0} where
  -- a memory changes by what the variable sees of the event, whichever thread looks
  act_on_law : (f : Kind → X → X → X) (t v : ℕ) (e : Event X) (m : X) → act_on f (act t v e) m ≡ through f (touch v e) m
  act_on_law f t v (lock i u l) m = step (ℕ_discrete u t)
    where
      step : (d : Dec (u ≡ t)) → act_on f (ite {C = Act X} d locks nothing) m ≡ m
      step (yes p) = refl
      step (no p) = refl
  act_on_law f t v (unlock i u l) m = step (ℕ_discrete u t)
    where
      step : (d : Dec (u ≡ t)) → act_on f (ite {C = Act X} d unlocks nothing) m ≡ m
      step (yes p) = refl
      step (no p) = refl
  act_on_law f t v (idle u) m = refl
  act_on_law f t v (mem k u w x) m = step (ℕ_discrete u t) (ℕ_discrete w v)
    where
      step : (d : Dec (u ≡ t)) (d' : Dec (w ≡ v)) → act_on f (seen_by d (ite {C = Touch X} d' (at k x) elsewhere)) m ≡ through f (ite {C = Touch X} d' (at k x) elsewhere) m
      step (yes p) (yes q) = refl
      step (yes p) (no q) = refl
      step (no p) (yes q) = refl
      step (no p) (no q) = refl

  not_unlock : (k : Kind) (u w : ℕ) (x : X) (t m j : ℕ) → ◌≡◌ {A = Event X} (mem k u w x) (unlock j t m) → ⊥
  not_unlock k u w x t m j p = let q : ◌≡◌ {A = ℕ} 0 1 = cc in omega arith

  not_lock : (k : Kind) (u w : ℕ) (x : X) (t m j : ℕ) → ◌≡◌ {A = Event X} (mem k u w x) (lock j t m) → ⊥
  not_lock k u w x t m j p = let q : ◌≡◌ {A = ℕ} 0 1 = cc in omega arith

  idle_unlock : (u t m j : ℕ) → ◌≡◌ {A = Event X} (idle u) (unlock j t m) → ⊥
  idle_unlock u t m j p = let q : ◌≡◌ {A = ℕ} 0 1 = cc in omega arith

  idle_lock : (u t m j : ℕ) → ◌≡◌ {A = Event X} (idle u) (lock j t m) → ⊥
  idle_lock u t m j p = let q : ◌≡◌ {A = ℕ} 0 1 = cc in omega arith

  lock_unlock : (i u l t m j : ℕ) → ◌≡◌ {A = Event X} (lock i u l) (unlock j t m) → ⊥
  lock_unlock i u l t m j p = let q : ◌≡◌ {A = ℕ} 0 1 = cc in omega arith

  unlock_lock : (i u l t m j : ℕ) → ◌≡◌ {A = Event X} (unlock i u l) (lock j t m) → ⊥
  unlock_lock i u l t m j p = let q : ◌≡◌ {A = ℕ} 0 1 = cc in omega arith

  lock_owner : (i u l t m j : ℕ) → ◌≡◌ {A = Event X} (lock i u l) (lock j t m) → u ≡ t
  lock_owner i u l t m j p = cc

  lock_lock : (i u l t m j : ℕ) → ◌≡◌ {A = Event X} (lock i u l) (lock j t m) → l ≡ m
  lock_lock i u l t m j p = cc

  unlock_owner : (i u l t m j : ℕ) → ◌≡◌ {A = Event X} (unlock i u l) (unlock j t m) → u ≡ t
  unlock_owner i u l t m j p = cc

module _ {X : Type 0} (z : X) (𝓛 : Locks X) (g v : ℕ) where
  abbrev H : ℕ → List (Event X) → Type 0
  H t es = 𝓛.Held t g es

  -- who owes an assign of v holds its guard
  abbrev pub Covered : List (Event X) → Type 0
  Covered es = (t : ℕ) → (cell z t v es).pending ≡ true → 𝓛.Held t g es

  pub record Guarded (es : List (Event X)) : Type 0 where
    pub cells : (t : ℕ) → Good (𝓛.Held t g es) (length es) (cell z t v es) (main z v es) (plain z v es)
    pub free : ((t : ℕ) → 𝓛.Held t g es → ⊥) → main z v es ≡ plain z v es

  back : (t : ℕ) (e : Event X) (es : List (Event X)) → ((j : ℕ) → e ≡ lock j t g → ⊥) → H t (e ∷ es) → H t es
  back t e es n h = step (𝓛.held_back t g e es h)
    where
      step : ((j : ℕ) × (e ≡ lock j t g)) ⊎ H t es → H t es
      step (inl p) = absurd (n p.0 p.1)
      step (inr a) = a

  -- ---- one event more: what it does to the guard, as thread t sees it
  module _ (es : List (Event X)) (G : Guarded es) (ex : Exclusive 𝓛 es) where
    -- a K
    facts_lock : (t i u l : ℕ) → ((w : ℕ) → 𝓛.Held w l es → w ≡ u)
        → Facts (act t v (lock i u l)) (H t es) (H t (lock i u l ∷ es)) (main z v es) (plain z v es)
    facts_lock t i u l excl = step (ℕ_discrete u t)
      where
        keep : H t es → H t (lock i u l ∷ es)
        keep h = 𝓛.held_keep t g (lock i u l) es h (lock_unlock i u l t)

        gain : u ≡ t → Dec (H t es) → ((j : ℕ) × (◌≡◌ {A = Event X} (lock i u l) (lock j t g))) ⊎ H t es → H t es ⊎ ((H t es → ⊥) × (main z v es ≡ plain z v es))
        gain p d (inr h) = inl h
        gain p (yes h) (inl q) = inl h
        gain p (no n) (inl q) = inr (n, G.free (λ w h. n (subst (λ i. H i es) (excl w (subst (λ i. 𝓛.Held w i es) (sym (lock_lock i u l t g q.0 q.1)) h) ∙ p) h)))

        step : (d : Dec (u ≡ t)) → Facts (ite {C = Act X} d locks nothing) (H t es) (H t (lock i u l ∷ es)) (main z v es) (plain z v es)
        step (yes p) = (keep, λ h. gain p (𝓛.held? t g es) (𝓛.held_back t g (lock i u l) es h))
        step (no p) = (keep, back t (lock i u l) es (λ j q. p (lock_owner i u l t g j q)))

    facts_unlock : (t i u l : ℕ) → Facts (act t v (unlock i u l)) (H t es) (H t (unlock i u l ∷ es)) (main z v es) (plain z v es)
    facts_unlock t i u l = step (ℕ_discrete u t)
      where
        lost : H t (unlock i u l ∷ es) → H t es
        lost = back t (unlock i u l) es (unlock_lock i u l t g)

        step : (d : Dec (u ≡ t)) → Facts (ite {C = Act X} d unlocks nothing) (H t es) (H t (unlock i u l ∷ es)) (main z v es) (plain z v es)
        step (yes p) = lost
        step (no p) = (λ h. 𝓛.held_keep t g (unlock i u l) es h (λ m j q. p (unlock_owner i u l t m j q)), lost)

    -- a store is outstanding: its thread holds the guard
    storing : (u : ℕ) (x : X) (ys : List X) → (cell z u v es).stores ≡ x ∷ ys → H u es
    storing u x ys e = step (𝓛.held? u g es)
      where
        step : Dec (H u es) → H u es
        step (yes h) = h
        step (no n) = absurd (cons≢nil (sym e ∙ ((G.cells u).idle n).0))

    facts_mem : (t u w : ℕ) (k : Kind) (x : X) → (uses v (mem k u w x) ≡ true → H u es)
        → Allowed (act u v (mem k u w x)) (cell z u v es) (main z v es)
        → ((change (suc (length es)) (act t v (mem k u w x)) (cell z t v es)).pending ≡ true → H t (mem k u w x ∷ es))
        → Facts (act t v (mem k u w x)) (H t es) (H t (mem k u w x ∷ es)) (main z v es) (plain z v es)
    unfolding change
    facts_mem t u w k x un al nd = step (ℕ_discrete u t) (ℕ_discrete w v) (ℕ_discrete u u) un al nd
      where
        keep : H t es → H t (mem k u w x ∷ es)
        keep h = 𝓛.held_keep t g (mem k u w x) es h (not_unlock k u w x t)

        lost : H t (mem k u w x ∷ es) → H t es
        lost = back t (mem k u w x) es (not_lock k u w x t g)

        asked : (k : Kind) → (u ≡ t) → (guarded k ≡ true → H u es) → ((change (suc (length es)) (own k x) (cell z t v es)).pending ≡ true → H t es) → asks k ≡ true → H t es
        asked Use p un nd a = subst (λ i. H i es) p (un refl)
        asked Assign p un nd a = subst (λ i. H i es) p (un refl)
        asked Load p un nd a = absurd (false≢true a)
        asked Store p un nd a = absurd (false≢true a)
        asked Read p un nd a = absurd (false≢true a)
        asked Write p un nd a = absurd (false≢true a)
        asked PrescientStore p un nd a = nd refl
        asked PrescientAssign p un nd a = subst (λ i. H i es) p (un refl)

        foreign : (k : Kind) → (u ≡ t → ⊥) → (guarded k ≡ true → H u es) → Allowed (own k x) (cell z u v es) (main z v es) → loud k ≡ true → H t es → ⊥
        foreign Use n un al a h = absurd (false≢true a)
        foreign Assign n un al a h = n (mutex 𝓛 es ex u t g (un refl) h)
        foreign Load n un al a h = absurd (false≢true a)
        foreign Store n un al a h = absurd (false≢true a)
        foreign Read n un al a h = absurd (false≢true a)
        foreign Write n un al a h = n (mutex 𝓛 es ex u t g (storing u x al.0 al.1) h)
        foreign PrescientStore n un al a h = absurd (false≢true a)
        foreign PrescientAssign n un al a h = n (mutex 𝓛 es ex u t g (un refl) h)

        step : (d : Dec (u ≡ t)) (d' : Dec (w ≡ v)) (s : Dec (u ≡ u)) → (guarded_at (ite {C = Touch X} d' (at k x) elsewhere) ≡ true → H u es)
            → Allowed (seen_by s (ite {C = Touch X} d' (at k x) elsewhere)) (cell z u v es) (main z v es)
            → ((change (suc (length es)) (seen_by d (ite {C = Touch X} d' (at k x) elsewhere)) (cell z t v es)).pending ≡ true → H t (mem k u w x ∷ es))
            → Facts (seen_by d (ite {C = Touch X} d' (at k x) elsewhere)) (H t es) (H t (mem k u w x ∷ es)) (main z v es) (plain z v es)
        step (yes p) (yes q) s un al nd = (asked k p un (λ o. lost (nd o)), keep, lost)
        step (no p) (yes q) (yes r) un al nd = (λ a h. foreign k p un al a (lost h), keep, lost)
        step (no p) (yes q) (no r) un al nd = absurd (r refl)
        step (yes p) (no q) s un al nd = (keep, lost)
        step (no p) (no q) s un al nd = (keep, lost)

    facts : (t : ℕ) (e : Event X) → ((u l j : ℕ) → e ≡ lock j u l → (w : ℕ) → 𝓛.Held w l es → w ≡ u) → (uses v e ≡ true → H (thread e) es)
        → ((u : ℕ) → Allowed (act u v e) (cell z u v es) (main z v es)) → Covered (e ∷ es)
        → Facts (act t v e) (H t es) (H t (e ∷ es)) (main z v es) (plain z v es)
    unfolding cell
    facts t (lock i u l) xl un al cv = facts_lock t i u l (xl u l i refl)
    facts t (unlock i u l) xl un al cv = facts_unlock t i u l
    facts t (idle u) xl un al cv = (λ h. 𝓛.held_keep t g (idle u) es h (idle_unlock u t), back t (idle u) es (idle_lock u t g))
    facts t (mem k u w x) xl un al cv = facts_mem t u w k x un (al u) (cv t)

    -- ---- nobody holds the guard

    tell : (b : Bool) → (b ≡ false) ⊎ (b ≡ true)
    tell true = inr refl
    tell false = inl refl

    free_unlock : (i u l : ℕ) → Allowed (act u v (unlock i u l)) (cell z u v es) (main z v es) → Covered (unlock i u l ∷ es)
        → ((t : ℕ) → H t (unlock i u l ∷ es) → ⊥) → main z v es ≡ plain z v es
    unfolding cell change
    free_unlock i u l al cv n = step (𝓛.held? u g es) (ℕ_discrete u u) al (cv u) (tell (cell z u v es).pending)
      where
        step : Dec (H u es) → (s : Dec (u ≡ u)) → Allowed (ite {C = Act X} s unlocks nothing) (cell z u v es) (main z v es)
            → ((change (suc (length es)) (ite {C = Act X} s unlocks nothing) (cell z u v es)).pending ≡ true → H u (unlock i u l ∷ es))
            → ((cell z u v es).pending ≡ false) ⊎ ((cell z u v es).pending ≡ true) → main z v es ≡ plain z v es
        step d (no r) al cv o = absurd (r refl)
        step (yes h) (yes r) al cv (inl o) = rw (al.1 o) at ((G.cells u).even h o al.0)
        step (yes h) (yes r) al cv (inr o) = absurd (n u (cv o))
        step (no m) (yes r) al cv o = G.free (λ t h. n t (𝓛.held_keep t g (unlock i u l) es h (λ o j q. m (subst (λ j. H j es) (sym (unlock_owner i u l t o j q)) h))))

    free_mem : (u w : ℕ) (k : Kind) (x : X) → (uses v (mem k u w x) ≡ true → H u es) → Allowed (act u v (mem k u w x)) (cell z u v es) (main z v es)
        → ((t : ℕ) → H t (mem k u w x ∷ es) → ⊥)
        → through written (touch v (mem k u w x)) (main z v es) ≡ through assigned (touch v (mem k u w x)) (plain z v es)
    free_mem u w k x un al n = step (ℕ_discrete w v) (ℕ_discrete u u) un al
      where
        none : (t : ℕ) → H t es → ⊥
        none t h = n t (𝓛.held_keep t g (mem k u w x) es h (not_unlock k u w x t))

        quiet : (k : Kind) → (guarded k ≡ true → H u es) → Allowed (own k x) (cell z u v es) (main z v es) → written k x (main z v es) ≡ assigned k x (plain z v es)
        quiet Use un al = G.free none
        quiet Assign un al = absurd (none u (un refl))
        quiet Load un al = G.free none
        quiet Store un al = G.free none
        quiet Read un al = G.free none
        quiet Write un al = absurd (none u (storing u x al.0 al.1))
        quiet PrescientStore un al = G.free none
        quiet PrescientAssign un al = absurd (none u (un refl))

        step : (d : Dec (w ≡ v)) (s : Dec (u ≡ u)) → (guarded_at (ite {C = Touch X} d (at k x) elsewhere) ≡ true → H u es)
            → Allowed (seen_by s (ite {C = Touch X} d (at k x) elsewhere)) (cell z u v es) (main z v es)
            → through written (ite {C = Touch X} d (at k x) elsewhere) (main z v es) ≡ through assigned (ite {C = Touch X} d (at k x) elsewhere) (plain z v es)
        step (yes p) (yes r) un al = quiet k un al
        step (yes p) (no r) un al = absurd (r refl)
        step (no p) s un al = G.free none

    still_free : (e : Event X) → (uses v e ≡ true → H (thread e) es)
        → ((u : ℕ) → Allowed (act u v e) (cell z u v es) (main z v es)) → Covered (e ∷ es)
        → ((t : ℕ) → H t (e ∷ es) → ⊥) → through written (touch v e) (main z v es) ≡ through assigned (touch v e) (plain z v es)
    still_free (lock i u l) un al cv n = G.free (λ t h. n t (𝓛.held_keep t g (lock i u l) es h (lock_unlock i u l t)))
    still_free (unlock i u l) un al cv n = free_unlock i u l (al u) cv n
    still_free (idle u) un al cv n = G.free (λ t h. n t (𝓛.held_keep t g (idle u) es h (idle_unlock u t)))
    still_free (mem k u w x) un al cv n = free_mem u w k x un (al u) n

  -- ---- who owes holds the guard: a debt without the guard is never paid, and so stands at the end
  covered_mem : (es : List (Event X)) (t u w : ℕ) (k : Kind) (x : X) → (uses v (mem k u w x) ≡ true → H u es) → Covered (mem k u w x ∷ es) → (cell z t v es).pending ≡ true → H t es
  unfolding cell change
  covered_mem es t u w k x un cv o = step (ℕ_discrete u t) (ℕ_discrete w v) un (cv t)
    where
      lost : H t (mem k u w x ∷ es) → H t es
      lost = back t (mem k u w x) es (not_lock k u w x t g)

      paid : (k : Kind) → u ≡ t → (guarded k ≡ true → H u es) → ((change (suc (length es)) (own k x) (cell z t v es)).pending ≡ true → H t es) → H t es
      paid Use p un cv = cv o
      paid Assign p un cv = cv o
      paid Load p un cv = cv o
      paid Store p un cv = cv o
      paid Read p un cv = cv o
      paid Write p un cv = cv o
      paid PrescientStore p un cv = cv refl
      paid PrescientAssign p un cv = subst (λ i. H i es) p (un refl)

      step : (d : Dec (u ≡ t)) (d' : Dec (w ≡ v)) → (guarded_at (ite {C = Touch X} d' (at k x) elsewhere) ≡ true → H u es)
          → ((change (suc (length es)) (seen_by d (ite {C = Touch X} d' (at k x) elsewhere)) (cell z t v es)).pending ≡ true → H t (mem k u w x ∷ es)) → H t es
      step (yes p) (yes q) un cv = paid k p un (λ a. lost (cv a))
      step (no p) (yes q) un cv = lost (cv o)
      step (yes p) (no q) un cv = lost (cv o)
      step (no p) (no q) un cv = lost (cv o)

  covered_lock : (es : List (Event X)) (t i u l : ℕ) → Allowed (act t v (lock i u l)) (cell z t v es) (main z v es) → Covered (lock i u l ∷ es) → (cell z t v es).pending ≡ true → H t es
  unfolding cell change
  covered_lock es t i u l al cv o = step (ℕ_discrete u t) al (cv t)
    where
      step : (d : Dec (u ≡ t)) → Allowed (ite {C = Act X} d locks nothing) (cell z t v es) (main z v es)
          → ((change (suc (length es)) (ite {C = Act X} d locks nothing) (cell z t v es)).pending ≡ true → H t (lock i u l ∷ es)) → H t es
      step (yes p) al cv = absurd (true≢false (sym o ∙ al))
      step (no p) al cv = back t (lock i u l) es (λ j q. p (lock_owner i u l t g j q)) (cv o)

  covered_unlock : (es : List (Event X)) (t i u l : ℕ) → Covered (unlock i u l ∷ es) → (cell z t v es).pending ≡ true → H t es
  unfolding cell change
  covered_unlock es t i u l cv o = step (ℕ_discrete u t) (cv t)
    where
      step : (d : Dec (u ≡ t)) → ((change (suc (length es)) (ite {C = Act X} d unlocks nothing) (cell z t v es)).pending ≡ true → H t (unlock i u l ∷ es)) → H t es
      step (yes p) cv = back t (unlock i u l) es (unlock_lock i u l t g) (cv o)
      step (no p) cv = back t (unlock i u l) es (unlock_lock i u l t g) (cv o)

  pub covered_back : (e : Event X) (es : List (Event X)) → (uses v e ≡ true → H (thread e) es)
      → ((u : ℕ) → Allowed (act u v e) (cell z u v es) (main z v es)) → Covered (e ∷ es) → Covered es
  covered_back (lock i u l) es un al cv t o = covered_lock es t i u l (al t) cv o
  covered_back (unlock i u l) es un al cv t o = covered_unlock es t i u l cv o
  covered_back (idle u) es un al cv t o = back t (idle u) es (idle_lock u t g) (cv t (unfold cell change in o))
  covered_back (mem k u w x) es un al cv t o = covered_mem es t u w k x un cv o

  pub guarded_holds : (es : List (Event X)) → Exclusive 𝓛 es → Accepted z v es → Under 𝓛 (uses v) g es → Covered es → Guarded es
  unfolding Exclusive Accepted Under cell main plain
  guarded_holds [] ex ac un cv = record {
    cells = λ t. record {
      idle = λ _. (refl, refl);
      owes = λ h. absurd (𝓛.held_none t g h);
      even = λ h. absurd (𝓛.held_none t g h);
      current = λ h. tt;
      right = λ h. absurd (𝓛.held_none t g h);
      since = λ p. absurd (false≢true p);
      early = λ p. absurd (false≢true p);
      rising = tt;
      until = tt;
      locked = omega arith;
    };
    free = λ _. refl;
  }
  guarded_holds (e ∷ es) ex ac un cv = step (guarded_holds es ex.1 ac.1 un.1 (covered_back e es un.0 ac.0 cv))
    where
      step : Guarded es → Guarded (e ∷ es)
      step G = record {
        cells = λ t. rw (act_on_law written t v e (main z v es), act_on_law assigned t v e (plain z v es)) at
            (advance (H t es) (H t (e ∷ es)) (length es) (cell z t v es) (main z v es) (plain z v es) (G.cells t) (act t v e) (ac.0 t)
            (facts es G ex.1 t e ex.0 un.0 ac.0 cv) (cv t));
        free = still_free es G ex.1 e un.0 ac.0 cv;
      }
