-- Demand 3 over lists that are the latest first: run whole in the order of their last K, the sections give every use its
-- value in the trace and leave every variable its value in main memory.
use Prim.Native.Nat.{ℕ}
use native.Mathlib.Decide.{ℕ_discrete}
use mathlib.Core.Path.{◌≡◌, refl, sym, ◌∙◌, ap}
use mathlib.Core.Logic.{ite}
use mathlib.Core.Bool.{true, false, true≢false}
use mathlib.Core.List.{List, [], ◌∷◌}
use Rattle.serial.specs.Events.{Kind, Use, Assign, Load, Store, Read, Write, PrescientStore, PrescientAssign, Event, lock, unlock, idle, mem, thread}
use Rattle.serial.specs.Sections.{flat, Locks, Exclusive, TwoPhase, Under, sections}
use Rattle.serial.proofs.Order.{keep, proj, Kept, kept}
use Rattle.serial.specs.Words.{own, Touch, at, elsewhere, touch, seen_by, act, assigned, through, guarded, guarded_at, uses, Allowed, cell, main, plain, Accepted}
use Rattle.serial.proofs.Guard.{Covered, Guarded, guarded_holds, covered_back}

module _ {X : Type 0} where
  -- what a use asks of the plain memory, here m
  abbrev pub Fits : Touch X → X → Type 0
  Fits (at Use x) m = m ≡ x
  Fits (at Assign x) m = Unit {0}
  Fits (at Load x) m = Unit {0}
  Fits (at Store x) m = Unit {0}
  Fits (at Read x) m = Unit {0}
  Fits (at Write x) m = Unit {0}
  Fits (at PrescientStore x) m = Unit {0}
  Fits (at PrescientAssign x) m = Unit {0}
  Fits elsewhere m = Unit {0}

module _ {X : Type 0} (z : X) where
  -- each use of v in the list is given the value in its own line
  unfoldable pub Right : ℕ → List (Event X) → Type 0
  Right v [] = Unit {0}
  Right v (e ∷ es) = Fits (touch v e) (plain z v es) × Right v es

  -- ---- the plain memory of v hangs on v's events alone

  plain_proj : (v : ℕ) (es : List (Event X)) → plain z v (proj (uses v) es) ≡ plain z v es
  unfolding plain proj
  plain_proj v [] = refl
  plain_proj v (e ∷ es) = step (touch v e) refl (plain_proj v es)
    where
      step : (t : Touch X) → touch v e ≡ t → plain z v (proj (uses v) es) ≡ plain z v es
          → plain z v (keep (guarded_at t) e (proj (uses v) es)) ≡ through assigned t (plain z v es)
      step (at Use x) q h = rw q h
      step (at Assign x) q h = rw q
      step (at Load x) q h = h
      step (at Store x) q h = h
      step (at Read x) q h = h
      step (at Write x) q h = h
      step (at PrescientStore x) q h = h
      step (at PrescientAssign x) q h = rw q
      step elsewhere q h = h

  right_to : (v : ℕ) (es : List (Event X)) → Right v es → Right v (proj (uses v) es)
  unfolding Right proj
  right_to v [] r = tt
  right_to v (e ∷ es) r = step (touch v e) refl r.0 (right_to v es r.1)
    where
      step : (t : Touch X) → touch v e ≡ t → Fits t (plain z v es) → Right v (proj (uses v) es) → Right v (keep (guarded_at t) e (proj (uses v) es))
      step (at Use x) q f h = (rw q (plain_proj v es ∙ f), h)
      step (at Assign x) q f h = (rw q tt, h)
      step (at Load x) q f h = h
      step (at Store x) q f h = h
      step (at Read x) q f h = h
      step (at Write x) q f h = h
      step (at PrescientStore x) q f h = h
      step (at PrescientAssign x) q f h = (rw q tt, h)
      step elsewhere q f h = h

  right_from : (v : ℕ) (es : List (Event X)) → Right v (proj (uses v) es) → Right v es
  unfolding Right proj
  right_from v [] r = tt
  right_from v (e ∷ es) r = step (touch v e) refl r (right_from v es)
    where
      step : (t : Touch X) → touch v e ≡ t → Right v (keep (guarded_at t) e (proj (uses v) es)) → (Right v (proj (uses v) es) → Right v es) → Fits t (plain z v es) × Right v es
      step (at Use x) q r h = (sym (plain_proj v es) ∙ (rw q at r.0), h r.1)
      step (at Assign x) q r h = (tt, h r.1)
      step (at Load x) q r h = (tt, h r)
      step (at Store x) q r h = (tt, h r)
      step (at Read x) q r h = (tt, h r)
      step (at Write x) q r h = (tt, h r)
      step (at PrescientStore x) q r h = (tt, h r)
      step (at PrescientAssign x) q r h = (tt, h r.1)
      step elsewhere q r h = (tt, h r)

  -- two lists with the same U, A and B of v, in the same order
  pub same_uses : (v : ℕ) (ps bs : List (Event X)) → proj (uses v) ps ≡ proj (uses v) bs → Right v bs → Right v ps
  same_uses v ps bs p r = right_from v ps (rw p (right_to v bs r))

  pub same_plain : (v : ℕ) (ps bs : List (Event X)) → proj (uses v) ps ≡ proj (uses v) bs → plain z v ps ≡ plain z v bs
  same_plain v ps bs p = sym (plain_proj v ps) ∙ ap (plain z v) p ∙ plain_proj v bs

  -- ---- in the trace's own order

  module _ (𝓛 : Locks X) (g v : ℕ) where
    fits_mem : (es : List (Event X)) → Guarded z 𝓛 g v es → (k : Kind) (u w : ℕ) (x : X) → (uses v (mem k u w x) ≡ true → 𝓛.Held u g es)
        → Allowed (act u v (mem k u w x)) (cell z u v es) (main z v es) → Fits (touch v (mem k u w x)) (plain z v es)
    fits_mem es G k u w x un al = step (ℕ_discrete w v) (ℕ_discrete u u) un al
      where
        fits : (k : Kind) → (guarded k ≡ true → 𝓛.Held u g es) → Allowed (own k x) (cell z u v es) (main z v es) → Fits (at k x) (plain z v es)
        fits Use un al = sym (al.1 ∙ (G.cells u).right (un refl) al.0)
        fits Assign un al = tt
        fits Load un al = tt
        fits Store un al = tt
        fits Read un al = tt
        fits Write un al = tt
        fits PrescientStore un al = tt
        fits PrescientAssign un al = tt

        step : (d : Dec (w ≡ v)) (s : Dec (u ≡ u)) → (guarded_at (ite {C = Touch X} d (at k x) elsewhere) ≡ true → 𝓛.Held u g es)
            → Allowed (seen_by s (ite {C = Touch X} d (at k x) elsewhere)) (cell z u v es) (main z v es) → Fits (ite {C = Touch X} d (at k x) elsewhere) (plain z v es)
        step (yes p) (yes r) un al = fits k un al
        step (yes p) (no r) un al = absurd (r refl)
        step (no p) s un al = tt

    fits_event : (es : List (Event X)) → Guarded z 𝓛 g v es → (e : Event X) → (uses v e ≡ true → 𝓛.Held (thread e) g es)
        → ((u : ℕ) → Allowed (act u v e) (cell z u v es) (main z v es)) → Fits (touch v e) (plain z v es)
    fits_event es G (lock j u l) un al = tt
    fits_event es G (unlock j u l) un al = tt
    fits_event es G (idle u) un al = tt
    fits_event es G (mem k u w x) un al = fits_mem es G k u w x un (al u)

    -- each use has the value of the latest A or B before it, by any thread
    pub trace_right : (es : List (Event X)) → Exclusive 𝓛 es → Accepted z v es → Under 𝓛 (uses v) g es → Covered z 𝓛 g v es → Right v es
    unfolding Right Exclusive Accepted Under
    trace_right [] ex ac un cv = tt
    trace_right (e ∷ es) ex ac un cv =
        let cv' : Covered z 𝓛 g v es = covered_back z 𝓛 g v e es un.0 ac.0 cv in
        (fits_event es (guarded_holds z 𝓛 g v es ex.1 ac.1 un.1 cv') e un.0 ac.0, trace_right es ex.1 ac.1 un.1 cv')

    -- 22: at the end no lock is held and no assign pending
    pub record Ended (es : List (Event X)) : Type 0 where
      pub unheld : (t : ℕ) → 𝓛.Held t g es → ⊥
      pub paid : (t : ℕ) → (cell z t v es).pending ≡ false

    ended_covered : (es : List (Event X)) → Ended es → Covered z 𝓛 g v es
    ended_covered es n t o = absurd (true≢false (sym o ∙ n.paid t))

    -- Demand 3 for one variable v with its guard g.
    pub serial : (es : List (Event X)) → Exclusive 𝓛 es → TwoPhase 𝓛 es → Accepted z v es → Under 𝓛 (uses v) g es → Ended es
        → Right v (flat (sections 𝓛 es)) × (plain z v (flat (sections 𝓛 es)) ≡ main z v es)
    serial es ex tw ac un n =
        let cv : Covered z 𝓛 g v es = ended_covered es n in
        let k : Kept 𝓛 (uses v) g (sections 𝓛 es) es = kept 𝓛 (uses v) g (λ t l j. refl) es ex tw un in (
          same_uses v (flat (sections 𝓛 es)) es k.same (trace_right es ex ac un cv),
          same_plain v (flat (sections 𝓛 es)) es k.same ∙ sym ((guarded_holds z 𝓛 g v es ex ac un cv).free n.unheld),
        )
