-- A thread's own sections in the scan's list, the latest first, and what the scan does to them.
use Prim.Native.Nat.{ℕ}
use native.Mathlib.Decide.{ℕ_discrete}
use mathlib.Core.Path.{◌≡◌, refl, sym, ap, ◌∙◌}
use mathlib.Core.Logic.{ite}
use mathlib.Core.List.{List, [], ◌∷◌}
use Rattle.serial.specs.Events.{Event, lock, unlock, idle, mem, thread}
use Rattle.serial.specs.Sections.{Section, opened, grown, raised, blank, push, current, without, next}

module _ {X : Type 0} where
  -- u's sections
  unfoldable pub own : ℕ → List (Section X) → List (Section X)
  own u [] = []
  own u (s ∷ ss) = ite {C = List (Section X)} (ℕ_discrete s.owner u) (s ∷ own u ss) (own u ss)

  pub own_mine : (u : ℕ) (s : Section X) (ss : List (Section X)) → s.owner ≡ u → own u (s ∷ ss) ≡ s ∷ own u ss
  unfolding own
  own_mine u s ss p = step (ℕ_discrete s.owner u)
    where
      step : (d : Dec (s.owner ≡ u)) → ite {C = List (Section X)} d (s ∷ own u ss) (own u ss) ≡ s ∷ own u ss
      step (yes q) = refl
      step (no q) = absurd (q p)

  pub own_other : (u : ℕ) (s : Section X) (ss : List (Section X)) → (s.owner ≡ u → ⊥) → own u (s ∷ ss) ≡ own u ss
  unfolding own
  own_other u s ss n = step (ℕ_discrete s.owner u)
    where
      step : (d : Dec (s.owner ≡ u)) → ite {C = List (Section X)} d (s ∷ own u ss) (own u ss) ≡ own u ss
      step (yes q) = absurd (n q)
      step (no q) = refl

  -- the list with its first section changed, without it, and that section
  abbrev pub grow : ℕ → ℕ → Event X → List (Section X) → List (Section X)
  grow t n e [] = opened t n e ∷ []
  grow t n e (s ∷ ss) = grown n e s ∷ ss

  abbrev pub rest : List (Section X) → List (Section X)
  rest [] = []
  rest (s ∷ ss) = ss

  abbrev pub front : ℕ → ℕ → List (Section X) → Section X
  front t n [] = blank t n
  front t n (s ∷ ss) = s

  pub own_push : (t n : ℕ) (e : Event X) (ss : List (Section X)) → own t (push t n e ss) ≡ grow t n e (own t ss)
  unfolding push
  own_push t n e [] = own_mine t (opened t n e) [] refl ∙ unfold own in refl
  own_push t n e (s ∷ ss) = step (ℕ_discrete s.owner t) (own_push t n e ss)
    where
      step : (d : Dec (s.owner ≡ t)) → own t (push t n e ss) ≡ grow t n e (own t ss)
          → own t (ite {C = List (Section X)} d (grown n e s ∷ ss) (s ∷ push t n e ss)) ≡ grow t n e (own t (s ∷ ss))
      step (yes p) h = own_mine t (grown n e s) ss p ∙ ap (grow t n e) (sym (own_mine t s ss p))
      step (no p) h = own_other t s (push t n e ss) p ∙ h ∙ ap (grow t n e) (sym (own_other t s ss p))

  own_push_other : (t u n : ℕ) (e : Event X) (ss : List (Section X)) → (t ≡ u → ⊥) → own u (push t n e ss) ≡ own u ss
  unfolding push
  own_push_other t u n e [] o = own_other u (opened t n e) [] o
  own_push_other t u n e (s ∷ ss) o = step (ℕ_discrete s.owner t) (ℕ_discrete s.owner u) (own_push_other t u n e ss o)
    where
      step : (d : Dec (s.owner ≡ t)) (d' : Dec (s.owner ≡ u)) → own u (push t n e ss) ≡ own u ss
          → own u (ite {C = List (Section X)} d (grown n e s ∷ ss) (s ∷ push t n e ss)) ≡ own u (s ∷ ss)
      step (yes p) (yes q) h = absurd (o (sym p ∙ q))
      step (yes p) (no q) h = own_other u (grown n e s) ss q ∙ sym (own_other u s ss q)
      step (no p) (yes q) h = own_mine u s (push t n e ss) q ∙ ap (λ l. s ∷ l) h ∙ sym (own_mine u s ss q)
      step (no p) (no q) h = own_other u s (push t n e ss) q ∙ h ∙ sym (own_other u s ss q)

  own_without : (t : ℕ) (ss : List (Section X)) → own t (without t ss) ≡ rest (own t ss)
  unfolding without
  own_without t [] = unfold own in refl
  own_without t (s ∷ ss) = step (ℕ_discrete s.owner t) (own_without t ss)
    where
      step : (d : Dec (s.owner ≡ t)) → own t (without t ss) ≡ rest (own t ss) → own t (ite {C = List (Section X)} d ss (s ∷ without t ss)) ≡ rest (own t (s ∷ ss))
      step (yes p) h = ap rest (sym (own_mine t s ss p))
      step (no p) h = own_other t s (without t ss) p ∙ h ∙ ap rest (sym (own_other t s ss p))

  own_without_other : (t u : ℕ) (ss : List (Section X)) → (t ≡ u → ⊥) → own u (without t ss) ≡ own u ss
  unfolding without
  own_without_other t u [] o = refl
  own_without_other t u (s ∷ ss) o = step (ℕ_discrete s.owner t) (ℕ_discrete s.owner u) (own_without_other t u ss o)
    where
      step : (d : Dec (s.owner ≡ t)) (d' : Dec (s.owner ≡ u)) → own u (without t ss) ≡ own u ss → own u (ite {C = List (Section X)} d ss (s ∷ without t ss)) ≡ own u (s ∷ ss)
      step (yes p) (yes q) h = absurd (o (sym p ∙ q))
      step (yes p) (no q) h = sym (own_other u s ss q)
      step (no p) (yes q) h = own_mine u s (without t ss) q ∙ ap (λ l. s ∷ l) h ∙ sym (own_mine u s ss q)
      step (no p) (no q) h = own_other u s (without t ss) q ∙ h ∙ sym (own_other u s ss q)

  own_current : (t n : ℕ) (ss : List (Section X)) → current t n ss ≡ front t n (own t ss)
  unfolding current
  own_current t n [] = unfold own in refl
  own_current t n (s ∷ ss) = step (ℕ_discrete s.owner t) (own_current t n ss)
    where
      step : (d : Dec (s.owner ≡ t)) → current t n ss ≡ front t n (own t ss) → ite {C = Section X} d s (current t n ss) ≡ front t n (own t (s ∷ ss))
      step (yes p) h = ap (front t n) (sym (own_mine t s ss p))
      step (no p) h = h ∙ ap (front t n) (sym (own_other t s ss p))

  -- ---- one event

  -- of another thread
  pub own_next_other : {B : Type 0} (u : ℕ) (e : Event X) (d : Dec B) (n : ℕ) (ss : List (Section X)) → (thread e ≡ u → ⊥) → own u (next e d n ss) ≡ own u ss
  unfolding next
  own_next_other u (lock j t l) (yes b) n ss o = own_other u (raised t n (lock j t l) (current t n ss)) (without t ss) o ∙ own_without_other t u ss o
  own_next_other u (lock j t l) (no b) n ss o = own_other u (opened t n (lock j t l)) ss o
  own_next_other u (unlock j t l) (yes b) n ss o = own_push_other t u n (unlock j t l) ss o
  own_next_other u (unlock j t l) (no b) n ss o = refl
  own_next_other u (idle t) (yes b) n ss o = own_push_other t u n (idle t) ss o
  own_next_other u (idle t) (no b) n ss o = refl
  own_next_other u (mem k t v x) (yes b) n ss o = own_push_other t u n (mem k t v x) ss o
  own_next_other u (mem k t v x) (no b) n ss o = refl

  -- its own K
  pub own_next_lock : {B : Type 0} (j t l : ℕ) (b : B) (n : ℕ) (ss : List (Section X))
      → own t (next (lock j t l) (yes b) n ss) ≡ raised t n (lock j t l) (front t n (own t ss)) ∷ rest (own t ss)
  unfolding next
  own_next_lock j t l b n ss =
      own_mine t (raised t n (lock j t l) (current t n ss)) (without t ss) refl ∙ rw (own_without t ss, own_current t n ss)

  pub own_next_open : {B : Type 0} (j t l : ℕ) (b : B → ⊥) (n : ℕ) (ss : List (Section X)) → own t (next (lock j t l) (no b) n ss) ≡ opened t n (lock j t l) ∷ own t ss
  unfolding next
  own_next_open j t l b n ss = own_mine t (opened t n (lock j t l)) ss refl
