-- The sections by the position of their last K, and the current section of a thread after one event more.
use Prim.Native.Nat.{ℕ, suc, ◌<◌, ◌≤◌}
use native.Mathlib.Decide.{ℕ_discrete}
use native.Mathlib.Omega.{arith}
use mathlib.Core.Path.{◌≡◌, refl, sym, ◌∙◌}
use mathlib.Core.Logic.{ite}
use mathlib.Core.Bool.{Bool, true, false, cond}
use mathlib.Core.List.{List, [], ◌∷◌}
use lib.IntN.{ℤ}
use borrow.Author.Tests.{ne_eqb}
use Rattle.rules.specs.declared.Counts.{Counts}
use Rattle.serial.specs.Events as E
use Rattle.serial.specs.Lists.{All}
use Rattle.serial.specs.Sections.{Section, opened, grown, raised, push, current, without}
use Rattle.serial.proofs.Lines.{either}
use Rattle.sections.specs.Order.{line_of}
use Rattle.sections.proofs.Viewed.{shape}
use Rattle.ordering.specs.Computed.Parts.{bucket}

abbrev pub Below : ℕ → List (Section ℤ) → Type 0
Below n ss = All (λ (r : Section ℤ). r.top < n) ss

module _ (hd : Counts) where
  -- t's current section begins at line a and has its last K at index b
  unfoldable pub Latest : ℕ → ℕ → ℕ → List (Section ℤ) → Type 0
  Latest t a b [] = ⊥
  Latest t a b (s ∷ ss) = either (ℕ_discrete s.owner t) ((line_of hd s.first ≡ a) × (s.top ≡ suc b)) (Latest t a b ss)

  pub latest_below : (t a b n : ℕ) (ss : List (Section ℤ)) → Below n ss → Latest t a b ss → suc b < n
  unfolding Latest
  latest_below t a b n [] l h = absurd h
  latest_below t a b n (s ∷ ss) l h = step (ℕ_discrete s.owner t) h (latest_below t a b n ss l.1)
    where
      step : (d : Dec (s.owner ≡ t)) → either d ((line_of hd s.first ≡ a) × (s.top ≡ suc b)) (Latest t a b ss) → (Latest t a b ss → suc b < n) → suc b < n
      step (yes p) h r = omega (arith, l.0, h.1)
      step (no p) h r = r h

  pub bucket_above : (ss : List (Section ℤ)) (n q : ℕ) → Below n ss → n ≤ q → bucket hd ss q ≡ 0
  unfolding bucket
  bucket_above [] n q l h = refl
  bucket_above (s ∷ ss) n q l h = rw (ne_eqb s.top q (λ e. omega (arith, e, l.0, h))) (bucket_above ss n q l.1 h)

  current_first : (t n a b : ℕ) (ss : List (Section ℤ)) → Latest t a b ss → line_of hd (current t n ss).first ≡ a
  unfolding Latest current
  current_first t n a b [] h = absurd h
  current_first t n a b (s ∷ ss) h = step (ℕ_discrete s.owner t) h (current_first t n a b ss)
    where
      step : (d : Dec (s.owner ≡ t)) → either d ((line_of hd s.first ≡ a) × (s.top ≡ suc b)) (Latest t a b ss) → (Latest t a b ss → line_of hd (current t n ss).first ≡ a)
          → line_of hd (ite {C = Section ℤ} d s (current t n ss)).first ≡ a
      step (yes p) h r = h.0
      step (no p) h r = r h

  latest_front : (t a b : ℕ) (s : Section ℤ) (ss : List (Section ℤ)) → s.owner ≡ t → line_of hd s.first ≡ a → s.top ≡ suc b → Latest t a b (s ∷ ss)
  unfolding Latest
  latest_front t a b s ss p x y = step (ℕ_discrete s.owner t)
    where
      step : (d : Dec (s.owner ≡ t)) → either d ((line_of hd s.first ≡ a) × (s.top ≡ suc b)) (Latest t a b ss)
      step (yes q) = (x, y)
      step (no q) = absurd (q p)

  latest_behind : (t a b : ℕ) (s : Section ℤ) (ss : List (Section ℤ)) → (s.owner ≡ t → ⊥) → Latest t a b ss → Latest t a b (s ∷ ss)
  unfolding Latest
  latest_behind t a b s ss p h = step (ℕ_discrete s.owner t)
    where
      step : (d : Dec (s.owner ≡ t)) → either d ((line_of hd s.first ≡ a) × (s.top ≡ suc b)) (Latest t a b ss)
      step (yes q) = absurd (p q)
      step (no q) = h

  pub latest_push : (t n a b : ℕ) (e : E.Event ℤ) (ss : List (Section ℤ)) → Latest t a b ss → Latest t a b (push t n e ss)
  unfolding Latest push
  latest_push t n a b e [] h = absurd h
  latest_push t n a b e (s ∷ ss) h = step (ℕ_discrete s.owner t) refl h (latest_push t n a b e ss)
    where
      step : (d : Dec (s.owner ≡ t)) → ℕ_discrete s.owner t ≡ d → either d ((line_of hd s.first ≡ a) × (s.top ≡ suc b)) (Latest t a b ss) → (Latest t a b ss → Latest t a b (push t n e ss))
          → Latest t a b (ite {C = List (Section ℤ)} d (grown n e s ∷ ss) (s ∷ push t n e ss))
      step (yes p) q h r = rw q h
      step (no p) q h r = rw q (r h)

  latest_push_other : (t u n a b : ℕ) (e : E.Event ℤ) (ss : List (Section ℤ)) → (t ≡ u → ⊥) → Latest u a b ss → Latest u a b (push t n e ss)
  unfolding Latest push
  latest_push_other t u n a b e [] o h = absurd h
  latest_push_other t u n a b e (s ∷ ss) o h = step (ℕ_discrete s.owner t) (ℕ_discrete s.owner u) refl h (latest_push_other t u n a b e ss o)
    where
      step : (d : Dec (s.owner ≡ t)) (d' : Dec (s.owner ≡ u)) → ℕ_discrete s.owner u ≡ d' → either d' ((line_of hd s.first ≡ a) × (s.top ≡ suc b)) (Latest u a b ss)
          → (Latest u a b ss → Latest u a b (push t n e ss)) → Latest u a b (ite {C = List (Section ℤ)} d (grown n e s ∷ ss) (s ∷ push t n e ss))
      step (yes p) (yes p') q h r = absurd (o (sym p ∙ p'))
      step (yes p) (no p') q h r = rw q h
      step (no p) (yes p') q h r = rw q h
      step (no p) (no p') q h r = rw q (r h)

  latest_without : (t u a b : ℕ) (ss : List (Section ℤ)) → (t ≡ u → ⊥) → Latest u a b ss → Latest u a b (without t ss)
  unfolding Latest without
  latest_without t u a b [] o h = absurd h
  latest_without t u a b (s ∷ ss) o h = step (ℕ_discrete s.owner t) (ℕ_discrete s.owner u) refl h (latest_without t u a b ss o)
    where
      step : (d : Dec (s.owner ≡ t)) (d' : Dec (s.owner ≡ u)) → ℕ_discrete s.owner u ≡ d' → either d' ((line_of hd s.first ≡ a) × (s.top ≡ suc b)) (Latest u a b ss)
          → (Latest u a b ss → Latest u a b (without t ss)) → Latest u a b (ite {C = List (Section ℤ)} d ss (s ∷ without t ss))
      step (yes p) (yes p') q h r = absurd (o (sym p ∙ p'))
      step (yes p) (no p') q h r = h
      step (no p) (yes p') q h r = rw q h
      step (no p) (no p') q h r = rw q (r h)

  -- thread t's section after its K at index i
  pub latest_lock : (i t a line : ℕ) (e : E.Event ℤ) (ss : List (Section ℤ)) → line ≡ line_of hd (suc i) → (busy : Bool) → (busy ≡ true → (j : ℕ) × Latest t a j ss)
      → Latest t (cond busy a line) i (shape true busy t (suc i) e ss)
  latest_lock i t a line e ss at true f = latest_front t a i (raised t (suc i) e (current t (suc i) ss)) (without t ss) refl (current_first t (suc i) a (f refl).0 ss (f refl).1) refl
  latest_lock i t a line e ss at false f = latest_front t line i (opened t (suc i) e) ss refl (sym at) refl

  -- another thread's section after an event of thread t
  pub latest_other : (i t : ℕ) (e : E.Event ℤ) (ss : List (Section ℤ)) (lock busy : Bool) (u b c : ℕ) → (t ≡ u → ⊥) → Latest u b c ss → Latest u b c (shape lock busy t (suc i) e ss)
  latest_other i t e ss true true u b c o h = latest_behind u b c (raised t (suc i) e (current t (suc i) ss)) (without t ss) o (latest_without t u b c ss o h)
  latest_other i t e ss true false u b c o h = latest_behind u b c (opened t (suc i) e) ss o h
  latest_other i t e ss false true u b c o h = latest_push_other t u (suc i) b c e ss o h
  latest_other i t e ss false false u b c o h = h
