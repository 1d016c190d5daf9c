-- The ranks of the K, and what the scratch holds for each event once the place of a K is written.
use Prim.Native.Nat.{ℕ, zero, suc, ◌<◌, ◌≤◌}
use native.Mathlib.Decide.{ℕ_discrete, dec_lt}
use native.Mathlib.Omega.{arith}
use mathlib.Core.Path.{◌≡◌, refl, ap}
use mathlib.Core.Bool.{Bool, true, false, cond}
use mathlib.Core.List.{List}
use lib.Dec.{eqb}
use lib.ListN.{length, get_or, set}
use lib.Seq.{get_or-set_same, get_or-set_other}
use borrow.Author.Tests.{eq-eqb, ne_eqb}
use Rattle.rules.specs.declared.Event.{Event}
use Rattle.rules.specs.Events.{locks}
use Rattle.rules.specs.Words.{count}
use Rattle.ordering.specs.Computed.Parts.{past, rank, scratch_at}

module _ (ev : ℕ → Event) where
  pub rank_lock : (i : ℕ) → locks (ev i) ≡ true → rank ev (suc i) ≡ suc (rank ev i)
  unfolding rank past count
  rank_lock i q = rw q refl

  pub rank_other : (i : ℕ) → locks (ev i) ≡ false → rank ev (suc i) ≡ rank ev i
  unfolding rank past count
  rank_other i q = rw q refl

  rank_next : (i : ℕ) → (rank ev i ≤ rank ev (suc i)) × (rank ev (suc i) ≤ suc (rank ev i))
  rank_next i = by (locks (ev i)) refl
    where
      by : (b : Bool) → locks (ev i) ≡ b → (rank ev i ≤ rank ev (suc i)) × (rank ev (suc i) ≤ suc (rank ev i))
      by true q = let z = rank_lock i q in (omega (arith, z), omega (arith, z))
      by false q = let z = rank_other i q in (omega (arith, z), omega (arith, z))

  pub rank_few : (i : ℕ) → rank ev i ≤ i
  unfolding rank past count
  rank_few zero = omega arith
  rank_few (suc i) = omega (arith, (rank_next i).1, rank_few i)

  pub rank_upto : (i j : ℕ) → i ≤ j → rank ev i ≤ rank ev j
  rank_upto i zero l = let z = ap (rank ev) {x = i} {y = 0} (omega (arith, l)) in omega (arith, z)
  rank_upto i (suc j) l = by (dec_lt j i) (rank_upto i j)
    where
      by : Dec (j < i) → (i ≤ j → rank ev i ≤ rank ev j) → rank ev i ≤ rank ev (suc j)
      by (yes d) f = let z = ap (rank ev) {x = i} {y = suc j} (omega (arith, d, l)) in omega (arith, z)
      by (no d) f = omega (arith, f (omega (arith, d)), (rank_next j).0)

  pub rank_below : (i j : ℕ) → i < j → locks (ev i) ≡ true → rank ev i < rank ev j
  rank_below i j l q = omega (arith, rank_lock i q, rank_upto (suc i) j l)

  -- the place of the K at index j is written
  pub scratch_set : (S : List ℕ) (j y : ℕ) → locks (ev j) ≡ true → rank ev j < length S → (p : ℕ) → scratch_at ev (set S (rank ev j) y) p ≡ cond (eqb (suc j) (suc p)) y (scratch_at ev S p)
  unfolding scratch_at
  scratch_set S j y q l p = go (ℕ_discrete p j)
    where
      apart : locks (ev p) ≡ true → (p ≡ j → ⊥) → rank ev p ≡ rank ev j → ⊥
      apart w o z = by (dec_lt p j)
        where
          by : Dec (p < j) → ⊥
          by (yes d) = omega (arith, z, rank_below p j d w)
          by (no d) = omega (arith, z, rank_below j p (omega (arith, d, o)) q)

      other : (b : Bool) → locks (ev p) ≡ b → (p ≡ j → ⊥) → cond b (get_or (set S (rank ev j) y) (rank ev p) 0) 0 ≡ cond b (get_or S (rank ev p) 0) 0
      other true w o = get_or-set_other S (rank ev j) (rank ev p) y 0 (apart w o)
      other false w o = refl

      go : Dec (p ≡ j) → cond (locks (ev p)) (get_or (set S (rank ev j) y) (rank ev p) 0) 0 ≡ cond (eqb (suc j) (suc p)) y (cond (locks (ev p)) (get_or S (rank ev p) 0) 0)
      go (yes o) = rw (o, q, eq-eqb (suc j) (suc j) refl) (get_or-set_same S (rank ev j) y 0 l)
      go (no o) = rw (ne_eqb (suc j) (suc p) (λ z. o (omega (arith, z)))) (other (locks (ev p)) refl o)

  -- it holds nothing for an event other than a K
  pub scratch_none : (S : List ℕ) (j : ℕ) → locks (ev j) ≡ false → (p : ℕ) → scratch_at ev S p ≡ cond (eqb (suc j) (suc p)) 0 (scratch_at ev S p)
  unfolding scratch_at
  scratch_none S j q p = go (ℕ_discrete p j)
    where
      go : Dec (p ≡ j) → cond (locks (ev p)) (get_or S (rank ev p) 0) 0 ≡ cond (eqb (suc j) (suc p)) 0 (cond (locks (ev p)) (get_or S (rank ev p) 0) 0)
      go (yes o) = rw (o, q, eq-eqb (suc j) (suc j) refl) refl
      go (no o) = rw (ne_eqb (suc j) (suc p) (λ z. o (omega (arith, z)))) refl
