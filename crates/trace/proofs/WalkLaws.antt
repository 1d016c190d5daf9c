-- Laws of the numbers of a line, one after the other: ys are the fields behind the letter.
use Rattle.std.proofs.Common.{◌≡◌, refl, sym, ap, ◌∙◌, arith, [], ◌∷◌, zero, suc, Bool, true, List, ℕ, ◌+◌, ◌<◌, ◌≤◌, length, get_or, drop, set, Some, None, add-one, drop-cons}
use lib.ListN.{drop_of_length-le}
use Rattle.std.specs.List.{enumerate_from}
use Rattle.std.proofs.lemmas.List.FromFn.{length-enumerate_from, get_or-enumerate_from}
use Rattle.decimal.specs.Decimal.{natural_of}
use Rattle.trace.specs.Trace.{number_within, locks_from, volatiles_from}

-- what a `for` over numbered fields gives: the number of those before it, and the field
pub numbered : (ys : List (List ℕ)) (k i : ℕ) (f : List ℕ) → (k < length (enumerate_from 0 ys)) × ((i, f) ≡ get_or (enumerate_from 0 ys) k (i, f))
    → (i ≡ k) × (k < length ys) × (f ≡ get_or ys k f)
numbered ys k i f h =
    let lt : k < length ys = omega (arith, h.0, length-enumerate_from 0 ys) in
    let e = h.1 ∙ get_or-enumerate_from 0 ys k (i, f) lt in
    (omega (arith, ap (λ (p : ℕ × List ℕ). p.0) e), lt, ap (λ (p : ℕ × List ℕ). p.1) e)

-- a place past the end takes nothing
pub set_past : {A : Type 0} (l : List A) (i : ℕ) (a : A) → length l ≤ i → l ≡ set l i a
set_past [] i a h = refl
set_past (x ∷ xs) zero a h = absurd (omega arith)
set_past (x ∷ xs) (suc i) a h = ap (λ (l : List _). x ∷ l) (set_past xs i a (omega arith))

-- the field f with the lock of the i-th variable
module _ (l i : ℕ) (g : List ℕ) (ys : List (List ℕ)) where
  module _ (f : List ℕ) (h : (i < length ys) × (f ≡ get_or ys i f)) where
    pub locks_some : (n : ℕ) (g' : List ℕ) → number_within 0 l (natural_of f) ≡ Some n → g' ≡ set g i n → locks_from i g l (drop i ys) ≡ locks_from (i + 1) g' l (drop (i + 1) ys)
    unfolding locks_from
    locks_some n g' q e = let lt = h.0 in rw (drop-cons ys i f lt, sym h.1, q, add-one i, e)

    pub locks_none : number_within 0 l (natural_of f) ≡ None → locks_from i g l (drop i ys) ≡ None
    unfolding locks_from
    locks_none q = let lt = h.0 in rw (drop-cons ys i f lt, sym h.1, q)

  pub locks_end : length ys ≤ i → Some g ≡ locks_from i g l (drop i ys)
  unfolding locks_from
  locks_end h = rw (drop_of_length-le ys {i = i} h)

-- the field f with the i-th volatile variable
module _ (v low i : ℕ) (g : List Bool) (ys : List (List ℕ)) where
  module _ (f : List ℕ) (h : (i < length ys) × (f ≡ get_or ys i f)) where
    pub volatiles_some : (n : ℕ) (g' : List Bool) → number_within low v (natural_of f) ≡ Some n → g' ≡ set g n true
        → volatiles_from v low g (drop i ys) ≡ volatiles_from v (n + 1) g' (drop (i + 1) ys)
    unfolding volatiles_from
    volatiles_some n g' q e = let lt = h.0 in rw (drop-cons ys i f lt, sym h.1, q, add-one i, e)

    pub volatiles_none : number_within low v (natural_of f) ≡ None → volatiles_from v low g (drop i ys) ≡ None
    unfolding volatiles_from
    volatiles_none q = let lt = h.0 in rw (drop-cons ys i f lt, sym h.1, q)

  pub volatiles_end : length ys ≤ i → Some g ≡ volatiles_from v low g (drop i ys)
  unfolding volatiles_from
  volatiles_end h = rw (drop_of_length-le ys {i = i} h)
