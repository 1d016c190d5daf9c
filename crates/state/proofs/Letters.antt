-- A letter that is one of a list, and one that is not.
use Prim.Native.Nat.{ℕ}
use mathlib.Core.Path.{◌≡◌, refl, sym, subst}
use mathlib.Core.Bool.{Bool, true, false, not, ◌&&◌, ◌||◌}
use mathlib.Core.List.{List, [], ◌∷◌}
use lib.Dec.{T, eqb}
use borrow.Author.Tests.{eqb-true, ne_eqb}
use Rattle.rules.specs.Events.{among}

pub not_letter : {k n : ℕ} → (k ≡ n → ⊥) → eqb n k ≡ false
not_letter {k} {n} d = ne_eqb n k (λ q. d (sym q))

-- Q holds of each letter of the list
abbrev pub All : (ℕ → Type 0) → List ℕ → Type 0
All Q [] = Unit {0}
All Q (k ∷ ks) = Q k × All Q ks

-- so it holds of a letter that is one of them
pub by_letters : (Q : ℕ → Type 0) (ks : List ℕ) → All Q ks → (k : ℕ) → T (among ks k) → Q k
by_letters Q [] a k h = absurd h
by_letters Q (n ∷ ks) a k h = go (eqb n k) refl h (λ z. by_letters Q ks a.1 k z)
  where
    go : (b : Bool) → eqb n k ≡ b → T (b || among ks k) → (T (among ks k) → Q k) → Q k
    go true e h more = subst Q (eqb-true n k e) a.0
    go false e h more = more h

-- none of ks is one of ls
abbrev pub disjoint : List ℕ → List ℕ → Bool
disjoint [] ls = true
disjoint (k ∷ ks) ls = not (among ls k) && disjoint ks ls

-- so a letter of ks is none of ls
pub none_of : (ks ls : List ℕ) → T (disjoint ks ls) → (k : ℕ) → T (among ks k) → among ls k ≡ false
none_of ks ls d k h = by_letters (λ n. among ls n ≡ false) ks (all ks d) k h
  where
    one : (a b : Bool) → T (not a && b) → (a ≡ false) × T b
    one true b h = absurd h
    one false b h = (refl, h)

    all : (ks : List ℕ) → T (disjoint ks ls) → All (λ n. among ls n ≡ false) ks
    all [] d = tt
    all (k ∷ ks) d = let q = one (among ls k) (disjoint ks ls) d in (q.0, all ks q.1)
