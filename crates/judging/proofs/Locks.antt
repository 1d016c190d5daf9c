-- Rule 11 from the holder alone, and a search for one number.
use Prim.Native.Nat.{ℕ, zero, suc, ◌+◌, ◌≤◌, ◌<◌}
use native.Mathlib.Omega.{arith}
use mathlib.Core.Path.{◌≡◌, refl, sym, ◌∙◌}
use mathlib.Core.Bool.{Bool, true, false, not, cond, ◌&&◌, ◌||◌, and-false, or-false}
use lib.Dec.{eqb, ltb, leb}
use borrow.Author.Tests.{lt-ltb, le-leb, lt-leb, ltb-true, leb-true, leb-false, eqb-true, eqb-false, ne_eqb}
use Rattle.rules.specs.Rules.{some}
use Rattle.rules.proofs.Laws.{some_ext}
use Rattle.state.specs.declared.Hold.{Hold}
use Rattle.state.specs.State.{depth_of}
use Rattle.state.proofs.StepWords.{holder_eqb}
use Rattle.judging.specs.Computed.Checks.{others_hold}

-- a number up to h is not h + 1
pub not_above : {n h : ℕ} → n ≤ h → eqb n (h + 1) ≡ false
not_above {n} {h} l = ne_eqb n (h + 1) (apart l)
  where
    apart : n ≤ h → n ≡ h + 1 → ⊥
    apart l q = omega arith

-- the number h - 1 is below n and has f
pub found_below : (h : ℕ) (f : ℕ → Bool) (n : ℕ) → some n (λ u. eqb h (u + 1) && f (u + 1)) ≡ (ltb 0 h && leb h n && f h)
unfolding some
found_below h f zero = go (ltb 0 h) refl
  where
    go : (b : Bool) → ltb 0 h ≡ b → false ≡ (b && leb h 0 && f h)
    go true p = let q = ltb-true 0 h p in rw (lt-leb h 0 (omega arith)) refl
    go false p = refl
found_below h f (suc n) = rw (found_below h f n) (go (eqb h (n + 1)) refl)
  where
    more : (h ≡ n + 1 → ⊥) → (b : Bool) → leb h n ≡ b → leb h (suc n) ≡ b
    more d true p = let q = leb-true h n p in le-leb h (suc n) (omega arith)
    more d false p = let q = leb-false h n p in lt-leb h (suc n) (strict d q)
      where
        strict : (h ≡ n + 1 → ⊥) → n < h → suc n < h
        strict d q = omega arith

    go : (b : Bool) → eqb h (n + 1) ≡ b → (b && f (n + 1) || (ltb 0 h && leb h n && f h)) ≡ (ltb 0 h && leb h (suc n) && f h)
    go true p =
        let q = eqb-true h (n + 1) p in
        rw (q, lt-ltb 0 (n + 1) (omega arith), lt-leb (n + 1) n (omega arith), le-leb (n + 1) (suc n) (omega arith), or-false) refl
    go false p = rw (more (eqb-false h (n + 1) p) (leb h n) refl) refl

pub others_same : (a : Hold) (n t : ℕ) → t < 8 → n ≤ 8 → others_hold a n t ≡ some n (λ u. not (eqb u t) && ltb 0 (depth_of a u))
unfolding others_hold depth_of
others_same a n t l m = rw (lt-ltb t 8 l)
    (assoc (ltb 0 a.holder && leb a.holder n) (not (eqb a.holder (t + 1))) (ltb 0 a.depth)
    ∙ sym (some_ext n (λ u. not (eqb u t) && ltb 0 (depth_of a u)) (λ u. eqb a.holder (u + 1) && other (u + 1)) (λ u k. at u (omega arith)) ∙ found_below a.holder other n))
  where
    other : ℕ → Bool
    other h = not (eqb h (t + 1)) && ltb 0 a.depth

    assoc : (a b c : Bool) → (a && b && c) ≡ (a && (b && c))
    assoc true b c = refl
    assoc false b c = refl

    at : (u : ℕ) → u < 8 → (not (eqb u t) && ltb 0 (depth_of a u)) ≡ (eqb a.holder (u + 1) && other (u + 1))
    at u k = rw (lt-ltb u 8 k, holder_eqb u t) (go (eqb a.holder (u + 1)))
      where
        go : (b : Bool) → (not (eqb u t) && ltb 0 (cond b a.depth 0)) ≡ (b && (not (eqb u t) && ltb 0 a.depth))
        go true = refl
        go false = and-false (not (eqb u t))

-- no hold, as a test
pub none_held : (n : ℕ) → eqb n 0 ≡ not (ltb 0 n)
none_held zero = refl
none_held (suc n) = let l : 0 < suc n = omega arith in rw (lt-ltb 0 (suc n) l, ne_eqb (suc n) 0 (λ (q : suc n ≡ 0). omega arith))
