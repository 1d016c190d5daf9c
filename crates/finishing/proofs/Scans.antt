-- Scans of records, one after the other.
use Prim.Native.Nat.{ℕ, zero, suc, pred, ◌+◌, ◌≤◌, ◌<◌}
use native.Mathlib.Omega.{arith}
use mathlib.Core.Path.{◌≡◌, refl, sym, ap, ◌∙◌}
use mathlib.Core.Bool.{Bool, true, false, cond}
use mathlib.Core.List.{List, [], ◌∷◌, ◌++◌}
use lib.Dec.{eqb}
use lib.IntN.{ℤ}
use lib.ListN.{length, get_or, take, length-append}
use Rattle.std.specs.List.{fold, zip}
use Rattle.std.proofs.lemmas.List.{take_more}
use Rattle.std.proofs.lemmas.List.Sums.{fold_push}
use Rattle.std.proofs.lemmas.Slice.Zip.{firsts-zip}
use Rattle.rules.specs.Events.{K, L, N, W}
use Rattle.records.specs.Records.{letter_in}
use Rattle.finishing.specs.declared.Entry.{Entry}
use Rattle.finishing.specs.declared.Facts.{Facts}
use Rattle.finishing.specs.Computed.Parts.{entry, here, only_here, facts_after, no_facts, facts_in, depth_after, hold_after, depth_in, whats_of}

-- records with their values, without them
pub whats_are : (ws : List ℕ) (xs : List ℤ) (rs : List (ℕ × ℤ)) → zip ws xs ≡ rs → length xs ≡ length ws → ws ≡ whats_of rs
whats_are ws xs rs q l = sym (firsts-zip ws xs l) ∙ ap whats_of q

-- ---- the facts of a thread and variable

module _ (t v : ℕ) where
  -- how many loads and writes there are at most
  pub record Few (f : Facts) (i : ℕ) : Type 0 where
    pub loads : f.loads ≤ i
    pub writes : f.writes ≤ i

  pub few_more : (e : Entry) (f : Facts) (i : ℕ) → Few f i → Few (only_here t v facts_after e f) (i + 1)
  unfolding facts_after
  few_more e f i k = go (here t v e.what)
    where
      one : (b : Bool) → cond b 1 0 ≤ 1
      one true = omega arith
      one false = omega arith

      go : (b : Bool) → Few (cond b (facts_after e f) f) (i + 1)
      go true = record { loads = omega (arith, k.loads, one (eqb (letter_in e.what) L)); writes = omega (arith, k.writes, one (eqb (letter_in e.what) W)) }
      go false = record { loads = omega (arith, k.loads); writes = omega (arith, k.writes) }

  -- the facts after these records; there are no more loads and writes than records
  pub record Scanned (rs : List (ℕ × ℤ)) (f : Facts) : Type 0 where
    pub says : f ≡ facts_in t v rs
    pub loads : f.loads ≤ length rs
    pub writes : f.writes ≤ length rs

  pub scanned_start : (f : Facts) → f ≡ no_facts → Scanned [] f
  unfolding facts_in
  scanned_start f q = record { says = q; loads = omega (arith, ap (λ (k : Facts). k.loads) q); writes = omega (arith, ap (λ (k : Facts). k.writes) q) }

  -- one record more, of t on v or not
  more : (rs : List (ℕ × ℤ)) (f g : Facts) (w : ℕ) (x : ℤ) → Scanned rs f → g ≡ only_here t v facts_after (entry w x) f → Scanned (rs ++ ((w, x) ∷ [])) g
  unfolding facts_in
  more rs f g w x s q =
      let few = few_more (entry w x) f (length rs) (record { loads = s.loads; writes = s.writes }) in
      record {
        says = q ∙ ap (only_here t v facts_after (entry w x)) s.says ∙ sym (fold_push (λ y r. only_here t v facts_after (entry r.0 r.1) y) no_facts rs (w, x));
        loads = omega (arith, ap (λ (k : Facts). k.loads) q, few.loads, length-append rs ((w, x) ∷ []));
        writes = omega (arith, ap (λ (k : Facts). k.writes) q, few.writes, length-append rs ((w, x) ∷ []));
      }

  pub scanned_here : (rs : List (ℕ × ℤ)) (f g : Facts) (w : ℕ) (x : ℤ) → Scanned rs f → here t v w ≡ true → g ≡ facts_after (entry w x) f → Scanned (rs ++ ((w, x) ∷ [])) g
  scanned_here rs f g w x s h q = more rs f g w x s (q ∙ rw h refl)

  pub scanned_other : (rs : List (ℕ × ℤ)) (f : Facts) (w : ℕ) (x : ℤ) → Scanned rs f → here t v w ≡ false → Scanned (rs ++ ((w, x) ∷ [])) f
  scanned_other rs f w x s h = more rs f f w x s (rw h refl)

-- ---- how often a thread holds a lock

pub depth_few : (k d i : ℕ) (b : Bool) → d ≤ i → cond b (depth_after k d) d ≤ i + 1
unfolding depth_after
depth_few k d i b h = go d h b (eqb k K) (eqb k N)
  where
    go : (d : ℕ) → d ≤ i → (b p q : Bool) → cond b (cond p (suc d) (cond q (pred d) d)) d ≤ i + 1
    go d h true true q = omega arith
    go zero h true false true = omega arith
    go (suc d) h true false true = omega arith
    go d h true false false = omega arith
    go d h false p q = omega arith

module _ (t l : ℕ) where
  pub hold_few : (d w : ℕ) → hold_after t l d w ≤ d + 1
  hold_few d w = depth_few (letter_in w) d d (here t l w) (omega arith)

  pub depth_more : (ws : List ℕ) (i d e : ℕ) → i < length ws → d ≡ depth_in t l (take i ws) → e ≡ hold_after t l d (get_or ws i 0) → e ≡ depth_in t l (take (i + 1) ws)
  unfolding depth_in
  depth_more ws i d e h p q =
      q ∙ ap (λ (n : ℕ). hold_after t l n (get_or ws i 0)) p ∙ sym (fold_push (hold_after t l) 0 (take i ws) (get_or ws i 0))
      ∙ ap (fold (hold_after t l) 0) (sym (take_more ws i 0 h))
