-- The counts add up to the traces, and the row of counts holds them.
use Prim.Native.Nat.{ℕ, zero, suc, ◌≤◌, ◌<◌, ◌+◌}
use native.Mathlib.Omega.{arith}
use mathlib.Core.Path.{◌≡◌, refl, sym, ap, ◌∙◌}
use mathlib.Core.Bool.{Bool, true, false, cond}
use mathlib.Core.List.{List, [], ◌∷◌}
use borrow.Author.Tests.{ltb-true, ltb-false, eqb-true, eqb-false, lt-ltb, le-ltb}
use lib.Dec.{eqb, ltb}
use lib.ListN.{length, get_or, set, length-set, length-replicate, get_or-replicate, length-map}
use lib.Seq.{get_or-set_same, get_or-set_other}
use Rattle.rules.specs.declared.Course.{Course}
use Rattle.rules.specs.Limits.{Limits, limits_of}
use Rattle.rules.specs.Rules.{number_in}
use Rattle.rules.proofs.Sums.{total, total_none}
use Rattle.serial.specs.Lists.{All}
use Rattle.marking.specs.Marking.{marked_of}
use Rattle.session.specs.Counting.{numbers_of, times}
use Rattle.session.specs.Session.{greatest}
use Rattle.session.specs.Computed.Tally.{counts_of, count_in}
use Rattle.session.proofs.Numbers.{numbers_low}

pub times_most : (k : ℕ) (ns : List ℕ) → times k ns ≤ length ns
unfolding times
times_most k [] = omega arith
times_most k (n ∷ ns) = by (eqb n k) (times_most k ns)
  where
    by : (t : Bool) → times k ns ≤ length ns → cond t (suc (times k ns)) (times k ns) ≤ suc (length ns)
    by true h = omega arith
    by false h = omega arith

pub numbers_length : (m : Limits) (ts : List (List ℕ)) → length (numbers_of m ts) ≡ length ts
unfolding numbers_of
numbers_length m ts = length-map ts (λ t. number_in (marked_of m t))

-- ---- the sum

-- one number more is counted once where it is below m
total_more : (m n : ℕ) (ns : List ℕ) → total m (λ k. times k (n ∷ ns)) ≡ total m (λ k. times k ns) + cond (ltb n m) 1 0
unfolding total times
total_more zero n ns = rw (le-ltb n 0 (omega arith)) refl
total_more (suc m) n ns = by (eqb n m) (ltb n m) (ltb n (suc m)) refl refl refl (total_more m n ns)
  where
    by : (p q r : Bool) → eqb n m ≡ p → ltb n m ≡ q → ltb n (suc m) ≡ r
        → total m (λ k. times k (n ∷ ns)) ≡ total m (λ k. times k ns) + cond q 1 0
        → cond p (suc (times m ns)) (times m ns) + total m (λ k. times k (n ∷ ns)) ≡ times m ns + total m (λ k. times k ns) + cond r 1 0
    by true true r a b c e = absurd (omega (arith, eqb-true n m a, ltb-true n m b))
    by true false true a b c e = omega arith
    by true false false a b c e = absurd (omega (arith, eqb-true n m a, ltb-false n (suc m) c))
    by false true true a b c e = omega arith
    by false true false a b c e = absurd (omega (arith, ltb-true n m b, ltb-false n (suc m) c))
    by false false true a b c e = absurd (let z = eqb-false n m a in z (omega (arith, ltb-false n m b, ltb-true n (suc m) c)))
    by false false false a b c e = omega arith

total_all : (m : ℕ) (ns : List ℕ) → All (λ n. n < m) ns → total m (λ k. times k ns) ≡ length ns
total_all m [] f = total_none m (λ k. times k []) (λ u l. unfold times in refl)
total_all m (n ∷ ns) f = total_more m n ns ∙ rw (lt-ltb n m f.0) (omega (arith, total_all m ns f.1))

-- the first apart
total_first : (m : ℕ) (f : ℕ → ℕ) → total (suc m) f ≡ f 0 + total m (λ k. f (suc k))
unfolding total
total_first zero f = omega arith
total_first (suc m) f = omega (arith, total_first m f)

-- The counts add up to the papers: those that are accepted, and those of the numbers 1 to 30.
pub adds_up : (c : Course) (ts : List (List ℕ))
    → times 0 (numbers_of (limits_of c) ts) + total greatest (λ k. times (suc k) (numbers_of (limits_of c) ts)) ≡ length ts
adds_up c ts =
    let ns = numbers_of (limits_of c) ts in
    sym (total_first greatest (λ k. times k ns)) ∙ total_all (suc greatest) ns (numbers_low c ts) ∙ numbers_length (limits_of c) ts

-- ---- the row of counts

counts_length : (ns : List ℕ) → length (counts_of ns) ≡ suc greatest
unfolding counts_of
counts_length [] = length-replicate {A = ℕ} (suc greatest) 0
counts_length (n ∷ ns) = length-set (counts_of ns) n (get_or (counts_of ns) n 0 + 1) ∙ counts_length ns

pub counts_are : (ns : List ℕ) (k : ℕ) → k < suc greatest → count_in (counts_of ns) k ≡ times k ns
unfolding counts_of times
counts_are [] k h = get_or-replicate {A = ℕ} (suc greatest) k 0 0 h
counts_are (n ∷ ns) k h = by (eqb n k) refl (counts_are ns k h)
  where
    by : (t : Bool) → eqb n k ≡ t → get_or (counts_of ns) k 0 ≡ times k ns
        → get_or (set (counts_of ns) n (get_or (counts_of ns) n 0 + 1)) k 0 ≡ cond t (suc (times k ns)) (times k ns)
    by true r e =
        let s = eqb-true n k r in
        ap (λ (i : ℕ). get_or (set (counts_of ns) n (get_or (counts_of ns) i 0 + 1)) k 0) s
        ∙ ap (λ (i : ℕ). get_or (set (counts_of ns) i (get_or (counts_of ns) k 0 + 1)) k 0) s
        ∙ get_or-set_same (counts_of ns) k (get_or (counts_of ns) k 0 + 1) 0 (omega (arith, h, counts_length ns)) ∙ omega (arith, e)
    by false r e = get_or-set_other (counts_of ns) n k (get_or (counts_of ns) n 0 + 1) 0 (λ z. eqb-false n k r (sym z)) ∙ e
