-- The share is in lowest terms.
use mathlib.Core.Path.{◌≡◌, refl, sym, ap, ◌∙◌}
use mathlib.Core.Bool.{Bool, true, false, cond, ◌&&◌}
use Prim.Native.Nat.{ℕ, zero, suc, ◌≤◌, ◌<◌, ◌*◌, ◌/◌, ◌%◌}
use native.Mathlib.Nat.{mul_comm, mul_assoc, mul-suc, mul_left_comm, zero-mul, div-add-mod, mul-mod_right}
use native.Mathlib.Omega.{arith}
use borrow.Author.Tests.{eq-eqb, ne_eqb, eqb-true, eqb-false}
use lib.Dec.{eqb}
use Rattle.session.specs.Counting.{divides_both, common, above, beneath, Lowest}

-- d divides both where the rests are 0
both_rests : (d a b : ℕ) → divides_both d a b ≡ true → (a % d ≡ 0) × (b % d ≡ 0)
both_rests d a b e = by (eqb (a % d) 0) (eqb (b % d) 0) refl refl e
  where
    by : (p q : Bool) → eqb (a % d) 0 ≡ p → eqb (b % d) 0 ≡ q → p && q ≡ true → (a % d ≡ 0) × (b % d ≡ 0)
    by true true r s e = (eqb-true (a % d) 0 r, eqb-true (b % d) 0 s)
    by true false r s e = absurd (let z : ◌≡◌ {A = ℕ} 0 1 = cc in omega arith)
    by false q r s e = absurd (let z : ◌≡◌ {A = ℕ} 0 1 = cc in omega arith)

-- the greatest number up to m that divides both: it is not 0 and divides both, and no greater one up to m does
record Greatest (m a b g : ℕ) : Type 0 where
  some : 0 < g
  left : a ≡ g * (a / g)
  right : b ≡ g * (b / g)
  most : (d : ℕ) → d ≤ m → a % d ≡ 0 → b % d ≡ 0 → d ≤ g

whole : (d a : ℕ) → a % d ≡ 0 → a ≡ d * (a / d)
whole d a e = omega (arith, div-add-mod a d, e)

common_greatest : (m a b : ℕ) → Greatest m a b (common m a b)
unfolding common
common_greatest zero a b = record {
  some = omega arith;
  left = omega arith;
  right = omega arith;
  most = λ d h x y. omega arith;
}
common_greatest (suc m) a b = by (divides_both (suc m) a b) refl (common_greatest m a b)
  where
    more : (d : ℕ) (g : ℕ) → Greatest m a b g → divides_both (suc m) a b ≡ false → d ≤ suc m → a % d ≡ 0 → b % d ≡ 0 → (t : Bool) → eqb d (suc m) ≡ t → d ≤ g
    more d g r e h x y true k =
        let s = eqb-true d (suc m) k in
        let p : a % suc m ≡ 0 = ap (λ (i : ℕ). a % i) (sym s) ∙ x in
        let q : b % suc m ≡ 0 = ap (λ (i : ℕ). b % i) (sym s) ∙ y in
        let z : divides_both (suc m) a b ≡ true = rw (eq-eqb (a % suc m) 0 p, eq-eqb (b % suc m) 0 q) in
        absurd (let z : ◌≡◌ {A = ℕ} 0 1 = cc in omega arith)
    more d g r e h x y false k = r.most d (let n = eqb-false d (suc m) k in omega (arith, n, h)) x y

    by : (t : Bool) → divides_both (suc m) a b ≡ t → Greatest m a b (common m a b) → Greatest (suc m) a b (cond t (suc m) (common m a b))
    by true e r =
        let d = both_rests (suc m) a b e in
        record { some = omega arith; left = whole (suc m) a d.0; right = whole (suc m) b d.1; most = λ d h x y. h }
    by false e r = record { some = r.some; left = r.left; right = r.right; most = λ d h x y. more d (common m a b) r e h x y (eqb d (suc m)) refl }

pub common_some : (m a b : ℕ) → 0 < common m a b
common_some m a b = (common_greatest m a b).some

-- a product with a number that is not 0
product_le : (k m p : ℕ) → 0 < k → k ≡ m * p → m ≤ k
product_le k m zero h e = absurd (omega (arith, h, e))
product_le k m (suc p) h e = omega (arith, e, mul-suc m p)

-- what divides no more than g does
one_times : (d g : ℕ) → 0 < g → 0 < d → d * g ≤ g → d ≡ 1
one_times zero g h k l = absurd (omega arith)
one_times (suc zero) g h k l = refl
one_times (suc (suc d)) g h k l = absurd (omega (arith, l, h, mul_comm (suc (suc d)) g, mul-suc g (suc d), mul-suc g d))

-- a share whose parts are divided by their greatest common divisor
module _ (a n g : ℕ) (h : 0 < a) (r : Greatest a a n g) where
  same_share : a / g * n ≡ a * (n / g)
  same_share =
      ap (λ (k : ℕ). a / g * k) r.right ∙ mul_left_comm (a / g) g (n / g) ∙ sym (mul_assoc g (a / g) (n / g))
      ∙ ap (λ (k : ℕ). k * (n / g)) (sym r.left)

  -- where d divides a part, d * g divides the number
  as_product : (k d p : ℕ) → k ≡ g * (k / g) → k / g ≡ d * p → k ≡ d * g * p
  as_product k d p e f = e ∙ ap (λ (i : ℕ). g * i) f ∙ sym (mul_assoc g d p) ∙ ap (λ (i : ℕ). i * p) (mul_comm g d)

  no_rest : (k d p : ℕ) → k ≡ d * g * p → k % (d * g) ≡ 0
  no_rest k d p e = ap (λ (i : ℕ). i % (d * g)) e ∙ mul-mod_right (d * g) p

  not_zero : (d p : ℕ) → a ≡ d * g * p → 0 < d
  not_zero zero p e = absurd (omega (arith, h, e, zero-mul g, zero-mul p, ap (λ (i : ℕ). i * p) (zero-mul g)))
  not_zero (suc d) p e = omega arith

  only_one : (d p q : ℕ) → a / g ≡ d * p → n / g ≡ d * q → d ≡ 1
  only_one d p q e f =
      let x = as_product a d p r.left e in
      let y = as_product n d q r.right f in
      one_times d g r.some (not_zero d p x) (r.most (d * g) (product_le a (d * g) p h x) (no_rest a d p x) (no_rest n d q y))

  divided : Lowest a n (a / g) (n / g)
  divided = record { same = same_share; lowest = only_one }

-- no number but 1 divides 1
one_divides : (d p : ℕ) → 1 ≡ d * p → d ≡ 1
one_divides zero p e = absurd (omega (arith, e, zero-mul p))
one_divides (suc zero) p e = refl
one_divides (suc (suc d)) p e = absurd (omega (arith, product_le 1 (suc (suc d)) p (omega arith) e))

none_accepted : (n : ℕ) → Lowest 0 n (above 0 n) (beneath 0 n)
unfolding above beneath common
none_accepted n = record { same = zero-mul n; lowest = λ d p q e f. one_divides d q f }

-- The share is accepted over papers in lowest terms, `0/1` where none is accepted.
pub lowest : (a n : ℕ) → Lowest a n (above a n) (beneath a n)
unfolding above beneath
lowest zero n = none_accepted n
lowest (suc a) n = rw (ne_eqb (suc a) 0 (λ z. omega arith)) (divided (suc a) n (common (suc a) (suc a) n) (omega arith) (common_greatest (suc a) (suc a) n))

pub none_share : (n : ℕ) → (above 0 n ≡ 0) × (beneath 0 n ≡ 1)
unfolding above beneath common
none_share n = (refl, refl)
