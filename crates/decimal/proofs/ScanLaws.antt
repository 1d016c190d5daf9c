-- Laws of `scan`: what one byte more does, and that it reads the field up to d.
use mathlib.Core.Path.{◌≡◌, refl, sym, ap, ◌∙◌}
use mathlib.Core.Bool.{Bool, true, false, cond}
use mathlib.Core.List.{List, [], ◌∷◌}
use Prim.Native.Nat.{ℕ, suc, ◌≤◌, ◌<◌, ◌+◌, ◌-◌, ◌*◌, min}
use native.Mathlib.Omega.{arith}
use native.Mathlib.Numerals.{add-one}
use borrow.Author.Tests.{lt-ltb, le-ltb, le-leb, eq-eqb, ne_eqb}
use lib.Dec.{eqb, ltb}
use lib.ListN.{length, get_or, take, drop, drop_of_length-le}
use lib.Seq.{drop-cons}
use mathlib.Core.Logic.{⊎_elim}
use Rattle.std.proofs.Common.{Option, Some, None}
use Rattle.lines.proofs.PartLaws.{lt_or_le}
use Rattle.decimal.specs.Decimal.{cap, is_digit, digits_from}
use Rattle.lines.specs.Lines.{before}
use Rattle.decimal.specs.declared.Reached.{Reached}
use Rattle.decimal.specs.Computed.Forward.{scan, reached}
use Rattle.decimal.proofs.DigitLaws.{digit_below, digit_above}

-- the cap may be taken at any place
capped : (d n i : ℕ) (bs : List ℕ) → scan d (min cap n) i bs ≡ scan d n i bs
unfolding scan
capped d n i [] = refl
capped d n i (b ∷ bs) =
    let e : min cap (min cap n * 10 + (b - 48)) ≡ min cap (n * 10 + (b - 48)) = omega arith in
    let m : min cap (min cap n) ≡ min cap n = omega arith in
    let r : scan d (min cap n * 10 + (b - 48)) (i + 1) bs ≡ scan d (n * 10 + (b - 48)) (i + 1) bs =
    sym (capped d (min cap n * 10 + (b - 48)) (i + 1) bs) ∙ ap (λ (m : ℕ). scan d m (i + 1) bs) e ∙ capped d (n * 10 + (b - 48)) (i + 1) bs in
    ap (λ (z : ℕ). cond (eqb b d) (Some (record { number = z; next = i + 1 })) (cond (is_digit b) (scan d (min cap n * 10 + (b - 48)) (i + 1) bs) None)) m
    ∙ ap (λ (z : Option Reached). cond (eqb b d) (Some (record { number = min cap n; next = i + 1 })) (cond (is_digit b) z None)) r

pub scan_end : (d n i : ℕ) (f : List ℕ) → length f ≤ i → scan d n i (drop i f) ≡ None
unfolding scan
scan_end d n i f h = rw (drop_of_length-le f h)

pub scan_here : (d n i : ℕ) (f : List ℕ) → i < length f → get_or f i 0 ≡ d → n ≤ cap
    → scan d n i (drop i f) ≡ Some (record { number = n; next = i + 1 })
unfolding scan
scan_here d n i f h e k =
    let m : min cap n ≡ n = omega arith in
    rw (drop-cons f i 0 h, eq-eqb _ _ e, m)

pub scan_stop : (d n i : ℕ) (f : List ℕ) → i < length f → (get_or f i 0 ≡ d → ⊥) → is_digit (get_or f i 0) ≡ false → scan d n i (drop i f) ≡ None
unfolding scan
scan_stop d n i f h e q = rw (drop-cons f i 0 h, ne_eqb _ _ e, q)

pub scan_low : (d n i : ℕ) (f : List ℕ) → i < length f → (get_or f i 0 ≡ d → ⊥) → get_or f i 0 < 48 → scan d n i (drop i f) ≡ None
scan_low d n i f h e l = scan_stop d n i f h e (digit_below (get_or f i 0) l)

pub scan_high : (d n i : ℕ) (f : List ℕ) → i < length f → (get_or f i 0 ≡ d → ⊥) → 57 < get_or f i 0 → scan d n i (drop i f) ≡ None
scan_high d n i f h e l = scan_stop d n i f h e (digit_above (get_or f i 0) l)

pub scan_on : (d n i : ℕ) (f : List ℕ) → i < length f → (get_or f i 0 ≡ d → ⊥) → 48 ≤ get_or f i 0 → get_or f i 0 ≤ 57
    → scan d n i (drop i f) ≡ scan d (min cap (n * 10 + (get_or f i 0 - 48))) (i + 1) (drop (i + 1) f)
unfolding scan
scan_on d n i f h e l u =
    rw (drop-cons f i 0 h, ne_eqb _ _ e, le-leb _ _ l, le-leb _ _ u, add-one i) (sym (capped d (n * 10 + (get_or f i 0 - 48)) (suc i) (drop (suc i) f)))

pub ltb_suc : (a b : ℕ) → ltb (suc a) (suc b) ≡ ltb a b
ltb_suc a b = ⊎_elim (λ h. lt-ltb (suc a) (suc b) (omega arith) ∙ sym (lt-ltb a b h)) (λ h. le-ltb (suc a) (suc b) (omega arith) ∙ sym (le-ltb a b h)) (lt_or_le a b)

-- it is the field up to d
pub scan_field : (d n i : ℕ) (t : List ℕ)
    → scan d n i t ≡ cond (ltb (before d t) (length t)) (reached (i + before d t + 1) (digits_from n (take (before d t) t))) None
unfolding scan before digits_from
scan_field d n i [] = refl
scan_field d n i (b ∷ bs) = by (eqb b d) (is_digit b) refl (scan_field d (n * 10 + (b - 48)) (i + 1) bs)
  where
    same : (t : Bool) → ◌≡◌ {A = Option Reached} None (cond t None None)
    same true = refl
    same false = refl

    by : (x y : Bool) → is_digit b ≡ y
        → scan d (n * 10 + (b - 48)) (i + 1) bs
        ≡ cond (ltb (before d bs) (length bs)) (reached (i + 1 + before d bs + 1) (digits_from (n * 10 + (b - 48)) (take (before d bs) bs))) None
        → cond x (Some (record { number = min cap n; next = i + 1 })) (cond y (scan d (n * 10 + (b - 48)) (i + 1) bs) None)
        ≡ cond (ltb (cond x 0 (suc (before d bs))) (suc (length bs)))
        (reached (i + cond x 0 (suc (before d bs)) + 1) (digits_from n (take (cond x 0 (suc (before d bs))) (b ∷ bs)))) None
    by true y q r =
        let e : i + 0 + 1 ≡ i + 1 = omega arith in
        rw (lt-ltb 0 (suc (length bs)) (omega arith), e)
    by false true q r =
        let e : i + suc (before d bs) + 1 ≡ i + 1 + before d bs + 1 = omega arith in
        rw (ltb_suc (before d bs) (length bs), q, e) r
    by false false q r = rw (ltb_suc (before d bs) (length bs), q) (same (ltb (before d bs) (length bs)))
