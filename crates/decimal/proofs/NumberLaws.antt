-- Laws of a number up to a byte: the scan of its digits, and what a leading zero and an empty field do.
use mathlib.Core.Path.{◌≡◌, refl, sym, ap, ◌∙◌}
use mathlib.Core.Bool.{Bool, true, false, cond}
use mathlib.Core.Logic.{◌⊎◌, inl, inr}
use mathlib.Core.List.{List, [], ◌∷◌}
use Prim.Native.Nat.{ℕ, zero, suc, ◌≤◌, ◌<◌, ◌+◌, ◌-◌, ◌*◌, min}
use native.Mathlib.Omega.{arith}
use native.Mathlib.Numerals.{add-one}
use native.Mathlib.Decide.{ℕ_discrete}
use borrow.Author.Tests.{lt-ltb, le-ltb, eq-eqb, ne_eqb, ltb-true, leb-true}
use lib.Dec.{eqb, ltb, leb}
use lib.ListN.{length, get_or, take, drop, drop_of_length-le}
use lib.Seq.{get_or-take, get_or-drop, length-take-le, drop-cons}
use Rattle.std.proofs.Common.{Option, Some, None}
use Rattle.decimal.specs.declared.Reached.{Reached}
use Rattle.decimal.specs.Decimal.{cap, is_digit, digits_from, natural_of}
use Rattle.lines.specs.Lines.{before}
use Rattle.lines.proofs.FieldLaws.{before_le}
use Rattle.decimal.specs.Computed.Forward.{scan, reached, number_until}
use Rattle.decimal.proofs.ScanLaws.{scan_field}

-- a byte that is no digit spoils a number
digits_bad : (n i : ℕ) (f : List ℕ) → i < length f → is_digit (get_or f i 0) ≡ false → digits_from n f ≡ None
unfolding digits_from
digits_bad n i [] h e = absurd (omega arith)
digits_bad n zero (x ∷ xs) h e = rw (e)
digits_bad n (suc i) (x ∷ xs) h e = by (is_digit x) (digits_bad (n * 10 + (x - 48)) i xs (omega arith) e)
  where
    by : (q : Bool) → digits_from (n * 10 + (x - 48)) xs ≡ None → cond q (digits_from (n * 10 + (x - 48)) xs) None ≡ None
    by true r = r
    by false r = refl

pub bad_either : (p q : Bool) (n : Option ℕ) → n ≡ None → cond p None (cond q None n) ≡ None
bad_either true q n e = refl
bad_either false true n e = refl
bad_either false false n e = e

pub natural_bad : (i : ℕ) (f : List ℕ) → i < length f → is_digit (get_or f i 0) ≡ false → natural_of f ≡ None
unfolding natural_of
natural_bad i f h e = bad_either (eqb (length f) 0) (cond (eqb (get_or f 0 0) 48) (ltb 1 (length f)) false) (digits_from 0 f) (digits_bad 0 i f h e)

-- no digits, a 0 in front of others, and digits alone
pub natural_empty : (f : List ℕ) → length f ≡ 0 → None ≡ natural_of f
unfolding natural_of
natural_empty f h = rw (eq-eqb _ _ h)

pub natural_zero : (f : List ℕ) → get_or f 0 0 ≡ 48 → 1 < length f → None ≡ natural_of f
unfolding natural_of
natural_zero f z h = rw (ne_eqb (length f) 0 (λ e. omega arith), eq-eqb _ _ z, lt-ltb _ _ h)

pub natural_plain : (f : List ℕ) → (length f ≡ 0 → ⊥) → ((get_or f 0 0 ≡ 48) × (length f ≤ 1)) ⊎ (get_or f 0 0 ≡ 48 → ⊥) → digits_from 0 f ≡ natural_of f
unfolding natural_of
natural_plain f h (inl e) = rw (ne_eqb (length f) 0 h, eq-eqb _ _ e.0, le-ltb _ _ e.1)
natural_plain f h (inr e) = rw (ne_eqb (length f) 0 h, ne_eqb _ _ e)

natural_one : (f : List ℕ) → length f ≡ 1 → digits_from 0 f ≡ natural_of f
natural_one f h = natural_plain f (λ e. omega arith) (by (ℕ_discrete (get_or f 0 0) 48))
  where
    by : Dec (get_or f 0 0 ≡ 48) → ((get_or f 0 0 ≡ 48) × (length f ≤ 1)) ⊎ (get_or f 0 0 ≡ 48 → ⊥)
    by (yes e) = inl (e, omega arith)
    by (no e) = inr e

natural_from_bad : (f : List ℕ) → digits_from 0 f ≡ None → natural_of f ≡ None
unfolding natural_of
natural_from_bad f h = bad_either (eqb (length f) 0) (cond (eqb (get_or f 0 0) 48) (ltb 1 (length f)) false) (digits_from 0 f) h

-- what a number that is reached says
reached_some : (q : Bool) (e : ℕ) (m : Option ℕ) (r : Reached) → cond q (reached e m) None ≡ Some r → (q ≡ true) × (m ≡ Some r.number) × (r.next ≡ e)
reached_some false e m r h = cc
reached_some true e None r h = cc
reached_some true e (Some n) r h =
    let k : record { number = n; next = e } ≡ r = cc in
    (refl, ap Some (ap (λ (x : Reached). x.number) k), sym (ap (λ (x : Reached). x.next) k))

-- what a number up to d says of the text
pub record Got (d at : ℕ) (t : List ℕ) (r : Reached) : Type 0 where
  pub inside : before d t < length t
  pub is : natural_of (take (before d t) t) ≡ Some r.number
  pub place : r.next ≡ at + before d t + 1

pub got : (d at : ℕ) (t : List ℕ) (r : Reached) → number_until d at t ≡ Some r → Got d at t r
unfolding number_until
got d at t r h =
    let k = reached_some (ltb (before d t) (length t)) (at + before d t + 1) (natural_of (take (before d t) t)) r h in
    record { inside = ltb-true _ _ k.0; is = k.1; place = k.2 }

-- no end, no number in front of the end, and a number
pub until_end : (d at : ℕ) (t : List ℕ) → length t ≤ before d t → None ≡ number_until d at t
unfolding number_until
until_end d at t h = rw (le-ltb (before d t) (length t) h)

pub until_none : (d at : ℕ) (t : List ℕ) → natural_of (take (before d t) t) ≡ None → None ≡ number_until d at t
unfolding number_until
until_none d at t e = rw (e) (by (ltb (before d t) (length t)))
  where
    by : (q : Bool) → ◌≡◌ {A = Option Reached} None (cond q None None)
    by true = refl
    by false = refl

pub until_some : (d at n : ℕ) (t : List ℕ) → before d t < length t → natural_of (take (before d t) t) ≡ Some n
    → Some (record { number = n; next = at + before d t + 1 }) ≡ number_until d at t
unfolding number_until
until_some d at n t h e = rw (lt-ltb (before d t) (length t) h, e)

-- digits that are scanned up to d
record Scanned (d at : ℕ) (s : List ℕ) (r : Reached) : Type 0 where
  pub inside : before d (drop at s) < length (drop at s)
  pub is : digits_from 0 (take (before d (drop at s)) (drop at s)) ≡ Some r.number
  pub place : r.next ≡ at + before d (drop at s) + 1
  pub size : length (take (before d (drop at s)) (drop at s)) ≡ before d (drop at s)

scanned : (d at : ℕ) (s : List ℕ) (r : Reached) → scan d 0 at (drop at s) ≡ Some r → Scanned d at s r
scanned d at s r h =
    let t = drop at s in
    let k = reached_some (ltb (before d t) (length t)) (at + before d t + 1) (digits_from 0 (take (before d t) t)) r (sym (scan_field d 0 at t) ∙ h) in
    record { inside = ltb-true _ _ k.0; is = k.1; place = k.2; size = length-take-le (before d t) t (before_le d t) }

-- the field's first byte
first : (k at : ℕ) (s : List ℕ) → 0 < k → get_or (take k (drop at s)) 0 0 ≡ get_or s at 0
first k at s h =
    let e : at + 0 ≡ at = omega arith in
    get_or-take k (drop at s) 0 0 h ∙ get_or-drop at s 0 0 ∙ ap (λ (i : ℕ). get_or s i 0) e

-- no digits up to d
pub until_bad : (d at : ℕ) (s : List ℕ) → scan d 0 at (drop at s) ≡ None → None ≡ number_until d at (drop at s)
unfolding number_until
until_bad d at s h =
    let t = drop at s in
    let f = take (before d t) t in
    by (ltb (before d t) (length t)) (digits_from 0 f) (natural_of f) (natural_from_bad f) (sym (scan_field d 0 at t) ∙ h)
  where
    by : (q : Bool) (m m' : Option ℕ) → (m ≡ None → m' ≡ None) → cond q (reached (at + before d (drop at s) + 1) m) None ≡ None
        → None ≡ cond q (reached (at + before d (drop at s) + 1) m') None
    by false m m' b h = refl
    by true None m' b h = rw (b refl)
    by true (Some n) m' b h = cc

module _ (d at : ℕ) (s : List ℕ) (r : Reached) (h : scan d 0 at (drop at s) ≡ Some r) where
  pub until_empty : r.next ≤ at + 1 → None ≡ number_until d at (drop at s)
  until_empty l =
      let t = drop at s in
      let k = scanned d at s r h in
      until_none d at t (sym (natural_empty (take (before d t) t) (omega (arith, k.place, k.size))))

  pub until_zero : get_or s at 0 ≡ 48 → at + 2 < r.next → None ≡ number_until d at (drop at s)
  until_zero z l =
      let t = drop at s in
      let k = scanned d at s r h in
      until_none d at t (sym (natural_zero (take (before d t) t) (first (before d t) at s (omega (arith, k.place)) ∙ z) (omega (arith, k.place, k.size))))

  same : digits_from 0 (take (before d (drop at s)) (drop at s)) ≡ natural_of (take (before d (drop at s)) (drop at s)) → scan d 0 at (drop at s) ≡ number_until d at (drop at s)
  same e =
      let k = scanned d at s r h in
      h ∙ ap (λ (i : ℕ). Some (record { number = r.number; next = i })) k.place ∙ until_some d at r.number (drop at s) k.inside (sym e ∙ k.is)

  pub until_plain : (get_or s at 0 ≡ 48 → ⊥) → at + 1 < r.next → scan d 0 at (drop at s) ≡ number_until d at (drop at s)
  until_plain z l =
      let t = drop at s in
      let k = scanned d at s r h in
      same (natural_plain (take (before d t) t) (λ e. omega (arith, k.place, k.size)) (inr (λ e. z (sym (first (before d t) at s (omega (arith, k.place))) ∙ e))))

  pub until_one : r.next ≤ at + 2 → at + 1 < r.next → scan d 0 at (drop at s) ≡ number_until d at (drop at s)
  until_one g l =
      let t = drop at s in
      let k = scanned d at s r h in
      same (natural_one (take (before d t) t) (omega (arith, k.place, k.size)))

pub until_out : (d at : ℕ) (s : List ℕ) → length s ≤ at → None ≡ number_until d at (drop at s)
unfolding number_until before
until_out d at s h = rw (drop_of_length-le s h)

-- one digit
natural_digit : (b : ℕ) → is_digit b ≡ true → natural_of (b ∷ []) ≡ Some (b - 48)
unfolding natural_of digits_from
natural_digit b g =
    let h : leb b 57 ≡ true = digit_high b g in
    let m : min cap (0 * 10 + (b - 48)) ≡ b - 48 = omega (arith, leb-true b 57 h) in
    rw (g, m) (by (eqb b 48))
  where
    by : (t : Bool) → cond (cond t (ltb 1 1) false) None (Some (b - 48)) ≡ Some (b - 48)
    by true = refl
    by false = refl

    digit_high : (b : ℕ) → cond (leb 48 b) (leb b 57) false ≡ true → leb b 57 ≡ true
    digit_high b g = both (leb 48 b) (leb b 57) g
      where
        both : (p q : Bool) → cond p q false ≡ true → q ≡ true
        both true q e = e
        both false q e = cc

until_short : (b d at : ℕ) (t : List ℕ) → is_digit b ≡ true → (b ≡ d → ⊥) → Some (record { number = b - 48; next = at + 1 + 1 }) ≡ number_until d at (b ∷ d ∷ t)
unfolding number_until before
until_short b d at t g e = sym (rw (ne_eqb b d e, eq-eqb d d refl, lt-ltb 1 (suc (suc (length t))) (omega arith), natural_digit b g) refl)

pub until_digit : (d at : ℕ) (s : List ℕ) → at + 1 < length s → get_or s (at + 1) 0 ≡ d → is_digit (get_or s at 0) ≡ true → (get_or s at 0 ≡ d → ⊥)
    → Some (record { number = get_or s at 0 - 48; next = at + 1 + 1 }) ≡ number_until d at (drop at s)
until_digit d at s h e f k = until_short (get_or s at 0) d at (drop (suc (suc at)) s) f k ∙ ap (λ (l : List ℕ). number_until d at l) (sym two)
  where
    two : drop at s ≡ get_or s at 0 ∷ d ∷ drop (suc (suc at)) s
    two = drop-cons s at 0 (omega arith) ∙ ap (λ (l : List ℕ). get_or s at 0 ∷ l) (drop-cons s (suc at) 0 (omega arith) ∙ ap (λ (x : ℕ). x ∷ drop (suc (suc at)) s) (ap (λ (i : ℕ). get_or s i 0) (sym (add-one at)) ∙ e))
