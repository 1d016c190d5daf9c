-- Laws of an event line: its last field, and its letter.
use mathlib.Core.Path.{◌≡◌, refl, sym, ap, ◌∙◌}
use mathlib.Core.Bool.{Bool, true, false, cond, false≢true}
use mathlib.Core.List.{List, [], ◌∷◌}
use Prim.Native.Nat.{ℕ, zero, suc, ◌≤◌, ◌<◌, ◌+◌}
use native.Mathlib.Omega.{arith}
use native.Mathlib.Numerals.{add-one}
use borrow.Author.Tests.{ne_eqb}
use lib.Dec.{eqb, ltb}
use lib.ListN.{length, get_or, take, drop, drop_of_length-le}
use lib.Seq.{drop-cons}
use Rattle.rules.specs.Limits.{value_width}
use Rattle.rules.specs.Events.{F, is_letter, is_lock_letter}
use Rattle.std.proofs.Common.{Option, Some, None, Result, Err}
use Rattle.decimal.specs.declared.Reached.{Reached}
use lib.IntN.{ℤ}
use Rattle.decimal.specs.declared.NotValue.{NotValue}
use Rattle.decimal.specs.declared.NotValue.TheVariants.{Bad}
use Rattle.events.specs.declared.Line.{Line}
use Rattle.decimal.specs.Decimal.{natural_of, integer_of, positive_of, negative_of}
use Rattle.lines.specs.Lines.{before, split_on, on_first, letter}
use Rattle.lines.proofs.FieldLaws.{split_some}
use Rattle.decimal.specs.Computed.Forward.{reached, number_until}
use Rattle.events.specs.Events.{Fields, wrong, right, on_number, on_integer, field, last, value_end, after_thread, from_fields}
use Rattle.events.specs.Computed.Lines.{placed, front, stage}
use borrow.Author.Tests.{lt-ltb, le-ltb}
use mathlib.Core.Logic.{⊎_elim}
use Rattle.lines.proofs.PartLaws.{lt_or_le}
use Rattle.decimal.proofs.NumberLaws.{natural_bad}
use Rattle.events.proofs.StageLaws.{stage_last}

-- 0, which stands for a field that is no letter, is none
pub zero_none : is_letter 0 ≡ false
unfolding is_letter
zero_none = refl

space_bad : (i : ℕ) (x : List ℕ) → i < length x → get_or x i 0 ≡ 32 → natural_of x ≡ None
space_bad i x h e = natural_bad i x h (rw (e))

integer_bad : (i : ℕ) (x : List ℕ) → i < length x → get_or x i 0 ≡ 32 → integer_of value_width x ≡ Err Bad
unfolding integer_of
integer_bad i [] h e = absurd (omega arith)
integer_bad zero (y ∷ ys) h e = rw (ne_eqb y 45 (λ q. omega (arith, e, q)), space_bad 0 (y ∷ ys) h e)
integer_bad (suc i) (y ∷ ys) h e = rw (space_bad i ys (omega arith) e, space_bad (suc i) (y ∷ ys) h e) (by (eqb y 45))
  where
    by : (q : Bool) → ◌≡◌ {A = Result ℤ NotValue} (cond q (Err Bad) (Err Bad)) (Err Bad)
    by true = refl
    by false = refl

-- on with this number, where there is one
abbrev pub on_reached : Option Reached → (Reached → Option Line) → Option Line
on_reached None f = None
on_reached (Some r) f = f r

ltb_suc : (a b : ℕ) → ltb (suc a) (suc b) ≡ ltb a b
ltb_suc a b = ⊎_elim (λ h. lt-ltb (suc a) (suc b) (omega arith) ∙ sym (lt-ltb a b h)) (λ h. le-ltb (suc a) (suc b) (omega arith) ∙ sym (le-ltb a b h)) (lt_or_le a b)

-- a last field that is a number
pub number_line : (f : ℕ → Fields) (at : ℕ) (u : List ℕ) → stage (last (λ x. on_number (natural_of x) f)) at u ≡ on_reached (number_until 10 at u) (λ r. placed r.next (f r.number))
unfolding number_until front
number_line f at u =
    stage_last (λ x. on_number (natural_of x) f) (λ x i h b. rw (space_bad i x h b)) at u
    ∙ by (ltb (before 10 u) (length u)) (natural_of (take (before 10 u) u))
  where
    by : (q : Bool) (m : Option ℕ)
        → cond q (placed (at + before 10 u + 1) (on_number m f)) None
        ≡ on_reached (cond q (reached (at + before 10 u + 1) m) None) (λ r. placed r.next (f r.number))
    by false m = refl
    by true None = refl
    by true (Some n) = refl

-- a value without a minus
first_not : (s : List ℕ) (at : ℕ) → (get_or s at 0 ≡ 45 → ⊥) → at < length s → get_or (front (drop at s)) 0 0 ≡ 45 → ⊥
unfolding front before
first_not s at z h = rw (drop-cons s at 0 h) (by (eqb (get_or s at 0) 10))
  where
    by : (q : Bool) → get_or (take (cond q 0 (suc (before 10 (drop (suc at) s)))) (get_or s at 0 ∷ drop (suc at) s)) 0 0 ≡ 45 → ⊥
    by true e = omega arith
    by false e = z e

pub plain_line : (k t v at : ℕ) (s : List ℕ) → at < length s → (get_or s at 0 ≡ 45 → ⊥)
    → stage (last (value_end value_width k t v)) at (drop at s)
    ≡ on_reached (number_until 10 at (drop at s)) (λ r. placed r.next (on_integer (positive_of value_width (Some r.number)) (λ z. right k t v z)))
unfolding number_until front integer_of
plain_line k t v at s h z =
    let u = drop at s in
    stage_last (value_end value_width k t v) (λ x i h b. rw (integer_bad i x h b)) at u
    ∙ rw (ne_eqb _ _ (first_not s at z h)) (by (ltb (before 10 u) (length u)) (natural_of (take (before 10 u) u)) (at + before 10 u + 1))
  where
    by : (q : Bool) (m : Option ℕ) (e : ℕ)
        → cond q (placed e (on_integer (positive_of value_width m) (λ z. right k t v z))) None
        ≡ on_reached (cond q (reached e m) None) (λ r. placed r.next (on_integer (positive_of value_width (Some r.number)) (λ z. right k t v z)))
    by false m e = refl
    by true None e = refl
    by true (Some n) e = refl

pub minus_line : (k t v at : ℕ) (s : List ℕ) → at < length s → get_or s at 0 ≡ 45
    → stage (last (value_end value_width k t v)) at (drop at s)
    ≡ on_reached (number_until 10 (at + 1) (drop (at + 1) s)) (λ r. placed r.next (on_integer (negative_of value_width (Some r.number)) (λ z. right k t v z)))
unfolding number_until front integer_of before
minus_line k t v at s h z =
    let u = drop (suc at) s in
    let e : at + suc (before 10 u) + 1 ≡ suc at + before 10 u + 1 = omega arith in
    rw (drop-cons s at 0 h, z, add-one at)
    (stage_last (value_end value_width k t v) (λ x i h b. rw (integer_bad i x h b)) at (45 ∷ u)
    ∙ rw (ltb_suc (before 10 u) (length u), e) (by (ltb (before 10 u) (length u)) (natural_of (take (before 10 u) u)) (suc at + before 10 u + 1)))
  where
    by : (q : Bool) (m : Option ℕ) (e : ℕ)
        → cond q (placed e (on_integer (negative_of value_width m) (λ z. right k t v z))) None
        ≡ on_reached (cond q (reached e m) None) (λ r. placed r.next (on_integer (negative_of value_width (Some r.number)) (λ z. right k t v z)))
    by false m e = refl
    by true None e = refl
    by true (Some n) e = refl

none_either : (q : Bool) (e : ℕ) (f : Fields) → f ≡ wrong → cond q (placed e f) None ≡ None
none_either true e f h = rw (h)
none_either false e f h = refl

either_none : (q : Bool) → cond q wrong wrong ≡ wrong
either_none true = refl
either_none false = refl

no_letter_law : (x : ℕ) (f : List ℕ) → is_letter x ≡ false → is_letter (letter (x ∷ f)) ≡ false
unfolding letter
no_letter_law x [] h = h
no_letter_law x (c ∷ cs) h = zero_none

-- a first byte that is no letter
none_letter : (at x : ℕ) (xs : List ℕ) → is_letter x ≡ false → stage (from_fields value_width) at (x ∷ xs) ≡ None
unfolding stage front before split_on letter
none_letter at x xs h = none_either (ltb (before 10 (x ∷ xs)) (suc (length xs))) (at + before 10 (x ∷ xs) + 1) _ (by (eqb x 10) (eqb x 32) refl)
  where
    by : (q p : Bool) → eqb x 32 ≡ p → from_fields value_width (split_on 32 (take (cond q 0 (suc (before 10 xs))) (x ∷ xs))) ≡ wrong
    by true p r = rw zero_none
    by false true r = rw (r, zero_none)
    by false false r =
        let w = split_some 32 (take (before 10 xs) xs) in
        rw (r, w.2, no_letter_law x w.0 h)

letter_not : (x b : ℕ) → is_letter x ≡ true → is_letter b ≡ false → x ≡ b → ⊥
letter_not x b k z e = false≢true (sym z ∙ ap is_letter (sym e) ∙ k)

-- a byte that ends a line or a field is no letter
pub not_end : (x : ℕ) → is_letter x ≡ true → x ≡ 10 → ⊥
not_end x k = letter_not x 10 k (unfold is_letter in refl)

pub not_space : (x : ℕ) → is_letter x ≡ true → x ≡ 32 → ⊥
not_space x k = letter_not x 32 k (unfold is_letter in refl)

-- a letter alone at the end
none_end : (at x : ℕ) → is_letter x ≡ true → stage (from_fields value_width) at (x ∷ []) ≡ None
unfolding stage before
none_end at x k = rw (ne_eqb x 10 (not_end x k))

-- a letter and no space behind it
none_space : (at x y : ℕ) (ys : List ℕ) → is_letter x ≡ true → (y ≡ 32 → ⊥) → stage (from_fields value_width) at (x ∷ y ∷ ys) ≡ None
unfolding stage front before split_on letter
none_space at x y ys k n =
    rw (ne_eqb x 10 (not_end x k), ne_eqb x 32 (not_space x k))
    (none_either (ltb (suc (before 10 (y ∷ ys))) (suc (suc (length ys)))) (at + suc (before 10 (y ∷ ys)) + 1) _ (by (eqb y 10)))
  where
    by : (q : Bool) → from_fields value_width (on_first x (split_on 32 (take (cond q 0 (suc (before 10 ys))) (y ∷ ys)))) ≡ wrong
    by true = either_none (is_letter x)
    by false =
        let w = split_some 32 (take (before 10 ys) ys) in
        rw (ne_eqb y 32 n, w.2, zero_none)

-- a letter and a space
with_space : (at x : ℕ) (ys : List ℕ) → is_letter x ≡ true
    → stage (from_fields value_width) at (x ∷ 32 ∷ ys) ≡ stage (field (after_thread value_width x)) (at + 1 + 1) ys
unfolding stage front before split_on letter
with_space at x ys k =
    let e : at + suc (suc (before 10 ys)) + 1 ≡ at + 1 + 1 + before 10 ys + 1 = omega arith in
    rw (ne_eqb x 10 (not_end x k), ne_eqb x 32 (not_space x k), ltb_suc (suc (before 10 ys)) (suc (length ys)), ltb_suc (before 10 ys) (length ys), k, e)

pub at_none : (s : List ℕ) (at : ℕ) → at < length s → is_letter (get_or s at 0) ≡ false → stage (from_fields value_width) at (drop at s) ≡ None
at_none s at h k = rw (drop-cons s at 0 h) (none_letter at (get_or s at 0) (drop (suc at) s) k)

pub at_last : (s : List ℕ) (at : ℕ) → at < length s → length s ≤ at + 1 → is_letter (get_or s at 0) ≡ true → stage (from_fields value_width) at (drop at s) ≡ None
at_last s at h l k =
    let m : length s ≤ suc at = omega arith in
    rw (drop-cons s at 0 h, drop_of_length-le s m) (none_end at (get_or s at 0) k)

pub at_other : (s : List ℕ) (at : ℕ) → at + 1 < length s → is_letter (get_or s at 0) ≡ true → (get_or s (at + 1) 0 ≡ 32 → ⊥)
    → stage (from_fields value_width) at (drop at s) ≡ None
at_other s at h k n =
    let m : suc at < length s = omega arith in
    let g : at + 1 ≡ suc at = omega arith in
    rw (drop-cons s at 0 (omega arith), drop-cons s (suc at) 0 m)
    (none_space at (get_or s at 0) (get_or s (suc at) 0) (drop (suc (suc at)) s) k (λ e. n (ap (λ (i : ℕ). get_or s i 0) g ∙ e)))

pub at_space : (s : List ℕ) (at : ℕ) → at + 1 < length s → is_letter (get_or s at 0) ≡ true → get_or s (at + 1) 0 ≡ 32
    → stage (from_fields value_width) at (drop at s) ≡ stage (field (after_thread value_width (get_or s at 0))) (at + 1 + 1) (drop (at + 1 + 1) s)
at_space s at h k n =
    let m : suc at < length s = omega arith in
    let g : at + 1 ≡ suc at = omega arith in
    let b : get_or s (suc at) 0 ≡ 32 = ap (λ (i : ℕ). get_or s i 0) (sym g) ∙ n in
    let g2 : suc (suc at) ≡ at + 1 + 1 = omega arith in
    ap (λ (u : List ℕ). stage (from_fields value_width) at u) (drop-cons s at 0 (omega arith) ∙ ap (λ (u : List ℕ). get_or s at 0 ∷ u) (drop-cons s (suc at) 0 m ∙ ap (λ (z : ℕ). z ∷ drop (suc (suc at)) s) b))
    ∙ with_space at (get_or s at 0) (drop (suc (suc at)) s) k
    ∙ ap (λ (i : ℕ). stage (field (after_thread value_width (get_or s at 0))) (at + 1 + 1) (drop i s)) g2

pub stage_out : (f : List (List ℕ) → Fields) (s : List ℕ) (at : ℕ) → length s ≤ at → None ≡ stage f at (drop at s)
unfolding stage before
stage_out f s at h = rw (drop_of_length-le s h)

pub thread_none : (k t : ℕ) → after_thread value_width k t [] ≡ wrong
thread_none k t = by (is_lock_letter k) (eqb k F)
  where
    by : (b c : Bool) → cond b (cond c wrong wrong) wrong ≡ wrong
    by true c = either_none c
    by false c = refl

-- fields that are read by a test
pub stage_then : (b : Bool) (f g : List (List ℕ) → Fields) (at : ℕ) (u : List ℕ) → b ≡ true → stage f at u ≡ stage (λ fs. cond b (f fs) (g fs)) at u
unfolding stage
stage_then b f g at u e = rw e

pub stage_else : (b : Bool) (f g : List (List ℕ) → Fields) (at : ℕ) (u : List ℕ) → b ≡ false → stage g at u ≡ stage (λ fs. cond b (f fs) (g fs)) at u
unfolding stage
stage_else b f g at u e = rw e
