-- A number that is written is read back as it was.
use mathlib.Core.Path.{◌≡◌, refl, sym, ap, ◌∙◌}
use mathlib.Core.List.{List, [], ◌∷◌, ◌++◌, append_assoc, append-nil}
use mathlib.Core.Logic.{⊎_elim}
use Prim.Native.Nat.{ℕ, zero, suc, ◌≤◌, ◌<◌, ◌+◌, ◌-◌, ◌*◌, ◌/◌, ◌%◌, ◌^◌}
use native.Mathlib.Nat.{pow-suc}
use native.Mathlib.Omega.{arith}
use borrow.Author.Tests.{lt-ltb, le-leb, ne_eqb}
use lib.IntN.{ℤ, pos, negsuc}
use lib.ListN.{length, get_or}
use mir.Val.{SFits}
use Rattle.rules.specs.Limits.{value_width, limit}
use Rattle.lines.proofs.PartLaws.{lt_or_le}
use Rattle.std.proofs.Common.{Some, Ok}
use Rattle.decimal.specs.Decimal.{cap, digits_from, natural_of, integer_of}
use Rattle.decimal.proofs.TextLaws.{digits_small, digits_large}
use Rattle.decimal.specs.Text.{digits_in, natural_text, integer_text}

-- one digit more
digit_on : (m d : ℕ) (u : List ℕ) → d < 10 → digits_from m ((48 + d) ∷ u) ≡ digits_from (m * 10 + d) u
unfolding digits_from
digit_on m d u h =
    let e : 48 + d - 48 ≡ d = omega arith in
    rw (le-leb 48 (48 + d) (omega arith), le-leb (48 + d) 57 (omega arith), e)

reads_small : (k n : ℕ) → n < 10 → (u : List ℕ) → digits_from 0 (digits_in (suc k) n ++ u) ≡ digits_from n u
reads_small k n h u =
    let e : 0 * 10 + n ≡ n = omega arith in
    ap (λ (t : List ℕ). digits_from 0 (t ++ u)) (digits_small k n h) ∙ digit_on 0 n u h ∙ ap (λ (m : ℕ). digits_from m u) e

reads_large : (k n : ℕ) → 10 ≤ n → (u : List ℕ) → digits_from 0 (digits_in k (n / 10) ++ ((48 + n % 10) ∷ u)) ≡ digits_from (n / 10) ((48 + n % 10) ∷ u)
    → digits_from 0 (digits_in (suc k) n ++ u) ≡ digits_from n u
reads_large k n h u r =
    let e : n / 10 * 10 + n % 10 ≡ n = omega arith in
    let d : n % 10 < 10 = omega arith in
    ap (λ (t : List ℕ). digits_from 0 (t ++ u)) (digits_large k n h)
    ∙ ap (digits_from 0) (append_assoc (digits_in k (n / 10)) ((48 + n % 10) ∷ []) u)
    ∙ r ∙ digit_on (n / 10) (n % 10) u d ∙ ap (λ (m : ℕ). digits_from m u) e

reads : (k n : ℕ) → n < 10 ^ suc k → (u : List ℕ) → digits_from 0 (digits_in (suc k) n ++ u) ≡ digits_from n u
reads zero n h u = reads_small zero n h u
reads (suc k) n h u =
    let d : n / 10 < 10 ^ suc k = omega (arith, pow-suc 10 (suc k), h) in
    ⊎_elim (λ l. reads_small (suc k) n l u) (λ l. reads_large (suc k) n l u (reads k (n / 10) d ((48 + n % 10) ∷ u))) (lt_or_le n 10)

-- the first digit of a number that is not 0
first_append : (a b : List ℕ) → 0 < get_or a 0 0 → get_or (a ++ b) 0 0 ≡ get_or a 0 0
first_append [] b h = absurd (omega arith)
first_append (x ∷ xs) b h = refl

first_small : (k n : ℕ) → n < 10 → 1 ≤ n → 48 < get_or (digits_in (suc k) n) 0 0
first_small k n h z = rw (digits_small k n h) (omega arith)

first_large : (k n : ℕ) → 10 ≤ n → 48 < get_or (digits_in k (n / 10)) 0 0 → 48 < get_or (digits_in (suc k) n) 0 0
first_large k n h r =
    let p : 0 < get_or (digits_in k (n / 10)) 0 0 = omega arith in
    rw (digits_large k n h, first_append (digits_in k (n / 10)) ((48 + n % 10) ∷ []) p) r

first : (k n : ℕ) → n < 10 ^ suc k → 1 ≤ n → 48 < get_or (digits_in (suc k) n) 0 0
first zero n h z = first_small zero n h z
first (suc k) n h z =
    let d : n / 10 < 10 ^ suc k = omega (arith, pow-suc 10 (suc k), h) in
    ⊎_elim (λ l. first_small (suc k) n l z) (λ l. first_large (suc k) n l (first k (n / 10) d (omega arith))) (lt_or_le n 10)

not_empty : (f : List ℕ) → 0 < get_or f 0 0 → length f ≡ 0 → ⊥
not_empty [] h e = omega arith
not_empty (x ∷ xs) h e = omega arith

plain : (f : List ℕ) → 48 < get_or f 0 0 → natural_of f ≡ digits_from 0 f
unfolding natural_of
plain f h = rw (ne_eqb (length f) 0 (not_empty f (omega arith)), ne_eqb (get_or f 0 0) 48 (λ e. omega arith))

zero_text : natural_of (48 ∷ []) ≡ Some 0
unfolding natural_of digits_from
zero_text = refl

ending : (n : ℕ) → n ≤ cap → digits_from n [] ≡ Some n
unfolding digits_from
ending n h = ap Some (omega arith)

pub natural_back : (n : ℕ) → n ≤ cap → natural_of (natural_text n) ≡ Some n
unfolding natural_text
natural_back zero h = ap natural_of (digits_small 19 0 (omega arith)) ∙ zero_text
natural_back (suc m) h =
    let n = suc m in
    let t = digits_in 20 n in
    let s : n < 10 ^ 20 = omega arith in
    plain t (first 19 n s (omega arith)) ∙ ap (digits_from 0) (sym (append-nil t)) ∙ reads 19 n s [] ∙ ending n h

-- a number's first byte is no minus
no_minus : (n : ℕ) → n < 10 ^ 20 → get_or (natural_text n) 0 0 ≡ 45 → ⊥
unfolding natural_text
no_minus zero h e = omega (arith, e, ap (λ (t : List ℕ). get_or t 0 0) (digits_small 19 0 (omega arith)))
no_minus (suc m) h e = omega (arith, e, first 19 (suc m) h (omega arith))

pub integer_back : (x : ℤ) → SFits value_width x → integer_of value_width (integer_text x) ≡ Ok x
unfolding integer_of integer_text
integer_back (pos n) f =
    let l : n < limit value_width = f.sfits in
    rw (ne_eqb (get_or (natural_text n) 0 0) 45 (no_minus n (omega arith)), natural_back n (omega arith), lt-ltb n (limit value_width) l)
integer_back (negsuc n) f =
    let l : n < limit value_width = f.sfits in
    let e : suc n - 1 ≡ n = omega arith in
    rw (natural_back (suc n) (omega arith), ne_eqb (suc n) 0 (λ z. omega arith), le-leb (suc n) (limit value_width) (omega arith), e)
