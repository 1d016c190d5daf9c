-- The lines and fields of a text that was put together from them.
use mathlib.Core.Path.{◌≡◌, refl, sym, ap, ◌∙◌}
use mathlib.Core.Bool.{Bool, true, false, cond}
use mathlib.Core.List.{List, [], ◌∷◌, ◌++◌, append_assoc, append-nil}
use mathlib.Core.Logic.{⊎_elim}
use Prim.Native.Nat.{ℕ, zero, suc, ◌<◌, ◌+◌, ◌/◌, ◌%◌}
use native.Mathlib.Omega.{arith}
use borrow.Author.Tests.{lt-ltb, le-ltb, eq-eqb, ne_eqb, eqb-false}
use lib.Dec.{eqb}
use lib.IntN.{ℤ, pos, negsuc}
use lib.ListN.{length, take, drop, length-append}
use lib.Seq.{take_at, drop_at}
use Rattle.lines.specs.Lines.{before, up_to, split_on, lines_of}
use Rattle.lines.proofs.PartLaws.{lt_or_le}
use Rattle.lines.proofs.FieldLaws.{split_more, split_last, lines_more}
use Rattle.decimal.specs.Text.{digits_in, natural_text, integer_text, row_text}

-- no b stands in t
abbrev pub Free : ℕ → List ℕ → Type 0
Free b t = before b t ≡ length t

free_tail : (b x : ℕ) (xs : List ℕ) → Free b (x ∷ xs) → (x ≡ b → ⊥) × Free b xs
unfolding before
free_tail b x xs h = by (eqb x b) refl h
  where
    by : (q : Bool) → eqb x b ≡ q → cond q 0 (suc (before b xs)) ≡ suc (length xs) → (x ≡ b → ⊥) × Free b xs
    by true e h = absurd (omega arith)
    by false e h = (eqb-false x b e, omega arith)

pub free_nil : (b : ℕ) → Free b []
unfolding before
free_nil b = refl

pub free_cons : (b x : ℕ) (xs : List ℕ) → (x ≡ b → ⊥) → Free b xs → Free b (x ∷ xs)
unfolding before
free_cons b x xs h k = rw (ne_eqb x b h) (ap suc k)

before_on : (b x : ℕ) (v : List ℕ) → (x ≡ b → ⊥) → before b (x ∷ v) ≡ suc (before b v)
unfolding before
before_on b x v n = rw (ne_eqb x b n)

pub before_append : (b : ℕ) (t u : List ℕ) → Free b t → before b (t ++ u) ≡ length t + before b u
before_append b [] u h = omega arith
before_append b (x ∷ xs) u h =
    let w = free_tail b x xs h in
    omega (arith, before_on b x (xs ++ u) w.0, before_append b xs u w.1)

pub free_append : (b : ℕ) (t u : List ℕ) → Free b t → Free b u → Free b (t ++ u)
free_append b t u h k = before_append b t u h ∙ omega (arith, k, length-append t u)

-- the byte itself
before_here : (b : ℕ) (u : List ℕ) → before b (b ∷ u) ≡ 0
unfolding before
before_here b u = rw (eq-eqb b b refl)

pub before_end : (b : ℕ) (t u : List ℕ) → Free b t → before b (t ++ (b ∷ u)) ≡ length t
before_end b t u h = before_append b t (b ∷ u) h ∙ omega (arith, before_here b u)

-- a piece up to a b, and the others; and a piece without a b
pub split_free : (b : ℕ) (t u : List ℕ) → Free b t → split_on b (t ++ (b ∷ u)) ≡ t ∷ split_on b u
split_free b t u h =
    let s = t ++ (b ∷ u) in
    let e : before b s ≡ length t = before_end b t u h in
    let l : before b s < length s = omega (arith, e, length-append t (b ∷ u)) in
    let a : take (before b s) s ≡ t = ap (λ (i : ℕ). take i s) e ∙ take_at t (b ∷ u) (length t) refl in
    let m : before b s + 1 ≡ length (t ++ (b ∷ [])) = omega (arith, e, length-append t (b ∷ [])) in
    let c : drop (before b s + 1) s ≡ u =
    ap (λ (i : ℕ). drop i s) m ∙ ap (drop (length (t ++ (b ∷ [])))) (sym (append_assoc t (b ∷ []) u)) ∙ drop_at (t ++ (b ∷ [])) u (length (t ++ (b ∷ []))) refl in
    split_more b s l ∙ rw (a, c)

pub split_alone : (b : ℕ) (t : List ℕ) → Free b t → split_on b t ≡ t ∷ []
split_alone b t h = split_last b t (omega (arith, h))

-- the first line of a text, and the others
pub lines_free : (t u : List ℕ) → Free 10 t → lines_of (t ++ (10 ∷ u)) ≡ t ∷ lines_of u
lines_free t u h =
    let s = t ++ (10 ∷ u) in
    let e : before 10 s ≡ length t = before_end 10 t u h in
    let l : before 10 s < length s = omega (arith, e, length-append t (10 ∷ u)) in
    let a : take (before 10 s) s ≡ t = ap (λ (i : ℕ). take i s) e ∙ take_at t (10 ∷ u) (length t) refl in
    let m : before 10 s + 1 ≡ length (t ++ (10 ∷ [])) = omega (arith, e, length-append t (10 ∷ [])) in
    let c : drop (before 10 s + 1) s ≡ u =
    ap (λ (i : ℕ). drop i s) m ∙ ap (drop (length (t ++ (10 ∷ [])))) (sym (append_assoc t (10 ∷ []) u)) ∙ drop_at (t ++ (10 ∷ [])) u (length (t ++ (10 ∷ []))) refl in
    lines_more s l ∙ rw (a, c)

-- fields, each after a space
unfoldable pub spaced : List (List ℕ) → List ℕ
spaced [] = []
spaced (f ∷ fs) = 32 ∷ (f ++ spaced fs)

pub data AllFree (b : ℕ) : List (List ℕ) → Type 0 where
  none : AllFree b []
  more : {f : List ℕ} {fs : List (List ℕ)} → Free b f → AllFree b fs → AllFree b (f ∷ fs)

pub split_spaced : (f : List ℕ) (fs : List (List ℕ)) → Free 32 f → AllFree 32 fs → split_on 32 (f ++ spaced fs) ≡ f ∷ fs
unfolding spaced
split_spaced f [] h none = rw (append-nil f) (split_alone 32 f h)
split_spaced f (g ∷ gs) h (more k l) = split_free 32 f (g ++ spaced gs) h ∙ ap (λ (r : List (List ℕ)). f ∷ r) (split_spaced g gs k l)

pub free_spaced : (b : ℕ) → (32 ≡ b → ⊥) → (fs : List (List ℕ)) → AllFree b fs → Free b (spaced fs)
unfolding spaced
free_spaced b n [] none = free_nil b
free_spaced b n (f ∷ fs) (more h k) = free_cons b 32 (f ++ spaced fs) n (free_append b f (spaced fs) h (free_spaced b n fs k))

-- the texts of numbers
unfoldable pub texts : List ℕ → List (List ℕ)
texts [] = []
texts (n ∷ ns) = natural_text n ∷ texts ns

pub row_spaced : (ns : List ℕ) → row_text ns ≡ spaced (texts ns)
unfolding row_text spaced texts
row_spaced [] = refl
row_spaced (n ∷ ns) = ap (λ (r : List ℕ). 32 ∷ (natural_text n ++ r)) (row_spaced ns)

-- the bytes of a number are no space and no end of a line
digits_free : (b : ℕ) → b < 45 → (k n : ℕ) → Free b (digits_in k n)
unfolding digits_in
digits_free b h zero n = free_nil b
digits_free b h (suc k) n = ⊎_elim
    (λ l. rw (lt-ltb n 10 l) (free_cons b (48 + n) [] (λ e. omega arith) (free_nil b)))
    (λ l. rw (le-ltb n 10 l) (free_append b (digits_in k (n / 10)) ((48 + n % 10) ∷ []) (digits_free b h k (n / 10)) (free_cons b (48 + n % 10) [] (λ e. omega arith) (free_nil b))))
    (lt_or_le n 10)

pub natural_free : (b : ℕ) → b < 45 → (n : ℕ) → Free b (natural_text n)
unfolding natural_text
natural_free b h n = digits_free b h 20 n

pub integer_free : (b : ℕ) → b < 45 → (x : ℤ) → Free b (integer_text x)
unfolding integer_text
integer_free b h (pos n) = natural_free b h n
integer_free b h (negsuc n) = free_cons b 45 (natural_text (suc n)) (λ e. omega arith) (natural_free b h (suc n))

pub texts_free : (b : ℕ) → b < 45 → (ns : List ℕ) → AllFree b (texts ns)
unfolding texts
texts_free b h [] = none
texts_free b h (n ∷ ns) = more (natural_free b h n) (texts_free b h ns)

-- texts that end in b
pub up_line : (b : ℕ) (t : List ℕ) → up_to b (t ++ (b ∷ [])) ≡ length (t ++ (b ∷ []))
unfolding up_to
up_line b [] = rw (eq-eqb b b refl)
up_line b (x ∷ xs) =
    let r = up_line b xs in
    let n : (up_to b (xs ++ (b ∷ [])) ≡ 0 → ⊥) = (λ e. omega (arith, e, r, length-append xs (b ∷ []))) in
    rw (ne_eqb (up_to b (xs ++ (b ∷ []))) 0 n) (ap suc r)

grow : (b y : ℕ) (v : List ℕ) → up_to b v ≡ length v → 0 < length v → up_to b (y ∷ v) ≡ suc (length v)
unfolding up_to
grow b y v h l = rw (ne_eqb (up_to b v) 0 (λ e. omega (arith, e, h, l))) (ap suc h)

pub up_join : (b : ℕ) (t u : List ℕ) → up_to b t ≡ length t → up_to b u ≡ length u → up_to b (t ++ u) ≡ length (t ++ u)
up_join b t [] h k = rw (append-nil t) h
up_join b t (x ∷ xs) h k = behind t
  where
    behind : (t : List ℕ) → up_to b (t ++ (x ∷ xs)) ≡ length (t ++ (x ∷ xs))
    behind [] = k
    behind (y ∷ ys) = grow b y (ys ++ (x ∷ xs)) (behind ys) (omega (arith, length-append ys (x ∷ xs)))

nought : (b : ℕ) → up_to b [] ≡ 0
unfolding up_to
nought b = refl

up_other : (b x : ℕ) (xs : List ℕ) → (x ≡ b → ⊥) → up_to b xs ≡ 0 → up_to b (x ∷ xs) ≡ 0
unfolding up_to
up_other b x xs n h = rw (eq-eqb (up_to b xs) 0 h, ne_eqb x b n)

-- nothing changes where no b stands behind
pub up_free : (b : ℕ) (u : List ℕ) → Free b u → up_to b u ≡ 0
up_free b [] h = nought b
up_free b (x ∷ xs) h = let w = free_tail b x xs h in up_other b x xs w.0 (up_free b xs w.1)

pub up_append : (b : ℕ) (t u : List ℕ) → up_to b u ≡ 0 → up_to b (t ++ u) ≡ up_to b t
unfolding up_to
up_append b [] u h = h
up_append b (x ∷ xs) u h = rw (up_append b xs u h)
