-- Laws of fields.
use mathlib.Core.Path.{◌≡◌, refl, sym, ap, ◌∙◌}
use mathlib.Core.Bool.{Bool, true, false, cond}
use mathlib.Core.List.{List, [], ◌∷◌}
use Prim.Native.Nat.{ℕ, zero, suc, ◌<◌, ◌≤◌, ◌+◌, ◌-◌}
use native.Mathlib.Omega.{arith}
use native.Mathlib.Numerals.{add-one}
use native.Mathlib.Nat.{suc-ne-zero, not-suc-le-zero, le_of_suc-le-suc}
use native.Mathlib.Decide.{ℕ_discrete}
use borrow.Author.Tests.{eq-eqb, ne_eqb, eqb-true, eqb-false}
use lib.Dec.{eqb}
use lib.ListN.{length, get_or, take, drop, length-drop, drop_of_length-le}
use lib.Seq.{take_all, drop-cons, drop-drop, get_or-drop}
use mathlib.Core.Logic.{◌⊎◌, inl, inr, ⊎_elim}
use Rattle.lines.proofs.PartLaws.{lt_or_le}
use Rattle.lines.specs.Lines.{before, up_to, split_on, on_first, ended, lines_of, letter}

pub before_here : (b i : ℕ) (s : List ℕ) → i < length s → get_or s i 0 ≡ b → before b (drop i s) ≡ 0
unfolding before
before_here b i s h e = rw (drop-cons s i 0 h, eq-eqb _ _ e)

pub before_on : (b i : ℕ) (s : List ℕ) → i < length s → (get_or s i 0 ≡ b → ⊥) → before b (drop i s) ≡ 1 + before b (drop (i + 1) s)
unfolding before
before_on b i s h e = rw (drop-cons s i 0 h, ne_eqb _ _ e, add-one i) (omega arith)

pub before_end : (b i : ℕ) (s : List ℕ) → length s ≤ i → before b (drop i s) ≡ 0
unfolding before
before_end b i s h = rw (drop_of_length-le s h)

pub before_le : (b : ℕ) (s : List ℕ) → before b s ≤ length s
unfolding before
before_le b [] = omega arith
before_le b (x ∷ xs) = by (eqb x b) (before_le b xs)
  where
    by : (t : Bool) → before b xs ≤ length xs → cond t 0 (suc (before b xs)) ≤ suc (length xs)
    by true h = omega arith
    by false h = omega arith

-- a first piece, and the others behind the b
pub split_more : (b : ℕ) (s : List ℕ) → before b s < length s → split_on b s ≡ take (before b s) s ∷ split_on b (drop (before b s + 1) s)
unfolding before split_on
split_more b [] h = absurd (omega arith)
split_more b (x ∷ xs) h = by (eqb x b) h (split_more b xs)
  where
    by : (t : Bool) → cond t 0 (suc (before b xs)) < suc (length xs)
        → (before b xs < length xs → split_on b xs ≡ take (before b xs) xs ∷ split_on b (drop (before b xs + 1) xs))
        → cond t ([] ∷ split_on b xs) (on_first x (split_on b xs))
        ≡ take (cond t 0 (suc (before b xs))) (x ∷ xs) ∷ split_on b (drop (cond t 0 (suc (before b xs)) + 1) (x ∷ xs))
    by true h r = refl
    by false h r =
        let e : suc (before b xs) + 1 ≡ suc (before b xs + 1) = omega arith in
        rw (e, r (omega arith))

-- no b: one piece
pub split_last : (b : ℕ) (s : List ℕ) → length s ≤ before b s → split_on b s ≡ s ∷ []
unfolding before split_on
split_last b [] h = refl
split_last b (x ∷ xs) h = by (eqb x b) h (split_last b xs)
  where
    by : (t : Bool) → suc (length xs) ≤ cond t 0 (suc (before b xs)) → (length xs ≤ before b xs → split_on b xs ≡ xs ∷ [])
        → cond t ([] ∷ split_on b xs) (on_first x (split_on b xs)) ≡ (x ∷ xs) ∷ []
    by true h r = absurd (omega arith)
    by false h r = rw (r (omega arith))

-- there is always a first piece
pub split_some : (b : ℕ) (s : List ℕ) → (f : List ℕ) × (fs : List (List ℕ)) × (split_on b s ≡ f ∷ fs)
split_some b s = ⊎_elim
    (λ h. (take (before b s) s, split_on b (drop (before b s + 1) s), split_more b s h))
    (λ h. (s, [], split_last b s h))
    (lt_or_le (before b s) (length s))

-- a letter
pub letter_one : (f : List ℕ) → length f ≡ 1 → get_or f 0 0 ≡ letter f
unfolding letter
letter_one [] h = absurd (omega arith)
letter_one (b ∷ []) h = refl
letter_one (b ∷ c ∷ bs) h = absurd (omega arith)

pub letter_none : (f : List ℕ) → (length f ≡ 1 → ⊥) → 0 ≡ letter f
unfolding letter
letter_none [] h = refl
letter_none (b ∷ []) h = absurd (h refl)
letter_none (b ∷ c ∷ bs) h = refl

-- the last b
pub up_le : (b : ℕ) (s : List ℕ) → up_to b s ≤ length s
unfolding up_to
up_le b [] = omega arith
up_le b (x ∷ xs) = by (eqb (up_to b xs) 0) (eqb x b) (up_le b xs)
  where
    by : (t u : Bool) → up_to b xs ≤ length xs → cond t (cond u 1 0) (suc (up_to b xs)) ≤ suc (length xs)
    by true true h = omega arith
    by true false h = omega arith
    by false u h = omega arith

-- the last b is at j
pub up_here : (b j : ℕ) (s : List ℕ) → j < length s → get_or s j 0 ≡ b → up_to b (drop (suc j) s) ≡ 0 → suc j ≡ up_to b s
unfolding up_to
up_here b j [] h e z = absurd (omega arith)
up_here b zero (x ∷ xs) h e z = rw (eq-eqb _ _ z, eq-eqb _ _ e)
up_here b (suc j) (x ∷ xs) h e z =
    let r : suc j ≡ up_to b xs = up_here b j xs (omega arith) e z in
    rw (ne_eqb (up_to b xs) 0 (λ k. omega arith)) (ap suc r)

-- the fields from `at` on, where the first of them ends at e: it, and those behind it
module _ (b : ℕ) (s : List ℕ) (at e : ℕ) (q : e ≡ at + before b (drop at s)) where
  pub inside : at ≤ length s → e ≤ length s
  inside l = omega (arith, q, before_le b (drop at s), length-drop at s)

  pub first_field : (k : ℕ) → k ≡ 0 → get_or (split_on b (drop at s)) k [] ≡ take (e - at) (drop at s)
  first_field k z =
      let n : e - at ≡ before b (drop at s) = omega (arith, q) in
      rw (z, n) (by (lt_or_le (before b (drop at s)) (length (drop at s))))
    where
      by : (before b (drop at s) < length (drop at s)) ⊎ (length (drop at s) ≤ before b (drop at s))
          → get_or (split_on b (drop at s)) 0 [] ≡ take (before b (drop at s)) (drop at s)
      by (inl h) = rw (split_more b (drop at s) h)
      by (inr h) = rw (split_last b (drop at s) h) (sym (take_all (before b (drop at s)) (drop at s) h))

-- A text that is empty or ends in b. What is left of it from any place on is so too.
ended_tail : (b x : ℕ) (xs : List ℕ) → up_to b (x ∷ xs) ≡ suc (length xs) → up_to b xs ≡ length xs
unfolding up_to
ended_tail b x xs h = by (eqb (up_to b xs) 0) (eqb x b) refl h
  where
    by : (t u : Bool) → eqb (up_to b xs) 0 ≡ t → cond t (cond u 1 0) (suc (up_to b xs)) ≡ suc (length xs) → up_to b xs ≡ length xs
    by true true e h = omega (arith, eqb-true (up_to b xs) 0 e)
    by true false e h = absurd (omega arith)
    by false u e h = omega arith

pub ended_drop : (b k : ℕ) (s : List ℕ) → up_to b s ≡ length s → up_to b (drop k s) ≡ length (drop k s)
ended_drop b zero s h = h
ended_drop b (suc k) [] h = h
ended_drop b (suc k) (x ∷ xs) h = ended_drop b k xs (ended_tail b x xs h)

-- and it has a b where it is not empty
pub ended_before : (b : ℕ) (s : List ℕ) → up_to b s ≡ length s → 0 < length s → before b s < length s
unfolding before up_to
ended_before b [] h l = absurd (omega arith)
ended_before b (x ∷ xs) h l = by (eqb x b) (eqb (up_to b xs) 0) refl h (ended_before b xs (ended_tail b x xs h))
  where
    by : (t u : Bool) → eqb (up_to b xs) 0 ≡ u → cond u (cond t 1 0) (suc (up_to b xs)) ≡ suc (length xs)
        → (0 < length xs → before b xs < length xs) → cond t 0 (suc (before b xs)) < suc (length xs)
    by true u e h r = omega arith
    by false true e h r = absurd (omega arith)
    by false false e h r =
        let n : (up_to b xs ≡ 0 → ⊥) = eqb-false (up_to b xs) 0 e in
        let k : 0 < length xs = omega (arith, n) in
        omega (arith, r k)

-- the lines of a text: a line and those behind its end, or none
-- one byte more makes no line
no_line_law : (x : ℕ) (ls : List (List ℕ)) → ended ls ≡ [] → ended (on_first x ls) ≡ []
unfolding ended
no_line_law x [] e = refl
no_line_law x (l ∷ []) e = refl
no_line_law x (l ∷ m ∷ ls) e = absurd (suc-ne-zero _ (ap length e))

-- without a byte 10 there is no line
pub no_lines : (s : List ℕ) → length s ≤ before 10 s → lines_of s ≡ []
unfolding lines_of ended split_on before
no_lines [] h = refl
no_lines (x ∷ xs) h = by (ℕ_discrete x 10) (λ z. no_lines xs z)
  where
    by : Dec (x ≡ 10) → (length xs ≤ before 10 xs → lines_of xs ≡ []) → lines_of (x ∷ xs) ≡ []
    by (yes q) more = absurd (not-suc-le-zero (rw (eq-eqb x 10 q) at h))
    by (no q) more = rw (ne_eqb x 10 q) (no_line_law x (split_on 10 xs) (more (le_of_suc-le-suc (rw (ne_eqb x 10 q) at h))))

pub lines_more : (s : List ℕ) → before 10 s < length s → lines_of s ≡ take (before 10 s) s ∷ lines_of (drop (before 10 s + 1) s)
unfolding lines_of ended
lines_more s h =
    let w = split_some 10 (drop (before 10 s + 1) s) in
    rw (split_more 10 s h, w.2)

-- A walk along the fields of a line: the i-th ends at e.
pub record Along (s : List ℕ) (i e : ℕ) : Type 0 where
  pub start : ℕ
  pub low : start ≤ length s
  pub ends : e ≡ start + before 32 (drop start s)
  pub fields : drop i (split_on 32 s) ≡ split_on 32 (drop start s)

pub along_start : (s : List ℕ) (e : ℕ) → e ≡ 0 + before 32 s → Along s 0 e
along_start s e q = record { start = 0; low = omega arith; ends = q; fields = refl }

module _ (s : List ℕ) (i e : ℕ) (w : Along s i e) where
  pub along_more : i + 1 < length (split_on 32 s) → e < length s
  along_more h = by (lt_or_le e (length s))
    where
      by : (e < length s) ⊎ (length s ≤ e) → e < length s
      by (inl l) = l
      by (inr l) =
          let d : length (drop w.start s) ≤ before 32 (drop w.start s) = omega (arith, w.ends, length-drop w.start s) in
          let one = ap length (w.fields ∙ split_last 32 (drop w.start s) d) in
          absurd (omega (arith, one, length-drop i (split_on 32 s)))

  module _ (l : e < length s) (e' : ℕ) (q : e' ≡ e + 1 + before 32 (drop (e + 1) s)) where
    behind_e : drop (i + 1) (split_on 32 s) ≡ split_on 32 (drop (e + 1) s)
    behind_e =
        let d : before 32 (drop w.start s) < length (drop w.start s) = omega (arith, w.ends, length-drop w.start s) in
        let n : w.start + (before 32 (drop w.start s) + 1) ≡ e + 1 = omega (arith, w.ends) in
        sym (drop-drop 1 i (split_on 32 s)) ∙ ap (λ (fs : List (List ℕ)). drop 1 fs) (w.fields ∙ split_more 32 (drop w.start s) d)
        ∙ ap (λ (x : List ℕ). split_on 32 x) (drop-drop (before 32 (drop w.start s) + 1) w.start s) ∙ ap (λ (k : ℕ). split_on 32 (drop k s)) n

    pub along_next : Along s (i + 1) e'
    along_next = record { start = e + 1; low = omega arith; ends = q; fields = behind_e }

    pub along_field : get_or (split_on 32 s) (i + 1) [] ≡ take (e' - (e + 1)) (drop (e + 1) s)
    along_field =
        let z : i + 1 + 0 ≡ i + 1 = omega arith in
        sym (ap (λ (k : ℕ). get_or (split_on 32 s) k []) z) ∙ sym (get_or-drop (i + 1) (split_on 32 s) 0 []) ∙ ap (λ (fs : List (List ℕ)). get_or fs 0 []) behind_e
        ∙ first_field 32 s (e + 1) e' q 0 refl
