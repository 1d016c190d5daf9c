-- Laws of a line's fields at the front of what remains of the part.
use mathlib.Core.Path.{◌≡◌, refl, sym, ap, ◌∙◌}
use mathlib.Core.Bool.{Bool, true, false, cond}
use mathlib.Core.List.{List, [], ◌∷◌}
use mathlib.Core.Logic.{⊎_elim}
use Prim.Native.Nat.{ℕ, suc, ◌≤◌, ◌<◌, ◌+◌}
use native.Mathlib.Omega.{arith}
use borrow.Author.Tests.{lt-ltb, le-ltb, eqb-true}
use lib.Dec.{eqb, ltb}
use lib.ListN.{length, get_or, take, drop, length-drop}
use lib.Seq.{drop-drop, get_or-take, length-take-le}
use Rattle.std.proofs.Common.{Option, Some, None}
use Rattle.decimal.specs.declared.Reached.{Reached}
use Rattle.decimal.specs.Decimal.{is_digit, natural_of}
use Rattle.lines.proofs.PartLaws.{lt_or_le}
use Rattle.lines.specs.Lines.{before, split_on}
use Rattle.lines.proofs.FieldLaws.{before_le, split_some}
use Rattle.decimal.proofs.NumberLaws.{natural_bad, Got, got}
use Rattle.decimal.specs.Computed.Forward.{reached, number_until}
use Rattle.events.specs.declared.Line.{Line}
use Rattle.events.specs.Events.{Fields, wrong, on_number, field, last}
use Rattle.events.specs.Computed.Lines.{placed, front, stage}

-- the byte that was looked for
pub get_d_before : (b : ℕ) (t : List ℕ) → before b t < length t → get_or t (before b t) 0 ≡ b
unfolding before
get_d_before b [] h = absurd (omega arith)
get_d_before b (x ∷ xs) h = by (eqb x b) refl h (get_d_before b xs)
  where
    by : (q : Bool) → eqb x b ≡ q → cond q 0 (suc (before b xs)) < suc (length xs) → (before b xs < length xs → get_or xs (before b xs) 0 ≡ b)
        → get_or (x ∷ xs) (cond q 0 (suc (before b xs))) 0 ≡ b
    by true e h r = eqb-true x b e
    by false e h r = r (omega arith)

-- a space in the line: a field, and the fields behind the space
pub fields_more : (t : List ℕ) → before 32 t < before 10 t
    → split_on 32 (front t) ≡ take (before 32 t) t ∷ split_on 32 (front (drop (before 32 t + 1) t))
unfolding before split_on front
fields_more [] h = absurd (omega arith)
fields_more (x ∷ xs) h = by (eqb x 32) (eqb x 10) refl h (fields_more xs)
  where
    by : (p q : Bool) → eqb x 32 ≡ p → cond p 0 (suc (before 32 xs)) < cond q 0 (suc (before 10 xs))
        → (before 32 xs < before 10 xs → split_on 32 (front xs) ≡ take (before 32 xs) xs ∷ split_on 32 (front (drop (before 32 xs + 1) xs)))
        → split_on 32 (take (cond q 0 (suc (before 10 xs))) (x ∷ xs))
        ≡ take (cond p 0 (suc (before 32 xs))) (x ∷ xs) ∷ split_on 32 (front (drop (cond p 0 (suc (before 32 xs)) + 1) (x ∷ xs)))
    by p true e h r = absurd (omega arith)
    by true false e h r = rw (e)
    by false false e h r =
        let m : suc (before 32 xs) + 1 ≡ suc (before 32 xs + 1) = omega arith in
        rw (e, m, r (omega arith))

-- and the line's end is that of the rest
pub before_more : (t : List ℕ) → before 32 t < before 10 t → before 10 t ≡ before 32 t + 1 + before 10 (drop (before 32 t + 1) t)
unfolding before
before_more [] h = absurd (omega arith)
before_more (x ∷ xs) h = by (eqb x 32) (eqb x 10) h (before_more xs)
  where
    by : (p q : Bool) → cond p 0 (suc (before 32 xs)) < cond q 0 (suc (before 10 xs))
        → (before 32 xs < before 10 xs → before 10 xs ≡ before 32 xs + 1 + before 10 (drop (before 32 xs + 1) xs))
        → cond q 0 (suc (before 10 xs)) ≡ cond p 0 (suc (before 32 xs)) + 1 + before 10 (drop (cond p 0 (suc (before 32 xs)) + 1) (x ∷ xs))
    by p true h r = absurd (omega arith)
    by true false h r = omega arith
    by false false h r =
        let m : suc (before 32 xs) + 1 ≡ suc (before 32 xs + 1) = omega arith in
        rw (m) (omega (arith, r (omega arith)))

-- no space in the line: one field
pub fields_one : (t : List ℕ) → before 10 t ≤ before 32 t → split_on 32 (front t) ≡ front t ∷ []
unfolding before split_on front
fields_one [] h = refl
fields_one (x ∷ xs) h = by (eqb x 32) (eqb x 10) refl h (fields_one xs)
  where
    by : (p q : Bool) → eqb x 32 ≡ p → cond q 0 (suc (before 10 xs)) ≤ cond p 0 (suc (before 32 xs))
        → (before 10 xs ≤ before 32 xs → split_on 32 (front xs) ≡ front xs ∷ [])
        → split_on 32 (take (cond q 0 (suc (before 10 xs))) (x ∷ xs)) ≡ take (cond q 0 (suc (before 10 xs))) (x ∷ xs) ∷ []
    by p true e h r = refl
    by true false e h r = absurd (omega arith)
    by false false e h r = rw (e, r (omega arith))

none_either : (q : Bool) → ◌≡◌ {A = Option Line} (cond q None None) None
none_either true = refl
none_either false = refl

none_number : (m : Option ℕ) (f : ℕ → Fields) → ((n : ℕ) → f n ≡ wrong) → on_number m f ≡ wrong
none_number None f h = refl
none_number (Some n) f h = h n

reached_none : (e : ℕ) (m : Option ℕ) → reached e m ≡ None → m ≡ None
reached_none e None h = refl
reached_none e (Some n) h = cc

-- a field that is no number: no event line
pub stage_bad : (f : ℕ → List (List ℕ) → Fields) → ((n : ℕ) → f n [] ≡ wrong) → (at : ℕ) (t : List ℕ)
    → number_until 32 at t ≡ None → stage (field f) at t ≡ None
unfolding stage number_until
stage_bad f z at t h = ⊎_elim
    (λ a.
    let e : natural_of (take (before 32 t) t) ≡ None =
    reached_none (at + before 32 t + 1) (natural_of (take (before 32 t) t))
    (ap (λ (q : Bool). cond q (reached (at + before 32 t + 1) (natural_of (take (before 32 t) t))) None)
    (sym (lt-ltb (before 32 t) (length t) (omega (arith, before_le 10 t)))) ∙ h) in
    rw (fields_more t a, e) (none_either (ltb (before 10 t) (length t))))
    (λ a. rw (fields_one t a, none_number (natural_of (front t)) (λ n. f n []) z) (none_either (ltb (before 10 t) (length t))))
    (lt_or_le (before 32 t) (before 10 t))

-- a number up to a space stands in the line
got_in_line : (at : ℕ) (t : List ℕ) (r : Reached) → Got 32 at t r → before 32 t < before 10 t
got_in_line at t r g = ⊎_elim (λ a. a)
    (λ a.
    let x : get_or t (before 10 t) 0 ≡ 10 = get_d_before 10 t (omega (arith, g.inside)) in
    let y : get_or t (before 32 t) 0 ≡ 32 = get_d_before 32 t g.inside in
    let ne : (before 10 t ≡ before 32 t → ⊥) = (λ e. let w = ap (λ (i : ℕ). get_or t i 0) e in omega (arith, w, x, y)) in
    let lt : before 10 t < before 32 t = omega (arith, ne) in
    let b : get_or (take (before 32 t) t) (before 10 t) 0 ≡ 10 = get_or-take (before 32 t) t (before 10 t) 0 lt ∙ x in
    let k : is_digit (get_or (take (before 32 t) t) (before 10 t) 0) ≡ false = rw (b) in
    let l : before 10 t < length (take (before 32 t) t) = rw (length-take-le (before 32 t) t (omega (arith, g.inside))) lt in
    let w : None ≡ Some r.number = sym (natural_bad (before 10 t) (take (before 32 t) t) l k) ∙ g.is in cc)
    (lt_or_le (before 32 t) (before 10 t))

-- a number up to a space: the fields behind it
pub stage_number : (f : ℕ → List (List ℕ) → Fields) (at : ℕ) (s : List ℕ) (r : Reached)
    → number_until 32 at (drop at s) ≡ Some r → stage (field f) at (drop at s) ≡ stage (f r.number) r.next (drop r.next s)
unfolding stage
stage_number f at s r h =
    let t = drop at s in
    let g = got 32 at t r h in
    let a = got_in_line at t r g in
    let m : at + before 32 t + 1 ≡ at + (before 32 t + 1) = omega arith in
    let d : drop (at + before 32 t + 1) s ≡ drop (before 32 t + 1) t = ap (λ (i : ℕ). drop i s) m ∙ sym (drop-drop (before 32 t + 1) at s) in
    let u = drop (before 32 t + 1) t in
    let lu = length-drop (before 32 t + 1) t in
    let bm = before_more t a in
    let e : at + before 10 t + 1 ≡ at + before 32 t + 1 + before 10 u + 1 = omega (arith, bm) in
    let q : ltb (before 10 t) (length t) ≡ ltb (before 10 u) (length u) = ⊎_elim
    (λ x. lt-ltb _ _ x ∙ sym (lt-ltb (before 10 u) (length u) (omega (arith, bm, lu, x))))
    (λ x. le-ltb _ _ x ∙ sym (le-ltb (before 10 u) (length u) (omega (arith, bm, lu, x))))
    (lt_or_le (before 10 t) (length t)) in
    rw (g.place, d, q, e, fields_more t a, g.is)

front_length : (t : List ℕ) → before 32 t < before 10 t → before 32 t < length (front t)
unfolding front
front_length t a = rw (length-take-le (before 10 t) t (before_le 10 t)) a

front_byte : (t : List ℕ) → before 32 t < before 10 t → get_or (front t) (before 32 t) 0 ≡ 32
unfolding front
front_byte t a = get_or-take (before 10 t) t (before 32 t) 0 a ∙ get_d_before 32 t (omega (arith, before_le 10 t))

-- the last field
pub stage_last : (g : List ℕ → Fields) → ((x : List ℕ) (i : ℕ) → i < length x → get_or x i 0 ≡ 32 → g x ≡ wrong) → (at : ℕ) (t : List ℕ)
    → stage (last g) at t ≡ cond (ltb (before 10 t) (length t)) (placed (at + before 10 t + 1) (g (front t))) None
unfolding stage
stage_last g z at t = ⊎_elim
    (λ a.
    let w = split_some 32 (front (drop (before 32 t + 1) t)) in
    rw (fields_more t a, w.2, z (front t) (before 32 t) (front_length t a) (front_byte t a)))
    (λ a. rw (fields_one t a))
    (lt_or_le (before 32 t) (before 10 t))
