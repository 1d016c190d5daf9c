-- Laws of the head, the guards, line 3 and the trailer; and what a trace that is found has.
use mathlib.Core.Path.{◌≡◌, refl, sym, ap, ◌∙◌, subst}
use mathlib.Core.Bool.{Bool, true, false, cond, ◌&&◌, false≢true}
use mathlib.Core.List.{List, [], ◌∷◌}
use mathlib.Core.Logic.{◌⊎◌, inl, inr}
use Prim.Native.Nat.{ℕ, suc, ◌≤◌, ◌<◌, ◌+◌, ◌-◌}
use native.Mathlib.Omega.{arith}
use borrow.Author.Tests.{lt-ltb, le-ltb, ltb-true, ltb-false, eq-eqb, eqb-true}
use lib.Dec.{T, eqb, ltb}
use lib.ListN.{length, get_or, take, drop, length-take, length-drop}
use lib.Seq.{length-take-le, take-take, take-add, drop_at}
use mir.Syntax.{Width}
use Rattle.rules.specs.declared.Counts.{Counts}
use Rattle.rules.specs.declared.Refusal.{Refusal}
use Rattle.rules.specs.Events.{among}
use Rattle.rules.specs.Limits.{Limits, full, full_with, no_volatiles, with_flags, volatile, any_volatile, first_line, allowed}
use Rattle.rules.specs.Rules.{accepted, refused, number_in, line_in}
use Rattle.lines.specs.Lines.{before, up_to, split_on, letter}
use Rattle.rules.proofs.Bounds.{declares}
use Rattle.lines.proofs.FieldLaws.{up_le, ended_drop, ended_before}
use Rattle.std.proofs.Common.{Option, Some, None, Result, Ok, Err}
use Rattle.decimal.specs.Decimal.{natural_of}
use Rattle.trace.specs.declared.Trace.{Trace}
use Rattle.trace.specs.Trace.{refusal, too_long, wrong_head, over_limits, wrong_guards, Guards, check_at, last_line, last_number, last_of, trailer_of, check_counts, check_head, head_of, guards_of, volatiles_of, with_guards, second_of, behind_head, first_head, first_of, behind_trailer, plain_trace_of, events_of, begins_with_v, with_volatiles, third_of, behind_guards, trace_of, meant_volatile, found, head_in}
use Rattle.trace.proofs.VolatileLaws.{volatiles_flags, volatiles_named, any_some, any_none, none_volatile, allowed_with}

pub last_none : (s : List ℕ) → length s ≡ 0 → record { at = 0; number = None } ≡ last_of s
unfolding last_line last_number up_to
last_none [] h = refl
last_none (x ∷ xs) h = absurd (omega arith)

pub last_le : (s : List ℕ) → last_line s ≤ length s - 1
unfolding last_line
last_le s = omega (arith, up_le 10 (take (length s - 1) s), length-take (length s - 1) s)

-- ---- the head

pub counts_right : (c : Counts) → allowed full c ≡ true → Some c ≡ check_counts c
counts_right c a = rw a refl

pub counts_wrong : (c : Counts) → allowed full c ≡ false → None ≡ check_counts c
counts_wrong c a = rw a refl

-- a right head is allowed by the full limits, and no head names a volatile variable
pub record Fit (h : Counts) : Type 0 where
  pub fits : allowed full h ≡ true
  pub plain : h.volatiles ≡ no_volatiles

fit_check : (t v l : Option ℕ) (h : Counts) → check_head t v l ≡ Some h → Fit h
fit_check None v l h e = cc
fit_check (Some t) None l h e = cc
fit_check (Some t) (Some v) None h e = cc
fit_check (Some t) (Some v) (Some l) h e = by (allowed full c) refl e
  where
    c : Counts
    c = record { threads = t; variables = v; locks = l; volatiles = no_volatiles }

    by : (b : Bool) → allowed full c ≡ b → cond b (Some c) None ≡ Some h → Fit h
    by true a e = let q : c ≡ h = cc in subst Fit q (record { fits = a; plain = refl })
    by false a e = cc

-- line 1
pub head_fit : (s : List ℕ) (h : Counts) → first_head s ≡ Some h → Fit h
unfolding first_head head_of
head_fit s h e = by (ltb (before 10 s) (length s)) (eqb (length fs) 4) (eqb (letter (get_or fs 0 [])) 72) e
  where
    fs : List (List ℕ)
    fs = split_on 32 (take (before 10 s) s)

    by : (o p q : Bool) → cond o (cond p (cond q (check_head (natural_of (get_or fs 1 [])) (natural_of (get_or fs 2 [])) (natural_of (get_or fs 3 []))) None) None) None ≡ Some h → Fit h
    by true true true e = fit_check (natural_of (get_or fs 1 [])) (natural_of (get_or fs 2 [])) (natural_of (get_or fs 3 [])) h e
    by true true false e = cc
    by true false q e = cc
    by false p q e = cc

pub head_allowed : (s : List ℕ) (h : Counts) → first_head s ≡ Some h → allowed full h ≡ true
head_allowed s h e = (head_fit s h e).fits

pub head_plain : (s : List ℕ) (h : Counts) → first_head s ≡ Some h → h.volatiles ≡ no_volatiles
head_plain s h e = (head_fit s h e).plain

-- a line of four fields that begins with an H
pub head_numbers : (s : List ℕ) → length (split_on 32 s) ≡ 4 → letter (get_or (split_on 32 s) 0 []) ≡ 72
    → check_head (natural_of (get_or (split_on 32 s) 1 [])) (natural_of (get_or (split_on 32 s) 2 [])) (natural_of (get_or (split_on 32 s) 3 [])) ≡ head_of (split_on 32 s)
unfolding head_of
head_numbers s four k = rw (eq-eqb _ _ four, eq-eqb _ _ k)

-- ---- the trailer

-- the trailer stands where the last line starts
check_place : (at e : ℕ) (n : Option ℕ) → check_at at n ≡ Some e → e ≡ at
check_place at e None h = cc
check_place at e (Some n) h = by (eqb n at) refl h
  where
    by : (q : Bool) → eqb n at ≡ q → cond q (Some n) None ≡ Some e → e ≡ at
    by true z h = let k : n ≡ e = cc in sym k ∙ eqb-true n at z
    by false z h = cc

pub trailer_at : (s : List ℕ) (e : ℕ) → trailer_of s ≡ Some e → e ≡ last_line s
unfolding trailer_of
trailer_at s e h = check_place (last_line s) e (last_number s) h

pub trailer_le : (s : List ℕ) (e : ℕ) → trailer_of s ≡ Some e → e ≤ length s
trailer_le s e h = omega (arith, trailer_at s e h, last_le s)

-- ---- the cases of finding

pub second_none : (s : List ℕ) (at e b : ℕ) (h : Counts) → b ≡ before 10 s → length s ≤ b → Err wrong_guards ≡ second_of s at e h
unfolding second_of
second_none s at e b h k l = let m : length s ≤ before 10 s = omega (arith, k, l) in rw (le-ltb _ _ m)

pub second_some : (s : List ℕ) (at e b : ℕ) (h : Counts) → b ≡ before 10 s → b < length s
    → with_guards (at + b + 1) e h (guards_of h.variables h.locks (split_on 32 (take b s))) ≡ second_of s at e h
unfolding second_of
second_some s at e b h k l = let m : before 10 s < length s = omega (arith, k, l) in rw (k, lt-ltb _ _ m)

pub first_none : (m : Limits) (s : List ℕ) (e a : ℕ) → a ≡ before 10 s → length s ≤ a → Err wrong_head ≡ first_of m s e
unfolding first_of first_head
first_none m s e a k l = let q : length s ≤ before 10 s = omega (arith, k, l) in rw (le-ltb _ _ q)

module _ (m : Limits) (s : List ℕ) (e a : ℕ) (k : a ≡ before 10 s) (l : a < length s) (r : Option Counts) (z : r ≡ head_of (split_on 32 (take a s))) where
  first_some : behind_head m s a e r ≡ first_of m s e
  unfolding first_of first_head
  first_some = let q : before 10 s < length s = omega (arith, k, l) in ap (behind_head m s a e) z ∙ rw (k, lt-ltb _ _ q)

  pub head_wrong : r ≡ None → Err wrong_head ≡ first_of m s e
  head_wrong o = ap (behind_head m s a e) (sym o) ∙ first_some

  module _ (h : Counts) (o : r ≡ Some h) where
    pub head_over : allowed m h ≡ false → Err (over_limits m) ≡ first_of m s e
    head_over p = let q : behind_head m s a e (Some h) ≡ Err (over_limits m) = rw (p) refl in sym q ∙ ap (behind_head m s a e) (sym o) ∙ first_some

    pub head_right : allowed m h ≡ true → second_of (drop (a + 1) s) (a + 1) e h ≡ first_of m s e
    head_right p = let q : behind_head m s a e (Some h) ≡ second_of (drop (a + 1) s) (a + 1) e h = rw (p) refl in sym q ∙ ap (behind_head m s a e) (sym o) ∙ first_some

pub trace_long : (m : Limits) (s : List ℕ) → m.bytes < length s → Err too_long ≡ plain_trace_of m s
unfolding plain_trace_of
trace_long m s h = rw (lt-ltb _ _ h)

pub trace_short : (m : Limits) (s : List ℕ) → length s ≤ m.bytes → behind_trailer m s (trailer_of s) ≡ plain_trace_of m s
unfolding plain_trace_of
trace_short m s h = rw (le-ltb _ _ h)

-- line 3
pub third_none : (u : List ℕ) (t : Trace) → begins_with_v u ≡ false → Ok t ≡ third_of u t
unfolding third_of
third_none u t e = rw e

pub third_some : (u : List ℕ) (t : Trace) → begins_with_v u ≡ true → (b : ℕ) → b ≡ before 10 u
    → with_volatiles (b + 1) t (volatiles_of t.head.variables (split_on 32 (take b u))) ≡ third_of u t
unfolding third_of
third_some u t e b k = rw (k, e)

-- ---- the part that holds the events

-- what stands up to the last b ends in b
up_take : (b : ℕ) (u : List ℕ) → up_to b (take (up_to b u) u) ≡ up_to b u
unfolding up_to
up_take b [] = refl
up_take b (x ∷ xs) = by (eqb (up_to b xs) 0) (eqb x b) refl refl (up_take b xs)
  where
    by : (t w : Bool) → eqb (up_to b xs) 0 ≡ t → eqb x b ≡ w → up_to b (take (up_to b xs) xs) ≡ up_to b xs
        → up_to b (take (cond t (cond w 1 0) (suc (up_to b xs))) (x ∷ xs)) ≡ cond t (cond w 1 0) (suc (up_to b xs))
    by true true e f r = rw (f)
    by true false e f r = refl
    by false w e f r = rw (r, e)

last_ended : (s : List ℕ) → up_to 10 (take (last_line s) s) ≡ last_line s
unfolding last_line
last_ended s =
    let u = take (length s - 1) s in
    let e : take (last_line s) u ≡ take (last_line s) s = take-take (last_line s) (length s - 1) s (last_le s) in
    ap (up_to 10) (sym e) ∙ up_take 10 u

-- what stands before the trailer is whole lines
trailer_ended : (s : List ℕ) (e : ℕ) → trailer_of s ≡ Some e → up_to 10 (take e s) ≡ e
trailer_ended s e k = let p = trailer_at s e k in ap (λ (i : ℕ). up_to 10 (take i s)) p ∙ last_ended s ∙ sym p

-- the part between two places
pub part_drop : (a e : ℕ) (s : List ℕ) → a ≤ e → e ≤ length s → take (e - a) (drop a s) ≡ drop a (take e s)
part_drop a e s h k =
    let m : e ≡ a + (e - a) = omega arith in
    sym (ap (λ (i : ℕ). drop a (take i s)) m ∙ ap (drop a) (take-add a (e - a) s)
    ∙ drop_at (take a s) (take (e - a) (drop a s)) a (length-take-le a s (omega arith)))

-- a part in front of the trailer has a first line where it has a first byte
begins_some : (u : List ℕ) → begins_with_v u ≡ true → 0 < length u
begins_some [] q = absurd (false≢true q)
begins_some (x ∷ xs) q = omega arith

line_within : (s : List ℕ) (a e : ℕ) → a ≤ e → trailer_of s ≡ Some e → begins_with_v (take (e - a) (drop a s)) ≡ true → a + (before 10 (take (e - a) (drop a s)) + 1) ≤ e
line_within s a e l k q =
    let u = take (e - a) (drop a s) in
    let w = trailer_le s e k in
    let p = part_drop a e s l w in
    let n : length u ≡ e - a = length-take-le (e - a) (drop a s) (omega (arith, length-drop a s)) in
    let f : up_to 10 (take e s) ≡ length (take e s) = trailer_ended s e k ∙ sym (length-take-le e s w) in
    let z : up_to 10 u ≡ length u = ap (up_to 10) p ∙ ended_drop 10 a (take e s) f ∙ sym (ap length p) in
    omega (arith, n, ended_before 10 u z (begins_some u q))

-- ---- what finding gives: a refusal and nothing else; or an allowed head, guards, and a part that ends where the trailer starts

module _ (m : Limits) where
  -- a head that is found, where b says whether a variable is volatile
  pub record Head (b : Bool) (h : Counts) : Type 0 where
    pub fit : allowed m h ≡ true
    pub few : h.variables ≤ full.variables
    pub size : length h.volatiles ≡ full.variables
    pub any : any_volatile h ≡ b

  plain_head : (h : Counts) → h.volatiles ≡ no_volatiles → allowed full h ≡ true → allowed m h ≡ true → Head false h
  plain_head h q f a = record { fit = a; few = (declares full h f).variables; size = ap length q; any = any_none h q }

  -- one with the variables of a right `V` line
  volatile_head : {b : Bool} (h : Counts) (fs : List (List ℕ)) (g : List Bool) → Head b h → volatiles_of h.variables fs ≡ Some g → Head true (with_flags h g)
  volatile_head h fs g w o =
      let f = volatiles_flags h.variables fs g o in
      let k = volatiles_named h.variables w.few fs g o in
      record { fit = allowed_with m h g f w.fit; few = w.few; size = f.size; any = any_some (with_flags h g) k.0 k.1 k.2 }

module _ (m : Limits) (s : List ℕ) where
  pub data Finding (b : Bool) : Result Trace Refusal → Type 0 where
    denied : (n line : ℕ) → T (among (1 ∷ 2 ∷ 3 ∷ 6 ∷ []) n) → ((e : ℕ) → trailer_of s ≡ Some e → length s ≤ m.bytes → T (among (3 ∷ 6 ∷ []) n))
        → Finding b (Err (refusal n line))
    over : (h : Counts) → allowed full h ≡ true → allowed m h ≡ false → Finding b (Err (over_limits m))
    given : (h : Counts) (g : Guards) (a e : ℕ) → Head m b h → a ≤ e → trailer_of s ≡ Some e → length s ≤ m.bytes
        → Finding b (Ok (record { head = h; guards = g; from = a; to = e }))

  module _ (e : ℕ) (k : trailer_of s ≡ Some e) (few : length s ≤ m.bytes) where
    finding_second : (u : List ℕ) (at : ℕ) (h : Counts) → Head m false h → at + length u ≡ e → Finding false (second_of u at e h)
    unfolding second_of
    finding_second u at h f l = by (ltb (before 10 u) (length u)) refl (guards_of h.variables h.locks (split_on 32 (take (before 10 u) u)))
      where
        on : (a : ℕ) (g : Option Guards) → a ≤ e → Finding false (with_guards a e h g)
        on a (Some g) q = given h g a e f q k few
        on a None q = denied 6 2 tt (λ e k f. tt)

        by : (q : Bool) → ltb (before 10 u) (length u) ≡ q → (g : Option Guards) → Finding false (cond q (with_guards (at + before 10 u + 1) e h g) (Err wrong_guards))
        by false r g = denied 6 2 tt (λ e k f. tt)
        by true r g = on (at + before 10 u + 1) g (omega (arith, l, ltb-true (before 10 u) (length u) r))

    finding_first : (u : List ℕ) → length u ≡ e → Finding false (first_of m u e)
    unfolding first_of first_head
    finding_first u l = by (first_head u) refl
      where
        on : (h : Counts) (p : Bool) → Fit h → allowed m h ≡ p → before 10 u < length u
            → Finding false (cond p (second_of (drop (before 10 u + 1) u) (before 10 u + 1) e h) (Err (over_limits m)))
        on h true f q i = finding_second (drop (before 10 u + 1) u) (before 10 u + 1) h (plain_head m h f.plain f.fits q) (omega (arith, l, length-drop (before 10 u + 1) u))
        on h false f q i = over h f.fits q

        ended : (h : Counts) → first_head u ≡ Some h → before 10 u < length u
        ended h q = inside (ltb (before 10 u) (length u)) refl q
          where
            inside : (b : Bool) → ltb (before 10 u) (length u) ≡ b → cond b (head_of (split_on 32 (take (before 10 u) u))) None ≡ Some h → before 10 u < length u
            inside true z q = ltb-true (before 10 u) (length u) z
            inside false z q = cc

        by : (r : Option Counts) → first_head u ≡ r → Finding false (behind_head m u (before 10 u) e r)
        by None q = denied 3 1 tt (λ e k f. tt)
        by (Some h) q = on h (allowed m h) (head_fit u h q) refl (ended h q)

  -- lines 1 and 2
  pub finding_plain : Finding false (plain_trace_of m s)
  unfolding plain_trace_of
  finding_plain = by (ltb m.bytes (length s)) refl (trailer_of s) refl
    where
      by : (q : Bool) → ltb m.bytes (length s) ≡ q → (t : Option ℕ) → trailer_of s ≡ t → Finding false (cond q (Err too_long) (behind_trailer m s t))
      by true l t r = denied 1 0 tt (λ e k f. absurd (omega (arith, f, ltb-true m.bytes (length s) l)))
      by false l None r = denied 2 0 tt (λ e k f. cc)
      by false l (Some e) r = finding_first e r (ltb-false m.bytes (length s) l) (take e s) (length-take-le e s (trailer_le s e r))

  -- line 3
  finding_third : (h : Counts) (g : Guards) (a e : ℕ) (u : List ℕ) → Head m false h → a ≤ e → trailer_of s ≡ Some e → length s ≤ m.bytes → u ≡ take (e - a) (drop a s)
      → Finding (begins_with_v u) (third_of u (record { head = h; guards = g; from = a; to = e }))
  unfolding third_of
  finding_third h g a e u f l k few q = by (begins_with_v u) refl
    where
      n : ℕ
      n = before 10 u + 1

      fs : List (List ℕ)
      fs = split_on 32 (take (before 10 u) u)

      on : (r : Option (List Bool)) → volatiles_of h.variables fs ≡ r → a + n ≤ e → Finding true (with_volatiles n (record { head = h; guards = g; from = a; to = e }) r)
      on (Some r) z w = given (with_flags h r) g (a + n) e (volatile_head m h fs r f z) w k few
      on None z w = denied 6 3 tt (λ e k f. tt)

      by : (b : Bool) → begins_with_v u ≡ b
          → Finding b (cond b (with_volatiles n (record { head = h; guards = g; from = a; to = e }) (volatiles_of h.variables fs)) (Ok (record { head = h; guards = g; from = a; to = e })))
      by true z = on (volatiles_of h.variables fs) refl (rw q (line_within s a e l k (ap begins_with_v (sym q) ∙ z)))
      by false z = given h g a e f l k few

  pub finding : Finding (meant_volatile m s) (trace_of m s)
  unfolding trace_of meant_volatile events_of
  finding = by m.volatiles finding_plain
    where
      on : {t : Result Trace Refusal} → Finding false t → Finding (begins_with_v (events_of s t)) (behind_guards s t)
      on (denied n line o f) = denied n line o f
      on (over h f q) = over h f q
      on (given h g a e f l k few) = finding_third h g a e (take (e - a) (drop a s)) f l k few refl

      by : (b : Bool) {t : Result Trace Refusal} → Finding false t → Finding (b && begins_with_v (events_of s t)) (cond b (behind_guards s t) t)
      by true f = on f
      by false f = f

-- a trace that is found has an allowed head
pub found_allowed : (m : Limits) (s : List ℕ) → found (trace_of m s) ≡ accepted → allowed m (head_in (trace_of m s)) ≡ true
found_allowed m s = by (finding m s)
  where
    by : {b : Bool} {t : Result Trace Refusal} → Finding m s b t → found t ≡ accepted → allowed m (head_in t) ≡ true
    by (denied n line o f) q = cc
    by (over h f k) q = cc
    by (given h g a e f l k few) q = f.fit

-- one that is not found is refused with 1, 2, 3 or 6, or for counts that the full limits allow and m does not, at line 1
pub found_number : (m : Limits) (s : List ℕ) (n line : ℕ) → found (trace_of m s) ≡ refused n line
    → T (among (1 ∷ 2 ∷ 3 ∷ 6 ∷ []) n) ⊎ ((h : Counts) × (allowed full h ≡ true) × (allowed m h ≡ false) × (n ≡ m.excess) × (line ≡ 1))
found_number m s n line = by (finding m s)
  where
    by : {b : Bool} {t : Result Trace Refusal} → Finding m s b t → found t ≡ refused n line → T (among (1 ∷ 2 ∷ 3 ∷ 6 ∷ []) n) ⊎ ((h : Counts) × (allowed full h ≡ true) × (allowed m h ≡ false) × (n ≡ m.excess) × (line ≡ 1))
    by (denied k l o f) q = inl (subst (λ (i : ℕ). T (among (1 ∷ 2 ∷ 3 ∷ 6 ∷ []) i)) (ap number_in q) o)
    by (over h f k) q = inr (h, f, k, sym (ap number_in q), sym (ap line_in q))
    by (given h g a e f l k few) q = cc

-- with 3 or 6, or for such counts, where it has no more bytes than m allows and its trailer is right
pub trailed_number : (m : Limits) (s : List ℕ) (n line e : ℕ) → trailer_of s ≡ Some e → length s ≤ m.bytes → found (trace_of m s) ≡ refused n line
    → T (among (3 ∷ 6 ∷ []) n) ⊎ (n ≡ m.excess)
trailed_number m s n line e k few = by (finding m s)
  where
    by : {b : Bool} {t : Result Trace Refusal} → Finding m s b t → found t ≡ refused n line → T (among (3 ∷ 6 ∷ []) n) ⊎ (n ≡ m.excess)
    by (denied i l o f) q = inl (subst (λ (j : ℕ). T (among (3 ∷ 6 ∷ []) j)) (ap number_in q) (f e k few))
    by (over h f i) q = inr (sym (ap number_in q))
    by (given h g a e f l i few) q = cc

-- of a trace that is refused nothing is kept
pub not_found : (m : Limits) (s : List ℕ) (n line : ℕ) → found (trace_of m s) ≡ refused n line → trace_of m s ≡ Err (refusal n line)
not_found m s n line = by (trace_of m s)
  where
    by : (t : Result Trace Refusal) → found t ≡ refused n line → t ≡ Err (refusal n line)
    by (Ok t) q = cc
    by (Err r) q = λ i. Err (record { number = number_in (q i); line = line_in (q i) })

-- The part that holds the events lies in the bytes w, and what stands up to its end is whole lines.
pub record Lies (t : Trace) (w : List ℕ) : Type 0 where
  pub start : t.from ≤ t.to
  pub end : t.to ≤ length w
  pub ended : up_to 10 (take t.to w) ≡ t.to

module _ (m : Limits) (s : List ℕ) where
  lies_found : {b : Bool} {r : Result Trace Refusal} → Finding m s b r → (t : Trace) → r ≡ Ok t → Lies t s
  lies_found (denied n line o f) t q = cc
  lies_found (over h f k) t q = cc
  lies_found (given h g a e f l k few) t q =
      let z : record { head = h; guards = g; from = a; to = e } ≡ t = cc in
      subst (λ (t : Trace). Lies t s) z (record { start = l; end = trailer_le s e k; ended = trailer_ended s e k })

  pub lies : (t : Trace) → trace_of m s ≡ Ok t → Lies t s
  lies = lies_found (finding m s)

  -- the same of what stands behind line 2
  pub plain_lies : (t : Trace) → plain_trace_of m s ≡ Ok t → Lies t s
  plain_lies = lies_found (finding_plain m s)

  -- it ends within the bytes that are allowed, and no more variables are declared than there may be, also where nothing is found
  pub plain_fits : ((t : Trace) → plain_trace_of m s ≡ Ok t → t.to ≤ m.bytes) × ((head_in (plain_trace_of m s)).variables ≤ full.variables)
  plain_fits = by (finding_plain m s)
    where
      by : {r : Result Trace Refusal} → Finding m s false r → ((t : Trace) → r ≡ Ok t → t.to ≤ m.bytes) × ((head_in r).variables ≤ full.variables)
      by (denied n line o f) = (λ t q. cc, omega arith)
      by (over h f k) = (λ t q. cc, omega arith)
      by (given h g a e f l k few) = (
        λ t q.
            let z : record { head = h; guards = g; from = a; to = e } ≡ t = cc in
            omega (arith, ap (λ (t : Trace). t.to) z, trailer_le s e k, few),
        f.few,
      )

-- ---- the `V` line

module _ (m : Limits) (s : List ℕ) where
  -- without one the trace is what it was without document 02 (f)
  pub plain_trace : meant_volatile m s ≡ false → trace_of m s ≡ plain_trace_of m s
  unfolding trace_of meant_volatile
  plain_trace q = by m.volatiles q
    where
      on : (t : Result Trace Refusal) → begins_with_v (events_of s t) ≡ false → behind_guards s t ≡ t
      on (Ok t) q = sym (third_none (events_of s (Ok t)) t q)
      on (Err r) q = refl

      by : (b : Bool) → b && begins_with_v (events_of s (plain_trace_of m s)) ≡ false → cond b (behind_guards s (plain_trace_of m s)) (plain_trace_of m s) ≡ plain_trace_of m s
      by true q = on (plain_trace_of m s) q
      by false q = refl

  pub never_meant : m.volatiles ≡ false → meant_volatile m s ≡ false
  unfolding meant_volatile
  never_meant q = rw q refl

  -- and where lines 1 and 2 refuse it, line 3 is not looked at
  pub trace_unfound : (r : Refusal) → plain_trace_of m s ≡ Err r → trace_of m s ≡ Err r
  unfolding meant_volatile events_of
  trace_unfound r q = plain_trace (by m.volatiles) ∙ q
    where
      by : (b : Bool) → b && begins_with_v (events_of s (plain_trace_of m s)) ≡ false
      by true = ap (λ (t : Result Trace Refusal). begins_with_v (events_of s t)) q
      by false = refl

  flags_found : {b : Bool} {t : Result Trace Refusal} → Finding m s b t → length (head_in t).volatiles ≡ full.variables
  flags_found (denied n line o f) = refl
  flags_found (over h f k) = refl
  flags_found (given h g a e f l k few) = f.size

  -- there is a flag for each variable that a trace may have
  pub flags_sized : length (head_in (trace_of m s)).volatiles ≡ full.variables
  flags_sized = flags_found (finding m s)

  -- A trace that is found has a volatile variable exactly where a line 3 is meant as a `V` line.
  pub found_volatile : found (trace_of m s) ≡ accepted → any_volatile (head_in (trace_of m s)) ≡ meant_volatile m s
  found_volatile = by (finding m s)
    where
      by : {b : Bool} {t : Result Trace Refusal} → Finding m s b t → found t ≡ accepted → any_volatile (head_in t) ≡ b
      by (denied n line o f) q = cc
      by (over h f k) q = cc
      by (given h g a e f l k few) q = f.any

  -- With it events start at line 4.
  pub found_line : found (trace_of m s) ≡ accepted → first_line (head_in (trace_of m s)) ≡ cond (meant_volatile m s) 4 3
  unfolding first_line
  found_line q = ap (λ (b : Bool). cond b 4 3) (found_volatile q)

  -- without one no variable is volatile, also where nothing is found
  plain_any : any_volatile (head_in (plain_trace_of m s)) ≡ false
  plain_any = by (finding_plain m s)
    where
      by : {t : Result Trace Refusal} → Finding m s false t → any_volatile (head_in t) ≡ false
      by (denied n line o f) = any_none _ refl
      by (over h f k) = any_none _ refl
      by (given h g a e f l k few) = f.any

  pub plain_none : meant_volatile m s ≡ false → any_volatile (head_in (trace_of m s)) ≡ false
  plain_none q = ap (λ (t : Result Trace Refusal). any_volatile (head_in t)) (plain_trace q) ∙ plain_any

  pub plain_volatile : meant_volatile m s ≡ false → (v : ℕ) → volatile (head_in (trace_of m s)) v ≡ false
  plain_volatile q = none_volatile (head_in (trace_of m s)) flags_sized (plain_none q)

  pub plain_line : meant_volatile m s ≡ false → first_line (head_in (trace_of m s)) ≡ 3
  unfolding first_line
  plain_line q = ap (λ (b : Bool). cond b 4 3) (plain_none q)

-- a trace whose lines 1 and 2 are right, where a `V` line may follow
pub trace_third : (m : Limits) (s : List ℕ) (t : Trace) → m.volatiles ≡ true → plain_trace_of m s ≡ Ok t → third_of (take (t.to - t.from) (drop t.from s)) t ≡ trace_of m s
unfolding trace_of events_of
trace_third m s t v e = ap (behind_guards s) (sym e) ∙ by m.volatiles v
  where
    by : (b : Bool) → b ≡ true → behind_guards s (plain_trace_of m s) ≡ cond b (behind_guards s (plain_trace_of m s)) (plain_trace_of m s)
    by true q = refl
    by false q = cc

-- ---- other limits

-- where lines 1 and 2 give the same, so does line 3
pub trace_same : (m n : Limits) (s : List ℕ) → m.volatiles ≡ n.volatiles → plain_trace_of m s ≡ plain_trace_of n s → trace_of m s ≡ trace_of n s
unfolding trace_of
trace_same m n s q p = λ i. cond (q i) (behind_guards s (p i)) (p i)

-- lines 1 and 2 hang neither on the scratch, nor on the width of values, nor on a `V` line
pub plain_with : (k : ℕ) (w : Width) (b : Bool) (s : List ℕ) → plain_trace_of (full_with k w b) s ≡ plain_trace_of full s
unfolding plain_trace_of first_of allowed
plain_with k w b s = ap (cond (ltb full.bytes (length s)) (Err too_long)) (behind (trailer_of s))
  where
    behind : (t : Option ℕ) → behind_trailer (full_with k w b) s t ≡ behind_trailer full s t
    behind None = refl
    behind (Some e) = refl

-- with a `V` line and without, a paper that has none is found alike
pub plain_alike : (k : ℕ) (w : Width) (s : List ℕ) → meant_volatile full s ≡ false → trace_of (full_with k w false) s ≡ trace_of full s
plain_alike k w s q = plain_trace (full_with k w false) s (never_meant (full_with k w false) s refl) ∙ plain_with k w false s ∙ sym (plain_trace full s q)
