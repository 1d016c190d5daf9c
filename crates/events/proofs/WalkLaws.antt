-- The lines of a part one after the other, and what `line_at` says of each.
use Prim.Native.Nat.{ℕ, zero, suc, ◌≤◌, ◌<◌, ◌+◌}
use native.Mathlib.Omega.{arith}
use native.Mathlib.Nat.{not-suc-le-zero}
use mathlib.Core.Path.{◌≡◌, refl, sym, ap, ◌∙◌, subst}
use Rattle.std.proofs.Common.{Some, None}
use Rattle.std.proofs.Common.{Option as Option'}
use mathlib.Core.Bool.{Bool, true, false, cond}
use mathlib.Core.List.{List, [], ◌∷◌}
use mathlib.Core.Option.{Option, none, some}
use mathlib.Core.Logic.{⊎_elim}
use borrow.Author.Tests.{lt-ltb, ltb-true}
use lib.Dec.{ltb}
use lib.ListN.{length, take, drop, length-drop, drop_of_length-le}
use lib.Seq.{drop-drop}
use Rattle.rules.specs.Limits.{value_width}
use Rattle.rules.specs.declared.Event.{Event}
use Rattle.lines.specs.Lines.{before, up_to, split_on, ended, letter, lines_of}
use Rattle.lines.proofs.PartLaws.{lt_or_le}
use Rattle.lines.proofs.FieldLaws.{split_more, split_last, split_some, ended_drop, ended_before, lines_more}
use Rattle.records.specs.Records.{what_of, packed, value_in}
use Rattle.events.specs.declared.Line.{Line}
use Rattle.events.specs.Events.{Fields, wrong, right, line_of, event_in, event_of, readings, part_lines}
use Rattle.events.specs.Computed.Lines.{placed, front, stage, line_at}
use Rattle.events.proofs.LineLaws.{zero_none}
use Rattle.events.proofs.FormLaws.{Good, good, made}

-- ---- the lines of a part

part_more : (s : List ℕ) → before 10 s < length s → part_lines s ≡ take (before 10 s) s ∷ part_lines (drop (before 10 s + 1) s)
unfolding part_lines
part_more s h = let w = split_some 10 (drop (before 10 s + 1) s) in rw (split_more 10 s h, w.2)

-- the same, with the line as `line_at` has it
front_more : (s : List ℕ) → before 10 s < length s → part_lines s ≡ front s ∷ part_lines (drop (before 10 s + 1) s)
unfolding front
front_more s h = part_more s h

part_tail : (s : List ℕ) → 0 < length s → length s ≤ before 10 s → part_lines s ≡ [] ∷ []
unfolding part_lines
part_tail [] k h = absurd (not-suc-le-zero k)
part_tail (x ∷ xs) k h = rw (split_last 10 (x ∷ xs) h)

pub part_none : (s : List ℕ) (at : ℕ) → length s ≤ at → part_lines (drop at s) ≡ []
unfolding part_lines split_on
part_none s at h = rw (drop_of_length-le s h)

-- a part of whole lines
part_empty : (s : List ℕ) → length s ≤ 0 → part_lines s ≡ lines_of s
unfolding part_lines lines_of split_on ended
part_empty [] h = refl
part_empty (x ∷ xs) h = absurd (not-suc-le-zero h)

part_within : (n : ℕ) (s : List ℕ) → length s ≤ n → up_to 10 s ≡ length s → part_lines s ≡ lines_of s
part_within zero s l w = part_empty s l
part_within (suc n) s l w =
    ⊎_elim
    (λ k. more (ended_before 10 s w k) (λ h. part_within n (drop (before 10 s + 1) s) (shorter h) (ended_drop 10 (before 10 s + 1) s w)))
    (λ k. part_empty s k)
    (lt_or_le 0 (length s))
  where
    shorter : before 10 s < length s → length (drop (before 10 s + 1) s) ≤ n
    shorter h = omega (arith, length-drop (before 10 s + 1) s)

    more : (h : before 10 s < length s) → (before 10 s < length s → part_lines (drop (before 10 s + 1) s) ≡ lines_of (drop (before 10 s + 1) s)) → part_lines s ≡ lines_of s
    more h r = part_more s h ∙ ap (λ (ls : List (List ℕ)). take (before 10 s) s ∷ ls) (r h) ∙ sym (lines_more s h)

-- ---- the line at `at`, which is line n

at_as : (s : List ℕ) (at : ℕ) → line_at s at
    ≡ cond (ltb (before 10 (drop at s)) (length (drop at s))) (placed (at + before 10 (drop at s) + 1) (line_of value_width (front (drop at s)))) None
unfolding line_at stage line_of
at_as s at = refl

at_ended : (s : List ℕ) (at : ℕ) → before 10 (drop at s) < length (drop at s)
    → line_at s at ≡ placed (at + before 10 (drop at s) + 1) (line_of value_width (front (drop at s)))
at_ended s at h = at_as s at ∙ ap (λ (q : Bool). cond q (placed (at + before 10 (drop at s) + 1) (line_of value_width (front (drop at s)))) None) (lt-ltb _ _ h)

-- it is the event that its numbers say, and the next line starts where they say
pub record Here (n : ℕ) (s : List ℕ) (at : ℕ) (l : Line) : Type 0 where
  pub event : Event
  pub lines : readings value_width n (part_lines (drop at s)) ≡ some event ∷ readings value_width (suc n) (part_lines (drop l.next s))
  pub what_is : packed event ≡ what_of l.letter l.thread l.place
  pub value_is : value_in event ≡ l.value
  pub more : at < l.next

pub here : (n : ℕ) (s : List ℕ) (at : ℕ) (l : Line) → line_at s at ≡ Some l → Here n s at l
here n s at l z = by (ltb (before 10 t) (length t)) refl (line_of value_width (front t)) refl (good (front t)) (sym (at_as s at) ∙ z)
  where
    t : List ℕ
    t = drop at s

    e : ℕ
    e = at + before 10 t + 1

    behind : (x : Option Event) → event_of value_width n (front t) ≡ x → before 10 t < length t → readings value_width n (part_lines (drop at s)) ≡ x ∷ readings value_width (suc n) (part_lines (drop e s))
    behind x q h =
        let m : at + (before 10 t + 1) ≡ e = omega arith in
        let d : drop (before 10 t + 1) t ≡ drop e s = drop-drop (before 10 t + 1) at s ∙ ap (λ (i : ℕ). drop i s) m in
        ap (readings value_width n) (front_more t h ∙ ap (λ (u : List ℕ). front t ∷ part_lines u) d) ∙ (unfold readings in ap (λ (y : Option Event). y ∷ readings value_width (suc n) (part_lines (drop e s))) q)

    by : (q : Bool) → ltb (before 10 t) (length t) ≡ q → (f : Fields) → line_of value_width (front t) ≡ f → Good f → cond q (placed e f) None ≡ Some l → Here n s at l
    by false r f w g z = cc
    by true r wrong w g z = cc
    by true r (right k u p x) w g z =
        let v = made n k u p x g in
        let q : record { letter = k; thread = u; place = p; value = x; next = e } ≡ l = cc in
        subst (Here n s at) q
        (record {
          event = v.event;
          lines = behind (some v.event) (unfold event_of in ap (event_in n) w ∙ v.is) (ltb-true _ _ r);
          what_is = v.what_is;
          value_is = v.value_is;
          more = omega arith;
        })

-- it is no event
pub record Wrong (n : ℕ) (s : List ℕ) (at : ℕ) : Type 0 where
  pub rest : List (Option Event)
  pub lines : readings value_width n (part_lines (drop at s)) ≡ none ∷ rest

empty_none : (n : ℕ) → event_of value_width n [] ≡ none
unfolding event_of line_of split_on letter
empty_none n = rw zero_none

pub wrong_here : (n : ℕ) (s : List ℕ) (at : ℕ) → at < length s → line_at s at ≡ None → Wrong n s at
wrong_here n s at inside z = ⊎_elim
    (λ h. record { rest = readings value_width (suc n) (part_lines (drop (before 10 t + 1) t)); lines = first (front t) (part_lines (drop (before 10 t + 1) t)) (front_more t h) (by h (line_of value_width (front t)) refl (good (front t))) })
    (λ h. record { rest = readings value_width (suc n) []; lines = first [] [] (part_tail t (omega (arith, length-drop at s)) h) (empty_none n) })
    (lt_or_le (before 10 t) (length t))
  where
    t : List ℕ
    t = drop at s

    first : (l : List ℕ) (ls : List (List ℕ)) → part_lines t ≡ l ∷ ls → event_of value_width n l ≡ none → readings value_width n (part_lines t) ≡ none ∷ readings value_width (suc n) ls
    first l ls q e = ap (readings value_width n) q ∙ (unfold readings in ap (λ (y : Option Event). y ∷ readings value_width (suc n) ls) e)

    by : before 10 t < length t → (f : Fields) → line_of value_width (front t) ≡ f → Good f → event_of value_width n (front t) ≡ none
    by h wrong w g = unfold event_of in ap (event_in n) w
    by h (right k u p x) w g =
        let q : ◌≡◌ {A = Option' Line} (Some (record { letter = k; thread = u; place = p; value = x; next = at + before 10 t + 1 })) None = sym (at_ended s at h ∙ ap (placed (at + before 10 t + 1)) w) ∙ z in
        cc
