-- A line read with values of a narrower width: the same event where its value lies within it, and otherwise none.
use Prim.Native.Nat.{ℕ, suc, ◌≤◌, ◌<◌}
use native.Mathlib.Omega.{arith}
use mathlib.Core.Path.{◌≡◌, refl, sym, ap, ◌∙◌}
use mathlib.Core.Bool.{Bool, true, false, cond}
use mathlib.Core.List.{List, [], ◌∷◌, map}
use mathlib.Core.Option.{Option, none, some}
use borrow.Author.Tests.{lt-ltb}
use lib.Dec.{eqb}
use lib.IntN.{ℤ, pos}
use mir.Syntax.{Width}
use Rattle.rules.specs.declared.Event.{Event}
use Rattle.rules.specs.Events.{F, capped, value, is_letter, is_lock_letter}
use Rattle.rules.specs.Limits.{value_width, limit}
use Rattle.rules.specs.Widths.{fits, narrowed}
use Rattle.rules.proofs.Letters.{capped_low}
use Rattle.lines.specs.Lines.{split_on, letter}
use Rattle.std.proofs.Common.{Some, None, Result, Ok, Err}
use Rattle.std.proofs.Common.{Option as Option'}
use Rattle.decimal.specs.declared.NotValue.{NotValue}
use Rattle.decimal.specs.declared.NotValue.TheVariants.{Outside}
use Rattle.decimal.specs.Decimal.{natural_of, integer_of}
use Rattle.decimal.proofs.WidthLaws.{narrowed_integer, integer_narrowed}
use Rattle.events.specs.Events.{Fields, wrong, right, on_number, on_integer, field, last, lock_end, notify_end, value_end, lock_fields, after_thread, from_fields, line_of, event_in, event_of, readings}
use Rattle.events.proofs.FormLaws.{Good, good, made}

-- the fields of a line, less the values outside the width
abbrev narrowed_fields : Width → Fields → Fields
narrowed_fields w wrong = wrong
narrowed_fields w (right k t p x) = cond (fits w x) (right k t p x) wrong

module _ (w : Width) (l : limit w ≤ limit value_width) (m : 255 < limit w) where
  number_narrowed : (n : Option' ℕ) (f g : ℕ → Fields) → ((i : ℕ) → f i ≡ narrowed_fields w (g i)) → on_number n f ≡ narrowed_fields w (on_number n g)
  number_narrowed None f g h = refl
  number_narrowed (Some n) f g h = h n

  field_narrowed : (f g : ℕ → List (List ℕ) → Fields) → ((i : ℕ) (fs : List (List ℕ)) → f i fs ≡ narrowed_fields w (g i fs)) → (fs : List (List ℕ)) → field f fs ≡ narrowed_fields w (field g fs)
  field_narrowed f g h [] = refl
  field_narrowed f g h (x ∷ xs) = number_narrowed (natural_of x) (λ n. f n xs) (λ n. g n xs) (λ n. h n xs)

  last_narrowed : (f g : List ℕ → Fields) → ((x : List ℕ) → f x ≡ narrowed_fields w (g x)) → (fs : List (List ℕ)) → last f fs ≡ narrowed_fields w (last g fs)
  last_narrowed f g h [] = refl
  last_narrowed f g h (x ∷ []) = h x
  last_narrowed f g h (x ∷ y ∷ xs) = refl

  -- a thread held at 255 lies within the width, and so does 0
  small_fits : (n : ℕ) → n < 256 → fits w (pos n) ≡ true
  small_fits n h = lt-ltb n (limit w) (omega (arith, h, m))

  lock_narrowed : (k t : ℕ) (x : List ℕ) → lock_end k t x ≡ narrowed_fields w (lock_end k t x)
  lock_narrowed k t x = number_narrowed (natural_of x) (λ n. right k t n (pos 0)) (λ n. right k t n (pos 0)) (λ n. rw (small_fits 0 (omega arith)) refl)

  notify_narrowed : (k t v : ℕ) (x : List ℕ) → notify_end k t v x ≡ narrowed_fields w (notify_end k t v x)
  notify_narrowed k t v x = number_narrowed (natural_of x) (λ n. right k t v (pos (capped n))) (λ n. right k t v (pos (capped n))) (λ n. rw (small_fits (capped n) (capped_low n)) refl)

  value_narrowed : (k t v : ℕ) (x : List ℕ) → value_end w k t v x ≡ narrowed_fields w (value_end value_width k t v x)
  value_narrowed k t v x = ap (λ (i : Result ℤ NotValue). on_integer i (λ z. right k t v z)) (integer_narrowed w l x) ∙ by (integer_of value_width x)
    where
      in_range_law : (b : Bool) (z : ℤ) → on_integer (cond b (Ok z) (Err Outside)) (λ y. right k t v y) ≡ cond b (right k t v z) wrong
      in_range_law true z = refl
      in_range_law false z = refl

      by : (i : Result ℤ NotValue) → on_integer (narrowed_integer w i) (λ z. right k t v z) ≡ narrowed_fields w (on_integer i (λ z. right k t v z))
      by (Err e) = refl
      by (Ok z) = in_range_law (fits w z) z

  either_narrowed : (b : Bool) (f g f' g' : Fields) → f ≡ narrowed_fields w f' → g ≡ narrowed_fields w g' → cond b f g ≡ narrowed_fields w (cond b f' g')
  either_narrowed true f g f' g' p q = p
  either_narrowed false f g f' g' p q = q

  thread_narrowed : (k t : ℕ) (fs : List (List ℕ)) → after_thread w k t fs ≡ narrowed_fields w (after_thread value_width k t fs)
  thread_narrowed k t fs =
      either_narrowed (is_lock_letter k) _ _ (lock_fields k t fs) (field (λ v. last (value_end value_width k t v)) fs)
      (either_narrowed (eqb k F) _ _ (field (λ v. last (notify_end k t v)) fs) (last (lock_end k t) fs)
      (field_narrowed (λ v. last (notify_end k t v)) (λ v. last (notify_end k t v)) (λ v. last_narrowed (notify_end k t v) (notify_end k t v) (notify_narrowed k t v)) fs)
      (last_narrowed (lock_end k t) (lock_end k t) (lock_narrowed k t) fs))
      (field_narrowed (λ v. last (value_end w k t v)) (λ v. last (value_end value_width k t v)) (λ v. last_narrowed (value_end w k t v) (value_end value_width k t v) (value_narrowed k t v)) fs)

  fields_narrowed : (fs : List (List ℕ)) → from_fields w fs ≡ narrowed_fields w (from_fields value_width fs)
  fields_narrowed [] = refl
  fields_narrowed (x ∷ xs) = either_narrowed (is_letter (letter x)) _ _ (field (after_thread value_width (letter x)) xs) wrong (field_narrowed (after_thread w (letter x)) (after_thread value_width (letter x)) (thread_narrowed (letter x)) xs) refl

  pub event_narrowed : (n : ℕ) (s : List ℕ) → event_of w n s ≡ narrowed w (event_of value_width n s)
  unfolding event_of line_of
  event_narrowed n s = ap (event_in n) (fields_narrowed (split_on 32 s)) ∙ by (from_fields value_width (split_on 32 s)) (good s)
    where
      with_value : (k t p : ℕ) (x : ℤ) (o : Option Event) (b : Bool) → event_in n (right k t p x) ≡ o → event_in n (cond b (right k t p x) wrong) ≡ cond b o none
      with_value k t p x o true q = q
      with_value k t p x o false q = refl

      by : (f : Fields) → Good f → event_in n (narrowed_fields w f) ≡ narrowed w (event_in n f)
      by wrong g = refl
      by (right k t p x) g =
          let m = made n k t p x g in
          with_value k t p x (some m.event) (fits w x) m.is ∙ (λ i. cond (fits w (sym m.value_is i)) (some m.event) none) ∙ ap (narrowed w) (sym m.is)

  -- what is read lies within the width
  pub event_fits : (n : ℕ) (s : List ℕ) (e : Event) → event_of w n s ≡ some e → fits w (value e.kind) ≡ true
  event_fits n s e q = by (event_of value_width n s) (sym (event_narrowed n s) ∙ q)
    where
      in_range_law : (d : Event) (b : Bool) → fits w (value d.kind) ≡ b → cond b (some d) none ≡ some e → fits w (value e.kind) ≡ true
      in_range_law d true r z = let k : d ≡ e = cc in ap (λ (c : Event). fits w (value c.kind)) (sym k) ∙ r
      in_range_law d false r z = cc

      by : (o : Option Event) → narrowed w o ≡ some e → fits w (value e.kind) ≡ true
      by none z = cc
      by (some d) z = in_range_law d (fits w (value d.kind)) refl z

  pub readings_narrowed : (n : ℕ) (ls : List (List ℕ)) → readings w n ls ≡ map (narrowed w) (readings value_width n ls)
  unfolding readings
  readings_narrowed n [] = refl
  readings_narrowed n (s ∷ ls) = λ i. event_narrowed n s i ∷ readings_narrowed (suc n) ls i
