-- A line that is an event has one of the thirteen letters, and a lock event has no value but the thread of an F; so its numbers are those of its event.
use Prim.Native.Nat.{ℕ}
use mathlib.Core.Path.{◌≡◌, refl, ap, ◌∙◌}
use mathlib.Core.Bool.{Bool, true, false, cond}
use mathlib.Core.List.{List, [], ◌∷◌}
use mathlib.Core.Option.{some}
use lib.Dec.{eqb}
use lib.IntN.{ℤ, pos}
use Rattle.rules.specs.declared.Event.{Event}
use Rattle.rules.specs.Events.{F, place, capped, is_letter, is_lock_letter, kind_of, event_with}
use Rattle.rules.specs.Limits.{value_width}
use Rattle.rules.proofs.Letters.{capped_twice}
use Rattle.lines.specs.Lines.{split_on}
use Rattle.lines.specs.Lines as line
use Rattle.std.proofs.Common.{Some, None, Result, Ok, Err}
use Rattle.std.proofs.Common.{Option as Option'}
use Rattle.decimal.specs.declared.NotValue.{NotValue}
use Rattle.decimal.specs.Decimal.{natural_of, integer_of}
use Rattle.records.specs.Records.{what_of, packed, value_in, or_read}
use Rattle.records.proofs.RecordLaws.{kept_value, kinded}
use Rattle.events.specs.Events.{Fields, wrong, right, on_number, on_integer, field, last, lock_end, notify_end, value_end, after_thread, from_fields, line_of, event_in}

-- ---- what the fields of a line have

abbrev pub Good : Fields → Type 0
Good wrong = Unit {0}
Good (right k t p x) = (is_letter k ≡ true) × (kept_value k x ≡ x)

good_number : (n : Option' ℕ) (f : ℕ → Fields) → ((i : ℕ) → Good (f i)) → Good (on_number n f)
good_number None f g = tt
good_number (Some n) f g = g n

good_integer : (n : Result ℤ NotValue) (f : ℤ → Fields) → ((z : ℤ) → Good (f z)) → Good (on_integer n f)
good_integer (Err e) f g = tt
good_integer (Ok z) f g = g z

good_field : (f : ℕ → List (List ℕ) → Fields) (fs : List (List ℕ)) → ((n : ℕ) (xs : List (List ℕ)) → Good (f n xs)) → Good (field f fs)
good_field f [] g = tt
good_field f (x ∷ xs) g = good_number (natural_of x) (λ n. f n xs) (λ n. g n xs)

good_last : (f : List ℕ → Fields) (fs : List (List ℕ)) → ((x : List ℕ) → Good (f x)) → Good (last f fs)
good_last f [] g = tt
good_last f (x ∷ []) g = g x
good_last f (x ∷ y ∷ xs) g = tt

module _ (k : ℕ) (l : is_letter k ≡ true) where
  good_thread : (t : ℕ) (fs : List (List ℕ)) → Good (after_thread value_width k t fs)
  good_thread t fs = by (is_lock_letter k) refl (eqb k F) refl
    where
      by : (b : Bool) → is_lock_letter k ≡ b → (c : Bool) → eqb k F ≡ c
          → Good (cond b (cond c (field (λ l. last (notify_end k t l)) fs) (last (lock_end k t) fs)) (field (λ v. last (value_end value_width k t v)) fs))
      by true q true r =
          good_field (λ v. last (notify_end k t v)) fs
          (λ v xs. good_last (notify_end k t v) xs (λ x. good_number (natural_of x) (λ n. right k t v (pos (capped n))) (λ n. (l, rw (q, r) (ap pos (capped_twice (capped n) ∙ capped_twice n))))))
      by true q false r = good_last (lock_end k t) fs (λ x. good_number (natural_of x) (λ n. right k t n (pos 0)) (λ n. (l, rw (q, r))))
      by false q c r =
          good_field (λ v. last (value_end value_width k t v)) fs
          (λ v xs. good_last (value_end value_width k t v) xs (λ x. good_integer (integer_of value_width x) (λ z. right k t v z) (λ z. (l, rw q))))

good_letter : (k : ℕ) (b : Bool) → is_letter k ≡ b → (fs : List (List ℕ)) → Good (cond b (field (after_thread value_width k) fs) wrong)
good_letter k true q fs = good_field (after_thread value_width k) fs (good_thread k q)
good_letter k false q fs = tt

good_fields : (fs : List (List ℕ)) → Good (from_fields value_width fs)
good_fields [] = tt
good_fields (x ∷ xs) = good_letter (line.letter x) (is_letter (line.letter x)) refl xs

pub good : (l : List ℕ) → Good (line_of value_width l)
unfolding line_of
good l = good_fields (split_on 32 l)

-- ---- the event of a line's fields

pub record Made (n : ℕ) (k t p : ℕ) (x : ℤ) : Type 0 where
  pub event : Event
  pub is : event_in n (right k t p x) ≡ some event
  pub what_is : packed event ≡ what_of k t p
  pub value_is : value_in event ≡ x

pub made : (n k t p : ℕ) (x : ℤ) → Good (right k t p x) → Made n k t p x
made n k t p x g =
    let m = kinded k p x g.0 in
    let c = or_read (kind_of k p x) p x in
    record {
      event = record { thread = t; line = n; kind = c };
      is = ap (event_with n t) m.named;
      what_is = unfold packed in ap (λ (i : ℕ). what_of i t (place c)) m.letters ∙ ap (what_of k t) m.places;
      value_is = m.values ∙ g.1;
    }
