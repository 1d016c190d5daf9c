-- The lines of two rows of records, written one after the other.
use Prim.Native.Nat.{ℕ, zero, suc, ◌+◌, ◌-◌, ◌≤◌, ◌<◌}
use native.Mathlib.Omega.{arith}
use mathlib.Core.Path.{◌≡◌, refl, sym, ap, ◌∙◌, subst}
use mathlib.Core.Bool.{Bool, true, false, cond}
use mathlib.Core.List.{List, [], ◌∷◌, ◌++◌, append-nil}
use lib.Dec.{leb}
use lib.IntN.{ℤ}
use lib.ListN.{length, get_or, take, drop, length-append, length-drop}
use Rattle.std.specs.Prelude.{Option, Some, None}
use Rattle.std.proofs.lemmas.Grind.{flat_map-append}
use Rattle.std.proofs.lemmas.List.{take_more}
use borrow.Rule.Slice.PartMut.{put_mid}
use Rattle.rules.specs.declared.Kind.{Kind}
use Rattle.rules.specs.Events.{kind_of, event_with}
use Rattle.decimal.specs.Text.{ended, over, room, Wrote, and_then}
use Rattle.decimal.proofs.TextLaws.{over_length, room_yes, wrote_then, wrote_start, wrote_like}
use Rattle.records.specs.Records.{letter_in, thread_in, place_in, event_in}
use Rattle.writer.specs.Text.{event_line}
use Rattle.tail_text.specs.Computed.Rows.{line_room, line_for, record_text, records_text}

-- ---- one record, with what was read of it

module _ (w : ℕ) (x x' : ℤ) (t p k : ℕ) (n : Option Kind) (v : x' ≡ x) (a : t ≡ thread_in w) (b : p ≡ place_in w) (c : k ≡ letter_in w) (d : n ≡ kind_of k p x') where
  text_is : record_text w x ≡ line_for (event_with 0 t n)
  unfolding record_text event_in
  text_is = sym (λ i. line_for (event_with 0 (a i) ((d ∙ (λ j. kind_of (c j) (b j) (v j))) i)))

  pub text_none : n ≡ None → (o : List ℕ) → Wrote (room line_room (record_text w x)) o 0 o
  text_none e o = subst (λ (u : List ℕ). Wrote (room line_room u) o 0 o) (sym (text_is ∙ ap (λ (z : Option Kind). line_for (event_with 0 t z)) e)) nothing
    where
      by : (b : Bool) → ◌≡◌ {A = List ℕ} [] (cond b [] [])
      by true = refl
      by false = refl

      nothing : Wrote (room line_room []) o 0 o
      nothing = let q = by (leb line_room (length o)) in record { count = ap length q; bytes = ap (λ (u : List ℕ). over u o) q }

  pub text_some : (r : Kind) → n ≡ Some r → ended (event_line (record { thread = t; line = 0; kind = r })) ≡ record_text w x
  text_some r e = sym (text_is ∙ ap (λ (z : Option Kind). line_for (event_with 0 t z)) e)

-- ---- a loop that writes a line in each turn

text_more : (rs : List (ℕ × ℤ)) (r : ℕ × ℤ) → records_text (rs ++ (r ∷ [])) ≡ records_text rs ++ record_text r.0 r.1
unfolding records_text
text_more rs r = flat_map-append (λ (q : ℕ × ℤ). record_text q.0 q.1) rs (r ∷ []) ∙ ap (λ (l : List ℕ). records_text rs ++ l) (append-nil (record_text r.0 r.1))

-- the lines of a front are no longer than all of them
front_low : (n : ℕ) (rs : List (ℕ × ℤ)) → length (records_text (take n rs)) ≤ length (records_text rs)
unfolding records_text
front_low zero rs = omega arith
front_low (suc n) [] = omega arith
front_low (suc n) (r ∷ rs) = simp length-append (omega (arith, front_low n rs))

-- the lines of the records rs in turn: those of ys are written as a bytes over o, and p is what the output holds
pub record Lined (rs ys : List (ℕ × ℤ)) (o : List ℕ) (a : ℕ) (p : List ℕ) : Type 0 where
  pub front : ys ≡ take (length ys) rs
  pub space : length (records_text rs) + line_room ≤ length o
  pub wrote : Wrote (λ _. records_text ys) o a p

pub lined_start : (rs : List (ℕ × ℤ)) (o : List ℕ) → length (records_text rs) + line_room ≤ length o → Lined rs [] o 0 o
lined_start rs o h = record { front = refl; space = h; wrote = unfold records_text in record { count = refl; bytes = refl } }

module _ {rs ys : List (ℕ × ℤ)} {o : List ℕ} {a : ℕ} {p : List ℕ} (l : Lined rs ys o a p) where
  low : length (records_text ys) + line_room ≤ length o
  low = omega (arith, l.space, ap (λ (zs : List (ℕ × ℤ)). length (records_text zs)) l.front, front_low (length ys) rs)

  pub lined_place : a ≤ length p
  lined_place = wrote_start (λ _. records_text ys) o p a l.wrote (omega (arith, low))

  pub lined_length : length p ≡ length o
  lined_length = ap length l.wrote.bytes ∙ over_length (records_text ys) o (omega (arith, low))

  pub lined_step : (r d : ℕ × ℤ) → length ys < length rs → r ≡ get_or rs (length ys) d → {q : List ℕ} {k : ℕ} → Wrote (room line_room (record_text r.0 r.1)) (take (length p - a) (drop a p)) k q
      → Lined rs (ys ++ (r ∷ [])) o (a + k) (put_mid a (length p - a) p q)
  lined_step r d h e {q} {k} w =
      let t = record_text r.0 r.1 in
      let n : length (ys ++ (r ∷ [])) ≡ length ys + 1 = length-append ys (r ∷ []) in
      let f : and_then (λ _. records_text ys) (room line_room t) o ≡ records_text (ys ++ (r ∷ [])) =
      ap (λ (z : List ℕ). records_text ys ++ z) (sym (room_yes line_room t (drop (length (records_text ys)) o) (omega (arith, low, length-drop (length (records_text ys)) o)))) ∙ sym (text_more ys r) in
      record {
        front = (λ i. l.front i ++ (e i ∷ [])) ∙ sym (take_more rs (length ys) d h) ∙ ap (λ (i : ℕ). take i rs) (sym n);
        space = l.space;
        wrote = wrote_like (and_then (λ _. records_text ys) (room line_room t)) (λ _. records_text (ys ++ (r ∷ []))) o (put_mid a (length p - a) p q) (a + k) f (wrote_then (λ _. records_text ys) (room line_room t) o p q a k l.wrote w);
      }

  pub lined_end : ys ≡ rs → Wrote (λ _. records_text rs) o a p
  lined_end q = subst (λ (zs : List (ℕ × ℤ)). Wrote (λ _. records_text zs) o a p) q l.wrote
