-- Laws of a row of numbers, written one after the other, and of lines.
use mathlib.Core.Path.{◌≡◌, refl, sym, ap, ◌∙◌}
use mathlib.Core.List.{List, [], ◌∷◌, ◌++◌, append_assoc, append-nil}
use Prim.Native.Nat.{ℕ, ◌<◌, ◌≤◌, ◌+◌, ◌-◌, ◌*◌, ◌/◌}
use native.Mathlib.Numerals.{add-one}
use native.Mathlib.Omega.{arith}
use mathlib.Core.Logic.{⊎_elim}
use borrow.Author.Tests.{le-leb, lt-leb}
use lib.Dec.{leb}
use lib.IntN.{ℤ}
use lib.ListN.{length, get_or, take, drop, length-append}
use lib.Seq.{take-suc, take_all, length-take-le}
use borrow.Rule.Slice.PartMut.{put_mid}
use Rattle.lines.proofs.PartLaws.{lt_or_le}
use Rattle.decimal.specs.Text.{natural_text, integer_text, row_text, word_row, word_value, ended, room, Wrote, over}
use Rattle.decimal.proofs.TextLaws.{text_short, value_short, over_length, over_then, room_yes, rest_length, wrote_text}

-- one number more
row_snoc : (l : List ℕ) (n : ℕ) → row_text (l ++ (n ∷ [])) ≡ row_text l ++ (32 ∷ natural_text n)
unfolding row_text
row_snoc [] n = simp append-nil
row_snoc (m ∷ l) n = rw (row_snoc l n) (sym (append_assoc (32 ∷ natural_text m) (row_text l) (32 ∷ natural_text n)))

pub row_short : (ns : List ℕ) → length (row_text ns) ≤ 32 * length ns
unfolding row_text
row_short [] = omega arith
row_short (n ∷ ns) = simp length-append (omega (arith, text_short n, row_short ns))

-- the first i numbers of ns lie over o: a bytes, and p is what the output holds
pub record RowAt (ns o : List ℕ) (i a : ℕ) (p : List ℕ) : Type 0 where
  pub within : i ≤ length ns
  pub space : 32 * length ns ≤ length o
  pub count : a ≡ length (row_text (take i ns))
  pub bytes : p ≡ over (row_text (take i ns)) o

pub row_start : (ns o : List ℕ) → 32 * length ns ≤ length o → RowAt ns o 0 0 o
unfolding row_text
row_start ns o h = record { within = omega arith; space = h; count = refl; bytes = refl }

module _ (ns o : List ℕ) (i a : ℕ) (p : List ℕ) (r : RowAt ns o i a p) where
  pub row_most : a ≤ 32 * i
  row_most = omega (arith, r.count, row_short (take i ns), length-take-le i ns r.within)

  pub row_length : length p ≡ length o
  row_length = ap length r.bytes ∙ over_length (row_text (take i ns)) o (omega (arith, r.count, row_most, r.space, r.within))

  pub row_place : a ≤ length p
  row_place = omega (arith, row_most, row_length, r.space, r.within)

  pub row_step : i < length ns → (q : List ℕ) (k : ℕ) → Wrote (room 32 (32 ∷ natural_text (get_or ns i 0))) (take (length p - a) (drop a p)) k q
      → RowAt ns o (i + 1) (a + k) (put_mid a (length p - a) p q)
  row_step h q k w =
      let t : List ℕ = 32 ∷ natural_text (get_or ns i 0) in
      let part = take (length p - a) (drop a p) in
      let free : 32 ≤ length part = omega (arith, rest_length a p, row_most, row_length, r.space) in
      let e : room 32 t part ≡ t = sym (room_yes 32 t part free) in
      let more : row_text (take i ns) ++ t ≡ row_text (take (i + 1) ns) = rw (add-one i, take-suc ns i 0 h) (sym (row_snoc (take i ns) (get_or ns i 0))) in
      let n : k ≡ length t = w.count ∙ ap length e in
      record {
        within = omega arith;
        space = r.space;
        count = omega (arith, r.count, n, length-append (row_text (take i ns)) t, ap length more);
        bytes = over_then (row_text (take i ns)) t o p q a r.bytes r.count (w.bytes ∙ ap (λ (u : List ℕ). over u part) e)
            ∙ ap (λ (u : List ℕ). over u o) more;
      }

  pub row_end : length ns ≤ i → Wrote (room (32 * length ns) (row_text ns)) o a p
  row_end h =
      let e : take i ns ≡ ns = take_all i ns h in
      wrote_text (32 * length ns) (row_text ns) o p a r.space (r.count ∙ ap (λ (u : List ℕ). length (row_text u)) e)
      (r.bytes ∙ ap (λ (u : List ℕ). over (row_text u) o) e)

-- ---- lines

-- a word, k numbers and e bytes more, behind a test that does not wrap
pub enough_same : (n w k e : ℕ) → w + e ≤ n → leb k ((n - w - e) / 32) ≡ leb (w + 32 * k + e) n
enough_same n w k e h = ⊎_elim
    (λ l. lt-leb k ((n - w - e) / 32) (omega arith) ∙ sym (lt-leb (w + 32 * k + e) n l))
    (λ l. le-leb k ((n - w - e) / 32) (omega arith) ∙ sym (le-leb (w + 32 * k + e) n l))
    (lt_or_le n (w + 32 * k + e))

pub word_short : (w ns : List ℕ) → length (word_row w ns) ≤ length w + 32 * length ns
unfolding word_row
word_short w ns = simp length-append (omega (arith, row_short ns))

pub end_short : (x : ℤ) → length (ended (32 ∷ integer_text x)) ≤ 33
end_short x = simp length-append (omega (arith, value_short x))

-- the end of a line of a value
pub value_text : (w ns : List ℕ) (x : ℤ) → word_row w ns ++ ended (32 ∷ integer_text x) ≡ ended (word_value w ns x)
unfolding word_value
value_text w ns x = sym (append_assoc (word_row w ns) (32 ∷ integer_text x) (10 ∷ []))

pub row_line_short : (w ns : List ℕ) → length (ended (word_row w ns)) ≤ length w + 32 * length ns + 1
row_line_short w ns = simp length-append (omega (arith, word_short w ns))

pub value_line_short : (w ns : List ℕ) (x : ℤ) → length (ended (word_value w ns x)) ≤ length w + 32 * length ns + 33
unfolding word_value
value_line_short w ns x = simp length-append (omega (arith, word_short w ns, value_short x))
