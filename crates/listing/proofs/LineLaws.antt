-- Laws of a line that is written, and of lines written one after the other.
-- Assumes nothing.
use mathlib.Core.Path.{◌≡◌, refl, sym, ap, ◌∙◌}
use mathlib.Core.List.{List, [], ◌∷◌, ◌++◌, append_assoc, append-nil}
use Prim.Native.Nat.{ℕ, ◌≤◌, ◌<◌, ◌+◌, ◌-◌}
use native.Mathlib.Omega.{arith}
use lib.IntN.{ℤ}
use lib.ListN.{length, take, drop, length-append, length-drop}
use lib.Seq.{drop-drop}
use borrow.Rule.Slice.PartMut.{put_mid}
use Rattle.decimal.specs.Text.{natural_text, word_row, word_value, ended, room, Wrote, and_then}
use Rattle.decimal.proofs.TextLaws.{text_short, over_length, room_yes, room_fits, wrote_then, wrote_start, wrote_like}
use Rattle.decimal.proofs.RowLaws.{row_line_short, value_line_short}
use Rattle.serial.specs.Lists.{All}
use Rattle.listing.specs.Listing.{share_front, share_line, text_of, line_room, write_all}

-- ---- one line

-- a line that fits the room that is asked for it
abbrev pub Fits : List ℕ → Type 0
Fits l = length (ended l) ≤ line_room

pub row_fits : (w ns : List ℕ) → length w ≤ 16 → length ns ≤ 3 → Fits (word_row w ns)
row_fits w ns h k = omega (arith, row_line_short w ns)

pub value_fits : (w ns : List ℕ) (x : ℤ) → length w ≤ 16 → length ns ≤ 2 → Fits (word_value w ns x)
value_fits w ns x h k = omega (arith, value_line_short w ns x)

-- the parts of a share
pub front_short : (a : ℕ) → length (share_front a) ≤ 37
front_short a = simp length-append (omega (arith, text_short a))

pub end_short : (b : ℕ) → length (ended (47 ∷ natural_text b)) ≤ 33
end_short b = simp length-append (omega (arith, text_short b))

pub share_parts : (a b : ℕ) → share_front a ++ ended (47 ∷ natural_text b) ≡ ended (share_line a b)
share_parts a b = sym (append_assoc (share_front a) (47 ∷ natural_text b) (10 ∷ []))

pub share_fits : (a b : ℕ) → Fits (share_line a b)
share_fits a b = omega (arith, front_short a, end_short b, length-append (share_front a) (ended (47 ∷ natural_text b)), ap length (share_parts a b))

-- ---- lines

pub all_append : (ls ms : List (List ℕ)) (o : List ℕ) → and_then (write_all ls) (write_all ms) o ≡ write_all (ls ++ ms) o
unfolding write_all
all_append [] ms o = refl
all_append (l ∷ ls) ms o =
    let t = room line_room (ended l) o in
    let u = write_all ls (drop (length t) o) in
    append_assoc t u (write_all ms (drop (length (t ++ u)) o))
    ∙ ap (λ (z : List ℕ). t ++ (u ++ write_all ms z)) (ap (λ (k : ℕ). drop k o) (length-append t u) ∙ sym (drop-drop (length u) (length t) o))
    ∙ ap (λ (z : List ℕ). t ++ z) (all_append ls ms (drop (length t) o))

pub all_within : (ls : List (List ℕ)) → All Fits ls → (o : List ℕ) → length (write_all ls o) ≤ length o
unfolding write_all
all_within [] f o = omega arith
all_within (l ∷ ls) f o =
    let t = room line_room (ended l) o in
    omega (arith, room_fits line_room (ended l) o f.0, all_within ls f.1 (drop (length t) o), length-drop (length t) o, length-append t (write_all ls (drop (length t) o)))

-- lines, and then others in what remains
pub wrote_all : (ls ms : List (List ℕ)) (o p q : List ℕ) (a b : ℕ) → Wrote (write_all ls) o a p → Wrote (write_all ms) (take (length p - a) (drop a p)) b q
    → Wrote (write_all (ls ++ ms)) o (a + b) (put_mid a (length p - a) p q)
wrote_all ls ms o p q a b v w =
    wrote_like (and_then (write_all ls) (write_all ms)) (write_all (ls ++ ms)) o (put_mid a (length p - a) p q) (a + b) (all_append ls ms o) (wrote_then (write_all ls) (write_all ms) o p q a b v w)

pub wrote_one : (l o p : List ℕ) (a : ℕ) → Wrote (room line_room (ended l)) o a p → Wrote (write_all (l ∷ [])) o a p
unfolding write_all
wrote_one l o p a v = wrote_like (room line_room (ended l)) (write_all (l ∷ [])) o p a (sym (append-nil (room line_room (ended l) o))) v

pub wrote_nothing : (o : List ℕ) → Wrote (write_all []) o 0 o
unfolding write_all
wrote_nothing o = record { count = refl; bytes = refl }

-- the same lines
pub wrote_as : (ls ms : List (List ℕ)) (o p : List ℕ) (a : ℕ) → ls ≡ ms → Wrote (write_all ls) o a p → Wrote (write_all ms) o a p
wrote_as ls ms o p a e v = wrote_like (write_all ls) (write_all ms) o p a (ap (λ (z : List (List ℕ)). write_all z o) e) v

-- the next line starts in the output, whose length stays
pub all_place : (ls : List (List ℕ)) (o p : List ℕ) (a : ℕ) → All Fits ls → Wrote (write_all ls) o a p → a ≤ length p
all_place ls o p a f v = wrote_start (write_all ls) o p a v (all_within ls f o)

pub all_length : (ls : List (List ℕ)) (o p : List ℕ) (a : ℕ) → All Fits ls → Wrote (write_all ls) o a p → length p ≡ length o
all_length ls o p a f v = ap length v.bytes ∙ over_length (write_all ls o) o (all_within ls f o)

-- where the whole text fits, and a line's room behind it, it is written whole
pub all_text : (ls : List (List ℕ)) (o : List ℕ) → length (text_of ls) + line_room ≤ length o → write_all ls o ≡ text_of ls
unfolding write_all text_of
all_text [] o h = refl
all_text (l ∷ ls) o h =
    let t = ended l in
    let n = length-append t (text_of ls) in
    let e : room line_room t o ≡ t = sym (room_yes line_room t o (omega arith)) in
    ap (λ (z : List ℕ). z ++ write_all ls (drop (length z) o)) e
    ∙ ap (λ (z : List ℕ). t ++ z) (all_text ls (drop (length t) o) (omega (arith, n, length-drop (length t) o)))

-- ---- a loop of n turns that writes the lines f i in its first i turns

-- a bytes are written over o, and p is what the output holds
pub record Listed (f : ℕ → List (List ℕ)) (n : ℕ) (o : List ℕ) (i a : ℕ) (p : List ℕ) : Type 0 where
  pub within : i ≤ n
  pub fit : All Fits (f i)
  pub wrote : Wrote (write_all (f i)) o a p

pub listed_start : (f : ℕ → List (List ℕ)) (n : ℕ) (o : List ℕ) → All Fits (f 0) → f 0 ≡ [] → Listed f n o 0 0 o
listed_start f n o g e = record { within = omega arith; fit = g; wrote = wrote_as [] (f 0) o o 0 (sym e) (wrote_nothing o) }

module _ (f : ℕ → List (List ℕ)) (n : ℕ) (o : List ℕ) (i a : ℕ) (p : List ℕ) (r : Listed f n o i a p) where
  pub listed_place : a ≤ length p
  listed_place = all_place (f i) o p a r.fit r.wrote

  pub listed_length : length p ≡ length o
  listed_length = all_length (f i) o p a r.fit r.wrote

  pub listed_step : i < n → (ms : List (List ℕ)) → f i ++ ms ≡ f (i + 1) → All Fits (f (i + 1))
      → (q : List ℕ) (k : ℕ) → Wrote (write_all ms) (take (length p - a) (drop a p)) k q → Listed f n o (i + 1) (a + k) (put_mid a (length p - a) p q)
  listed_step h ms e g q k w = record {
    within = omega arith;
    fit = g;
    wrote = wrote_as (f i ++ ms) (f (i + 1)) o (put_mid a (length p - a) p q) (a + k) e (wrote_all (f i) ms o p q a k r.wrote w);
  }

  pub listed_end : n ≤ i → Wrote (write_all (f n)) o a p
  listed_end h =
      let e : i ≡ n = omega (arith, h, r.within) in
      wrote_as (f i) (f n) o p a (ap f e) r.wrote
