-- Laws of numbers as text, and of text laid over a buffer.
use mathlib.Core.Path.{◌≡◌, refl, sym, ap, ◌∙◌}
use mathlib.Core.List.{List, [], ◌∷◌, ◌++◌, append_assoc, append-nil}
use Prim.Native.Nat.{ℕ, zero, suc, ◌<◌, ◌≤◌, ◌+◌, ◌-◌, ◌/◌, ◌%◌, ◌^◌}
use native.Mathlib.Nat.{pow-suc}
use native.Mathlib.Numerals.{add-one}
use native.Mathlib.Omega.{arith}
use mathlib.Core.Bool.{Bool, true, false}
use mathlib.Core.Logic.{⊎_elim}
use lib.IntN.{ℤ, pos, negsuc, nat_abs}
use lib.Signed.{lt_z}
use borrow.Author.Tests.{lt-ltb, le-ltb, le-leb, lt-leb}
use lib.ListN.{length, get_or, take, drop, set, length-append, length-drop, drop_of_length-le}
use lib.Seq.{take-suc, length-take-le, drop-cons, set_at, drop-drop, take_at, drop_at}
use borrow.Rule.Slice.PartMut.{put_mid}
use Rattle.lines.proofs.PartLaws.{rest, lt_or_le}
use Rattle.decimal.specs.Text.{digits_in, natural_text, signed_text, integer_text, is_negative, room, Wrote, and_then, over}

pub digits_small : (k n : ℕ) → n < 10 → digits_in (suc k) n ≡ (48 + n) ∷ []
unfolding digits_in
digits_small k n h = rw (lt-ltb n 10 h)

pub digits_large : (k n : ℕ) → 10 ≤ n → digits_in (suc k) n ≡ digits_in k (n / 10) ++ ((48 + n % 10) ∷ [])
unfolding digits_in
digits_large k n h = rw (le-ltb n 10 h)

-- one place more changes nothing
digits_more : (k n : ℕ) → n < 10 ^ suc k → digits_in (suc k) n ≡ digits_in (suc (suc k)) n
digits_more zero n h = digits_small zero n h ∙ sym (digits_small 1 n h)
digits_more (suc k) n h = ⊎_elim
    (λ l. digits_small (suc k) n l ∙ sym (digits_small (suc (suc k)) n l))
    (λ l. digits_large (suc k) n l
    ∙ ap (λ (d : List ℕ). d ++ ((48 + n % 10) ∷ [])) (digits_more k (n / 10) (omega (arith, pow-suc 10 (suc k), h)))
    ∙ sym (digits_large (suc (suc k)) n l))
    (lt_or_le n 10)

pub text_small : (n : ℕ) → n < 10 → natural_text n ≡ (48 + n) ∷ []
unfolding natural_text
text_small n h = digits_small 19 n h

pub text_large : (n : ℕ) → 10 ≤ n → n < 2 ^ 64 → natural_text n ≡ natural_text (n / 10) ++ ((48 + n % 10) ∷ [])
unfolding natural_text
text_large n h l = digits_large 19 n h ∙ ap (λ (d : List ℕ). d ++ ((48 + n % 10) ∷ [])) (digits_more 18 (n / 10) (omega arith))

pub text_length_large : (n : ℕ) → 10 ≤ n → n < 2 ^ 64 → length (natural_text n) ≡ length (natural_text (n / 10)) + 1
text_length_large n h l = ap length (text_large n h l) ∙ simp length-append

-- one byte more, stored behind the text
pub over_next : {A : Type 0} (t o : List A) (b : A) → length t < length o → set (over t o) (length t) b ≡ over (t ++ (b ∷ [])) o
over_next t o b h =
    rw (drop-cons o (length t) b h, set_at t (get_or o (length t) b) (drop (suc (length t)) o) b (length t) refl, length-append, add-one, append_assoc)

pub over_length : {A : Type 0} (t o : List A) → length t ≤ length o → length (over t o) ≡ length o
over_length t o h = simp (length-append, length-drop) (omega arith)

-- a text at the front, and a second one written into what remains: what the whole holds when that part is back
pub over_then : (l t o xs ys : List ℕ) (a : ℕ) → xs ≡ over l o → a ≡ length l → ys ≡ over t (take (length xs - a) (drop a xs))
    → put_mid a (length xs - a) xs ys ≡ over (l ++ t) o
over_then l t o xs ys a e f g =
    let front : take a xs ≡ l = rw (e, f) (take_at l (drop (length l) o) (length l) refl) in
    let back : drop a xs ≡ drop (length l) o = rw (e, f) (drop_at l (drop (length l) o) (length l) refl) in
    let none : drop (length xs - a) (drop a xs) ≡ [] = drop_of_length-le (drop a xs) {i = length xs - a} (omega (arith, length-drop a xs)) in
    let part : ys ≡ over t (drop (length l) o) = g ∙ ap (over t) (rest a xs ∙ back) in
    rw (front, none, part) (simp (append_assoc, append-nil, drop-drop, length-append))

-- what remains from a on has so many places
pub rest_length : (a : ℕ) (xs : List ℕ) → length (take (length xs - a) (drop a xs)) ≡ length xs - a
rest_length a xs = ap length (rest a xs) ∙ length-drop a xs

-- the test of a sign
pub sign : (x : ℤ) → lt_z x (pos 0) ≡ is_negative x
sign (pos n) = le-ltb n 0 (omega arith)
sign (negsuc n) = refl

-- the two cases of a value's text
pub text_negative : (x : ℤ) → is_negative x ≡ true → integer_text x ≡ 45 ∷ natural_text (nat_abs x)
unfolding integer_text
text_negative x e = rw e

pub text_positive : (x : ℤ) → is_negative x ≡ false → integer_text x ≡ natural_text (nat_abs x)
unfolding integer_text
text_positive x e = rw e

-- one more byte of a text that is copied
pub over_take : {A : Type 0} (t o : List A) (i : ℕ) (d : A) → i < length t → i < length o → set (over (take i t) o) i (get_or t i d) ≡ over (take (i + 1) t) o
over_take {A} t o i d h l =
    let n : length (take i t) ≡ i = length-take-le i t (omega arith) in
    let s : set (over (take i t) o) (length (take i t)) (get_or t i d) ≡ over (take i t ++ (get_or t i d ∷ [])) o = over_next (take i t) o (get_or t i d) (omega arith) in
    let more : take i t ++ (get_or t i d ∷ []) ≡ take (i + 1) t = rw add-one (sym (take-suc t i d h)) in
    ap (λ (k : ℕ). set (over (take i t) o) k (get_or t i d)) (sym n) ∙ s ∙ ap (λ (u : List A). over u o) more

digits_short : (k n : ℕ) → length (digits_in k n) ≤ k
unfolding digits_in
digits_short zero n = omega arith
digits_short (suc k) n = ⊎_elim
    (λ l. rw (digits_small k n l) (omega arith))
    (λ l. rw (digits_large k n l, length-append) (omega (arith, digits_short k (n / 10))))
    (lt_or_le n 10)

-- no text of a number has more than the 20 digits at which `natural_text` ends, and none of a value more than a minus and these
pub text_short : (n : ℕ) → length (natural_text n) ≤ 20
unfolding natural_text
text_short n = digits_short 20 n

pub signed_short : (b : Bool) (n : ℕ) → length (signed_text b n) ≤ 21
signed_short true n = omega (arith, text_short n)
signed_short false n = omega (arith, text_short n)

pub value_short : (x : ℤ) → length (integer_text x) ≤ 21
unfolding integer_text
value_short x = signed_short (is_negative x) (nat_abs x)

-- a text that is written only where there is room
pub room_yes : (n : ℕ) (t o : List ℕ) → n ≤ length o → t ≡ room n t o
room_yes n t o h = rw (le-leb n (length o) h)

pub room_no : (n : ℕ) (t o : List ℕ) → length o < n → [] ≡ room n t o
room_no n t o h = rw (lt-leb n (length o) h)

pub room_fits : (n : ℕ) (t o : List ℕ) → length t ≤ n → length (room n t o) ≤ length o
room_fits n t o h = ⊎_elim (λ l. rw (lt-leb n (length o) l) (omega arith)) (λ l. rw (le-leb n (length o) l) (omega arith)) (lt_or_le (length o) n)

-- what remains behind a text
pub rest_over : (l o p : List ℕ) (a : ℕ) → p ≡ over l o → a ≡ length l → take (length p - a) (drop a p) ≡ drop (length l) o
rest_over l o p a e f = rest a p ∙ rw (e, f) (drop_at l (drop (length l) o) (length l) refl)

-- two writers one after the other
pub wrote_then : (f g : List ℕ → List ℕ) (o p q : List ℕ) (a b : ℕ)
    → Wrote f o a p → Wrote g (take (length p - a) (drop a p)) b q → Wrote (and_then f g) o (a + b) (put_mid a (length p - a) p q)
wrote_then f g o p q a b v w =
    let e = rest_over (f o) o p a v.bytes v.count in
    let n : b ≡ length (g (drop (length (f o)) o)) = w.count ∙ ap (λ (u : List ℕ). length (g u)) e in
    let m : q ≡ over (g (drop (length (f o)) o)) (take (length p - a) (drop a p)) = w.bytes ∙ ap (λ (u : List ℕ). over (g u) (take (length p - a) (drop a p))) e in
    record {
      count = omega (arith, v.count, n, length-append (f o) (g (drop (length (f o)) o)));
      bytes = over_then (f o) (g (drop (length (f o)) o)) o p q a v.bytes v.count m;
    }

-- a writer that keeps within what it is lent leaves a place to go on from
pub wrote_start : (f : List ℕ → List ℕ) (o p : List ℕ) (a : ℕ) → Wrote f o a p → length (f o) ≤ length o → a ≤ length p
wrote_start f o p a v h = omega (arith, v.count, ap length v.bytes, over_length (f o) o h)

-- the same text in this output
pub wrote_like : (f g : List ℕ → List ℕ) (o p : List ℕ) (a : ℕ) → f o ≡ g o → Wrote f o a p → Wrote g o a p
wrote_like f g o p a e v = record { count = v.count ∙ ap length e; bytes = v.bytes ∙ ap (λ (t : List ℕ). over t o) e }

-- the same writer of a value that the machine read back
pub wrote_same : (f g : List ℕ → List ℕ) (o p : List ℕ) (a : ℕ) → f ≡ g → Wrote f o a p → Wrote g o a p
wrote_same f g o p a e v = rw e at v

-- nothing is written where there is no room, and the text where there is
pub wrote_none : (n : ℕ) (t o : List ℕ) → length o < n → Wrote (room n t) o 0 o
wrote_none n t o h =
    let e = room_no n t o h in
    record { count = ap length e; bytes = ap (λ (u : List ℕ). over u o) e }

pub wrote_text : (n : ℕ) (t o p : List ℕ) (a : ℕ) → n ≤ length o → a ≡ length t → p ≡ over t o → Wrote (room n t) o a p
wrote_text n t o p a h f g =
    let e = room_yes n t o h in
    record { count = f ∙ ap length e; bytes = g ∙ ap (λ (u : List ℕ). over u o) e }

-- a writer writes no more than the room that it asks for, and the next one starts in the output
pub wrote_most : (n : ℕ) (t o p : List ℕ) (a : ℕ) → length t ≤ n → Wrote (room n t) o a p → a ≤ n
wrote_most n t o p a h v = ⊎_elim
    (λ l. omega (arith, v.count, ap length (room_no n t o l)))
    (λ l. omega (arith, v.count, ap length (room_yes n t o l)))
    (lt_or_le (length o) n)

pub wrote_within : (n : ℕ) (t o p : List ℕ) (a : ℕ) → length t ≤ n → Wrote (room n t) o a p → a ≤ length p
wrote_within n t o p a h v = wrote_start (room n t) o p a v (room_fits n t o h)

-- a text and a second one in what remains, where there is room for both: one text
pub wrote_both : (j k : ℕ) (t u o p q : List ℕ) (a b : ℕ) → length t ≤ j → j + k ≤ length o
    → Wrote (room j t) o a p → Wrote (room k u) (take (length p - a) (drop a p)) b q → Wrote (room (j + k) (t ++ u)) o (a + b) (put_mid a (length p - a) p q)
wrote_both j k t u o p q a b h l v w =
    let e : room j t o ≡ t = sym (room_yes j t o (omega arith)) in
    let m : k ≤ length (drop (length t) o) = omega (arith, length-drop (length t) o) in
    let f : and_then (room j t) (room k u) o ≡ room (j + k) (t ++ u) o =
    rw (e) (ap (λ (z : List ℕ). t ++ z) (sym (room_yes k u (drop (length t) o) m)) ∙ room_yes (j + k) (t ++ u) o l) in
    wrote_like (and_then (room j t) (room k u)) (room (j + k) (t ++ u)) o (put_mid a (length p - a) p q) (a + b) f (wrote_then (room j t) (room k u) o p q a b v w)

-- the same text, and more room asked for, where it is there
pub wrote_line : (m n : ℕ) (t u o p : List ℕ) (a : ℕ) → m ≤ n → n ≤ length o → t ≡ u → Wrote (room m t) o a p → Wrote (room n u) o a p
wrote_line m n t u o p a h l e v = wrote_like (room m t) (room n u) o p a (sym (room_yes m t o (omega arith)) ∙ e ∙ room_yes n u o l) v

-- what a writer of a text that fits its room leaves has the same length
pub wrote_length : (n : ℕ) (t o p : List ℕ) (a : ℕ) → length t ≤ n → Wrote (room n t) o a p → length p ≡ length o
wrote_length n t o p a h v = ap length v.bytes ∙ over_length (room n t o) o (room_fits n t o h)
