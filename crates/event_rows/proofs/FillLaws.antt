-- Laws of a lent row of events that is filled place by place.
use Prim.Native.Nat.{ℕ, zero, suc, ◌+◌, ◌<◌, ◌≤◌, min}
use native.Mathlib.Omega.{arith}
use mathlib.Core.Path.{◌≡◌, refl, sym, ◌∙◌, ap, ap₂}
use mathlib.Core.Bool.{Bool, true, false, cond}
use mathlib.Core.List.{List, [], ◌∷◌, ◌++◌, append-nil}
use lib.Dec.{T, ltb}
use lib.IntN.{ℤ, pos}
use lib.ListN.{length, get_or, set, take, drop}
use lib.Seq.{length-take-le, drop-length, drop-cons}
use Rattle.std.proofs.Common.{get_or-take}
use Rattle.std.proofs.Math.ListN.{get_or-eq_default, drop_of_length-le}
use native.Mathlib.Numerals.{add-one}
use borrow.Author.Tests.{lt-leb, ltb-true, ltb-false}
use Rattle.rules.specs.declared.Event.{Event}
use Rattle.rules.specs.declared.Counts.{Counts}
use Rattle.rules.specs.Events.{is_letter}
use Rattle.rules.specs.Limits.{full, line_after}
use Rattle.rules.specs.Memories.{from}
use Rattle.rules.specs.Reading.{read_from}
use Rattle.rules.proofs.From.{length_from, from_same}
use Rattle.decimal.specs.Text.{over}
use Rattle.decimal.proofs.TextLaws.{over_next}
use Rattle.records.specs.Records.{letter_in, unpacked, record_at, event_at}
use Rattle.records.proofs.RecordLaws.{event_some, event_none}
use Rattle.event_rows.specs.EventRows.{fitting, filled}
use Rattle.event_rows.specs.Computed.Lettered.{lettered}
use Rattle.event_rows.specs.Computed.Lines.{event_on}

-- ---- how many records name a kind

pub lettered_few : (ws : List ℕ) → lettered ws ≤ length ws
lettered_few [] = omega arith
lettered_few (w ∷ ws) = go (is_letter (letter_in w)) (lettered_few ws)
  where
    go : (b : Bool) → lettered ws ≤ length ws → cond b (1 + lettered ws) 0 ≤ suc (length ws)
    go true l = omega (arith, l)
    go false l = omega arith

-- ---- events from rows

-- one more
from_next : {X : Type 0} (f : ℕ → X) (i n : ℕ) → from f i (suc n) ≡ from f i n ++ (f (i + n) ∷ [])
unfolding from
from_next {X} f i zero = let z : i ≡ i + 0 = omega arith in ap (λ (k : ℕ). f k ∷ []) z
from_next {X} f i (suc n) =
    let z : suc i + n ≡ i + suc n = omega arith in
    ap (λ (l : List X). f i ∷ l) (from_next f (suc i) n ∙ ap (λ (k : ℕ). from f (suc i) n ++ (f k ∷ [])) z)

-- a row with its first n places written
abbrev pub front : ℕ → List ℕ → List ℤ → List Event → ℕ → List Event
front line ws xs ys n = over (from (event_on line ws xs) 0 n) ys

module _ (line : ℕ) (ws : List ℕ) (xs : List ℤ) (ys : List Event) where
  pub front_none : ys ≡ front line ws xs ys 0
  unfolding from
  front_none = refl

  -- the next place is written
  pub front_next : (i : ℕ) (r : Event) → i < length ys → r ≡ event_on line ws xs i → set (front line ws xs ys i) i r ≡ front line ws xs ys (i + 1)
  front_next i r q e =
      let n : length (from (event_on line ws xs) 0 i) ≡ i = length_from (event_on line ws xs) 0 i in
      let z : i ≡ 0 + i = omega arith in
      ap (λ (k : ℕ). set (front line ws xs ys i) k r) (sym n) ∙ over_next (from (event_on line ws xs) 0 i) ys r (omega (arith, n, q))
      ∙ ap (λ (l : List Event). over l ys) (ap (λ (x : Event). from (event_on line ws xs) 0 i ++ (x ∷ [])) (e ∙ ap (event_on line ws xs) z) ∙ sym (from_next (event_on line ws xs) 0 i) ∙ ap (from (event_on line ws xs) 0) (sym (add-one i)))

  pub front_all : (i : ℕ) → i ≡ length ys → front line ws xs ys i ≡ from (event_on line ws xs) 0 (length ys)
  front_all i q =
      let n : length (from (event_on line ws xs) 0 i) ≡ length ys = length_from (event_on line ws xs) 0 i ∙ q in
      ap (λ (k : ℕ). from (event_on line ws xs) 0 i ++ drop k ys) n ∙ ap (λ (l : List Event). from (event_on line ws xs) 0 i ++ l) (drop-length ys) ∙ append-nil (from (event_on line ws xs) 0 i)
      ∙ ap (from (event_on line ws xs) 0) q

-- the front of a row of events, written from the fronts of two rows
pub front_lines : (line : ℕ) (ws : List ℕ) (xs : List ℤ) (ys es : List Event) (n : ℕ) → n ≤ length ys → n ≤ length ws → n ≤ length xs
    → es ≡ from (event_on line (take n ws) (take n xs)) 0 (length (take n ys)) → es ++ drop n ys ≡ front line ws xs ys n
front_lines line ws xs ys es n a b c e =
    let k : length (take n ys) ≡ n = length-take-le n ys a in
    let f = from_same (event_on line (take n ws) (take n xs)) (event_on line ws xs) 0 n (λ j p q. let r : j < n = omega (arith, q) in λ i. unpacked (line + j) (get_or-take n ws j 0 r i) (get_or-take n xs j (pos 0) r i)) in
    let w : es ≡ from (event_on line ws xs) 0 n = e ∙ ap (from (event_on line (take n ws) (take n xs)) 0) k ∙ f in
    let l : length (from (event_on line ws xs) 0 n) ≡ n = length_from (event_on line ws xs) 0 n in
    ap₂ (λ (a : List Event) (k : ℕ). a ++ drop k ys) w (sym l)

module _ (h : Counts) (ws : List ℕ) (xs : List ℤ) where
  -- the events of the records before the first that names no kind
  pub read_lettered : (i n : ℕ) → i + n ≤ 2000 → read_from full i (from (record_at h ws xs) i n) ≡ from (event_at h ws xs) i (lettered (take n (drop i ws)))
  unfolding from read_from record_at event_at is_letter letter_in
  read_lettered i zero k = refl
  read_lettered i (suc n) k = by (ltb i (length ws)) refl (read_lettered (suc i) n (omega (arith, k)))
    where
      go : (b : Bool) → is_letter (letter_in (get_or ws i 0)) ≡ b → read_from full (suc i) (from (record_at h ws xs) (suc i) n) ≡ from (event_at h ws xs) (suc i) (lettered (take n (drop (suc i) ws)))
          → read_from full i (from (record_at h ws xs) i (suc n)) ≡ from (event_at h ws xs) i (cond (is_letter (letter_in (get_or ws i 0))) (1 + lettered (take n (drop (suc i) ws))) 0)
      go true q l =
          let z : 1 + lettered (take n (drop (suc i) ws)) ≡ suc (lettered (take n (drop (suc i) ws))) = omega arith in
          rw (event_some (line_after h i) (get_or ws i 0) (get_or xs i (pos 0)) q, lt-leb 2000 i (omega (arith, k)), q, z)
          (ap (λ (es : List Event). unpacked (line_after h i) (get_or ws i 0) (get_or xs i (pos 0)) ∷ es) l)
      go false q l = rw (event_none (line_after h i) (get_or ws i 0) (get_or xs i (pos 0)) q, q) refl

      by : (b : Bool) → ltb i (length ws) ≡ b → read_from full (suc i) (from (record_at h ws xs) (suc i) n) ≡ from (event_at h ws xs) (suc i) (lettered (take n (drop (suc i) ws)))
          → read_from full i (from (record_at h ws xs) i (suc n)) ≡ from (event_at h ws xs) i (lettered (take (suc n) (drop i ws)))
      by true e more = rw (drop-cons ws i 0 (ltb-true i (length ws) e)) (go (is_letter (letter_in (get_or ws i 0))) refl more)
      by false e more =
          let l : length ws ≤ i = ltb-false i (length ws) e in
          let q : is_letter (letter_in (get_or ws i 0)) ≡ false = rw (get_or-eq_default ws 0 l) refl in
          rw (drop_of_length-le ws l, event_none (line_after h i) (get_or ws i 0) (get_or xs i (pos 0)) q) refl

  -- the first record stands for the line of the first event
  same_line : (i : ℕ) → event_on (line_after h 0) ws xs i ≡ event_at h ws xs i
  unfolding event_at
  same_line i = let z : line_after h 0 + i ≡ line_after h i = omega arith in ap (λ (l : ℕ). unpacked l (get_or ws i 0) (get_or xs i (pos 0))) z

  pub front_filled : (ys : List Event) (n most m : ℕ) → most ≡ min (min n 2000) (min (length ys) (min (length ws) (length xs))) → m ≡ lettered (take most ws) → front (line_after h 0) ws xs ys m ≡ filled h ws xs n ys
  unfolding filled fitting
  front_filled ys n most m z e =
      ap (front (line_after h 0) ws xs ys) e ∙ ap (λ (l : List Event). over l ys) (from_same (event_on (line_after h 0) ws xs) (event_at h ws xs) 0 (lettered (take most ws)) (λ j p q. same_line j) ∙ sym (read_lettered 0 most (omega arith)))
      ∙ ap (λ (k : ℕ). over (read_from full 0 (from (record_at h ws xs) 0 k)) ys) z

-- a test's value, from what it says
pub fails : (t : Bool) → (T t → ⊥) → t ≡ false
fails true f = absurd (f tt)
fails false _ = refl
