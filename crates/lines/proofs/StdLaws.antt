-- The definitions of specs/Lines.antt in std's words.
use Rattle.std.proofs.Common.{◌≡◌, ℕ, ◌+◌, ◌-◌, ◌<◌, ◌≤◌, ◌≢◌, List, [], ◌∷◌, suc, refl, sym, ap, ◌∙◌, nat_eq, length, get_or, take, drop, arith, min}
use Rattle.std.specs.List.{position_or_len, slice_split, onto_first, count_by}
use Rattle.std.specs.Prelude.{Option, Some, None, MatchOption}
use mathlib.Core.Bool.{cond}
use mathlib.Core.Logic.{◌⊎◌, inl, inr}
use lib.ListN.{drop_of_length-le, length-drop}
use lib.Seq.{take_all, get_or-drop}
use borrow.Author.Tests.{eq-eqb, ne_eqb}
use Rattle.std.specs.Option.{unwrap_or}
use Rattle.std.proofs.lemmas.List.Recursion.{is_position_or_len}
use Rattle.std.proofs.lemmas.List.Sums.{position_or_len_is}
use Rattle.std.proofs.lemmas.Option.{unwrap_or-slice_get}
use Rattle.std.specs.List.{slice_get}
use Rattle.std.specs.Option.{option_map}
use Rattle.std.proofs.lemmas.List.Splits.{length-slice_split}
use Rattle.lines.proofs.PartLaws.{lt_or_le}
use Rattle.lines.proofs.FieldLaws.{up_here}
use Rattle.lines.specs.Lines.{before, up_to, split_on, on_first}

pub before_is : (b : ℕ) (s : List ℕ) → before b s ≡ position_or_len (λ x. nat_eq x b) s
unfolding before
before_is b s = is_position_or_len (before b) (λ x. nat_eq x b) refl (λ x xs. more x xs) s
  where
    more : (x : ℕ) (xs : List ℕ) → cond (nat_eq x b) 0 (suc (before b xs)) ≡ cond (nat_eq x b) 0 (1 + before b xs)
    more x xs = let e : suc (before b xs) ≡ 1 + before b xs = omega arith in ap (λ (n : ℕ). cond (nat_eq x b) 0 n) e

-- the first b, or the length
pub before_first : (b : ℕ) (s : List ℕ) (r : Option ℕ)
    → MatchOption r ((k : ℕ) → k < length s → get_or s k 0 ≢ b) (λ i. (i < length s) × (get_or s i 0 ≡ b) × ((k : ℕ) → k < i → get_or s k 0 ≢ b))
    → unwrap_or r (length s) ≡ before b s
before_first b s None h = sym (before_is b s ∙ position_or_len_is (λ x. nat_eq x b) s (length s) 0 (omega arith) (λ k l. ne_eqb _ _ (h k l)) (λ l. absurd (omega arith)))
before_first b s (Some i) h = sym (before_is b s ∙ position_or_len_is (λ x. nat_eq x b) s i 0 (omega arith) (λ k l. ne_eqb _ _ (h.2 k l)) (λ l. eq-eqb _ _ h.1))

pub split_is : (b : ℕ) (s : List ℕ) → split_on b s ≡ slice_split (λ x. nat_eq x b) s
unfolding split_on
split_is b [] = refl
split_is b (x ∷ xs) = rw (split_is b xs) (by (slice_split (λ x. nat_eq x b) xs))
  where
    by : (l : List (List ℕ)) → cond (nat_eq x b) ([] ∷ l) (on_first x l) ≡ cond (nat_eq x b) ([] ∷ l) (onto_first x l)
    by [] = refl
    by (f ∷ fs) = refl

-- the j-th piece
pub piece : (b j : ℕ) (s : List ℕ) {A : Type 0} (now : A → List ℕ) (d : A) (r : Option A) → now d ≡ []
    → option_map now r ≡ slice_get (slice_split (λ x. nat_eq x b) s) j
    → now (unwrap_or r d) ≡ get_or (split_on b s) j []
piece b j s now d r z h =
    rw (split_is b s) (by r h)
  where
    by : (r : Option _) → option_map now r ≡ slice_get (slice_split (λ x. nat_eq x b) s) j → now (unwrap_or r d) ≡ get_or (slice_split (λ x. nat_eq x b) s) j []
    by None h = z ∙ ap (λ (o : Option (List ℕ)). unwrap_or o []) h ∙ unwrap_or-slice_get (slice_split (λ x. nat_eq x b) s) j []
    by (Some f) h = ap (λ (o : Option (List ℕ)). unwrap_or o []) h ∙ unwrap_or-slice_get (slice_split (λ x. nat_eq x b) s) j []

-- the number of fields
pub fields_are : (b : ℕ) (s : List ℕ) → length (split_on b s) ≡ count_by (λ x. nat_eq x b) s + 1
fields_are b s = ap length (split_is b s) ∙ length-slice_split (λ x. nat_eq x b) s

-- what stands before the first b of the rest from `at` on
pub before_rest : (b at m : ℕ) (s : List ℕ) → m ≡ min at (length s) → before b (take (length s - m) (drop m s)) ≡ before b (drop at s)
before_rest b at m s e =
    rw (take_all (length s - m) (drop m s) (omega (arith, length-drop m s))) (by (lt_or_le at (length s)))
  where
    by : (at < length s) ⊎ (length s ≤ at) → before b (drop m s) ≡ before b (drop at s)
    by (inl h) = let q : m ≡ at = omega arith in ap (λ (k : ℕ). before b (drop k s)) q
    by (inr h) = rw (drop_of_length-le s {i = at} h, drop_of_length-le s {i = m} (omega arith))

-- the last b
up_absent : (b : ℕ) (s : List ℕ) → ((k : ℕ) → k < length s → get_or s k 0 ≢ b) → up_to b s ≡ 0
unfolding up_to
up_absent b [] h = refl
up_absent b (x ∷ xs) h = rw (eq-eqb _ _ (up_absent b xs (λ k l. h (suc k) (omega arith))), ne_eqb _ _ (h 0 (omega arith)))

pub up_last : (b n : ℕ) (s : List ℕ) (r : Option ℕ)
    → MatchOption r ((k : ℕ) → k < length s → get_or s k 0 ≢ b) (λ i. (i < length s) × (get_or s i 0 ≡ b) × ((k : ℕ) → i < k → k < length s → get_or s k 0 ≢ b))
    → MatchOption r (n ≡ 0) (λ i. n ≡ i + 1)
    → n ≡ up_to b s
up_last b n s None h e = e ∙ sym (up_absent b s h)
up_last b n s (Some i) h e = omega (arith, e, up_here b i s h.0 h.1 (up_absent b (drop (suc i) s) (λ k l. rw (get_or-drop (suc i) s k 0) (h.2 (suc i + k) (omega arith) (omega (arith, l, length-drop (suc i) s))))))
