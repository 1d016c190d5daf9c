-- A row in three parts: 29 and 30, the checks of volatile variables, and the others.
use Prim.Native.Nat.{ℕ, zero, suc}
use native.Mathlib.Nat.{suc-ne-zero}
use mathlib.Core.Path.{◌≡◌, refl, sym, ap, ◌∙◌}
use mathlib.Core.Bool.{Bool, true, false, cond, and-false}
use mathlib.Core.List.{List, [], ◌∷◌, ◌++◌}
use lib.Dec.{T, eqb}
use Rattle.std.specs.Prelude.{Option, Some, None}
use Rattle.std.specs.Option.{option_or, unwrap_or}
use borrow.Author.Tests.{ne_eqb}
use Rattle.rules.specs.declared.Counts.{Counts}
use Rattle.rules.specs.declared.Event.{Event}
use Rattle.rules.specs.Events.{letter, among, is, lock_letters}
use Rattle.rules.specs.Limits.{volatile}
use Rattle.rules.specs.Rules.{Words, loc, wrong_neighbour, use_barred, write_barred, volatile_order, prescient_volatile, breaks, rows_behind, rows, row_in, first_broken, judge}
use Rattle.rules.proofs.Plain.{row_led}
use Rattle.state.proofs.Letters.{by_letters}
use Rattle.judging.specs.Computed.Checks.{lead}

-- ---- a number, 0 for none, and the same number as an Option

-- the first of two numbers that is not 0
abbrev pub either_of : ℕ → ℕ → ℕ
either_of a b = cond (eqb a 0) b a

-- a number where it is not 0
abbrev pub found : ℕ → Option ℕ
found zero = None
found (suc n) = Some (suc n)

-- the number comes back; nothing is 0
pub found_number : (n : ℕ) → unwrap_or (found n) 0 ≡ n
found_number zero = refl
found_number (suc n) = refl

pub found_none : (n : ℕ) → found n ≡ None → n ≡ 0
found_none n q = sym (found_number n) ∙ ap (λ (o : Option ℕ). unwrap_or o 0) q

-- a number that is found is not 0
pub found_some : (n : ℕ) {m : ℕ} → found n ≡ Some m → (m ≡ n) × (m ≡ 0 → ⊥)
found_some zero q = cc
found_some (suc n) {m} q = let p : m ≡ suc n = cc in (p, λ z. suc-ne-zero n (sym p ∙ z))

pub found_cond : (b : Bool) (m n : ℕ) → found (cond b m n) ≡ cond b (found m) (found n)
found_cond true m n = refl
found_cond false m n = refl

found_either : (m n : ℕ) → found (either_of m n) ≡ option_or (found m) (found n)
found_either zero n = refl
found_either (suc m) n = rw (ne_eqb (suc m) 0 (suc-ne-zero m)) refl

pub or_none : (o : Option ℕ) → option_or o None ≡ o
or_none None = refl
or_none (Some n) = refl

-- ---- the parts of a row

-- 29 and 30 of an event, 26, 27 and 28, and the other checks of its row
abbrev pub ahead : Counts → Words → Event → ℕ
ahead h w e = first_broken (29 ∷ 30 ∷ []) h w e

abbrev pub leading : Counts → Words → Event → ℕ
leading h w e = first_broken (26 ∷ 27 ∷ 28 ∷ []) h w e

abbrev pub trailing : Counts → Words → Event → ℕ
trailing h w e = first_broken (row_in (rows_behind []) (letter e.kind)) h w e

-- the first broken of two parts of a row: that of the first part, and where this is kept that of the second
either_broken : (ns ms : List ℕ) (h : Counts) (w : Words) (e : Event) → first_broken (ns ++ ms) h w e ≡ either_of (first_broken ns h w e) (first_broken ms h w e)
unfolding first_broken breaks
either_broken [] ms h w e = refl
either_broken (zero ∷ ns) ms h w e = either_broken ns ms h w e
either_broken (suc n ∷ ns) ms h w e = go (breaks (suc n) h w e) (either_broken ns ms h w e)
  where
    go : (b : Bool) → first_broken (ns ++ ms) h w e ≡ either_of (first_broken ns h w e) (first_broken ms h w e)
        → cond b (suc n) (first_broken (ns ++ ms) h w e) ≡ either_of (cond b (suc n) (first_broken ns h w e)) (first_broken ms h w e)
    go true q = sym (rw (ne_eqb (suc n) 0 (suc-ne-zero n)) refl)
    go false q = q

pub judge_split : (h : Counts) (w : Words) (e : Event) → judge h w e ≡ either_of (ahead h w e) (either_of (leading h w e) (trailing h w e))
unfolding judge rows
judge_split h w e =
    let behind = row_in (rows_behind []) (letter e.kind) in
    ap (λ (ns : List ℕ). first_broken ns h w e) (row_led lead e.kind)
    ∙ either_broken (29 ∷ 30 ∷ []) (26 ∷ 27 ∷ 28 ∷ behind) h w e
    ∙ ap (λ (n : ℕ). either_of (ahead h w e) n) (either_broken (26 ∷ 27 ∷ 28 ∷ []) behind h w e)

module _ (h : Counts) (w : Words) (e : Event) where
  pub judge_found : found (judge h w e) ≡ option_or (found (ahead h w e)) (option_or (found (leading h w e)) (found (trailing h w e)))
  judge_found =
      ap found (judge_split h w e) ∙ found_either (ahead h w e) (either_of (leading h w e) (trailing h w e))
      ∙ ap (λ (o : Option ℕ). option_or (found (ahead h w e)) o) (found_either (leading h w e) (trailing h w e))

  -- what is ahead of the others is the row's number; where that is kept, what leads them; and where that is kept too, theirs
  pub led_ahead : {o : Option ℕ} {n : ℕ} → o ≡ found (ahead h w e) → o ≡ Some n → o ≡ found (judge h w e)
  led_ahead q z = z ∙ ap (λ (m : Option ℕ). option_or m (option_or (found (leading h w e)) (found (trailing h w e)))) (sym z ∙ q) ∙ sym judge_found

  behind : found (ahead h w e) ≡ None → option_or (found (leading h w e)) (found (trailing h w e)) ≡ found (judge h w e)
  behind a = sym (judge_found ∙ ap (λ (m : Option ℕ). option_or m (option_or (found (leading h w e)) (found (trailing h w e)))) a)

  pub led : found (ahead h w e) ≡ None → {o : Option ℕ} {n : ℕ} → o ≡ found (leading h w e) → o ≡ Some n → o ≡ found (judge h w e)
  led a q z = z ∙ ap (λ (m : Option ℕ). option_or m (found (trailing h w e))) (sym z ∙ q) ∙ behind a

  pub unled : found (ahead h w e) ≡ None → leading h w e ≡ 0 → {o : Option ℕ} → o ≡ found (trailing h w e) → o ≡ found (judge h w e)
  unled a z q = q ∙ sym (ap (λ (m : ℕ). option_or (found m) (found (trailing h w e))) z) ∙ behind a

  -- on a variable that is not volatile, and on a lock, 26, 27 and 28 are kept
  pub unled_plain : volatile h (loc e) ≡ false → leading h w e ≡ 0
  unfolding first_broken breaks wrong_neighbour volatile_order use_barred write_barred prescient_volatile
  unled_plain q = simp (q, and-false)

  pub unled_lock : T (among lock_letters (letter e.kind)) → leading h w e ≡ 0
  unfolding first_broken breaks wrong_neighbour volatile_order use_barred write_barred prescient_volatile is
  unled_lock t = by_letters (λ k. letter e.kind ≡ k → leading h w e ≡ 0) lock_letters ((λ q. simp q), ((λ q. simp q), ((λ q. simp q), ((λ q. simp q), ((λ q. simp q), tt))))) (letter e.kind) t refl
