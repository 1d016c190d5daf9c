-- An event's line by its letter, and the line of volatile variables.
use mathlib.Core.Path.{◌≡◌, refl, sym, ap, ◌∙◌}
use mathlib.Core.List.{List, [], ◌∷◌}
use Prim.Native.Nat.{ℕ}
use mathlib.Core.Bool.{Bool, true, false, not, ◌&&◌, cond}
use native.Mathlib.Omega.{arith}
use lib.Dec.{eqb, leb}
use lib.ListN.{length}
use lib.IntN.{ℤ}
use Rattle.decimal.specs.Text.{word_row, word_value, ended, over, room, Wrote}
use Rattle.rules.specs.declared.Event.{Event}
use Rattle.rules.specs.Events.{F, letter, place, value, is_lock_letter}
use Rattle.rules.proofs.Letters.{lock_letter_law}
use Rattle.writer.specs.Text.{volatiles_text, event_line}

-- the letter of a line without a third number
abbrev pub bare : ℕ → Bool
bare k = is_lock_letter k && not (eqb k F)

pub event_text : (e : Event) (b : Bool) → bare (letter e.kind) ≡ b
    → event_line e
    ≡ cond b (word_row (letter e.kind ∷ []) (e.thread ∷ place e.kind ∷ []))
    (word_value (letter e.kind ∷ []) (e.thread ∷ place e.kind ∷ []) (value e.kind))
unfolding event_line
event_text e b q = rw (ap (λ (l : Bool). l && not (eqb (letter e.kind) F)) (sym (lock_letter_law e)) ∙ q)

-- the same, with what was asked of its kind
module _ (e : Event) (k p : ℕ) (a : k ≡ letter e.kind) (b : p ≡ place e.kind) where
  pub lock_text : bare k ≡ true → ended (word_row (k ∷ []) (e.thread ∷ p ∷ [])) ≡ ended (event_line e)
  lock_text q = rw (a, b, event_text e true (ap bare (sym a) ∙ q))

  pub plain_text_law : (x : ℤ) → x ≡ value e.kind → bare k ≡ false → ended (word_value (k ∷ []) (e.thread ∷ p ∷ []) x) ≡ ended (event_line e)
  plain_text_law x z q = rw (a, b, z, event_text e false (ap bare (sym a) ∙ q))

-- the line of volatile variables: none, and one
pub volatiles_none : (n : ℕ) (ns o : List ℕ) → length ns ≡ 0 → Wrote (room n (volatiles_text ns)) o 0 o
volatiles_none n [] o h = let e = by (leb n (length o)) in record { count = ap length e; bytes = ap (λ (u : List ℕ). over u o) e }
  where
    by : (b : Bool) → ◌≡◌ {A = List ℕ} [] (cond b [] [])
    by true = refl
    by false = refl
volatiles_none n (k ∷ ns) o h = absurd (omega arith)

pub volatiles_some : (ns : List ℕ) → (length ns ≡ 0 → ⊥) → ended (word_row (86 ∷ []) ns) ≡ volatiles_text ns
volatiles_some [] h = absurd (h refl)
volatiles_some (n ∷ ns) h = refl
