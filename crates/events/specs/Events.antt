-- The event lines of a trace. A trace is what document 01 calls a paper.
use Rattle.std.specs.Prelude.{ℕ, suc, List, [], ◌∷◌, cond, eqb, ℤ, pos, Some, None, Result, Ok, Err}
use Rattle.std.specs.Prelude.{Option as Option'}
use Rattle.std.proofs.Math.Option.{Option, none}
use Rattle.std.specs.Int.{Width}
use Rattle.rules.specs.declared.Event.{Event}
use Rattle.rules.specs.Events.{F, capped, is_letter, is_lock_letter, kind_of, event_with}
use Rattle.lines.specs.Lines.{split_on, letter}
use Rattle.decimal.specs.declared.NotValue.{NotValue}
use Rattle.decimal.specs.Decimal.{natural_of, integer_of}

-- ---- the fields of a line

-- what the fields of a line say: no event, or letter, thread, variable or lock, and value
pub data Fields : Type 0 where
  wrong : Fields
  right : ℕ → ℕ → ℕ → ℤ → Fields

abbrev pub on_number : Option' ℕ → (ℕ → Fields) → Fields
on_number None f = wrong
on_number (Some n) f = f n

-- a value outside its width is 4
abbrev pub on_integer : Result ℤ NotValue → (ℤ → Fields) → Fields
on_integer (Err e) f = wrong
on_integer (Ok v) f = f v

-- a number, and then more fields
abbrev pub field : (ℕ → List (List ℕ) → Fields) → List (List ℕ) → Fields
field f [] = wrong
field f (x ∷ xs) = on_number (natural_of x) (λ n. f n xs)

-- one field, the last
abbrev pub last : (List ℕ → Fields) → List (List ℕ) → Fields
last f [] = wrong
last f (x ∷ []) = f x
last f (x ∷ y ∷ xs) = wrong

-- A lock event has no value, and 0 stands for it.
abbrev pub lock_end : ℕ → ℕ → List ℕ → Fields
lock_end k t x = on_number (natural_of x) (λ l. right k t l (pos 0))

-- The thread that an F notifies stands in the place of a value, held at 255: one too large is 5.
abbrev pub notify_end : ℕ → ℕ → ℕ → List ℕ → Fields
notify_end k t l x = on_number (natural_of x) (λ u. right k t l (pos (capped u)))

-- a value in the last field
abbrev pub value_end : Width → ℕ → ℕ → ℕ → List ℕ → Fields
value_end w k t v x = on_integer (integer_of w x) (λ z. right k t v z)

-- `K t l` lock, `N t l` unlock, `Y t l` and `C t l`; `F t l u`.
abbrev pub lock_fields : ℕ → ℕ → List (List ℕ) → Fields
lock_fields k t fs = cond (eqb k F) (field (λ l. last (notify_end k t l)) fs) (last (lock_end k t) fs)

-- The others are letter, thread, variable, value.
abbrev pub after_thread : Width → ℕ → ℕ → List (List ℕ) → Fields
after_thread w k t fs = cond (is_lock_letter k) (lock_fields k t fs) (field (λ v. last (value_end w k t v)) fs)

-- every byte other than the thirteen letters is refused with 4
abbrev pub after_letter : Width → ℕ → List (List ℕ) → Fields
after_letter w k fs = cond (is_letter k) (field (after_thread w k) fs) wrong

-- a letter in the first field
abbrev pub from_fields : Width → List (List ℕ) → Fields
from_fields w [] = wrong
from_fields w (x ∷ xs) = after_letter w (letter x) xs

-- a line without its end, its value of this width
unfoldable pub line_of : Width → List ℕ → Fields
line_of w l = from_fields w (split_on 32 l)

-- ---- the event of a line

abbrev pub event_in : ℕ → Fields → Option Event
event_in n wrong = none
event_in n (right k t p x) = event_with n t (kind_of k p x)

-- line n, without its end, as an event; none where it is no event of this form
unfoldable pub event_of : Width → ℕ → List ℕ → Option Event
event_of w n l = event_in n (line_of w l)

-- lines from the n-th on
unfoldable pub readings : Width → ℕ → List (List ℕ) → List (Option Event)
readings w n [] = []
readings w n (l ∷ ls) = event_of w n l ∷ readings w (suc n) ls

-- ---- the lines of any bytes

-- what stands behind the last byte 10 is no event line, and the empty line stands for it
abbrev pub unended : List ℕ → List (List ℕ)
unended [] = []
unended (x ∷ xs) = [] ∷ []

abbrev pub pieces : List (List ℕ) → List (List ℕ)
pieces [] = []
pieces (l ∷ []) = unended l
pieces (l ∷ k ∷ ls) = l ∷ pieces (k ∷ ls)

-- each line is ended by byte 10
unfoldable pub part_lines : List ℕ → List (List ℕ)
part_lines s = pieces (split_on 10 s)
