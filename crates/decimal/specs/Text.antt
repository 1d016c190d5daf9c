-- Numbers as text, and text laid over the front of what remains of an output.
use Rattle.std.specs.Prelude.{ℕ, zero, suc, ◌+◌, ◌/◌, ◌%◌, ◌≡◌, List, [], ◌∷◌, ◌++◌, Bool, true, false, cond, ltb, leb, length, drop, ℤ, pos, negsuc, nat_abs}

-- n in base ten, or its last k digits where it has more
unfoldable pub digits_in : ℕ → ℕ → List ℕ
digits_in zero n = []
digits_in (suc k) n = cond (ltb n 10) ((48 + n) ∷ []) (digits_in k (n / 10) ++ ((48 + n % 10) ∷ []))

-- n in base ten, for the numbers of 64 bits, which have at most twenty digits
unfoldable pub natural_text : ℕ → List ℕ
natural_text n = digits_in 20 n

-- `negsuc n` is -1 - n
abbrev pub is_negative : ℤ → Bool
is_negative (pos n) = false
is_negative (negsuc n) = true

-- n in base ten, after a minus where it is that of a negative value
abbrev pub signed_text : Bool → ℕ → List ℕ
signed_text b n = cond b (45 ∷ natural_text n) (natural_text n)

-- the size of x in base ten, after a minus where x is negative
unfoldable pub integer_text : ℤ → List ℕ
integer_text x = signed_text (is_negative x) (nat_abs x)

-- a space and a number for each of the list
unfoldable pub row_text : List ℕ → List ℕ
row_text [] = []
row_text (n ∷ ns) = (32 ∷ natural_text n) ++ row_text ns

-- a word, and a row of numbers
unfoldable pub word_row : List ℕ → List ℕ → List ℕ
word_row w ns = w ++ row_text ns

-- a word, a row of numbers and a value
unfoldable pub word_value : List ℕ → List ℕ → ℤ → List ℕ
word_value w ns x = word_row w ns ++ (32 ∷ integer_text x)

-- Each line is ended by byte 10.
abbrev pub ended : List ℕ → List ℕ
ended l = l ++ (10 ∷ [])

-- a row with its front overwritten: an output by a text
abbrev pub over : {A : Type 0} → List A → List A → List A
over t o = t ++ drop (length t) o

-- a text that is written only where n bytes remain
abbrev pub room : ℕ → List ℕ → List ℕ → List ℕ
room n t o = cond (leb n (length o)) t []

-- A writer's text is a function of what remains of the output. Of a writer of the text f that was lent o: r is the number of bytes that it
-- wrote, and p is what the lent bytes hold then.
pub record Wrote (f : List ℕ → List ℕ) (o : List ℕ) (r : ℕ) (p : List ℕ) : Type 0 where
  pub count : r ≡ length (f o)
  pub bytes : p ≡ over (f o) o

-- one writer, and then another in what remains
abbrev pub and_then : (List ℕ → List ℕ) → (List ℕ → List ℕ) → List ℕ → List ℕ
and_then f g o = f o ++ g (drop (length (f o)) o)
