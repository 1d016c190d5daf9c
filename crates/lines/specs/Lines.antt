-- ASCII lines, fields parted by one space, each line ended by byte 10.
use Rattle.std.specs.Prelude.{ℕ, suc, cond, List, [], ◌∷◌, eqb}

-- how many bytes stand before the first b
unfoldable pub before : ℕ → List ℕ → ℕ
before b [] = 0
before b (x ∷ xs) = cond (eqb x b) 0 (suc (before b xs))

-- the length up to and with the last b; 0 where there is none
unfoldable pub up_to : ℕ → List ℕ → ℕ
up_to b [] = 0
up_to b (x ∷ xs) = cond (eqb (up_to b xs) 0) (cond (eqb x b) 1 0) (suc (up_to b xs))

-- one byte more in front of the first piece
abbrev pub on_first : ℕ → List (List ℕ) → List (List ℕ)
on_first x [] = (x ∷ []) ∷ []
on_first x (f ∷ fs) = (x ∷ f) ∷ fs

-- the pieces between the bytes b: the fields of a line, where b is the space
unfoldable pub split_on : ℕ → List ℕ → List (List ℕ)
split_on b [] = [] ∷ []
split_on b (x ∷ xs) = cond (eqb x b) ([] ∷ split_on b xs) (on_first x (split_on b xs))

-- all pieces but the last
unfoldable pub ended : List (List ℕ) → List (List ℕ)
ended [] = []
ended (l ∷ []) = []
ended (l ∷ m ∷ ls) = l ∷ ended (m ∷ ls)

-- the lines of a text, each without its end; a piece at the end without byte 10 is no line
unfoldable pub lines_of : List ℕ → List (List ℕ)
lines_of s = ended (split_on 10 s)

-- the byte of a field of one byte; 0, which is no letter, for any other field
unfoldable pub letter : List ℕ → ℕ
letter [] = 0
letter (b ∷ []) = b
letter (b ∷ c ∷ bs) = 0
