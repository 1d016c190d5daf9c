-- The canonical text of a trace: each line written as document 01 has it, each number in its one form.
use Rattle.std.specs.Prelude.{ℕ, suc, ◌+◌, ◌-◌, ◌≡◌, List, [], ◌∷◌, ◌++◌, Bool, true, not, ◌&&◌, cond, eqb, ltb, length, take, replicate, Option, Some, None}
use Rattle.std.proofs.Common.{SFits}
use Rattle.rules.specs.declared.Counts.{Counts}
use Rattle.rules.specs.declared.Event.{Event}
use Rattle.rules.specs.Events.{F, letter, place, value, on_lock}
use Rattle.rules.specs.Limits.{full, value_width, declared}
use Rattle.decimal.specs.Text.{word_row, word_value, ended}
use Rattle.trace.specs.declared.Trace.{Trace}
use Rattle.trace.specs.Trace.{Guards}

-- `H t v l`
abbrev pub head_line : Counts → List ℕ
head_line c = word_row (72 ∷ []) (c.threads ∷ c.variables ∷ c.locks ∷ [])

-- `G` and one lock number per variable, or `G -`
abbrev pub guard_row : Option (List ℕ) → List ℕ
guard_row None = 71 ∷ 32 ∷ 45 ∷ []
guard_row (Some ns) = word_row (71 ∷ []) ns

-- the line of v variables
abbrev pub guard_line : ℕ → Guards → List ℕ
guard_line v None = guard_row None
guard_line v (Some g) = guard_row (Some (take v g))

-- the numbers of the variables whose flags are set, from the i-th on: they rise
unfoldable pub numbers_from : ℕ → List Bool → List ℕ
numbers_from i [] = []
numbers_from i (b ∷ bs) = cond b (i ∷ numbers_from (i + 1) bs) (numbers_from (i + 1) bs)

-- `V` and the numbers of the volatile variables
abbrev pub volatile_row : List ℕ → List ℕ
volatile_row ns = word_row (86 ∷ []) ns

-- its line, and no line where there are none
abbrev pub volatiles_text : List ℕ → List ℕ
volatiles_text [] = []
volatiles_text (n ∷ ns) = ended (volatile_row (n ∷ ns))

abbrev pub volatile_line : Counts → List ℕ
volatile_line c = volatiles_text (numbers_from 0 c.volatiles)

-- `K t l`, `N t l`, `Y t l` and `C t l`; the others are letter, thread, variable, value, and `F t l u` has its thread, held at 255, in the place of a value
unfoldable pub event_line : Event → List ℕ
event_line e =
    cond (on_lock e && not (eqb (letter e.kind) F))
    (word_row (letter e.kind ∷ []) (e.thread ∷ place e.kind ∷ []))
    (word_value (letter e.kind ∷ []) (e.thread ∷ place e.kind ∷ []) (value e.kind))

-- `Z n`
abbrev pub trailer_line : ℕ → List ℕ
trailer_line n = word_row (90 ∷ []) (n ∷ [])

unfoldable pub events_text : List Event → List ℕ
events_text [] = []
events_text (e ∷ es) = ended (event_line e) ++ events_text es

-- what stands before the trailer
unfoldable pub body_text : Counts → Guards → List Event → List ℕ
body_text c g es = ended (head_line c) ++ (ended (guard_line c.variables g) ++ (volatile_line c ++ events_text es))

-- n is the number of bytes before the trailer
unfoldable pub trace_text : Counts → Guards → List Event → List ℕ
trace_text c g es = body_text c g es ++ ended (trailer_line (length (body_text c g es)))

-- all are below l
unfoldable pub all_below : ℕ → List ℕ → Bool
all_below l [] = true
all_below l (n ∷ ns) = ltb n l && all_below l ns

-- the locks of the variables, with zeros behind them
abbrev pub padded : List ℕ → List ℕ
padded ns = ns ++ replicate (full.variables - length ns) 0

-- guards that a trace with these counts may have: none, or one declared lock per variable
pub data Guarded (c : Counts) : Guards → Type 0 where
  none : Guarded c None
  given : (ns : List ℕ) → length ns ≡ c.variables → all_below c.locks ns ≡ true → Guarded c (Some (padded ns))

-- an event that a trace with these counts may have in line n
pub record Declared (c : Counts) (n : ℕ) (e : Event) : Type 0 where
  pub known : declared c e ≡ true
  pub fits : SFits value_width (value e.kind)
  pub at : e.line ≡ n

-- events from line n on
pub data AllDeclared (c : Counts) : ℕ → List Event → Type 0 where
  done : (n : ℕ) → AllDeclared c n []
  more : (n : ℕ) (e : Event) (es : List Event) → Declared c n e → AllDeclared c (suc n) es → AllDeclared c n (e ∷ es)

-- the trace that finding its text answers
unfoldable pub found_text : Counts → Guards → List Event → Trace
found_text c g es = record {
  head = c;
  guards = g;
  from = length (ended (head_line c)) + length (ended (guard_line c.variables g)) + length (volatile_line c);
  to = length (body_text c g es);
}
