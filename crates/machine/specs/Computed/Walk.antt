-- Steps over the lines of a row, each an event or none, up to the first refusal; and what one step rests on.
use Rattle.std.specs.Prelude.{ℕ, ◌<◌, ◌≡◌, true, List, [], ◌∷◌, Result, Ok, Err, Some, None}
use Rattle.std.specs.Prelude as std
use Rattle.std.proofs.Math.Option.{Option, none, some}
use Rattle.rules.specs.declared.Event.{Event}
use Rattle.rules.specs.declared.Main.{Main}
use Rattle.rules.specs.declared.Memories.{Memories}
use Rattle.rules.specs.declared.Refusal.{Refusal}
use Rattle.rules.specs.Limits.{Limits, full, no_volatiles, line_after}
use Rattle.rules.specs.Memories.{memories_of}
use Rattle.rules.specs.Rules.{Marked, accepted, refused}
use Rattle.state.specs.declared.Cell.{Cell}
use Rattle.state.specs.declared.State.{State}
use Rattle.state.specs.Range.{in_range}
use Rattle.state.specs.State.{words_in}
use Rattle.state.specs.Step.{Within}
use Rattle.machine.specs.declared.Answer.{Answer}
use Rattle.machine.specs.Stepped.{unchanged, stepped, onwards}

unfoldable pub walk : Limits → State → List (Option Event) → Answer
walk m s [] = unchanged s accepted
walk m s (none ∷ rest) = unchanged s (refused 4 (line_after s.counts s.events))
walk m s (some e ∷ rest) = onwards (stepped m s e) (λ z. walk m z rest)

-- what is said of the event on a line by the number of the rule that it breaks, if it breaks one
abbrev pub marked : std.Option ℕ → ℕ → Marked
marked None line = accepted
marked (Some n) line = refused n line

-- the memories in the state that is left, where nothing is refused
abbrev pub outcome_of : Answer → Result Memories Refusal
outcome_of a = elim a.verdict [ Ok u ↦ Ok (memories_of (words_in a.state)) | Err r ↦ Err r ]

-- the state after a step from s, or s as it was beside its refusal
abbrev pub answer_of : State → Result State Refusal → Answer
answer_of s (Ok z) = record { verdict = Ok tt; state = z }
answer_of s (Err r) = record { verdict = Err r; state = s }

-- a state with these parts, on which alone its memories hang
abbrev pub state_of : List Cell → List ℕ → List Main → State
state_of cells locked main = record { counts = record { threads = 0; variables = 0; locks = 0; volatiles = no_volatiles }; events = 0; cells = cells; reads = []; stores = []; locked = locked; holds = []; memory = main; waits = [] }

-- a state in range with room for an event whose places are in it
pub record Turnable (s : State) (e : Event) : Type 0 where
  pub ranged : in_range full s ≡ true
  pub room : s.events < 2000
  pub within : Within e.thread e.kind
