-- One step over a state that a caller keeps: 8, 9 (25 in the short course), 5, then the row; and a sequence of steps.
use Rattle.std.specs.Prelude.{ℕ, zero, suc, cond, List, [], ◌∷◌, Ok, Err}
use Rattle.rules.specs.declared.Event.{Event}
use Rattle.rules.specs.Limits.{Limits, line_after}
use Rattle.rules.specs.Rules.{answer, Marked, accepted, refused, said}
use Rattle.state.specs.declared.State.{State}
use Rattle.state.specs.State.{words_in}
use Rattle.state.specs.Range.{in_range}
use Rattle.state.specs.Step.{step_state}
use Rattle.machine.specs.declared.Answer.{Answer}

-- a refused step hands the state back as it was
abbrev pub unchanged : State → Marked → Answer
unchanged s k = record { verdict = said k; state = s }

-- an event that is refused with this number, or accepted where it is 0. The line is that of the event in a paper: the events so far
-- plus 3, or plus 4 where a variable is volatile.
abbrev pub step_with : State → Event → ℕ → Answer
step_with s e zero = record { verdict = said accepted; state = step_state s e }
step_with s e (suc n) = unchanged s (refused (suc n) (line_after s.counts s.events))

-- One step: 8 (line 0), 9 (25), 5, row. A state in range that no events reach is answered by the same rows, read from its own contents.
unfoldable pub stepped : Limits → State → Event → Answer
stepped m s e = cond (in_range m s) (step_with s e (answer m s.counts (words_in s) e)) (unchanged s (refused 8 0))

-- on from an accepted step
abbrev pub onwards : Answer → (State → Answer) → Answer
onwards a go = elim a.verdict [ Ok u ↦ go a.state | Err r ↦ unchanged a.state (refused r.number r.line) ]

-- steps over a list of events from a state, up to the first refusal
unfoldable pub steps : Limits → State → List Event → Answer
steps m s [] = unchanged s accepted
steps m s (e ∷ rest) = onwards (stepped m s e) (λ z. steps m z rest)
