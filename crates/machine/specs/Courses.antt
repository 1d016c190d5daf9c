-- Document 02 (e): one step by limits m, those of the short course or others.
use Rattle.std.specs.Prelude.{◌<◌, ◌≡◌, true, false}
use Rattle.rules.specs.declared.Event.{Event}
use Rattle.rules.specs.Limits.{Limits, full, line_after}
use Rattle.rules.specs.Rules.{refused}
use Rattle.state.specs.declared.State.{State}
use Rattle.state.specs.Range.{in_range}
use Rattle.machine.specs.Stepped.{unchanged, stepped}

-- a state out of range; one in range with all events in; or one with room for the event, and the full step
pub data StepByLimits (m : Limits) (s : State) (e : Event) : Type 0 where
  out : in_range m s ≡ false → stepped m s e ≡ unchanged s (refused 8 0) → StepByLimits m s e
  excess : in_range m s ≡ true → s.events ≡ m.events → stepped m s e ≡ unchanged s (refused m.excess (line_after s.counts s.events)) → StepByLimits m s e
  within : in_range m s ≡ true → s.events < m.events → stepped m s e ≡ stepped full s e → StepByLimits m s e
