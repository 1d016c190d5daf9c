-- What it means that stepping from the initial state follows the definitions over the list of events. `proofs/Steps.antt` proves it
-- for every list, every allowed head and every limit up to the full one (`follows`).
use Rattle.std.specs.Prelude.{ℕ, ◌≡◌, List, reverse, T}
use Rattle.state.specs.State.{start, words_in}
use Rattle.machine.specs.Stepped.{steps}
use Rattle.rules.specs.declared.Event.{Event}
use Rattle.rules.specs.declared.Counts.{Counts}
use Rattle.rules.specs.Limits.{Limits}
use Rattle.rules.specs.Rules.{words_of, told, accepted, refused, Accepted, FirstBad}
use Rattle.rules.specs.Memories as Memories

pub record Follows (m : Limits) (h : Counts) (events : List Event) : Type 0 where
  -- Accepted exactly when no event is refused after those before it.
  pub accepts : told (steps m (start h) events).verdict ≡ accepted → T (Accepted m h (reverse events))
  pub accepted_when : T (Accepted m h (reverse events)) → told (steps m (start h) events).verdict ≡ accepted
  -- Refused exactly with the number and line of the first bad event.
  pub refuses : (number line : ℕ) → told (steps m (start h) events).verdict ≡ refused number line → FirstBad m h events number line
  pub refused_when : (number line : ℕ) → FirstBad m h events number line → told (steps m (start h) events).verdict ≡ refused number line
  -- The memories read off the state are the memories of the list.
  pub memory : T (Accepted m h (reverse events)) → Memories.memory h (words_in (steps m (start h) events).state) ≡ Memories.memory h (words_of (reverse events))
  pub copies : T (Accepted m h (reverse events)) → Memories.copies h (words_in (steps m (start h) events).state) ≡ Memories.copies h (words_of (reverse events))
