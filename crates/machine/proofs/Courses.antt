-- Document 02 (e), of one step by limits up to the full ones: 8 by these limits, the number of one event too many in place of 9, and otherwise the step by the
-- full ones.
use Prim.Native.Nat.{◌<◌}
use native.Mathlib.Omega.{arith}
use borrow.Author.Tests.{leb-true, leb-false, lt-leb}
use mathlib.Core.Path.{◌≡◌, refl, sym, ◌∙◌}
use mathlib.Core.Bool.{Bool, true, false}
use lib.Dec.{leb}
use Rattle.rules.specs.declared.Event.{Event}
use Rattle.rules.specs.Limits.{Limits, UpToFull, full}
use Rattle.rules.specs.Rules.{answer}
use Rattle.state.specs.declared.State.{State}
use Rattle.state.specs.State.{words_in}
use Rattle.state.specs.Range.{in_range}
use Rattle.state.proofs.Kept.{range, range_full}
use Rattle.machine.specs.Stepped.{stepped}
use Rattle.machine.specs.Courses.{StepByLimits, out, excess, within}
use Rattle.machine.proofs.Steps.{step_ranged}
use Rattle.machine.proofs.OneStep.{step_out, step_limit}

module _ (m : Limits) (u : UpToFull m) (s : State) (e : Event) where
  step_same : in_range m s ≡ true → s.events < m.events → stepped m s e ≡ stepped full s e
  unfolding answer words_in
  step_same r h =
      step_ranged m s e r
      ∙ rw (lt-leb m.events s.events h, lt-leb full.events s.events (omega (arith, h, u.events))) refl
      ∙ sym (step_ranged full s e (range_full m s u r))

  pub every_step : StepByLimits m s e
  every_step = by (in_range m s) refl (leb m.events s.events) refl
    where
      by : (b : Bool) → in_range m s ≡ b → (c : Bool) → leb m.events s.events ≡ c → StepByLimits m s e
      by false r c q = out r (sym (step_out m s e r))
      by true r true q =
          let h = leb-true m.events s.events q in
          excess r (omega (arith, h, (range m s r).events)) (sym (step_limit m s e u r m.excess refl h))
      by true r false q = let h = leb-false m.events s.events q in within r h (step_same r h)
