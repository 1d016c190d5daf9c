-- `judging::pop` meets its contract.
use Prim.Native.Nat.{ℕ, ◌+◌, ◌-◌, ◌%◌}
use mathlib.Core.Path.{◌≡◌, refl}
use Rattle.state.specs.declared.Ring.{Ring}
use Rattle.state.specs.Step.{popped}
use native.Mathlib.Omega.{arith}
use Rattle.judging.proofs.pop.Goals as goal

same : (q : Ring) {f n : ℕ} → f ≡ (q.first + 1) % 8 → n ≡ q.len - 1 → ◌≡◌ {A = Ring} (record { first = f; len = n }) (popped q)
same q e d = rw (e, d) refl

pub returns : goal.returns
returns c = same c.args.q (omega arith) (omega (arith, c.saturating_sub.ensures))
