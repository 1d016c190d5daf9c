-- The definition over the whole field is the definition from `n` over what is left.
use Rattle.std.proofs.Common.{◌≡◌, ◌≤◌, drop}
use Rattle.decimal.specs.Decimal.{cap, digits_from}
use Rattle.decimal.proofs.digits.Given as goal

abbrev pub invariant-loop-b : goal.invariant-loop-b
invariant-loop-b l = record { capped : l.n ≤ cap; same : digits_from 0 l.f ≡ digits_from l.n (drop l.b-index l.f) }
