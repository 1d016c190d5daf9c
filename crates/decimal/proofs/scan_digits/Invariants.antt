-- The definition from `at` is the definition from `n` over what is left.
use Rattle.std.proofs.Common.{◌≡◌, ◌≤◌, drop}
use Rattle.decimal.specs.Decimal.{cap}
use Rattle.decimal.specs.Computed.Forward.{scan}
use Rattle.decimal.proofs.scan_digits.Given as goal

abbrev pub invariant-loop-i : goal.invariant-loop-i
invariant-loop-i l = record { capped : l.n ≤ cap; same : scan l.d 0 l.at (drop l.at l.s) ≡ scan l.d l.n l.i (drop l.i l.s) }
