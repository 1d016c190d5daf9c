-- `session::divisor` meets its contract: no greater number divides both.
use mathlib.Core.Path.{◌≡◌}
use Rattle.session.specs.Counting.{common}
use Rattle.session.proofs.divisor.Given as goal

abbrev pub invariant-loop-d : goal.invariant-loop-d
invariant-loop-d l = common l.d l.a l.n ≡ common l.a l.a l.n
