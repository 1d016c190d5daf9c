-- `judging::read_checks` meets its contract.
use Rattle.rules.specs.Limits.{value_width}
use Rattle.rules.proofs.Signed.{bits_equal}
use borrow.Author.Rules.{rules}
use mathlib.Core.Path.{refl}
use Rattle.judging.proofs.read_checks.Goals as goal

pub returns : goal.returns
returns c = rw (bits_equal value_width c.args.x c.args.m.value c.ranges.x (search rules)) refl
