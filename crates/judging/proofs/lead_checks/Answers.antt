-- `judging::lead_checks` meets its contract.
use mathlib.Core.Path.{◌≡◌, refl}
use mathlib.Core.Bool.{Bool, true, false, not, beq}
use lib.Dec.{eqb}
use Rattle.rules.specs.Rules.{differ}
use Rattle.judging.proofs.lead_checks.Goals as goal

differs_are : (a b : Bool) → not (beq a b) ≡ differ a b
differs_are true true = refl
differs_are true false = refl
differs_are false true = refl
differs_are false false = refl

pub returns : goal.returns
returns c = rw (c.is_access.ensures, differs_are (eqb c.args.k 85) c.args.c.after_load, differs_are (eqb c.args.k 83) c.args.c.after_assign) refl
