-- `ordering::owes_some` meets its contract. Assumes nothing.
use native.Mathlib.Omega.{arith}
use mathlib.Core.Path.{refl, ◌∙◌}
use borrow.Author.Rules.{rules}
use borrow.Author.Tests.{tests}
use Rattle.std.proofs.lemmas.Iterator.{YieldsList-from_range}
use Rattle.std.proofs.lemmas.Iterator.Search.{any_from_yields_List}
use Rattle.ordering.specs.Computed.Parts.{pending_in}
use Rattle.ordering.proofs.Below.{any_below}
use Rattle.ordering.proofs.owes_some.Goals as goal

pub returns : goal.returns
unfolding pending_in
returns c =
    let p = pending_in c.args.pending.now c.args.t in
    any_from_yields_List p _ _ _ c.any.ensures.ran (YieldsList-from_range 0 c.args.n c.args.n refl (omega arith)) (λ x b q k. search (rules, tests))
    ∙ any_below c.args.n p
