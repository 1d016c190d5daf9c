-- `ordering::Holds::is_unfinished` meets its contract. Assumes nothing.
use native.Mathlib.Omega.{arith}
use mathlib.Core.Path.{refl, ◌∙◌}
use mathlib.Core.Bool.{◌||◌}
use lib.Dec.{ltb}
use lib.ListN.{get_or}
use borrow.Author.Rules.{rules}
use borrow.Author.Tests.{tests}
use Rattle.std.proofs.lemmas.Iterator.{YieldsList-from_range}
use Rattle.std.proofs.lemmas.Iterator.Search.{any_from_yields_List}
use Rattle.rules.specs.Rules.{some}
use Rattle.ordering.specs.Computed.Parts.{pending_in, unfinished_in}
use Rattle.ordering.proofs.Below.{any_below}
use Rattle.ordering.proofs.Holds.is_unfinished.Goals as goal

pub returns : goal.returns
unfolding unfinished_in
returns c =
    let a = c.args in
    let p = λ (t : _). ltb 0 (get_or a.self.now.depths t 0) || (some a.h.variables (pending_in a.pending.now t) || ltb 0 (get_or a.self.now.remembered t 0)) in
    any_from_yields_List p _ _ _ c.any.ensures.ran (YieldsList-from_range 0 a.h.threads a.h.threads refl (omega arith)) (λ x b q k. search (rules, tests))
    ∙ any_below a.h.threads p
