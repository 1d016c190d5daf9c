-- `machine::volatile_order` meets its contract: whether one of the variables bars the event. Assumes nothing.
use Rattle.std.proofs.Common.{rules, ◌∙◌, refl, tests, arith, ◌&&◌}
use Rattle.std.proofs.lemmas.Iterator.{YieldsList-from_range}
use Rattle.std.proofs.lemmas.Iterator.Search.{any_from_yields_List}
use Rattle.rules.specs.Limits.{volatile}
use Rattle.judging.specs.Computed.Leads.{bars_at, order_at}
use Rattle.rules.proofs.Flags.{any_below}
use Rattle.machine.proofs.volatile_order.Goals as goal

pub returns : goal.returns
unfolding order_at
returns c =
    let a = c.args in
    let n = a.h.now.variables in
    let e = any_from_yields_List (λ u. volatile a.h.now u && bars_at a.cells.now a.stores.now a.t a.v a.k u) _ _ c.any.result c.any.ensures.ran (YieldsList-from_range 0 n n refl (omega arith)) (λ x b q k. search (rules, tests)) in
    e ∙ any_below n _
