-- `machine::lead_of` meets its contract. Assumes nothing.
use Rattle.judging.proofs.Leads.{lead_found, lead_quiet, lead_none}
use Rattle.machine.proofs.lead_of.Goals as goal

pub returns-then-not-is_volatile : goal.returns-then-not-is_volatile
returns-then-not-is_volatile c = let a = c.args in lead_none a.h.now a.c.now a.cells.now a.stores.now a.t a.v a.k c.is_volatile.ensures c.if-not-is_volatile.true

pub returns-then-k : goal.returns-then-k
returns-then-k c = let a = c.args in lead_found a.h.now a.c.now a.cells.now a.stores.now a.t a.v a.k c.is_volatile.ensures c.if-not-is_volatile.false c.volatile_order-order.ensures c.lead_rule.ensures

pub returns : goal.returns
returns c = let a = c.args in lead_quiet a.h.now a.c.now a.cells.now a.stores.now a.t a.v a.k c.is_volatile.ensures c.if-not-is_volatile.false c.if-k.false c.lead_rule-2.ensures
