-- `judging::lead_rule` meets its contract.
use mathlib.Core.Path.{refl}
use Rattle.judging.specs.Computed.Leads.{lead_rule}
use Rattle.judging.proofs.lead_rule.Goals as goal

pub returns : goal.returns
unfolding lead_rule
returns c = rw (c.first_lead.ensures, c.lead_checks.ensures) refl
