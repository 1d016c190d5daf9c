-- `state::holds_ok` meets its contract.
use Rattle.std.proofs.Common.{rules, tests, ◌∙◌}
use Rattle.std.proofs.lemmas.Iterator.{YieldsList-from_slice}
use Rattle.std.proofs.lemmas.Iterator.Search.{all_from_yields_List}
use Rattle.state.specs.Range.{hold_ok, holds_ok}
use Rattle.state.specs.State.{no_hold}
use Rattle.state.proofs.LeafLaws.{every_of}
use Rattle.state.proofs.holds_ok.Goals as goal

pub returns : goal.returns
unfolding holds_ok
returns c =
    let s = c.args.s.now in
    all_from_yields_List (hold_ok s.counts.threads s.events) _ _ c.all.result c.all.ensures.ran (YieldsList-from_slice {s = c.iter.result} s.holds (search rules)) (λ x b q k. search (rules, tests))
    ∙ every_of (hold_ok s.counts.threads s.events) s.holds no_hold 8 (search rules)
