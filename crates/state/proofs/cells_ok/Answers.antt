-- `state::cells_ok` meets its contract.
use Rattle.std.proofs.Common.{rules, tests, ◌∙◌}
use Rattle.std.proofs.lemmas.Iterator.{YieldsList-from_slice}
use Rattle.std.proofs.lemmas.Iterator.Search.{all_from_yields_List}
use Rattle.state.specs.Range.{cell_ok, cells_ok}
use Rattle.state.specs.State.{blank}
use Rattle.state.proofs.LeafLaws.{every_of}
use Rattle.state.proofs.cells_ok.Goals as goal

pub returns : goal.returns
unfolding cells_ok
returns c =
    let s = c.args.s.now in
    all_from_yields_List (cell_ok s.events) _ _ c.all.result c.all.ensures.ran (YieldsList-from_slice {s = c.iter.result} s.cells (search rules)) (λ x b q k. search (rules, tests))
    ∙ every_of (cell_ok s.events) s.cells blank 128 (search rules)
