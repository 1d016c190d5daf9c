-- `state::queues_ok` meets its contract.
use Rattle.std.proofs.Common.{rules, tests, arith, ◌≡◌, ◌∙◌, ℕ, get_or, length, ap}
use Rattle.std.specs.Prelude.{◌&&◌}
use Rattle.std.specs.List.{enumerate_from}
use Rattle.std.proofs.lemmas.Iterator.{YieldsList-from_slice}
use Rattle.std.proofs.lemmas.Iterator.Consumers.{YieldsList-from_enumerate}
use Rattle.std.proofs.lemmas.Iterator.Search.{all_from_yields_List}
use Rattle.std.proofs.lemmas.List.FromFn.{get_or-enumerate_from, length-enumerate_from}
use Rattle.state.specs.State.{blank}
use Rattle.state.specs.Range.{queue_ok, queues_ok}
use Rattle.state.specs.declared.Cell.{Cell}
use Rattle.state.proofs.LeafLaws.{every_of, every_ext, every_both}
use Rattle.state.proofs.queues_ok.Goals as goal

pub returns : goal.returns
unfolding queues_ok
returns c =
    let s = c.args.s.now in
    let n : length s.cells ≡ 128 = search rules in
    let f = λ (p : ℕ × Cell). queue_ok s.events s.reads p.0 p.1.reads && queue_ok s.events s.stores p.0 p.1.stores in
    all_from_yields_List f _ _ c.all.result c.all.ensures.ran (YieldsList-from_enumerate {s = c.enumerate.result} (YieldsList-from_slice {s = c.enumerate.result.iter} s.cells (search rules)) (search rules)) (λ x b q k. search (rules, tests))
    ∙ every_of f (enumerate_from 0 s.cells) (0, blank) 128 (omega (arith, length-enumerate_from 0 s.cells))
    ∙ every_ext 128 _ (λ i. f (i, get_or s.cells i blank)) (λ i h. ap f (get_or-enumerate_from 0 s.cells i (0, blank) (omega arith) ∙ ap (λ (k : ℕ). (k, get_or s.cells i blank)) (omega arith)))
    ∙ every_both 128 (λ i. queue_ok s.events s.reads i (get_or s.cells i blank).reads) (λ i. queue_ok s.events s.stores i (get_or s.cells i blank).stores)
