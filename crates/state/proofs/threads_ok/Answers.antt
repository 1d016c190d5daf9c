-- `state::threads_ok` meets its contract.
use Rattle.std.proofs.Common.{rules, tests, arith, ◌≡◌, ◌∙◌, ℕ, length, ap}
use Rattle.std.specs.Prelude.{◌&&◌, leb}
use Rattle.std.specs.List.{zip}
use Rattle.std.proofs.lemmas.Iterator.{YieldsList-from_slice, YieldsList-from_zip}
use Rattle.std.proofs.lemmas.Iterator.Search.{all_from_yields_List}
use Rattle.std.proofs.lemmas.Slice.Zip.{get_or-zip, length-zip}
use Rattle.state.specs.Range.{wait_ok, threads_ok}
use Rattle.state.specs.State.{no_wait}
use Rattle.state.specs.declared.Waiting.{Waiting}
use Rattle.state.proofs.LeafLaws.{every_of, every_ext}
use Rattle.state.proofs.threads_ok.Goals as goal

pub returns : goal.returns
unfolding threads_ok
returns c =
    let s = c.args.s.now in
    let n : length s.waits ≡ 8 = search rules in
    let m : length s.locked ≡ 8 = search rules in
    let f = λ (p : Waiting × ℕ). wait_ok s.counts.locks s.events p.0 && leb p.1 s.events in
    all_from_yields_List f c.all.new.self _ c.all.result c.all.ensures.ran (YieldsList-from_zip {s = c.zip.result} (YieldsList-from_slice {s = c.zip.result.a} s.waits (search rules)) (YieldsList-from_slice {s = c.zip.result.b} s.locked (search rules))) (λ x b q k. search (rules, tests))
    ∙ every_of f (zip s.waits s.locked) (no_wait, 0) 8 (omega (arith, length-zip s.waits s.locked))
    ∙ every_ext 8 _ _ (λ i h. ap f (get_or-zip s.waits s.locked i (no_wait, 0) (omega arith) (omega arith)))
