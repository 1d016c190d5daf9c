use Rattle.std.proofs.Common.{rules, ◌≡◌, ◌∙◌, tests, length, arith, get_or, leb, false, ◌&&◌}
use Rattle.std.proofs.lemmas.Iterator.{YieldsList-from_slice}
use Rattle.std.proofs.lemmas.Iterator.Search.{any_from_yields_List}
use Rattle.rules.specs.Limits.{volatile, any_volatile}
use Rattle.rules.proofs.Laws.{some_ext}
use Rattle.rules.proofs.Flags.{any_from}
use borrow.Author.Tests.{le-leb}
use Rattle.rules.proofs.any_volatile.Goals as goal

pub returns : goal.returns
unfolding volatile any_volatile
returns c =
    let flags = c.args.h.volatiles in
    let e = any_from_yields_List (λ b. b) _ _ c.any.result c.any.ensures.ran (YieldsList-from_slice flags cc) (λ x b q k. search (rules, tests)) in
    let n : length flags ≡ 16 = search rules in
    e ∙ any_from 0 flags ∙ rw n (some_ext 16 (λ i. leb 0 i && get_or flags i false) (λ i. get_or flags i false) (λ i k. rw (le-leb 0 i (omega arith))))
