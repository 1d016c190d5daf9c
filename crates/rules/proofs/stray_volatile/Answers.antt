use Rattle.std.proofs.Common.{rules, refl, ◌≡◌, ◌∙◌, tests, length}
use Rattle.std.proofs.lemmas.Iterator.{YieldsList-from_slice}
use Rattle.std.proofs.lemmas.Iterator.Adapters.{YieldsList-from_skip}
use Rattle.std.proofs.lemmas.Iterator.Search.{any_from_yields_List}
use Rattle.rules.specs.Limits.{volatile, stray_volatile}
use Rattle.rules.proofs.Flags.{any_from}
use Rattle.rules.proofs.stray_volatile.Goals as goal

pub returns : goal.returns
unfolding volatile stray_volatile
returns c =
    let h = c.args.h in
    let e = any_from_yields_List (λ b. b) _ _ c.any.result c.any.ensures.ran (YieldsList-from_skip h.variables (YieldsList-from_slice h.volatiles cc) (search rules)) (λ x b q k. search (rules, tests)) in
    let n : length h.volatiles ≡ 16 = search rules in
    e ∙ any_from h.variables h.volatiles ∙ rw n refl
