-- `lines::field` meets its contract.
use Rattle.std.proofs.Common.{rules, tests, ◌∙◌, refl, ap, nat_eq, ℕ, List}
use denote.Bor.{Bor}
use Rattle.std.proofs.lemmas.Iterator.Consumers.{nth_from_yields_List}
use Rattle.std.proofs.lemmas.Iterator.Splits.{YieldsList-from_slice_split}
use Rattle.lines.proofs.StdLaws.{piece}
use Rattle.lines.proofs.field.Goals as goal

pub returns : goal.returns
returns c =
    let s = c.args.s.now in
    ap (λ (f : Bor (List ℕ)). f.now) c.unwrap_or.ensures
    ∙ piece 32 c.args.j s (λ f. f.now) _ c.nth.result refl
    (nth_from_yields_List c.nth.result _ c.args.j c.nth.ensures.ran
    (YieldsList-from_slice_split _ (λ x. nat_eq x 32) s c.split.ensures.rest c.split.ensures.done c.split.ensures.closure (λ x b q k. search (rules, tests))))
