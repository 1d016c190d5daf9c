-- `finishing::Rows::any_new` meets its contract. Assumes nothing.
use Prim.Native.Nat.{ℕ}
use borrow.Author.Rules.{rules}
use borrow.Author.Tests.{tests}
use mathlib.Core.Path.{ap, ◌∙◌}
use mathlib.Core.List.{List}
use Rattle.std.specs.List.{list_any}
use Rattle.std.proofs.lemmas.Iterator.{YieldsList-from_slice}
use Rattle.std.proofs.lemmas.Iterator.Search.{any_from_yields_List}
use Rattle.records.specs.Records.{letter_in}
use Rattle.finishing.specs.Computed.Parts.{any_new, new_letter}
use Rattle.finishing.proofs.Scans.{whats_are}
use Rattle.finishing.proofs.Rows.any_new.Goals as goal

pub returns : goal.returns
unfolding any_new
returns c =
    let rows = c.self.inside in
    let test = λ (w : ℕ). new_letter (letter_in w) in
    any_from_yields_List test _ _ c.any.result c.any.ensures.ran (YieldsList-from_slice rows.what.now cc) (λ x b q k. search (rules, tests))
    ∙ ap (λ (ws : List ℕ). list_any test ws) (whats_are rows.what.now rows.value.now c.args.self.now c.self.view_is c.self.invariant.0)
