-- `finishing::Out::put_fresh` meets its contract. Assumes nothing.
use borrow.Author.Rules.{rules}
use mathlib.Core.Bool.{cond}
use Rattle.std.proofs.lemmas.Bool.{not-true, not-false}
use mathlib.Core.List.{[], ◌∷◌}
use mir.ValLaws.{to_z-of_z}
use Rattle.rules.specs.Events.{A, S, W}
use Rattle.rules.specs.Limits.{value_width}
use Rattle.finishing.specs.Computed.Parts.{entry_of, storing, assigning}
use Rattle.finishing.specs.Computed.Filled.{Adds}
use Rattle.finishing.proofs.Adding.{adds_none, adds_then, adds_entry, adds_to}
use Rattle.finishing.proofs.Out.put_fresh.Goals as goal
use Rattle.finishing.proofs.Out.put_fresh.Goals.{then-not-copy, else-not-copy}

pub returns : goal.returns
unfolding assigning storing
returns c =
    let a = c.args in
    let t = a.key.thread in
    let p = a.key.place in
    let q = to_z-of_z value_width a.copy.value (search rules) in
    let assign : Adds (cond a.copy.usable [] (entry_of A t p a.copy.value ∷ [])) a.self.now c.if-not-copy.self =
    elim c.if-not-copy.branch [
      | then-not-copy w ↦ let u = not-true a.copy.usable w.if-not-copy.true in rw u (adds_to w.self-is (adds_entry (entry_of A t p) w.entry.ensures q w.put.ensures))
      | else-not-copy w ↦ let u = not-false a.copy.usable w.if-not-copy.false in rw u (adds_to w.self-is (adds_none a.self.now))
    ] in
    adds_then assign (adds_then (adds_entry (entry_of S t p) c.entry-2.ensures q c.put-2.ensures) (adds_entry (entry_of W t p) c.entry-3.ensures q c.put-3.ensures))
