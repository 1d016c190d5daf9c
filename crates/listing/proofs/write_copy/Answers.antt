-- `listing::write_copy` meets its contract: the line where the copy is usable, and else nothing. Assumes nothing.
use borrow.Author.Tests.{not-true, not-false}
use mathlib.Core.Path.{ap}
use mathlib.Core.List.{List, []}
use Prim.Native.Nat.{ℕ}
use borrow.Author.Rules.{rules}
use lib.IntN.{ℤ}
use mir.Val.{to_z, of_z}
use mir.ValLaws.{to_z-of_z}
use Rattle.rules.specs.Limits.{value_width}
use Rattle.decimal.specs.Text.{ended, room}
use Rattle.decimal.proofs.TextLaws.{wrote_same}
use Rattle.listing.specs.Listing.{copy_line, line_room}
use Rattle.listing.proofs.LineLaws.{wrote_one, wrote_nothing, wrote_as}
use Rattle.listing.proofs.ListLaws.{copy_there, copy_not}
use Rattle.listing.proofs.write_copy.Goals as goal

pub returns-then-not-c : goal.returns-then-not-c
returns-then-not-c c =
    let a = c.args in
    wrote_as [] _ a.out.now a.out.now 0 (copy_not a.t a.v a.c (not-true _ c.if-not-c.true)) (wrote_nothing a.out.now)

pub returns : goal.returns
returns c =
    let a = c.args in
    let f : ℤ → List ℕ → List ℕ = λ x. room line_room (ended (copy_line (record { thread = a.t; variable = a.v; value = x }))) in
    let w = wrote_same (f (to_z value_width (of_z value_width a.c.value))) (f a.c.value) a.out.now _ _ (ap f (to_z-of_z value_width a.c.value (search rules))) c.value_line.ensures in
    wrote_as _ _ a.out.now _ _ (copy_there a.t a.v a.c (not-false _ c.if-not-c.false)) (wrote_one _ a.out.now _ _ w)
