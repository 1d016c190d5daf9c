-- `listing::write_main` meets its contract: the value is that of the field. Assumes nothing.
use mathlib.Core.Path.{ap}
use mathlib.Core.List.{List}
use Prim.Native.Nat.{ℕ}
use lib.IntN.{ℤ}
use mir.Val.{to_z, of_z}
use mir.ValLaws.{to_z-of_z}
use Rattle.rules.specs.Limits.{value_width}
use Rattle.decimal.specs.Text.{ended, room}
use Rattle.decimal.proofs.TextLaws.{wrote_same}
use Rattle.listing.specs.Listing.{main_line, line_room}
use borrow.Author.Rules.{rules}
use Rattle.listing.proofs.write_main.Goals as goal

pub returns : goal.returns
returns c =
    let a = c.args in
    let f : ℤ → List ℕ → List ℕ = λ x. room line_room (ended (main_line a.v x)) in
    wrote_same (f (to_z value_width (of_z value_width a.m.value))) (f a.m.value) a.out.now _ _ (ap f (to_z-of_z value_width a.m.value (search rules))) c.value_line.ensures
