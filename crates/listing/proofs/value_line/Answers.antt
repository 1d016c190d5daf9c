-- `listing::value_line` meets its contract: a line's room is enough for the word, the numbers and the value. Assumes nothing.
use mathlib.Core.Path.{ap}
use mathlib.Core.List.{List}
use Prim.Native.Nat.{ℕ, ◌+◌, ◌*◌}
use native.Mathlib.Omega.{arith}
use lib.IntN.{ℤ}
use lib.ListN.{length}
use mir.ValLaws.{to_z-of_z}
use Rattle.rules.specs.Limits.{value_width}
use Rattle.decimal.specs.Text.{word_value, ended}
use Rattle.decimal.proofs.TextLaws.{wrote_none, wrote_line}
use Rattle.listing.specs.Listing.{line_room}
use Rattle.listing.proofs.value_line.Goals as goal

pub returns-then-out-lt-LINE_ROOM : goal.returns-then-out-lt-LINE_ROOM
returns-then-out-lt-LINE_ROOM c =
    let a = c.args in
    wrote_none line_room (ended (word_value a.word.now a.ns.now a.x)) a.out.now c.if-out-lt-LINE_ROOM.true

pub returns : goal.returns
returns c =
    let a = c.args in
    let f : ℤ → List ℕ = λ x. ended (word_value a.word.now a.ns.now x) in
    wrote_line (length a.word.now + 32 * length a.ns.now + 33) line_room _ (f a.x) a.out.now _ _ (omega arith) (omega arith) (ap f (to_z-of_z value_width a.x c.ranges.x)) c.write_value_line.ensures
