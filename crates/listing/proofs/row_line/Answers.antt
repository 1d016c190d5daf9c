-- `listing::row_line` meets its contract: a line's room is enough for the word and the numbers. Assumes nothing.
use mathlib.Core.Path.{refl}
use native.Mathlib.Omega.{arith}
use Rattle.decimal.specs.Text.{word_row, ended}
use Rattle.decimal.proofs.TextLaws.{wrote_none, wrote_line}
use Rattle.listing.specs.Listing.{line_room}
use Rattle.listing.proofs.row_line.Goals as goal

pub returns-then-out-lt-LINE_ROOM : goal.returns-then-out-lt-LINE_ROOM
returns-then-out-lt-LINE_ROOM c =
    let a = c.args in
    wrote_none line_room (ended (word_row a.word.now a.ns.now)) a.out.now c.if-out-lt-LINE_ROOM.true

pub returns : goal.returns
returns c =
    let a = c.args in
    wrote_line _ line_room _ (ended (word_row a.word.now a.ns.now)) a.out.now _ _ (omega arith) (omega arith) refl c.write_row_line.ensures
