-- `tail_text::write_record` meets its contract: the line of the event that the record names. Assumes nothing.
use mathlib.Core.Path.{refl, ap}
use mir.Val.{of_z, to_z}
use Rattle.rules.specs.Limits.{value_width}
use Rattle.decimal.specs.Text.{room}
use Rattle.decimal.proofs.TextLaws.{wrote_same}
use Rattle.tail_text.specs.Computed.Rows.{line_room}
use Rattle.tail_text.proofs.RowTexts.{text_none, text_some}
use borrow.Author.Rules.{rules}
use Rattle.tail_text.proofs.write_record.Goals as goal

pub returns-in_default : goal.returns-in_default
returns-in_default c =
    let a = c.args in
    text_none a.what a.value (to_z value_width (of_z value_width a.value)) _ _ _ _ (search rules) refl c.place_in-place.ensures c.letter_in.ensures c.kind_of.ensures c.in_default.is a.out.now

pub returns : goal.returns
returns c =
    let a = c.args in
    let w = c.write_event in
    wrote_same _ (room line_room _) a.out.now w.new.out w.result (ap (room line_room) (text_some a.what a.value (to_z value_width (of_z value_width a.value)) _ _ _ _ (search rules) c.thread_in.ensures c.place_in-place.ensures c.letter_in.ensures c.kind_of.ensures _ c.in-Some.is)) w.ensures
