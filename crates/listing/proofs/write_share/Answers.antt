-- `listing::write_share` meets its contract: the line in two parts.
use mathlib.Core.List.{◌∷◌}
use native.Mathlib.Omega.{arith}
use Rattle.decimal.specs.Text.{natural_text, ended}
use Rattle.decimal.proofs.TextLaws.{rest_length, wrote_none, wrote_line, wrote_most, wrote_length, wrote_within, wrote_both}
use Rattle.listing.specs.Listing.{share_front, share_line, line_room}
use Rattle.listing.proofs.LineLaws.{front_short, end_short, share_parts}
use Rattle.listing.proofs.write_share.Goals as goal

pub returns-then-out-lt-LINE_ROOM : goal.returns-then-out-lt-LINE_ROOM
returns-then-out-lt-LINE_ROOM c =
    let a = c.args in
    wrote_none line_room (ended (share_line a.a a.b)) a.out.now c.if-out-lt-LINE_ROOM.true

starts : goal.slice_bounds-share_end-count
starts c =
    let a = c.args in
    wrote_within 37 (share_front a.a) a.out.now _ _ (front_short a.a) c.share_front-m.ensures

pub slice_bounds-share_end-count : goal.slice_bounds-share_end-count
slice_bounds-share_end-count c = starts c

pub slice_bounds-share_end-start : goal.slice_bounds-share_end-start
slice_bounds-share_end-start c = starts c

pub share_end-n-requires : goal.share_end-n-requires
share_end-n-requires c =
    let v = c.share_front-m in
    let a = c.args.a in
    omega (arith, wrote_most 37 (share_front a) _ _ _ (front_short a) v.ensures, wrote_length 37 (share_front a) _ _ _ (front_short a) v.ensures, rest_length v.result v.new.out)

pub overflow_add-result : goal.overflow_add-result
overflow_add-result c =
    let a = c.args in
    omega (arith, wrote_most 37 (share_front a.a) _ _ _ (front_short a.a) c.share_front-m.ensures, wrote_most 33 (ended (47 ∷ natural_text a.b)) _ _ _ (end_short a.b) c.share_end-n.ensures)

pub returns : goal.returns
returns c =
    let a = c.args in
    let w = wrote_both 37 33 (share_front a.a) (ended (47 ∷ natural_text a.b)) a.out.now _ _ _ _ (front_short a.a) (omega arith) c.share_front-m.ensures c.share_end-n.ensures in
    wrote_line 70 line_room _ (ended (share_line a.a a.b)) a.out.now _ _ (omega arith) (omega arith) (share_parts a.a a.b) w
