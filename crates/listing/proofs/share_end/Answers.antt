-- `listing::share_end` meets its contract: the number, and then the end.
use mathlib.Core.List.{[], ◌∷◌}
use native.Mathlib.Omega.{arith}
use Rattle.decimal.specs.Text.{natural_text}
use Rattle.decimal.proofs.TextLaws.{text_short, wrote_most, wrote_within, wrote_both}
use Rattle.listing.proofs.share_end.Goals as goal

starts : goal.slice_bounds-write_byte-count
starts c =
    let a = c.args in
    wrote_within 32 (47 ∷ natural_text a.b) a.out.now _ _ (omega (arith, text_short a.b)) c.write_number-m.ensures

pub slice_bounds-write_byte-count : goal.slice_bounds-write_byte-count
slice_bounds-write_byte-count c = starts c

pub slice_bounds-write_byte-start : goal.slice_bounds-write_byte-start
slice_bounds-write_byte-start c = starts c

pub overflow_add-result : goal.overflow_add-result
overflow_add-result c =
    let b = c.args.b in
    omega (arith, wrote_most 32 (47 ∷ natural_text b) _ _ _ (omega (arith, text_short b)) c.write_number-m.ensures, wrote_most 1 (10 ∷ []) _ _ _ (omega arith) c.write_byte-n.ensures)

pub returns : goal.returns
returns c =
    wrote_both 32 1 (47 ∷ natural_text c.args.b) (10 ∷ []) c.args.out.now _ _ _ _ (omega (arith, text_short c.args.b)) c.requires c.write_number-m.ensures c.write_byte-n.ensures
