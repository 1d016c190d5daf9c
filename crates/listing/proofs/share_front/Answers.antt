-- `listing::share_front` meets its contract: the word, and then the number.
use mathlib.Core.List.{List, [], ◌∷◌}
use Prim.Native.Nat.{ℕ}
use native.Mathlib.Omega.{arith}
use Rattle.decimal.specs.Text.{natural_text}
use Rattle.decimal.proofs.TextLaws.{text_short, wrote_most, wrote_within, wrote_both}
use Rattle.listing.proofs.share_front.Goals as goal

-- `share`
abbrev word : List ℕ
word = 115 ∷ 104 ∷ 97 ∷ 114 ∷ 101 ∷ []

starts : goal.slice_bounds-write_number-count
starts c = wrote_within 5 word c.args.out.now _ _ (omega arith) c.write_bytes-m.ensures

pub slice_bounds-write_number-count : goal.slice_bounds-write_number-count
slice_bounds-write_number-count c = starts c

pub slice_bounds-write_number-start : goal.slice_bounds-write_number-start
slice_bounds-write_number-start c = starts c

pub overflow_add-result : goal.overflow_add-result
overflow_add-result c =
    let a = c.args.a in
    omega (arith, wrote_most 5 word _ _ _ (omega arith) c.write_bytes-m.ensures, wrote_most 32 (32 ∷ natural_text a) _ _ _ (omega (arith, text_short a)) c.write_number-n.ensures)

pub returns : goal.returns
returns c =
    wrote_both 5 32 word (32 ∷ natural_text c.args.a) c.args.out.now _ _ _ _ (omega arith) c.requires c.write_bytes-m.ensures c.write_number-n.ensures
