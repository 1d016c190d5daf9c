-- The lines about an order.
use Prim.Native.Nat.{ℕ, ◌≤◌, ◌<◌}
use native.Mathlib.Omega.{arith}
use mathlib.Core.Path.{◌≡◌, sym, ap}
use mathlib.Core.Bool.{Bool, true, false, cond}
use mathlib.Core.List.{List, [], ◌∷◌, map}
use lib.Dec.{leb}
use lib.ListN.{length, take}
use borrow.Author.Tests.{le-leb, lt-leb}
use Rattle.serial.specs.Lists.{All}
use Rattle.listing.specs.Listing.{entry_lines}
use Rattle.listing.proofs.LineLaws.{Fits, row_fits}
use Rattle.listing.proofs.ListLaws.{fit_sections}
use Rattle.sections.specs.Entries.{entry_in}
use Rattle.ordering.specs.declared.Ordering.{Ordering}
use Rattle.ordering.specs.declared.Ordering.TheVariants.{Ordered, Unordered, NoOrder}
use Rattle.report.specs.Computed.Parts.{ordering_lines}

-- no line is longer than a line's room
pub fit_order : (o : Ordering) (list : List ℕ) → All Fits (ordering_lines o list)
unfolding ordering_lines
fit_order (Ordered c) list = by (leb c (length list))
  where
    by : (b : Bool) → All Fits (cond b (entry_lines (take c list)) [])
    by true = fit_sections (map entry_in (take c list))
    by false = tt
fit_order (Unordered r) list = (row_fits _ (r.line ∷ r.number ∷ []) (omega arith) (omega arith), tt)
fit_order NoOrder list = tt

pub lines_ordered : (c : ℕ) (list : List ℕ) → c ≤ length list → entry_lines (take c list) ≡ ordering_lines (Ordered c) list
unfolding ordering_lines
lines_ordered c list h = sym (ap (λ (b : Bool). cond b (entry_lines (take c list)) []) (le-leb c (length list) h))

pub lines_short : (c : ℕ) (list : List ℕ) → length list < c → [] ≡ ordering_lines (Ordered c) list
unfolding ordering_lines
lines_short c list h = sym (ap (λ (b : Bool). cond b (entry_lines (take c list)) []) (lt-leb c (length list) h))
