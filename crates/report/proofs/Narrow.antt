-- Document 02 (g): "Old papers whose values all lie within 32 bits give their old verdicts", and their memories, listing, order and records.
use Prim.Native.Nat.{ℕ}
use mathlib.Core.Path.{◌≡◌}
use mathlib.Core.List.{List}
use mathlib.Core.Logic.{◌⊎◌, inl, inr}
use Rattle.rules.specs.Limits.{full}
use Rattle.rules.specs.Widths.{narrow, AllWithin}
use Rattle.marking.specs.Marking.{lines_in, read_in}
use Rattle.marking.specs.Narrow.{MarkedWithin, SameMarked, Widened}
use Rattle.marking.proofs.Narrow.{same_marked, same_read, narrow_or_wider}
use Rattle.report.specs.Same.{SameReport}
use Rattle.report.proofs.Same.{same_report}

-- A paper whose values all lie within 32 bits. The rows that are room for its records hold the same too, refused or not.
pub old_papers : (s : List ℕ) → AllWithin narrow.width (lines_in full s) → SameReport narrow s × (read_in narrow s ≡ read_in full s)
old_papers s a = (same_report narrow s (same_marked s a), same_read s a)

-- Any paper. What is marked lies within 32 bits, and the paper has the report that values of 32 bits give; or with these it is refused with 4 at the
-- first value outside them, and is marked by its events from that line on.
pub every_paper : (s : List ℕ) → (MarkedWithin s × SameReport narrow s) ⊎ Widened s
every_paper s = by (narrow_or_wider s)
  where
    by : SameMarked s ⊎ Widened s → (MarkedWithin s × SameReport narrow s) ⊎ Widened s
    by (inl r) = inl (r.fitting, same_report narrow s r.alike)
    by (inr r) = inr r
