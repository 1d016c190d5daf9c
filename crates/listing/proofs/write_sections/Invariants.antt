-- `listing::write_sections` meets its contract: after i turns the first i sections are listed. Assumes nothing.
use lib.ListN.{length, take}
use Rattle.listing.specs.Listing.{entry_lines}
use Rattle.listing.proofs.LineLaws.{Listed}
use Rattle.listing.proofs.write_sections.Given as goal

abbrev pub invariant-loop-w : goal.invariant-loop-w
invariant-loop-w l = Listed (λ k. entry_lines (take k l.entries)) (length l.entries) l.initial.out l.w-index l.a l.out
