-- The lines about an order, from what is said of it, and the report of a refused trace.
use Rattle.std.specs.Prelude.{ℕ, cond, List, [], ◌∷◌, leb, length, take, Err}
use Rattle.listing.specs.Listing.{unordered_line, entry_lines}
use Rattle.rules.specs.declared.Refusal.{Refusal}
use Rattle.report.specs.declared.Report.{Report}
use Rattle.ordering.specs.declared.Ordering.{Ordering}
use Rattle.ordering.specs.declared.Ordering.TheVariants.{Ordered, Unordered, NoOrder}

-- the lines about an order that is given in this list
unfoldable pub ordering_lines : Ordering → List ℕ → List (List ℕ)
ordering_lines (Ordered c) list = cond (leb c (length list)) (entry_lines (take c list)) []
ordering_lines (Unordered r) list = unordered_line r.line r.number ∷ []
ordering_lines NoOrder list = []

-- the report of a trace that is refused
abbrev pub refused_report : Refusal → ℕ → Report
refused_report r written = record { verdict = Err r; events = 0; ordering = NoOrder; written = written }
