-- `ordering::fill` meets its contract: one turn of the loop is one event more. Assumes nothing.
use mathlib.Core.Path.{◌≡◌}
use lib.ListN.{length}
use Rattle.ordering.proofs.Filling.{Filling}
use Rattle.ordering.proofs.fill.Given as goal

abbrev pub invariant-loop-i : goal.invariant-loop-i
invariant-loop-i l = Filling l.rows.head l.rows.what.now l.rows.value.now l.holds l.scratch l.begun l.n l.i × (length l.scratch ≡ length l.initial.scratch)
