-- `event_rows::fill_lines` meets its contract: the places up to i are written.
use mathlib.Core.Path.{◌≡◌}
use Rattle.event_rows.proofs.FillLaws.{front}
use Rattle.event_rows.proofs.fill_lines.Given as goal

abbrev pub invariant-loop-i : goal.invariant-loop-i
invariant-loop-i l = l.records ≡ front l.line l.what l.value l.fn.records l.i
