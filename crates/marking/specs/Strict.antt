-- Document 02 (d): a whole paper marked with 16 at N, and so at Y, as document 01 has it, for the theorem that no other verdict changes.
use Rattle.std.specs.Prelude.{ℕ, List, []}
use Rattle.rules.specs.declared.Event.{Event}
use Rattle.rules.specs.Limits.{Limits}
use Rattle.rules.specs.Rules.{Marked, told, refused_or}
use Rattle.rules.specs.PrescientStores.{mark_strict, past_strict}
use Rattle.trace.specs.Trace.{trace_of, head_in}
use Rattle.marking.specs.Marking.{lines_in}

-- as `marked_of` and `past_of`, with every outstanding store counted at N and Y
unfoldable pub strict_of : Limits → List ℕ → Marked
strict_of m s = refused_or (told (trace_of m s)) (mark_strict m (head_in (trace_of m s)) [] (lines_in m s))

unfoldable pub past_strict_of : Limits → List ℕ → List Event
past_strict_of m s = past_strict m (head_in (trace_of m s)) [] (lines_in m s)
