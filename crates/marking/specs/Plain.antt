-- Document 02 (f): a whole paper marked without the `V` line and the volatile rules, for the theorem that a paper without the line keeps its verdict.
use Rattle.std.specs.Prelude.{ℕ, List, []}
use Rattle.rules.specs.declared.Event.{Event}
use Rattle.rules.specs.Rules.{Marked, told, refused_or}
use Rattle.rules.specs.Plain.{full_plain, mark_plain, past_plain}
use Rattle.trace.specs.Trace.{trace_of, head_in}
use Rattle.marking.specs.Marking.{lines_in}

-- as `marked_of` and `past_of`, with what stands behind the guards as the events, and no 26 to 28 in the rows
unfoldable pub plain_of : List ℕ → Marked
plain_of s = refused_or (told (trace_of full_plain s)) (mark_plain full_plain (head_in (trace_of full_plain s)) [] (lines_in full_plain s))

unfoldable pub past_plain_of : List ℕ → List Event
past_plain_of s = past_plain full_plain (head_in (trace_of full_plain s)) [] (lines_in full_plain s)
