-- Document 02 (i): the listing of a paper before waiting and notification. proofs/Ten.antt proves that a paper without Y, F and C has it.
use Rattle.std.specs.Prelude.{ℕ, List, [], ◌∷◌, ◌++◌, reverse, length}
use Rattle.rules.specs.declared.Event.{Event}
use Rattle.rules.specs.Limits.{full}
use Rattle.rules.specs.Memories.{memory, copies}
use Rattle.rules.specs.Rules.{number_in, line_in, on_marked}
use Rattle.rules.specs.Ten.{ten_words_of}
use Rattle.trace.specs.Trace.{trace_of, head_in, guards_in}
use Rattle.marking.specs.Ten.{ten_of, past_ten_of}
use Rattle.sections.specs.Ten.{ten_denial, ten_order}
use Rattle.listing.specs.Listing.{refused_line, text_of, state_lines, section_lines}
use Rattle.ordering.specs.Answer.{guard_of, on_guards}
use Rattle.report.specs.Report.{denial_lines}

-- as `events_in`, `order_lines`, `memory_lines`, `listing_with`, `listing_of` and `brief_of`
unfoldable pub ten_events_in : List ℕ → List Event
ten_events_in s = reverse (past_ten_of s)

unfoldable pub ten_order_lines : List ℕ → List (List ℕ)
ten_order_lines s =
    on_guards (guards_in (trace_of full s))
    (λ locks. denial_lines (ten_denial (head_in (trace_of full s)) (guard_of locks) (ten_events_in s)) (section_lines (ten_order (head_in (trace_of full s)) (ten_events_in s)))) []

unfoldable pub ten_memory_lines : List ℕ → List (List ℕ)
ten_memory_lines s = state_lines (length (ten_events_in s)) (memory (head_in (trace_of full s)) (ten_words_of (past_ten_of s))) (copies (head_in (trace_of full s)) (ten_words_of (past_ten_of s)))

unfoldable pub ten_listing_with : List ℕ → List (List ℕ) → List ℕ
ten_listing_with s ends = text_of (on_marked (ten_of s) (ten_memory_lines s ++ ends) (refused_line (line_in (ten_of s)) (number_in (ten_of s)) ∷ []))

unfoldable pub ten_listing_of : List ℕ → List ℕ
ten_listing_of s = ten_listing_with s (ten_order_lines s)

unfoldable pub ten_brief_of : List ℕ → List ℕ
ten_brief_of s = ten_listing_with s []
