-- Document 02 (g): "Old papers whose values all lie within 32 bits give their old verdicts; a paper refused with 4 for a value within 64 bits is now
-- marked by its events."
use Prim.Native.Nat.{ℕ}
use native.Mathlib.Omega.{arith}
use mathlib.Core.Path.{◌≡◌, refl, sym, ap, subst, ◌∙◌}
use mathlib.Core.List.{List, [], map, reverse, reverse-reverse}
use mathlib.Core.Bool.{true, false, false≢true}
use mathlib.Core.Logic.{◌⊎◌, inl, inr}
use mathlib.Core.Option.{none, some}
use lib.Dec.{T}
use lib.ListN.{length, get_or, length-reverse}
use Rattle.rules.specs.declared.Event.{Event}
use Rattle.rules.specs.declared.Counts.{Counts}
use Rattle.rules.specs.Events.{value}
use Rattle.rules.specs.Limits.{full, first_line, line_after}
use Rattle.rules.specs.Rules.{Accepted, Marked, accepted, refused, answer, verdict, told, refused_or, mark_read, past_read}
use Rattle.rules.specs.Widths.{narrow, fits, narrowed, AllWithin}
use Rattle.rules.proofs.Readings.{past_accepted}
use Rattle.rules.proofs.Widths.{all_within, within_at, Same, Wider, narrowed_marked}
use Rattle.trace.specs.Trace.{trace_of, events_of, head_in}
use Rattle.events.specs.Events.{part_lines}
use Rattle.events.proofs.WidthLaws.{readings_narrowed}
use Rattle.marking.specs.Marking.{lines_in, marked_of, past_of, events_in, read_in}
use Rattle.marking.specs.Courses.{MarkedAlike}
use Rattle.marking.specs.Narrow.{SameMarked, Widened}
use Rattle.marking.proofs.Whole.{none_unfound}
use Rattle.marking.proofs.FullWith.{trace_with, read_with}

-- ---- the width changes the lines alone

pub narrow_trace : (s : List ℕ) → trace_of narrow s ≡ trace_of full s
narrow_trace s = trace_with narrow.scratch narrow.width s

pub narrow_lines : (s : List ℕ) → lines_in narrow s ≡ map (narrowed narrow.width) (lines_in full s)
unfolding lines_in
narrow_lines s = rw (narrow_trace s) (readings_narrowed narrow.width (omega arith) (omega arith) (first_line (head_in (trace_of full s))) (part_lines (events_of s (trace_of full s))))

narrow_marked : (s : List ℕ) → marked_of narrow s ≡ refused_or (told (trace_of full s)) (mark_read full (head_in (trace_of full s)) [] (map (narrowed narrow.width) (lines_in full s)))
unfolding marked_of mark_read verdict answer
narrow_marked s = rw (narrow_trace s, narrow_lines s) refl

narrow_past : (s : List ℕ) → past_of narrow s ≡ past_read full (head_in (trace_of full s)) [] (map (narrowed narrow.width) (lines_in full s))
unfolding past_of past_read verdict answer
narrow_past s = rw (narrow_trace s, narrow_lines s) refl

-- ---- papers whose values all lie within 32 bits

pub same_marked : (s : List ℕ) → AllWithin narrow.width (lines_in full s) → MarkedAlike narrow s
unfolding marked_of past_of
same_marked s a = record {
  trace = narrow_trace s;
  marked = narrow_marked s ∙ rw (all_within narrow.width (lines_in full s) a) refl;
  past = narrow_past s ∙ rw (all_within narrow.width (lines_in full s) a) refl;
}

pub same_read : (s : List ℕ) → AllWithin narrow.width (lines_in full s) → read_in narrow s ≡ read_in full s
unfolding read_in
same_read s a = rw (narrow_lines s, all_within narrow.width (lines_in full s) a) (read_with narrow.scratch narrow.width true 0 (lines_in full s))

-- ---- every paper

-- With values of 32 bits a paper has the same verdict after the same events, or 4 at the first line whose value lies outside 32 bits.
pub narrow_or_wider : (s : List ℕ) → SameMarked s ⊎ Widened s
unfolding marked_of past_of events_in mark_read past_read Accepted
narrow_or_wider s = by (told (trace_of full s)) refl (narrowed_marked full narrow.width h [] (lines_in full s))
  where
    h : Counts
    h = (head_in (trace_of full s))

    by : (f : Marked) → told (trace_of full s) ≡ f → Same full narrow.width h [] (lines_in full s) ⊎ Wider full narrow.width h [] (lines_in full s)
        → SameMarked s ⊎ Widened s
    by f q (inl r) = inl (record {
      fitting = r.fitting (length (past_of full s)) (omega arith);
      alike = record { trace = narrow_trace s; marked = narrow_marked s ∙ ap (refused_or (told (trace_of full s))) r.narrow_marked; past = narrow_past s ∙ r.narrow_past };
    })
    by (refused n line) q (inr r) = absurd (none_unfound full s n line q r.earlier (some r.event) r.rest r.lines)
    by accepted q (inr r) = inr (record {
      earlier = r.earlier;
      event = r.event;
      rest = r.rest;
      line = line_after h (length (reverse r.earlier));
      lines = r.lines;
      line_is = ap (line_after h) (length-reverse r.earlier);
      fitting = r.fitting;
      clean = subst (λ (es : List Event). T (Accepted full h es)) r.narrow_past (past_accepted full h [] (map (narrowed narrow.width) (lines_in full s)) tt);
      outside = r.outside;
      narrow_marked = narrow_marked s ∙ rw q r.narrow_marked;
      before = ap (λ (es : List Event). reverse es) (narrow_past s ∙ r.narrow_past) ∙ reverse-reverse r.earlier;
      marked = rw q r.marked;
      past = r.past;
    })

-- A paper that is refused with 4 for a value within 64 bits: with values of 32 bits the line behind its accepted events is an event whose value lies
-- outside 32 bits. It is marked by its events from that line on.
pub wide_marked : (s : List ℕ) (e : Event) → get_or (lines_in full s) (length (past_of narrow s)) none ≡ some e → fits narrow.width (value e.kind) ≡ false → Widened s
wide_marked s e q o = by (narrow_or_wider s)
  where
    by : SameMarked s ⊎ Widened s → Widened s
    by (inr r) = r
    by (inl r) =
        let k : length (past_of full s) ≡ length (past_of narrow s) = ap length (sym r.alike.past) in
        absurd (false≢true (sym o ∙ within_at narrow.width (length (past_of full s)) (lines_in full s) e r.fitting (ap (λ (i : ℕ). get_or (lines_in full s) i none) k ∙ q)))
