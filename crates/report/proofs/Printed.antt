-- The listing of any bytes: an output of 32,768 bytes has room for it, and what is written into so much is the whole of it.
use Prim.Native.Nat.{ℕ, ◌≤◌}
use native.Mathlib.Omega.{arith}
use mathlib.Core.Path.{◌≡◌, refl, sym, ap, ◌∙◌}
use mathlib.Core.List.{List, [], ◌∷◌, ◌++◌}
use lib.ListN.{length}
use Rattle.rules.specs.Limits.{Limits, UpToFull, full}
use Rattle.rules.specs.Rules.{Marked, accepted, refused, on_marked, words_of, number_in, line_in, answered}
use Rattle.rules.proofs.Bounds.{allowed_full}
use Rattle.decimal.specs.Text.{over, Wrote}
use Rattle.std.specs.Prelude.{Some, None, Ok}
use Rattle.trace.specs.Trace.{Guards, trace_of, head_in, guards_in}
use Rattle.marking.specs.declared.Marking.{Marking}
use Rattle.marking.specs.Marking.{marked_of, past_of, events_in, accepted_of, marking_of}
use Rattle.marking.proofs.Whole.{head_allowed, events_few}
use Rattle.sections.specs.Denials.{Denial, fit, denied}
use Rattle.sections.specs.Refusals.{denial}
use Rattle.sections.specs.Order.{order}
use Rattle.sections.proofs.Demand3.{room as entries-room}
use Rattle.sections.proofs.Entries.{order_small}
use Rattle.listing.specs.Listing.{refused_line, write_all, section_lines, lines_for}
use Rattle.listing.proofs.LineLaws.{wrote_as}
use Rattle.listing.proofs.ListLaws.{lines_are}
use Rattle.listing.proofs.RoomEnough.{Behind, sections, unordered, nothing, Enough, room_enough, room_refused, wrote_whole}
use Rattle.ordering.specs.Answer.{guard_of, on_guards}
use Rattle.ordering.proofs.Traces.{accepted_trace}
use Rattle.report.specs.Report.{denial_lines, order_lines, memory_lines, refusal_lines, listing_with, listing_of, brief_of}

-- by limits up to the full ones
module _ (m : Limits) (u : UpToFull m) where
  -- what comes behind the lines of the memories
  pub behind_order : (s : List ℕ) → marked_of m s ≡ accepted → Behind (order_lines m s)
  unfolding order_lines
  behind_order s a = by (guards_in (trace_of m s))
    where
      behind : (guard : ℕ → ℕ) (d : Denial) → denial (head_in (trace_of m s)) guard (events_in m s) ≡ d → Behind (denial_lines d (section_lines (order (head_in (trace_of m s)) (events_in m s))))
      behind guard fit q =
          sections (order (head_in (trace_of m s)) (events_in m s)) (omega (arith, entries-room m (head_in (trace_of m s)) guard (events_in m s) (accepted_trace m u s a) q))
          (order_small m (head_in (trace_of m s)) (events_in m s) (accepted_trace m u s a) guard q)
      behind guard (denied number line) q = unordered line number

      by : (g : Guards) → Behind (on_guards g (λ locks. denial_lines (denial (head_in (trace_of m s)) (guard_of locks) (events_in m s)) (section_lines (order (head_in (trace_of m s)) (events_in m s)))) [])
      by (Some locks) = behind (guard_of locks) (denial (head_in (trace_of m s)) (guard_of locks) (events_in m s)) refl
      by None = nothing

  -- ---- the lines of a listing

  abbrev pub lines_with : List ℕ → List (List ℕ) → List (List ℕ)
  lines_with s ends = on_marked (marked_of m s) (memory_lines m s ++ ends) (refusal_lines m s)

  pub refused_lines_law : (s : List ℕ) (ends : List (List ℕ)) (number line : ℕ) → marked_of m s ≡ refused number line → refused_line line number ∷ [] ≡ lines_with s ends
  unfolding refusal_lines
  refused_lines_law s ends number line q = sym (rw q refl)

  pub accepted_lines : (s : List ℕ) (ends : List (List ℕ)) → marked_of m s ≡ accepted → memory_lines m s ++ ends ≡ lines_with s ends
  accepted_lines s ends q = ap (λ (k : Marked). on_marked k (memory_lines m s ++ ends) (refusal_lines m s)) (sym q)

  -- an accepted trace's marking
  pub marking_is : (s : List ℕ) (marking : Marking) → marked_of m s ≡ accepted → Ok marking ≡ marking_of m s → marking ≡ accepted_of m s
  unfolding marking_of
  marking_is s marking a q = let z : Ok marking ≡ Ok (accepted_of m s) = q ∙ ap (λ (k : Marked). answered k (accepted_of m s)) a in cc

  -- the lines of the memories that are handed on are the trace's
  pub memory_lines_law : (s : List ℕ) (marking : Marking) → marked_of m s ≡ accepted → Ok marking ≡ marking_of m s → lines_for marking.events marking.head marking.memories ≡ memory_lines m s
  unfolding memory_lines accepted_of
  memory_lines_law s marking a q =
      ap (λ (x : Marking). lines_for x.events x.head x.memories) (marking_is s marking a q)
      ∙ lines_are (length (events_in m s)) (head_in (trace_of m s)) (words_of (past_of m s)) (allowed_full m (head_in (trace_of m s)) u (head_allowed m s a))

  -- ---- their room

  pub lines_enough : (s : List ℕ) (ends : List (List ℕ)) → (marked_of m s ≡ accepted → Behind ends) → Enough (lines_with s ends)
  unfolding memory_lines refusal_lines
  lines_enough s ends b = by (marked_of m s) refl
    where
      by : (k : Marked) → marked_of m s ≡ k → Enough (on_marked k (memory_lines m s ++ ends) (refusal_lines m s))
      by accepted q = room_enough (length (events_in m s)) (head_in (trace_of m s)) (words_of (past_of m s)) (events_few m u s) (allowed_full m (head_in (trace_of m s)) u (head_allowed m s q)) ends (b q)
      by (refused number line) q = room_refused (line_in (marked_of m s)) (number_in (marked_of m s))

  -- 32,768 bytes are enough for the listing of any bytes
  pub listing_room : (s : List ℕ) → length (listing_of m s) ≤ full.output
  unfolding listing_of listing_with
  listing_room s = (lines_enough s (order_lines m s) (behind_order s)).size

  pub brief_room : (s : List ℕ) → length (brief_of m s) ≤ full.output
  unfolding brief_of listing_with
  brief_room s = (lines_enough s [] (λ a. nothing)).size

  -- what was written, and what the output holds then
  abbrev pub Printed : List ℕ → List (List ℕ) → ℕ → List ℕ → List ℕ → Type 0
  Printed s ends w out out' = (w ≡ length (listing_with m s ends)) × (out' ≡ over (listing_with m s ends) out)

  pub printed : (s : List ℕ) (ends ls : List (List ℕ)) (w : ℕ) (out out' : List ℕ) → (marked_of m s ≡ accepted → Behind ends) → ls ≡ lines_with s ends
      → full.output ≤ length out → Wrote (write_all ls) out w out' → Printed s ends w out out'
  unfolding listing_with
  printed s ends ls w out out' b e l v = wrote_whole (lines_with s ends) out out' w (lines_enough s ends b) l (wrote_as ls (lines_with s ends) out out' w e v)
