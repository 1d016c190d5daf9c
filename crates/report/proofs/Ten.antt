-- Document 02 (i): a paper in which what is marked is without Y, F and C has the verdict, events, memories, order and listing that it had; another was refused
-- with 4 at the first of these.
use Prim.Native.Nat.{ℕ}
use mathlib.Core.Path.{◌≡◌, refl, ap, ◌∙◌}
use mathlib.Core.List.{List, [], reverse}
use mathlib.Core.Logic.{◌⊎◌, inl, inr}
use Rattle.std.specs.Prelude.{Some, None}
use Rattle.rules.specs.declared.Event.{Event}
use Rattle.rules.specs.Limits.{full}
use Rattle.rules.specs.Ten.{AllTen}
use Rattle.trace.specs.Trace.{Guards, trace_of, head_in, guards_in}
use Rattle.marking.specs.Marking.{lines_in, events_in}
use Rattle.marking.specs.Ten.{SameTen, NewKind}
use Rattle.marking.proofs.Ten.{ten_paper, ten_or_new, events_ten, words_ten}
use Rattle.sections.specs.Refusals.{denial}
use Rattle.sections.specs.Order.{order}
use Rattle.sections.specs.Ten.{ten_denial, ten_order}
use Rattle.listing.specs.Listing.{section_lines}
use Rattle.sections.proofs.Ten.{ten_denial_law, ten_order_law}
use Rattle.ordering.specs.Answer.{guard_of, on_guards}
use Rattle.report.specs.Report.{denial_lines, order_lines, memory_lines, refusal_lines, listing_with, listing_of, brief_of}
use Rattle.report.specs.Ten.{ten_events_in, ten_order_lines, ten_memory_lines, ten_listing_with, ten_listing_of, ten_brief_of}

module _ (s : List ℕ) (r : SameTen s) where
  events_same : ten_events_in s ≡ events_in full s
  unfolding ten_events_in events_in
  events_same = ap (λ (es : List Event). reverse es) r.past

  order_same : ten_order_lines s ≡ order_lines full s
  unfolding ten_order_lines order_lines
  order_same = rw events_same (by (guards_in (trace_of full s)))
    where
      by : (g : Guards) → on_guards g (λ locks. denial_lines (ten_denial (head_in (trace_of full s)) (guard_of locks) (events_in full s)) (section_lines (ten_order (head_in (trace_of full s)) (events_in full s)))) []
          ≡ on_guards g (λ locks. denial_lines (denial (head_in (trace_of full s)) (guard_of locks) (events_in full s)) (section_lines (order (head_in (trace_of full s)) (events_in full s)))) []
      by (Some locks) = rw (ten_denial_law (head_in (trace_of full s)) (guard_of locks) (events_in full s) (events_ten s r), ten_order_law (head_in (trace_of full s)) (events_in full s) (events_ten s r)) refl
      by None = refl

  memory_same : ten_memory_lines s ≡ memory_lines full s
  unfolding ten_memory_lines memory_lines
  memory_same = rw (events_same, words_ten s r) refl

  with_same : (ends : List (List ℕ)) → ten_listing_with s ends ≡ listing_with full s ends
  unfolding ten_listing_with listing_with refusal_lines
  with_same ends = rw (r.marked, memory_same) refl

  -- The same listing, with an order and without.
  pub ten_listing : (ten_listing_of s ≡ listing_of full s) × (ten_brief_of s ≡ brief_of full s)
  unfolding ten_listing_of ten_brief_of listing_of brief_of
  ten_listing = (ap (ten_listing_with s) order_same ∙ with_same (order_lines full s), with_same [])

-- A paper without Y, F and C: verdict and line, events and so the memories, and the listing, with an order and without.
pub ten_report : (s : List ℕ) → AllTen (lines_in full s) → SameTen s × (ten_listing_of s ≡ listing_of full s) × (ten_brief_of s ≡ brief_of full s)
ten_report s a = let r = ten_paper s a in (r, (ten_listing s r).0, (ten_listing s r).1)

-- Every paper: so it is, or it was refused with 4 at its first Y, F or C.
pub every_report : (s : List ℕ) → (SameTen s × (ten_listing_of s ≡ listing_of full s) × (ten_brief_of s ≡ brief_of full s)) ⊎ NewKind s
every_report s = by (ten_or_new s)
  where
    by : SameTen s ⊎ NewKind s → (SameTen s × (ten_listing_of s ≡ listing_of full s) × (ten_brief_of s ≡ brief_of full s)) ⊎ NewKind s
    by (inl r) = inl (r, (ten_listing s r).0, (ten_listing s r).1)
    by (inr r) = inr r
