-- What is reported of a trace where no order is wanted.
use Prim.Native.Nat.{ℕ, ◌≤◌, min}
use native.Mathlib.Omega.{arith}
use mathlib.Core.Path.{◌≡◌, refl, sym, ap, ◌∙◌, subst}
use mathlib.Core.Bool.{Bool, true, false}
use mathlib.Core.List.{List, [], append-nil}
use lib.IntN.{ℤ}
use lib.ListN.{length, take}
use Rattle.rules.specs.declared.Course.{Course}
use Rattle.std.specs.Prelude.{Result, Ok, Err}
use Rattle.rules.specs.declared.Refusal.{Refusal}
use Rattle.rules.specs.Limits.{Limits, UpToFull, full, limits_of, lent_short}
use Rattle.rules.specs.Rules.{accepted, refused, Verdict, told}
use Rattle.rules.proofs.Bounds.{up_to_full}
use Rattle.decimal.specs.Text.{ended, over, room, Wrote}
use Rattle.records.specs.Records.{packed, value_in}
use Rattle.marking.specs.declared.Marking.{Marking}
use Rattle.marking.specs.Marking.{marked_of, Marks}
use Rattle.listing.specs.Listing.{refused_line, line_room, write_all, lines_for}
use Rattle.listing.proofs.LineLaws.{wrote_one}
use Rattle.listing.proofs.RoomEnough.{nothing}
use Rattle.ordering.specs.declared.Ordering.TheVariants.{NoOrder}
use Rattle.report.specs.declared.Report.{Report}
use Rattle.report.specs.Report.{memory_lines, brief_of, count_of, too_little_report, Briefs}
use Rattle.report.specs.Computed.Parts.{refused_report}
use Rattle.report.proofs.Printed.{refused_lines_law, accepted_lines, lines_with, memory_lines_law, printed}
use Rattle.report.proofs.Reported.{lent_long, reported, marking_count, none_counted, count_few, Front, front, row_long, whats_after_law, values_after_law}

-- by the limits of a course
module _ (course : Course) where
  abbrev m : Limits
  m = limits_of course

  u : UpToFull m
  u = up_to_full course

  -- the tests of the code, together
  pub brief_little : (whats : List ℕ) (values : List ℤ) (out : List ℕ) (n : ℕ) (p b : Bool) → n ≡ min (length whats) (length values) → p ≡ lent_short full n (length out) → p ≡ b
      → lent_short m (min (length whats) (length values)) (length out) ≡ b
  unfolding lent_short
  brief_little whats values out n p b en ep t = ap (λ (k : ℕ). lent_short m k (length out)) (sym en) ∙ sym ep ∙ t

  module _ (s whats : List ℕ) (values : List ℤ) (out : List ℕ) where
    -- 7
    pub little_brief : (r : Report) → lent_short m (min (length whats) (length values)) (length out) ≡ true → r ≡ too_little_report → Briefs m s whats values out r whats values out
    little_brief r e q = record {
      told_is = ap (λ (x : Report). told x.verdict) q ∙ sym (rw e refl);
      says = q ∙ sym (rw e refl);
      prints = sym (rw e refl);
      fills = sym (rw e refl);
      beside = sym (rw e refl);
    }

    module _ (e : lent_short m (min (length whats) (length values)) (length out) ≡ false) (what : List ℕ) (value : List ℤ) (r : Result Marking Refusal) (what' : List ℕ) (value' : List ℤ) (c : Marks m s what value r what' value') where
      -- what is lent is enough
      places_long : m.records ≤ min (length whats) (length values)
      places_long = (lent_long course (min (length whats) (length values)) (length out) e).0

      out_long : m.output ≤ length out
      out_long = (lent_long course (min (length whats) (length values)) (length out) e).1

      -- the whole, from what is counted, printed and copied
      briefs : (v : Verdict) (n w : ℕ) (whats' : List ℕ) (values' : List ℤ) (out' : List ℕ) → told v ≡ marked_of m s → n ≡ count_of m s → (w ≡ length (brief_of m s)) × (out' ≡ over (brief_of m s) out)
          → whats' ≡ over (take n what') whats → values' ≡ over (take n value') values
          → Briefs m s whats values out (record { verdict = v; events = n; ordering = NoOrder; written = w }) whats' values' out'
      briefs v n w whats' values' out' ev en p q x = record {
        told_is = ev ∙ sym (rw e refl);
        says = reported course s NoOrder (brief_of m s) v n NoOrder w ev en refl p.0 ∙ sym (rw e refl);
        prints = p.1 ∙ sym (rw e refl);
        fills = q ∙ (λ i. over (take (en i) (c.keeps i)) whats) ∙ whats_after_law course s what whats ∙ sym (rw e refl);
        beside = x ∙ (λ i. over (take (en i) (c.beside i)) values) ∙ values_after_law course s value values ∙ sym (rw e refl);
      }

    module _ (e : lent_short m (min (length whats) (length values)) (length out) ≡ false) (what : List ℕ) (value : List ℤ) (f : Refusal) (what' : List ℕ) (value' : List ℤ) (c : Marks m s what value (Err f) what' value') where
      pub refused_brief : (p : Report) (out' : List ℕ) → p ≡ refused_report f p.written → Wrote (room line_room (ended (refused_line f.line f.number))) out p.written out' → Briefs m s whats values out p whats values out'
      refused_brief p out' ep v =
          subst (λ (p : Report). Briefs m s whats values out p whats values out') (sym ep)
          (briefs e what value (Err f) what' value' c (Err f) 0 p.written whats values out' (sym k) (none_counted course s f.number f.line k)
          (unfold brief_of in printed m u s [] _ p.written out out' (λ a. nothing) (refused_lines_law m u s [] f.number f.line k) (out_long e what value (Err f) what' value' c) (wrote_one (refused_line f.line f.number) out out' p.written v))
          refl refl)
        where
          k : marked_of m s ≡ refused f.number f.line
          k = sym c.says

    module _ (e : lent_short m (min (length whats) (length values)) (length out) ≡ false) (what : List ℕ) (value : List ℤ) (marking : Marking) (what' : List ℕ) (value' : List ℤ) (c : Marks m s what value (Ok marking) what' value') where
      marked : marked_of m s ≡ accepted
      marked = sym c.says

      counted : marking.events ≡ count_of m s
      counted = marking_count course s marking marked c.gives

      enough : m.records ≤ min (length whats) (length values)
      enough = places_long e what value (Ok marking) what' value' c

      pub front_whats : Front marking.events what' whats
      front_whats = front marking.events what' whats (row_long course s packed what whats false marking.events what' counted c.keeps) (omega (arith, counted, count_few course s, enough))

      pub front_values : Front marking.events value' values
      front_values = front marking.events value' values (row_long course s value_in value values false marking.events value' counted c.beside) (omega (arith, counted, count_few course s, enough))

      pub accepted_brief : (w : ℕ) (whats' : List ℕ) (values' : List ℤ) (out' : List ℕ) → whats' ≡ over (take marking.events what') whats → values' ≡ over (take marking.events value') values
          → Wrote (write_all (lines_for marking.events marking.head marking.memories)) out w out'
          → Briefs m s whats values out (record { verdict = Ok tt; events = marking.events; ordering = NoOrder; written = w }) whats' values' out'
      accepted_brief w whats' values' out' q x v =
          briefs e what value (Ok marking) what' value' c (Ok tt) marking.events w whats' values' out' (sym marked) counted
          (unfold brief_of in printed m u s [] _ w out out' (λ a. nothing) lines (out_long e what value (Ok marking) what' value' c) v) q x
        where
          lines : lines_for marking.events marking.head marking.memories ≡ lines_with m u s []
          lines = memory_lines_law m u s marking marked c.gives ∙ sym (append-nil (memory_lines m s)) ∙ accepted_lines m u s [] marked
