-- What is reported of a trace: after 7, of a refused trace, and of an accepted one.
use Prim.Native.Nat.{ℕ, ◌≤◌, min}
use native.Mathlib.Omega.{arith}
use mathlib.Core.Path.{◌≡◌, refl, sym, ap, ◌∙◌, subst}
use mathlib.Core.Bool.{Bool, true, false, cond, ◌||◌}
use mathlib.Core.List.{List, [], ◌++◌, map}
use lib.Dec.{ltb}
use lib.IntN.{ℤ}
use lib.ListN.{length, length-map, length-append, take, drop}
use lib.Seq.{take_at, length-take-le}
use borrow.Author.Tests.{le-leb, ltb-false}
use Rattle.rules.specs.declared.Event.{Event}
use Rattle.rules.specs.declared.Counts.{Counts}
use Rattle.rules.specs.declared.Course.{Course}
use Rattle.std.specs.Prelude.{Some, None, Result, Ok, Err}
use Rattle.rules.specs.declared.Refusal.{Refusal}
use Rattle.rules.specs.Limits.{Limits, UpToFull, full, limits_of, lent_short, order_short}
use Rattle.rules.specs.Rules.{Marked, accepted, refused, Verdict, told, said, on_marked}
use Rattle.rules.proofs.Laws.{or_false_left, or_false_right}
use Rattle.rules.proofs.Bounds.{up_to_full}
use Rattle.decimal.specs.Text.{ended, over, room, Wrote}
use Rattle.records.specs.Records.{packed, value_in}
use Rattle.trace.specs.Trace.{Guards, trace_of, head_in, guards_in}
use Rattle.marking.specs.declared.Marking.{Marking}
use Rattle.marking.specs.Marking.{marked_of, events_in, accepted_of, marking_of, read_in}
use Rattle.marking.proofs.Whole.{read_is, events_few}
use Rattle.sections.specs.Denials.{Denial, fit, denied}
use Rattle.sections.specs.Refusals.{denial}
use Rattle.sections.specs.Order.{order}
use Rattle.sections.specs.Entries.{entry_code}
use Rattle.sections.proofs.Entries.{order_back}
use Rattle.listing.specs.Listing.{refused_line, line_room, write_all, lines_for, section_lines, entry_lines}
use Rattle.listing.proofs.LineLaws.{wrote_one}
use Rattle.ordering.specs.declared.Ordering.{Ordering}
use Rattle.ordering.specs.declared.Ordering.TheVariants.{Ordered}
use Rattle.ordering.specs.declared.Outcome.{Outcome}
use Rattle.ordering.specs.Answer.{guard_of, on_guards, answer_of, answer_for, entries_for, ordered, Given}
use Rattle.ordering.specs.Traces.{ordering_of, entries_of, marking_in, ordering_in, OrdersTrace}
use Rattle.ordering.proofs.Traces.{accepted_trace}
use Rattle.report.specs.declared.Report.{Report}
use Rattle.report.specs.Report.{Lends, denial_lines, order_lines, listing_of, records_after, whats_after, values_after, count_of, report_of, too_little_report, too_little, Reports, Fills}
use Rattle.report.specs.Computed.Parts.{ordering_lines, refused_report}
use Rattle.report.proofs.Printed.{behind_order, refused_lines_law, accepted_lines, lines_with, marking_is, memory_lines_law, printed}

said_told : (v : Verdict) → said (told v) ≡ v
said_told (Ok a) = refl
said_told (Err r) = refl

-- the first n entries of a row, with room for them in a lent one
pub record Front {X : Type 0} (n : ℕ) (row lent : List X) : Type 0 where
  pub inside : n ≤ length row
  pub count : n ≡ length (take n row)
  pub room : length (take n row) ≤ length lent

pub front : {X : Type 0} (n : ℕ) (row lent : List X) → n ≤ length row → n ≤ length lent → Front n row lent
front n row lent h k = let l = length-take-le n row h in record { inside = h; count = sym l; room = omega (arith, l, k) }

-- by the limits of a course
module _ (course : Course) where
  abbrev m : Limits
  m = limits_of course

  u : UpToFull m
  u = up_to_full course

  -- ---- what is lent is enough

  pub lent_long : (places out : ℕ) → lent_short m places out ≡ false → (m.records ≤ places) × (m.output ≤ out)
  unfolding lent_short
  lent_long places out e =
      (ltb-false places m.records (or_false_left (ltb places m.records) (ltb out m.output) e), ltb-false out m.output (or_false_right (ltb places m.records) (ltb out m.output) e))

  -- the tests of the code, together
  pub too_little_law : (places : ℕ) (out list scratch : List ℕ) (p q b : Bool) → p ≡ lent_short full places (length out) → q ≡ order_short full (length list) (length scratch)
      → p || q ≡ b → too_little m places out list scratch ≡ b
  unfolding lent_short order_short
  too_little_law places out list scratch p q b ep eq t = (λ i. sym ep i || sym eq i) ∙ t

  -- ---- what is said

  -- the report of a trace, from its parts
  pub reported : (s : List ℕ) (o₀ : Ordering) (text : List ℕ) (v : Verdict) (n : ℕ) (o : Ordering) (w : ℕ) → told v ≡ marked_of m s → n ≡ count_of m s → o ≡ o₀ → w ≡ length text
      → record { verdict = v; events = n; ordering = o; written = w } ≡ report_of m s o₀ text
  unfolding report_of
  reported s o₀ text v n o w ev en eo ew = λ i. record { verdict = (sym (said_told v) ∙ ap said ev) i; events = en i; ordering = eo i; written = ew i }

  -- a marking says that a trace is accepted, and how many events it has
  pub marking_count : (s : List ℕ) (marking : Marking) → marked_of m s ≡ accepted → Ok marking ≡ marking_of m s → marking.events ≡ count_of m s
  unfolding count_of accepted_of
  marking_count s marking a q = rw a (ap (λ (x : Marking). x.events) (marking_is m u s marking a q))

  pub none_counted : (s : List ℕ) (number line : ℕ) → marked_of m s ≡ refused number line → 0 ≡ count_of m s
  unfolding count_of
  none_counted s number line q = sym (rw q refl)

  pub count_few : (s : List ℕ) → count_of m s ≤ full.events
  unfolding count_of
  count_few s = by (marked_of m s)
    where
      by : (k : Marked) → on_marked k (length (events_in m s)) 0 ≤ full.events
      by accepted = events_few m u s
      by (refused number line) = omega arith

  -- ---- the records

  module _ {X : Type 0} (s : List ℕ) (f : Event → X) (row lent : List X) where
    row_marked_law : (k : Marked) → marked_of m s ≡ k → on_marked k (length (events_in m s)) 0 ≤ length (over (map f (read_in m s)) row)
    row_marked_law (refused number line) q = omega arith
    row_marked_law accepted q =
        rw (read_is m u s q) (omega (arith, length-append (map f (events_in m s)) (drop (length (map f (events_in m s))) row), length-map (events_in m s) f))

    -- a row that was read into has as many records as are counted
    pub row_long : (b : Bool) (n : ℕ) (row' : List X) → n ≡ cond b 0 (count_of m s) → row' ≡ cond b row (over (map f (read_in m s)) row) → n ≤ length row'
    unfolding count_of
    row_long true n row' p q = omega (arith, p)
    row_long false n row' p q = rw (p, q) (row_marked_law (marked_of m s) refl)

    rows_marked : (k : Marked) → marked_of m s ≡ k
        → over (take (on_marked k (length (events_in m s)) 0) (over (map f (read_in m s)) row)) lent ≡ on_marked k (over (map f (events_in m s)) lent) lent
    rows_marked (refused number line) q = refl
    rows_marked accepted q =
        ap (λ (xs : List X). over xs lent)
        (ap (λ (es : List Event). take (length (events_in m s)) (over (map f es) row)) (read_is m u s q)
        ∙ take_at (map f (events_in m s)) (drop (length (map f (events_in m s))) row) (length (events_in m s)) (length-map (events_in m s) f))

    -- the first records of a row that was read into, laid over the lent ones
    rows_after : over (take (count_of m s) (over (map f (read_in m s)) row)) lent ≡ records_after m s (map f (events_in m s)) lent
    unfolding count_of records_after
    rows_after = rows_marked (marked_of m s) refl

    -- the same where after 7 nothing is touched
    rows_over : (b : Bool) (n : ℕ) (row' : List X) → n ≡ cond b 0 (count_of m s) → row' ≡ cond b row (over (map f (read_in m s)) row)
        → over (take n row') lent ≡ cond b lent (records_after m s (map f (events_in m s)) lent)
    rows_over true n row' p q = ap (λ (k : ℕ). over (take k row') lent) p
    rows_over false n row' p q = (λ i. over (take (p i) (q i)) lent) ∙ rows_after

  pub whats_after_law : (s : List ℕ) (row lent : List ℕ) → over (take (count_of m s) (over (map packed (read_in m s)) row)) lent ≡ whats_after m s lent
  unfolding whats_after
  whats_after_law s row lent = rows_after s packed row lent

  pub values_after_law : (s : List ℕ) (row lent : List ℤ) → over (take (count_of m s) (over (map value_in (read_in m s)) row)) lent ≡ values_after m s lent
  unfolding values_after
  values_after_law s row lent = rows_after s value_in row lent

  -- ---- 7

  module _ (s : List ℕ) (places : ℕ) (what : List ℕ) (value : List ℤ) (out list scratch : List ℕ) where
    pub little_lends : (r : Report) → too_little m places out list scratch ≡ true → r ≡ too_little_report → Lends m s places what value out list scratch r what value out list scratch
    little_lends r e q = record {
      reports = record {
        told_is = ap (λ (x : Report). told x.verdict) q ∙ sym (rw e refl);
        says = q ∙ sym (rw e refl);
        prints = sym (rw e refl);
        orders = record { answers = ap (λ (x : Report). x.ordering) q ∙ sym (rw e refl); lists = sym (rw e refl); zeros = sym (rw e refl) };
      };
      keeps = sym (rw e refl);
      beside = sym (rw e refl);
    }

    -- ---- a trace that is marked and ordered

    module _ (e : too_little m places out list scratch ≡ false) (r : Result Outcome Refusal) (what' : List ℕ) (value' : List ℤ) (list' scratch' : List ℕ) (c : OrdersTrace m s what value list scratch r what' value' list' scratch') where
      order_long : order_short m (length list) (length scratch) ≡ false
      order_long = or_false_right (lent_short m places (length out)) (order_short m (length list) (length scratch)) e

      out_long : m.output ≤ length out
      out_long = (lent_long places (length out) (or_false_left (lent_short m places (length out)) (order_short m (length list) (length scratch)) e)).1

      tells : told r ≡ marked_of m s
      tells = rw order_long at c.says

      marks : marking_in r ≡ marking_of m s
      marks = rw order_long at c.marks

      gives : Given (ordering_of m s) (entries_of m s) list scratch (ordering_in r) list' scratch'
      gives = rw order_long at c.gives

      -- the whole, from what is counted and printed
      lends : (v : Verdict) (n w : ℕ) (out' : List ℕ) → told v ≡ marked_of m s → n ≡ count_of m s → (w ≡ length (listing_of m s)) × (out' ≡ over (listing_of m s) out)
          → Lends m s places what value out list scratch (record { verdict = v; events = n; ordering = ordering_in r; written = w }) what' value' out' list' scratch'
      lends v n w out' ev en p = record {
        reports = record {
          told_is = ev ∙ sym (rw e refl);
          says = reported s (ordering_of m s) (listing_of m s) v n (ordering_in r) w ev en gives.answers p.0 ∙ sym (rw e refl);
          prints = p.1 ∙ sym (rw e refl);
          orders = rw e gives;
        };
        keeps = (rw order_long at c.keeps) ∙ sym (rw e refl);
        beside = (rw order_long at c.beside) ∙ sym (rw e refl);
      }

    module _ (e : too_little m places out list scratch ≡ false) (f : Refusal) (what' : List ℕ) (value' : List ℤ) (list' scratch' : List ℕ) (c : OrdersTrace m s what value list scratch (Err f) what' value' list' scratch') where
      pub refused_lends : (p : Report) (out' : List ℕ) → p ≡ refused_report f p.written → Wrote (room line_room (ended (refused_line f.line f.number))) out p.written out'
          → Lends m s places what value out list scratch p what' value' out' list' scratch'
      refused_lends p out' ep v =
          subst (λ (p : Report). Lends m s places what value out list scratch p what' value' out' list' scratch') (sym ep)
          (lends e (Err f) what' value' list' scratch' c (Err f) 0 p.written out' (sym k) (none_counted s f.number f.line k)
          (unfold listing_of in printed m u s (order_lines m s) _ p.written out out' (behind_order m u s) (refused_lines_law m u s (order_lines m s) f.number f.line k) (out_long e (Err f) what' value' list' scratch' c) (wrote_one (refused_line f.line f.number) out out' p.written v)))
        where
          k : marked_of m s ≡ refused f.number f.line
          k = sym (tells e (Err f) what' value' list' scratch' c)

    -- ---- an accepted trace

    module _ (e : too_little m places out list scratch ≡ false) (r : Outcome) (what' : List ℕ) (value' : List ℤ) (list' scratch' : List ℕ) (c : OrdersTrace m s what value list scratch (Ok r) what' value' list' scratch') where
      marked : marked_of m s ≡ accepted
      marked = sym (tells e (Ok r) what' value' list' scratch' c)

      given : Given (ordering_of m s) (entries_of m s) list scratch r.ordering list' scratch'
      given = gives e (Ok r) what' value' list' scratch' c

      abbrev h : Counts
      h = head_in (trace_of m s)

      entries_count : length (entries_of m s) ≡ length (order h (events_in m s))
      unfolding entries_of entries_for
      entries_count = length-map (order h (events_in m s)) entry_code

      list_is : (o : Ordering) → r.ordering ≡ o → list' ≡ cond (ordered o) (over (entries_of m s) list) list
      list_is o q = given.lists ∙ ap (λ (x : Ordering). cond (ordered x) (over (entries_of m s) list) list) (sym given.answers ∙ q)

      abbrev count₀ : ℕ
      count₀ = length (order h (events_in m s))

      -- the sections that stand in the list
      listed_lines : (guard : ℕ → ℕ) → denial h guard (events_in m s) ≡ fit → r.ordering ≡ Ordered count₀ → ordering_lines (Ordered count₀) list' ≡ section_lines (order h (events_in m s))
      unfolding ordering_lines entries_of entries_for
      listed_lines guard f q =
          ap (λ (b : Bool). cond b (entry_lines (take count₀ list')) []) (le-leb count₀ (length list') long)
          ∙ ap (λ (ws : List ℕ). entry_lines (take count₀ ws)) (list_is (Ordered count₀) q)
          ∙ ap (λ (ws : List ℕ). entry_lines ws) (take_at (entries_of m s) (drop (length (entries_of m s)) list) count₀ entries_count)
          ∙ ap section_lines (order_back m h (events_in m s) (accepted_trace m u s marked) guard f)
        where
          long : count₀ ≤ length list'
          long = rw (list_is (Ordered count₀) q) (omega (arith, entries_count, length-append (entries_of m s) (drop (length (entries_of m s)) list)))

      denied_lines : (guard : ℕ → ℕ) (d : Denial) → denial h guard (events_in m s) ≡ d → r.ordering ≡ answer_of d count₀ → ordering_lines r.ordering list' ≡ denial_lines d (section_lines (order h (events_in m s)))
      unfolding answer_of
      denied_lines guard fit ed q = ap (λ (o : Ordering). ordering_lines o list') q ∙ listed_lines guard ed q
      denied_lines guard (denied number line) ed q = ap (λ (o : Ordering). ordering_lines o list') q ∙ (unfold ordering_lines in refl)

      lines_by : (g : Guards) → r.ordering ≡ answer_for h g (events_in m s)
          → ordering_lines r.ordering list' ≡ on_guards g (λ locks. denial_lines (denial h (guard_of locks) (events_in m s)) (section_lines (order h (events_in m s)))) []
      unfolding answer_for
      lines_by (Some locks) q = denied_lines (guard_of locks) (denial h (guard_of locks) (events_in m s)) refl q
      lines_by None q = ap (λ (o : Ordering). ordering_lines o list') q ∙ (unfold ordering_lines in refl)

      order_lines_law : ordering_lines r.ordering list' ≡ order_lines m s
      unfolding order_lines
      order_lines_law = lines_by (guards_in (trace_of m s)) (given.answers ∙ (unfold ordering_of in rw marked refl))

      pub accepted_lends : (w : ℕ) (out' : List ℕ) → Wrote (write_all (lines_for r.marking.events r.marking.head r.marking.memories ++ ordering_lines r.ordering list')) out w out'
          → Lends m s places what value out list scratch (record { verdict = Ok tt; events = r.marking.events; ordering = r.ordering; written = w }) what' value' out' list' scratch'
      accepted_lends w out' v =
          lends e (Ok r) what' value' list' scratch' c (Ok tt) r.marking.events w out' (sym marked) (marking_count s r.marking marked marks₀)
          (unfold listing_of in printed m u s (order_lines m s) _ w out out' (behind_order m u s) lines (out_long e (Ok r) what' value' list' scratch' c) v)
        where
          marks₀ : Ok r.marking ≡ marking_of m s
          marks₀ = marks e (Ok r) what' value' list' scratch' c

          lines : lines_for r.marking.events r.marking.head r.marking.memories ++ ordering_lines r.ordering list' ≡ lines_with m u s (order_lines m s)
          lines = (λ i. memory_lines_law m u s r.marking marked marks₀ i ++ order_lines_law i) ∙ accepted_lines m u s (order_lines m s) marked

  -- ---- the records in two lent rows

  module _ (s whats : List ℕ) (values : List ℤ) (what : List ℕ) (value : List ℤ) (out list scratch : List ℕ) (r : Report) (what' : List ℕ) (value' : List ℤ) (out' list' scratch' : List ℕ)
      (c : Lends m s (min (length whats) (length values)) what value out list scratch r what' value' out' list' scratch') where
    abbrev lacks : Bool
    lacks = too_little m (min (length whats) (length values)) out list scratch

    counted : r.events ≡ cond lacks 0 (count_of m s)
    counted = ap (λ (x : Report). x.events) c.reports.says ∙ by lacks
      where
        by : (b : Bool) → (cond b too_little_report (report_of m s (ordering_of m s) (listing_of m s))).events ≡ cond b 0 (count_of m s)
        by true = refl
        by false = unfold report_of in refl

    -- there is room for so many
    lent_room : (r.events ≤ length whats) × (r.events ≤ length values)
    lent_room = by lacks refl counted
      where
        by : (b : Bool) → lacks ≡ b → r.events ≡ cond b 0 (count_of m s) → (r.events ≤ length whats) × (r.events ≤ length values)
        by true e q = (omega arith, omega arith)
        by false e q =
            let l = lent_long (min (length whats) (length values)) (length out) (or_false_left (lent_short m (min (length whats) (length values)) (length out)) _ e) in
            let k = count_few s in
            let p = l.0 in
            (omega arith, omega arith)

    pub front_whats : Front r.events what' whats
    front_whats = front r.events what' whats (row_long s packed what whats lacks r.events what' counted c.keeps) lent_room.0

    pub front_values : Front r.events value' values
    front_values = front r.events value' values (row_long s value_in value values lacks r.events value' counted c.beside) lent_room.1

    pub fills : (whats' : List ℕ) (values' : List ℤ) → whats' ≡ over (take r.events what') whats → values' ≡ over (take r.events value') values
        → Fills m s whats values out list scratch r whats' values' out' list' scratch'
    unfolding whats_after values_after
    fills whats' values' p q = record {
      reports = c.reports;
      fills = p ∙ rows_over s packed what whats lacks r.events what' counted c.keeps;
      beside = q ∙ rows_over s value_in value values lacks r.events value' counted c.beside;
    }

  -- ---- the listing in the output

  -- how much is written: nothing where too little is lent
  pub written_by : (s : List ℕ) (places : ℕ) (out list scratch : List ℕ) (r : Report) (out' list' scratch' : List ℕ) → Reports m s places out list scratch r out' list' scratch'
      → r.written ≡ cond (too_little m places out list scratch) 0 (length (listing_of m s))
  unfolding report_of
  written_by s places out list scratch r out' list' scratch' c = ap (λ (x : Report). x.written) c.says ∙ by (too_little m places out list scratch)
    where
      by : (b : Bool) → (cond b too_little_report (report_of m s (ordering_of m s) (listing_of m s))).written ≡ cond b 0 (length (listing_of m s))
      by true = refl
      by false = refl
