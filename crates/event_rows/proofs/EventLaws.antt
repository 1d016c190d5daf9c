-- The events that are filled in: those of an accepted trace, none after a refusal.
use Prim.Native.Nat.{ℕ, suc, ◌+◌, ◌≤◌, ◌<◌, min}
use native.Mathlib.Omega.{arith}
use mathlib.Core.Path.{◌≡◌, refl, sym, ap, ap₂, ◌∙◌}
use mathlib.Core.Bool.{Bool, true, false, cond, ◌||◌}
use mathlib.Core.List.{List, [], ◌∷◌, ◌++◌, map}
use mathlib.Core.Option.{some}
use lib.Dec.{ltb}
use lib.IntN.{ℤ, pos}
use lib.ListN.{length, replicate, length-map, length-append, get_or-append}
use borrow.Author.Tests.{ltb-false, lt-leb}
use Rattle.rules.specs.declared.Event.{Event}
use Rattle.rules.specs.declared.Counts.{Counts}
use Rattle.rules.specs.declared.Course.{Course}
use Rattle.rules.specs.Limits.{Limits, UpToFull, full, limits_of, lent_short, line_after}
use Rattle.rules.specs.Rules.{Marked, accepted, refused, told, on_marked, refused_or, mark_read}
use Rattle.rules.specs.Memories.{from}
use Rattle.rules.specs.Reading.{read_from}
use Rattle.rules.proofs.Bounds.{up_to_full}
use Rattle.rules.proofs.From.{from_same}
use Rattle.decimal.specs.Text.{over}
use Rattle.records.specs.Records.{packed, value_in, event_in, record_at, row_lines}
use Rattle.records.proofs.RowLaws.{Numbered, Small, row_lines_law}
use Rattle.std.specs.Prelude.{Result, Err}
use Rattle.rules.specs.declared.Refusal.{Refusal}
use Rattle.trace.specs.declared.Trace.{Trace}
use Rattle.trace.specs.Trace.{trace_of, head_in}
use Rattle.marking.specs.Marking.{lines_in, marked_of, events_in, read_in}
use Rattle.marking.proofs.Whole.{read_is, events_few, events_numbered, events_declared}
use Rattle.ordering.specs.Traces.{ordering_of}
use Rattle.report.specs.declared.Report.{Report}
use Rattle.report.specs.Report.{too_little, too_little_report, report_of, count_of, listing_of, records_after, Lends}
use Rattle.event_rows.specs.EventRows.{fitting, filled, FillsEvents}

-- none are asked for
filled_none : (h : Counts) (ws : List ℕ) (xs : List ℤ) (records : List Event) → filled h ws xs 0 records ≡ records
unfolding filled fitting from read_from
filled_none h ws xs records = let e : min (min 0 2000) (min (length records) (min (length ws) (length xs))) ≡ 0 = omega arith in ap (λ (k : ℕ). over (read_from full 0 (from (record_at h ws xs) 0 k)) records) e

-- where all are events, all are read
read_all : (i : ℕ) (es : List Event) → i + length es ≤ 2000 → read_from full i (map some es) ≡ es
unfolding read_from
read_all i [] k = refl
read_all i (e ∷ es) k = rw (lt-leb 2000 i (omega (arith, k))) (ap (λ (l : List Event). e ∷ l) (read_all (suc i) es (omega (arith, k))))

-- the rows hold the records of these events at their front
module _ (h : Counts) (es : List Event) (numbered : Numbered h 0 es) (small : Small es) (ws : List ℕ) (xs : List ℤ) where
  whats : List ℕ
  whats = map packed es ++ ws

  values : List ℤ
  values = map value_in es ++ xs

  same : (j : ℕ) → j < length es → record_at h whats values j ≡ record_at h (map packed es) (map value_in es) j
  unfolding record_at whats values
  same j q = ap₂ (event_in (line_after h j)) (get_or-append (map packed es) ws 0 j (omega (arith, q, length-map es packed))) (get_or-append (map value_in es) xs (pos 0) j (omega (arith, q, length-map es value_in)))

  back : from (record_at h whats values) 0 (length es) ≡ map some es
  unfolding row_lines
  back =
      from_same (record_at h whats values) (record_at h (map packed es) (map value_in es)) 0 (length es) (λ j p q. same j (omega (arith, q)))
      ∙ ap (from (record_at h (map packed es) (map value_in es)) 0) (sym (length-map es packed)) ∙ row_lines_law h es numbered small

  filled_all : (records : List Event) → length es ≤ 2000 → length es ≤ length records → filled h (map packed es ++ ws) (map value_in es ++ xs) (length es) records ≡ over es records
  unfolding filled fitting whats values
  filled_all records few fit =
      let e : min (min (length es) 2000) (min (length records) (min (length (map packed es ++ ws)) (length (map value_in es ++ xs)))) ≡ length es
      = omega (arith, few, fit, length-append (map packed es) ws, length-append (map value_in es) xs, length-map es packed, length-map es value_in) in
      ap (λ (k : ℕ). over (read_from full 0 (from (record_at h (map packed es ++ ws) (map value_in es ++ xs)) 0 k)) records) e
      ∙ ap (λ (l : List Event). over l records) (ap (read_from full 0) back ∙ read_all 0 es (omega (arith, few)))

neither : (a b : Bool) → (a || b) ≡ false → a ≡ false
neither false b q = refl
neither true b q = q

module _ (course : Course) (s : List ℕ) (records : List Event) (out list scratch : List ℕ) where
  abbrev m : Limits
  m = limits_of course

  u : UpToFull m
  u = up_to_full course

  abbrev lent : Bool
  lent = too_little m (length records) out list scratch

  many : lent ≡ false → 2000 ≤ length records
  unfolding lent_short
  many q = ltb-false (length records) 2000 (neither (ltb (length records) 2000) _ (neither (lent_short m (length records) (length out)) _ q))

  filled_marked : lent ≡ false → (w : Marked) → marked_of m s ≡ w → (ws : List ℕ) (xs : List ℤ) → ws ≡ over (map packed (read_in m s)) (replicate 2000 0) → xs ≡ over (map value_in (read_in m s)) (replicate 2000 (pos 0))
      → filled (head_in (trace_of m s)) ws xs (on_marked w (length (events_in m s)) 0) records ≡ on_marked w (over (events_in m s) records) records
  filled_marked q (refused number line) a ws xs e f = filled_none (head_in (trace_of m s)) ws xs records
  filled_marked q accepted a ws xs e f = rw (e, f, read_is m u s a) (filled_all (head_in (trace_of m s)) (events_in m s) (events_numbered m s) (events_declared m u s) _ _ records (events_few m u s) (omega (arith, events_few m u s, many q)))

  filled_lent : (b : Bool) → lent ≡ b → (r : Report) (ws : List ℕ) (xs : List ℤ)
      → r ≡ cond b too_little_report (report_of m s (ordering_of m s) (listing_of m s))
      → ws ≡ cond b (replicate 2000 0) (over (map packed (read_in m s)) (replicate 2000 0)) → xs ≡ cond b (replicate 2000 (pos 0)) (over (map value_in (read_in m s)) (replicate 2000 (pos 0)))
      → filled (head_in (trace_of m s)) ws xs r.events records ≡ cond b records (records_after m s (events_in m s) records)
  unfolding report_of count_of records_after
  filled_lent true q r ws xs c e f = ap (λ (x : Report). filled (head_in (trace_of m s)) ws xs x.events records) c ∙ filled_none (head_in (trace_of m s)) ws xs records
  filled_lent false q r ws xs c e f = ap (λ (x : Report). filled (head_in (trace_of m s)) ws xs x.events records) c ∙ filled_marked q (marked_of m s) refl ws xs e f

  -- the contract, from those of the calls
  pub fills_events : (r : Report) (h : Counts) (ws : List ℕ) (xs : List ℤ) (out' list' scratch' : List ℕ) → Lends m s (length records) (replicate 2000 0) (replicate 2000 (pos 0)) out list scratch r ws xs out' list' scratch' → h ≡ (head_in (trace_of m s))
      → (records' : List Event) → records' ≡ filled h ws xs r.events records → FillsEvents m s records out list scratch r records' out' list' scratch'
  fills_events r h ws xs out' list' scratch' c q records' e = record {
    reports = c.reports;
    fills = e ∙ ap (λ (h : Counts). filled h ws xs r.events records) q ∙ filled_lent lent refl r ws xs c.reports.says c.keeps c.beside;
  }

  -- no trace is found, and nothing is filled in
  pub fills_none : (r : Report) (f : Refusal) (ws : List ℕ) (xs : List ℤ) (out' list' scratch' : List ℕ) → Lends m s (length records) (replicate 2000 0) (replicate 2000 (pos 0)) out list scratch r ws xs out' list' scratch' → Err f ≡ trace_of m s
      → FillsEvents m s records out list scratch r records out' list' scratch'
  unfolding records_after marked_of
  fills_none r f ws xs out' list' scratch' c q = record { reports = c.reports; fills = by lent }
    where
      by : (b : Bool) → records ≡ cond b records (on_marked (marked_of m s) (over (events_in m s) records) records)
      by true = refl
      by false =
          sym (ap (λ (k : Marked). on_marked k (over (events_in m s) records) records)
          (ap (λ (t : Result Trace Refusal). refused_or (told t) (mark_read m (head_in (trace_of m s)) [] (lines_in m s))) (sym q)))
