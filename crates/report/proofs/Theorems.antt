-- What holds of a whole trace, for every sequence of bytes.
use Prim.Native.Nat.{ℕ, ◌≤◌, min}
use native.Mathlib.Omega.{arith}
use mathlib.Core.Path.{◌≡◌, ap}
use mathlib.Core.Bool.{false}
use Rattle.std.specs.Prelude.{IsSome}
use mathlib.Core.List.{List, reverse, reverse-reverse}
use lib.IntN.{ℤ}
use lib.ListN.{length}
use borrow.Author.Tests.{le-ltb}
use Rattle.rules.specs.declared.Course.{Course}
use Rattle.rules.specs.Events.{locks}
use Rattle.rules.specs.Limits.{Limits, UpToFull, limits_of, lent_short, order_short}
use Rattle.rules.specs.Words.{count}
use Rattle.rules.specs.Rules.{accepted}
use Rattle.trace.specs.Trace.{trace_of, head_in, guards_in}
use Rattle.marking.specs.Marking.{marked_of, past_of, events_in}
use Rattle.sections.proofs.Demand3.{ended, locks_room, room}
use Rattle.ordering.specs.declared.Ordering.TheVariants.{Ordered}
use Rattle.ordering.specs.Answer.{guard_of, locks_in, answer_for, entries_for, Given}
use Rattle.ordering.specs.Traces.{ordering_of, entries_of, SerialTrace}
use Rattle.ordering.proofs.Serial.{demand_3_given}
use Rattle.ordering.proofs.Traces.{accepted_trace, has_order}
use Rattle.report.specs.declared.Report.{Report}
use Rattle.report.specs.Report.{listing_of, brief_of, too_little, Reports, Fills}
use Rattle.report.proofs.Printed as Printed

-- by limits up to the full ones
module _ (m : Limits) (u : UpToFull m) where
  -- 32,768 bytes are enough for the listing of any bytes, with its order or without.
  pub listing_room : (s : List ℕ) → length (listing_of m s) ≤ 32768
  listing_room s = Printed.listing_room m u s

  pub brief_room : (s : List ℕ) → length (brief_of m s) ≤ 32768
  brief_room s = Printed.brief_room m u s

  -- An order has at most 1,000 entries,
  pub order_room : (s : List ℕ) (c : ℕ) → ordering_of m s ≡ Ordered c → c ≤ 1000
  order_room s c q =
      let f = has_order m u s c q in
      omega (arith, f.count, room m (head_in (trace_of m s)) (guard_of (locks_in (guards_in (trace_of m s)))) (events_in m s) (accepted_trace m u s f.accepts) f.undenied)

  -- and a trace that has one at most 1,000 K, for each of which there is one place of the scratch.
  pub scratch_room : (s : List ℕ) (c : ℕ) → ordering_of m s ≡ Ordered c → count locks (past_of m s) ≤ 1000
  unfolding events_in
  scratch_room s c q =
      let f = has_order m u s c q in
      let l = locks_room m (head_in (trace_of m s)) (events_in m s) (accepted_trace m u s f.accepts) (ended (head_in (trace_of m s)) (guard_of (locks_in (guards_in (trace_of m s)))) (events_in m s) f.undenied) in
      let e : count locks (reverse (events_in m s)) ≡ count locks (past_of m s) = ap (count locks) (reverse-reverse (past_of m s)) in
      omega (arith, l, e)

  -- Demand 3, for every sequence of bytes that marking accepts, with guards, where enough is lent: what `report::mark_lent` says of its
  -- order, and the numbers that then stand in the lent order list, are what `Demand3` demands.
  pub demand_3_lent : (s : List ℕ) (places : ℕ) (out list scratch : List ℕ) (r : Report) (out' list' scratch' : List ℕ) → Reports m s places out list scratch r out' list' scratch'
      → marked_of m s ≡ accepted → IsSome (guards_in (trace_of m s)) → too_little m places out list scratch ≡ false → SerialTrace m s r.ordering list'
  unfolding ordering_of entries_of
  demand_3_lent s places out list scratch r out' list' scratch' c a g e =
      demand_3_given m (head_in (trace_of m s)) (guards_in (trace_of m s)) (events_in m s) (accepted_trace m u s a) g list scratch r.ordering list' scratch' given
    where
      given : Given (answer_for (head_in (trace_of m s)) (guards_in (trace_of m s)) (events_in m s)) (entries_for (head_in (trace_of m s)) (events_in m s)) list scratch r.ordering list' scratch'
      given = rw (e, a) at c.orders

  -- The same of `report::mark_trace`.
  pub demand_3_trace : (s whats : List ℕ) (values : List ℤ) (out list scratch : List ℕ) (r : Report) (whats' : List ℕ) (values' : List ℤ) (out' list' scratch' : List ℕ)
      → Fills m s whats values out list scratch r whats' values' out' list' scratch'
      → marked_of m s ≡ accepted → IsSome (guards_in (trace_of m s)) → too_little m (min (length whats) (length values)) out list scratch ≡ false → SerialTrace m s r.ordering list'
  demand_3_trace s whats values out list scratch r whats' values' out' list' scratch' c = demand_3_lent s (min (length whats) (length values)) out list scratch r out' list' scratch' c.reports

-- 1,000 places of the order list and 1,000 of the scratch, or more, are enough for every sequence of bytes: what `report::mark_lent` says is its order
-- or its denial, its entries stand over the old order list, and the scratch is all zeros; without an order both are untouched.
pub order_enough : (course : Course) (s : List ℕ) (places : ℕ) (out list scratch : List ℕ) (r : Report) (out' list' scratch' : List ℕ) → Reports (limits_of course) s places out list scratch r out' list' scratch'
    → lent_short (limits_of course) places (length out) ≡ false → 1000 ≤ length list → 1000 ≤ length scratch → Given (ordering_of (limits_of course) s) (entries_of (limits_of course) s) list scratch r.ordering list' scratch'
unfolding order_short
order_enough course s places out list scratch r out' list' scratch' c e x y = rw (e, le-ltb (length list) 1000 x, le-ltb (length scratch) 1000 y) at c.orders
