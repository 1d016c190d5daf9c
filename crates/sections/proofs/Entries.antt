-- The entries of a trace are small, and an entry is read back from its number.
use Prim.Native.Nat.{ℕ, zero, suc, ◌+◌, ◌*◌, ◌/◌, ◌%◌, ◌-◌, ◌≤◌, ◌<◌}
use native.Mathlib.Omega.{arith}
use mathlib.Core.Path.{◌≡◌, refl, ap, ◌∙◌}
use mathlib.Core.Bool.{Bool, true, false, ◌&&◌, false≢true}
use mathlib.Core.List.{List, [], ◌∷◌, map, reverse}
use lib.ListN.{length, length-reverse}
use borrow.Author.Tests.{eqb-true}
use Rattle.rules.specs.declared.Event.{Event}
use Rattle.rules.specs.declared.Counts.{Counts}
use Rattle.rules.specs.Events.{of, locks}
use Rattle.rules.specs.Limits.{Limits, UpToFull, full, first_line, line_after, allowed}
use Rattle.rules.specs.Words.{locks_by}
use Rattle.rules.proofs.Bounds.{declares, first_line_high}
use Rattle.rules.proofs.Laws.{few}
use Rattle.rules.proofs.Marking.{mark_accepts}
use Rattle.serial.specs.Lists.{All}
use Rattle.sections.specs.CriticalSections.{Entry, CriticalSection}
use Rattle.sections.specs.Demand3.{AcceptedTrace}
use Rattle.sections.specs.Denials.{fit}
use Rattle.sections.specs.Entries.{entry_code, entry_in}
use Rattle.sections.specs.Order.{order}
use Rattle.sections.specs.Places.{position, nth, at_position, event_at, unlocks_by, passes, lock_at, unlock_at}
use Rattle.sections.specs.Refusals.{denial}
use Rattle.sections.proofs.Valid.{Declared}
use Rattle.sections.proofs.Demand3.{trace_declared, demand_3}

-- an entry of a trace: its thread is below 8 and its lines are below 4,096
pub record Small (s : Entry) : Type 0 where
  pub thread : s.thread < 8
  pub first : s.first < 4096
  pub last : s.last < 4096

-- ---- read back

pub entry_back : (s : Entry) → s.first < 4096 → s.last < 4096 → entry_in (entry_code s) ≡ s
unfolding entry_code entry_in
entry_back s a b =
    let x : (s.thread * 16777216 + s.last * 4096 + s.first) / 16777216 ≡ s.thread = omega (arith, a, b) in
    let y : (s.thread * 16777216 + s.last * 4096 + s.first) % 4096 ≡ s.first = omega (arith, a, b) in
    let q : (s.thread * 16777216 + s.last * 4096 + s.first) / 4096 ≡ s.thread * 4096 + s.last = omega (arith, a, b) in
    let w : (s.thread * 4096 + s.last) % 4096 ≡ s.last = omega (arith, b) in
    let z : (s.thread * 16777216 + s.last * 4096 + s.first) / 4096 % 4096 ≡ s.last = ap (λ x. x % 4096) q ∙ w in
    rw (x, y, z)

pub codes_back : (ss : List Entry) → All Small ss → map entry_in (map entry_code ss) ≡ ss
codes_back [] k = refl
codes_back (s ∷ ss) k = λ i. entry_back s k.0.first k.0.last i ∷ codes_back ss k.1 i

-- ---- the lines of an entry are event lines, and its thread is declared

-- the event that has n events before it passes the test
record Found (f : Event → Bool) (P : Event → Type 0) (n : ℕ) (events : List Event) : Type 0 where
  event : Event
  passing : f event ≡ true
  has : P event
  inside : n < length events

nth_found : (f : Event → Bool) (P : Event → Type 0) (n : ℕ) (events : List Event) → All P events → passes f (nth n events) ≡ true → Found f P n events
unfolding nth
nth_found f P n [] a e = absurd (false≢true e)
nth_found f P zero (x ∷ events) a e = record { event = x; passing = e; has = a.0; inside = omega arith }
nth_found f P (suc n) (x ∷ events) a e =
    let r = nth_found f P n events a.1 e in
    let q = r.inside in
    record { event = r.event; passing = r.passing; has = r.has; inside = omega arith }

line_found : (f : Event → Bool) (P : Event → Type 0) (h : Counts) (events : List Event) (line : ℕ) → All P events → passes f (event_at h line events) ≡ true
    → (n : ℕ) × (Found f P n events) × (line ≡ line_after h n)
unfolding event_at position at_position
line_found f P h events line a e = by (suc line - first_line h) refl e
  where
    by : (p : ℕ) → suc line - first_line h ≡ p → passes f (at_position p events) ≡ true → (n : ℕ) × (Found f P n events) × (line ≡ line_after h n)
    by zero q e = absurd (false≢true e)
    by (suc n) q e = (n, nth_found f P n events a e, omega arith)

-- 4,096 lines are enough for what stands before the events and every event
lines_low : (h : Counts) → line_after h full.events ≤ 4096
lines_low h = omega (arith, first_line_high h)

threads_low : (m : Limits) (h : Counts) → UpToFull m → allowed m h ≡ true → h.threads ≤ 8
threads_low m h u e = omega (arith, (declares m h e).threads, u.threads)

both_right : (a b : Bool) → a && b ≡ true → b ≡ true
both_right true b e = e
both_right false b e = absurd (false≢true e)

module _ (m : Limits) (h : Counts) (events : List Event) (a : AcceptedTrace m h events) where
  trace_few : length events ≤ full.events
  trace_few = omega (arith, few m h (reverse events) a.limits.excess (mark_accepts m h events a.marked), length-reverse events, a.limits.events)

  small_entry : (s : Entry) → CriticalSection h events s → Small s
  unfolding lock_at unlock_at
  small_entry s c =
      let d = trace_declared m h events a in
      let x = line_found (locks_by s.thread) (Declared h) h events s.first d c.opens in
      let y = line_found (unlocks_by s.thread) (Declared h) h events s.last d c.closes in
      let t : x.1.event.thread ≡ s.thread = eqb-true x.1.event.thread s.thread (unfold locks_by of in both_right (locks x.1.event) _ x.1.passing) in
      let b = threads_low m h a.limits a.head in
      let k = x.1.has.0 in
      let i = x.1.inside in
      let j = y.1.inside in
      let p = x.2 in
      let q = y.2 in
      let n = trace_few in
      let l = lines_low h in
      record { thread = omega (arith, t, k, b); first = omega arith; last = omega arith }

  small_all : (ss : List Entry) → All (CriticalSection h events) ss → All Small ss
  small_all [] c = tt
  small_all (s ∷ ss) c = (small_entry s c.0, small_all ss c.1)

  -- of a trace that gets its order
  pub order_small : (guard : ℕ → ℕ) → denial h guard events ≡ fit → All Small (order h events)
  order_small guard p = small_all (order h events) ((demand_3 m h guard events a).listed p).sound

  pub order_back : (guard : ℕ → ℕ) → denial h guard events ≡ fit → map entry_in (map entry_code (order h events)) ≡ order h events
  order_back guard p = codes_back (order h events) (order_small guard p)
