-- Demand 3 of an accepted trace with guards: what is given for it is what `SerialAnswer` demands.
use Prim.Native.Nat.{ℕ, zero, suc, ◌+◌, ◌-◌, ◌≤◌, ◌<◌}
use native.Mathlib.Omega.{arith}
use mathlib.Core.Path.{◌≡◌, refl, sym, ap, ◌∙◌, subst}
use mathlib.Core.Bool.{Bool, true, false, cond, ◌&&◌}
use mathlib.Core.List.{List, [], ◌∷◌, map, reverse}
use lib.ListN.{length, length-map, length-reverse, take, drop}
use lib.Seq.{take_at}
use borrow.Author.Tests.{eqb-true}
use Rattle.rules.specs.declared.Event.{Event}
use Rattle.rules.specs.declared.Counts.{Counts}
use Rattle.rules.specs.Events.{of, locks}
use Rattle.rules.specs.Limits.{Limits, first_line}
use Rattle.rules.specs.Words.{locks_by}
use Rattle.rules.proofs.Bounds.{declares, first_line_high}
use Rattle.rules.proofs.Laws as Rules
use Rattle.rules.proofs.Marking.{mark_accepts}
use Rattle.decimal.specs.Text.{over}
use Rattle.trace.specs.Trace.{Guards}
use Rattle.serial.specs.Lists.{All}
use Rattle.sections.specs.Places.{position, nth, at_position, event_at, unlocks_by, passes, lock_at, unlock_at}
use Rattle.sections.specs.CriticalSections.{Entry, CriticalSection}
use Rattle.sections.specs.Denials.{Denial, fit, denied}
use Rattle.sections.specs.Demand3.{AcceptedTrace, Demand3}
use Rattle.sections.specs.Refusals.{denial}
use Rattle.sections.specs.Order.{order}
use Rattle.sections.specs.Entries.{entry_code, entry_in}
use Rattle.sections.proofs.Valid.{Declared}
use Rattle.sections.proofs.Demand3.{trace_declared, demand_3}
use Rattle.sections.proofs.Entries.{entry_back}
use Rattle.std.specs.Prelude.{Some, None, IsSome}
use Rattle.ordering.specs.declared.Ordering.{Ordering}
use Rattle.ordering.specs.Answer.{guard_of, answer_of, answer_for, entries_for, ordered, Given}
use Rattle.ordering.specs.Serial.{SerialAnswer}
use Rattle.ordering.proofs.Answering.{judged}

-- ---- the lines of an entry are event lines, and its thread is declared

false_true : false ≡ true → ⊥
false_true e = let z : ◌≡◌ {A = ℕ} 0 1 = cc in omega arith

-- the event that has n events before it is one of the list
record Found (f : Event → Bool) (P : Event → Type 0) (n : ℕ) (events : List Event) : Type 0 where
  event : Event
  passing : f event ≡ true
  has : P event
  inside : n < length events

found : (f : Event → Bool) (P : Event → Type 0) (n : ℕ) (events : List Event) → All P events → passes f (nth n events) ≡ true → Found f P n events
unfolding nth
found f P n [] a e = absurd (false_true e)
found f P zero (x ∷ events) a e = record { event = x; passing = e; has = a.0; inside = omega arith }
found f P (suc n) (x ∷ events) a e =
    let r = found f P n events a.1 e in
    let q = r.inside in
    record { event = r.event; passing = r.passing; has = r.has; inside = omega arith }

both_right : (a b : Bool) → a && b ≡ true → b ≡ true
both_right true b e = e
both_right false b e = absurd (false_true e)

all_unit : (events : List Event) → All (λ (e : Event). Unit {0}) events
all_unit [] = tt
all_unit (e ∷ events) = (tt, all_unit events)

-- an entry of a trace: its thread is below 8 and its lines are below 4,096
pub record Small (s : Entry) : Type 0 where
  pub thread : s.thread < 8
  pub first : s.first < 4096
  pub last : s.last < 4096

-- such entries are read back from their numbers
pub codes_back : (ss : List Entry) → All Small ss → map entry_in (map entry_code ss) ≡ ss
codes_back [] k = refl
codes_back (s ∷ ss) k = λ i. entry_back s k.0.first k.0.last i ∷ codes_back ss k.1 i

module _ (h : Counts) (events : List Event) where
  found_at : (f : Event → Bool) (P : Event → Type 0) (line : ℕ) → All P events → passes f (event_at h line events) ≡ true
      → (n : ℕ) × (Found f P n events) × (line ≡ n + first_line h)
  unfolding event_at position at_position
  found_at f P line a e = by (suc line - first_line h) refl e
    where
      by : (p : ℕ) → suc line - first_line h ≡ p → passes f (at_position p events) ≡ true → (n : ℕ) × (Found f P n events) × (line ≡ n + first_line h)
      by zero q e = absurd (false_true e)
      by (suc n) q e = (n, found f P n events a e, omega arith)

  -- a line in which an event stands
  pub line_low : (f : Event → Bool) (line : ℕ) → passes f (event_at h line events) ≡ true → line < length events + first_line h
  line_low f line e =
      let x = found_at f (λ e. Unit {0}) line (all_unit events) e in
      let i = x.1.inside in
      let q = x.2 in
      omega arith

  module _ (t : h.threads ≤ 8) (d : All (Declared h) events) (l : length events ≤ 2000) where
    small_entry : (s : Entry) → CriticalSection h events s → Small s
    unfolding lock_at unlock_at
    small_entry s c =
        let x = found_at (locks_by s.thread) (Declared h) s.first d c.opens in
        let w : x.1.event.thread ≡ s.thread = eqb-true x.1.event.thread s.thread (unfold locks_by of in both_right (locks x.1.event) _ x.1.passing) in
        let k = x.1.has.0 in
        let i = line_low (locks_by s.thread) s.first c.opens in
        let j = line_low (unlocks_by s.thread) s.last c.closes in
        let m = first_line_high h in
        record { thread = omega arith; first = omega arith; last = omega arith }

    small_all : (ss : List Entry) → All (CriticalSection h events) ss → All Small ss
    small_all [] c = tt
    small_all (s ∷ ss) c = (small_entry s c.0, small_all ss c.1)

-- ---- a trace that is accepted

module _ (m : Limits) (h : Counts) (locks : List ℕ) (events : List Event) (a : AcceptedTrace m h events) where
  abbrev guard : ℕ → ℕ
  guard = guard_of locks

  pub few : length events ≤ 2000
  few =
      let n = length-reverse events in
      let k = a.limits.events in
      omega (arith, Rules.few m h (reverse events) a.limits.excess (mark_accepts m h events a.marked))

  whole : Demand3 h guard events (denial h guard events) (order h events)
  whole = demand_3 m h guard events a

  -- the entries of a fit trace
  pub small : denial h guard events ≡ fit → All Small (order h events)
  small f =
      let k = a.limits.threads in
      small_all h events (omega (arith, (declares m h a.head).threads)) (trace_declared m h events a) few (order h events) (whole.listed f).sound

  pub fit_codes : denial h guard events ≡ fit → map entry_in (entries_for h events) ≡ order h events
  unfolding entries_for
  fit_codes f = codes_back (order h events) (small f)

  -- where an order is denied, nothing is said of the entries
  nothing : (number line : ℕ) {ss ss' : List Entry} → Demand3 h guard events (denied number line) ss → Demand3 h guard events (denied number line) ss'
  nothing number line d = record {
    only_when = d.only_when;
    when = d.when;
    otherwise = d.otherwise;
    listed = λ f. absurd (never f);
    every = λ f. absurd (never f);
    uses = λ f. absurd (never f);
    ends = λ f. absurd (never f);
  }
    where
      never : denied number line ≡ fit → ⊥
      never f = let z : ◌≡◌ {A = ℕ} 0 1 = cc in omega arith

  -- what is answered to a denial, and the list then
  serial : (d : Denial) → denial h guard events ≡ d → (list list' : List ℕ) → list' ≡ cond (ordered (answer_of d (length (order h events)))) (over (entries_for h events) list) list
      → SerialAnswer h (Some locks) events (answer_of d (length (order h events))) list'
  unfolding answer_of
  serial fit q list list' w =
      subst (λ (ss : List Entry). Demand3 h guard events fit ss) (sym listed) (subst (λ (x : Denial). Demand3 h guard events x (order h events)) q whole)
    where
      count : length (entries_for h events) ≡ length (order h events)
      count = unfold entries_for in length-map (order h events) entry_code

      listed : map entry_in (take (length (order h events)) list') ≡ order h events
      listed =
          ap (λ (ws : List ℕ). map entry_in (take (length (order h events)) ws)) w
          ∙ ap (λ (ws : List ℕ). map entry_in ws) (take_at (entries_for h events) (drop (length (entries_for h events)) list) (length (order h events)) count)
          ∙ fit_codes q
  serial (denied number line) q list list' w = nothing number line (subst (λ (x : Denial). Demand3 h guard events x (order h events)) q whole)

  given_with : (list scratch : List ℕ) (o : Ordering) (list' scratch' : List ℕ) → Given (answer_for h (Some locks) events) (entries_for h events) list scratch o list' scratch' → SerialAnswer h (Some locks) events o list'
  given_with list scratch o list' scratch' c =
      let said = judged h events locks in
      subst (λ (x : Ordering). SerialAnswer h (Some locks) events x list') (sym (c.answers ∙ said))
      (serial (denial h guard events) refl list list' (c.lists ∙ ap (λ (x : Ordering). cond (ordered x) (over (entries_for h events) list) list) said))

-- Demand 3: with guards, what is given for the trace is an order or a denial, as demanded.
pub demand_3_given : (m : Limits) (h : Counts) (g : Guards) (events : List Event) → AcceptedTrace m h events → IsSome g → (list scratch : List ℕ) (o : Ordering) (list' scratch' : List ℕ)
    → Given (answer_for h g events) (entries_for h events) list scratch o list' scratch' → SerialAnswer h g events o list'
demand_3_given m h (Some locks) events a w list scratch o list' scratch' c = given_with m h locks events a list scratch o list' scratch' c
demand_3_given m h None events a w list scratch o list' scratch' c = absurd (false_true w)
