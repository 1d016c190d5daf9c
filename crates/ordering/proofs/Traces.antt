-- A whole trace: marking hands back its head and the records of its events, and what is given for these is what is given for the bytes.
use Prim.Native.Nat.{ℕ}
use native.Mathlib.Omega.{arith}
use mathlib.Core.Path.{◌≡◌, refl, sym, ap, ◌∙◌, subst}
use mathlib.Core.Bool.{Bool, true, false, cond}
use mathlib.Core.List.{List, map}
use lib.IntN.{ℤ}
use lib.ListN.{length, take}
use Rattle.rules.specs.declared.Event.{Event}
use Rattle.rules.specs.declared.Counts.{Counts}
use Rattle.rules.specs.declared.Course.TheVariants.{Full}
use Rattle.std.specs.Prelude.{Result, Ok, Err, IsSome}
use Rattle.rules.specs.declared.Refusal.{Refusal}
use Rattle.rules.specs.Limits.{Limits, UpToFull, full, order_short}
use Rattle.rules.specs.Rules.{Marked, accepted, refused, told, on_marked}
use Rattle.rules.proofs.Bounds.{allowed_full, up_to_full}
use Rattle.rules.proofs.Courses.{marked_within}
use Rattle.decimal.specs.Text.{over}
use Rattle.trace.specs.Trace.{Guards, trace_of, head_in, guards_in}
use Rattle.records.specs.Records.{packed, value_in, row_events}
use Rattle.marking.specs.declared.Marking.{Marking}
use Rattle.marking.specs.Marking.{marked_of, events_in, read_in, marking_of, Marks}
use Rattle.marking.proofs.Whole.{head_allowed, events_marked, events_numbered}
use Rattle.marking.proofs.Handed.{is_accepted, head_is, guards_are, front_whats, front_values}
use Rattle.sections.specs.Denials.{fit}
use Rattle.sections.specs.Demand3.{AcceptedTrace}
use Rattle.sections.specs.Refusals.{denial}
use Rattle.sections.specs.Order.{order}
use Rattle.ordering.specs.declared.Ordering.{Ordering}
use Rattle.ordering.specs.declared.Ordering.TheVariants.{Ordered, NoOrder}
use Rattle.ordering.specs.declared.Outcome.{Outcome}
use Rattle.ordering.specs.Answer.{guard_of, locks_in, answer_for, entries_for, Given}
use Rattle.ordering.specs.Traces.{ordering_of, entries_of, SerialTrace, marking_in, ordering_in, OrdersTrace}
use Rattle.ordering.specs.Computed.Parts.{Fits}
use Rattle.ordering.proofs.RowEvents.{packed_fits, packed_events}
use Rattle.ordering.proofs.Answering.{untouched, answered_fit}
use Rattle.ordering.proofs.Serial.{demand_3_given}

-- by limits up to the full ones
module _ (m : Limits) (u : UpToFull m) where
  -- ---- a trace that is accepted

  module _ (s : List ℕ) (a : marked_of m s ≡ accepted) where
    abbrev head : Counts
    head = head_in (trace_of m s)

    abbrev guards : Guards
    guards = guards_in (trace_of m s)

    abbrev events : List Event
    events = events_in m s

    pub accepted_trace : AcceptedTrace m (head_in (trace_of m s)) (events_in m s)
    accepted_trace = record { limits = u; head = head_allowed m s a; marked = events_marked m s }

    -- what is accepted by limits is accepted by the full ones
    full_trace : AcceptedTrace full (head_in (trace_of m s)) (events_in m s)
    full_trace = record { limits = up_to_full Full; head = allowed_full m head u (head_allowed m s a); marked = marked_within m full head events u.excess u.events (events_marked m s) }

    pub ordering_is : ordering_of m s ≡ answer_for (head_in (trace_of m s)) (guards_in (trace_of m s)) (events_in m s)
    unfolding ordering_of
    ordering_is = ap (λ (k : Marked). on_marked k (answer_for head guards events) NoOrder) a

  -- a trace that has an order, with c sections
  pub record HasOrder (s : List ℕ) (c : ℕ) : Type 0 where
    pub accepts : marked_of m s ≡ accepted
    pub undenied : denial (head_in (trace_of m s)) (guard_of (locks_in (guards_in (trace_of m s)))) (events_in m s) ≡ fit
    pub count : c ≡ length (order (head_in (trace_of m s)) (events_in m s))

  pub has_order : (s : List ℕ) (c : ℕ) → ordering_of m s ≡ Ordered c → HasOrder s c
  unfolding ordering_of
  has_order s c q = by (marked_of m s) refl q
    where
      by : (k : Marked) → marked_of m s ≡ k → on_marked k (answer_for (head_in (trace_of m s)) (guards_in (trace_of m s)) (events_in m s)) NoOrder ≡ Ordered c → HasOrder s c
      by accepted a q = let f = answered_fit (head_in (trace_of m s)) (guards_in (trace_of m s)) (events_in m s) c q in record { accepts = a; undenied = f.0; count = f.1 }
      by (refused number line) a q = absurd (let z : ◌≡◌ {A = ℕ} 0 1 = cc in omega arith)

  -- ---- what marking hands back of an accepted trace

  module _ (s whats : List ℕ) (values : List ℤ) (marking : Marking) (whats' : List ℕ) (values' : List ℤ) (k : Marks m s whats values (Ok marking) whats' values') where
    a : marked_of m s ≡ accepted
    a = is_accepted m u s whats values marking whats' values' k

    -- the rows that are ordered are its records
    abbrev At : (Counts → Guards → List ℕ → List ℤ → Type 0) → Type 0
    At P = P marking.head marking.guards (take marking.events whats') (take marking.events values')

    abbrev Of : (Counts → Guards → List ℕ → List ℤ → Type 0) → Type 0
    Of P = P (head_in (trace_of m s)) (guards_in (trace_of m s)) (map packed (events_in m s)) (map value_in (events_in m s))

    same : (P : Counts → Guards → List ℕ → List ℤ → Type 0) → At P ≡ Of P
    same P = λ i. P (head_is m u s whats values marking whats' values' k i) (guards_are m u s whats values marking whats' values' k i) (front_whats m u s whats values marking whats' values' k i) (front_values m u s whats values marking whats' values' k i)

    pub front_fits : Fits marking.head (take marking.events whats') (take marking.events values')
    front_fits =
        subst (λ (X : Type 0). X) (sym (same (λ h g ws xs. Fits h ws xs)))
        (packed_fits (head_in (trace_of m s)) (events_in m s) (full_trace s a) (events_numbered m s))

    -- what is given for them is what is given for the bytes
    pub front_given : (list scratch : List ℕ) (o : Ordering) (list' scratch' : List ℕ)
        → Given (answer_for marking.head marking.guards (row_events marking.head (take marking.events whats') (take marking.events values'))) (entries_for marking.head (row_events marking.head (take marking.events whats') (take marking.events values'))) list scratch o list' scratch'
        → Given (ordering_of m s) (entries_of m s) list scratch o list' scratch'
    unfolding entries_of
    front_given list scratch o list' scratch' v =
        subst (λ (x : Ordering). Given x (entries_for h es) list scratch o list' scratch') (sym (ordering_is s a))
        (subst (λ (l : List Event). Given (answer_for h g l) (entries_for h l) list scratch o list' scratch') (packed_events h es (full_trace s a) (events_numbered m s))
        (subst (λ (X : Type 0). X) (same (λ h g ws xs. Given (answer_for h g (row_events h ws xs)) (entries_for h (row_events h ws xs)) list scratch o list' scratch')) v))
      where
        h : Counts
        h = head_in (trace_of m s)

        g : Guards
        g = guards_in (trace_of m s)

        es : List Event
        es = events_in m s

  -- ---- the three outcomes

  module _ (s whats : List ℕ) (values : List ℤ) (list scratch : List ℕ) where
    abbrev lacks : Bool
    lacks = order_short m (length list) (length scratch)

    -- 7: nothing is touched
    pub orders_nothing : lacks ≡ true → OrdersTrace m s whats values list scratch (Err (record { number = 7; line = 0 })) whats values list scratch
    orders_nothing z = record {
      says = sym (ap (λ b. cond b (refused 7 0) (marked_of m s)) z);
      marks = sym (ap (λ b. cond b (Err (record { number = 7; line = 0 })) (marking_of m s)) z);
      keeps = sym (ap (λ b. cond b whats (over (map packed (read_in m s)) whats)) z);
      beside = sym (ap (λ b. cond b values (over (map value_in (read_in m s)) values)) z);
      gives = untouched (cond lacks NoOrder (ordering_of m s)) (entries_of m s) list scratch NoOrder (ap (λ b. cond b NoOrder (ordering_of m s)) z) refl;
    }

    module _ (z : lacks ≡ false) (r : Result Marking Refusal) (whats' : List ℕ) (values' : List ℤ) (k : Marks m s whats values r whats' values') where
      -- what is given for the bytes
      marked_given : (o : Result Outcome Refusal) (list' scratch' : List ℕ) → told o ≡ told r → marking_in o ≡ r → Given (ordering_of m s) (entries_of m s) list scratch (ordering_in o) list' scratch'
          → OrdersTrace m s whats values list scratch o whats' values' list' scratch'
      marked_given o list' scratch' t w v = record {
        says = t ∙ k.says ∙ sym (ap (λ b. cond b (refused 7 0) (marked_of m s)) z);
        marks = w ∙ k.gives ∙ sym (ap (λ b. cond b (Err (record { number = 7; line = 0 })) (marking_of m s)) z);
        keeps = k.keeps ∙ sym (ap (λ b. cond b whats (over (map packed (read_in m s)) whats)) z);
        beside = k.beside ∙ sym (ap (λ b. cond b values (over (map value_in (read_in m s)) values)) z);
        gives = subst (λ (x : Ordering). Given x (entries_of m s) list scratch (ordering_in o) list' scratch') (sym (ap (λ b. cond b NoOrder (ordering_of m s)) z)) v;
      }

    -- of the order of a refused trace nothing is said
    pub orders_refused : lacks ≡ false → (r : Refusal) (whats' : List ℕ) (values' : List ℤ) → Marks m s whats values (Err r) whats' values'
        → OrdersTrace m s whats values list scratch (Err r) whats' values' list scratch
    unfolding ordering_of
    orders_refused z r whats' values' k =
        marked_given z (Err r) whats' values' k (Err r) list scratch refl refl
        (untouched (ordering_of m s) (entries_of m s) list scratch NoOrder
        (ap (λ (x : Marked). on_marked x (answer_for (head_in (trace_of m s)) (guards_in (trace_of m s)) (events_in m s)) NoOrder) (sym k.says))
        refl)

    pub orders_accepted : lacks ≡ false → (marking : Marking) (whats' : List ℕ) (values' : List ℤ) → Marks m s whats values (Ok marking) whats' values' → (o : Ordering) (list' scratch' : List ℕ)
        → Given (answer_for marking.head marking.guards (row_events marking.head (take marking.events whats') (take marking.events values'))) (entries_for marking.head (row_events marking.head (take marking.events whats') (take marking.events values'))) list scratch o list' scratch'
        → OrdersTrace m s whats values list scratch (Ok (record { marking = marking; ordering = o })) whats' values' list' scratch'
    orders_accepted z marking whats' values' k o list' scratch' v =
        marked_given z (Ok marking) whats' values' k (Ok (record { marking = marking; ordering = o })) list' scratch' refl refl (front_given s whats values marking whats' values' k list scratch o list' scratch' v)

  -- ---- demand 3

  -- What is given for an accepted trace with guards, where enough is lent, is what demand 3 asks for.
  pub demand_3_ordered : (s whats : List ℕ) (values : List ℤ) (list scratch : List ℕ) (r : Result Outcome Refusal) (whats' : List ℕ) (values' : List ℤ) (list' scratch' : List ℕ)
      → OrdersTrace m s whats values list scratch r whats' values' list' scratch' → marked_of m s ≡ accepted → IsSome (guards_in (trace_of m s))
      → order_short m (length list) (length scratch) ≡ false → SerialTrace m s (ordering_in r) list'
  demand_3_ordered s whats values list scratch r whats' values' list' scratch' o a w z =
      demand_3_given m (head_in (trace_of m s)) (guards_in (trace_of m s)) (events_in m s) (accepted_trace s a) w list scratch (ordering_in r) list' scratch'
      (subst (λ (x : Ordering). Given x (entries_for (head_in (trace_of m s)) (events_in m s)) list scratch (ordering_in r) list' scratch')
      (ap (λ b. cond b NoOrder (ordering_of m s)) z ∙ ordering_is s a)
      (unfold entries_of in o.gives))
