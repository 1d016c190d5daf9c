-- Demand 3: an accepted trace with guards gets its order exactly when 20 to 22 deny none, and run whole in that order on the
-- sequential memory the sections give every use its value and leave every variable its value in main memory.
use Prim.Native.Nat.{ℕ, ◌*◌, ◌≤◌, ◌<◌}
use native.Mathlib.Omega.{arith}
use mathlib.Core.Path.{◌≡◌, refl, sym, ap, ◌∙◌, subst}
use mathlib.Core.Logic.{inl}
use mathlib.Core.Bool.{Bool, true, false}
use mathlib.Core.List.{List, [], map, reverse, reverse-reverse}
use lib.Dec.{T}
use lib.IntN.{pos}
use lib.ListN.{length, length-map, length-reverse}
use Rattle.rules.specs.declared.Event.{Event}
use Rattle.rules.specs.declared.Counts.{Counts}
use Rattle.rules.specs.Limits.{Limits, full}
use Rattle.rules.specs.Events.{locks}
use Rattle.rules.specs.Words.{count, main}
use Rattle.rules.specs.Rules.{mark, words_of, held, Accepted}
use Rattle.rules.proofs.Laws.{accepted_legal, is_true, few}
use Rattle.rules.proofs.Marking.{walk_accepts}
use Rattle.serial.specs.Lists.{All}
use Rattle.serial.proofs.Trace as Trace
use Rattle.sections.specs.View.{view}
use Rattle.sections.specs.Refusals.{unfinished, denial}
use Rattle.sections.specs.Order.{sections, order}
use Rattle.sections.specs.Places.{holds_some}
use Rattle.sections.specs.Sequential.{serially, zeros, after, given, stated}
use Rattle.sections.specs.Denials.{fit, Orderly}
use Rattle.sections.specs.Demand3.{AcceptedTrace, Demand3}
use Rattle.sections.proofs.Valid.{Valid, Declared, all_declared}
use Rattle.sections.proofs.Ordered.{all_turn, some_witness, spans, serial_order, fit_from, orderly}
use Rattle.sections.proofs.Places.{holds_then, so_far_all, holds_more}
use Rattle.sections.proofs.Sequence.{serially_view, after_view, given_view, stated_view}
use Rattle.sections.proofs.Listed.{listed}
use Rattle.sections.proofs.Every.{every}
use Rattle.sections.proofs.Denied.{Says, says, orderly_fit}
use Rattle.sections.proofs.Few.{section_locks, locks_half}

-- where nothing is held at the end, no thread holds anything after the last event
free_at_end : (h : Counts) (guard : ℕ → ℕ) (events : List Event) → Orderly h guard events → (t : ℕ) → holds_then h t events (length events) ≡ false
unfolding holds_some
free_at_end h guard events o t = holds_more h t (length events) events (reverse events) (so_far_all events) ∙ go (holds_some h t (reverse events)) refl
  where
    go : (b : Bool) → holds_some h t (reverse events) ≡ b → b ≡ false
    go true q =
        let l : (l : ℕ) × T (held (words_of (reverse events)) t l) = some_witness h.locks (λ l. held (words_of (reverse events)) t l) (subst T (sym q) tt) in
        absurd (o.finished (inl (record { thread = t; lock = l.0; held = is_true l.1 })))
    go false q = refl

marked_accepted : (m : Limits) (h : Counts) (events : List Event) → AcceptedTrace m h events → T (Accepted m h (reverse events))
marked_accepted m h events a = walk_accepts m h events [] (unfold Accepted in tt) (unfold mark in a.marked)

pub valid : (m : Limits) (h : Counts) (events : List Event) → AcceptedTrace m h events → Valid h (reverse events)
valid m h events a = accepted_legal m h (reverse events) a.limits.excess (marked_accepted m h events a)

pub trace_declared : (m : Limits) (h : Counts) (events : List Event) → AcceptedTrace m h events → All (Declared h) events
trace_declared m h events a = subst (λ l. All (Declared h) l) (reverse-reverse events) (all_turn (Declared h) (reverse events) [] (all_declared h (reverse events) (valid m h events a)) tt)

pub demand_3 : (m : Limits) (h : Counts) (guard : ℕ → ℕ) (events : List Event) → AcceptedTrace m h events → Demand3 h guard events (denial h guard events) (order h events)
demand_3 m h guard events a = record {
  only_when = only;
  when = orderly_fit h guard events d;
  otherwise = λ number line p. subst (λ x. Says h guard events x) p said;
  listed = λ p. listed h events d ok (free_at_end h guard events (only p));
  every = λ p line e i j. every h guard events d ok (only p) (free_at_end h guard events (only p)) line e i j;
  uses = uses;
  ends = ends;
}
  where
    d : All (Declared h) events
    d = trace_declared m h events a

    ok : Valid h (reverse events)
    ok = valid m h events a

    said : Says h guard events (denial h guard events)
    said = says h guard events d

    only : denial h guard events ≡ fit → Orderly h guard events
    only p = subst (λ x. Says h guard events x) p said

    ran : List Event
    ran = serially h (order h events) events

    view_ran : Trace.serially (map view events) (spans h events) ≡ map view ran
    view_ran = unfold order in (serially_view h) (reverse (sections h (reverse events))) events

    uses : denial h guard events ≡ fit → given ran zeros ≡ stated ran
    uses p = unfold zeros in
        (sym (given_view ran (λ v. pos 0)) ∙ rw (← view_ran) (serial_order h guard events ok d p).0 ∙ stated_view ran)

    ends : denial h guard events ≡ fit → (v : ℕ) → v < h.variables → after ran zeros v ≡ main v (reverse events)
    ends p v i = unfold zeros in
        (ap (λ f. f v) (sym (after_view ran (λ v. pos 0))) ∙ rw (← view_ran) ((serial_order h guard events ok d p).1 v i))

-- at the end of a trace with an order nothing is held or owed, and nobody waits
pub ended : (h : Counts) (guard : ℕ → ℕ) (events : List Event) → denial h guard events ≡ fit → unfinished h (reverse events) ≡ false
unfolding denial orderly
ended h guard events p = (fit_from h guard [] events p tt).1

-- such a trace has at most 1,000 K and C
pub locks_room : (m : Limits) (h : Counts) (events : List Event) → AcceptedTrace m h events → unfinished h (reverse events) ≡ false → 2 * count locks (reverse events) ≤ full.events
locks_room m h events a u = omega (
  arith,
  locks_half h (reverse events) (all_declared h (reverse events) (valid m h events a)) (valid m h events a) u,
  few m h (reverse events) a.limits.excess (marked_accepted m h events a),
  a.limits.events,
)

-- and its order at most 1,000 entries
pub room : (m : Limits) (h : Counts) (guard : ℕ → ℕ) (events : List Event) → AcceptedTrace m h events → denial h guard events ≡ fit → 2 * length (order h events) ≤ full.events
unfolding order
room m h guard events a p =
    simp (length-map, length-reverse)
    (omega (arith, section_locks h (reverse events) (all_declared h (reverse events) (valid m h events a)), locks_room m h events a (ended h guard events p)))
