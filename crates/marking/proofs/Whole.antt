-- A whole trace: what is known of one that is accepted, and of the events before the first refusal of any.
use Prim.Native.Nat.{ℕ, zero, suc, ◌≤◌}
use native.Mathlib.Omega.{arith}
use mathlib.Core.Path.{◌≡◌, refl, sym, ◌∙◌}
use mathlib.Core.Bool.{true}
use mathlib.Core.List.{List, [], ◌∷◌, ◌++◌, map, reverse, reverse_aux}
use mathlib.Core.Option.{Option, none, some}
use lib.Dec.{T}
use lib.ListN.{length, length-reverse}
use Rattle.rules.specs.declared.Event.{Event}
use Rattle.rules.specs.declared.Counts.{Counts}
use Rattle.rules.specs.Limits.{Limits, UpToFull, full, first_line, line_after, allowed}
use Rattle.rules.specs.Rules.{verdict, Accepted, Marked, accepted, refused, refused_or, told, mark, mark_read, passing, past_read}
use Rattle.lines.specs.Lines.{split_on}
use Rattle.rules.proofs.Laws.{passed, few, accepted_last, accepted_before}
use Rattle.rules.proofs.Bounds.{declared_bounds, allowed_full, allowed_bounds, subject_bound}
use Rattle.rules.proofs.Readings.{past_accepted, past_read_law, past_marked}
use Rattle.records.proofs.RowLaws.{Numbered, Small}
use Rattle.events.specs.Events.{event_of, readings, part_lines}
use Rattle.events.proofs.LinedLaws.{event_line_law}
use Rattle.trace.specs.Trace.{trace_of, events_of, head_in}
use Rattle.trace.proofs.TraceLaws.{found_allowed, not_found}
use Rattle.marking.specs.Marking.{lines_in, marked_of, past_of, events_in, read_in}

abbrev pub Both : Marked → Marked → Type 0
Both a b = (a ≡ accepted) × (b ≡ accepted)

pub both : (a b : Marked) → refused_or a b ≡ accepted → Both a b
both accepted b q = (refl, q)
both (refused n l) b q = absurd (let z : ◌≡◌ {A = ℕ} 0 1 = cc in omega arith)

small_turn : (es rest : List Event) → Small es → Small rest → Small (reverse_aux es rest)
small_turn [] rest k r = r
small_turn (e ∷ es) rest k r = small_turn es (e ∷ rest) k.3 (k.0, k.1, k.2, r)

-- a paper that is not found has no lines
pub no_lines : (m : Limits) (s : List ℕ) (n line : ℕ) → told (trace_of m s) ≡ refused n line → lines_in m s ≡ []
unfolding lines_in readings part_lines split_on events_of
no_lines m s n line q = rw (not_found m s n line q) refl

pub none_unfound : (m : Limits) (s : List ℕ) (n line : ℕ) → told (trace_of m s) ≡ refused n line → (es : List Event) (l : Option Event) (rs : List (Option Event)) → lines_in m s ≡ map some es ++ (l ∷ rs) → ⊥
none_unfound m s n line q es l rs r = never es (sym r ∙ no_lines m s n line q)
  where
    never : (es : List Event) → map some es ++ (l ∷ rs) ≡ [] → ⊥
    never [] q = let z : ◌≡◌ {A = ℕ} 0 1 = cc in omega arith
    never (x ∷ es) q = let z : ◌≡◌ {A = ℕ} 0 1 = cc in omega arith

module _ (m : Limits) where
  -- ---- an accepted trace

  -- it is found, and no line of it is refused
  whole : (s : List ℕ) → marked_of m s ≡ accepted → Both (told (trace_of m s)) (mark_read m (head_in (trace_of m s)) [] (lines_in m s))
  unfolding marked_of
  whole s a = both (told (trace_of m s)) (mark_read m (head_in (trace_of m s)) [] (lines_in m s)) a

  pub found_is : (s : List ℕ) → marked_of m s ≡ accepted → told (trace_of m s) ≡ accepted
  found_is s a = (whole s a).0

  pub head_allowed : (s : List ℕ) → marked_of m s ≡ accepted → allowed m (head_in (trace_of m s)) ≡ true
  head_allowed s a = found_allowed m s (found_is s a)

  -- ---- the events before the first refusal

  pub past_clean : (s : List ℕ) → T (Accepted m (head_in (trace_of m s)) (past_of m s))
  unfolding past_of
  past_clean s = past_accepted m (head_in (trace_of m s)) [] (lines_in m s) (unfold Accepted in tt)

  pub events_marked : (s : List ℕ) → mark m (head_in (trace_of m s)) (events_in m s) ≡ accepted
  unfolding events_in past_of
  events_marked s = past_marked m (head_in (trace_of m s)) (lines_in m s)

  -- ---- each stands in its line

  module _ (h : Counts) where
    -- the latest first
    abbrev Turned : List Event → Type 0
    Turned [] = Unit {0}
    Turned (e ∷ es) = (e.line ≡ line_after h (length es)) × Turned es

    turned : (es : List Event) (n : ℕ) (ls : List (List ℕ)) → n ≡ line_after h (length es) → Turned es → Turned (past_read m h es (readings m.width n ls))
    unfolding past_read readings
    turned es n [] q k = k
    turned es n (l ∷ ls) q k = by (event_of m.width n l) refl (λ e z. turned (e ∷ es) (suc n) ls (omega (arith, q)) (z ∙ q, k))
      where
        go : (e : Event) (v : ℕ) → Turned (past_read m h (e ∷ es) (readings m.width (suc n) ls)) → Turned (passing v es (past_read m h (e ∷ es) (readings m.width (suc n) ls)))
        go e zero r = r
        go e (suc v) r = k

        by : (o : Option Event) → event_of m.width n l ≡ o → ((e : Event) → e.line ≡ n → Turned (past_read m h (e ∷ es) (readings m.width (suc n) ls))) → Turned (past_read m h es (o ∷ readings m.width (suc n) ls))
        by none z r = k
        by (some e) z r = go e (verdict m h es e) (r e (event_line_law m.width n l e z))

    -- in their own order
    turn : (es rest : List Event) → Turned es → Numbered h (length es) rest → Numbered h 0 (reverse_aux es rest)
    turn [] rest k r = r
    turn (e ∷ es) rest k r = turn es (e ∷ rest) k.1 (k.0, r)

  pub events_numbered : (s : List ℕ) → Numbered (head_in (trace_of m s)) 0 (events_in m s)
  unfolding events_in past_of lines_in
  events_numbered s = turn h (past_of m s) [] (turned h [] (first_line h) (part_lines (events_of s (trace_of m s))) (omega arith) tt) tt
    where
      h : Counts
      h = (head_in (trace_of m s))

  -- a trace that is not found has no events
  pub none_found : (s : List ℕ) (n line : ℕ) → told (trace_of m s) ≡ refused n line → events_in m s ≡ []
  unfolding events_in past_of past_read
  none_found s n line q = rw (no_lines m s n line q) refl

-- by limits up to the full ones
module _ (m : Limits) (u : UpToFull m) where
  -- the events that are read are all
  pub read_is : (s : List ℕ) → marked_of m s ≡ accepted → read_in m s ≡ events_in m s
  unfolding read_in events_in past_of
  read_is s a = sym (past_read_law m (head_in (trace_of m s)) (lines_in m s) u.excess (whole m s a).1)

  -- at most 2,000 events are accepted
  pub events_few : (s : List ℕ) → length (events_in m s) ≤ 2000
  unfolding events_in
  events_few s = omega (arith, u.events, length-reverse (past_of m s), few m (head_in (trace_of m s)) (past_of m s) u.excess (past_clean m s))

  -- ---- and is declared: its thread is below 8, its variable or lock below 16

  small_past : (h : Counts) (es : List Event) → allowed full h ≡ true → T (Accepted m h es) → Small es
  unfolding verdict
  small_past h [] a c = tt
  small_past h (e ∷ es) a c =
      let k = (passed m h _ e u.excess (accepted_last m h e es c)).known in
      let d = declared_bounds h e a k in
      (omega (arith, d.0), omega (arith, subject_bound h e k, allowed_bounds h a), omega (arith, d.1), small_past h es a (accepted_before m h e es c))

  pub events_declared : (s : List ℕ) → Small (events_in m s)
  unfolding events_in
  events_declared s = by (told (trace_of m s)) refl
    where
      by : (k : Marked) → told (trace_of m s) ≡ k → Small (reverse (past_of m s))
      by accepted q = small_turn (past_of m s) [] (small_past (head_in (trace_of m s)) (past_of m s) (allowed_full m (head_in (trace_of m s)) u (found_allowed m s q)) (past_clean m s)) tt
      by (refused n line) q = rw (none_found m s n line q) tt
