-- Document 02 (e), of limits up to the full ones: a paper is over them in its head, or over them in its events, or marked as by the full ones.
use Prim.Native.Nat.{ℕ, ◌≤◌}
use native.Mathlib.Omega.{arith}
use borrow.Author.Tests.{le-ltb, ltb-false}
use mathlib.Core.Path.{◌≡◌, refl, sym, ap, ◌∙◌}
use mathlib.Core.Bool.{Bool, true, false, cond, false≢true}
use mathlib.Core.List.{List, [], ◌∷◌, ◌++◌, map, reverse}
use mathlib.Core.Logic.{◌⊎◌, inl, inr, ◌↔◌}
use mathlib.Core.Option.{Option, none, some}
use lib.Dec.{T, ltb}
use lib.ListN.{length, take, length-map, length-append}
use Rattle.rules.specs.declared.Event.{Event}
use Rattle.rules.specs.declared.Counts.{Counts}
use Rattle.rules.specs.Limits.{Limits, UpToFull, full, first_line, line_after, allowed, declared}
use Rattle.rules.specs.Rules.{words_of, judge, verdict, Marked, accepted, refused, told, line_in, refused_or, Accepted, mark_read, past_read, FirstBad}
use Rattle.rules.proofs.Bounds.{allowed_full}
use Rattle.rules.proofs.Courses.{Same, Over, within_or_over, over_marked, wrong_marked, no_row}
use Rattle.rules.proofs.Loads.{row_refused}
use Rattle.trace.specs.declared.Trace.{Trace}
use Rattle.rules.specs.declared.Refusal.{Refusal}
use Rattle.std.specs.Prelude.{Some, None, Result, Err}
use Rattle.std.specs.Prelude.{Option as Option'}
use Rattle.trace.specs.Trace.{too_long, over_limits, trailer_of, first_head, first_of, behind_trailer, plain_trace_of, trace_of, events_of, found, head_in}
use Rattle.trace.proofs.TraceLaws.{head_fit, trace_unfound, trace_same}
use Rattle.events.specs.Events.{readings, part_lines}
use Rattle.marking.specs.Marking.{lines_in, marked_of, past_of, read_in}
use Rattle.marking.specs.Courses.{OverHead, OverEvents, MarkedAlike, ByLimits, head, events, other}
use Rattle.marking.proofs.Whole.{none_unfound}
use Rattle.marking.proofs.Refused.{first_bad}

module _ (m : Limits) (u : UpToFull m) (bytes : m.bytes ≡ full.bytes) (width : m.width ≡ full.width) (volatiles : m.volatiles ≡ full.volatiles) (s : List ℕ) where
  -- ---- the head

  -- 25 after 3 for the head (line 1)
  head_found : OverHead m s → told (trace_of m s) ≡ refused m.excess 1
  unfolding plain_trace_of first_of
  head_found o =
      let q : length s ≤ m.bytes = omega (arith, o.few, bytes) in
      let p : plain_trace_of m s ≡ Err (over_limits m) = rw (le-ltb _ _ q, o.trailed, o.right, o.over) refl in
      ap found (trace_unfound m s (over_limits m) p)

  head_marked : OverHead m s → marked_of m s ≡ refused m.excess 1
  unfolding marked_of
  head_marked o = rw (head_found o) refl

  -- otherwise the same is found
  plain_or_same : OverHead m s ⊎ (plain_trace_of m s ≡ plain_trace_of full s)
  unfolding plain_trace_of first_of
  plain_or_same = by (ltb full.bytes (length s)) refl (trailer_of s) refl
    where
      same : (b : Bool) (t : Option' ℕ) → ltb full.bytes (length s) ≡ b → trailer_of s ≡ t → cond b (Err too_long) (behind_trailer m s t) ≡ cond b (Err too_long) (behind_trailer full s t)
          → cond (ltb m.bytes (length s)) (Err too_long) (behind_trailer m s (trailer_of s)) ≡ cond (ltb full.bytes (length s)) (Err too_long) (behind_trailer full s (trailer_of s))
      same b t p q r = (λ i. cond (ltb (bytes i) (length s)) (Err too_long) (behind_trailer m s (trailer_of s))) ∙ rw (p, q) r

      on : (e : ℕ) → trailer_of s ≡ Some e → ltb full.bytes (length s) ≡ false → (o : Option' Counts) → first_head (take e s) ≡ o
          → OverHead m s ⊎ (behind_trailer m s (Some e) ≡ behind_trailer full s (Some e))
      on e q z None ok = inr (rw ok refl)
      on e q z (Some c) ok = over (allowed m c) refl
        where
          over : (p : Bool) → allowed m c ≡ p → OverHead m s ⊎ (behind_trailer m s (Some e) ≡ behind_trailer full s (Some e))
          over true al = inr (rw (ok, al, allowed_full m c u al) refl)
          over false al = inl (record { at = e; few = ltb-false full.bytes (length s) z; trailed = q; counts = c; right = ok; over = al })

      last : (e : ℕ) → trailer_of s ≡ Some e → ltb full.bytes (length s) ≡ false → OverHead m s ⊎ (behind_trailer m s (Some e) ≡ behind_trailer full s (Some e))
          → OverHead m s ⊎ (cond (ltb m.bytes (length s)) (Err too_long) (behind_trailer m s (trailer_of s)) ≡ cond (ltb full.bytes (length s)) (Err too_long) (behind_trailer full s (trailer_of s)))
      last e q z (inl o) = inl o
      last e q z (inr r) = inr (same false (Some e) z q r)

      by : (b : Bool) → ltb full.bytes (length s) ≡ b → (t : Option' ℕ) → trailer_of s ≡ t
          → OverHead m s ⊎ (cond (ltb m.bytes (length s)) (Err too_long) (behind_trailer m s (trailer_of s)) ≡ cond (ltb full.bytes (length s)) (Err too_long) (behind_trailer full s (trailer_of s)))
      by true z t q = inr (same true t z q refl)
      by false z None q = inr (same false None z q refl)
      by false z (Some e) q = last e q z (on e q z (first_head (take e s)) refl)

  head_or_same : OverHead m s ⊎ (trace_of m s ≡ trace_of full s)
  head_or_same = by plain_or_same
    where
      by : OverHead m s ⊎ (plain_trace_of m s ≡ plain_trace_of full s) → OverHead m s ⊎ (trace_of m s ≡ trace_of full s)
      by (inl o) = inl o
      by (inr p) = inr (trace_same m full s volatiles p)

  -- ---- the events

  module _ (t : trace_of m s ≡ trace_of full s) where
    abbrev h : Counts
    h = (head_in (trace_of full s))

    same_lines : lines_in m s ≡ lines_in full s
    unfolding lines_in
    same_lines = (λ i. readings (width i) (first_line (head_in (t i))) (part_lines (events_of s (t i))))

    -- what is marked, with the lines of the full limits
    marked_of_law : marked_of m s ≡ refused_or (told (trace_of full s)) (mark_read m h [] (lines_in full s))
    unfolding marked_of
    marked_of_law = λ i. refused_or (told (t i)) (mark_read m (head_in (t i)) [] (same_lines i))

    past_of_law : past_of m s ≡ past_read m h [] (lines_in full s)
    unfolding past_of
    past_of_law = λ i. past_read m (head_in (t i)) [] (same_lines i)

    events_or_alike : OverEvents m s ⊎ MarkedAlike m s
    unfolding Accepted
    events_or_alike = by (told (trace_of full s)) refl (within_or_over m full h u.events [] (lines_in full s) (omega arith) tt)
      where
        not_both : accepted ≡ refused m.excess 1 → ⊥
        not_both p = let z : ◌≡◌ {A = ℕ} 0 1 = cc in omega arith

        by : (f : Marked) → told (trace_of full s) ≡ f → Same m full h [] (lines_in full s) ⊎ Over m full h [] (lines_in full s) → OverEvents m s ⊎ MarkedAlike m s
        by f q (inl r) = inr (record {
          trace = t;
          marked = marked_of_law ∙ ap (refused_or (told (trace_of full s))) r.marked ∙ (unfold marked_of in refl);
          past = past_of_law ∙ r.past ∙ (unfold past_of in refl);
        })
        by (refused n line) q (inr o) = absurd (none_unfound full s n line q o.earlier (some o.event) o.rest o.lines)
        by accepted q (inr o) = inl (record {
          within = λ v. not_both (sym (ap (λ (x : Result Trace Refusal). told x) t ∙ q) ∙ head_found v);
          earlier = o.earlier;
          event = o.event;
          rest = o.rest;
          lines = o.lines;
          count = omega (arith, o.count);
          clean = o.clean;
        })

  found_with : (earlier : List Event) (l : Option Event) (rest : List (Option Event)) → lines_in full s ≡ map some earlier ++ (l ∷ rest) → told (trace_of full s) ≡ accepted
  found_with earlier l rest q = by (told (trace_of full s)) refl
    where
      by : (f : Marked) → told (trace_of full s) ≡ f → f ≡ accepted
      by accepted r = refl
      by (refused n line) r = absurd (none_unfound full s n line r earlier l rest q)

  -- a paper with a line is found, and so marked by its lines
  marked_on : trace_of m s ≡ trace_of full s → (earlier : List Event) (l : Option Event) (rest : List (Option Event)) → lines_in full s ≡ map some earlier ++ (l ∷ rest)
      → marked_of m s ≡ mark_read m (head_in (trace_of full s)) [] (map some earlier ++ (l ∷ rest))
  marked_on t earlier l rest q = marked_of_law t ∙ (λ i. refused_or (found_with earlier l rest q i) (mark_read m (head_in (trace_of full s)) [] (q i)))

  same_within : (OverHead m s → ⊥) → trace_of m s ≡ trace_of full s
  same_within n = by head_or_same
    where
      by : OverHead m s ⊎ (trace_of m s ≡ trace_of full s) → trace_of m s ≡ trace_of full s
      by (inl o) = absurd (n o)
      by (inr t) = t

  -- 25 in place of 9 for events
  over_events : OverEvents m s → marked_of m s ≡ refused m.excess (line_after (head_in (trace_of full s)) m.events)
  over_events o =
      marked_on (same_within o.within) o.earlier (some o.event) o.rest o.lines
      ∙ over_marked m full (head_in (trace_of full s)) o.earlier (omega arith) o.count o.clean o.event o.rest u.excess

  -- ---- every paper

  -- A paper is over the limits in its head, or in its events, and refused for it; or it is marked as by the full limits.
  pub over_or_alike : ByLimits m s (MarkedAlike m s)
  over_or_alike = by head_or_same
    where
      on : OverEvents m s ⊎ MarkedAlike m s → ByLimits m s (MarkedAlike m s)
      on (inl o) = events o (over_events o)
      on (inr a) = other a

      by : OverHead m s ⊎ (trace_of m s ≡ trace_of full s) → ByLimits m s (MarkedAlike m s)
      by (inl o) = head o (head_marked o)
      by (inr t) = on (events_or_alike t)

  -- Where the full marker does not say this number, it is said exactly of a head that is over, at line 1, and of one event too many, at its line.
  pub excess_exact : ((line : ℕ) → marked_of full s ≡ refused m.excess line → ⊥) → (line : ℕ)
      → marked_of m s ≡ refused m.excess line ↔ ((OverHead m s × (line ≡ 1)) ⊎ (OverEvents m s × (line ≡ line_after (head_in (trace_of full s)) m.events)))
  excess_exact n line = (there over_or_alike, back)
    where
      there : ByLimits m s (MarkedAlike m s) → marked_of m s ≡ refused m.excess line → (OverHead m s × (line ≡ 1)) ⊎ (OverEvents m s × (line ≡ line_after (head_in (trace_of full s)) m.events))
      there (head o r) q = inl (o, ap line_in (sym q ∙ r))
      there (events o r) q = inr (o, ap line_in (sym q ∙ r))
      there (other a) q = absurd (n line (sym a.marked ∙ q))

      back : (OverHead m s × (line ≡ 1)) ⊎ (OverEvents m s × (line ≡ line_after (head_in (trace_of full s)) m.events)) → marked_of m s ≡ refused m.excess line
      back (inl o) = head_marked o.0 ∙ ap (refused m.excess) (sym o.1)
      back (inr o) = over_events o.0 ∙ ap (refused m.excess) (sym o.1)

  -- A paper within the limits, whose head is not over them and which has no more event lines than they allow, is marked as by the full ones.
  pub within_alike : (OverHead m s → ⊥) → length (lines_in full s) ≤ m.events → MarkedAlike m s
  within_alike n few = by (events_or_alike (same_within n))
    where
      by : OverEvents m s ⊎ MarkedAlike m s → MarkedAlike m s
      by (inr a) = a
      by (inl o) =
          let l = ap length o.lines ∙ length-append (map some o.earlier) (some o.event ∷ o.rest) in
          absurd (omega (arith, few, l, length-map o.earlier (λ (e : Event). some e), o.count))

  -- A line that is no event is 4 behind as many accepted events as are allowed.
  pub wrong_line : (OverHead m s → ⊥) → (earlier : List Event) (rest : List (Option Event)) → lines_in full s ≡ map some earlier ++ (none ∷ rest)
      → length earlier ≡ m.events → T (Accepted full (head_in (trace_of full s)) (reverse earlier)) → marked_of m s ≡ refused 4 (line_after (head_in (trace_of full s)) m.events)
  wrong_line n earlier rest q c a =
      marked_on (same_within n) earlier none rest q ∙ wrong_marked m full (head_in (trace_of full s)) earlier (omega arith) c a rest

-- The full marker never says 25.
pub never_said : (s : List ℕ) (line : ℕ) → marked_of full s ≡ refused 25 line → ⊥
never_said s line q = no_row (head_in (trace_of full s)) (words_of (reverse b.before)) b.event row.1
  where
    b : FirstBad full (head_in (trace_of full s)) (read_in full s) 25 line
    b = first_bad full (omega arith) s 25 line (λ p. omega (arith, p)) (λ o. o) q

    row : (declared (head_in (trace_of full s)) b.event ≡ true) × (judge (head_in (trace_of full s)) (words_of (reverse b.before)) b.event ≡ 25)
    row = unfold verdict in row_refused full (head_in (trace_of full s)) (words_of (reverse b.before)) b.event 25 (λ p. omega (arith, p)) (λ p. omega (arith, p)) b.number_is

-- A right head is never over the full limits.
pub never_over : (s : List ℕ) → OverHead full s → ⊥
never_over s o = false≢true (sym o.over ∙ (head_fit (take o.at s) o.counts o.right).fits)
