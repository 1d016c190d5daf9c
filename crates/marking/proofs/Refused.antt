-- The first bad event of a trace that is refused by 5 or by a row; and so, document 02 (a) and (d), what 15, 16 and 23 say of a paper.
use Prim.Native.Nat.{ℕ, suc, ◌<◌}
use native.Mathlib.Omega.{arith}
use mathlib.Core.Path.{◌≡◌, refl, sym, ap, ◌∙◌, subst}
use mathlib.Core.Bool.{Bool, true, false, cond}
use mathlib.Core.List.{List, [], ◌∷◌, reverse}
use mathlib.Core.Logic.{◌⊎◌, inl, inr}
use mathlib.Core.Option.{Option, none, some}
use lib.Dec.{T, leb}
use Rattle.rules.specs.declared.Event.{Event}
use Rattle.rules.specs.declared.Counts.{Counts}
use Rattle.rules.specs.Events.{letter, among, unlocks}
use Rattle.rules.specs.Limits.{Limits, full, line_after, allowed, declared}
use Rattle.rules.specs.Rules.{words_of, loc, on_some, breaks, rows, row_in, judge, verdict, Marked, accepted, refused, told, number_in, refused_or, mark, mark_read, FirstBad}
use Rattle.rules.specs.Reading.{read_from, stop_from}
use Rattle.rules.specs.DeadReads.{Dead}
use Rattle.rules.specs.PrescientStores.{made_unwritten}
use Rattle.rules.proofs.Laws.{broken_is, each_among, accepted_legal}
use Rattle.rules.proofs.Marking.{mark_refuses}
use Rattle.rules.proofs.Readings.{marked_apart}
use Rattle.rules.proofs.Loads.{row_refused, unlock_refused}
use Rattle.rules.proofs.DeadReads.{refused_dead}
use Rattle.rules.proofs.PrescientStores.{unlock_exact}
use Rattle.trace.specs.Trace.{trace_of, head_in}
use Rattle.trace.proofs.TraceLaws.{found_number}
use Rattle.marking.specs.Marking.{lines_in, marked_of, read_in}

-- what ends the reading is a line that is no event, or one event too many
stop_number : (m : Limits) (h : Counts) (n : ℕ) (rs : List (Option Event)) (number line : ℕ) → stop_from m h n rs ≡ refused number line → (number ≡ 4) ⊎ (number ≡ m.excess)
unfolding stop_from
stop_number m h n [] number line q = absurd (let z : ◌≡◌ {A = ℕ} 0 1 = cc in omega arith)
stop_number m h n (none ∷ rs) number line q = inl (sym (ap number_in q))
stop_number m h n (some e ∷ rs) number line q = go (leb m.events n) q (stop_number m h (suc n) rs number line)
  where
    go : (b : Bool) → cond b (refused m.excess (line_after h n)) (stop_from m h (suc n) rs) ≡ refused number line
        → (stop_from m h (suc n) rs ≡ refused number line → (number ≡ 4) ⊎ (number ≡ m.excess)) → (number ≡ 4) ⊎ (number ≡ m.excess)
    go true q r = inr (sym (ap number_in q))
    go false q r = r q

-- the first refusal of two
either : (a b : Marked) (number line : ℕ) → refused_or a b ≡ refused number line → (a ≡ refused number line) ⊎ (b ≡ refused number line)
either accepted b number line q = inr q
either (refused n l) b number line q = inl q

-- by limits for which one event too many has a number
module _ (m : Limits) (x : 0 < m.excess) where
  -- A trace that is refused with none of 1, 2, 3 and 6, of finding it, nor with 4, of what ends the reading, nor over the limits, has a first bad event
  -- among the events that are read.
  pub first_bad : (s : List ℕ) (number line : ℕ) → (m.excess ≡ number → ⊥) → (T (among (1 ∷ 2 ∷ 3 ∷ 6 ∷ 4 ∷ []) number) → ⊥) → marked_of m s ≡ refused number line
      → FirstBad m (head_in (trace_of m s)) (read_in m s) number line
  unfolding marked_of read_in
  first_bad s number line z o q = go (either (told (trace_of m s)) (mark_read m (head_in (trace_of m s)) [] (lines_in m s)) number line q)
    where
      h : Counts
      h = (head_in (trace_of m s))

      on : (mark m h (read_from m 0 (lines_in m s)) ≡ refused number line) ⊎ (stop_from m h 0 (lines_in m s) ≡ refused number line) → FirstBad m h (read_from m 0 (lines_in m s)) number line
      on (inl r) = mark_refuses m h (read_from m 0 (lines_in m s)) number line r
      on (inr r) = absurd (stops (stop_number m h 0 (lines_in m s) number line r))
        where
          stops : (number ≡ 4) ⊎ (number ≡ m.excess) → ⊥
          stops (inl p) = o (rw p tt)
          stops (inr p) = z (sym p)

      go : (told (trace_of m s) ≡ refused number line) ⊎ (mark_read m h [] (lines_in m s) ≡ refused number line) → FirstBad m h (read_from m 0 (lines_in m s)) number line
      go (inl r) = absurd (unfound (found_number m s number line r))
        where
          unfound : T (among (1 ∷ 2 ∷ 3 ∷ 6 ∷ []) number) ⊎ ((c : Counts) × (allowed full c ≡ true) × (allowed m c ≡ false) × (number ≡ m.excess) × (line ≡ 1)) → ⊥
          unfound (inl p) = o (each_among (among (1 ∷ 2 ∷ 3 ∷ 6 ∷ 4 ∷ [])) (1 ∷ 2 ∷ 3 ∷ 6 ∷ []) number tt p)
          unfound (inr p) = z (sym p.3)
      go (inr r) = on (either (mark m h (read_from m 0 (lines_in m s))) (stop_from m h 0 (lines_in m s)) number line (unfold mark in sym (marked_apart m h [] (lines_in m s) x) ∙ r))

  -- No paper is refused with 15 or 16 at an L: its first bad event is an N or Y. (Here and below, where one event too many has another number.)
  pub unlock_line : (s : List ℕ) (number line : ℕ) → (m.excess ≡ number → ⊥) → (number ≡ 15) ⊎ (number ≡ 16) → marked_of m s ≡ refused number line
      → (b : FirstBad m (head_in (trace_of m s)) (read_in m s) number line) × T (unlocks b.event)
  unlock_line s number line z o q = (b, unlock_refused m (head_in (trace_of m s)) (read_in m s) number line x z o b)
    where
      of_event : (number ≡ 15) ⊎ (number ≡ 16) → T (among (1 ∷ 2 ∷ 3 ∷ 6 ∷ 4 ∷ []) number) → ⊥
      of_event (inl p) i = subst (λ (n : ℕ). T (among (1 ∷ 2 ∷ 3 ∷ 6 ∷ 4 ∷ []) n)) p i
      of_event (inr p) i = subst (λ (n : ℕ). T (among (1 ∷ 2 ∷ 3 ∷ 6 ∷ 4 ∷ []) n)) p i

      b : FirstBad m (head_in (trace_of m s)) (read_in m s) number line
      b = first_bad s number line z (of_event o) q

  -- A paper that is refused with 16 is so at an N or Y of a thread that has an outstanding store whose assign is made.
  pub unwritten_line : (s : List ℕ) (line : ℕ) → (m.excess ≡ 16 → ⊥) → marked_of m s ≡ refused 16 line
      → (b : FirstBad m (head_in (trace_of m s)) (read_in m s) 16 line) × T (unlocks b.event) × (on_some (head_in (trace_of m s)) (λ t v. made_unwritten t v (reverse b.before)) b.event ≡ true)
  unwritten_line s line z q = (b, n, sym (unlock_exact h es (accepted_legal m h es x b.clean) b.event n) ∙ broken)
    where
      u : (b : FirstBad m (head_in (trace_of m s)) (read_in m s) 16 line) × T (unlocks b.event)
      u = unlock_line s 16 line z (inr refl) q

      b : FirstBad m (head_in (trace_of m s)) (read_in m s) 16 line
      b = u.0

      n : T (unlocks b.event)
      n = u.1

      h : Counts
      h = (head_in (trace_of m s))

      es : List Event
      es = reverse b.before

      broken : breaks 16 h (words_of es) b.event ≡ true
      broken = unfold judge verdict in broken_is (row_in rows (letter b.event.kind)) h (words_of es) b.event 15 (row_refused m h (words_of es) b.event 16 z (λ p. omega (arith, p)) b.number_is).1

  -- A paper that is refused with 23 is so at an event that leaves a read which can never be loaded.
  pub dead_line : (s : List ℕ) (line : ℕ) → (m.excess ≡ 23 → ⊥) → marked_of m s ≡ refused 23 line
      → (b : FirstBad m (head_in (trace_of m s)) (read_in m s) 23 line) × Dead (head_in (trace_of m s)) b.event.thread (loc b.event) (b.event ∷ reverse b.before)
  dead_line s line z q = (b, refused_dead h es b.event (accepted_legal m h es x b.clean) row.0 row.1)
    where
      b : FirstBad m (head_in (trace_of m s)) (read_in m s) 23 line
      b = first_bad s 23 line z (λ o. o) q

      h : Counts
      h = (head_in (trace_of m s))

      es : List Event
      es = reverse b.before

      row : (declared h b.event ≡ true) × (judge h (words_of es) b.event ≡ 23)
      row = unfold verdict in row_refused m h (words_of es) b.event 23 z (λ p. omega (arith, p)) b.number_is
