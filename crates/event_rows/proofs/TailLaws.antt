-- The events of a tail that are filled in: all of them, or none.
use Prim.Native.Nat.{ℕ, zero, suc, min, ◌+◌, ◌≤◌, ◌<◌}
use native.Mathlib.Omega.{arith}
use mathlib.Core.Path.{◌≡◌, refl, sym, ap, ◌∙◌, subst}
use mathlib.Core.Bool.{true, false}
use mathlib.Core.List.{List, [], ◌∷◌, ◌++◌, map, reverse_aux}
use lib.Dec.{T}
use lib.IntN.{ℤ, pos}
use lib.ListN.{length, get_or, drop, length-reverse}
use Rattle.rules.specs.declared.Event.{Event}
use Rattle.rules.specs.declared.Counts.{Counts}
use Rattle.rules.specs.Limits.{Limits, UpToFull, full, line_after, any_volatile, allowed}
use Rattle.rules.specs.Memories.{from}
use Rattle.rules.specs.Rules.{Marked, accepted, refused, on_marked, legal}
use Rattle.rules.proofs.Bounds.{allowed_bounds, allowed_full, declared_bounds, subject_bound, declares, first_line_high}
use Rattle.rules.proofs.From.{from_is}
use Rattle.rules.proofs.Laws.{or_false_left, or_false_right, legal_known, legal_before, accepted_legal}
use Rattle.decimal.specs.Text.{over}
use Rattle.records.specs.Records.{packed, value_in, unpacked}
use Rattle.records.proofs.RecordLaws.{held_back}
use Rattle.records.proofs.RowLaws.{Small}
use Rattle.trace.specs.Trace.{trace_of, head_in}
use Rattle.marking.specs.Marking.{marked_of, past_of, events_in}
use Rattle.marking.proofs.Whole.{head_allowed, past_clean, events_few}
use Rattle.tails.specs.Tails.{Move, numbered, moves_of, tail_after}
use Rattle.tails.proofs.Tails.{tail_finishes}
use Rattle.finishing.specs.declared.Tail.{Tail}
use Rattle.std.specs.Prelude.{Result, Ok, Err}
use Rattle.rules.specs.declared.Refusal.{Refusal}
use Rattle.finishing.specs.Tail.{some_new, tailless, tail_of, tail_verdict, answer_of, Gives}
use Rattle.finishing.proofs.Answers.{Tailed, all_ten, tail_few, verdict_same, verdict_short, verdict_given, verdict_tailed}
use Rattle.event_rows.specs.EventRows.{GivesEvents}
use Rattle.event_rows.specs.Computed.Lines.{event_on}
use Rattle.event_rows.proofs.FillLaws.{front}

-- ---- the records of a tail give its events back

-- at each place the event, in the line of that place
back_at : (n : ℕ) (ms : List Move) → Small (numbered n ms) → (ws : List ℕ) (xs : List ℤ) (d : Event) (j : ℕ) → j < length (numbered n ms)
    → event_on n (map packed (numbered n ms) ++ ws) (map value_in (numbered n ms) ++ xs) j ≡ get_or (numbered n ms) j d
unfolding numbered
back_at n [] s ws xs d j q = absurd (omega (arith, q))
back_at n (m ∷ ms) s ws xs d zero q =
    let e : Event = record { thread = m.thread; line = n; kind = m.kind } in
    let z : n + 0 ≡ n = omega arith in
    ap (λ (l : ℕ). unpacked l (packed e) (value_in e)) z ∙ held_back e s.0 s.1 s.2
back_at n (m ∷ ms) s ws xs d (suc j) q =
    let z : n + suc j ≡ suc n + j = omega arith in
    ap (λ (l : ℕ). unpacked l (get_or (map packed (numbered (suc n) ms) ++ ws) j 0) (get_or (map value_in (numbered (suc n) ms) ++ xs) j (pos 0))) z ∙ back_at (suc n) ms s.3 ws xs d j (omega (arith, q))

back : (n : ℕ) (ms : List Move) → Small (numbered n ms) → (ws : List ℕ) (xs : List ℤ) → from (event_on n (map packed (numbered n ms) ++ ws) (map value_in (numbered n ms) ++ xs)) 0 (length (numbered n ms)) ≡ numbered n ms
back n ms s ws xs =
    let f = event_on n (map packed (numbered n ms) ++ ws) (map value_in (numbered n ms) ++ xs) in
    let d = unpacked 0 0 (pos 0) in
    from_is f d (numbered n ms) 0 (λ j q. let z : 0 + j ≡ j = omega arith in ap f z ∙ back_at n ms s ws xs d j q)

-- the events of a legal tail are declared
small_tail : (h : Counts) → allowed full h ≡ true → (es past : List Event) → T (legal h (reverse_aux es past)) → Small es × T (legal h past)
small_tail h a [] past l = (tt, l)
small_tail h a (e ∷ es) past l =
    let r = small_tail h a es (e ∷ past) l in
    let k = legal_known h e past r.1 in
    let d = declared_bounds h e a k in
    ((omega (arith, d.0), omega (arith, subject_bound h e k, allowed_bounds h a), omega (arith, d.1), r.0), legal_before h e past r.1)

-- ---- by limits up to the full ones

module _ (m : Limits) (u : UpToFull m) (s : List ℕ) where
  abbrev h : Counts
  h = (head_in (trace_of m s))

  abbrev line : ℕ
  line = line_after (head_in (trace_of m s)) (length (past_of m s))

  tail_small : marked_of m s ≡ accepted → tailless m s ≡ false → Small (tail_of m s)
  unfolding tail_of tailless
  tail_small a q =
      let b = head_allowed m s a in
      let o = all_ten (past_of m s) (or_false_right (any_volatile h) (some_new (past_of m s)) q) in
      let l = accepted_legal m h (past_of m s) u.excess (past_clean m s) in
      let f = tail_finishes h (past_of m s) (omega (arith, (declares m h b).variables, u.variables)) (or_false_left (any_volatile h) (some_new (past_of m s)) q) o l in
      (small_tail h (allowed_full m h u b) (tail_after h (past_of m s)) (past_of m s) f.follows).0

  tail_back : Small (tail_of m s) → (ws : List ℕ) (xs : List ℤ) → from (event_on line (map packed (tail_of m s) ++ ws) (map value_in (tail_of m s) ++ xs)) 0 (length (tail_of m s)) ≡ tail_of m s
  unfolding tail_of tail_after
  tail_back k ws xs = back line (moves_of h _) k ws xs

  -- ---- a tail that is refused, or does not fit

  module _ (records : List Event) where
    none_given : (n l : ℕ) → tail_verdict m s (length records) ≡ refused n l → GivesEvents m s records (Err (record { number = n; line = l })) records
    none_given n l q = record {
      answers = sym (ap (λ (k : Marked). answer_of k (length (tail_of m s)) line) q);
      fills = sym (ap (λ (k : Marked). on_marked k (over (tail_of m s) records) records) q);
    }

    -- ---- from rows that have room for every tail

    module _ (ws₀ : List ℕ) (xs₀ : List ℤ) (x : length ws₀ ≡ 2256) (y : length xs₀ ≡ 2256) where
      all : min (length ws₀) (length xs₀) ≡ 2256
      all = omega (arith, x, y)

      made_is : (made : Result Tail Refusal) (ws : List ℕ) (xs : List ℤ) → Gives m s ws₀ xs₀ made ws xs → made ≡ answer_of (tail_verdict m s 2256) (length (tail_of m s)) line
      made_is made ws xs g = g.answers ∙ ap (λ (k : ℕ). answer_of (tail_verdict m s k) (length (tail_of m s)) line) all

      -- what is refused there is refused here
      pub gives_none : (r : Refusal) (ws : List ℕ) (xs : List ℤ) → Gives m s ws₀ xs₀ (Err r) ws xs → GivesEvents m s records (Err r) records
      gives_none r ws xs g = by (tail_verdict m s 2256) refl (made_is (Err r) ws xs g)
        where
          by : (k : Marked) → tail_verdict m s 2256 ≡ k → Err r ≡ answer_of k (length (tail_of m s)) line → GivesEvents m s records (Err r) records
          by accepted p q = absurd (let z : ◌≡◌ {A = ℕ} 0 1 = cc in omega arith)
          by (refused n l) p q = subst (λ (z : Result Tail Refusal). GivesEvents m s records z records) (sym q) (none_given n l (verdict_same m u s n l p (length records)))

      module _ (t : Tail) (ws : List ℕ) (xs : List ℤ) (g : Gives m s ws₀ xs₀ (Ok t) ws xs) where
        record Made : Type 0 where
          is_accepted : tail_verdict m s 2256 ≡ accepted
          tail_is : t ≡ record { events = length (tail_of m s); line = line }

        a_tail : Made
        a_tail = by (tail_verdict m s 2256) refl (made_is (Ok t) ws xs g)
          where
            by : (k : Marked) → tail_verdict m s 2256 ≡ k → Ok t ≡ answer_of k (length (tail_of m s)) line → Made
            by accepted p q = record { is_accepted = p; tail_is = cc }
            by (refused n l) p q = absurd (let z : ◌≡◌ {A = ℕ} 0 1 = cc in omega arith)

        d : Tailed m u s
        d = verdict_tailed m u s 2256 a_tail.is_accepted

        count : t.events ≡ length (tail_of m s)
        count = ap (λ (t : Tail). t.events) a_tail.tail_is

        pub tail_low : (t.line < 4294967296) × (t.events ≤ 2256)
        unfolding events_in
        tail_low =
            let l = ap (λ (t : Tail). t.line) a_tail.tail_is in
            (omega (arith, l, first_line_high h, events_few m u s, length-reverse (past_of m s)), omega (arith, count, tail_few m u s d.accepts d.tails))

        -- 24
        pub gives_short : length records < t.events → GivesEvents m s records (Err (record { number = 24; line = 0 })) records
        gives_short b = none_given 24 0 (verdict_short m u s d.accepts d.tails (length records) (omega (arith, b, count)))

        -- the records of the tail give its events back
        events_back : from (event_on t.line ws xs) 0 t.events ≡ tail_of m s
        events_back =
            (λ i. from (event_on (a_tail.tail_is i).line (whats_are i) (values_are i)) 0 (a_tail.tail_is i).events)
            ∙ tail_back (tail_small d.accepts d.tails) (drop (length (map packed (tail_of m s))) ws₀) (drop (length (map value_in (tail_of m s))) xs₀)
          where
            whats_are : ws ≡ over (map packed (tail_of m s)) ws₀
            whats_are = g.fills ∙ ap (λ (k : ℕ). on_marked (tail_verdict m s k) (over (map packed (tail_of m s)) ws₀) ws₀) all ∙ ap (λ (k : Marked). on_marked k (over (map packed (tail_of m s)) ws₀) ws₀) a_tail.is_accepted

            values_are : xs ≡ over (map value_in (tail_of m s)) xs₀
            values_are = g.beside ∙ ap (λ (k : ℕ). on_marked (tail_verdict m s k) (over (map value_in (tail_of m s)) xs₀) xs₀) all ∙ ap (λ (k : Marked). on_marked k (over (map value_in (tail_of m s)) xs₀) xs₀) a_tail.is_accepted

        pub gives_all : t.events ≤ length records → (records' : List Event) → records' ≡ front t.line ws xs records t.events → GivesEvents m s records (Ok t) records'
        gives_all b records' e =
            let v = verdict_given m u s d.accepts d.tails (length records) (omega (arith, b, count)) in
            record {
              answers = ap (λ (t : Tail). Ok t) a_tail.tail_is ∙ sym (ap (λ (k : Marked). answer_of k (length (tail_of m s)) line) v);
              fills = e ∙ ap (λ (l : List Event). over l records) events_back ∙ sym (ap (λ (k : Marked). on_marked k (over (tail_of m s) records) records) v);
            }
