-- The events of two rows that fit: those before an index, those from it on, and what is known of each.
use Prim.Native.Nat.{ℕ, zero, suc, ◌+◌, ◌-◌, ◌≤◌, ◌<◌}
use native.Mathlib.Omega.{arith}
use mathlib.Core.Path.{◌≡◌, refl, sym, ap, ◌∙◌, subst}
use mathlib.Core.Bool.{true, false}
use mathlib.Core.List.{List, [], ◌∷◌, map, reverse, reverse_aux, reverse-reverse}
use mathlib.Core.Option.{some}
use lib.Dec.{T}
use lib.IntN.{ℤ, pos}
use lib.ListN.{length, get_or, length-reverse}
use Rattle.rules.specs.declared.Event.{Event}
use Rattle.rules.specs.declared.Counts.{Counts}
use Rattle.rules.specs.Limits.{full, line_after, declared}
use Rattle.rules.specs.Events.{locks}
use Rattle.rules.specs.Words.{count}
use Rattle.rules.specs.Rules.{legal}
use Rattle.rules.proofs.Bounds.{allowed_bounds, declared_bounds, subject_bound}
use Rattle.rules.proofs.Laws.{few, legal_known, legal_before}
use Rattle.rules.proofs.Marking.{mark_accepts}
use Rattle.records.specs.Records.{packed, value_in, letter_in, thread_in, place_in, row_lines, event_at, row_events}
use Rattle.rules.specs.Memories.{from}
use Rattle.records.proofs.RecordLaws as Rec
use Rattle.records.proofs.RowLaws.{Numbered, Small, row_lines_law, row_back, lines_events, lines_lettered}
use Rattle.rules.proofs.From.{from_step, from_end, length_from}
use Rattle.serial.specs.Lists.{All}
use Rattle.sections.specs.Demand3.{AcceptedTrace}
use Rattle.sections.specs.Refusals.{unfinished}
use Rattle.sections.proofs.Valid.{Declared, to_declared}
use Rattle.sections.proofs.Ordered.{all_turn}
use Rattle.sections.proofs.Demand3.{valid, locks_room}
use Rattle.ordering.specs.Computed.Parts.{Fits, past, rank}
use Rattle.ordering.proofs.Scanned.{Reads, reads}

-- ---- the events before an index

module _ (ev : ℕ → Event) where
  pub past_length : (i : ℕ) → length (past ev i) ≡ i
  unfolding past
  past_length zero = refl
  past_length (suc i) = ap suc (past_length i)

  module _ (n : ℕ) where
    turned : (i : ℕ) → i ≤ n → reverse_aux (from ev i (n - i)) (past ev i) ≡ reverse (from ev 0 n)
    unfolding past
    turned zero h = ap (λ (k : ℕ). reverse (from ev 0 k)) {x = n - 0} {y = n} (omega arith)
    turned (suc i) h = sym (ap (λ (l : List Event). reverse_aux l (past ev i)) (from_step ev i n h)) ∙ turned i (omega arith)

    pub past_all : past ev n ≡ reverse (from ev 0 n)
    past_all = sym (ap (λ (l : List Event). reverse_aux l (past ev n)) (from_end ev n n (omega arith))) ∙ turned n (omega arith)

-- ---- what is known of each event

-- each event of an accepted trace is declared
abbrev Known : Counts → Event → Type 0
Known h e = declared h e ≡ true

trace_known : (h : Counts) (events : List Event) → AcceptedTrace full h events → All (Known h) events
trace_known h events a =
    subst (λ (l : List Event). All (Known h) l) (reverse-reverse events)
    (all_turn (Known h) (reverse events) [] (all_known (reverse events) (valid full h events a)) tt)
  where
    all_known : (es : List Event) → T (legal h es) → All (Known h) es
    all_known [] l = tt
    all_known (e ∷ es) l = (legal_known h e es l, all_known es (legal_before h e es l))

module _ (h : Counts) (ws : List ℕ) (xs : List ℤ) (f : Fits h ws xs) where
  abbrev es : List Event
  es = row_events h ws xs

  abbrev ev : ℕ → Event
  ev = event_at h ws xs

  pub row_few : length ws ≤ 2000
  unfolding row_events
  row_few =
      let n : length es ≡ length ws = length_from ev 0 (length ws) in
      let m = length-reverse es in
      omega (arith, few full h (reverse es) f.accepted.limits.excess (mark_accepts full h es f.accepted.marked))

  -- the events before an index are legal
  pub legal_past : (i : ℕ) → i ≤ length ws → T (legal h (past ev i))
  unfolding past row_events
  legal_past i b = go (length ws - i) i (omega (arith, b))
    where
      go : (m i : ℕ) → m + i ≡ length ws → T (legal h (past ev i))
      go zero i q = subst (λ (es : List Event). T (legal h es)) (sym (past_all ev (length ws)) ∙ ap (past ev) {x = length ws} {y = i} (omega (arith, q))) (valid full h es f.accepted)
      go (suc m) i q = legal_before h (ev i) (past ev i) (go m (suc i) (omega (arith, q)))

  pub known_at : (i : ℕ) → i < length ws → declared h (ev i) ≡ true
  unfolding past
  known_at i b = legal_known h (ev i) (past ev i) (legal_past (suc i) b)

  pub known_past : (i : ℕ) → i ≤ length ws → All (Declared h) (past ev i)
  unfolding past
  known_past zero b = tt
  known_past (suc i) b = (to_declared h (ev i) (known_at i b), known_past i (omega arith))

  -- where nothing is held at the end, the scratch that must be lent has a place for each K
  pub locks_few : unfinished h (past ev (length ws)) ≡ false → rank ev (length ws) ≤ full.scratch
  unfolding rank row_events
  locks_few u =
      let q : past ev (length ws) ≡ reverse es = past_all ev (length ws) in
      omega (arith, ap (count locks) q, locks_room full h es f.accepted (sym (ap (unfinished h) q) ∙ u))

  module _ (i : ℕ) (b : i < length ws) where
    whose : (ev i).thread ≡ thread_in (get_or ws i 0)
    unfolding event_at
    whose = Rec.thread_is (line_after h i) (get_or ws i 0) (get_or xs i (pos 0))

    pub thread_at : (t : ℕ) → t ≡ thread_in (get_or ws i 0) → t < 8
    thread_at t q = let z = (declared_bounds h (ev i) f.accepted.head (known_at i b)).0 in omega (arith, whose)

    pub reads_at_law : (k t p : ℕ) → k ≡ letter_in (get_or ws i 0) → t ≡ thread_in (get_or ws i 0) → p ≡ place_in (get_or ws i 0) → Reads k t p (ev i)
    unfolding event_at
    reads_at_law k t p x y z =
        let l = f.lettered i b in
        let w = Rec.place_is (line_after h i) (get_or ws i 0) (get_or xs i (pos 0)) l ∙ sym z in
        let low = (declared_bounds h (ev i) f.accepted.head (known_at i b)).1 in
        reads k t p (ev i) (Rec.letter_is (line_after h i) (get_or ws i 0) (get_or xs i (pos 0)) l ∙ sym x) (whose ∙ sym y) w (thread_at t y) (subst (λ (j : ℕ). j < 16) w low)

-- ---- rows that fit

module _ (h : Counts) (ws : List ℕ) (xs : List ℤ) where
  -- their lines are the events of an accepted trace
  pub trace_fits : (events : List Event) → AcceptedTrace full h events → row_lines h ws xs ≡ map some events → Fits h ws xs
  trace_fits events a q = record {
    lettered = lines_lettered h ws xs events q;
    accepted = subst (AcceptedTrace full h) (sym (lines_events h ws xs events q)) a;
  }

-- the records of an accepted trace whose events stand in their lines
module _ (h : Counts) (events : List Event) (a : AcceptedTrace full h events) (k : Numbered h 0 events) where
  small : Small events
  small = go events (trace_known h events a)
    where
      go : (es : List Event) → All (Known h) es → Small es
      go [] d = tt
      go (e ∷ es) d = let b = declared_bounds h e a.head d.0 in (omega (arith, b), omega (arith, subject_bound h e d.0, (allowed_bounds h a.head).0), omega (arith, b), go es d.1)

  pub packed_fits : Fits h (map packed events) (map value_in events)
  packed_fits = trace_fits h (map packed events) (map value_in events) events a (row_lines_law h events k small)

  pub packed_events : row_events h (map packed events) (map value_in events) ≡ events
  packed_events = row_back h events k small
