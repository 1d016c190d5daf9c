-- What is given of the tail of a trace, from what marking hands back.
use Prim.Native.Nat.{ℕ, min, ◌≤◌, ◌<◌}
use native.Mathlib.Omega.{arith}
use mathlib.Core.Path.{◌≡◌, refl, sym, ap, ap₂, ◌∙◌, subst}
use mathlib.Core.Bool.{Bool, true, false, ◌||◌}
use mathlib.Core.List.{List, [], ◌∷◌, map, reverse, reverse-reverse}
use mathlib.Core.Option.{some}
use Rattle.std.specs.List.{zip}
use Rattle.std.specs.Prelude.{Result, Ok, Err}
use lib.Dec.{ltb}
use lib.IntN.{ℤ}
use lib.ListN.{length, take, drop, length-map, length-append, length-reverse}
use lib.Seq.{take_at}
use borrow.Author.Tests.{lt-ltb, le-ltb, ltb-true, ltb-false}
use Rattle.rules.specs.declared.Counts.{Counts}
use Rattle.rules.specs.declared.Event.{Event}
use Rattle.rules.specs.Events.{C, F, Y, among, letter, is}
use Rattle.rules.specs.Limits.{Limits, UpToFull, line_after, any_volatile}
use Rattle.rules.specs.Memories.{memories_of}
use Rattle.rules.specs.Rules.{Marked, accepted, refused, on_marked, words_of}
use Rattle.rules.specs.Ten.{AllTen, ten_letters}
use Rattle.rules.proofs.Bounds.{allowed_bounds, allowed_full}
use Rattle.rules.proofs.Laws.{or_false_left, or_false_right}
use Rattle.rules.proofs.Ten.{ten_letters_law}
use Rattle.decimal.specs.Text.{over}
use Rattle.decimal.proofs.TextLaws.{over_length}
use Rattle.records.specs.Records.{packed, value_in, onto}
use Rattle.records.proofs.Copies.{onto_all}
use Rattle.records.proofs.RecordLaws.{holds}
use Rattle.trace.specs.Trace.{head_in, trace_of}
use Rattle.marking.specs.declared.Marking.{Marking}
use Rattle.marking.specs.Marking.{marked_of, past_of, events_in, read_in, accepted_of, Marks}
use Rattle.marking.proofs.Whole.{read_is, head_allowed, past_clean, events_few, events_declared}
use Rattle.marking.proofs.Handed.{marking_is, head_is, count_is, rows_hold, front_whats, front_values, is_accepted}
use Rattle.tails.specs.Tails.{Move, moves_of, tail_after}
use Rattle.tails.proofs.Room.{tail_room}
use Rattle.finishing.specs.declared.Entry.{Entry}
use Rattle.finishing.specs.declared.Tail.{Tail}
use Rattle.rules.specs.declared.Refusal.{Refusal}
use Rattle.finishing.specs.Tail.{some_new, tailless, tail_of, tail_verdict, answer_of, Gives}
use Rattle.finishing.specs.Computed.Parts.{any_new, tail_entries, whats_of, Filled, filled, added}
use Rattle.finishing.proofs.Adding.{added_all}
use Rattle.finishing.proofs.EventScans.{pairs, pairs_whats, pairs_zip, new_is}
use Rattle.finishing.proofs.Entries.{record_of, entries_are, numbered_are}

-- ---- lists of the ten kinds

-- where none is a Y, F or C, all are of the ten kinds
pub all_ten : (es : List Event) → some_new es ≡ false → AllTen (map some es)
unfolding some_new is
all_ten [] q = tt
all_ten (e ∷ es) q = (ten, all_ten es (or_false_right (is (Y ∷ F ∷ C ∷ []) e) (some_new es) q))
  where
    k : ℕ
    k = letter e.kind

    none : (a b : Bool) → (a || b) ≡ true → b ≡ false → a ≡ true
    none true b p r = refl
    none false b p r = sym r ∙ p

    ten : among ten_letters k ≡ true
    ten = none (among ten_letters k) (among (Y ∷ F ∷ C ∷ []) k) (sym (ten_letters_law k) ∙ (holds e.kind).lettered) (or_false_left (is (Y ∷ F ∷ C ∷ []) e) (some_new es) q)

-- how many records a marking hands back in two rows, and what its head declares
pub record Handed (marking : Marking) (what' : List ℕ) (value' : List ℤ) : Type 0 where
  pub what : marking.events ≤ length what'
  pub value : marking.events ≤ length value'
  pub few : marking.events ≤ 2000
  pub threads : marking.head.threads ≤ 8
  pub variables : marking.head.variables ≤ 16

-- ---- by limits up to the full ones

module _ (m : Limits) (u : UpToFull m) (s : List ℕ) where
  abbrev h : Counts
  h = head_in (trace_of m s)

  abbrev tail_events : List Event
  tail_events = tail_of m s

  abbrev line : ℕ
  line = line_after (head_in (trace_of m s)) (length (past_of m s))

  -- nothing is written
  pub gives_none : (whats : List ℕ) (values : List ℤ) (n l : ℕ) → tail_verdict m s (min (length whats) (length values)) ≡ refused n l → Gives m s whats values (Err (record { number = n; line = l })) whats values
  gives_none whats values n l q = record {
    answers = sym (ap (λ (v : Marked). answer_of v (length tail_events) line) q);
    fills = sym (ap (λ (v : Marked). on_marked v (over (map packed tail_events) whats) whats) q);
    beside = sym (ap (λ (v : Marked). on_marked v (over (map value_in tail_events) values) values) q);
  }

  -- all of it is
  gives_all : (whats : List ℕ) (values : List ℤ) → tail_verdict m s (min (length whats) (length values)) ≡ accepted
      → Gives m s whats values (Ok (record { events = length tail_events; line = line })) (over (map packed tail_events) whats) (over (map value_in tail_events) values)
  gives_all whats values q = record {
    answers = sym (ap (λ (v : Marked). answer_of v (length tail_events) line) q);
    fills = sym (ap (λ (v : Marked). on_marked v (over (map packed tail_events) whats) whats) q);
    beside = sym (ap (λ (v : Marked). on_marked v (over (map value_in tail_events) values) values) q);
  }

  -- ---- the verdict

  pub verdict_refused : (places n l : ℕ) → marked_of m s ≡ refused n l → tail_verdict m s places ≡ refused n l
  unfolding tail_verdict
  verdict_refused places n l q = rw q

  module _ (a : marked_of m s ≡ accepted) where
    pub verdict_tailless : (places : ℕ) → tailless m s ≡ true → tail_verdict m s places ≡ refused 24 0
    unfolding tail_verdict
    verdict_tailless places q = rw (a, q)

    module _ (q : tailless m s ≡ false) where
      pub verdict_short : (places : ℕ) → places < length tail_events → tail_verdict m s places ≡ refused 24 0
      unfolding tail_verdict
      verdict_short places b = rw (a, q, lt-ltb places (length tail_events) b)

      pub verdict_given : (places : ℕ) → length tail_events ≤ places → tail_verdict m s places ≡ accepted
      unfolding tail_verdict
      verdict_given places b = rw (a, q, le-ltb places (length tail_events) b)

      pub past_ten_law : AllTen (map some (past_of m s))
      past_ten_law = all_ten (past_of m s) (or_false_right (any_volatile h) (some_new (past_of m s)) (unfold tailless in q))

      pub tail_few : length (tail_of m s) ≤ 2256
      unfolding tail_of
      tail_few = tail_room m h (past_of m s) u (head_allowed m s a) past_ten_law (past_clean m s)

  -- a refusal where every tail has room is one wherever there is less
  pub verdict_same : (n l : ℕ) → tail_verdict m s 2256 ≡ refused n l → (places : ℕ) → tail_verdict m s places ≡ refused n l
  verdict_same n l q places = by (marked_of m s) refl (tailless m s) refl
    where
      by : (k : Marked) → marked_of m s ≡ k → (b : Bool) → tailless m s ≡ b → tail_verdict m s places ≡ refused n l
      by (refused n' l') a b t = verdict_refused places n' l' a ∙ sym (verdict_refused 2256 n' l' a) ∙ q
      by accepted a true t = verdict_tailless a places t ∙ sym (verdict_tailless a 2256 t) ∙ q
      by accepted a false t = absurd (apart (sym (verdict_given a t 2256 (tail_few a t)) ∙ q))
        where
          apart : accepted ≡ refused n l → ⊥
          apart r = let z : ◌≡◌ {A = ℕ} 0 1 = cc in omega arith

  -- what is accepted is a trace that has a tail
  pub record Tailed : Type 0 where
    pub accepts : marked_of m s ≡ accepted
    pub tails : tailless m s ≡ false

  pub verdict_tailed : (places : ℕ) → tail_verdict m s places ≡ accepted → Tailed
  verdict_tailed places q = by (marked_of m s) refl (tailless m s) refl
    where
      apart : (n l : ℕ) → refused n l ≡ accepted → ⊥
      apart n l r = let z : ◌≡◌ {A = ℕ} 0 1 = cc in omega arith

      by : (k : Marked) → marked_of m s ≡ k → (b : Bool) → tailless m s ≡ b → Tailed
      by (refused n l) a b t = absurd (apart n l (sym (verdict_refused places n l a) ∙ q))
      by accepted a true t = absurd (apart 24 0 (sym (verdict_tailless a places t) ∙ q))
      by accepted a false t = record { accepts = a; tails = t }

  -- ---- from what marking hands back

  pub marked_refused : {what₀ : List ℕ} {value₀ : List ℤ} {r : Refusal} {what' : List ℕ} {value' : List ℤ} → Marks m s what₀ value₀ (Err r) what' value' → (whats : List ℕ) (values : List ℤ) → Gives m s whats values (Err r) whats values
  marked_refused {r = r} k whats values = gives_none whats values r.number r.line (verdict_refused (min (length whats) (length values)) r.number r.line (sym k.says))

  module _ {what₀ : List ℕ} {value₀ : List ℤ} {marking : Marking} {what' : List ℕ} {value' : List ℤ} (k : Marks m s what₀ value₀ (Ok marking) what' value') where
    abbrev a : marked_of m s ≡ accepted
    a = is_accepted m u s what₀ value₀ marking what' value' k

    abbrev es : List Event
    es = events_in m s

    turned : reverse (events_in m s) ≡ past_of m s
    unfolding events_in
    turned = reverse-reverse (past_of m s)

    -- what the code reads of the marking: the first records, with their values
    first_are : zip (take marking.events what') (take marking.events value') ≡ pairs (events_in m s)
    first_are = (λ i. zip (front_whats m u s what₀ value₀ marking what' value' k i) (front_values m u s what₀ value₀ marking what' value' k i)) ∙ pairs_zip es

    pub tailless_is : (any_volatile marking.head || any_new (whats_of (zip (take marking.events what') (take marking.events value')))) ≡ tailless m s
    unfolding tailless
    tailless_is =
        ap₂ (λ (x y : Bool). x || y) (ap any_volatile (head_is m u s what₀ value₀ marking what' value' k))
        (ap (λ (rs : List (ℕ × ℤ)). any_new (whats_of rs)) first_are ∙ ap any_new (pairs_whats es) ∙ new_is es ∙ ap some_new turned)

    pub handed : Handed marking what' value'
    handed =
        let n = rows_hold m u s what₀ value₀ marking what' value' k in
        let b = allowed_bounds h (allowed_full m h u (head_allowed m s a)) in
        let q = head_is m u s what₀ value₀ marking what' value' k in
        record {
          what = n.0;
          value = n.1;
          few = omega (arith, count_is m u s what₀ value₀ marking what' value' k, events_few m u s);
          threads = omega (arith, b, ap (λ (c : Counts). c.threads) q);
          variables = omega (arith, b, ap (λ (c : Counts). c.variables) q);
        }

    -- the rows keep their lengths
    long : {X : Type 0} (f : Event → X) (row row' : List X) → row' ≡ over (map f (read_in m s)) row → length row ≡ 2000 → 2000 ≡ length row'
    long f row row' q x = sym (ap length q ∙ over_length (map f (read_in m s)) row (omega (arith, x, length-map (read_in m s) f, ap length (read_is m u s a), events_few m u s)) ∙ x)

    pub what_long : length what₀ ≡ 2000 → 2000 ≡ length what'
    what_long x = long packed what₀ what' k.keeps x

    pub value_long : length value₀ ≡ 2000 → 2000 ≡ length value'
    value_long x = long value_in value₀ value' k.beside x

    -- there is no tail, or one is made
    pub gives_tailless : (any_volatile marking.head || any_new (whats_of (zip (take marking.events what') (take marking.events value')))) ≡ true → (whats : List ℕ) (values : List ℤ) → Gives m s whats values (Err (record { number = 24; line = 0 })) whats values
    gives_tailless q whats values = gives_none whats values 24 0 (verdict_tailless a (min (length whats) (length values)) (sym tailless_is ∙ q))

    module _ (q : (any_volatile marking.head || any_new (whats_of (zip (take marking.events what') (take marking.events value')))) ≡ false) where
      abbrev tails : tailless m s ≡ false
      tails = sym tailless_is ∙ q

      abbrev moves : List Move
      moves = moves_of h (words_of (past_of m s))

      entries : tail_entries marking.head marking.memories.copies (zip (take marking.events what') (take marking.events value')) ≡ map record_of moves
      unfolding accepted_of
      entries =
          (λ i. tail_entries (head_is m u s what₀ value₀ marking what' value' k i) (marking_is m u s what₀ value₀ marking what' value' k i).memories.copies (first_are i))
          ∙ ap (λ (l : List Event). tail_entries h (memories_of (words_of l)).copies (pairs es)) (sym turned)
          ∙ entries_are h es (events_declared m u s) (subst (λ (l : List Event). AllTen (map some l)) (sym turned) (past_ten_law a tails)) (omega (arith, b)) (omega (arith, b))
          ∙ ap (λ (l : List Event). map record_of (moves_of h (words_of l))) turned
        where
          b : (h.threads ≤ 8) × (h.variables ≤ 16)
          b = let c = allowed_bounds h (allowed_full m h u (head_allowed m s a)) in (omega (arith, c), omega (arith, c))

      -- the records and values of the moves are those of the tail
      whats_are : map (λ (e : Entry). e.what) (map record_of moves) ≡ map packed (tail_of m s)
      unfolding tail_of tail_after packed
      whats_are = numbered_are (λ (e : Entry). e.what) packed (λ n x. refl) line moves

      values_are : map (λ (e : Entry). e.value) (map record_of moves) ≡ map value_in (tail_of m s)
      unfolding tail_of tail_after
      values_are = numbered_are (λ (e : Entry). e.value) value_in (λ n x. refl) line moves

      as_many : length (map record_of moves) ≡ length (tail_of m s)
      as_many = sym (length-map (map record_of moves) (λ (e : Entry). e.what)) ∙ ap length whats_are ∙ length-map (tail_of m s) packed

      pub made_gives : {whats : List ℕ} {values : List ℤ} {r : ℕ} {whats'' : List ℕ} {values'' : List ℤ} → length whats ≡ 2256 → length values ≡ 2256
          → filled r whats'' values'' ≡ added (tail_entries marking.head marking.memories.copies (zip (take marking.events what') (take marking.events value'))) (filled 0 whats values)
          → Gives m s whats values (Ok (record { events = r; line = line_after marking.head marking.events })) whats'' values''
      made_gives {whats} {values} {r} {whats''} {values''} x y d =
          let f = tail_few a tails in
          let e : filled r whats'' values'' ≡ filled (length (map record_of moves)) (over (map (λ (e : Entry). e.what) (map record_of moves)) whats) (over (map (λ (e : Entry). e.value) (map record_of moves)) values) =
          d ∙ ap (λ (l : List Entry). added l (filled 0 whats values)) entries ∙ added_all (map record_of moves) whats values (omega (arith, as_many, f, x)) (omega (arith, as_many, f, y)) in
          let places : length (tail_of m s) ≤ min (length whats) (length values) = omega (arith, f, x, y) in
          let n : r ≡ length (tail_of m s) = ap (λ (z : Filled). z.count) e ∙ as_many in
          let at : line_after marking.head marking.events ≡ line =
          ap₂ line_after (head_is m u s what₀ value₀ marking what' value' k) (count_is m u s what₀ value₀ marking what' value' k ∙ sym (length-reverse (events_in m s)) ∙ ap length turned) in
          let ws : over (map packed (tail_of m s)) whats ≡ whats'' = sym (ap (λ (z : Filled). z.whats) e ∙ ap (λ (l : List ℕ). over l whats) whats_are) in
          let xs : over (map value_in (tail_of m s)) values ≡ values'' = sym (ap (λ (z : Filled). z.values) e ∙ ap (λ (l : List ℤ). over l values) values_are) in
          subst (λ (X : Type 0). X) (λ i. Gives m s whats values (Ok (record { events = sym n i; line = sym at i })) (ws i) (xs i)) (gives_all whats values (verdict_given a tails (min (length whats) (length values)) places))

  -- ---- from rows that have room for every tail

  abbrev v : Marked
  v = tail_verdict m s 2256

  places : (ws : List ℕ) (xs : List ℤ) → length ws ≡ 2256 → length xs ≡ 2256 → min (length ws) (length xs) ≡ 2256
  places ws xs x y = omega (arith, x, y)

  module _ {ws₀ : List ℕ} {xs₀ : List ℤ} {ws : List ℕ} {xs : List ℤ} (x : length ws₀ ≡ 2256) (y : length xs₀ ≡ 2256) where
    answer : {made : Result Tail Refusal} → Gives m s ws₀ xs₀ made ws xs → made ≡ answer_of v (length tail_events) line
    answer g = g.answers ∙ ap (λ (p : ℕ). answer_of (tail_verdict m s p) (length tail_events) line) (places ws₀ xs₀ x y)

    -- a refusal
    module _ {r : Refusal} (g : Gives m s ws₀ xs₀ (Err r) ws xs) where
      pub is_refused : tail_verdict m s 2256 ≡ refused r.number r.line
      is_refused = by v refl (answer g)
        where
          by : (k : Marked) → v ≡ k → Err r ≡ answer_of k (length tail_events) line → v ≡ refused r.number r.line
          by accepted p q = cc
          by (refused n l) p q =
              let e : r ≡ record { number = n; line = l } = cc in
              p ∙ sym (ap (λ (z : Refusal). refused z.number z.line) e)

      -- the same, whatever is lent
      pub still_refused : (whats : List ℕ) (values : List ℤ) → Gives m s whats values (Err r) whats values
      still_refused whats values = gives_none whats values r.number r.line (verdict_same r.number r.line is_refused (min (length whats) (length values)))

    -- a tail
    module _ {tail : Tail} (g : Gives m s ws₀ xs₀ (Ok tail) ws xs) where
      pub record Made : Type 0 where
        pub accepts : tail_verdict m s 2256 ≡ accepted
        pub is : tail ≡ record { events = length (tail_of m s); line = line_after (head_in (trace_of m s)) (length (past_of m s)) }

      pub is_made : Made
      is_made = by v refl (answer g)
        where
          by : (k : Marked) → v ≡ k → Ok tail ≡ answer_of k (length tail_events) line → Made
          by accepted p q = record { accepts = p; is = cc }
          by (refused n l) p q = cc

      many : tail.events ≡ length (tail_of m s)
      many = ap (λ (t : Tail). t.events) is_made.is

      abbrev t : Tailed
      t = verdict_tailed 2256 is_made.accepts

      pub made_few : tail.events ≤ 2256
      made_few = omega (arith, many, tail_few t.accepts t.tails)

      -- one of the rows has too few places
      pub too_few : (whats : List ℕ) (values : List ℤ) → min (length whats) (length values) < tail.events → Gives m s whats values (Err (record { number = 24; line = 0 })) whats values
      too_few whats values b = gives_none whats values 24 0 (verdict_short t.accepts t.tails (min (length whats) (length values)) (omega (arith, b, many)))

      front_is : {X : Type 0} (f : Event → X) (row₀ row : List X) → row ≡ over (map f tail_events) row₀ → take tail.events row ≡ map f tail_events
      front_is f row₀ row r = ap (take tail.events) r ∙ take_at (map f tail_events) (drop (length (map f tail_events)) row₀) tail.events (length-map tail_events f ∙ sym many)

      abbrev whats_filled : ws ≡ over (map packed tail_events) ws₀
      whats_filled = g.fills ∙ ap (λ (p : ℕ). on_marked (tail_verdict m s p) (over (map packed tail_events) ws₀) ws₀) (places ws₀ xs₀ x y) ∙ ap (λ (z : Marked). on_marked z (over (map packed tail_events) ws₀) ws₀) is_made.accepts

      abbrev values_filled : xs ≡ over (map value_in tail_events) xs₀
      values_filled = g.beside ∙ ap (λ (p : ℕ). on_marked (tail_verdict m s p) (over (map value_in tail_events) xs₀) xs₀) (places ws₀ xs₀ x y) ∙ ap (λ (z : Marked). on_marked z (over (map value_in tail_events) xs₀) xs₀) is_made.accepts

      -- the first of them are the records and the values of the tail
      pub whats_front : take tail.events ws ≡ map packed (tail_of m s)
      whats_front = front_is packed ws₀ ws whats_filled

      pub values_front : take tail.events xs ≡ map value_in (tail_of m s)
      values_front = front_is value_in xs₀ xs values_filled

      front_low : {X : Type 0} (f : Event → X) (row₀ row : List X) → row ≡ over (map f tail_events) row₀ → tail.events ≤ length row
      front_low f row₀ row r = omega (arith, many, length-map tail_events f, ap length r, length-append (map f tail_events) (drop (length (map f tail_events)) row₀))

      pub whats_low : tail.events ≤ length ws
      whats_low = front_low packed ws₀ ws whats_filled

      pub values_low : tail.events ≤ length xs
      values_low = front_low value_in xs₀ xs values_filled

      -- both have enough
      pub copied : (whats : List ℕ) (values : List ℤ) → tail.events ≤ length whats → tail.events ≤ length values → Gives m s whats values (Ok tail) (onto (take tail.events ws) whats) (onto (take tail.events xs) values)
      copied whats values b c =
          let ew : over (map packed tail_events) whats ≡ onto (take tail.events ws) whats = sym (ap (λ (l : List ℕ). onto l whats) whats_front ∙ onto_all (map packed tail_events) whats (omega (arith, b, many, length-map tail_events packed))) in
          let ex : over (map value_in tail_events) values ≡ onto (take tail.events xs) values = sym (ap (λ (l : List ℤ). onto l values) values_front ∙ onto_all (map value_in tail_events) values (omega (arith, c, many, length-map tail_events value_in))) in
          subst (λ (X : Type 0). X) (λ i. Gives m s whats values (Ok (sym is_made.is i)) (ew i) (ex i)) (gives_all whats values (verdict_given t.accepts t.tails (min (length whats) (length values)) (omega (arith, b, c, many))))

-- ---- which row is too short

pub less_either : (a b n : ℕ) → (ltb a n || ltb b n) ≡ true → min a b < n
less_either a b n q = by (ltb a n) refl q
  where
    by : (x : Bool) → ltb a n ≡ x → (x || ltb b n) ≡ true → min a b < n
    by true p r = omega (arith, ltb-true a n p)
    by false p r = omega (arith, ltb-true b n r)

pub less_neither : (a b n : ℕ) → (ltb a n || ltb b n) ≡ false → (n ≤ a) × (n ≤ b)
less_neither a b n q = (ltb-false a n (or_false_left (ltb a n) (ltb b n) q), ltb-false b n (or_false_right (ltb a n) (ltb b n) q))
