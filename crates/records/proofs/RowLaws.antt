-- Rows of records: their lines and events one by one, and the rows of a list of events give it back.
use Prim.Native.Nat.{ℕ, zero, suc, ◌+◌, ◌≤◌, ◌<◌}
use native.Mathlib.Decide.{ℕ_discrete}
use native.Mathlib.Omega.{arith}
use mathlib.Core.Path.{◌≡◌, refl, sym, ap, ap₂, ◌∙◌, subst}
use mathlib.Core.Bool.{Bool, true, false}
use mathlib.Core.List.{List, [], ◌∷◌, ◌++◌, map, nil≢cons, head-eq_of_cons-eq, tail-eq_of_cons-eq}
use mathlib.Core.Option.{Option, none, some}
use lib.IntN.{ℤ, pos}
use lib.ListN.{length, get_or, take, length-map}
use lib.Seq.{take_at}
use Rattle.rules.specs.declared.Event.{Event}
use Rattle.rules.specs.declared.Counts.{Counts}
use Rattle.rules.specs.Events.{place, is_letter, subject}
use Rattle.rules.specs.Limits.{line_after}
use Rattle.rules.specs.Memories.{from}
use Rattle.rules.proofs.From.{from_is}
use Rattle.records.specs.Records.{packed, value_in, letter_in, event_in, record_at, row_lines, unpacked, event_at, row_events}
use Rattle.records.proofs.RecordLaws.{event_some, event_none, held_event, held_some, held_unpacked, held_event_law}

-- ---- the rows of a list of events

-- the events stand in the lines after n events
abbrev pub Numbered : Counts → ℕ → List Event → Type 0
Numbered h n [] = Unit {0}
Numbered h n (e ∷ es) = (e.line ≡ line_after h n) × Numbered h (suc n) es

-- threads and place of each are below 255
abbrev pub Small : List Event → Type 0
Small [] = Unit {0}
Small (e ∷ es) = (e.thread < 255) × (subject e < 255) × (place e.kind < 255) × Small es

pub held_all : (es : List Event) → Small es → map held_event es ≡ es
held_all [] s = refl
held_all (e ∷ es) s = ap₂ (λ (x : Event) (xs : List Event). x ∷ xs) (held_event_law e s.0 s.1 s.2) (held_all es s.3)

module _ (h : Counts) where
  -- at each place the record of the event
  at_place : {X : Type 0} (g : ℕ → ℕ → ℤ → X) (r : Event → X) (d : X) → ((e : Event) → g e.line (packed e) (value_in e) ≡ r e)
      → (es : List Event) (n : ℕ) → Numbered h n es → (j : ℕ) → j < length es
      → g (line_after h (n + j)) (get_or (map packed es) j 0) (get_or (map value_in es) j (pos 0)) ≡ get_or (map r es) j d
  at_place g r d b [] n k j q = absurd (omega arith)
  at_place g r d b (e ∷ es) n k zero q =
      let z : line_after h (n + 0) ≡ line_after h n = omega arith in
      ap (λ (l : ℕ). g l (packed e) (value_in e)) (z ∙ sym k.0) ∙ b e
  at_place g r d b (e ∷ es) n k (suc j) q =
      let z : line_after h (n + suc j) ≡ line_after h (suc n + j) = omega arith in
      ap (λ (l : ℕ). g l (get_or (map packed es) j 0) (get_or (map value_in es) j (pos 0))) z ∙ at_place g r d b es (suc n) k.1 j (omega arith)

  module _ (es : List Event) (k : Numbered h 0 es) where
    same_length : {X : Type 0} (r : Event → X) → length (map packed es) ≡ length (map r es)
    same_length r = length-map es packed ∙ sym (length-map es r)

    -- the lines are the events, with threads and place held
    pub lines_held : row_lines h (map packed es) (map value_in es) ≡ map some (map held_event es)
    unfolding row_lines record_at
    lines_held =
        ap (from (record_at h (map packed es) (map value_in es)) 0) (same_length (λ (e : Event). some (held_event e)))
        ∙ from_is (record_at h (map packed es) (map value_in es)) none (map (λ (e : Event). some (held_event e)) es) 0
        (λ j q. let z : 0 + j ≡ j = omega arith in ap (record_at h (map packed es) (map value_in es)) z ∙ rw z at (at_place event_in (λ (e : Event). some (held_event e)) none held_some es 0 k j (omega (arith, q, length-map es (λ (e : Event). some (held_event e))))))
        ∙ held_lines es
      where
        held_lines : (l : List Event) → map (λ (e : Event). some (held_event e)) l ≡ map some (map held_event l)
        held_lines [] = refl
        held_lines (e ∷ l) = ap (λ (xs : List (Option Event)). some (held_event e) ∷ xs) (held_lines l)

    pub events_held : row_events h (map packed es) (map value_in es) ≡ map held_event es
    unfolding row_events event_at
    events_held =
        ap (from (event_at h (map packed es) (map value_in es)) 0) (same_length held_event)
        ∙ from_is (event_at h (map packed es) (map value_in es)) (unpacked 0 0 (pos 0)) (map held_event es) 0
        (λ j q. let z : 0 + j ≡ j = omega arith in ap (event_at h (map packed es) (map value_in es)) z ∙ rw z at (at_place unpacked held_event (unpacked 0 0 (pos 0)) held_unpacked es 0 k j (omega (arith, q, length-map es held_event))))

    -- with threads and places below 255, the events as they were
    module _ (s : Small es) where
      pub row_lines_law : row_lines h (map packed es) (map value_in es) ≡ map some es
      row_lines_law = lines_held ∙ ap (λ (l : List Event). map some l) (held_all es s)

      pub row_back : row_events h (map packed es) (map value_in es) ≡ es
      row_back = events_held ∙ held_all es s

  -- ---- rows with other records behind these

  module _ (es : List Event) (ws : List ℕ) (xs : List ℤ) where
    pub front_what : take (length es) (map packed es ++ ws) ≡ map packed es
    front_what = take_at (map packed es) ws (length es) (length-map es packed)

    pub front_value : take (length es) (map value_in es ++ xs) ≡ map value_in es
    front_value = take_at (map value_in es) xs (length es) (length-map es value_in)

  -- ---- rows whose lines are all events

  module _ (ws : List ℕ) (xs : List ℤ) where
    -- the records from i on name these events
    record Names (i n : ℕ) (es : List Event) : Type 0 where
      events : from (event_at h ws xs) i n ≡ es
      lettered : (j : ℕ) → i ≤ j → j < i + n → is_letter (letter_in (get_or ws j 0)) ≡ true

    names : (i n : ℕ) (es : List Event) → from (record_at h ws xs) i n ≡ map some es → Names i n es
    unfolding from record_at event_at
    names i zero [] q = record { events = refl; lettered = λ j a b. absurd (omega arith) }
    names i zero (e ∷ es) q = absurd (nil≢cons q)
    names i (suc n) [] q = absurd (nil≢cons (sym q))
    names i (suc n) (e ∷ es) q = go (is_letter (letter_in (get_or ws i 0))) refl (names (suc i) n es (tail-eq_of_cons-eq q))
      where
        go : (b : Bool) → is_letter (letter_in (get_or ws i 0)) ≡ b → Names (suc i) n es → Names i (suc n) (e ∷ es)
        go true l r =
            let x : some (unpacked (line_after h i) (get_or ws i 0) (get_or xs i (pos 0))) ≡ some e = sym (event_some (line_after h i) (get_or ws i 0) (get_or xs i (pos 0)) l) ∙ head-eq_of_cons-eq q in
            let y : unpacked (line_after h i) (get_or ws i 0) (get_or xs i (pos 0)) ≡ e = cc in
            record { events = ap₂ (λ (z : Event) (zs : List Event). z ∷ zs) y r.events; lettered = λ j a b. at j (ℕ_discrete i j) a b }
          where
            at : (j : ℕ) → Dec (i ≡ j) → i ≤ j → j < i + suc n → is_letter (letter_in (get_or ws j 0)) ≡ true
            at j (yes z) a b = subst (λ (m : ℕ). is_letter (letter_in (get_or ws m 0)) ≡ true) z l
            at j (no z) a b = r.lettered j (omega arith) (omega arith)
        go false l r =
            let x : none ≡ some e = sym (event_none (line_after h i) (get_or ws i 0) (get_or xs i (pos 0)) l) ∙ head-eq_of_cons-eq q in
            let z : ◌≡◌ {A = ℕ} 0 1 = cc in
            absurd (omega arith)

    -- they are the events, and each record has a letter
    pub lines_events : (es : List Event) → row_lines h ws xs ≡ map some es → row_events h ws xs ≡ es
    unfolding row_lines row_events
    lines_events es q = (names 0 (length ws) es q).events

    pub lines_lettered : (es : List Event) → row_lines h ws xs ≡ map some es → (i : ℕ) → i < length ws → is_letter (letter_in (get_or ws i 0)) ≡ true
    unfolding row_lines
    lines_lettered es q i b = (names 0 (length ws) es q).lettered i (omega arith) (omega arith)
