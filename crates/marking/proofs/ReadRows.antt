-- A trace that is found is marked by reading its lines into rows and marking these.
use Prim.Native.Nat.{ℕ, suc, ◌≤◌}
use native.Mathlib.Omega.{arith}
use mathlib.Core.Path.{◌≡◌, refl, sym, ap, ◌∙◌, subst}
use mathlib.Core.Bool.{true}
use mathlib.Core.List.{List, [], ◌∷◌, map}
use mathlib.Core.Option.{Option}
use lib.IntN.{ℤ}
use lib.ListN.{length, take, drop, length-append, length-map}
use borrow.Author.Tests.{eq-eqb}
use Rattle.rules.specs.declared.Event.{Event}
use Rattle.rules.specs.declared.Counts.{Counts}
use Rattle.rules.specs.declared.Memories.{Memories}
use Rattle.rules.specs.declared.Refusal.{Refusal}
use Rattle.std.specs.Prelude.{Result, Ok, Err}
use Rattle.rules.specs.Limits.{Limits, UpToFull, full, first_line, line_after, allowed}
use Rattle.rules.specs.Memories.{memories_of}
use Rattle.rules.specs.Rules.{words_of, Marked, accepted, refused, told, answered, refused_or, mark_from, mark_read}
use Rattle.rules.specs.Reading.{read_from, stop_from}
use Rattle.rules.proofs.Bounds.{allowed_full}
use Rattle.rules.proofs.Courses.{read_few, mark_same}
use Rattle.rules.proofs.Readings.{marked_apart, all_read, read_events, past_events}
use Rattle.decimal.specs.Text.{over}
use Rattle.records.specs.Records.{packed, value_in}
use Rattle.records.proofs.RowLaws.{Numbered, front_what, front_value}
use Rattle.records.proofs.HeldMarks.{row_marks, row_past_law}
use Rattle.trace.specs.declared.Trace.{Trace}
use Rattle.trace.specs.Trace.{Guards, found, trace_of, events_of, head_in, guards_in}
use Rattle.trace.proofs.TraceLaws.{Lies, found_allowed, lies, part_drop}
use Rattle.events.specs.declared.Read.{Read}
use Rattle.events.specs.Events.{readings, part_lines}
use Rattle.events.specs.Reading.{Reads, events_read}
use Rattle.events.proofs.LinedLaws.{Lined, read_lined}
use Rattle.machine.specs.Rows.{row_marked, row_past, MarksRow}
use Rattle.marking.specs.declared.Marking.{Marking}
use Rattle.marking.specs.Marking.{lines_in, marked_of, past_of, events_in, accepted_of, marking_of, read_in, Marks}
use Rattle.marking.specs.Computed.Rows.{read_marked, read_accepted, read_marking}
use Rattle.marking.proofs.Whole.{no_lines, read_is}

-- ---- rows that were read

module _ (h : Counts) (g : Guards) (read : Read) (what : List ℕ) (value : List ℤ) where
  -- the rows are refused
  pub rows_refused : {r : Refusal} → MarksRow h (take read.count what) (take read.count value) (Err r) → Err r ≡ read_marking h g read what value
  unfolding read_marking read_marked
  rows_refused m = rw (← m.says) refl

  module _ {x : Memories} (m : MarksRow h (take read.count what) (take read.count value) (Ok x)) where
    -- what ended the reading is refused
    pub stop_refused : {r : Refusal} → read.verdict ≡ Err r → Err r ≡ read_marking h g read what value
    unfolding read_marking read_marked
    stop_refused w = rw (← m.says, w) refl

    pub rows_accepted : {v : Unit {0}} → read.verdict ≡ Ok v → ◌≡◌ {A = Result Marking Refusal} (Ok (record { head = h; guards = g; events = read.count; memories = x })) (read_marking h g read what value)
    unfolding read_marking read_marked read_accepted
    rows_accepted w = rw (← m.says, w) (λ i. Ok (record { head = h; guards = g; events = read.count; memories = m.holds i }))

-- ---- a whole trace

lined_numbered : (h : Counts) (n : ℕ) (es : List Event) → Lined (line_after h n) es → Numbered h n es
lined_numbered h n [] k = tt
lined_numbered h n (e ∷ es) k = (k.0, lined_numbered h (suc n) es (let z : suc (line_after h n) ≡ line_after h (suc n) = omega arith in subst (λ (j : ℕ). Lined j es) z k.1))

module _ (m : Limits) (u : UpToFull m) where
  -- a trace that is not found has nothing to read
  read_none : (s : List ℕ) (n line : ℕ) → told (trace_of m s) ≡ refused n line → read_in m s ≡ []
  unfolding read_in read_from
  read_none s n line q = rw (no_lines m s n line q) refl

  unfound : (s what : List ℕ) (value : List ℤ) {r : Refusal} → told (trace_of m s) ≡ refused r.number r.line → Marks m s what value (Err r) what value
  unfound s what value {r} q = record {
    says = sym marked;
    gives = unfold marking_of in rw marked refl;
    keeps = rw (read_none s r.number r.line q) refl;
    beside = rw (read_none s r.number r.line q) refl;
  }
    where
      marked : marked_of m s ≡ refused r.number r.line
      marked = unfold marked_of in rw q refl

  said_is : (s : List ℕ) → told (marking_of m s) ≡ marked_of m s
  unfolding marking_of
  said_is s = by (marked_of m s)
    where
      by : (k : Marked) → told (answered k (accepted_of m s)) ≡ k
      by accepted = refl
      by (refused n l) = refl

  module _ (s : List ℕ) (found : told (trace_of m s) ≡ accepted) where
    abbrev h : Counts
    h = (head_in (trace_of m s))

    abbrev lines : List (Option Event)
    lines = lines_in m s

    abbrev es : List Event
    es = read_from m 0 lines

    ok : allowed full h ≡ true
    ok = allowed_full m h u (found_allowed m s found)

    -- no more were read than either limit allows
    same : mark_from full h [] es ≡ mark_from m h [] es
    same = let r = read_few m 0 lines (omega arith) in mark_same full m h [] es (omega (arith, r, u.events)) r

    numbered : Numbered h 0 es
    unfolding lines_in
    numbered = lined_numbered h 0 es (subst (λ (j : ℕ). Lined j es) (let z : first_line h ≡ line_after h 0 = omega arith in z) (read_lined m 0 (first_line h) (part_lines (events_of s (trace_of m s)))))

    -- the rows with the records of the events
    row_is : row_marked full h (map packed es) (map value_in es) ≡ mark_from m h [] es
    unfolding row_marked
    row_is =
        let n : length (map value_in es) ≡ length (map packed es) = length-map es value_in ∙ sym (length-map es packed) in
        rw (eq-eqb _ _ n, ok) (row_marks h ok full (omega arith) es numbered ∙ read_events full h [] es ∙ same)

    whole : refused_or (row_marked full h (map packed es) (map value_in es)) (stop_from m h 0 lines) ≡ marked_of m s
    unfolding marked_of
    whole = rw (row_is, found) (sym (marked_apart m h [] lines u.excess))

    -- the events before the first refusal are all that were read
    past_is : marked_of m s ≡ accepted → row_past full h (map packed es) (map value_in es) ≡ past_of m s
    unfolding row_past past_of
    past_is a =
        let q : mark_read m h [] lines ≡ accepted = unfold marked_of in (rw found at a) in
        let p : mark_from m h [] es ≡ accepted = first (mark_from m h [] es) (stop_from m h 0 lines) (sym (marked_apart m h [] lines u.excess) ∙ q) in
        row_past_law h ok full (omega arith) es numbered ∙ past_events full h [] es (same ∙ p) ∙ sym (all_read m h [] lines u.excess q).past
      where
        first : (a b : Marked) → refused_or a b ≡ accepted → a ≡ accepted
        first accepted b e = refl
        first (refused n l) b e = e

    module _ (what what' : List ℕ) (value value' : List ℤ) (read : Read) (d : Reads m h (events_of s (trace_of m s)) read what what' value value') where
      read_same : read_from m 0 (readings m.width (first_line h) (part_lines (events_of s (trace_of m s)))) ≡ es
      unfolding lines_in
      read_same = refl

      count_is : read.count ≡ length es
      count_is = d.count ∙ ap length read_same

      front_whats : take read.count what' ≡ map packed es
      front_whats = (λ i. take (count_is i) ((d.what_is ∙ ap (λ (l : List Event). over (map packed l) what) read_same) i)) ∙ front_what h es (drop (length (map packed es)) what) (drop (length (map value_in es)) value)

      front_values : take read.count value' ≡ map value_in es
      front_values = (λ i. take (count_is i) ((d.value_is ∙ ap (λ (l : List Event). over (map value_in l) value) read_same) i)) ∙ front_value h es (drop (length (map packed es)) what) (drop (length (map value_in es)) value)

      stop_is : told read.verdict ≡ stop_from m h 0 lines
      unfolding lines_in
      stop_is = d.verdict

      marked_is : read_marked h (guards_in (trace_of m s)) read what' value' ≡ marked_of m s
      unfolding read_marked
      marked_is = (λ i. refused_or (row_marked full h (front_whats i) (front_values i)) (stop_is i)) ∙ whole

      es_are : marked_of m s ≡ accepted → es ≡ events_in m s
      unfolding read_in
      es_are a = read_is m u s a

      accepted_is : marked_of m s ≡ accepted → read_accepted h (guards_in (trace_of m s)) read what' value' ≡ accepted_of m s
      unfolding read_accepted accepted_of
      accepted_is a = λ i. record {
        head = h;
        guards = (guards_in (trace_of m s));
        events = (count_is ∙ ap length (es_are a)) i;
        memories = ((λ j. memories_of (words_of (row_past full h (front_whats j) (front_values j)))) ∙ ap (λ (l : List Event). memories_of (words_of l)) (past_is a)) i;
      }

      reading_is : read_marking h (guards_in (trace_of m s)) read what' value' ≡ marking_of m s
      unfolding read_marking marking_of
      reading_is = ap (λ (k : Marked). answered k (read_accepted h (guards_in (trace_of m s)) read what' value')) marked_is ∙ by (marked_of m s) refl
        where
          by : (k : Marked) → marked_of m s ≡ k → answered k (read_accepted h (guards_in (trace_of m s)) read what' value') ≡ answered k (accepted_of m s)
          by accepted q = ap Ok (accepted_is q)
          by (refused n l) q = refl

      kept : what' ≡ over (map packed (read_in m s)) what
      unfolding read_in lines_in
      kept = d.what_is

      kept_beside : value' ≡ over (map value_in (read_in m s)) value
      unfolding read_in lines_in
      kept_beside = d.value_is

      marks_read : (r : Result Marking Refusal) → r ≡ read_marking h (guards_in (trace_of m s)) read what' value' → Marks m s what value r what' value'
      marks_read r e = record {
        says = ap (λ (x : Result Marking Refusal). told x) (e ∙ reading_is) ∙ said_is s;
        gives = e ∙ reading_is;
        keeps = kept;
        beside = kept_beside;
      }

-- ---- as the code has it

module _ (m : Limits) (u : UpToFull m) (s : List ℕ) where
  pub marks_unfound : (what : List ℕ) (value : List ℤ) {r : Refusal} → Err r ≡ trace_of m s → Marks m s what value (Err r) what value
  marks_unfound what value f = unfound m u s what value (sym (ap found f))

  pub marks_found : (t : Trace) → Ok t ≡ trace_of m s → (what what' : List ℕ) (value value' : List ℤ) (read : Read) (r : Result Marking Refusal)
      → Reads m t.head (drop t.from (take t.to s)) read what what' value value' → r ≡ read_marking t.head t.guards read what' value' → Marks m s what value r what' value'
  unfolding events_of
  marks_found t f what what' value value' read r d e =
      marks_read m u s (sym (ap found f)) what what' value value' read
      (subst (λ (x : Result Trace Refusal). Reads m (head_in x) (events_of s x) read what what' value value') f (subst (λ p. Reads m t.head p read what what' value value') (sym part) d))
      r (subst (λ (x : Result Trace Refusal). r ≡ read_marking (head_in x) (guards_in x) read what' value') f e)
    where
      l : Lies t s
      l = lies m s t (sym f)

      part : events_of s (Ok t) ≡ drop t.from (take t.to s)
      part = part_drop t.from t.to s l.start l.end

-- the rows have room for what was read
low : {X : Type 0} (p : Event → X) (es : List Event) (o o' : List X) → o' ≡ over (map p es) o → length es ≤ length o'
low p es o o' e = omega (arith, ap length e, length-append (map p es) (drop (length (map p es)) o), length-map es p)

pub reads_low : (m : Limits) (h : Counts) (s : List ℕ) (read : Read) (what what' : List ℕ) (value value' : List ℤ) → Reads m h s read what what' value value' → (read.count ≤ length what') × (read.count ≤ length value')
reads_low m h s read what what' value value' d =
    (omega (arith, d.count, low packed (events_read m h s) what what' d.what_is), omega (arith, d.count, low value_in (events_read m h s) value value' d.value_is))
