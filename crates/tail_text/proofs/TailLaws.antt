-- The text of a tail is that of its records, and 65,536 bytes have room for it.
use Prim.Native.Nat.{ℕ, ◌+◌, ◌*◌, ◌≤◌, ◌<◌}
use native.Mathlib.Omega.{arith}
use native.Mathlib.Nat.{mul-suc}
use mathlib.Core.Path.{◌≡◌, refl, sym, ap, ap₂, ◌∙◌}
use mathlib.Core.Bool.{Bool, true, false, not, ◌&&◌, cond}
use mathlib.Core.List.{List, [], ◌∷◌, ◌++◌, map, reverse_aux}
use mathlib.Core.Option.{some}
use lib.Dec.{T, eqb}
use lib.IntN.{ℤ}
use Rattle.std.specs.List.{zip}
use Rattle.std.specs.Prelude.{Ok, Err}
use lib.ListN.{length, take, length-append}
use Rattle.rules.specs.declared.Counts.{Counts}
use Rattle.rules.specs.declared.Event.{Event}
use Rattle.rules.specs.Events.{F, letter, place, value, is, on_lock, subject}
use Rattle.rules.specs.Limits.{Limits, UpToFull, full, allowed, declared}
use Rattle.rules.specs.Rules.{Marked, accepted, refused, legal}
use Rattle.rules.proofs.Bounds.{allowed_bounds, allowed_full, declared_bounds, subject_bound}
use Rattle.rules.proofs.Laws.{legal_known}
use Rattle.decimal.specs.Text.{row_text, word_row, word_value, ended, room, Wrote}
use Rattle.decimal.proofs.TextLaws.{value_short, room_yes, wrote_line, wrote_like}
use Rattle.decimal.proofs.RowLaws.{row_line_short}
use Rattle.records.specs.Records.{packed, value_in}
use Rattle.records.proofs.RecordLaws.{held_some, held_event_law}
use Rattle.records.proofs.RowLaws.{Small}
use Rattle.trace.specs.Trace.{head_in, trace_of}
use Rattle.writer.specs.Text.{event_line, events_text}
use Rattle.serial.specs.Lists.{All}
use Rattle.tails.proofs.Tails.{legal_start}
use Rattle.marking.specs.Marking.{past_of}
use Rattle.marking.proofs.Whole.{head_allowed}
use Rattle.listing.specs.Listing.{refused_line}
use Rattle.listing.specs.Listing as listing
use Rattle.listing.proofs.RoomEnough.{one_digit, two_digits}
use Rattle.finishing.specs.declared.Tail.{Tail}
use Rattle.rules.specs.declared.Refusal.{Refusal}
use Rattle.finishing.specs.Tail.{tail_of, tail_verdict, Gives}
use Rattle.finishing.proofs.Answers.{Tailed, verdict_tailed, is_refused, is_made, whats_front, values_front}
use Rattle.finishing.proofs.Theorems.{paper_shortest, paper_room}
use Rattle.tail_text.specs.TailText.{text_for, tail_text, tail_output}
use Rattle.tail_text.specs.Computed.Rows.{line_room, line_for, record_text, records_text}

-- ---- the line of an event

-- its record gives it, with threads and place below 255
record_line : (e : Event) → e.thread < 255 → subject e < 255 → place e.kind < 255 → record_text (packed e) (value_in e) ≡ ended (event_line e)
unfolding record_text packed event_line on_lock is
record_line e ht hs hp =
    let f : Event = record { thread = e.thread; line = 0; kind = e.kind } in
    ap line_for (held_some f ∙ ap some (held_event_law f ht hs hp))

-- letter, thread and place with their spaces, a value of 21 bytes and its space, and the end
line_most : (e : Event) → e.thread < 10 → place e.kind < 100 → length (ended (event_line e)) ≤ 29
unfolding event_line word_value word_row row_text
line_most e h k = by (on_lock e && not (eqb (letter e.kind) F))
  where
    by : (b : Bool) → length (ended (cond b (word_row (letter e.kind ∷ []) (e.thread ∷ place e.kind ∷ [])) (word_value (letter e.kind ∷ []) (e.thread ∷ place e.kind ∷ []) (value e.kind)))) ≤ 29
    by true = simp length-append (omega (arith, one_digit e.thread h, two_digits (place e.kind) k))
    by false = simp length-append (omega (arith, one_digit e.thread h, two_digits (place e.kind) k, value_short (value e.kind)))

-- ---- the lines of events

records_are : (es : List Event) → Small es → records_text (zip (map packed es) (map value_in es)) ≡ events_text es
unfolding records_text events_text
records_are [] s = refl
records_are (e ∷ es) s = ap₂ (λ (x y : List ℕ). x ++ y) (record_line e s.0 s.1 s.2) (records_are es s.3)

-- ---- events that a head declares

abbrev Known : Counts → List Event → Type 0
Known h es = All (λ (e : Event). declared h e ≡ true) es

known_tail : (h : Counts) (tail es : List Event) → T (legal h (reverse_aux tail es)) → Known h tail
known_tail h [] es l = tt
known_tail h (e ∷ tail) es l = (legal_known h e es (legal_start h tail (e ∷ es) l), known_tail h tail (e ∷ es) l)

module _ (h : Counts) (a : allowed full h ≡ true) where
  known_small : (es : List Event) → Known h es → Small es
  known_small [] k = tt
  known_small (e ∷ es) k =
      let b = declared_bounds h e a k.0 in
      (omega (arith, b), omega (arith, subject_bound h e k.0, allowed_bounds h a), omega (arith, b), known_small es k.1)

  known_most : (es : List Event) → Known h es → length (events_text es) ≤ 29 * length es
  unfolding events_text
  known_most [] k = omega arith
  known_most (e ∷ es) k =
      let b = declared_bounds h e a k.0 in
      omega (arith, length-append (ended (event_line e)) (events_text es), line_most e (omega (arith, b)) (omega (arith, b)), known_most es k.1, mul-suc 29 (length es))

-- ---- by limits up to the full ones

module _ (m : Limits) (u : UpToFull m) (s : List ℕ) where
  abbrev h : Counts
  h = head_in (trace_of m s)

  module _ (t : Tailed m u s) where
    full_allowed : allowed full (head_in (trace_of m s)) ≡ true
    full_allowed = allowed_full m h u (head_allowed m s t.accepts)

    known : Known (head_in (trace_of m s)) (tail_of m s)
    known = known_tail h (tail_of m s) (past_of m s) (paper_shortest m u s t.accepts t.tails).finishes.follows

    -- the lines of its records are those of its events, and a line's room remains behind them
    tail_lines : records_text (zip (map packed (tail_of m s)) (map value_in (tail_of m s))) ≡ events_text (tail_of m s)
    tail_lines = records_are (tail_of m s) (known_small h full_allowed (tail_of m s) known)

    tail_most : length (events_text (tail_of m s)) + line_room ≤ tail_output
    tail_most = omega (arith, known_most h full_allowed (tail_of m s) known, paper_room m u s t.accepts t.tails)

  -- the text, by what is said of the tail
  text_is : (k : Marked) → tail_verdict m s 2256 ≡ k → tail_text m s ≡ text_for k (tail_of m s)
  unfolding tail_text
  text_is k q = ap (λ (v : Marked). text_for v (tail_of m s)) q

  -- 65,536 bytes are enough for the text of every tail.
  pub tail_text_room : length (tail_text m s) ≤ tail_output
  tail_text_room = by (tail_verdict m s 2256) refl
    where
      by : (k : Marked) → tail_verdict m s 2256 ≡ k → length (tail_text m s) ≤ tail_output
      by accepted q = omega (arith, ap length (text_is accepted q), tail_most (verdict_tailed m u s 2256 q))
      by (refused number line) q = omega (arith, ap length (text_is (refused number line) q), row_line_short (114 ∷ 101 ∷ 102 ∷ 117 ∷ 115 ∷ 101 ∷ 100 ∷ []) (line ∷ number ∷ []))

  -- ---- what is written of it, from rows that have room for every tail, into an output that has

  module _ {ws₀ : List ℕ} {xs₀ : List ℤ} {ws : List ℕ} {xs : List ℤ} (x : length ws₀ ≡ 2256) (y : length xs₀ ≡ 2256) (o : List ℕ) (e : tail_output ≤ length o) where
    pub refused_text : {r : Refusal} → Gives m s ws₀ xs₀ (Err r) ws xs → {k : ℕ} {p : List ℕ} → Wrote (room listing.line_room (ended (refused_line r.line r.number))) o k p → Wrote (room tail_output (tail_text m s)) o k p
    refused_text {r} g {k} {p} w = wrote_line listing.line_room tail_output (ended (refused_line r.line r.number)) (tail_text m s) o p k (omega arith) e (sym (text_is (refused r.number r.line) (is_refused m u s x y g))) w

    module _ {tail : Tail} (g : Gives m s ws₀ xs₀ (Ok tail) ws xs) where
      abbrev tailed : Tailed m u s
      tailed = verdict_tailed m u s 2256 (is_made m u s x y g).accepts

      lines_are : records_text (zip (take tail.events ws) (take tail.events xs)) ≡ events_text (tail_of m s)
      lines_are = ap₂ (λ (ws : List ℕ) (xs : List ℤ). records_text (zip ws xs)) (whats_front m u s x y g) (values_front m u s x y g) ∙ tail_lines tailed

      pub given_room : length (records_text (zip (take tail.events ws) (take tail.events xs))) + line_room ≤ length o
      given_room = omega (arith, ap length lines_are, tail_most tailed, e)

      pub given_text : {k : ℕ} {p : List ℕ} → Wrote (λ _. records_text (zip (take tail.events ws) (take tail.events xs))) o k p → Wrote (room tail_output (tail_text m s)) o k p
      given_text {k} {p} w = wrote_like (λ _. records_text (zip (take tail.events ws) (take tail.events xs))) (room tail_output (tail_text m s)) o p k (lines_are ∙ sym (text_is accepted (is_made m u s x y g).accepts) ∙ room_yes tail_output (tail_text m s) o e) w
