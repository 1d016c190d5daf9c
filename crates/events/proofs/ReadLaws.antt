-- The loop over the lines from a place on: the events that were read so far lie over the rows, and the lines from here on are left.
use Prim.Native.Nat.{ℕ, suc, ◌≤◌, ◌<◌, ◌+◌}
use native.Mathlib.Omega.{arith}
use native.Mathlib.Numerals.{add-one}
use mathlib.Core.Path.{◌≡◌, refl, sym, ap, ◌∙◌}
use mathlib.Core.List.{List, [], ◌∷◌, ◌++◌, map, append-nil, append_assoc}
use mathlib.Core.Option.{Option, none, some}
use lib.IntN.{ℤ}
use lib.ListN.{length, drop, set, length-map, length-append}
use borrow.Author.Tests.{le-leb, lt-leb}
use borrow.Table.Elements.{map_app}
use Rattle.rules.specs.declared.Event.{Event}
use Rattle.rules.specs.declared.Counts.{Counts}
use Rattle.rules.specs.declared.Course.{Course}
use Rattle.std.proofs.Common.{Some, None, Ok, Err}
use Rattle.rules.specs.Limits.{full, limits_of, first_line, line_after, value_width}
use Rattle.rules.specs.Rules.{Verdict, refused, told}
use Rattle.rules.specs.Reading.{read_from, stop_from}
use Rattle.rules.proofs.Bounds.{up_to_full}
use Rattle.decimal.specs.Text.{over}
use Rattle.decimal.proofs.TextLaws.{over_next}
use Rattle.records.specs.Records.{what_of, packed, value_in}
use Rattle.events.specs.declared.Line.{Line}
use Rattle.events.specs.Events.{readings, part_lines}
use Rattle.events.specs.Computed.Lines.{line_at}
use Rattle.events.specs.Reading.{lines_read, events_read, Reads}
use Rattle.events.proofs.WalkLaws.{part_none, Here, here, wrong_here}

-- one record more
row_next : {X : Type 0} (f : Event → X) (es : List Event) (e : Event) (row o : List X) (n : ℕ) (x : X)
    → row ≡ over (map f es) o → length es ≡ n → n < length o → x ≡ f e → set row n x ≡ over (map f (es ++ (e ∷ []))) o
row_next {X} f es e row o n x q c h z =
    let k : n ≡ length (map f es) = sym c ∙ sym (length-map es f) in
    (λ i. set (q i) (k i) (z i)) ∙ over_next (map f es) o (f e) (omega (arith, k)) ∙ ap (λ (u : List X). over u o) (sym (map_app f es (e ∷ [])))

-- the lines from the n-th on
abbrev left : Counts → List ℕ → ℕ → ℕ → List (Option Event)
left h s at n = readings value_width (line_after h n) (part_lines (drop at s))

-- after n events, at the line that starts at `at`, with the rows as they were at the start, at `from`, and as they are now
pub record Turn (course : Course) (h : Counts) (s : List ℕ) (from : ℕ) (what₀ : List ℕ) (value₀ : List ℤ) (what : List ℕ) (value : List ℤ) (at n : ℕ) : Type 0 where
  pub past : List Event
  pub count : length past ≡ n
  pub small : n ≤ (limits_of course).events
  pub read : events_read (limits_of course) h (drop from s) ≡ past ++ read_from (limits_of course) n (left h s at n)
  pub stop : stop_from (limits_of course) h 0 (lines_read (limits_of course) h (drop from s)) ≡ stop_from (limits_of course) h n (left h s at n)
  pub what_is : what ≡ over (map packed past) what₀
  pub value_is : value ≡ over (map value_in past) value₀

pub turn_start : (course : Course) (h : Counts) (s : List ℕ) (from : ℕ) (what : List ℕ) (value : List ℤ) → Turn course h s from what value what value from 0
turn_start course h s from what value =
    let e : first_line h ≡ line_after h 0 = omega arith in
    record {
      past = [];
      count = refl;
      small = omega arith;
      read = ap (λ (l : ℕ). read_from (limits_of course) 0 (readings value_width l (part_lines (drop from s)))) e;
      stop = ap (λ (l : ℕ). stop_from (limits_of course) h 0 (readings value_width l (part_lines (drop from s)))) e;
      what_is = refl;
      value_is = refl;
    }

module _ {course : Course} {h : Counts} {s what₀ what : List ℕ} {value₀ value : List ℤ} {from at n : ℕ} (t : Turn course h s from what₀ value₀ what value at n) where
  -- the next line starts behind this one
  pub turn_next : (l : Line) → line_at s at ≡ Some l → at < l.next
  turn_next l e = (here (line_after h n) s at l e).more

  -- an event: one record more, and the next line
  pub turn_more : (l : Line) (w : ℕ) (x : ℤ) → line_at s at ≡ Some l → n < (limits_of course).events → full.events ≤ length what₀ → full.events ≤ length value₀
      → w ≡ what_of l.letter l.thread l.place → x ≡ l.value → Turn course h s from what₀ value₀ (set what n w) (set value n x) l.next (n + 1)
  turn_more l w x e i a b p q = by (here (line_after h n) s at l e)
    where
      by : Here (line_after h n) s at l → Turn course h s from what₀ value₀ (set what n w) (set value n x) l.next (n + 1)
      by v = record {
        past = t.past ++ (v.event ∷ []);
        count = length-append t.past (v.event ∷ []) ∙ ap (λ (k : ℕ). k + 1) t.count;
        small = omega arith;
        read = t.read ∙ ap (λ (ls : List Event). t.past ++ ls) (ap (read_from (limits_of course) n) next ∙ read_on) ∙ sym (append_assoc t.past (v.event ∷ []) (read_from (limits_of course) (n + 1) rest));
        stop = t.stop ∙ ap (stop_from (limits_of course) h n) next ∙ stop_on;
        what_is = row_next packed t.past v.event what what₀ n w t.what_is t.count (omega (arith, (up_to_full course).events)) (p ∙ sym v.what_is);
        value_is = row_next value_in t.past v.event value value₀ n x t.value_is t.count (omega (arith, (up_to_full course).events)) (q ∙ sym v.value_is);
      }
        where
          rest : List (Option Event)
          rest = left h s l.next (n + 1)

          next : left h s at n ≡ some v.event ∷ rest
          next =
              let k : suc (line_after h n) ≡ line_after h (n + 1) = omega arith in
              v.lines ∙ ap (λ (j : ℕ). some v.event ∷ readings value_width j (part_lines (drop l.next s))) k

          read_on : read_from (limits_of course) n (some v.event ∷ rest) ≡ v.event ∷ read_from (limits_of course) (n + 1) rest
          read_on = unfold read_from in rw (lt-leb (limits_of course).events n i, add-one n)

          stop_on : stop_from (limits_of course) h n (some v.event ∷ rest) ≡ stop_from (limits_of course) h (n + 1) rest
          stop_on = unfold stop_from in rw (lt-leb (limits_of course).events n i, add-one n)

  -- the end: nothing more is read
  finish : (rest : List (Option Event)) (v : Verdict) → left h s at n ≡ rest → read_from (limits_of course) n rest ≡ [] → told v ≡ stop_from (limits_of course) h n rest
      → Reads (limits_of course) h (drop from s) (record { count = n; verdict = v }) what₀ what value₀ value
  finish rest v q r e =
      let all : events_read (limits_of course) h (drop from s) ≡ t.past = t.read ∙ ap (λ (ls : List Event). t.past ++ ls) (ap (read_from (limits_of course) n) q ∙ r) ∙ append-nil t.past in
      record {
        count = sym t.count ∙ ap length (sym all);
        verdict = e ∙ ap (stop_from (limits_of course) h n) (sym q) ∙ sym t.stop;
        what_is = t.what_is ∙ ap (λ (es : List Event). over (map packed es) what₀) (sym all);
        value_is = t.value_is ∙ ap (λ (es : List Event). over (map value_in es) value₀) (sym all);
      }

  pub turn_end : length s ≤ at → Reads (limits_of course) h (drop from s) (record { count = n; verdict = Ok tt }) what₀ what value₀ value
  turn_end i = finish [] (Ok tt) (ap (readings value_width (line_after h n)) (part_none s at i) ∙ (unfold readings in refl)) (unfold read_from in refl) (unfold stop_from in refl)

  -- a line that is no event
  pub turn_wrong : (line : ℕ) → line_at s at ≡ None → at < length s → line ≡ line_after h n
      → Reads (limits_of course) h (drop from s) (record { count = n; verdict = Err (record { number = 4; line = line }) }) what₀ what value₀ value
  turn_wrong line e i k =
      let v = wrong_here (line_after h n) s at i e in
      finish (none ∷ v.rest) (Err (record { number = 4; line = line })) v.lines (unfold read_from in refl) (unfold stop_from in ap (refused 4) k)

  -- an event more than there may be
  pub turn_full : (l : Line) (number line : ℕ) → line_at s at ≡ Some l → (limits_of course).events ≤ n → number ≡ (limits_of course).excess → line ≡ line_after h n
      → Reads (limits_of course) h (drop from s) (record { count = n; verdict = Err (record { number = number; line = line }) }) what₀ what value₀ value
  turn_full l number line e i x k =
      let v = here (line_after h n) s at l e in
      finish (some v.event ∷ readings value_width (suc (line_after h n)) (part_lines (drop l.next s))) (Err (record { number = number; line = line })) v.lines
      (unfold read_from in rw (le-leb (limits_of course).events n i)) (unfold stop_from in rw (le-leb (limits_of course).events n i) (λ j. refused (x j) (k j)))
