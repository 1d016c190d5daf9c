-- The canonical text of a trace is found and read back as it was.
use mathlib.Core.Path.{◌≡◌, refl, sym, ap, ◌∙◌}
use mathlib.Core.Bool.{Bool, true, false, ◌&&◌}
use mathlib.Core.List.{List, [], ◌∷◌, ◌++◌, map, append_assoc, append-nil}
use mathlib.Core.Option.{some}
use Prim.Native.Nat.{ℕ, suc, ◌≤◌, ◌<◌, ◌+◌, ◌-◌}
use native.Mathlib.Omega.{arith}
use borrow.Author.Tests.{lt-ltb, le-leb, eq-eqb, ne_eqb, ltb-true}
use lib.Dec.{ltb}
use lib.ListN.{length, get_or, take, drop, set, replicate, length-append}
use lib.Seq.{take_at, drop_at, get_or_at, set_at}
use Rattle.rules.specs.declared.Counts.{Counts}
use Rattle.rules.specs.declared.Event.{Event}
use Rattle.rules.specs.Limits.{full, no_volatiles, with_flags, any_volatile, allowed, first_line, value_width}
use Rattle.rules.proofs.Bounds.{allowed_bounds}
use Rattle.lines.specs.Lines.{before, up_to, split_on, lines_of, letter}
use Rattle.lines.specs.Lines as lines
use Rattle.std.proofs.Common.{Some, None, Result, Ok}
use Rattle.rules.specs.declared.Refusal.{Refusal}
use Rattle.decimal.specs.Decimal.{cap, natural_of}
use Rattle.decimal.specs.Text.{natural_text, word_row, ended}
use Rattle.decimal.proofs.TextLaws.{text_small}
use Rattle.events.specs.Events.{readings}
use Rattle.trace.specs.declared.Trace.{Trace}
use Rattle.trace.specs.Trace.{trailer_number, check_at, last_line, last_number, trailer_of, head_of, Guards, locks_from, is_dash, guards_of, volatiles_of, with_guards, second_of, first_of, behind_trailer, plain_trace_of, events_of, with_volatiles, third_of, behind_guards, trace_of, meant_volatile, found, head_in}
use Rattle.trace.proofs.VolatileLaws.{flags_none, allowed_flags, allowed_with}
use Rattle.trace.proofs.TraceLaws.{head_right, second_some, third_none, third_some, trace_short, found_volatile}
use Rattle.writer.specs.Text.{head_line, guard_line, numbers_from, volatile_row, volatiles_text, volatile_line, event_line, trailer_line, events_text, body_text, trace_text, all_below, padded, Guarded, none, given, AllDeclared, done, more, found_text}
use Rattle.writer.proofs.NumberText.{natural_back}
use Rattle.writer.proofs.FieldText.{Free, free_nil, free_cons, before_end, lines_free, texts, up_line, up_join, up_free, up_append}
use Rattle.writer.proofs.EventBack.{row_fields, row_free, written_read, event_free}
use Rattle.writer.proofs.VolatileBack.{volatiles_back, flags_none_back, events_begin}

-- a line at the front of a text: where it ends, and what is behind it
pub record Cut (t u s : List ℕ) : Type 0 where
  pub place : length t ≡ before 10 s
  pub inside : length t < length s
  pub front : take (length t) s ≡ t
  pub back : drop (length t + 1) s ≡ u

cut : (t u : List ℕ) → Free 10 t → Cut t u (ended t ++ u)
cut t u h =
    let e : ended t ++ u ≡ t ++ (10 ∷ u) = append_assoc t (10 ∷ []) u in
    let m : length t + 1 ≡ length (ended t) = omega (arith, length-append t (10 ∷ [])) in
    record {
      place = sym (ap (before 10) e ∙ before_end 10 t u h);
      inside = omega (arith, length-append (ended t) u, length-append t (10 ∷ []));
      front = ap (take (length t)) e ∙ take_at t (10 ∷ u) (length t) refl;
      back = ap (λ (i : ℕ). drop i (ended t ++ u)) m ∙ drop_at (ended t) u (length (ended t)) refl;
    }

-- the trailer
trailer_number_law : (n : ℕ) → n ≤ cap → trailer_number (split_on 32 (trailer_line n)) ≡ Some n
unfolding trailer_number texts letter
trailer_number_law n h = ap trailer_number (row_fields 90 (n ∷ []) (λ e. omega arith)) ∙ natural_back n h

module _ (b : List ℕ) (whole : up_to 10 b ≡ length b) (small : length b ≤ cap) where
  abbrev last : List ℕ
  last = trailer_line (length b)

  abbrev bytes : List ℕ
  bytes = b ++ ended last

  joined : bytes ≡ (b ++ last) ++ (10 ∷ [])
  joined = sym (append_assoc b last (10 ∷ []))

  before_last : length bytes - 1 ≡ length (b ++ last)
  before_last = omega (arith, ap length joined, length-append (b ++ last) (10 ∷ []))

  final : get_or bytes (length bytes - 1) 0 ≡ 10
  final =
      ap (λ (i : ℕ). get_or bytes i 0) before_last ∙ ap (λ (s : List ℕ). get_or s (length (b ++ last)) 0) joined
      ∙ get_or_at (b ++ last) 10 [] 0 (length (b ++ last)) refl

  start : last_line bytes ≡ length b
  unfolding last_line
  start =
      ap (λ (i : ℕ). up_to 10 (take i bytes)) before_last
      ∙ ap (λ (s : List ℕ). up_to 10 (take (length (b ++ last)) s)) joined
      ∙ ap (up_to 10) (take_at (b ++ last) (10 ∷ []) (length (b ++ last)) refl)
      ∙ up_append 10 b last (up_free 10 last (row_free 90 (length b ∷ []) (λ e. omega arith))) ∙ whole

  piece : take (length bytes - 1 - length b) (drop (length b) bytes) ≡ last
  piece =
      let n : length bytes - 1 - length b ≡ length last = omega (arith, before_last, length-append b last) in
      ap (λ (s : List ℕ). take (length bytes - 1 - length b) s) (drop_at b (ended last) (length b) refl)
      ∙ ap (λ (i : ℕ). take i (ended last)) n ∙ take_at last (10 ∷ []) (length last) refl

  pub trailer_back : trailer_of bytes ≡ Some (length b)
  unfolding trailer_of last_number
  trailer_back =
      rw (eq-eqb _ _ final)
      (ap (λ (a : ℕ). check_at a (trailer_number (split_on 32 (take (length bytes - 1 - a) (drop a bytes))))) start
      ∙ ap (λ (t : List ℕ). check_at (length b) (trailer_number (split_on 32 t))) piece
      ∙ ap (check_at (length b)) (trailer_number_law (length b) small)
      ∙ rw (eq-eqb (length b) (length b) refl))

-- the head, which names no volatile variable
abbrev plain : Counts → Counts
plain c = with_flags c no_volatiles

plain_allowed : (c : Counts) → allowed full c ≡ true → allowed full (plain c) ≡ true
plain_allowed c a = allowed_with full c no_volatiles (flags_none c.variables) a

head_back : (c : Counts) → allowed full c ≡ true → head_of (split_on 32 (head_line c)) ≡ Some (plain c)
unfolding head_of texts letter
head_back c a =
    let w = allowed_bounds c a in
    let t : natural_of (natural_text c.threads) ≡ Some c.threads = natural_back c.threads (omega (arith, w)) in
    let v : natural_of (natural_text c.variables) ≡ Some c.variables = natural_back c.variables (omega (arith, w)) in
    let l : natural_of (natural_text c.locks) ≡ Some c.locks = natural_back c.locks (omega (arith, w)) in
    ap head_of (row_fields 72 (c.threads ∷ c.variables ∷ c.locks ∷ []) (λ e. omega arith)) ∙ rw (t, v, l, plain_allowed c a)

-- the guards
below_split : (l n : ℕ) (ns : List ℕ) → all_below l (n ∷ ns) ≡ true → (n < l) × (all_below l ns ≡ true)
unfolding all_below
below_split l n ns h = by (ltb n l) refl h
  where
    by : (q : Bool) → ltb n l ≡ q → q && all_below l ns ≡ true → (n < l) × (all_below l ns ≡ true)
    by true e h = (ltb-true n l e, h)
    by false e h = absurd (let z : ◌≡◌ {A = ℕ} 0 1 = cc in omega arith)

locks_back : (l : ℕ) → l ≤ full.locks → (a ns : List ℕ) → length a + length ns ≤ full.variables → all_below l ns ≡ true
    → locks_from (length a) (padded a) l (texts ns) ≡ Some (padded (a ++ ns))
unfolding locks_from texts
locks_back l k a [] h b = ap (λ (u : List ℕ). Some (padded u)) (sym (append-nil a))
locks_back l k a (n ∷ ns) h b =
    let w = below_split l n ns b in
    let z : full.variables - length a ≡ suc (full.variables - length (a ++ (n ∷ []))) = omega (arith, length-append a (n ∷ [])) in
    let s : set (padded a) (length a) n ≡ padded (a ++ (n ∷ [])) =
    ap (λ (i : ℕ). set (a ++ replicate i 0) (length a) n) z
    ∙ set_at a 0 (replicate (full.variables - length (a ++ (n ∷ []))) 0) n (length a) refl
    ∙ sym (append_assoc a (n ∷ []) (replicate (full.variables - length (a ++ (n ∷ []))) 0)) in
    let i : length a + 1 ≡ length (a ++ (n ∷ [])) = omega (arith, length-append a (n ∷ [])) in
    rw (natural_back n (omega (arith, w)), le-leb 0 n (omega arith), lt-ltb n l w.0, s, i)
    (locks_back l k (a ++ (n ∷ [])) ns (omega (arith, length-append a (n ∷ []))) w.1
    ∙ ap (λ (u : List ℕ). Some (padded u)) (append_assoc a (n ∷ []) ns))

texts_length : (ns : List ℕ) → length (texts ns) ≡ length ns
unfolding texts
texts_length [] = refl
texts_length (n ∷ ns) = ap suc (texts_length ns)

no_dash : (l : ℕ) → l ≤ full.locks → (ns : List ℕ) → all_below l ns ≡ true → is_dash ((71 ∷ []) ∷ texts ns) ≡ false
unfolding texts letter
no_dash l k [] b = refl
no_dash l k (n ∷ []) b =
    let w = below_split l n [] b in
    rw (text_small n (omega (arith, w))) (ne_eqb (48 + n) 45 (λ e. omega arith))
no_dash l k (n ∷ m ∷ ns) b = rw (ne_eqb (suc (suc (suc (length (texts ns))))) 2 (λ e. omega arith))

guards_back : (c : Counts) (g : Guards) → allowed full c ≡ true → Guarded c g
    → guards_of c.variables c.locks (split_on 32 (guard_line c.variables g)) ≡ Some g
unfolding guards_of split_on letter
guards_back c g a none = refl
guards_back c g a (given ns n b) =
    let w = allowed_bounds c a in
    let t : take c.variables (padded ns) ≡ ns = take_at ns (replicate (full.variables - length ns) 0) c.variables n in
    let d = no_dash c.locks (omega (arith, w)) ns b in
    let m : suc (length (texts ns)) ≡ c.variables + 1 = omega (arith, texts_length ns, n) in
    let k = locks_back c.locks (omega (arith, w)) [] ns (omega (arith, w, n)) b in
    ap (guards_of c.variables c.locks) (ap (λ (u : List ℕ). split_on 32 (word_row (71 ∷ []) u)) t ∙ row_fields 71 ns (λ e. omega arith))
    ∙ rw (d, eq-eqb _ _ m, k)

-- the events
events_back : (c : Counts) → allowed full c ≡ true → (n : ℕ) (es : List Event) → AllDeclared c n es → readings value_width n (lines_of (events_text es)) ≡ map (λ (e : Event). some e) es
unfolding readings events_text lines_of split_on lines.ended
events_back c a n [] (done m) = refl
events_back c a n (e ∷ es) (more m f fs d r) =
    ap (readings value_width n) (ap lines_of (append_assoc (event_line e) (10 ∷ []) (events_text es)) ∙ lines_free (event_line e) (events_text es) (event_free e))
    ∙ rw (written_read c n e a d, events_back c a (suc n) es r)

events_whole : (es : List Event) → up_to 10 (events_text es) ≡ length (events_text es)
unfolding events_text up_to
events_whole [] = refl
events_whole (e ∷ es) = up_join 10 (ended (event_line e)) (events_text es) (up_line 10 (event_line e)) (events_whole es)

guard_free : (c : Counts) (g : Guards) → Free 10 (guard_line c.variables g)
guard_free c None =
    free_cons 10 71 (32 ∷ 45 ∷ []) (λ e. omega arith) (free_cons 10 32 (45 ∷ []) (λ e. omega arith) (free_cons 10 45 [] (λ e. omega arith) (free_nil 10)))
guard_free c (Some g) = row_free 71 (take c.variables g) (λ e. omega arith)

-- a part of a text, by the places where it starts and ends
part_back : (p e z : List ℕ) (t : Trace) → t.from ≡ length p → t.to ≡ length (p ++ e) → events_of ((p ++ e) ++ z) (Ok t) ≡ e
unfolding events_of
part_back p e z t from to =
    let m : t.to - t.from ≡ length e = omega (arith, from, to, length-append p e) in
    ap (λ (u : List ℕ). take (t.to - t.from) (drop t.from u)) (append_assoc p e z)
    ∙ ap (λ (k : ℕ). take (t.to - t.from) (drop k (p ++ (e ++ z)))) from
    ∙ ap (take (t.to - t.from)) (drop_at p (e ++ z) (length p) refl)
    ∙ ap (λ (k : ℕ). take k (e ++ z)) m ∙ take_at e z (length e) refl

module _ (c : Counts) (g : Guards) (es : List Event) (a : allowed full c ≡ true) (sized : length c.volatiles ≡ full.variables) (ok : Guarded c g) (short : length (trace_text c g es) ≤ full.bytes) where
  -- what stands behind the head, and behind the guards
  abbrev third : List ℕ
  third = volatile_line c ++ events_text es

  abbrev second : List ℕ
  second = ended (guard_line c.variables g) ++ third

  abbrev n : ℕ
  n = length (body_text c g es)

  abbrev front : List ℕ
  front = ended (head_line c) ++ ended (guard_line c.variables g)

  third_whole : up_to 10 third ≡ length third
  unfolding up_to
  third_whole = by (numbers_from 0 c.volatiles)
    where
      by : (ns : List ℕ) → up_to 10 (volatiles_text ns ++ events_text es) ≡ length (volatiles_text ns ++ events_text es)
      by [] = events_whole es
      by (k ∷ ns) = up_join 10 (ended (volatile_row (k ∷ ns))) (events_text es) (up_line 10 (volatile_row (k ∷ ns))) (events_whole es)

  body_whole : up_to 10 (body_text c g es) ≡ n
  unfolding body_text
  body_whole =
      up_join 10 (ended (head_line c)) second (up_line 10 (head_line c))
      (up_join 10 (ended (guard_line c.variables g)) third (up_line 10 (guard_line c.variables g)) third_whole)

  body_small : n ≤ cap
  unfolding trace_text
  body_small = omega (arith, length-append (body_text c g es) (ended (trailer_line n)))

  -- what lines 1 and 2 give
  abbrev plain_text : Trace
  plain_text = record { head = plain c; guards = g; from = length front; to = n }

  places : length (head_line c) + 1 + length (guard_line c.variables g) + 1 ≡ length front
  places = omega (arith, length-append (head_line c) (10 ∷ []), length-append (guard_line c.variables g) (10 ∷ []), length-append (ended (head_line c)) (ended (guard_line c.variables g)))

  second_back : second_of second (length (head_line c) + 1) n (plain c) ≡ Ok plain_text
  second_back =
      let w = cut (guard_line c.variables g) third (guard_free c g) in
      let at = length (head_line c) + 1 + length (guard_line c.variables g) + 1 in
      sym (second_some second (length (head_line c) + 1) n (length (guard_line c.variables g)) (plain c) w.place w.inside)
      ∙ ap (λ (t : List ℕ). with_guards at n (plain c) (guards_of c.variables c.locks (split_on 32 t))) w.front
      ∙ ap (with_guards at n (plain c)) (guards_back c g a ok)
      ∙ ap (λ (i : ℕ). with_guards i n (plain c) (Some g)) places

  first_back : first_of full (body_text c g es) n ≡ Ok plain_text
  unfolding body_text
  first_back =
      let b = ended (head_line c) ++ second in
      let w = cut (head_line c) second (row_free 72 (c.threads ∷ c.variables ∷ c.locks ∷ []) (λ e. omega arith)) in
      let z = ap (λ (t : List ℕ). head_of (split_on 32 t)) w.front ∙ head_back c a in
      sym (head_right full b n (length (head_line c)) w.place w.inside (Some (plain c)) (sym z) (plain c) refl (plain_allowed c a))
      ∙ ap (λ (t : List ℕ). second_of t (length (head_line c) + 1) n (plain c)) w.back
      ∙ second_back

  plain_found : plain_trace_of full (trace_text c g es) ≡ Ok plain_text
  unfolding trace_text
  plain_found =
      let s = body_text c g es ++ ended (trailer_line n) in
      sym (trace_short full s short) ∙ ap (behind_trailer full s) (trailer_back (body_text c g es) body_whole body_small)
      ∙ ap (λ (t : List ℕ). first_of full t n) (take_at (body_text c g es) (ended (trailer_line n)) n refl)
      ∙ first_back

  third_found : events_of (trace_text c g es) (Ok plain_text) ≡ third
  unfolding trace_text body_text
  third_found =
      let b : body_text c g es ≡ front ++ third = sym (append_assoc (ended (head_line c)) (ended (guard_line c.variables g)) third) in
      ap (λ (u : List ℕ). events_of (u ++ ended (trailer_line n)) (Ok plain_text)) b ∙ part_back front third (ended (trailer_line n)) plain_text refl (ap length b)

  third_back : third_of third plain_text ≡ Ok (found_text c g es)
  unfolding found_text word_row
  third_back = by (numbers_from 0 c.volatiles) refl
    where
      fronts : length front ≡ length (ended (head_line c)) + length (ended (guard_line c.variables g))
      fronts = length-append (ended (head_line c)) (ended (guard_line c.variables g))

      by : (ns : List ℕ) → numbers_from 0 c.volatiles ≡ ns
          → third_of (volatiles_text ns ++ events_text es) plain_text
          ≡ Ok (record { head = c; guards = g; from = length (ended (head_line c)) + length (ended (guard_line c.variables g)) + length (volatiles_text ns); to = n })
      by [] q =
          let f = flags_none_back c.volatiles sized q in
          let m : length front ≡ length (ended (head_line c)) + length (ended (guard_line c.variables g)) + 0 = omega (arith, fronts) in
          sym (third_none (events_text es) plain_text (events_begin es)) ∙ (λ i. Ok (record { head = with_flags c (sym f i); guards = g; from = m i; to = n }))
      by (k ∷ ns) q =
          let r = volatile_row (k ∷ ns) in
          let u = ended r ++ events_text es in
          let w = cut r (events_text es) (row_free 86 (k ∷ ns) (λ e. omega arith)) in
          let m : length front + (length r + 1) ≡ length (ended (head_line c)) + length (ended (guard_line c.variables g)) + length (ended r) = omega (arith, fronts, length-append r (10 ∷ [])) in
          sym (third_some u plain_text refl (length r) w.place)
          ∙ ap (λ (t : List ℕ). with_volatiles (length r + 1) plain_text (volatiles_of c.variables (split_on 32 t))) w.front
          ∙ ap (with_volatiles (length r + 1) plain_text) (volatiles_back c.variables c.volatiles k ns (allowed_bounds c a).1 (allowed_flags full c sized a) q)
          ∙ (λ i. Ok (record { head = c; guards = g; from = m i; to = n }))

  -- The text is found, with its head, its guards, its volatile variables and the place of its events.
  pub trace_found : trace_of full (trace_text c g es) ≡ Ok (found_text c g es)
  unfolding trace_of
  trace_found =
      ap (behind_guards (trace_text c g es)) plain_found ∙ ap (λ (u : List ℕ). third_of u plain_text) third_found ∙ third_back

  -- It has a `V` line exactly where a variable is volatile.
  pub line_found : meant_volatile full (trace_text c g es) ≡ any_volatile c
  unfolding found_text
  line_found = sym (found_volatile full (trace_text c g es) (ap found trace_found)) ∙ ap (λ (t : Result Trace Refusal). any_volatile (head_in t)) trace_found

  -- The part that is handed back holds the events.
  pub events_found : events_of (trace_text c g es) (trace_of full (trace_text c g es)) ≡ events_text es
  unfolding found_text trace_text body_text
  events_found =
      let p = front ++ volatile_line c in
      let e = events_text es in
      let z = ended (trailer_line n) in
      let b : body_text c g es ≡ p ++ e = sym (append_assoc (ended (head_line c)) (ended (guard_line c.variables g)) third) ∙ sym (append_assoc front (volatile_line c) e) in
      let i : (found_text c g es).from ≡ length p = omega (arith, length-append (ended (head_line c)) (ended (guard_line c.variables g)), length-append front (volatile_line c)) in
      ap (events_of (trace_text c g es)) trace_found ∙ ap (λ (u : List ℕ). events_of (u ++ z) (Ok (found_text c g es))) b ∙ part_back p e z (found_text c g es) i (ap length b)

  -- Its lines are read as the events.
  pub events_read_law : AllDeclared c (first_line c) es → readings value_width (first_line c) (lines_of (events_of (trace_text c g es) (trace_of full (trace_text c g es)))) ≡ map (λ (e : Event). some e) es
  events_read_law d = ap (λ (t : List ℕ). readings value_width (first_line c) (lines_of t)) events_found ∙ events_back c a (first_line c) es d
