-- A scan of the rows of a list of events gives the word that the events give.
use Prim.Native.Nat.{ℕ, suc, pred, ◌+◌, ◌<◌}
use native.Mathlib.Omega.{arith}
use native.Mathlib.Numerals.{add-one}
use mathlib.Core.Path.{◌≡◌, refl, sym, ap, ◌∙◌}
use mathlib.Core.Bool.{Bool, true, false, not, cond, ◌&&◌, ◌||◌}
use mathlib.Core.List.{List, [], ◌∷◌, map, reverse, reverse_aux}
use mathlib.Core.Option.{Option, some}
use lib.Dec.{eqb}
use lib.IntN.{ℤ}
use Rattle.std.specs.List.{fold, zip}
use Rattle.std.proofs.Math.Bool.{or-false}
use Rattle.rules.specs.declared.Event.{Event}
use Rattle.rules.specs.Events.{A, B, C, F, K, L, N, P, S, W, Y, letter, place, value, is, of, on}
use Rattle.rules.specs.Words.{latest, value_in as value_of, letter_in as letters_of, count, by, fresh, pending, announced}
use Rattle.rules.specs.Ten.{ten_depth}
use Rattle.records.specs.Records.{packed, value_in, letter_in}
use Rattle.records.proofs.RecordLaws.{packed_letter, thread_back, place_back}
use Rattle.records.proofs.RowLaws.{Small}
use Rattle.rules.proofs.Letters.{capped_same, eqb_turn}
use Rattle.finishing.specs.declared.Facts.{Facts}
use Rattle.finishing.specs.Tail.{some_new}
use Rattle.finishing.specs.Computed.Parts.{entry, here, only_here, facts_after, facts_in, depth_after, hold_after, depth_in, new_letter, any_new, whats_of}

-- thread and place are below 255
abbrev pub Fits : Event → Type 0
Fits e = (e.thread < 255) × (place e.kind < 255)

-- the records of events with their values
abbrev pub pairs : List Event → List (ℕ × ℤ)
pairs es = map (λ e. (packed e, value_in e)) es

pub pairs_whats : (es : List Event) → whats_of (pairs es) ≡ map packed es
pairs_whats [] = refl
pairs_whats (e ∷ es) = ap (λ (ws : List ℕ). packed e ∷ ws) (pairs_whats es)

pub pairs_zip : (es : List Event) → zip (map packed es) (map value_in es) ≡ pairs es
pairs_zip [] = refl
pairs_zip (e ∷ es) = ap (λ (rs : List (ℕ × ℤ)). (packed e, value_in e) ∷ rs) (pairs_zip es)

-- ---- any scan

-- f says what one record more makes of a word of the events; each record is what g gives of its event
module _ {X R : Type 0} (f : X → R → X) (g : Event → R) (word : List Event → X) (step : (e : Event) (past : List Event) → Fits e → f (word past) (g e) ≡ word (e ∷ past)) where
  scan_onto : (es past : List Event) → Small es → fold f (word past) (map g es) ≡ word (reverse_aux es past)
  scan_onto [] past s = refl
  scan_onto (e ∷ es) past s = ap (λ (x : X). fold f x (map g es)) (step e past (s.0, s.2)) ∙ scan_onto es (e ∷ past) s.3

  pub scan_all : (es : List Event) → Small es → fold f (word []) (map g es) ≡ word (reverse es)
  scan_all es s = scan_onto es [] s

-- ---- the record of an event

module _ (e : Event) (s : Fits e) where
  pub here_of : (t p : ℕ) → here t p (packed e) ≡ (of t e && on p e)
  unfolding here packed of on
  here_of t p = rw (
    thread_back (letter e.kind) e.thread (place e.kind),
    place_back (letter e.kind) e.thread (place e.kind),
    capped_same e.thread s.0,
    capped_same (place e.kind) s.1,
  )

-- ---- the facts

-- what the latest event that passes a test says, one event more
letters_more : (ks : List ℕ) (c : Bool) (e : Event) (o : Option Event) → letters_of ks (cond c (some e) o) ≡ cond c (is ks e) (letters_of ks o)
unfolding letters_of
letters_more ks true e o = refl
letters_more ks false e o = refl

value_more : (c : Bool) (e : Event) (o : Option Event) → value_of (cond c (some e) o) ≡ cond c (value e.kind) (value_of o)
unfolding value_of
value_more true e o = refl
value_more false e o = refl

-- p of an event of T on V, b, sets a flag and q clears it
flag : (p q b old : Bool) → cond b (p || (old && not q)) old ≡ cond ((p || (q || false)) && b) (p || false) old
flag true q true old = refl
flag false true true true = refl
flag false true true false = refl
flag false false true true = refl
flag false false true false = refl
flag true q false old = refl
flag false true false old = refl
flag false false false old = refl

-- q and r do
flag_two : (p q r b old : Bool) → cond b (p || (old && not (q || r))) old ≡ cond ((p || (q || (r || false))) && b) (p || false) old
flag_two p true r b old = flag p true b old ∙ ap (λ (z : Bool). cond ((p || z) && b) (p || false) old) refl
flag_two p false r b old = flag p r b old

kept : {X : Type 0} (p b : Bool) (x old : X) → cond b (cond p x old) old ≡ cond ((p || false) && b) x old
kept true true x old = refl
kept true false x old = refl
kept false true x old = refl
kept false false x old = refl

counted : (p b : Bool) (n : ℕ) → cond b (n + cond p 1 0) n ≡ cond ((p || false) && b) (suc n) n
counted true true n = add-one n
counted true false n = refl
counted false true n = omega arith
counted false false n = refl

abbrev pub facts_of : ℕ → ℕ → List Event → Facts
facts_of t v es = record {
  pending = pending t v es;
  announced = announced t v es;
  fresh = fresh t v es;
  loads = count (by (L ∷ []) t v) es;
  writes = count (by (W ∷ []) t v) es;
}

-- a condition over all fields
over_fields : (b : Bool) (f g : Facts) → cond b f g ≡ record {
  pending = cond b f.pending g.pending;
  announced = cond b f.announced g.announced;
  fresh = cond b f.fresh g.fresh;
  loads = cond b f.loads g.loads;
  writes = cond b f.writes g.writes;
}
over_fields true f g = refl
over_fields false f g = refl

module _ (t v : ℕ) (e : Event) (past : List Event) (s : Fits e) where
  abbrev k : ℕ
  k = letter e.kind

  abbrev b : Bool
  b = of t e && on v e

  pending_more : cond (here t v (packed e)) (eqb (letter_in (packed e)) P || (pending t v past && not (eqb (letter_in (packed e)) B))) (pending t v past) ≡ pending t v (e ∷ past)
  unfolding pending latest by is
  pending_more = rw (here_of e s t v, packed_letter e, eqb_turn k P, eqb_turn k B) (flag (eqb P k) (eqb B k) b (pending t v past) ∙ sym (letters_more (P ∷ []) (by (P ∷ B ∷ []) t v e) e (latest (by (P ∷ B ∷ []) t v) past)))

  announced_more : cond (here t v (packed e)) (cond (eqb (letter_in (packed e)) P) (value_in e) (announced t v past)) (announced t v past) ≡ announced t v (e ∷ past)
  unfolding announced latest by is
  announced_more = rw (here_of e s t v, packed_letter e, eqb_turn k P) (kept (eqb P k) b (value_in e) (announced t v past) ∙ sym (value_more (by (P ∷ []) t v e) e (latest (by (P ∷ []) t v) past)))

  fresh_more : cond (here t v (packed e)) (eqb (letter_in (packed e)) A || (fresh t v past && not (eqb (letter_in (packed e)) B || eqb (letter_in (packed e)) S))) (fresh t v past) ≡ fresh t v (e ∷ past)
  unfolding fresh latest by is
  fresh_more = rw (here_of e s t v, packed_letter e, eqb_turn k A, eqb_turn k B, eqb_turn k S) (flag_two (eqb A k) (eqb B k) (eqb S k) b (fresh t v past) ∙ sym (letters_more (A ∷ []) (by (A ∷ B ∷ S ∷ []) t v e) e (latest (by (A ∷ B ∷ S ∷ []) t v) past)))

  count_more : (n : ℕ) → cond (here t v (packed e)) (count (by (n ∷ []) t v) past + cond (eqb (letter_in (packed e)) n) 1 0) (count (by (n ∷ []) t v) past) ≡ count (by (n ∷ []) t v) (e ∷ past)
  unfolding count by is
  count_more n = rw (here_of e s t v, packed_letter e, eqb_turn k n) (counted (eqb n k) b (count (by (n ∷ []) t v) past))

  facts_more : only_here t v facts_after (entry (packed e) (value_in e)) (facts_of t v past) ≡ facts_of t v (e ∷ past)
  unfolding facts_after
  facts_more =
      over_fields (here t v (packed e)) (facts_after (entry (packed e) (value_in e)) (facts_of t v past)) (facts_of t v past)
      ∙ (λ i. record { pending = pending_more i; announced = announced_more i; fresh = fresh_more i; loads = count_more L i; writes = count_more W i })

  depth_more : cond (here t v (packed e)) (depth_after (letter_in (packed e)) (ten_depth t v past)) (ten_depth t v past) ≡ ten_depth t v (e ∷ past)
  unfolding depth_after ten_depth by is
  depth_more = rw (here_of e s t v, packed_letter e, eqb_turn k K, eqb_turn k N) (both (eqb K k) (eqb N k) b (ten_depth t v past))
    where
      both : (p q b : Bool) (d : ℕ) → cond b (cond p (suc d) (cond q (pred d) d)) d ≡ cond ((p || false) && b) (suc d) (cond ((q || false) && b) (pred d) d)
      both true q true d = refl
      both false true true d = refl
      both false false true d = refl
      both true true false d = refl
      both true false false d = refl
      both false true false d = refl
      both false false false d = refl

-- ---- the words of the rows of a list of events

module _ (es : List Event) (s : Small es) where
  pub facts_are : (t v : ℕ) → facts_in t v (pairs es) ≡ facts_of t v (reverse es)
  unfolding facts_in pending announced fresh latest count letters_of value_of
  facts_are t v = scan_all (λ f r. only_here t v facts_after (entry r.0 r.1) f) (λ e. (packed e, value_in e)) (facts_of t v) (facts_more t v) es s

  pub depth_is : (t l : ℕ) → depth_in t l (map packed es) ≡ ten_depth t l (reverse es)
  unfolding depth_in ten_depth
  depth_is t l = scan_all (hold_after t l) packed (ten_depth t l) (depth_more t l) es s

-- a Y, F or C is among them in either order
turn : (n m a : Bool) → (m || (n || a)) ≡ ((n || m) || a)
turn true true a = refl
turn true false a = refl
turn false m a = refl

new_one : (e : Event) → new_letter (letter_in (packed e)) ≡ is (Y ∷ F ∷ C ∷ []) e
unfolding is
new_one e = rw (packed_letter e, eqb_turn (letter e.kind) Y, eqb_turn (letter e.kind) F, eqb_turn (letter e.kind) C) (ap (λ (z : Bool). eqb Y (letter e.kind) || (eqb F (letter e.kind) || z)) (sym (or-false (eqb C (letter e.kind)))))

new_onto : (es past : List Event) → (some_new past || any_new (map packed es)) ≡ some_new (reverse_aux es past)
unfolding some_new any_new
new_onto [] past = or-false (some_new past)
new_onto (e ∷ es) past = ap (λ (z : Bool). some_new past || (z || any_new (map packed es))) (new_one e) ∙ turn (is (Y ∷ F ∷ C ∷ []) e) (some_new past) (any_new (map packed es)) ∙ new_onto es (e ∷ past)

pub new_is : (es : List Event) → any_new (map packed es) ≡ some_new (reverse es)
unfolding some_new
new_is es = new_onto es []
