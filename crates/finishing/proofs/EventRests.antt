-- The values that a scan leaves behind those that it passes over are those of the outstanding reads or stores.
use Prim.Native.Nat.{ℕ}
use mathlib.Core.Path.{◌≡◌, refl, sym, ap, ◌∙◌}
use mathlib.Core.Bool.{Bool, true, false, cond, ◌&&◌, ◌||◌}
use mathlib.Core.List.{List, [], ◌∷◌, ◌++◌, map, map-append, append_assoc, append-nil, reverse, reverse_aux}
use lib.Dec.{eqb}
use lib.IntN.{ℤ}
use lib.ListN.{drop}
use Rattle.std.specs.List.{filter}
use Rattle.std.proofs.lemmas.List.{drop-map}
use Rattle.rules.specs.declared.Event.{Event}
use Rattle.rules.specs.declared.Slot.{Slot}
use Rattle.rules.specs.Events.{L, P, R, S, W, letter, value, is, of, on}
use Rattle.rules.specs.Words.{count, slot, store_slot, in_order, by, reads, stores}
use Rattle.rules.proofs.Letters.{eqb_turn}
use Rattle.records.specs.Records.{packed, value_in}
use Rattle.records.proofs.RecordLaws.{packed_letter}
use Rattle.records.proofs.RowLaws.{Small}
use Rattle.finishing.specs.Computed.Parts.{feeds, rest_in}
use Rattle.finishing.proofs.EventScans.{Fits, pairs, here_of}

abbrev pub value_at : Slot → ℤ
value_at s = s.value

-- k pairs with the events that pass p, each kept as f says
module _ (k t v : ℕ) (f : List Event → Event → Slot) (p : Event → Bool) (same : (es : List Event) (e : Event) → (f es e).value ≡ value e.kind) (fed : (e : Event) → Fits e → feeds k t v (packed e) ≡ p e) where
  abbrev values : List Event → List ℤ
  values past = map value_at (in_order f p past)

  -- the values of the records that k pairs with
  abbrev fed_values : List Event → List ℤ
  fed_values es = map (λ (r : ℕ × ℤ). r.1) (filter (λ (r : ℕ × ℤ). feeds k t v r.0) (pairs es))

  more : (b : Bool) (e : Event) (past es : List Event) → values past ++ map (λ (r : ℕ × ℤ). r.1) (cond b ((packed e, value_in e) ∷ filter (λ (r : ℕ × ℤ). feeds k t v r.0) (pairs es)) (filter (λ (r : ℕ × ℤ). feeds k t v r.0) (pairs es)))
      ≡ map value_at (in_order f p past ++ cond b (f past e ∷ []) []) ++ fed_values es
  more true e past es = sym (ap (λ (l : List ℤ). l ++ fed_values es) (map-append value_at (in_order f p past) (f past e ∷ []) ∙ ap (λ (x : ℤ). values past ++ (x ∷ [])) (same past e)) ∙ append_assoc (values past) (value e.kind ∷ []) (fed_values es))
  more false e past es = ap (λ (l : List Slot). map value_at l ++ fed_values es) (sym (append-nil (in_order f p past)))

  onto : (es past : List Event) → Small es → values past ++ fed_values es ≡ values (reverse_aux es past)
  unfolding in_order
  onto [] past s = append-nil (values past)
  onto (e ∷ es) past s = rw (fed e (s.0, s.2)) (more (p e) e past es ∙ onto es (e ∷ past) s.3)

  pub rest_is : (n : ℕ) (es : List Event) → Small es → rest_in k t v n (pairs es) ≡ map value_at (drop n (in_order f p (reverse es)))
  unfolding rest_in in_order
  rest_is n es s = sym (drop-map (λ (r : ℕ × ℤ). r.1) n (filter (λ (r : ℕ × ℤ). feeds k t v r.0) (pairs es))) ∙ ap (drop n) (onto es [] s) ∙ drop-map value_at n (in_order f p (reverse es))

-- what a W pairs with, and an L
fed_stores : (t v : ℕ) (e : Event) → Fits e → feeds W t v (packed e) ≡ by (S ∷ P ∷ []) t v e
unfolding feeds by is
fed_stores t v e q = rw (here_of e q t v, packed_letter e, eqb_turn (letter e.kind) S, eqb_turn (letter e.kind) P) (shape (of t e && on v e) (eqb S (letter e.kind)) (eqb P (letter e.kind)))
  where
    shape : (b s p : Bool) → (b && ((s || p) || false)) ≡ ((s || (p || false)) && b)
    shape true true p = refl
    shape true false true = refl
    shape true false false = refl
    shape false true p = refl
    shape false false true = refl
    shape false false false = refl

fed_reads : (t v : ℕ) (e : Event) → Fits e → feeds L t v (packed e) ≡ by (R ∷ []) t v e
unfolding feeds by is
fed_reads t v e q = rw (here_of e q t v, packed_letter e, eqb_turn (letter e.kind) R) (shape (of t e && on v e) (eqb R (letter e.kind)))
  where
    shape : (b r : Bool) → (b && r) ≡ ((r || false) && b)
    shape true true = refl
    shape true false = refl
    shape false true = refl
    shape false false = refl

-- the writes of the outstanding stores, and the loads of the outstanding reads
module _ (es : List Event) (s : Small es) (t v : ℕ) where
  pub stores_are : rest_in W t v (count (by (W ∷ []) t v) (reverse es)) (pairs es) ≡ map value_at (stores t v (reverse es))
  unfolding stores
  stores_are = rest_is W t v (store_slot t v) (by (S ∷ P ∷ []) t v) (λ l e. refl) (fed_stores t v) (count (by (W ∷ []) t v) (reverse es)) es s

  pub reads_are : rest_in L t v (count (by (L ∷ []) t v) (reverse es)) (pairs es) ≡ map value_at (reads t v (reverse es))
  unfolding reads
  reads_are = rest_is L t v slot (by (R ∷ []) t v) (λ l e. refl) (fed_reads t v) (count (by (L ∷ []) t v) (reverse es)) es s
