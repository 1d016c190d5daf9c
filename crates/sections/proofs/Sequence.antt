-- The run and the sequential memory over the rules' own events are the theory's over their views.
use Prim.Native.Nat.{ℕ, suc, ◌≤◌}
use native.Mathlib.Decide.{ℕ_discrete, dec_le}
use native.Mathlib.Omega.{arith}
use mathlib.Core.Path.{◌≡◌, refl, sym, ap, ap₂, ◌∙◌}
use mathlib.Core.Bool.{cond, ◌&&◌}
use mathlib.Core.List.{List, [], ◌∷◌, ◌++◌, map}
use lib.Dec.{eqb, leb}
use lib.IntN.{ℤ}
use borrow.Author.Tests.{le-leb, lt-leb, eq-eqb, ne_eqb}
use Rattle.rules.specs.declared.Event.{Event}
use Rattle.rules.specs.declared.Counts.{Counts}
use Rattle.rules.specs.declared.Kind.{Kind}
use Rattle.rules.specs.Limits.{first_line}
use Rattle.rules.proofs.Bounds.{first_line_low}
use Rattle.rules.specs.Events.{A, B, C, K, N, U, Y, place, value, is, of}
use Rattle.rules.proofs.Laws.{is_apart}
use Rattle.rules.proofs.Cells.{event_by}
use Rattle.serial.specs.Entry.{entry as span}
use Rattle.serial.specs.Sections.{Section}
use Rattle.serial.specs.Events as E
use Rattle.serial.specs.Words as C
use Rattle.serial.proofs.Lines.{join}
use Rattle.serial.proofs.Trace as Trace
use Rattle.sections.specs.View.{view}
use Rattle.sections.specs.Order.{line_of, entry}
use Rattle.sections.specs.Sequential.{takes, part_from, part, serially, assign, after, given, stated}
use Rattle.sections.proofs.Viewed.{Viewed, mem, lock, unlock, idle, idling, facts, seen, whose}
use Rattle.sections.proofs.Cells.{touched}

-- a section's events: by positions from p on, and by lines from n on
part_view : (hd : Counts) (p n : ℕ) (s : Section ℤ) (es : List Event) → n ≡ line_of hd p → Trace.between p s.owner s.first s.last (map view es) ≡ map view (part_from n (entry hd s) es)
unfolding Trace.between part_from takes of
part_view hd p n s [] l = refl
part_view hd p n s (e ∷ es) l = rw (whose e.kind e.thread) (step (ℕ_discrete e.thread s.owner) (dec_le s.first p) (dec_le p s.last) (part_view hd (suc p) (suc n) s es (omega (arith, first_line_low hd))))
  where
    step : (a : Dec (e.thread ≡ s.owner)) (b : Dec (s.first ≤ p)) (c : Dec (p ≤ s.last)) → Trace.between (suc p) s.owner s.first s.last (map view es) ≡ map view (part_from (suc n) (entry hd s) es)
        → join a b c (view e) (Trace.between (suc p) s.owner s.first s.last (map view es))
        ≡ map view (cond (eqb e.thread s.owner && (leb (line_of hd s.first) n && leb n (line_of hd s.last))) (e ∷ part_from (suc n) (entry hd s) es) (part_from (suc n) (entry hd s) es))
    step (yes a) (yes b) (yes c) q = rw (eq-eqb e.thread s.owner a, le-leb (line_of hd s.first) n (omega (arith, first_line_low hd)), le-leb n (line_of hd s.last) (omega (arith, first_line_low hd))) (ap (λ l. view e ∷ l) q)
    step (yes a) (yes b) (no c) q = rw (eq-eqb e.thread s.owner a, le-leb (line_of hd s.first) n (omega (arith, first_line_low hd)), lt-leb n (line_of hd s.last) (omega (arith, first_line_low hd))) q
    step (yes a) (no b) (yes c) q = rw (eq-eqb e.thread s.owner a, lt-leb (line_of hd s.first) n (omega (arith, first_line_low hd))) q
    step (yes a) (no b) (no c) q = rw (eq-eqb e.thread s.owner a, lt-leb (line_of hd s.first) n (omega (arith, first_line_low hd))) q
    step (no a) (yes b) (yes c) q = rw (ne_eqb e.thread s.owner a) q
    step (no a) (yes b) (no c) q = rw (ne_eqb e.thread s.owner a) q
    step (no a) (no b) (yes c) q = rw (ne_eqb e.thread s.owner a) q
    step (no a) (no b) (no c) q = rw (ne_eqb e.thread s.owner a) q

map_join : (l m : List Event) → map view (l ++ m) ≡ map view l ++ map view m
map_join [] m = refl
map_join (e ∷ l) m = ap (λ r. view e ∷ r) (map_join l m)

pub serially_view : (hd : Counts) (ss : List (Section ℤ)) (events : List Event) → Trace.serially (map view events) (map span ss) ≡ map view (serially hd (map (entry hd) ss) events)
unfolding Trace.serially serially part
serially_view hd [] events = refl
serially_view hd (s ∷ ss) events = ap₂ (λ a b. a ++ b) (part_view hd 1 (first_line hd) s events (omega arith)) (serially_view hd ss events) ∙ sym (map_join (part_from (first_line hd) (entry hd s) events) (serially hd (map (entry hd) ss) events))

assign_view : (m : ℕ → ℤ) (v u ln : ℕ) {k : Kind} {x : E.Event ℤ} → Viewed u k x → Trace.set x m v ≡ assign (event_by u ln k) m v
unfolding assign is
assign_view m v u ln (mem κ w x) = touched C.assigned (A ∷ B ∷ []) u ln v κ w x (m v) ((facts κ w x).assigned (m v))
assign_view m v u ln {k} (lock j a i) = rw (is_apart (K ∷ C ∷ []) (A ∷ B ∷ []) (event_by u ln k) tt a)
assign_view m v u ln {k} (unlock j a i) = rw (is_apart (N ∷ Y ∷ []) (A ∷ B ∷ []) (event_by u ln k) tt a)
assign_view m v u ln {k} (idle a) = rw (is_apart idling (A ∷ B ∷ []) (event_by u ln k) tt a)

set_view : (e : Event) (m : ℕ → ℤ) → Trace.set (view e) m ≡ assign e m
set_view e m = λ i. λ v. assign_view m v e.thread e.line (seen e.thread e.kind) i

pub after_view : (es : List Event) (m : ℕ → ℤ) → Trace.after (map view es) m ≡ after es m
unfolding Trace.after after
after_view [] m = refl
after_view (e ∷ es) m = after_view es (Trace.set (view e) m) ∙ ap (after es) (set_view e m)

-- what a use is given, and says
used : (u ln : ℕ) {k : Kind} {x : E.Event ℤ} → Viewed u k x → (m : ℕ → ℤ) (xs : List ℤ)
    → (Trace.got x m xs ≡ cond (is (U ∷ []) (event_by u ln k)) (m (place k) ∷ xs) xs) × (Trace.says x xs ≡ cond (is (U ∷ []) (event_by u ln k)) (value k ∷ xs) xs)
unfolding is
used u ln (mem κ w x) m xs = (rw (facts κ w x).places ((facts κ w x).got u m xs), rw (facts κ w x).values ((facts κ w x).says u xs))
used u ln {k} (lock j a i) m xs = let q = is_apart (K ∷ C ∷ []) (U ∷ []) (event_by u ln k) tt a in (rw q, rw q)
used u ln {k} (unlock j a i) m xs = let q = is_apart (N ∷ Y ∷ []) (U ∷ []) (event_by u ln k) tt a in (rw q, rw q)
used u ln {k} (idle a) m xs = let q = is_apart idling (U ∷ []) (event_by u ln k) tt a in (rw q, rw q)

pub given_view : (es : List Event) (m : ℕ → ℤ) → Trace.given m (map view es) ≡ given es m
unfolding Trace.given given
given_view [] m = refl
given_view (e ∷ es) m = ap (Trace.got (view e) m) (given_view es (Trace.set (view e) m) ∙ ap (given es) (set_view e m)) ∙ (used e.thread e.line (seen e.thread e.kind) m (given es (assign e m))).0

pub stated_view : (es : List Event) → Trace.stated (map view es) ≡ stated es
unfolding Trace.stated stated
stated_view [] = refl
stated_view (e ∷ es) = ap (Trace.says (view e)) (stated_view es) ∙ (used e.thread e.line (seen e.thread e.kind) (λ v. value e.kind) (stated es)).1
