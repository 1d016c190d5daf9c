-- What rules ask of the words of one thread and variable, and what one event more makes of them.
use Prim.Native.Nat.{ℕ, suc}
use mathlib.Core.Path.{◌≡◌, refl, sym, ◌∙◌, subst}
use mathlib.Core.Bool.{Bool, true, false, cond, ◌&&◌, and-true, and-false}
use mathlib.Core.List.{List, [], ◌∷◌, ◌++◌}
use lib.Dec.{T, eqb}
use lib.IntN.{ℤ}
use borrow.Author.Tests.{eqb-true, eq-eqb}
use Rattle.rules.specs.declared.Kind.{Kind}
use Rattle.rules.specs.declared.Event.{Event}
use Rattle.rules.specs.declared.Slot.{Slot}
use Rattle.rules.specs.Events.{A, B, L, P, R, S, W, letter, place, value, among, is, of, on}
use Rattle.rules.specs.Words.{by}
use Rattle.rules.specs.Rules.{Words}
use Rattle.rules.proofs.Laws.{cases, is_true, and_left, and_right, all_of, is_none}
use Rattle.rules.proofs.Next.{others, next}

-- the event of kind k by thread t, on line n
abbrev pub event_by : ℕ → ℕ → Kind → Event
event_by t n k = record { thread = t; line = n; kind = k }

-- the words of a thread and variable, but for its copy and what the volatile rules ask alone
pub record Cell : Type 0 where
  pub reads : List Slot
  pub stores : List Slot
  pub fresh : Bool
  pub pending : Bool
  pub announced : ℤ
  pub last_write : ℕ
  pub last_assign : ℕ

unfoldable pub cell_of : Words → ℕ → ℕ → Cell
cell_of w t v = record { reads = w.reads t v; stores = w.stores t v; fresh = w.fresh t v; pending = w.pending t v; announced = w.announced t v; last_write = w.last_write t v; last_assign = w.last_assign t v }

abbrev pub slot_at : ℕ → ℤ → Slot
slot_at p x = record { value = x; position = p }

-- the cell of the thread and variable of an event of this kind, after it; p is its position
abbrev pub changed : ℕ → Kind → Cell → Cell
changed p k c = record {
  reads = cond (among (R ∷ []) (letter k)) (c.reads ++ (slot_at p (value k) ∷ [])) (cond (among (L ∷ []) (letter k)) (others c.reads) c.reads);
  stores = cond (among (S ∷ P ∷ []) (letter k)) (c.stores ++ (slot_at (cond (among (S ∷ []) (letter k)) c.last_assign p) (value k) ∷ []))
      (cond (among (W ∷ []) (letter k)) (others c.stores) c.stores);
  fresh = cond (among (A ∷ B ∷ S ∷ []) (letter k)) (among (A ∷ []) (letter k)) c.fresh;
  pending = cond (among (P ∷ B ∷ []) (letter k)) (among (P ∷ []) (letter k)) c.pending;
  announced = cond (among (P ∷ []) (letter k)) (value k) c.announced;
  last_write = cond (among (W ∷ []) (letter k)) p c.last_write;
  last_assign = cond (among (A ∷ []) (letter k)) p c.last_assign;
}

-- the letters of the events that change a cell
abbrev pub changing : List ℕ
changing = A ∷ L ∷ S ∷ R ∷ W ∷ P ∷ B ∷ []

unchanged : (p : ℕ) (k : Kind) (c : Cell) → is changing (event_by 0 0 k) ≡ false → changed p k c ≡ c
unfolding is
unchanged p k c q = rw (none (R ∷ []) tt, none (L ∷ []) tt, none (S ∷ P ∷ []) tt, none (W ∷ []) tt, none (A ∷ B ∷ S ∷ []) tt, none (P ∷ B ∷ []) tt, none (P ∷ []) tt, none (A ∷ []) tt)
  where
    none : (ks : List ℕ) → T (all_of (among changing) ks) → among ks (letter k) ≡ false
    none ks m = is_none ks changing (event_by 0 0 k) m q

-- an event changes the cell of its own thread and variable alone
cell_next : (w : Words) (t n : ℕ) (k : Kind) (u m : ℕ)
    → cell_of (next w (event_by t n k)) u m ≡ cond (eqb t u && eqb (place k) m) (changed (suc w.events) k (cell_of w u m)) (cell_of w u m)
unfolding cell_of next by is of on
cell_next w t n k u m = cases (eqb t u && eqb (place k) m) (λ q. simp (q, and-true)) (λ q. simp (q, and-false))

pub cell_own : (w : Words) (t n : ℕ) (k : Kind) → cell_of (next w (event_by t n k)) t (place k) ≡ changed (suc w.events) k (cell_of w t (place k))
cell_own w t n k = cell_next w t n k t (place k) ∙ rw (eq-eqb t t refl, eq-eqb (place k) (place k) refl)

pub events_next : (w : Words) (e : Event) → (next w e).events ≡ suc w.events
unfolding next
events_next w e = refl

-- What holds of a cell after an event: the event changes it, or it is as it was.
pub cell_cases : (Q : Cell → Type 0) (w : Words) (t n : ℕ) (k : Kind) (u m : ℕ)
    → (T (is changing (event_by t n k)) → t ≡ u → place k ≡ m → Q (changed (suc w.events) k (cell_of w t (place k))))
    → (by changing u m (event_by t n k) ≡ false → Q (cell_of w u m))
    → Q (cell_of (next w (event_by t n k)) u m)
unfolding by of on
cell_cases Q w t n k u m own off = rw (cell_next w t n k u m) (go (is changing (event_by t n k)) (eqb t u && eqb (place k) m) refl refl off)
  where
    go : (a b : Bool) → is changing (event_by t n k) ≡ a → (eqb t u && eqb (place k) m) ≡ b → ((a && b) ≡ false → Q (cell_of w u m)) → Q (cond b (changed (suc w.events) k (cell_of w u m)) (cell_of w u m))
    go true true c q f =
        let p = eqb-true t u (is_true (and_left (eqb t u) (eqb (place k) m) (subst T (sym q) tt))) in
        let r = eqb-true (place k) m (is_true (and_right (eqb t u) (eqb (place k) m) (subst T (sym q) tt))) in
        subst (λ a. Q (changed (suc w.events) k (cell_of w a m))) p (subst (λ b. Q (changed (suc w.events) k (cell_of w t b))) r (own (subst T (sym c) tt) p r))
    go false true c q f = rw (unchanged (suc w.events) k (cell_of w u m) (unfold is in c)) (f refl)
    go true false c q f = f refl
    go false false c q f = f refl
