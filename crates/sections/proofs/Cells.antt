-- The words of the rules are the cells of the theory.
use Prim.Native.Nat.{ℕ, suc}
use native.Mathlib.Decide.{ℕ_discrete}
use mathlib.Core.Path.{◌≡◌, refl, sym, ap, ◌∙◌, subst}
use mathlib.Core.Logic.{ite}
use mathlib.Core.Bool.{Bool, true, false, cond, ◌&&◌, and-true, and-false}
use mathlib.Core.List.{List, [], ◌∷◌, map, tail, map-append}
use lib.Dec.{T, eqb, eqb→eq, eqb_refl}
use lib.IntN.{ℤ, pos}
use lib.ListN.{length}
use Rattle.rules.specs.declared.Event.{Event}
use Rattle.rules.specs.declared.Kind.{Kind}
use Rattle.rules.specs.Events.{A, B, C, K, L, N, P, R, S, W, Y, value, among, is, of, on, locks}
use Rattle.rules.specs.declared.Slot.{Slot}
use Rattle.rules.specs.Words.{first, by, locks_by, latest, value_in, letter_in, last_at, count, in_order, reads, stores, copy, fresh, pending, announced, last_lock, last_write, usable, main}
use Rattle.rules.specs.Rules.{Words, words_of}
use Rattle.rules.specs.declared.Counts.{Counts}
use Rattle.rules.proofs.Laws.{cases, is_true, all_of, is_apart, is_none}
use Rattle.rules.proofs.Next.{others, next}
use Rattle.rules.proofs.Simulation.{words_next}
use Rattle.rules.proofs.Cells.{event_by}
use Rattle.serial.specs.Words as C
use Rattle.serial.specs.Events as E
use Rattle.sections.specs.View.{view}
use Rattle.sections.proofs.Valid.{Valid, before, pairs}
use Rattle.sections.proofs.Viewed.{Viewed, mem, lock, unlock, idle, on_variable, memory, idling, facts, seen}

pub eqb_yes : (a b : ℕ) → a ≡ b → eqb a b ≡ true
eqb_yes a b p = go (eqb a b) (subst (λ c. T (eqb a c)) p (eqb_refl a))
  where
    go : (x : Bool) → T x → x ≡ true
    go true t = refl
    go false t = absurd t

pub eqb_no : (a b : ℕ) → (a ≡ b → ⊥) → eqb a b ≡ false
eqb_no a b n = go (eqb a b) refl
  where
    go : (x : Bool) → eqb a b ≡ x → x ≡ false
    go true p = absurd (n (eqb→eq a b (subst T (sym p) tt)))
    go false p = refl

-- a slot of the rules as one of the theory, and its value
abbrev pub slotted : Slot → C.Slot ℤ
slotted s = record { position = s.position; value = s.value }

abbrev pub valued : Slot → ℤ
valued s = s.value

unfoldable pub cell_of : Words → ℕ → ℕ → C.Cell ℤ
cell_of w t v = record {
  fresh = w.fresh t v;
  pending = w.pending t v;
  announced = w.announced t v;
  copy = w.copy t v;
  usable = w.usable t v;
  stores = map valued (w.stores t v);
  reads = map slotted (w.reads t v);
  last_lock = w.last_lock t;
  last_write = w.last_write t v;
}

map_others : {B : Type 0} (f : Slot → B) (ss : List Slot) → map f (others ss) ≡ tail (map f ss)
map_others f [] = refl
map_others f (s ∷ ss) = refl

oldest_first : (ss : List Slot) → C.oldest (map slotted ss) ≡ (first ss).position
oldest_first [] = refl
oldest_first (s ∷ ss) = refl

-- an event on a variable changes the cell of its own thread and variable
mem_change : (n t v : ℕ) (k : E.Kind) (u v' : ℕ) (x : ℤ) (c : C.Cell ℤ) → C.change n (C.act t v (E.mem k u v' x)) c ≡ cond (eqb u t && eqb v' v) (C.change n (C.own k x) c) c
unfolding C.change
mem_change n t v k u v' x c = go (ℕ_discrete u t) (ℕ_discrete v' v)
  where
    go : (d : Dec (u ≡ t)) (d' : Dec (v' ≡ v)) → C.change n (C.seen_by d (ite {C = C.Touch ℤ} d' (C.at k x) C.elsewhere)) c ≡ cond (eqb u t && eqb v' v) (C.change n (C.own k x) c) c
    go (yes p) (yes q) = rw (eqb_yes u t p, eqb_yes v' v q)
    go (yes p) (no q) = rw (eqb_yes u t p, eqb_no v' v q)
    go (no p) (yes q) = rw (eqb_no u t p)
    go (no p) (no q) = rw (eqb_no u t p)

-- and a lock or unlock those of its thread
own_change : (n t u : ℕ) (a : C.Act ℤ) (c : C.Cell ℤ) → C.change n (ite {C = C.Act ℤ} (ℕ_discrete u t) a C.nothing) c ≡ cond (eqb u t) (C.change n a c) c
unfolding C.change
own_change n t u a c = go (ℕ_discrete u t)
  where
    go : (d : Dec (u ≡ t)) → C.change n (ite {C = C.Act ℤ} d a C.nothing) c ≡ cond (eqb u t) (C.change n a c) c
    go (yes p) = rw (eqb_yes u t p)
    go (no p) = rw (eqb_no u t p)

same_cond : {X : Type 0} (b : Bool) (m : X) → cond b m m ≡ m
same_cond true m = refl
same_cond false m = refl

module _ (w : Words) (t v u ln : ℕ) where
  abbrev n : ℕ
  n = suc w.events

  -- an event on a variable
  own_cell : (κ : E.Kind) (v' : ℕ) (x : ℤ) → cond (eqb u t && eqb v' v) (C.change n (C.own κ x) (cell_of w t v)) (cell_of w t v) ≡ cell_of (next w (event_by u ln (on_variable κ v' x))) t v
  unfolding cell_of next by locks_by is of on locks C.change
  own_cell E.Use v' x = cases (eqb u t && eqb v' v) (λ q. rw q) (λ q. rw q)
  own_cell E.Assign v' x = cases (eqb u t && eqb v' v) (λ q. rw q) (λ q. rw q)
  own_cell E.Load v' x = cases (eqb u t && eqb v' v) (λ q. rw (q, oldest_first (w.reads t v), map_others slotted (w.reads t v))) (λ q. rw q)
  own_cell E.Store v' x = cases (eqb u t && eqb v' v) (λ q. rw (q, map-append valued (w.stores t v))) (λ q. rw q)
  own_cell E.Read v' x = cases (eqb u t && eqb v' v) (λ q. rw (q, map-append slotted (w.reads t v))) (λ q. rw q)
  own_cell E.Write v' x = cases (eqb u t && eqb v' v) (λ q. rw (q, map_others valued (w.stores t v))) (λ q. rw q)
  own_cell E.PrescientStore v' x = cases (eqb u t && eqb v' v) (λ q. rw (q, map-append valued (w.stores t v))) (λ q. rw q)
  own_cell E.PrescientAssign v' x = cases (eqb u t && eqb v' v) (λ q. rw q) (λ q. rw q)

  -- any other event: what locks makes each copy of its thread unusable, and nothing else changes
  lock_cell : (e : Event) → is memory e ≡ false → cell_of (next w e) t v ≡ cond (locks_by t e) (C.change n C.locks (cell_of w t v)) (cell_of w t v)
  unfolding cell_of next by C.change
  lock_cell e q = rw (off (A ∷ B ∷ L ∷ []) tt, off (A ∷ B ∷ S ∷ []) tt, off (P ∷ B ∷ []) tt, off (P ∷ []) tt, off (A ∷ B ∷ []) tt, off (L ∷ []) tt, off (R ∷ []) tt, off (S ∷ P ∷ []) tt, off (W ∷ []) tt) (cases (locks_by t e) (λ q. rw q) (λ q. rw q))
    where
      off : (ks : List ℕ) → T (all_of (among memory) ks) → is ks e ≡ false
      off ks m = is_none ks memory e m q

  -- one event more
  step_mem : {k : Kind} {x : E.Event ℤ} → Viewed u k x → C.change n (C.act t v x) (cell_of w t v) ≡ cell_of (next w (event_by u ln k)) t v
  unfolding locks_by is of locks C.change
  step_mem (mem κ v' x) = mem_change n t v κ u v' x (cell_of w t v) ∙ own_cell κ v' x
  step_mem {k} (lock j a i) = let e = event_by u ln k in own_change n t u C.locks (cell_of w t v) ∙ sym (lock_cell e (is_apart (K ∷ C ∷ []) memory e tt a) ∙ rw (is_true {b = is (K ∷ C ∷ []) e} a))
  step_mem {k} (unlock j a i) = let e = event_by u ln k in own_change n t u C.unlocks (cell_of w t v) ∙ same_cond (eqb u t) (cell_of w t v) ∙ sym (lock_cell e (is_apart (N ∷ Y ∷ []) memory e tt a) ∙ rw (is_apart (N ∷ Y ∷ []) (K ∷ C ∷ []) e tt a))
  step_mem {k} (idle a) = let e = event_by u ln k in sym (lock_cell e (is_apart idling memory e tt a) ∙ rw (is_apart idling (K ∷ C ∷ []) e tt a))

pub length_view : (es : List Event) → length (map view es) ≡ length es
length_view [] = refl
length_view (e ∷ es) = ap suc (length_view es)

pub cells : (h : Counts) (t v : ℕ) (es : List Event) → Valid h es → C.cell (pos 0) t v (map view es) ≡ cell_of (words_of es) t v
unfolding C.cell
cells h t v [] a = unfold words_of cell_of latest value_in letter_in last_at count in_order reads stores copy fresh pending announced last_lock last_write usable in refl
cells h t v (e ∷ es) a = rw (cells h t v es (before h e es a), length_view es, words_next e es (pairs h es (before h e es a))) (unfold words_of in step_mem (words_of es) t v e.thread e.line (seen e.thread e.kind))

-- what an event on a variable makes of the value of v, where f is what those with the letters ks set it to
pub touched : (f : E.Kind → ℤ → ℤ → ℤ) (ks : List ℕ) (u ln v : ℕ) (κ : E.Kind) (v' : ℕ) (x m : ℤ) → f κ x m ≡ cond (is ks (event_by u ln (on_variable κ v' x))) x m
    → C.through f (C.touch v (E.mem κ u v' x)) m ≡ cond (is ks (event_by u ln (on_variable κ v' x)) && on v (event_by u ln (on_variable κ v' x))) (value (on_variable κ v' x)) m
unfolding on
touched f ks u ln v κ v' x m q = rw ((facts κ v' x).places, (facts κ v' x).values) (go (ℕ_discrete v' v))
  where
    e : Event
    e = event_by u ln (on_variable κ v' x)

    go : (d : Dec (v' ≡ v)) → C.through f (ite {C = C.Touch ℤ} d (C.at κ x) C.elsewhere) m ≡ cond (is ks e && eqb v' v) x m
    go (yes p) = rw (eqb_yes v' v p, and-true (is ks e)) q
    go (no p) = rw (eqb_no v' v p, and-false (is ks e))

main_step : (w : Words) (v u ln : ℕ) {k : Kind} {x : E.Event ℤ} → Viewed u k x → C.through C.written (C.touch v x) (w.main v) ≡ (next w (event_by u ln k)).main v
unfolding next is
main_step w v u ln (mem κ v' x) = touched C.written (W ∷ []) u ln v κ v' x (w.main v) ((facts κ v' x).written (w.main v))
main_step w v u ln {k} (lock j a i) = rw (is_apart (K ∷ C ∷ []) (W ∷ []) (event_by u ln k) tt a)
main_step w v u ln {k} (unlock j a i) = rw (is_apart (N ∷ Y ∷ []) (W ∷ []) (event_by u ln k) tt a)
main_step w v u ln {k} (idle a) = rw (is_apart idling (W ∷ []) (event_by u ln k) tt a)

pub mains : (h : Counts) (v : ℕ) (es : List Event) → Valid h es → C.main (pos 0) v (map view es) ≡ (words_of es).main v
unfolding C.main
mains h v [] a = unfold words_of main latest value_in in refl
mains h v (e ∷ es) a = rw (mains h v es (before h e es a), words_next e es (pairs h es (before h e es a))) (main_step (words_of es) v e.thread e.line (seen e.thread e.kind))
