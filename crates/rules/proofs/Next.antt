-- The words after one more event, from the words before it alone: what a marker that keeps no list has to compute.
-- `Simulation` proves that these are the words over the longer list.
use Prim.Native.Nat.{ℕ, suc}
use mathlib.Core.Bool.{not, cond, ◌&&◌, ◌||◌}
use mathlib.Core.List.{List, [], ◌∷◌, ◌++◌}
use lib.Dec.{ltb}
use Rattle.rules.specs.declared.Event.{Event}
use Rattle.rules.specs.Events.{A, B, F, L, P, R, S, U, W, value, is, on}
use Rattle.rules.specs.declared.Slot.{Slot}
use Rattle.rules.specs.Words.{first, by, accesses, locks_by, Grip, grip_after, tells}
use Rattle.rules.specs.Rules.{Words}

abbrev pub others : List Slot → List Slot
others [] = []
others (s ∷ ss) = ss

-- the value and position of e as the next event
abbrev pub slot_after : Words → Event → Slot
slot_after w e = record { value = value e.kind; position = suc w.events }

-- a store of T on V as the next event, with the position of its assign; a P with its own
abbrev pub store_after : Words → ℕ → ℕ → Event → Slot
store_after w t v e = record { value = value e.kind; position = cond (is (S ∷ []) e) (w.last_assign t v) (suc w.events) }

-- what T has of a lock
abbrev pub grip_in : Words → ℕ → ℕ → Grip
grip_in w t l = record { held = w.depth t l; remembered = w.remembered t l }

unfoldable pub next : Words → Event → Words
next w e = record {
  events = suc w.events;
  copy = λ t v. cond (by (A ∷ B ∷ L ∷ []) t v e) (value e.kind) (w.copy t v);
  fresh = λ t v. cond (by (A ∷ B ∷ S ∷ []) t v e) (is (A ∷ []) e) (w.fresh t v);
  pending = λ t v. cond (by (P ∷ B ∷ []) t v e) (is (P ∷ []) e) (w.pending t v);
  announced = λ t v. cond (by (P ∷ []) t v e) (value e.kind) (w.announced t v);
  usable = λ t v.
      not (locks_by t e)
      && (by (A ∷ B ∷ []) t v e || by (L ∷ []) t v e && ltb (w.last_lock t) (first (w.reads t v)).position || w.usable t v);
  reads = λ t v.
      cond (by (R ∷ []) t v e) (w.reads t v ++ (slot_after w e ∷ []))
      (cond (by (L ∷ []) t v e) (others (w.reads t v)) (w.reads t v));
  stores = λ t v.
      cond (by (S ∷ P ∷ []) t v e) (w.stores t v ++ (store_after w t v e ∷ []))
      (cond (by (W ∷ []) t v e) (others (w.stores t v)) (w.stores t v));
  last_write = λ t v. cond (by (W ∷ []) t v e) (suc w.events) (w.last_write t v);
  last_lock = λ t. cond (locks_by t e) (suc w.events) (w.last_lock t);
  depth = λ t l. (grip_after t l e (grip_in w t l)).held;
  remembered = λ t l. (grip_after t l e (grip_in w t l)).remembered;
  notified = λ t l. cond (tells t l e) (is (F ∷ []) e) (w.notified t l);
  main = λ v. cond (is (W ∷ []) e && on v e) (value e.kind) (w.main v);
  after_load = λ t v. cond (by accesses t v e) (is (L ∷ []) e) (w.after_load t v);
  after_assign = λ t v. cond (by accesses t v e) (is (A ∷ []) e) (w.after_assign t v);
  loaded_read = λ t v. cond (by (L ∷ []) t v e) (first (w.reads t v)).position (w.loaded_read t v);
  used_read = λ t v. cond (by (U ∷ []) t v e) (w.loaded_read t v) (w.used_read t v);
  last_assign = λ t v. cond (by (A ∷ []) t v e) (suc w.events) (w.last_assign t v);
}
