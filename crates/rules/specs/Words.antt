-- Document 01, "Words about earlier events". The list holds the earlier events, the latest first; an event's position is
-- its number in the trace, from 1, and is the length of the list that begins with it. 0 stands for no position.
use Rattle.std.specs.Prelude.{ℕ, suc, pred, Bool, false, not, cond, ◌&&◌, ◌||◌, List, [], ◌∷◌, ◌++◌, eqb, ltb, ℤ, pos, length, drop}
use Rattle.std.proofs.Math.Option.{Option, none, some}
use Rattle.rules.specs.declared.Event.{Event}
use Rattle.rules.specs.declared.Slot.{Slot}
use Rattle.rules.specs.Events.{A, B, C, F, K, L, N, P, R, S, U, W, Y, value, is, of, on, subject, locks}

-- ---- what the words are made of

-- the latest event that passes the test
unfoldable pub latest : (Event → Bool) → List Event → Option Event
latest p [] = none
latest p (e ∷ es) = cond (p e) (some e) (latest p es)

-- its value; 0 where there is none
unfoldable pub value_in : Option Event → ℤ
value_in none = pos 0
value_in (some e) = value e.kind

-- there is one, and it has one of these letters
unfoldable pub letter_in : List ℕ → Option Event → Bool
letter_in ks none = false
letter_in ks (some e) = is ks e

-- the position of the latest event that passes the test; 0 where there is none
unfoldable pub last_at : (Event → Bool) → List Event → ℕ
last_at p [] = 0
last_at p (e ∷ es) = cond (p e) (suc (length es)) (last_at p es)

-- how many pass the test
unfoldable pub count : (Event → Bool) → List Event → ℕ
count p [] = 0
count p (e ∷ es) = cond (p e) (suc (count p es)) (count p es)

-- value and position of e, which comes after es
abbrev pub slot : List Event → Event → Slot
slot es e = record { value = value e.kind; position = suc (length es) }

-- those that pass the test, the oldest first, each kept as f says
unfoldable pub in_order : (List Event → Event → Slot) → (Event → Bool) → List Event → List Slot
in_order f p [] = []
in_order f p (e ∷ es) = in_order f p es ++ cond (p e) (f es e ∷ []) []

-- the oldest; value and position 0 where there is none
abbrev pub first : List Slot → Slot
first [] = record { value = pos 0; position = 0 }
first (s ∷ ss) = s

-- e is T's event on V with one of these letters
unfoldable pub by : List ℕ → ℕ → ℕ → Event → Bool
by ks t v e = is ks e && (of t e && on v e)

-- T locks, on whichever lock
unfoldable pub locks_by : ℕ → Event → Bool
locks_by t e = locks e && of t e

-- ---- the words, for thread t and variable v

-- the position of T's last assign on V
unfoldable pub last_assign : ℕ → ℕ → List Event → ℕ
last_assign t v es = last_at (by (A ∷ []) t v) es

-- a store of T on V, with the position of its assign, T's last on V before it; a P, whose assign is to come, with its own
abbrev pub store_slot : ℕ → ℕ → List Event → Event → Slot
store_slot t v es e = record { value = value e.kind; position = cond (is (S ∷ []) e) (last_assign t v es) (suc (length es)) }

-- The n-th load pairs with the n-th read of T on V, the n-th store (S or P) with the n-th write. Unpaired reads and stores are outstanding.
unfoldable pub reads : ℕ → ℕ → List Event → List Slot
reads t v es = drop (count (by (L ∷ []) t v) es) (in_order slot (by (R ∷ []) t v) es)

unfoldable pub stores : ℕ → ℕ → List Event → List Slot
stores t v es = drop (count (by (W ∷ []) t v) es) (in_order (store_slot t v) (by (S ∷ P ∷ []) t v) es)

-- Copy: the value of T's latest A, B or L on V.
unfoldable pub copy : ℕ → ℕ → List Event → ℤ
copy t v es = value_in (latest (by (A ∷ B ∷ L ∷ []) t v) es)

-- Fresh: the latest of A, B, S is A.
unfoldable pub fresh : ℕ → ℕ → List Event → Bool
fresh t v es = letter_in (A ∷ []) (latest (by (A ∷ B ∷ S ∷ []) t v) es)

-- Owed: the latest of P, B is P. (A prescient store whose assign is pending.)
unfoldable pub pending : ℕ → ℕ → List Event → Bool
pending t v es = letter_in (P ∷ []) (latest (by (P ∷ B ∷ []) t v) es)

-- the announced value: that of the latest P
unfoldable pub announced : ℕ → ℕ → List Event → ℤ
announced t v es = value_in (latest (by (P ∷ []) t v) es)

-- the position of T's last K, on whichever lock; 0 is the start. ("C .. spoils copies as K does".)
unfoldable pub last_lock : ℕ → List Event → ℕ
last_lock t es = last_at (locks_by t) es

-- the position of T's last write on V
unfoldable pub last_write : ℕ → ℕ → List Event → ℕ
last_write t v es = last_at (by (W ∷ []) t v) es

-- Usable: since T's last K, on whichever lock (or the start), there is an A or B of V, or an L whose read came after that K.
-- (The read of a load is the oldest that is outstanding before it: so it is after legal events, and no verdict asks others.)
unfoldable pub usable : ℕ → ℕ → List Event → Bool
usable t v [] = false
usable t v (e ∷ es) =
    not (locks_by t e)
    && (by (A ∷ B ∷ []) t v e || by (L ∷ []) t v e && ltb (last_lock t es) (first (reads t v es)).position || usable t v es)

-- what T has of a lock: its holds, and the number of those that it gave up at a Y and has not taken again
pub record Grip : Type 0 where
  pub held : ℕ
  pub remembered : ℕ

-- After one event more: one hold more with its K, one less with its N. Document 02 (i): "Y .. gives up every hold on the lock and remembers their
-- number", "C .. takes all the holds again". (A C with none to take, which is 30, changes nothing.)
unfoldable pub grip_after : ℕ → ℕ → Event → Grip → Grip
grip_after t l e g = record {
  held =
      cond (by (K ∷ []) t l e) (suc g.held)
      (cond (by (N ∷ []) t l e) (pred g.held)
      (cond (by (Y ∷ []) t l e) 0
      (cond (by (C ∷ []) t l e && ltb 0 g.remembered) g.remembered g.held)));
  remembered = cond (by (Y ∷ []) t l e) g.held (cond (by (C ∷ []) t l e) 0 g.remembered);
}

unfoldable pub grip : ℕ → ℕ → List Event → Grip
grip t l [] = record { held = 0; remembered = 0 }
grip t l (e ∷ es) = grip_after t l e (grip t l es)

-- How many holds T has on the lock. After legal events, and no verdict asks others, it is by how much the K of T on that lock are more than its N, less
-- what T gave up at a Y and has not taken again (`balanced` in proofs/Held.antt). Held by T: more K than N by T on that lock.
unfoldable pub depth : ℕ → ℕ → List Event → ℕ
depth t l es = (grip t l es).held

-- the number that T remembers of the lock. A thread waits from its Y to its C: after legal events, while this is not 0 (`waits_between` in
-- proofs/Held.antt)
unfoldable pub remembered : ℕ → ℕ → List Event → ℕ
remembered t l es = (grip t l es).remembered

-- e is a Y or C of T on the lock, or an F for T on it
unfoldable pub tells : ℕ → ℕ → Event → Bool
tells t l e = is (Y ∷ F ∷ C ∷ []) e && (eqb (subject e) t && on l e)

-- T is notified on the lock: the latest of these is an F
unfoldable pub notified : ℕ → ℕ → List Event → Bool
notified t l es = letter_in (F ∷ []) (latest (tells t l) es)

-- Main memory of V: the value of the latest W on V, by any thread; 0 before one.
unfoldable pub main : ℕ → List Event → ℤ
main v es = value_in (latest (λ e. is (W ∷ []) e && on v e) es)

-- ---- the words of the volatile rules, document 02 (f)

-- that thread's own events on it, R and W left aside
abbrev pub accesses : List ℕ
accesses = U ∷ A ∷ L ∷ S ∷ P ∷ B ∷ []

-- the latest of these by T on V is an L
unfoldable pub after_load : ℕ → ℕ → List Event → Bool
after_load t v es = letter_in (L ∷ []) (latest (by accesses t v) es)

-- the latest of these by T on V is an A
unfoldable pub after_assign : ℕ → ℕ → List Event → Bool
after_assign t v es = letter_in (A ∷ []) (latest (by accesses t v) es)

-- the position of the read of T's latest load on V, the oldest that is outstanding before the load
unfoldable pub loaded_read : ℕ → ℕ → List Event → ℕ
loaded_read t v [] = 0
loaded_read t v (e ∷ es) = cond (by (L ∷ []) t v e) (first (reads t v es)).position (loaded_read t v es)

-- the position of the read of T's latest use on V: that of the latest load before it
unfoldable pub used_read : ℕ → ℕ → List Event → ℕ
used_read t v [] = 0
used_read t v (e ∷ es) = cond (by (U ∷ []) t v e) (loaded_read t v es) (used_read t v es)
