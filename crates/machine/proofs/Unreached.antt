-- Steps, by computation, from states that no events reach: those that a list with a refused event would leave. Document 02 (a): "In a paper L can then
-- no longer meet 15 or 16, though a step from a state that no events reach still can; N still can in both."
use Prim.Native.Nat.{suc, ◌<◌}
use native.Mathlib.Omega.{arith}
use mathlib.Core.Path.{◌≡◌, refl, sym, ap, subst}
use mathlib.Core.Bool.{Bool, true, false, cond, false≢true}
use mathlib.Core.List.{List, [], ◌∷◌, ◌++◌}
use mathlib.Core.Option.{none, some as some'}
use lib.Dec.{T}
use lib.IntN.{pos}
use lib.ListN.{length, replicate}
use Rattle.rules.specs.declared.Event.{Event}
use Rattle.rules.specs.declared.Slot.{Slot}
use Rattle.rules.specs.declared.Counts.{Counts}
use Rattle.rules.specs.Events.{is, capped, subject_of, locks, unlocks, on_lock, eq_z}
use Rattle.rules.specs.Events as letters
use Rattle.rules.specs.Limits.{full, volatile, any_volatile, stray_volatile, first_line, line_after, allowed, declared}
use Rattle.rules.specs.Words.{latest, letter_in, accesses, by, after_load, reads, count, in_order, depth, remembered}
use Rattle.rules.specs.Rules.{Words, words_of, some, no_partner, not_held, pending_bars, not_stored, read_before_write, unwritten, not_written, differs, eight_already, dead_read, wrong_neighbour, bars_use, bars_write, use_barred, write_barred, volatile_order, prescient_volatile, lock_taken, waits, of_waiting, not_notified, breaks, rows, row_in, first_broken, judge, answer, Marked, accepted, refused, told, legal}
use Rattle.rules.specs.Traces.{ev, U, A, L, S, R, W, P, K, N, Y, F, C, two, two_volatile}
use Rattle.rules.proofs.Laws.{legal_row, load_partner}
use Rattle.rules.proofs.Held.{balanced}
use Rattle.rules.proofs.Cells.{cell_of}
use Rattle.rules.proofs.Live.{AllLive, live}
use Rattle.rules.proofs.PrescientStores.{AllAnnounced, last_announced}
use Rattle.state.specs.State.{around, queued, cell_at, reads_at, stores_at, depth_of, remembered_of, notified_of, words_in, start}
use Rattle.state.specs.Range.{every, holds_ok, threads_ok, cells_ok, queue_ok, queues_ok, in_range}
use Rattle.state.specs.Step.{next_cell, read_after, store_after, hold_after, wait_after, main_after, locked_after, var_of, lock_of, step_state, state_after}
use Rattle.machine.specs.Stepped.{stepped}
use Rattle.machine.proofs.Assigns.{AllAssigned, assigned}

-- the number and line for e from the state that these events, the latest first, would leave
abbrev pub steps_with : Counts → List Event → Event → Marked
steps_with h es e = told (stepped full (state_after h es) e).verdict

abbrev pub steps_to : List Event → Event → Marked
steps_to es e = steps_with two es e

-- K R A: a fresh assign beside an outstanding read. 15 at L and at N.
pub fresh_beside : (steps_to (A 0 0 5 ∷ R 0 0 0 ∷ K 0 0 ∷ []) (L 0 0 0) ≡ refused 15 (line_after two 3)) × (steps_to (A 0 0 5 ∷ R 0 0 0 ∷ K 0 0 ∷ []) (N 0 0) ≡ refused 15 (line_after two 3))
unfolding ev A L R K N start state_after step_state next_cell read_after store_after hold_after wait_after main_after locked_after var_of lock_of stepped in_range allowed stray_volatile volatile any_volatile first_line holds_ok threads_ok cells_ok queue_ok queues_ok every answer declared subject_of on_lock is words_in cell_at reads_at stores_at queued around depth_of remembered_of notified_of judge first_broken row_in rows breaks wrong_neighbour volatile_order use_barred write_barred prescient_volatile waits of_waiting not_notified locks unlocks no_partner not_held pending_bars not_stored some eq_z
fresh_beside = (refl, refl)

-- K R A S: an outstanding store beside an outstanding read. 16 at L and at N.
pub store_beside : (steps_to (S 0 0 5 ∷ A 0 0 5 ∷ R 0 0 0 ∷ K 0 0 ∷ []) (L 0 0 0) ≡ refused 16 (line_after two 4)) × (steps_to (S 0 0 5 ∷ A 0 0 5 ∷ R 0 0 0 ∷ K 0 0 ∷ []) (N 0 0) ≡ refused 16 (line_after two 4))
unfolding ev A L S R K N start state_after step_state next_cell read_after store_after hold_after wait_after main_after locked_after var_of lock_of stepped in_range allowed stray_volatile volatile any_volatile first_line holds_ok threads_ok cells_ok queue_ok queues_ok every answer declared subject_of on_lock is words_in cell_at reads_at stores_at queued around depth_of remembered_of notified_of judge first_broken row_in rows breaks wrong_neighbour volatile_order use_barred write_barred prescient_volatile waits of_waiting not_notified locks unlocks no_partner not_held pending_bars not_stored read_before_write unwritten not_written some eq_z
store_beside = (refl, refl)

-- K R A S W: a write after an outstanding read. 16 at L.
pub write_behind : steps_to (W 0 0 5 ∷ S 0 0 5 ∷ A 0 0 5 ∷ R 0 0 0 ∷ K 0 0 ∷ []) (L 0 0 0) ≡ refused 16 (line_after two 5)
unfolding ev A L S R W K start state_after step_state next_cell read_after store_after hold_after wait_after main_after locked_after var_of lock_of stepped in_range allowed stray_volatile volatile any_volatile first_line holds_ok threads_ok cells_ok queue_ok queues_ok every answer declared subject_of on_lock is words_in cell_at reads_at stores_at queued around depth_of remembered_of notified_of judge first_broken row_in rows breaks wrong_neighbour volatile_order use_barred write_barred prescient_volatile waits of_waiting not_notified locks unlocks no_partner pending_bars not_stored read_before_write not_written some eq_z
write_behind = refl

-- Eight reads, or stores, and what 23 refuses as well: 19 comes first.
pub eight_first : (steps_to (S 0 0 5 ∷ replicate 8 (R 0 0 0)) (R 0 0 0) ≡ refused 19 (line_after two 9)) × (steps_to (replicate 8 (S 0 0 5) ++ (R 0 0 0 ∷ [])) (P 0 0 5) ≡ refused 19 (line_after two 9))
unfolding ev S R P start state_after step_state next_cell read_after store_after hold_after wait_after main_after locked_after var_of lock_of stepped in_range allowed stray_volatile volatile any_volatile first_line holds_ok threads_ok cells_ok queue_ok queues_ok every answer declared subject_of on_lock is words_in cell_at reads_at stores_at queued around depth_of remembered_of notified_of judge first_broken row_in rows breaks wrong_neighbour volatile_order use_barred write_barred prescient_volatile waits of_waiting not_notified locks unlocks pending_bars differs eight_already some eq_z
eight_first = (refl, refl)

-- R P: a read that is dead already. An A with V owed is accepted, by the words of 23.
pub dead_already : steps_to (P 0 0 5 ∷ R 0 0 0 ∷ []) (A 0 0 6) ≡ accepted
unfolding ev A R P start state_after step_state next_cell read_after store_after hold_after wait_after main_after locked_after var_of lock_of stepped in_range allowed stray_volatile volatile any_volatile first_line holds_ok threads_ok cells_ok queue_ok queues_ok every answer declared subject_of on_lock is words_in cell_at reads_at stores_at queued around depth_of remembered_of notified_of judge first_broken row_in rows breaks wrong_neighbour volatile_order use_barred write_barred prescient_volatile waits of_waiting not_notified locks unlocks dead_read some eq_z
dead_already = refl

-- K P W S: with V owed the one store is not the early one. It is taken for it, and N accepted. K P W S S: 16.
pub store_owed : (steps_to (S 0 0 6 ∷ W 0 0 5 ∷ P 0 0 5 ∷ K 0 0 ∷ []) (N 0 0) ≡ accepted) × (steps_to (S 0 0 6 ∷ S 0 0 6 ∷ W 0 0 5 ∷ P 0 0 5 ∷ K 0 0 ∷ []) (N 0 0) ≡ refused 16 (line_after two 5))
unfolding ev S W P K N start state_after step_state next_cell read_after store_after hold_after wait_after main_after locked_after var_of lock_of stepped in_range allowed stray_volatile volatile any_volatile first_line holds_ok threads_ok cells_ok queue_ok queues_ok every answer declared subject_of on_lock is words_in cell_at reads_at stores_at queued around depth_of remembered_of notified_of judge first_broken row_in rows breaks wrong_neighbour volatile_order use_barred write_barred prescient_volatile waits of_waiting not_notified locks unlocks not_held not_stored unwritten not_written some eq_z
store_owed = (refl, refl)

-- Document 02 (f). L with no read, both variables volatile: an A behind it is 26.
pub load_alone : steps_with two_volatile (L 0 0 0 ∷ []) (A 0 0 5) ≡ refused 26 (line_after two_volatile 1)
unfolding ev A L start state_after step_state next_cell read_after store_after hold_after wait_after main_after locked_after var_of lock_of stepped in_range allowed stray_volatile volatile any_volatile first_line holds_ok threads_ok cells_ok queue_ok queues_ok every answer declared subject_of on_lock is words_in cell_at reads_at stores_at queued around depth_of remembered_of notified_of judge first_broken row_in rows breaks wrong_neighbour volatile_order use_barred write_barred bars_use bars_write prescient_volatile waits of_waiting not_notified locks unlocks no_partner differs dead_read some eq_z
load_alone = refl

-- A U behind it has no wrong neighbour, and its read, at 0, does not follow the write of V, at 0: 27.
pub read_nowhere : steps_with two_volatile (L 0 0 0 ∷ []) (U 0 0 0) ≡ refused 27 (line_after two_volatile 1)
unfolding ev L U start state_after step_state next_cell read_after store_after hold_after wait_after main_after locked_after var_of lock_of stepped in_range allowed stray_volatile volatile any_volatile first_line holds_ok threads_ok cells_ok queue_ok queues_ok every answer declared subject_of on_lock is words_in cell_at reads_at stores_at queued around depth_of remembered_of notified_of judge first_broken row_in rows breaks wrong_neighbour volatile_order use_barred write_barred bars_use bars_write prescient_volatile waits of_waiting not_notified locks unlocks no_partner differs dead_read some eq_z
read_nowhere = refl

-- S with no assign, and another variable assigned and stored: the store has the position 0, which no assign has, and stands before the other. 27 at W on
-- the other, and nothing at W on its own.
pub store_first : (steps_with two_volatile (S 0 1 6 ∷ A 0 1 6 ∷ S 0 0 5 ∷ []) (W 0 1 6) ≡ refused 27 (line_after two_volatile 3)) × (steps_with two_volatile (S 0 1 6 ∷ A 0 1 6 ∷ S 0 0 5 ∷ []) (W 0 0 5) ≡ accepted)
unfolding ev A S W start state_after step_state next_cell read_after store_after hold_after wait_after main_after locked_after var_of lock_of stepped in_range allowed stray_volatile volatile any_volatile first_line holds_ok threads_ok cells_ok queue_ok queues_ok every answer declared subject_of on_lock is words_in cell_at reads_at stores_at queued around depth_of remembered_of notified_of judge first_broken row_in rows breaks wrong_neighbour volatile_order use_barred write_barred bars_use bars_write prescient_volatile waits of_waiting not_notified locks unlocks no_partner differs dead_read some eq_z
store_first = (refl, refl)

-- Document 02 (i). K K Y K F: a thread that waits and holds the lock, of which it remembers 2. A U is 29; a C takes the 2 holds that it remembers, and
-- not 3.
pub waits_and_holds : (steps_to (F 1 0 0 ∷ K 0 0 ∷ Y 0 0 ∷ K 0 0 ∷ K 0 0 ∷ []) (U 0 0 0) ≡ refused 29 (line_after two 5))
    × (steps_to (F 1 0 0 ∷ K 0 0 ∷ Y 0 0 ∷ K 0 0 ∷ K 0 0 ∷ []) (C 0 0) ≡ accepted)
    × ((words_in (state_after two (C 0 0 ∷ F 1 0 0 ∷ K 0 0 ∷ Y 0 0 ∷ K 0 0 ∷ K 0 0 ∷ []))).depth 0 0 ≡ 2)
unfolding ev U K Y F C start state_after step_state next_cell read_after store_after hold_after wait_after main_after locked_after var_of lock_of stepped in_range allowed stray_volatile volatile any_volatile first_line holds_ok threads_ok cells_ok queue_ok queues_ok every answer declared capped subject_of on_lock is words_in cell_at reads_at stores_at queued around depth_of remembered_of notified_of judge first_broken row_in rows breaks wrong_neighbour volatile_order use_barred write_barred prescient_volatile waits of_waiting not_notified locks unlocks lock_taken pending_bars some eq_z
waits_and_holds = (refl, refl, refl)

-- No events leave the first three states, nor the two of the early store.
pub unreached : (h : Counts) (es : List Event) → T (legal h es)
    → (words_of es ≡ words_in (state_after two (A 0 0 5 ∷ R 0 0 0 ∷ K 0 0 ∷ [])) → ⊥)
    × (words_of es ≡ words_in (state_after two (S 0 0 5 ∷ A 0 0 5 ∷ R 0 0 0 ∷ K 0 0 ∷ [])) → ⊥)
    × (words_of es ≡ words_in (state_after two (W 0 0 5 ∷ S 0 0 5 ∷ A 0 0 5 ∷ R 0 0 0 ∷ K 0 0 ∷ [])) → ⊥)
    × (words_of es ≡ words_in (state_after two (S 0 0 6 ∷ W 0 0 5 ∷ P 0 0 5 ∷ K 0 0 ∷ [])) → ⊥)
    × (words_of es ≡ words_in (state_after two (S 0 0 6 ∷ S 0 0 6 ∷ W 0 0 5 ∷ P 0 0 5 ∷ K 0 0 ∷ [])) → ⊥)
unfolding ev A S R W P K start state_after step_state next_cell read_after store_after hold_after wait_after main_after locked_after var_of lock_of words_in cell_at reads_at stores_at queued around cell_of eq_z
unreached h es l = (
  λ q. false≢true ((subst AllLive q (live h es l) 0 0).stored refl refl),
  λ q. false≢true ((subst AllLive q (live h es l) 0 0).written refl),
  λ q. omega (arith, (subst AllLive q (live h es l) 0 0).placed.0),
  λ q. other (subst AllAnnounced q (last_announced h es l) 0 0 [] stored refl refl),
  λ q. other (subst AllAnnounced q (last_announced h es l) 0 0 (stored ∷ []) stored refl refl),
)
  where
    stored : Slot
    stored = record { value = pos 6; position = 0 }

    other : pos 6 ≡ pos 5 → ⊥
    other q = false≢true (subst (λ x. eq_z x (pos 5) ≡ true) (sym q) refl)

-- Nor do any leave those of (f). A load has a read.
pub load_unreached : (h : Counts) (es : List Event) → T (legal h es) → words_of es ≡ words_in (state_after two_volatile (L 0 0 0 ∷ [])) → ⊥
unfolding ev L start state_after step_state next_cell read_after store_after hold_after wait_after main_after locked_after var_of lock_of words_in words_of cell_at after_load latest letter_in reads count in_order is
load_unreached h [] l q = false≢true (ap (λ (w : Words). w.after_load 0 0) q)
load_unreached h (e ∷ []) l q = go (by accesses 0 0 e) refl (ap (λ (w : Words). w.after_load 0 0) q)
  where
    go : (b : Bool) → by accesses 0 0 e ≡ b → letter_in (letters.L ∷ []) (cond b (some' e) none) ≡ true → ⊥
    go true p z = false≢true (sym (load_partner h (words_of []) e (legal_row h e [] l) (subst T (sym z) tt)))
    go false p z = false≢true z
load_unreached h (e ∷ (f ∷ es)) l q = lost (ap (λ (w : Words). w.events) q)
  where
    lost : suc (suc (length es)) ≡ 1 → ⊥
    lost z = omega arith

-- An outstanding store has the position of its assign.
pub store_unreached : (h : Counts) (es : List Event) → T (legal h es) → words_of es ≡ words_in (state_after two_volatile (S 0 1 6 ∷ A 0 1 6 ∷ S 0 0 5 ∷ [])) → ⊥
unfolding ev A S start state_after step_state next_cell read_after store_after hold_after wait_after main_after locked_after var_of lock_of words_in cell_at reads_at stores_at queued around cell_of
store_unreached h es l q = omega (arith, (subst AllAssigned q (assigned h es l) 0 0).stores.0)

-- Who waits on a lock does not hold it.
pub holds_unreached : (h : Counts) (es : List Event) → 0 < h.locks → T (legal h es) → words_of es ≡ words_in (state_after two (F 1 0 0 ∷ K 0 0 ∷ Y 0 0 ∷ K 0 0 ∷ K 0 0 ∷ [])) → ⊥
unfolding ev K Y F start state_after step_state next_cell read_after store_after hold_after wait_after main_after locked_after var_of lock_of words_in words_of cell_at depth_of remembered_of capped subject_of
holds_unreached h es n l q =
    let r : remembered 0 0 es ≡ 2 = ap (λ (w : Words). w.remembered 0 0) q in
    let d : depth 0 0 es ≡ 1 = ap (λ (w : Words). w.depth 0 0) q in
    omega (arith, d, (balanced h 0 0 es n l).apart (omega (arith, r)))
