-- The checks that lead each row: 29 and 30, of waiting threads; 26, 27 and 28, of an event on a volatile variable. What 27 asks of all variables is `order_at`.
use Rattle.std.specs.Prelude.{ℕ, Option, Some, None, Bool, not, cond, ◌&&◌, ◌||◌, List, eqb, ltb, leb, ℤ, get_or}
use Rattle.rules.specs.declared.Counts.{Counts}
use Rattle.rules.specs.declared.Slot.{Slot}
use Rattle.rules.specs.Events.{A, B, C, F, L, P, R, S, U, W, subject_of}
use Rattle.rules.specs.Limits.{volatile}
use Rattle.rules.specs.Rules.{some, differ}
use Rattle.state.specs.declared.Cell.{Cell}
use Rattle.state.specs.declared.Waiting.{Waiting}
use Rattle.state.specs.declared.State.{State}
use Rattle.state.specs.State.{no_slot, no_wait, blank, remembered_of, notified_of}
use Rattle.state.specs.Computed.Places.{cell_place, slot_place}
use Rattle.judging.specs.declared.Lead.{Lead}
use Rattle.judging.specs.Computed.Checks.{lead}

-- ---- 29 and 30

-- a thread waits on one of n locks
unfoldable pub is_waiting : Waiting → ℕ → Bool
is_waiting w n = ltb 0 w.lock && leb w.lock n && ltb 0 w.depth

-- 29: letter k of a thread that waits as w says
unfoldable pub is_barred : Waiting → ℕ → ℕ → Bool
is_barred w n k = not (eqb k C || eqb k R || eqb k W) && is_waiting w n

-- 30: letter k on lock l, whose subject waits as w says
unfoldable pub is_untold : Waiting → ℕ → ℕ → Bool
is_untold w l k =
    eqb k F && (not (ltb 0 (remembered_of w l)) || notified_of w l)
    || eqb k C && not (ltb 0 (remembered_of w l) && notified_of w l)

-- the number of the first of these that letter k breaks, if it breaks one. a is the waiting of its thread, w that of its subject, of n locks
unfoldable pub ahead_rule : Waiting → Waiting → ℕ → ℕ → ℕ → Option ℕ
ahead_rule a w n l k = cond (is_barred a n k) (Some (get_or lead 0 0)) (cond (is_untold w l k) (Some (get_or lead 1 0)) None)

-- of an event other than F and C, which alone break 30
unfoldable pub barred_rule : Waiting → ℕ → ℕ → Option ℕ
barred_rule w n k = cond (is_barred w n k) (Some (get_or lead 0 0)) None

abbrev pub ahead_at : State → ℕ → ℕ → ℕ → ℤ → Option ℕ
ahead_at s t l k x = ahead_rule (get_or s.waits t no_wait) (get_or s.waits (subject_of k t x) no_wait) s.counts.locks l k

-- ---- 26, 27 and 28

-- the letter of a thread's own event on a variable, R and W left aside
unfoldable pub is_access : ℕ → Bool
is_access k = eqb k U || eqb k A || eqb k L || eqb k S || eqb k P || eqb k B

-- letter k on a volatile variable with cell c; o is what 27 asks of all variables
abbrev pub lead_checks : Cell → Bool → ℕ → Lead
lead_checks c o k = record {
  neighbour = is_access k && (differ (eqb k U) c.after_load || differ (eqb k S) c.after_assign);
  order = o;
  prescient = eqb k P || eqb k B;
}

-- the number of the first broken check of these, if one is
abbrev pub first_lead : Lead → Option ℕ
first_lead b = cond b.neighbour (Some (get_or lead 2 0)) (cond b.order (Some (get_or lead 3 0)) (cond b.prescient (Some (get_or lead 4 0)) None))

unfoldable pub lead_rule : Cell → Bool → ℕ → Option ℕ
lead_rule c o k = first_lead (lead_checks c o k)

-- the volatile variable of cell c bars a use whose read is at r
abbrev pub bars_use : Cell → ℕ → Bool
bars_use c r = c.fresh || not (eqb c.stores.len 0) || not (ltb c.written r) || not (ltb c.used r)

-- it bars a write whose assign is at a; f stands at the first place of its stores
abbrev pub bars_write : Cell → Slot → ℕ → Bool
bars_write c f a = not (eqb c.stores.len 0) && ltb f.position a || c.fresh && ltb c.assigned a

-- the volatile variable of cell d bars letter k on that of cell c; f and g stand at the first place of their stores
unfoldable pub bars_event : Cell → Slot → Cell → Slot → ℕ → Bool
bars_event c f d g k = eqb k U && bars_use d c.loaded || eqb k W && (not (eqb c.stores.len 0) && bars_write d g f.position)

-- the slot at the first place of the stores of cell i
abbrev pub front_at : List Cell → List Slot → ℕ → Slot
front_at cs ss i = get_or ss (slot_place i (get_or cs i blank).stores 0) no_slot

-- variable u bars letter k of thread t on variable v, where both are volatile
unfoldable pub bars_at : List Cell → List Slot → ℕ → ℕ → ℕ → ℕ → Bool
bars_at cs ss t v k u =
    bars_event (get_or cs (cell_place t v) blank) (front_at cs ss (cell_place t v)) (get_or cs (cell_place t u) blank) (front_at cs ss (cell_place t u)) k

-- 27: a volatile variable does
unfoldable pub order_at : Counts → List Cell → List Slot → ℕ → ℕ → ℕ → Bool
order_at h cs ss t v k = some h.variables (λ u. volatile h u && bars_at cs ss t v k u)

-- what letter k of thread t on variable v breaks of the checks that lead its row; c is the cell of both
unfoldable pub lead_with : Counts → Cell → List Cell → List Slot → ℕ → ℕ → ℕ → Option ℕ
lead_with h c cs ss t v k = cond (volatile h v) (lead_rule c (order_at h cs ss t v k) k) None

abbrev pub lead_at : State → ℕ → ℕ → ℕ → Option ℕ
lead_at s t v k = lead_with s.counts (get_or s.cells (cell_place t v) blank) s.cells s.stores t v k
