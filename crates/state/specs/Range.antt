-- 8. The state handed in has a number out of range: declared counts as in the head; events so far at most 2,000 (200 in the short course); at most 8
-- outstanding reads and 8 outstanding stores for each thread and variable; a position or lock depth above the events so far; a
-- holder undeclared; a holder without depth or depth without holder. Document 02 (i): a waiting thread's lock undeclared, or its remembered number 0 or
-- above the events so far. Places of undeclared threads, variables and locks are looked at too; those of a queue past its count, and the number of a
-- thread that does not wait, are not.
use Rattle.std.specs.Prelude.{ℕ, zero, suc, ◌+◌, Bool, true, not, ◌&&◌, ◌||◌, List, eqb, ltb, leb, get_or}
use Rattle.state.specs.declared.Ring.{Ring}
use Rattle.state.specs.declared.Cell.{Cell}
use Rattle.state.specs.declared.Hold.{Hold}
use Rattle.state.specs.declared.Waiting.{Waiting}
use Rattle.state.specs.declared.State.{State}
use Rattle.state.specs.State.{no_slot, no_hold, no_wait, blank, slot_number}
use Rattle.rules.specs.declared.Slot.{Slot}
use Rattle.rules.specs.Limits.{Limits, full, most, cell_count, allowed}

-- f holds of each number below n
unfoldable pub every : ℕ → (ℕ → Bool) → Bool
every zero f = true
every (suc n) f = f n && every n f

-- a lock, of t threads after n events
abbrev pub hold_ok : ℕ → ℕ → Hold → Bool
hold_ok t n a = leb a.holder t && leb a.depth n && (not (eqb a.holder 0) || eqb a.depth 0) && (eqb a.holder 0 || not (eqb a.depth 0))

abbrev pub holds_in : State → ℕ → Bool
holds_in s l = hold_ok s.counts.threads s.events (get_or s.holds l no_hold)

unfoldable pub holds_ok : State → Bool
holds_ok s = every full.locks (holds_in s)

-- the waiting of a thread, of l locks after n events; nothing is asked of one that does not wait
abbrev pub wait_ok : ℕ → ℕ → Waiting → Bool
wait_ok l n w = eqb w.lock 0 || leb w.lock l && ltb 0 w.depth && leb w.depth n

-- a thread: its waiting, and the position of its last lock
abbrev pub threads_in : State → ℕ → Bool
threads_in s t = wait_ok s.counts.locks s.events (get_or s.waits t no_wait) && leb (get_or s.locked t 0) s.events

unfoldable pub threads_ok : State → Bool
threads_ok s = every full.threads (threads_in s)

abbrev pub cell_ok : ℕ → Cell → Bool
cell_ok n c = leb c.source n && leb c.written n && leb c.loaded n && leb c.used n && leb c.assigned n

abbrev pub cells_in : State → ℕ → Bool
cells_in s i = cell_ok s.events (get_or s.cells i blank)

unfoldable pub cells_ok : State → Bool
cells_ok s = every cell_count (cells_in s)

-- the j-th of the queue of cell i, from 0
abbrev pub slot_at : List Slot → ℕ → Ring → ℕ → Slot
slot_at ss i q j = get_or ss (slot_number i (q.first + j)) no_slot

-- where a queue of len has a j-th, its position is at most n
abbrev pub slot_ok : ℕ → ℕ → ℕ → Slot → Bool
slot_ok n len j r = leb len j || leb r.position n

abbrev pub slots_in : ℕ → List Slot → ℕ → Ring → ℕ → Bool
slots_in n ss i q j = slot_ok n q.len j (slot_at ss i q j)

-- at most eight, each with a position up to n
unfoldable pub queue_ok : ℕ → List Slot → ℕ → Ring → Bool
queue_ok n ss i q = leb q.len most && every most (slots_in n ss i q)

-- the queues f of all cells
abbrev pub queues_in : ℕ → List Cell → List Slot → (Cell → Ring) → ℕ → Bool
queues_in n cs ss f i = queue_ok n ss i (f (get_or cs i blank))

unfoldable pub queues_ok : ℕ → List Cell → List Slot → (Cell → Ring) → Bool
queues_ok n cs ss f = every cell_count (queues_in n cs ss f)

unfoldable pub in_range : Limits → State → Bool
in_range m s =
    allowed m s.counts && leb s.events m.events && holds_ok s && threads_ok s && cells_ok s
    && queues_ok s.events s.cells s.reads (λ c. c.reads) && queues_ok s.events s.cells s.stores (λ c. c.stores)
