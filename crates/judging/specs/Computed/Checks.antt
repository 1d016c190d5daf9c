-- The checks of each row, from the parts of a state that an event looks at.
use Rattle.std.specs.Prelude.{ℕ, Option, Some, None, ◌+◌, ◌-◌, Bool, false, not, cond, ◌&&◌, ◌||◌, List, [], ◌∷◌, ◌++◌, map, eqb, ltb, leb, ℤ, length, get_or, replicate}
use Rattle.rules.specs.declared.Slot.{Slot}
use Rattle.rules.specs.Events.{eq_z}
use Rattle.rules.specs.Limits.{most}
use Rattle.rules.specs.Rules.{rows_behind, row_in}
use Rattle.state.specs.declared.Ring.{Ring}
use Rattle.state.specs.declared.Cell.{Cell}
use Rattle.state.specs.declared.Hold.{Hold}
use Rattle.rules.specs.declared.Main.{Main}
use Rattle.state.specs.State.{no_slot, depth_of}
use Rattle.judging.specs.declared.Checks.{Checks}
use Rattle.judging.specs.declared.OnSome.{OnSome}

-- the oldest of a queue, where r stands at its first place
unfoldable pub oldest_of : Ring → Slot → Slot
oldest_of q r = cond (eqb q.len 0) no_slot r

-- a thread below n, but not t, holds a lock
unfoldable pub others_hold : Hold → ℕ → ℕ → Bool
others_hold a n t = cond (ltb t 8) (ltb 0 a.holder && leb a.holder n && not (eqb a.holder (t + 1)) && ltb 0 a.depth) false

-- which checks of its row an event breaks, in the row's order; false fills them
abbrev pub five : Bool → Bool → Bool → Bool → Bool → Checks
five a b c d e = record { first = a; second = b; third = c; fourth = d; fifth = e }

abbrev pub no_checks : Checks
no_checks = five false false false false false

-- U; q is the position of the thread's last lock
abbrev pub use_checks : Cell → ℕ → ℤ → Checks
use_checks c q x = five (not (ltb q c.source)) (not (eq_z x c.copy)) false false false

-- A
abbrev pub assign_checks : Cell → Checks
assign_checks c = five (not c.pending && not (eqb c.reads.len 0)) false false false false

-- L; r is the oldest outstanding read
abbrev pub load_checks : Cell → Slot → ℤ → Checks
load_checks c r x = five (eqb c.reads.len 0) c.pending c.fresh (not (eqb c.stores.len 0) || ltb r.position c.written) (not (eq_z x r.value))

-- S
abbrev pub store_checks : Cell → ℕ → ℤ → Checks
store_checks c q x = five c.pending (not c.fresh) (not (ltb q c.source)) (not (eq_z x c.copy)) (leb most c.stores.len)

-- R
abbrev pub read_checks : Cell → Main → ℤ → Checks
read_checks c m x = five (not (eq_z x m.value)) (leb most c.reads.len) (not (eqb c.stores.len 0) || c.fresh && not c.pending) false false

-- W; r is the oldest outstanding store
abbrev pub write_checks : Cell → Slot → ℤ → Checks
write_checks c r x = five (eqb c.stores.len 0) (not (eq_z x r.value)) false false false

-- K and C, of n threads; w is what some variable of the thread has
abbrev pub lock_checks : Hold → ℕ → OnSome → ℕ → Checks
lock_checks a n w t = five (others_hold a n t) w.pending false false false

-- N and Y
abbrev pub unlock_checks : Hold → OnSome → ℕ → Checks
unlock_checks a w t = five (not (ltb 0 (depth_of a t))) w.fresh w.stored false false

-- F
abbrev pub notify_checks : Hold → ℕ → Checks
notify_checks a t = five (not (ltb 0 (depth_of a t))) false false false false

-- P
abbrev pub prescient_store_checks : Cell → Checks
prescient_store_checks c = five c.pending (leb most c.stores.len) (not (eqb c.reads.len 0)) false false

-- B
abbrev pub prescient_assign_checks : Cell → ℤ → Checks
prescient_assign_checks c x = five (not c.pending) (not (eq_z x c.announced)) false false false

-- the numbers that lead each row
abbrev pub lead : List ℕ
lead = 29 ∷ 30 ∷ 26 ∷ 27 ∷ 28 ∷ []

-- a row with zeros up to five
abbrev pub filled : List ℕ → List ℕ
filled ns = ns ++ replicate (5 - length ns) 0

-- the row of a letter behind them, and the table of all rows
unfoldable pub row_of : ℕ → List ℕ
row_of k = filled (row_in (rows_behind []) k)

unfoldable pub table : List (List ℕ)
table = map (λ r. filled r.checks) (rows_behind [])

-- the number of a row at its first broken check, if one is
abbrev pub first_of : Checks → List ℕ → Option ℕ
first_of b row =
    cond b.first (Some (get_or row 0 0)) (cond b.second (Some (get_or row 1 0)) (cond b.third (Some (get_or row 2 0)) (cond b.fourth (Some (get_or row 3 0)) (cond b.fifth (Some (get_or row 4 0)) None))))
