-- The tables of short traces, and the 1-2-3 run, are what the definitions give: by computation.
use mathlib.Core.Path.{◌≡◌, refl}
use mathlib.Core.List.{List, [], ◌∷◌, map, reverse}
use mathlib.Core.Option.{Option, none, some as found}
use lib.IntN.{ℤ, pos}
use Rattle.rules.specs.declared.Event.{Event}
use Rattle.rules.specs.declared.Counts.{Counts}
use Rattle.rules.specs.Events.{capped, is, of, on, subject_of, on_lock, locks, unlocks, eq_z}
use Rattle.rules.specs.Limits.{full, volatile, any_volatile, first_line, line_after, declared}
use Rattle.rules.specs.Words.{latest, value_in, letter_in, last_at, count, in_order, by, locks_by, reads, stores, copy, fresh, pending, announced, last_lock, last_write, usable, grip_after, grip, depth, remembered, tells, notified, main, after_load, after_assign, loaded_read, used_read, last_assign}
use Rattle.rules.specs.Rules.{words_of, some, no_partner, lock_taken, not_held, pending_bars, not_fresh, not_stored, read_before_write, unwritten, not_written, not_usable, differs, eight_already, dead_read, wrong_neighbour, bars_use, bars_write, use_barred, write_barred, volatile_order, prescient_volatile, waits, of_waiting, not_notified, breaks, rows, row_in, first_broken, judge, answer, verdict, accepted, refused, mark_from, mark}
use Rattle.rules.specs.PrescientStores.{judge_strict, verdict_strict, mark_strict}
use Rattle.rules.specs.Memories.{below, each, memory}
use Rattle.rules.specs.Traces.{Trace, ev, U, A, L, S, R, W, P, B, K, N, Y, F, C, trace, with_main, traces, slips, dead_reads, prescient_stores, check_traces, volatile_traces, waiting_traces, two_volatile, two, one_two_three_counts, one_two_three}

-- y, where a row says what main memory is
abbrev where_said : Option ℤ → ℤ → Option ℤ
where_said none y = none
where_said (found x) y = found y

-- each row of a table has the verdict that the definitions give its events with these counts, and main memory of variable 0 where it says it
pub record Computed (h : Counts) (rows : List Trace) : Type 0 where
  pub verdicts : map (λ (r : Trace). mark full h r.events) rows ≡ map (λ (r : Trace). r.marked) rows
  pub mains : map (λ (r : Trace). where_said r.main0 (main 0 (reverse r.events))) rows ≡ map (λ (r : Trace). r.main0) rows

tables : Computed two traces × Computed two slips × Computed two dead_reads × Computed two prescient_stores × Computed two check_traces × Computed two_volatile volatile_traces × Computed two waiting_traces
unfolding ev U A L S R W P B K N Y F C trace with_main traces slips dead_reads prescient_stores check_traces volatile_traces waiting_traces capped is of on subject_of on_lock locks unlocks eq_z declared volatile any_volatile first_line latest value_in letter_in last_at count in_order by locks_by reads stores copy fresh pending announced last_lock last_write usable grip_after grip depth remembered tells notified main after_load after_assign loaded_read used_read last_assign words_of some no_partner lock_taken not_held pending_bars not_fresh not_stored read_before_write unwritten not_written not_usable differs eight_already dead_read wrong_neighbour bars_use bars_write use_barred write_barred volatile_order prescient_volatile waits of_waiting not_notified breaks rows row_in first_broken judge answer verdict mark_from mark
tables = (
  record { verdicts = refl; mains = refl },
  record { verdicts = refl; mains = refl },
  record { verdicts = refl; mains = refl },
  record { verdicts = refl; mains = refl },
  record { verdicts = refl; mains = refl },
  record { verdicts = refl; mains = refl },
  record { verdicts = refl; mains = refl },
)

pub short_traces : Computed two traces
short_traces = tables.0

pub slips_computed : Computed two slips
slips_computed = tables.1

pub dead_reads_computed : Computed two dead_reads
dead_reads_computed = tables.2

pub prescient_stores_computed : Computed two prescient_stores
prescient_stores_computed = tables.3

-- each check of the ten rows of document 01, and their order
pub checks_computed : Computed two check_traces
checks_computed = tables.4

-- 26, 27 at U and at W, and 28, with the line `V 0 1`
pub volatile_traces_law : Computed two_volatile volatile_traces
volatile_traces_law = tables.5

-- waiting and notification: 29, 30, and what Y, F and C are checked for
pub waiting_traces_law : Computed two waiting_traces
waiting_traces_law = tables.6

-- with every store counted, the row of `K P N` is as document 01 has it
pub strict_computed : mark_strict full two [] (map (λ (e : Event). found e) (K 0 0 ∷ P 0 0 5 ∷ N 0 0 ∷ [])) ≡ refused 16 (line_after two 2)
unfolding ev P K N capped is of on subject_of on_lock locks unlocks eq_z declared volatile any_volatile first_line latest value_in letter_in last_at count in_order by locks_by reads stores copy fresh pending announced last_lock last_write usable grip_after grip depth remembered tells notified main after_load after_assign loaded_read used_read last_assign words_of some no_partner lock_taken not_held pending_bars not_fresh not_stored read_before_write unwritten not_written not_usable differs eight_already dead_read wrong_neighbour bars_use bars_write use_barred write_barred volatile_order prescient_volatile waits of_waiting not_notified breaks rows row_in first_broken judge judge_strict verdict_strict mark_strict
strict_computed = refl

pub one_two_three_law : mark full one_two_three_counts one_two_three ≡ accepted
unfolding ev U A L S R W K N one_two_three capped is of on subject_of on_lock locks unlocks eq_z declared volatile any_volatile first_line latest value_in letter_in last_at count in_order by locks_by reads stores copy fresh pending announced last_lock last_write usable grip_after grip depth remembered tells notified main after_load after_assign loaded_read used_read last_assign words_of some no_partner lock_taken not_held pending_bars not_fresh not_stored read_before_write unwritten not_written not_usable differs eight_already dead_read wrong_neighbour bars_use bars_write use_barred write_barred volatile_order prescient_volatile waits of_waiting not_notified breaks rows row_in first_broken judge answer verdict mark_from mark
one_two_three_law = refl

-- x is 1 and y is 100 in main memory at the end
pub one_two_three_main : memory one_two_three_counts (words_of (reverse one_two_three)) ≡ pos 1 ∷ pos 100 ∷ []
unfolding ev U A L S R W K N one_two_three is on latest value_in main words_of below each memory
one_two_three_main = refl
