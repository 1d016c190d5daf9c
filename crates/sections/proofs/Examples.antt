-- The theorem is not empty: document 01's listing, its example of sections that their first lock would order wrongly (here with an
-- early store that is written before its assign), an early store across an unlock, volatile variables, waiting, and a trace for each denial.
use Prim.Native.Nat.{ℕ}
use native.Mathlib.Decide.{ℕ_discrete}
use mathlib.Core.Path.{◌≡◌, refl, subst₂}
use mathlib.Core.Bool.{true}
use mathlib.Core.List.{List, [], ◌∷◌}
use Rattle.rules.specs.declared.Event.{Event}
use Rattle.rules.specs.declared.Counts.{Counts}
use Rattle.rules.specs.declared.Course.TheVariants.{Full}
use Rattle.rules.specs.Events.{capped, is, of, on, subject_of, on_lock, locks, unlocks, eq_z}
use Rattle.rules.specs.Limits.{full, volatile, any_volatile, stray_volatile, first_line, allowed, declared}
use Rattle.rules.specs.Words.{latest, value_in, letter_in, last_at, count, in_order, by, locks_by, reads, stores, copy, fresh, pending, announced, last_lock, last_write, usable, grip_after, grip, depth, remembered, tells, notified, main, after_load, after_assign, loaded_read, used_read, last_assign}
use Rattle.rules.specs.Rules.{words_of, accepted, some, no_partner, lock_taken, not_held, pending_bars, not_fresh, not_stored, read_before_write, unwritten, not_written, not_usable, differs, eight_already, dead_read, wrong_neighbour, bars_use, bars_write, use_barred, write_barred, volatile_order, prescient_volatile, waits, of_waiting, not_notified, breaks, rows, row_in, first_broken, judge, answer, verdict, mark_from, mark}
use Rattle.rules.specs.Traces.{ev, U, A, L, S, R, W, P, B, K, N, Y, F, C, two, two_volatile}
use Rattle.rules.proofs.Bounds.{up_to_full}
use Rattle.serial.specs.Sections as Q
use Rattle.sections.specs.Places.{uses_or_assigns, unlocks_by, holds_some}
use Rattle.sections.specs.CriticalSections.{Entry}
use Rattle.sections.specs.Denials.{fit, denied}
use Rattle.sections.specs.Demand3.{Demand3}
use Rattle.sections.specs.Refusals.{after_unlock, not_under, late_lock, unfinished, denial_from, denial}
use Rattle.sections.specs.Order.{sections, order}
use Rattle.sections.proofs.Demand3.{demand_3}

abbrev section : ℕ → ℕ → ℕ → Entry
section t a b = record { thread = t; first = a; last = b }

-- what is computed of an accepted list that has this order,
abbrev Computed : Counts → (ℕ → ℕ) → List Event → List Entry → Type 0
Computed h guard events list = (allowed full h ≡ true) × (mark full h events ≡ accepted) × (denial h guard events ≡ fit) × (order h events ≡ list)

-- and demand 3 of it
shown : (h : Counts) (guard : ℕ → ℕ) (events : List Event) (list : List Entry) → Computed h guard events list → Demand3 h guard events fit list
shown h guard events list c = subst₂ (λ d o. Demand3 h guard events d o) c.2 c.3 (demand_3 full h guard events (record { limits = up_to_full Full; head = c.0; marked = c.1 }))

-- document 01, "One paper whole"
abbrev listing : List Event
listing = K 0 0 ∷ A 0 0 5 ∷ S 0 0 5 ∷ W 0 0 5 ∷ N 0 0 ∷ K 1 0 ∷ R 1 0 5 ∷ L 1 0 5 ∷ U 1 0 5 ∷ N 1 0 ∷ []

pub listing_order : order two listing ≡ section 0 3 7 ∷ section 1 8 12 ∷ []
unfolding ev U A L S R W P B K N volatile any_volatile first_line is of on locks unlocks by grip_after grip depth words_of some holds_some sections order ℕ_discrete Q.next Q.push Q.current Q.without
listing_order = refl

-- Thread 0 takes lock 0; thread 1 takes lock 1, stores early, is written, assigns, unlocks; thread 0 takes lock 1 and uses the new value.
-- Thread 1 goes first.
abbrev crossed : List Event
crossed = K 0 0 ∷ K 1 1 ∷ P 1 0 7 ∷ W 1 0 7 ∷ B 1 0 7 ∷ N 1 1 ∷ K 0 1 ∷ R 0 0 7 ∷ L 0 0 7 ∷ U 0 0 7 ∷ N 0 1 ∷ N 0 0 ∷ []

pub crossed_demand : Demand3 two (λ v. 1) crossed fit (section 1 4 8 ∷ section 0 3 14 ∷ [])
unfolding ev U A L S R W P B K N first_line is of on on_lock locks unlocks eq_z subject_of declared volatile any_volatile stray_volatile allowed latest value_in letter_in last_at count in_order by locks_by reads stores copy fresh pending announced last_lock last_write usable grip_after grip depth remembered tells notified main after_load after_assign loaded_read used_read last_assign words_of some no_partner lock_taken not_held pending_bars not_fresh not_stored read_before_write unwritten not_written not_usable differs eight_already dead_read wrong_neighbour bars_use bars_write use_barred write_barred volatile_order prescient_volatile waits of_waiting not_notified breaks rows row_in first_broken judge answer verdict mark_from mark uses_or_assigns unlocks_by holds_some after_unlock not_under late_lock unfinished denial_from denial sections order ℕ_discrete Q.next Q.push Q.current Q.without
crossed_demand = shown two (λ v. 1) crossed (section 1 4 8 ∷ section 0 3 14 ∷ []) (refl, refl, refl, refl)

-- Document 02 (d): thread 0 stores early and unlocks lock 1 with the store unwritten and its assign owed; thread 1 has a section before the write
-- and the assign, and another that uses the value.
abbrev across : List Event
across = K 0 0 ∷ K 0 1 ∷ P 0 0 5 ∷ N 0 1 ∷ K 1 1 ∷ N 1 1 ∷ W 0 0 5 ∷ B 0 0 5 ∷ N 0 0 ∷ K 1 0 ∷ R 1 0 5 ∷ L 1 0 5 ∷ U 1 0 5 ∷ N 1 0 ∷ []

pub across_demand : Demand3 two (λ v. 0) across fit (section 0 3 11 ∷ section 1 7 8 ∷ section 1 12 16 ∷ [])
unfolding ev U A L S R W P B K N first_line is of on on_lock locks unlocks eq_z subject_of declared volatile any_volatile stray_volatile allowed latest value_in letter_in last_at count in_order by locks_by reads stores copy fresh pending announced last_lock last_write usable grip_after grip depth remembered tells notified main after_load after_assign loaded_read used_read last_assign words_of some no_partner lock_taken not_held pending_bars not_fresh not_stored read_before_write unwritten not_written not_usable differs eight_already dead_read wrong_neighbour bars_use bars_write use_barred write_barred volatile_order prescient_volatile waits of_waiting not_notified breaks rows row_in first_broken judge answer verdict mark_from mark uses_or_assigns unlocks_by holds_some after_unlock not_under late_lock unfinished denial_from denial sections order ℕ_discrete Q.next Q.push Q.current Q.without
across_demand = shown two (λ v. 0) across (section 0 3 11 ∷ section 1 7 8 ∷ section 1 12 16 ∷ []) (refl, refl, refl, refl)

-- Document 02 (f): "guarded papers with volatiles keep their serial order". Both variables are volatile, so that events start at line 4; thread 1 uses what thread
-- 0 assigned, and thread 0 goes on in a section of its own.
abbrev guarded : List Event
guarded = K 0 0 ∷ A 0 0 5 ∷ A 0 1 6 ∷ S 0 1 6 ∷ S 0 0 5 ∷ W 0 0 5 ∷ W 0 1 6 ∷ N 0 0 ∷ K 1 0 ∷ R 1 1 6 ∷ R 1 0 5 ∷ L 1 1 6 ∷ U 1 1 6 ∷ L 1 0 5 ∷ U 1 0 5 ∷ N 1 0 ∷ K 0 0 ∷ N 0 0 ∷ []

pub guarded_demand : Demand3 two_volatile (λ v. 0) guarded fit (section 0 4 11 ∷ section 1 12 19 ∷ section 0 20 21 ∷ [])
unfolding ev U A L S R W P B K N first_line is of on on_lock locks unlocks eq_z subject_of declared volatile any_volatile stray_volatile allowed latest value_in letter_in last_at count in_order by locks_by reads stores copy fresh pending announced last_lock last_write usable grip_after grip depth remembered tells notified main after_load after_assign loaded_read used_read last_assign words_of some no_partner lock_taken not_held pending_bars not_fresh not_stored read_before_write unwritten not_written not_usable differs eight_already dead_read wrong_neighbour bars_use bars_write use_barred write_barred volatile_order prescient_volatile waits of_waiting not_notified breaks rows row_in first_broken judge answer verdict mark_from mark uses_or_assigns unlocks_by holds_some after_unlock not_under late_lock unfinished denial_from denial sections order ℕ_discrete Q.next Q.push Q.current Q.without
guarded_demand = shown two_volatile (λ v. 0) guarded (section 0 4 11 ∷ section 1 12 19 ∷ section 0 20 21 ∷ []) (refl, refl, refl, refl)

-- Document 02 (i): thread 0 takes a lock twice and waits; thread 1 takes it, notifies and unlocks; thread 0 comes back with both holds. Three sections, the
-- third from the C.
abbrev waited : List Event
waited = K 0 0 ∷ K 0 0 ∷ Y 0 0 ∷ K 1 0 ∷ F 1 0 0 ∷ N 1 0 ∷ C 0 0 ∷ N 0 0 ∷ N 0 0 ∷ []

pub waited_demand : Demand3 two (λ v. 0) waited fit (section 0 3 5 ∷ section 1 6 8 ∷ section 0 9 11 ∷ [])
unfolding ev U A L S R W P B K N Y F C first_line is of on on_lock locks unlocks eq_z capped subject_of declared volatile any_volatile stray_volatile allowed latest value_in letter_in last_at count in_order by locks_by reads stores copy fresh pending announced last_lock last_write usable grip_after grip depth remembered tells notified main after_load after_assign loaded_read used_read last_assign words_of some no_partner lock_taken not_held pending_bars not_fresh not_stored read_before_write unwritten not_written not_usable differs eight_already dead_read wrong_neighbour bars_use bars_write use_barred write_barred volatile_order prescient_volatile waits of_waiting not_notified breaks rows row_in first_broken judge answer verdict mark_from mark uses_or_assigns unlocks_by holds_some after_unlock not_under late_lock unfinished denial_from denial sections order ℕ_discrete Q.next Q.push Q.current Q.without
waited_demand = shown two (λ v. 0) waited (section 0 3 5 ∷ section 1 6 8 ∷ section 0 9 11 ∷ []) (refl, refl, refl, refl)

-- and with values: thread 0 assigns and waits; thread 1 uses the value, assigns and notifies; thread 0 comes back and uses the new value
abbrev answered : List Event
answered =
    K 0 0 ∷ K 0 0 ∷ A 0 0 5 ∷ S 0 0 5 ∷ W 0 0 5 ∷ Y 0 0 ∷ K 1 0 ∷ R 1 0 5 ∷ L 1 0 5 ∷ U 1 0 5 ∷ A 1 0 6 ∷ F 1 0 0 ∷ S 1 0 6 ∷ W 1 0 6 ∷ N 1 0
    ∷ C 0 0 ∷ R 0 0 6 ∷ L 0 0 6 ∷ U 0 0 6 ∷ N 0 0 ∷ N 0 0 ∷ []

pub answered_demand : Demand3 two (λ v. 0) answered fit (section 0 3 8 ∷ section 1 9 17 ∷ section 0 18 23 ∷ [])
unfolding ev U A L S R W P B K N Y F C first_line is of on on_lock locks unlocks eq_z capped subject_of declared volatile any_volatile stray_volatile allowed latest value_in letter_in last_at count in_order by locks_by reads stores copy fresh pending announced last_lock last_write usable grip_after grip depth remembered tells notified main after_load after_assign loaded_read used_read last_assign words_of some no_partner lock_taken not_held pending_bars not_fresh not_stored read_before_write unwritten not_written not_usable differs eight_already dead_read wrong_neighbour bars_use bars_write use_barred write_barred volatile_order prescient_volatile waits of_waiting not_notified breaks rows row_in first_broken judge answer verdict mark_from mark uses_or_assigns unlocks_by holds_some after_unlock not_under late_lock unfinished denial_from denial sections order ℕ_discrete Q.next Q.push Q.current Q.without
answered_demand = shown two (λ v. 0) answered (section 0 3 8 ∷ section 1 9 17 ∷ section 0 18 23 ∷ []) (refl, refl, refl, refl)

-- a use not under its guard: 20 at its line
pub unguarded : denial two (λ v. 1) (K 0 0 ∷ A 0 0 5 ∷ []) ≡ denied 20 4
unfolding ev U A L S R W P B K N volatile any_volatile first_line is of on locks unlocks latest letter_in by pending grip_after grip depth remembered waits words_of some uses_or_assigns unlocks_by holds_some after_unlock not_under late_lock unfinished denial_from denial
unguarded = refl

-- a section that locks again after an unlock: 21 at its line
pub late : denial two (λ v. 1) (K 0 0 ∷ K 0 1 ∷ N 0 1 ∷ K 0 1 ∷ []) ≡ denied 21 6
unfolding ev U A L S R W P B K N volatile any_volatile first_line is of on locks unlocks latest letter_in by pending grip_after grip depth remembered waits words_of some uses_or_assigns unlocks_by holds_some after_unlock not_under late_lock unfinished denial_from denial
late = refl

-- also where it locks a lock that it still holds
pub late_again : denial two (λ v. 1) (K 0 0 ∷ K 0 1 ∷ N 0 1 ∷ K 0 0 ∷ []) ≡ denied 21 6
unfolding ev U A L S R W P B K N volatile any_volatile first_line is of on locks unlocks latest letter_in by pending grip_after grip depth remembered waits words_of some uses_or_assigns unlocks_by holds_some after_unlock not_under late_lock unfinished denial_from denial
late_again = refl

-- a C in a section that goes on by another lock
pub late_resume : denial two (λ v. 1) (K 0 1 ∷ K 0 0 ∷ Y 0 0 ∷ K 1 0 ∷ F 1 0 0 ∷ N 1 0 ∷ C 0 0 ∷ N 0 0 ∷ N 0 1 ∷ []) ≡ denied 21 9
unfolding ev U A L S R W P B K N Y F C volatile any_volatile first_line is of on locks unlocks latest letter_in by pending grip_after grip depth remembered waits words_of some uses_or_assigns unlocks_by holds_some after_unlock not_under late_lock unfinished denial_from denial
late_resume = refl

-- a K after the N of an earlier section is not late
pub again : denial two (λ v. 0) (K 0 0 ∷ N 0 0 ∷ K 0 0 ∷ N 0 0 ∷ []) ≡ fit
unfolding ev U A L S R W P B K N volatile any_volatile first_line is of on locks unlocks latest letter_in by pending grip_after grip depth remembered waits words_of some uses_or_assigns unlocks_by holds_some after_unlock not_under late_lock unfinished denial_from denial
again = refl

-- a lock that is held at the end, and an assign that is owed: 22 at the trailer's line
pub held_at_end : denial two (λ v. 0) (K 0 0 ∷ []) ≡ denied 22 4
unfolding ev U A L S R W P B K N volatile any_volatile first_line is of on locks unlocks latest letter_in by pending grip_after grip depth remembered waits words_of some uses_or_assigns unlocks_by holds_some after_unlock not_under late_lock unfinished denial_from denial
held_at_end = refl

-- with a `V` line the trailer's is one further down
pub volatile_at_end : denial two_volatile (λ v. 0) (K 0 0 ∷ []) ≡ denied 22 5
unfolding ev U A L S R W P B K N volatile any_volatile first_line is of on locks unlocks latest letter_in by pending grip_after grip depth remembered waits words_of some uses_or_assigns unlocks_by holds_some after_unlock not_under late_lock unfinished denial_from denial
volatile_at_end = refl

pub pending_at_end : denial two (λ v. 0) (P 0 0 5 ∷ W 0 0 5 ∷ []) ≡ denied 22 5
unfolding ev U A L S R W P B K N volatile any_volatile first_line is of on locks unlocks latest letter_in by pending grip_after grip depth remembered waits words_of some uses_or_assigns unlocks_by holds_some after_unlock not_under late_lock unfinished denial_from denial
pending_at_end = refl

-- a thread still waiting
pub waiting_at_end : denial two (λ v. 0) (K 0 0 ∷ Y 0 0 ∷ []) ≡ denied 22 5
unfolding ev U A L S R W P B K N Y F C volatile any_volatile first_line is of on locks unlocks latest letter_in by pending grip_after grip depth remembered waits words_of some uses_or_assigns unlocks_by holds_some after_unlock not_under late_lock unfinished denial_from denial
waiting_at_end = refl
