-- Laws of lines and positions.
use Prim.Native.Nat.{ℕ, zero, suc, ◌-◌, ◌≤◌, ◌<◌}
use native.Mathlib.Nat.{not-suc-le-zero}
use native.Mathlib.Omega.{arith}
use mathlib.Core.Path.{◌≡◌, refl, sym, ◌∙◌, subst}
use mathlib.Core.Bool.{Bool}
use mathlib.Core.List.{List, [], ◌∷◌, reverse, reverse_aux}
use mathlib.Core.Option.{none, some}
use lib.ListN.{length, take, drop, length-reverse}
use lib.Seq.{length-take-le, take-length}
use Rattle.rules.specs.declared.Event.{Event}
use Rattle.rules.specs.declared.Counts.{Counts}
use Rattle.rules.specs.Limits.{line_after}
use Rattle.rules.specs.Words.{locks_by}
use Rattle.rules.proofs.Bounds.{first_line_low}
use Rattle.serial.specs.Lists.{All}
use Rattle.sections.specs.Places.{position, nth, at_position, so_far, event_at, up_to, unlocks_by, passes, lock_at, unlock_at, holds_some, holding}
use Rattle.sections.specs.Order.{line_of}
use Rattle.sections.proofs.Valid.{Valid, before}
use Rattle.sections.proofs.Ordered.{all_turn}

-- ---- a position's line, and a line's position

pub position_line : (hd : Counts) (p : ℕ) → position hd (line_of hd p) ≡ p
unfolding position
position_line hd p = omega (arith, first_line_low hd)

pub position_before : (hd : Counts) (p : ℕ) → position hd (line_of hd p - 1) ≡ p - 1
unfolding position
position_before hd p = omega (arith, first_line_low hd)

pub position_after : (hd : Counts) (n : ℕ) → position hd (line_after hd n) ≡ suc n
unfolding position
position_after hd n = omega arith

pub position_last : (hd : Counts) (n : ℕ) → position hd (line_after hd n - 1) ≡ n
unfolding position
position_last hd n = omega (arith, first_line_low hd)

pub line_position : (hd : Counts) (n : ℕ) → 0 < position hd n → line_of hd (position hd n) ≡ n
unfolding position
line_position hd n h = omega arith

pub position_up : (hd : Counts) (m n : ℕ) → 0 < position hd n → m < n → position hd m < position hd n
unfolding position
position_up hd m n h k = omega arith

pub position_to : (hd : Counts) (m n : ℕ) → m ≤ n → position hd m ≤ position hd n
unfolding position
position_to hd m n k = omega arith

pub position_ahead : (hd : Counts) (m n : ℕ) → position hd m < position hd n → m < n
unfolding position
position_ahead hd m n k = omega arith

-- ---- the same by positions

-- at this position stands a K by thread t
unfoldable pub locks_at : ℕ → List Event → ℕ → Bool
locks_at t events p = passes (locks_by t) (at_position p events)

-- at this position stands an N by thread t
unfoldable pub unlocks_at : ℕ → List Event → ℕ → Bool
unlocks_at t events p = passes (unlocks_by t) (at_position p events)

-- thread t holds something after the first p events
unfoldable pub holds_then : Counts → ℕ → List Event → ℕ → Bool
holds_then h t events p = holds_some h t (so_far p events)

pub lock_line_law : (hd : Counts) (t : ℕ) (events : List Event) (n p : ℕ) → position hd n ≡ p → lock_at hd t events n ≡ locks_at t events p
unfolding lock_at locks_at event_at
lock_line_law hd t events n p q = rw q

pub unlock_line : (hd : Counts) (t : ℕ) (events : List Event) (n p : ℕ) → position hd n ≡ p → unlock_at hd t events n ≡ unlocks_at t events p
unfolding unlock_at unlocks_at event_at
unlock_line hd t events n p q = rw q

pub holding_line : (h : Counts) (t : ℕ) (events : List Event) (n p : ℕ) → position h n ≡ p → holding h t events n ≡ holds_then h t events p
unfolding holding holds_then up_to
holding_line h t events n p q = rw q

-- ---- the event at a position

-- the event that has n before it, below an accumulator
record Found (P : Event → Type 0) (l acc : List Event) (n : ℕ) : Type 0 where
  event : Event
  stands : nth n l ≡ some event
  more : reverse_aux (take (suc n) l) acc ≡ event ∷ reverse_aux (take n l) acc
  rest : drop n l ≡ event ∷ drop (suc n) l
  good : P event

found : (P : Event → Type 0) (l acc : List Event) (n : ℕ) → All P l → n < length l → Found P l acc n
unfolding nth
found P [] acc n a h = absurd (not-suc-le-zero h)
found P (e ∷ l) acc zero a h = record { event = e; stands = refl; more = refl; rest = refl; good = a.0 }
found P (e ∷ l) acc (suc n) a h =
    let r : Found P l (e ∷ acc) n = found P l (e ∷ acc) n a.1 (omega arith) in
    record { event = r.event; stands = r.stands; more = r.more; rest = r.rest; good = r.good }

pub record Here (P : Event → Type 0) (events : List Event) (n : ℕ) : Type 0 where
  pub event : Event
  pub stands : at_position (suc n) events ≡ some event
  pub more : so_far (suc n) events ≡ event ∷ so_far n events
  pub rest : drop n events ≡ event ∷ drop (suc n) events
  pub good : P event

-- position n + 1 of the trace
pub at_place : (P : Event → Type 0) (events : List Event) (n : ℕ) → All P events → n < length events → Here P events n
unfolding at_position so_far
at_place P events n a h = let r : Found P events [] n = found P events [] n a h in record { event = r.event; stands = r.stands; more = r.more; rest = r.rest; good = r.good }

nth_past : (n : ℕ) (l : List Event) → length l ≤ n → nth n l ≡ none
unfolding nth
nth_past n [] h = refl
nth_past zero (e ∷ l) h = absurd (omega arith)
nth_past (suc n) (e ∷ l) h = nth_past n l (omega arith)

pub nothing_past : (n : ℕ) (events : List Event) → length events ≤ n → at_position (suc n) events ≡ none
unfolding at_position
nothing_past n events h = nth_past n events h

pub so_far_all : (events : List Event) → so_far (length events) events ≡ reverse events
unfolding so_far
so_far_all events = rw (take-length events)

pub length_so_far : (n : ℕ) (events : List Event) → n ≤ length events → length (so_far n events) ≡ n
unfolding so_far
length_so_far n events h = length-reverse (take n events) ∙ length-take-le n events h

turn_drop : (n : ℕ) (l acc : List Event) → reverse_aux (drop n l) (reverse_aux (take n l) acc) ≡ reverse_aux l acc
turn_drop zero l acc = refl
turn_drop (suc n) [] acc = refl
turn_drop (suc n) (e ∷ l) acc = turn_drop n l (e ∷ acc)

pub the_rest : (n : ℕ) (events : List Event) → reverse_aux (drop n events) (so_far n events) ≡ reverse events
unfolding so_far
the_rest n events = turn_drop n events []

valid_left : (h : Counts) (rest es : List Event) → Valid h (reverse_aux rest es) → Valid h es
valid_left h [] es a = a
valid_left h (e ∷ rest) es a = before h e es (valid_left h rest (e ∷ es) a)

pub valid_so_far : (h : Counts) (n : ℕ) (events : List Event) → Valid h (reverse events) → Valid h (so_far n events)
valid_so_far h n events a = valid_left h (drop n events) (so_far n events) (subst (λ l. Valid h l) (sym (the_rest n events)) a)

all_take : (P : Event → Type 0) (n : ℕ) (l : List Event) → All P l → All P (take n l)
all_take P zero l a = tt
all_take P (suc n) [] a = tt
all_take P (suc n) (e ∷ l) a = (a.0, all_take P n l a.1)

pub all_so_far : (P : Event → Type 0) (n : ℕ) (events : List Event) → All P events → All P (so_far n events)
unfolding so_far
all_so_far P n events a = all_turn P (take n events) [] (all_take P n events a) tt

pub lock_signal : (t n : ℕ) (events : List Event) (e : Event) → at_position n events ≡ some e → locks_at t events n ≡ locks_by t e
unfolding locks_at
lock_signal t n events e q = rw q

pub unlock_signal : (t n : ℕ) (events : List Event) (e : Event) → at_position n events ≡ some e → unlocks_at t events n ≡ unlocks_by t e
unfolding unlocks_at
unlock_signal t n events e q = rw q

pub holds_more : (h : Counts) (t n : ℕ) (events : List Event) (es : List Event) → so_far n events ≡ es → holds_then h t events n ≡ holds_some h t es
unfolding holds_then
holds_more h t n events es q = rw q
