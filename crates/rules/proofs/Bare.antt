-- The line of an event plays no part in the rules.
use Prim.Native.Nat.{ℕ}
use mathlib.Core.Path.{◌≡◌, refl}
use mathlib.Core.Bool.{cond}
use mathlib.Core.List.{List, [], ◌∷◌}
use Rattle.rules.specs.declared.Event.{Event}
use Rattle.rules.specs.declared.Counts.{Counts}
use Rattle.rules.specs.Events.{is, locks, unlocks, on_lock}
use Rattle.rules.specs.Limits.{declared}
use Rattle.rules.specs.Rules.{Words, no_partner, lock_taken, not_held, pending_bars, not_fresh, not_stored, read_before_write, not_written, not_usable, differs, eight_already, dead_read, wrong_neighbour, use_barred, write_barred, volatile_order, prescient_volatile, of_waiting, not_notified, breaks, first_broken, judge}

-- the event in another line
abbrev pub in_line : ℕ → Event → Event
in_line n e = record { thread = e.thread; line = n; kind = e.kind }

module _ (h : Counts) (w : Words) (n : ℕ) (e : Event) where
  breaks_bare : (k : ℕ) → breaks k h w (in_line n e) ≡ breaks k h w e
  unfolding breaks no_partner lock_taken not_held pending_bars not_fresh not_stored read_before_write not_written not_usable differs eight_already dead_read wrong_neighbour use_barred write_barred volatile_order prescient_volatile of_waiting not_notified locks unlocks is
  breaks_bare k = refl

  first_bare : (ks : List ℕ) → first_broken ks h w (in_line n e) ≡ first_broken ks h w e
  unfolding first_broken
  first_bare [] = refl
  first_bare (k ∷ ks) = λ i. cond (breaks_bare k i) k (first_bare ks i)

  pub judge_bare : judge h w (in_line n e) ≡ judge h w e
  unfolding judge
  judge_bare = first_bare _

  pub declared_bare : declared h (in_line n e) ≡ declared h e
  unfolding declared on_lock is
  declared_bare = refl
