-- The order computed: document 01's listing, and its example of sections ordered by their first lock.
use Prim.Native.Nat.{ℕ}
use native.Mathlib.Decide.{ℕ_discrete, dec_lt}
use mathlib.Core.Path.{◌≡◌, refl}
use mathlib.Core.List.{List, [], ◌∷◌}
use Rattle.serial.specs.Events.{Use, Assign, Load, Store, Read, Write, Event, lock, unlock, idle, mem}
use Rattle.serial.specs.Sections.{push, current, without, next, sections}
use Rattle.serial.proofs.Counted.{grip, Holds, ever, holds?, look, holds_some?, counted}
use Rattle.serial.specs.Entry.{Entry}
use Rattle.serial.proofs.Trace.{order}

listing : List (Event ℕ)
listing =
    lock 0 0 0 ∷ mem Assign 0 0 5 ∷ mem Store 0 0 5 ∷ mem Write 0 0 5 ∷ unlock 0 0 0
    ∷ lock 0 1 0 ∷ mem Read 1 0 5 ∷ mem Load 1 0 5 ∷ mem Use 1 0 5 ∷ unlock 0 1 0 ∷ []

abbrev section : ℕ → ℕ → ℕ → Entry
section t a b = record { owner = t; first = a; last = b }

listing_order : order counted listing ≡ section 0 1 5 ∷ section 1 6 10 ∷ []
unfolding listing order sections next push current without ℕ_discrete dec_lt grip Holds ever holds? look holds_some?
listing_order = refl

-- thread 0 takes lock 0; thread 1 takes lock 1, assigns, stores, is written, unlocks; thread 0 takes lock 1 and uses the new value
crossed : List (Event ℕ)
crossed =
    lock 0 0 0 ∷ lock 0 1 1 ∷ mem Assign 1 0 7 ∷ mem Store 1 0 7 ∷ mem Write 1 0 7 ∷ unlock 0 1 1
    ∷ lock 0 0 1 ∷ mem Read 0 0 7 ∷ mem Load 0 0 7 ∷ mem Use 0 0 7 ∷ unlock 0 0 1 ∷ unlock 0 0 0 ∷ []

crossed_order : order counted crossed ≡ section 1 2 6 ∷ section 0 1 12 ∷ []
unfolding crossed order sections next push current without ℕ_discrete dec_lt grip Holds ever holds? look holds_some?
crossed_order = refl

-- thread 0 takes its lock twice and waits; thread 1 takes it, notifies and unlocks; thread 0 comes back, and unlocks twice
waited : List (Event ℕ)
waited = lock 0 0 0 ∷ lock 0 0 0 ∷ unlock 1 0 0 ∷ lock 0 1 0 ∷ idle 1 ∷ unlock 0 1 0 ∷ lock 1 0 0 ∷ unlock 0 0 0 ∷ unlock 0 0 0 ∷ []

waited_order : order counted waited ≡ section 0 1 3 ∷ section 1 4 6 ∷ section 0 7 9 ∷ []
unfolding waited order sections next push current without ℕ_discrete dec_lt grip Holds ever holds? look holds_some?
waited_order = refl
