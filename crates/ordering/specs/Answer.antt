-- The answer about the order of a trace, and what the order list and the scratch hold after it.
use Rattle.std.specs.Prelude.{ℕ, ◌≡◌, Bool, true, false, cond, List, map, length, get_or, replicate, Some, None}
use Rattle.rules.specs.declared.Event.{Event}
use Rattle.rules.specs.declared.Counts.{Counts}
use Rattle.decimal.specs.Text.{over}
use Rattle.trace.specs.Trace.{Guards, no_locks}
use Rattle.sections.specs.Denials.{Denial, fit, denied}
use Rattle.sections.specs.Refusals.{denial}
use Rattle.sections.specs.Order.{order}
use Rattle.sections.specs.Entries.{entry_code}
use Rattle.ordering.specs.declared.Ordering.{Ordering}
use Rattle.ordering.specs.declared.Ordering.TheVariants.{Ordered, Unordered, NoOrder}

-- the case of a denial: an order with c sections, or the number and the line of the refusal
unfoldable pub answer_of : Denial → ℕ → Ordering
answer_of fit c = Ordered c
answer_of (denied number line) c = Unordered (record { number = number; line = line })

-- the lock that the G line names for V
unfoldable pub guard_of : List ℕ → ℕ → ℕ
guard_of locks v = get_or locks v 0

-- f of the locks where there are guards, else b
abbrev pub on_guards : {X : Type 0} → Guards → (List ℕ → X) → X → X
on_guards (Some locks) f b = f locks
on_guards None f b = b

-- the lock of each variable; 0 where there are no guards
abbrev pub locks_in : Guards → List ℕ
locks_in g = on_guards g (λ locks. locks) no_locks

-- Then, with guards, 20 and 21 event by event, 22 last; otherwise an order, with so many sections. With `G -` there is neither.
unfoldable pub answer_for : Counts → Guards → List Event → Ordering
answer_for h g events = on_guards g (λ locks. answer_of (denial h (guard_of locks) events) (length (order h events))) NoOrder

-- the entries of the order
unfoldable pub entries_for : Counts → List Event → List ℕ
entries_for h events = map entry_code (order h events)

abbrev pub ordered : Ordering → Bool
ordered (Ordered c) = true
ordered (Unordered refusal) = false
ordered NoOrder = false

-- What is given: the answer a, with the entries xs where it is an order.
pub record Given (a : Ordering) (xs list scratch : List ℕ) (r : Ordering) (list' scratch' : List ℕ) : Type 0 where
  pub answers : r ≡ a
  -- Places past the sections stay untouched; without an order the whole list does.
  pub lists : list' ≡ cond (ordered a) (over xs list) list
  -- After an order the lent scratch is all zeros; otherwise it is untouched.
  pub zeros : scratch' ≡ cond (ordered a) (replicate (length scratch) 0) scratch
