-- What marking hands back of an accepted trace: its head, guards and memories, and the records of its events at the front of the rows.
use Prim.Native.Nat.{ℕ, ◌≤◌}
use native.Mathlib.Omega.{arith}
use mathlib.Core.Path.{◌≡◌, sym, ap, ◌∙◌}
use mathlib.Core.List.{List, map}
use lib.IntN.{ℤ}
use lib.ListN.{length, take, drop, length-map, length-append}
use lib.Seq.{take_at}
use Rattle.rules.specs.declared.Event.{Event}
use Rattle.rules.specs.declared.Refusal.{Refusal}
use Rattle.std.specs.Prelude.{Result, Ok}
use Rattle.rules.specs.Limits.{Limits, UpToFull}
use Rattle.rules.specs.Rules.{Marked, accepted, answered}
use Rattle.decimal.specs.Text.{over}
use Rattle.trace.specs.Trace.{trace_of, head_in, guards_in}
use Rattle.records.specs.Records.{packed, value_in}
use Rattle.marking.specs.declared.Marking.{Marking}
use Rattle.marking.specs.Marking.{marked_of, events_in, read_in, accepted_of, marking_of, Marks}
use Rattle.marking.proofs.Whole.{read_is}

-- by limits up to the full ones
module _ (m : Limits) (u : UpToFull m) where
  module _ (s whats : List ℕ) (values : List ℤ) (marking : Marking) (whats' : List ℕ) (values' : List ℤ) (k : Marks m s whats values (Ok marking) whats' values') where
    pub is_accepted : marked_of m s ≡ accepted
    is_accepted = sym k.says

    pub marking_is : marking ≡ accepted_of m s
    unfolding marking_of
    marking_is = let e : ◌≡◌ {A = Result Marking Refusal} (Ok marking) (Ok (accepted_of m s)) = k.gives ∙ ap (λ (x : Marked). answered x (accepted_of m s)) is_accepted in cc

    pub head_is : marking.head ≡ (head_in (trace_of m s))
    unfolding accepted_of
    head_is = ap (λ (x : Marking). x.head) marking_is

    pub guards_are : marking.guards ≡ (guards_in (trace_of m s))
    unfolding accepted_of
    guards_are = ap (λ (x : Marking). x.guards) marking_is

    pub count_is : marking.events ≡ length (events_in m s)
    unfolding accepted_of
    count_is = ap (λ (x : Marking). x.events) marking_is

    -- a row with the records of all events at its front
    module _ {X : Type 0} (f : Event → X) (row row' : List X) (q : row' ≡ over (map f (read_in m s)) row) where
      laid : row' ≡ over (map f (events_in m s)) row
      laid = q ∙ ap (λ (es : List Event). over (map f es) row) (read_is m u s is_accepted)

      as_many : length (map f (events_in m s)) ≡ marking.events
      as_many = length-map (events_in m s) f ∙ sym count_is

      front : take marking.events row' ≡ map f (events_in m s)
      front = ap (take marking.events) laid ∙ take_at (map f (events_in m s)) (drop (length (map f (events_in m s))) row) marking.events as_many

      front_low : marking.events ≤ length row'
      front_low =
          let n = ap length laid ∙ length-append (map f (events_in m s)) (drop (length (map f (events_in m s))) row) in
          omega (arith, n, as_many)

    -- the rows hold so many
    pub rows_hold : (marking.events ≤ length whats') × (marking.events ≤ length values')
    rows_hold = (front_low packed whats whats' k.keeps, front_low value_in values values' k.beside)

    -- and at their front the records
    pub front_whats : take marking.events whats' ≡ map packed (events_in m s)
    front_whats = front packed whats whats' k.keeps

    pub front_values : take marking.events values' ≡ map value_in (events_in m s)
    front_values = front value_in values values' k.beside
