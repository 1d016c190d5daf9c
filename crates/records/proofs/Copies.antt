-- A row in front of a lent one that has places for all of it.
use Prim.Native.Nat.{◌≤◌}
use mathlib.Core.Path.{◌≡◌, ap}
use mathlib.Core.List.{List}
use lib.ListN.{length}
use lib.Seq.{take_all}
use Rattle.decimal.specs.Text.{over}
use Rattle.records.specs.Records.{onto}

pub onto_all : {A : Type 0} (row lent : List A) → length row ≤ length lent → onto row lent ≡ over row lent
onto_all row lent b = ap (λ (l : List _). over l lent) (take_all (length lent) row b)
