-- `finishing::Rows::depth_of` meets its contract. Assumes nothing.
use Prim.Native.Nat.{◌≤◌}
use mathlib.Core.Path.{◌≡◌}
use lib.ListN.{take}
use Rattle.finishing.specs.Computed.Parts.{depth_in}
use Rattle.finishing.proofs.Rows.depth_of.Given as goal

abbrev pub invariant-loop-what : goal.invariant-loop-what
invariant-loop-what l = (l.depth ≡ depth_in l.key.thread l.key.place (take l.what-index l.what-items)) × (l.depth ≤ l.what-index)
