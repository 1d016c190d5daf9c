-- `finishing::Out::put_unlocks` meets its contract. Assumes nothing.
use Prim.Native.Nat.{ℕ}
use native.Mathlib.Omega.{arith}
use mathlib.Core.Path.{◌≡◌, refl, ap}
use lib.IntN.{pos}
use lib.ListN.{replicate}
use Rattle.rules.specs.Events.{N}
use Rattle.finishing.specs.Computed.Parts.{entry_of}
use Rattle.finishing.proofs.Adding.{adds_none, adds_entry, adds_again, adds_same}
use Rattle.finishing.proofs.Out.put_unlocks.Goals as goal

pub loop-init : goal.loop-init
loop-init c = adds_none c.args.self.now

pub loop-preserved : goal.loop-preserved
loop-preserved c = adds_again c.loop.counter c.loop.invariant (adds_entry (entry_of N c.args.key.thread c.args.key.place) c.entry.ensures refl c.put.ensures)

pub returns : goal.returns
returns c =
    let a = c.args in
    let z : c.loop.counter ≡ a.depth = omega arith in
    adds_same (ap (λ (n : ℕ). replicate n (entry_of N a.key.thread a.key.place (pos 0))) z) c.loop.invariant
