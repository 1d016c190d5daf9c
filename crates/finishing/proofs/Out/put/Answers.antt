-- `finishing::Out::put` meets its contract. Assumes nothing.
use borrow.Author.Rules.{rules}
use borrow.Author.Tests.{lt-ltb, le-ltb}
use Prim.Native.Nat.{◌+◌}
use mathlib.Core.Path.{◌≡◌, refl, ap, ◌∙◌}
use mathlib.Core.Bool.{false, ◌&&◌}
use lib.Dec.{ltb}
use lib.ListN.{length, set}
use mir.ValLaws.{to_z-of_z}
use Rattle.rules.specs.Limits.{value_width}
use Rattle.finishing.specs.Computed.Parts.{filled}
use Rattle.finishing.proofs.Adding.{one_put, none_put}
use Rattle.finishing.proofs.Out.put.Goals as goal
use Rattle.finishing.proofs.Out.put.Goals.{else-n-self-via-then-n-self+else-n-self-2, else-n-self-via-else-n-self}

pub returns-then-n-self-2 : goal.returns-then-n-self-2
returns-then-n-self-2 c =
    let e = c.args.e in
    let o = c.args.self.now in
    record {
      puts = ap (λ x. filled (o.count + 1) (set o.whats.now o.count e.what) (set o.values.now o.count x)) (to_z-of_z value_width e.value (search rules)) ∙ one_put e o.count o.whats.now o.values.now c.if-n-self.true c.if-n-self-2.true;
      same_whats = refl;
      same_values = refl;
    }

pub returns-else-n-self : goal.returns-else-n-self
returns-else-n-self c =
    let o = c.args.self.now in
    let q : (ltb o.count (length o.whats.now) && ltb o.count (length o.values.now)) ≡ false =
    elim c.else-n-self.branch [
      | else-n-self-via-then-n-self+else-n-self-2 w ↦ rw (lt-ltb o.count (length o.whats.now) w.if-n-self.true, le-ltb o.count (length o.values.now) w.if-n-self-2.false)
      | else-n-self-via-else-n-self w ↦ rw (le-ltb o.count (length o.whats.now) w.if-n-self.false)
    ] in
    record { puts = none_put c.args.e o.count o.whats.now o.values.now q; same_whats = refl; same_values = refl }
