use mathlib.Core.Path.{ap₂}
use mathlib.Core.Bool.{Bool, not, ◌&&◌}
use lib.Dec.{leb}
use Rattle.rules.specs.declared.Counts.{Counts}
use Rattle.rules.specs.Limits.{allowed}
use Rattle.rules.proofs.is_allowed.Goals as goal

pub returns : goal.returns
unfolding allowed
returns c =
    let h = c.args.h in
    ap₂ (λ (b : Counts) (x : Bool). leb 1 h.threads && leb h.threads b.threads && leb 1 h.variables && leb h.variables b.variables && leb h.locks b.locks && not x) c.most_counts-most.ensures c.stray_volatile.ensures
