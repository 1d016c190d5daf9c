-- The bytes that were read have one field more than spaces.
use Rattle.std.proofs.Common.{◌≡◌, ◌+◌, nat_eq}
use lib.ListN.{take}
use Rattle.std.specs.List.{count_by}
use Rattle.lines.proofs.count_fields.Given as goal

abbrev pub invariant-loop-b : goal.invariant-loop-b
invariant-loop-b l = l.n ≡ count_by (λ x. nat_eq x 32) (take l.b-index l.s) + 1
