-- The first numbers lie over the output.
use Rattle.decimal.proofs.RowLaws.{RowAt}
use Rattle.decimal.proofs.write_row.Given as goal

abbrev pub invariant-loop-n : goal.invariant-loop-n
invariant-loop-n l = RowAt l.ns l.initial.out l.n-index l.a l.out
