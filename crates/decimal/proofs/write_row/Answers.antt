use Rattle.std.proofs.Common.{arith}
use Rattle.decimal.proofs.RowLaws.{row_start, row_step}
use Rattle.decimal.proofs.write_row.Goals as goal

pub loop-n-init : goal.loop-n-init
loop-n-init c = row_start c.args.ns.now c.args.out.now (omega arith)

pub loop-n-preserved : goal.loop-n-preserved
loop-n-preserved c =
    let w = c.write_number-a in
    row_step _ _ _ _ _ c.loop-n.invariant (omega arith) w.new.out w.result w.ensures
