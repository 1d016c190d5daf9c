-- `lines::space_from` meets its contract.
use Rattle.std.proofs.Common.{arith, drop}
use lib.ListN.{length-drop}
use Rattle.lines.proofs.FieldLaws.{before_le}
use Rattle.lines.proofs.StdLaws.{before_rest}
use Rattle.lines.proofs.space_from.Goals as goal

pub overflow_add-result : goal.overflow_add-result
overflow_add-result c =
    let s = c.args.s.now in
    let b = before_rest 32 c.args.at c.min.result s c.min.ensures in
    record { fits = omega (arith, b, c.find.ensures, before_le 32 (drop c.args.at s), length-drop c.args.at s, c.well_formed) }

pub returns : goal.returns
returns c =
    let s = c.args.s.now in
    omega (arith, before_rest 32 c.args.at c.min.result s c.min.ensures, c.find.ensures)
