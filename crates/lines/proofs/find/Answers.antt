-- `lines::find` meets its contract.
use native.Mathlib.Omega.{arith}
use Rattle.lines.proofs.FieldLaws.{before_here, before_on, before_end}
use Rattle.lines.proofs.find.Goals as goal

pub returns-then-s-i : goal.returns-then-s-i
returns-then-s-i c =
    let l = c.loop-i in
    omega (arith, before_here c.args.b l.i c.args.s.now (omega arith) c.if-s-i.true)

pub loop-i-preserved : goal.loop-i-preserved
loop-i-preserved c =
    let l = c.loop-i in
    omega (arith, before_on c.args.b l.i c.args.s.now (omega arith) c.if-s-i.false)

pub returns : goal.returns
returns c = omega (arith, before_end c.args.b c.loop-i.i c.args.s.now (omega arith))
