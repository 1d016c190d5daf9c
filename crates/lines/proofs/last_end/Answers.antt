-- `lines::last_end` meets its contract.
use Rattle.std.proofs.Common.{rules}
use Rattle.lines.proofs.StdLaws.{up_last}
use Rattle.lines.proofs.last_end.Goals as goal

pub returns : goal.returns
returns c =
    let s = c.args.s.now in
    up_last 10 c.map_or.result s c.rposition.result (search rules) (search rules)
