use Rattle.std.proofs.Common.{arith, length-set}
use Rattle.decimal.proofs.TextLaws.{signed_short, rest_length}
use Rattle.decimal.proofs.write_signed.Goals as goal

pub put_signed-requires : goal.put_signed-requires
put_signed-requires c = rw (rest_length, length-set) (omega (arith, signed_short c.args.is_negative c.args.n))
