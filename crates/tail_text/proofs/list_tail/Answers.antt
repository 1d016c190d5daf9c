-- `tail_text::list_tail` meets its contract: rows and output have room for every tail. Assumes nothing.
use Prim.Native.Nat.{ℕ}
use native.Mathlib.Omega.{arith}
use lib.IntN.{pos}
use lib.ListN.{length-replicate}
use Rattle.rules.specs.Limits.{limits_of}
use Rattle.rules.proofs.Bounds.{up_to_full}
use Rattle.tail_text.proofs.TailLaws.{refused_text, given_room, given_text}
use Rattle.tail_text.proofs.list_tail.Goals as goal

pub returns-in-Err : goal.returns-in-Err
returns-in-Err c =
    let a = c.args in
    refused_text (limits_of a.course) (up_to_full a.course) a.s.now (length-replicate {A = ℕ} 2256 0) (length-replicate 2256 (pos 0)) a.out.now (omega arith) c.in-Err.ensures (rw c.from.ensures at c.write_refused.ensures)

pub returns-in-Ok : goal.returns-in-Ok
returns-in-Ok c =
    let a = c.args in
    given_text (limits_of a.course) (up_to_full a.course) a.s.now (length-replicate {A = ℕ} 2256 0) (length-replicate 2256 (pos 0)) a.out.now (omega arith) c.in-Ok.ensures c.write_records.ensures

pub write_records-requires : goal.write_records-requires
write_records-requires c =
    let a = c.args in
    given_room (limits_of a.course) (up_to_full a.course) a.s.now (length-replicate {A = ℕ} 2256 0) (length-replicate 2256 (pos 0)) a.out.now (omega arith) c.in-Ok.ensures
