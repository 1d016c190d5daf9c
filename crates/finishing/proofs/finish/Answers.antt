-- `finishing::finish` meets its contract. Assumes nothing.
use Prim.Native.Nat.{ℕ}
use native.Mathlib.Omega.{arith}
use lib.IntN.{pos}
use lib.ListN.{length-replicate}
use Rattle.std.proofs.lemmas.Result.{err_from_is_err_and}
use Rattle.rules.specs.Limits.{limits_of}
use Rattle.rules.proofs.Bounds.{up_to_full}
use Rattle.finishing.proofs.Answers.{still_refused, too_few, copied}
use Rattle.finishing.proofs.finish.Goals as goal

pub returns-in_err-tail : goal.returns-in_err-tail
returns-in_err-tail c =
    let a = c.args in
    let p = err_from_is_err_and c.from_residual.result c.from_residual.ensures.1 in
    rw (p.1, p.2) (still_refused (limits_of a.course) (up_to_full a.course) a.bytes.now (length-replicate {A = ℕ} 2256 0) (length-replicate 2256 (pos 0)) c.in_err-tail.ensures a.whats.now a.values.now)

pub returns-then-whats-n : goal.returns-then-whats-n
returns-then-whats-n c =
    let a = c.args in
    too_few (limits_of a.course) (up_to_full a.course) a.bytes.now (length-replicate {A = ℕ} 2256 0) (length-replicate 2256 (pos 0)) c.in_ok-tail.ensures a.whats.now a.values.now (grind arith)

pub returns : goal.returns
returns c =
    let a = c.args in
    rw (c.copy_row.ensures, c.copy_row-2.ensures) (copied (limits_of a.course) (up_to_full a.course) a.bytes.now (length-replicate {A = ℕ} 2256 0) (length-replicate 2256 (pos 0)) c.in_ok-tail.ensures a.whats.now a.values.now (grind arith) (grind arith))
