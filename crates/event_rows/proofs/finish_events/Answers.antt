-- `event_rows::finish_events` meets its contract: all of the tail that `finishing::make_tail` leaves in the rows, or nothing.
use Prim.Native.Nat.{ℕ}
use native.Mathlib.Omega.{arith}
use lib.IntN.{pos}
use lib.ListN.{length-replicate}
use Rattle.std.proofs.lemmas.Result.{err_from_is_err_and}
use Rattle.rules.specs.Limits.{limits_of}
use Rattle.rules.proofs.Bounds.{up_to_full}
use Rattle.event_rows.proofs.FillLaws.{front_lines}
use Rattle.event_rows.proofs.TailLaws.{tail_low, gives_none, gives_short, gives_all}
use Rattle.event_rows.proofs.finish_events.Goals as goal

pub returns-in_err-tail : goal.returns-in_err-tail
returns-in_err-tail c =
    let a = c.args in
    let p = err_from_is_err_and c.from_residual.result c.from_residual.ensures.1 in
    rw (p.1, p.2) (gives_none (limits_of a.course) (up_to_full a.course) a.bytes.now a.records.now _ _ (length-replicate {A = ℕ} 2256 0) (length-replicate 2256 (pos 0)) _ _ _ c.in_err-tail.ensures)

pub returns-then-records-n : goal.returns-then-records-n
returns-then-records-n c =
    let a = c.args in
    gives_short (limits_of a.course) (up_to_full a.course) a.bytes.now a.records.now _ _ (length-replicate {A = ℕ} 2256 0) (length-replicate 2256 (pos 0)) _ _ _ c.in_ok-tail.ensures c.if-records-n.true

pub fill_lines-requires-clause-line_low : goal.fill_lines-requires-clause-line_low
fill_lines-requires-clause-line_low c =
    let a = c.args in
    (tail_low (limits_of a.course) (up_to_full a.course) a.bytes.now a.records.now _ _ (length-replicate {A = ℕ} 2256 0) (length-replicate 2256 (pos 0)) _ _ _ c.in_ok-tail.ensures).0

pub returns : goal.returns
returns c =
    let a = c.args in
    let t = c.make_tail in
    let x = length-replicate {A = ℕ} 2256 0 in
    let y = length-replicate 2256 (pos 0) in
    let low = (tail_low (limits_of a.course) (up_to_full a.course) a.bytes.now a.records.now _ _ x y _ _ _ c.in_ok-tail.ensures).1 in
    gives_all (limits_of a.course) (up_to_full a.course) a.bytes.now a.records.now _ _ x y _ _ _ c.in_ok-tail.ensures c.if-records-n.false _
    (front_lines c.in_ok-tail.tail.line t.new.whats t.new.values a.records.now _ _ c.if-records-n.false (omega arith) (omega arith) c.fill_lines.ensures)
