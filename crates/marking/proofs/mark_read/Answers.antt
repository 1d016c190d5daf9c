-- `marking::mark_read` meets its contract: the refusal is the first in line order. Assumes nothing.
use Rattle.std.proofs.lemmas.Result.{err_from_is_err_and}
use Rattle.marking.proofs.ReadRows.{rows_refused, stop_refused, rows_accepted}
use Rattle.marking.proofs.mark_read.Goals as goal

pub returns-in_err-memories : goal.returns-in_err-memories
returns-in_err-memories c =
    let a = c.args in
    let p = err_from_is_err_and c.from_residual.result c.from_residual.ensures.1 in
    rw (p.1, p.2) (rows_refused a.h a.guards a.read a.what.now a.value.now c.in_err-memories.ensures)

pub returns-in_err-read : goal.returns-in_err-read
returns-in_err-read c =
    let a = c.args in
    let p = err_from_is_err_and c.from_residual-in_err-read.result c.from_residual-in_err-read.ensures.1 in
    rw (p.1, p.2) (stop_refused a.h a.guards a.read a.what.now a.value.now c.in_ok-memories.ensures c.in_err-read.was)

pub returns : goal.returns
returns c =
    let a = c.args in
    rows_accepted a.h a.guards a.read a.what.now a.value.now c.in_ok-memories.ensures c.in_ok-read.was
