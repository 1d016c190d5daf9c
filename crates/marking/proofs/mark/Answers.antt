-- `marking::mark` meets its contract: it reads the lines of the trace that it finds into the rows and marks these. Assumes nothing.
use mathlib.Core.Path.{sym}
use lib.Seq.{length-take-le}
use Rattle.std.proofs.lemmas.Result.{err_from_is_err_and}
use Rattle.trace.proofs.TraceLaws.{lies}
use Rattle.rules.specs.Limits.{limits_of}
use Rattle.rules.proofs.Bounds.{up_to_full}
use Rattle.marking.proofs.ReadRows.{marks_unfound, marks_found, reads_low}
use Rattle.marking.proofs.mark.Goals as goal

pub returns-in_err-t : goal.returns-in_err-t
returns-in_err-t c =
    let a = c.args in
    let p = err_from_is_err_and c.from_residual.result c.from_residual.ensures.1 in
    rw (p.1, p.2) (marks_unfound (limits_of a.course) (up_to_full a.course) a.bytes.now a.what.now a.value.now c.in_err-t.ensures)

pub slice_bounds-read_lines-end : goal.slice_bounds-read_lines-end
slice_bounds-read_lines-end c =
    let s = c.args.bytes.now in
    sym (length-take-le _ s (lies (limits_of c.args.course) s c.in_ok-t.t (sym c.in_ok-t.ensures)).end)

pub mark_read-requires : goal.mark_read-requires
mark_read-requires c = reads_low _ _ _ _ _ _ _ _ c.read_lines-read.ensures

pub returns : goal.returns
returns c =
    let a = c.args in
    let r = c.read_lines-read in
    marks_found (limits_of a.course) (up_to_full a.course) a.bytes.now c.in_ok-t.t c.in_ok-t.ensures a.what.now r.new.what a.value.now r.new.value r.result c.mark_read.result r.ensures c.mark_read.ensures
