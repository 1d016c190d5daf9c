-- `trace::last_line` meets its contract: the last line, from behind the last byte 10 but the final one.
use mathlib.Core.Path.{◌≡◌, refl}
use Prim.Native.Nat.{◌-◌}
use native.Mathlib.Omega.{arith}
use borrow.Author.Tests.{eq-eqb, ne_eqb}
use lib.ListN.{length, get_or}
use Rattle.trace.specs.Trace.{last_line, last_number}
use Rattle.trace.proofs.TraceLaws.{last_none, last_le}
use Rattle.trace.proofs.last_line.Goals as goal

pub returns-then-s-eq0 : goal.returns-then-s-eq0
returns-then-s-eq0 c = last_none c.args.s.now c.if-s-eq0.true

pub returns-then-s-last-ne10 : goal.returns-then-s-last-ne10
unfolding last_line last_number
returns-then-s-last-ne10 c =
    let s = c.args.s.now in
    let l = c.last_end-at in
    rw (l.ensures, ne_eqb (get_or s (length s - 1) 0) 10 c.if-s-last-ne10.true)

pub slice_bounds-trailer_number-start : goal.slice_bounds-trailer_number-start
unfolding last_line
slice_bounds-trailer_number-start c = omega (arith, c.last_end-at.ensures, last_le c.args.s.now)

pub slice_bounds-trailer_number-count : goal.slice_bounds-trailer_number-count
unfolding last_line
slice_bounds-trailer_number-count c = omega (arith, c.last_end-at.ensures, last_le c.args.s.now)

pub returns : goal.returns
unfolding last_line last_number
returns c =
    let s = c.args.s.now in
    let l = c.last_end-at in
    let b : get_or s (length s - 1) 0 ≡ 10 = omega arith in
    rw (c.trailer_number-number.ensures, l.ensures, eq-eqb (get_or s (length s - 1) 0) 10 b) refl
