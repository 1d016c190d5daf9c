use Rattle.std.proofs.Common.{◌<◌, sym, ap, ◌∙◌, arith, length, Result}
use lib.IntN.{ℤ}
use Rattle.rules.specs.Limits.{value_width}
use Rattle.decimal.specs.declared.NotValue.{NotValue}
use Rattle.events.specs.Events.{right, on_integer, last, value_end}
use Rattle.events.specs.Computed.Lines.{placed}
use Rattle.events.proofs.LineLaws.{plain_line, minus_line, stage_out}
use Rattle.events.proofs.value_end.Goals as goal

pub returns-then-s-line : goal.returns-then-s-line
returns-then-s-line c =
    let a = c.args in
    stage_out (last (value_end value_width a.line.letter a.line.thread a.line.place)) a.s.now a.line.next c.if-s-line.true

pub returns-in_err-r : goal.returns-in_err-r
returns-in_err-r c =
    let a = c.args in
    let h : a.line.next < length a.s.now = omega arith in
    let l = minus_line a.line.letter a.line.thread a.line.place a.line.next a.s.now h c.if-s-line-eq45.true in
    rw (l, sym c.number_until.ensures ∙ c.in_err-r.was) c.from_residual.ensures

pub returns-then-s-line-eq45 : goal.returns-then-s-line-eq45
returns-then-s-line-eq45 c =
    let a = c.args in
    let h : a.line.next < length a.s.now = omega arith in
    let l = minus_line a.line.letter a.line.thread a.line.place a.line.next a.s.now h c.if-s-line-eq45.true in
    rw (l, sym c.number_until.ensures ∙ c.in_ok-r.was)
    (c.with_value.ensures ∙ ap (λ (i : Result ℤ NotValue). placed c.in_ok-r.r.next (on_integer i (λ z. right a.line.letter a.line.thread a.line.place z))) c.negative.ensures)

pub returns-in_err-r-2 : goal.returns-in_err-r-2
returns-in_err-r-2 c =
    let a = c.args in
    let h : a.line.next < length a.s.now = omega arith in
    let l = plain_line a.line.letter a.line.thread a.line.place a.line.next a.s.now h c.if-s-line-eq45.false in
    rw (l, sym c.number_until-2.ensures ∙ c.in_err-r-2.was) c.from_residual-in_err-r-2.ensures

pub returns : goal.returns
returns c =
    let a = c.args in
    let h : a.line.next < length a.s.now = omega arith in
    let l = plain_line a.line.letter a.line.thread a.line.place a.line.next a.s.now h c.if-s-line-eq45.false in
    rw (l, sym c.number_until-2.ensures ∙ c.in_ok-r-2.was)
    (c.with_value-2.ensures ∙ ap (λ (i : Result ℤ NotValue). placed c.in_ok-r-2.r.next (on_integer i (λ z. right a.line.letter a.line.thread a.line.place z))) c.positive.ensures)
