use Rattle.std.proofs.Common.{arith, ◌≡◌, sym, ◌∙◌, drop, Some}
use Rattle.decimal.specs.Computed.Forward.{scan}
use Rattle.decimal.proofs.NumberLaws.{until_bad, until_empty, until_zero, until_plain, until_one}
use Rattle.decimal.proofs.long_number.Goals as goal
use Rattle.decimal.proofs.long_number.Goals.{else-s-at-eq48-via-then-s-at-eq48+else-at-r, else-s-at-eq48-via-else-s-at-eq48}

pub returns-in_err-r : goal.returns-in_err-r
returns-in_err-r c =
    let a = c.args in
    c.from_residual.ensures ∙ until_bad a.d a.at a.s.now (sym c.scan_digits.ensures ∙ c.in_err-r.was)

pub returns-then-r-at : goal.returns-then-r-at
returns-then-r-at c =
    let a = c.args in
    until_empty a.d a.at a.s.now c.in_ok-r.r (sym c.scan_digits.ensures ∙ c.in_ok-r.was) c.if-r-at.true

pub returns-then-at-r : goal.returns-then-at-r
returns-then-at-r c =
    let a = c.args in
    until_zero a.d a.at a.s.now c.in_ok-r.r (sym c.scan_digits.ensures ∙ c.in_ok-r.was) c.if-s-at-eq48.true c.if-at-r.true

pub returns : goal.returns
returns c =
    let a = c.args in
    let r = c.in_ok-r.r in
    let is : scan a.d 0 a.at (drop a.at a.s.now) ≡ Some r = sym c.scan_digits.ensures ∙ c.in_ok-r.was in
    sym is ∙ elim c.else-s-at-eq48.branch [
      | else-s-at-eq48-via-then-s-at-eq48+else-at-r w ↦ until_one a.d a.at a.s.now r is (omega arith) (omega arith)
      | else-s-at-eq48-via-else-s-at-eq48 w ↦ until_plain a.d a.at a.s.now r is w.if-s-at-eq48.false (omega arith)
    ]
