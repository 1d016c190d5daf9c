use Rattle.std.proofs.Common.{arith, ◌<◌, ◌≡◌, inl, inr, sym, ◌∙◌, length}
use borrow.Author.Tests.{eqb-true, eqb-false}
use Rattle.decimal.proofs.NumberLaws.{natural_empty, natural_zero, natural_plain}
use Rattle.decimal.proofs.read_natural.Goals as goal
use Rattle.decimal.proofs.read_natural.Goals.{else-f-eq48-via-then-f-eq48+else-f-gt1, else-f-eq48-via-else-f-eq48}

pub returns-then-is_empty : goal.returns-then-is_empty
returns-then-is_empty c = natural_empty c.args.f.now (eqb-true _ _ (sym c.is_empty.ensures ∙ c.if-is_empty.true))

pub returns-then-f-gt1 : goal.returns-then-f-gt1
returns-then-f-gt1 c = let h : 1 < length c.args.f.now = omega arith in natural_zero c.args.f.now c.if-f-eq48.true h

pub returns : goal.returns
returns c =
    let f = c.args.f.now in
    let h : length f ≡ 0 → ⊥ = eqb-false _ _ (sym c.is_empty.ensures ∙ c.if-is_empty.false) in
    c.digits.ensures ∙ elim c.else-f-eq48.branch [
      | else-f-eq48-via-then-f-eq48+else-f-gt1 w ↦ natural_plain f h (inl (w.if-f-eq48.true, omega arith))
      | else-f-eq48-via-else-f-eq48 w ↦ natural_plain f h (inr w.if-f-eq48.false)
    ]
