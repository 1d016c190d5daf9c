use Rattle.std.proofs.Common.{arith, ◌≡◌, ◌∙◌, ap, sym, ℕ, ◌+◌, get_or, Some, true}
use Rattle.decimal.specs.Decimal.{is_digit}
use Rattle.decimal.proofs.DigitLaws.{digit_same}
use Rattle.decimal.proofs.NumberLaws.{until_out, until_digit}
use Rattle.decimal.proofs.number_until.Goals as goal

pub returns-then-s-at : goal.returns-then-s-at
returns-then-s-at c = until_out c.args.d c.args.at c.args.s.now c.if-s-at.true

pub returns-then-b-d : goal.returns-then-b-d
returns-then-b-d c =
    let a = c.args in
    let is : is_digit (get_or a.s.now a.at 0) ≡ true = sym (digit_same (get_or a.s.now a.at 0)) ∙ sym c.is_ascii_digit.ensures.value ∙ c.if-is_ascii_digit.true in
    ap (λ (n : ℕ). Some (record { number = n; next = a.at + 1 + 1 })) c.from.ensures ∙ until_digit a.d a.at a.s.now (omega arith) c.if-s-e.true is c.if-b-d.true
