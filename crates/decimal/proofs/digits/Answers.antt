use Rattle.std.proofs.Common.{◌≡◌, sym, ◌∙◌, ap, arith, ℕ, ◌+◌, ◌-◌, ◌*◌, min, get_or, drop}
use Rattle.decimal.specs.Decimal.{cap, digits_from}
use Rattle.decimal.proofs.DigitLaws.{digit_same, digits_end, digits_stop, digits_on}
use Rattle.decimal.proofs.digits.Goals as goal

pub returns-then-not-is_ascii_digit : goal.returns-then-not-is_ascii_digit
returns-then-not-is_ascii_digit c =
    let l = c.loop-b in
    let f = c.args.f.now in
    digits_stop l.n l.b-index f (omega arith) (sym (digit_same (get_or f l.b-index 0)) ∙ sym c.is_ascii_digit.ensures.value ∙ c.if-not-is_ascii_digit.true) ∙ sym l.invariant.same

pub loop-b-preserved : goal.loop-b-preserved
loop-b-preserved c =
    let l = c.loop-b in
    let f = c.args.f.now in
    let e : c.push_digit-n.result ≡ min cap (l.n * 10 + (get_or f l.b-index 0 - 48)) = omega arith in
    let on = digits_on l.n l.b-index f (omega arith) (sym (digit_same (get_or f l.b-index 0)) ∙ sym c.is_ascii_digit.ensures.value ∙ c.if-not-is_ascii_digit.false) in
    record { capped = omega arith; same = l.invariant.same ∙ on ∙ ap (λ (m : ℕ). digits_from m (drop (l.b-index + 1) f)) (sym e) }

pub returns : goal.returns
returns c = digits_end c.loop-b.n c.loop-b.b-index c.args.f.now (omega arith) (omega arith) ∙ sym c.loop-b.invariant.same
