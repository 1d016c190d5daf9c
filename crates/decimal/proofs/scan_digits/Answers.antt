use Rattle.std.proofs.Common.{◌≡◌, sym, ◌∙◌, ap, arith, ℕ, ◌+◌, ◌-◌, ◌*◌, min, get_or, drop, true}
use Rattle.decimal.specs.Decimal.{cap, is_digit}
use Rattle.decimal.specs.Computed.Forward.{scan}
use Rattle.decimal.proofs.DigitLaws.{digit_same, digit_between}
use Rattle.decimal.proofs.ScanLaws.{scan_end, scan_here, scan_stop, scan_on}
use Rattle.decimal.proofs.scan_digits.Goals as goal

pub returns-then-b-d : goal.returns-then-b-d
returns-then-b-d c =
    let l = c.loop-i in
    let a = c.args in
    sym (l.invariant.same ∙ scan_here a.d l.n l.i a.s.now (omega arith) c.if-b-d.true (omega arith))

pub returns-then-not-is_ascii_digit : goal.returns-then-not-is_ascii_digit
returns-then-not-is_ascii_digit c =
    let l = c.loop-i in
    let a = c.args in
    let b = get_or a.s.now l.i 0 in
    sym (l.invariant.same ∙ scan_stop a.d l.n l.i a.s.now (omega arith) c.if-b-d.false (sym (digit_same b) ∙ sym c.is_ascii_digit.ensures.value ∙ c.if-not-is_ascii_digit.true))

pub loop-i-preserved : goal.loop-i-preserved
loop-i-preserved c =
    let l = c.loop-i in
    let a = c.args in
    let b = get_or a.s.now l.i 0 in
    let e : c.push_digit-n.result ≡ min cap (l.n * 10 + (b - 48)) = omega arith in
    let is : is_digit b ≡ true = sym (digit_same b) ∙ sym c.is_ascii_digit.ensures.value ∙ c.if-not-is_ascii_digit.false in
    let k = digit_between b is in
    let on = scan_on a.d l.n l.i a.s.now (omega arith) c.if-b-d.false k.0 k.1 in
    record { capped = omega arith; same = l.invariant.same ∙ on ∙ ap (λ (m : ℕ). scan a.d m (l.i + 1) (drop (l.i + 1) a.s.now)) (sym e) }

pub returns : goal.returns
returns c =
    let l = c.loop-i in
    let a = c.args in
    sym (l.invariant.same ∙ scan_end a.d l.n l.i a.s.now (omega arith))
