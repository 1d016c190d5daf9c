use mathlib.Core.Path.{◌≡◌, sym, ap, ◌∙◌}
use mathlib.Core.List.{[]}
use borrow.Author.Tests.{eq-eqb, ne_eqb}
use lib.ListN.{length, get_or}
use Rattle.lines.specs.Lines.{split_on, letter}
use Rattle.decimal.specs.Decimal.{natural_of}
use Rattle.trace.specs.Trace.{trailer_number}
use Rattle.trace.proofs.trailer_number.Goals as goal

pub returns-then-count_fields-ne2 : goal.returns-then-count_fields-ne2
unfolding trailer_number
returns-then-count_fields-ne2 c =
    let fs = split_on 32 c.args.s.now in
    rw (ne_eqb (length fs) 2 (λ e. c.if-count_fields-ne2.true (c.count_fields.ensures ∙ e)))

pub returns-then-read_letter-ne90 : goal.returns-then-read_letter-ne90
unfolding trailer_number
returns-then-read_letter-ne90 c =
    let fs = split_on 32 c.args.s.now in
    let two : length fs ≡ 2 = sym c.count_fields.ensures ∙ c.if-count_fields-ne2.false in
    rw (eq-eqb _ _ two, ne_eqb (letter (get_or fs 0 [])) 90 (λ e. c.if-read_letter-ne90.true (c.read_letter.ensures ∙ ap letter c.field.ensures ∙ e)))

pub returns : goal.returns
unfolding trailer_number
returns c =
    let fs = split_on 32 c.args.s.now in
    let two : length fs ≡ 2 = sym c.count_fields.ensures ∙ c.if-count_fields-ne2.false in
    let k : letter (get_or fs 0 []) ≡ 90 = sym (c.read_letter.ensures ∙ ap letter c.field.ensures) ∙ c.if-read_letter-ne90.false in
    rw (eq-eqb _ _ two, eq-eqb _ _ k) (c.read_natural.ensures ∙ ap natural_of c.field-2.ensures)
