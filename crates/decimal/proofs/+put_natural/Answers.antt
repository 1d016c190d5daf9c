use Rattle.std.proofs.Common.{arith, length, ap, sym, refl, ◌∙◌, ◌/◌, ◌<◌, ◌%◌, ◌+◌, [], List, ℕ, set}
use Rattle.decimal.proofs.TextLaws.{text_small, text_large, text_length_large, over_next}
use Rattle.decimal.specs.Text.{natural_text, over}
use Rattle.decimal.proofs.+put_natural.Goals as goal

pub bounds-out-0 : goal.bounds-out-0
bounds-out-0 t c = omega (arith, ap length (text_small c.args.n c.if-n-lt10.true))

pub returns-then-n-lt10 : goal.returns-then-n-lt10
returns-then-n-lt10 t c =
    let e = text_small c.args.n c.if-n-lt10.true in
    rw (e) (refl, over_next [] c.args.out.now (48 + c.args.n) (bounds-out-0 t c))

pub put_natural-k-requires : goal.put_natural-k-requires
put_natural-k-requires t c = (omega arith, omega (arith, text_length_large c.args.n c.if-n-lt10.false c.ranges.n.fits))

pub bounds-out-k : goal.bounds-out-k
bounds-out-k t c = omega (arith, text_length_large c.args.n c.if-n-lt10.false c.ranges.n.fits, c.put_natural-k.auto.out)

pub returns : goal.returns
returns t c =
    let a = c.args in
    let k = c.put_natural-k in
    let l = text_large a.n c.if-n-lt10.false c.ranges.n.fits in
    let free : length (natural_text (a.n / 10)) < length a.out.now = omega (arith, text_length_large a.n c.if-n-lt10.false c.ranges.n.fits) in (
      omega (arith, text_length_large a.n c.if-n-lt10.false c.ranges.n.fits, k.ensures.0),
      ap (λ (i : ℕ). set k.new.out i (48 + a.n % 10)) k.ensures.0 ∙ ap (λ (p : List ℕ). set p (length (natural_text (a.n / 10))) (48 + a.n % 10)) k.ensures.1
          ∙ over_next (natural_text (a.n / 10)) a.out.now (48 + a.n % 10) free ∙ ap (λ (u : List ℕ). over u a.out.now) (sym l),
    )
