use mathlib.Core.Path.{◌≡◌, sym, ap, ◌∙◌}
use mathlib.Core.List.{[]}
use borrow.Author.Tests.{eq-eqb, ne_eqb, lt-ltb, le-ltb}
use lib.ListN.{length, get_or}
use Rattle.lines.specs.Lines.{split_on, letter}
use Prim.Native.Nat.{◌<◌, ◌≤◌}
use native.Mathlib.Omega.{arith}
use Rattle.trace.specs.Trace.{volatiles_of}
use Rattle.trace.proofs.read_volatiles.Goals as goal

pub returns-then-read_letter-ne86 : goal.returns-then-read_letter-ne86
unfolding volatiles_of
returns-then-read_letter-ne86 c =
    let fs = split_on 32 c.args.s.now in
    rw (ne_eqb (letter (get_or fs 0 [])) 86 (λ e. c.if-read_letter-ne86.true (c.read_letter.ensures ∙ ap letter c.field.ensures ∙ e)))

pub returns-then-count_fields-lt2 : goal.returns-then-count_fields-lt2
unfolding volatiles_of
returns-then-count_fields-lt2 c =
    let fs = split_on 32 c.args.s.now in
    let k : letter (get_or fs 0 []) ≡ 86 = sym (c.read_letter.ensures ∙ ap letter c.field.ensures) ∙ c.if-read_letter-ne86.false in
    let n : length fs ≤ 1 = omega (arith, c.count_fields.ensures, c.if-count_fields-lt2.true) in
    rw (eq-eqb _ _ k, le-ltb _ _ n)

pub returns : goal.returns
unfolding volatiles_of
returns c =
    let fs = split_on 32 c.args.s.now in
    let k : letter (get_or fs 0 []) ≡ 86 = sym (c.read_letter.ensures ∙ ap letter c.field.ensures) ∙ c.if-read_letter-ne86.false in
    let n : 1 < length fs = omega (arith, c.count_fields.ensures, c.if-count_fields-lt2.false) in
    rw (eq-eqb _ _ k, lt-ltb _ _ n) c.read_flags.ensures
