use mathlib.Core.Path.{◌≡◌, sym, ap, ◌∙◌}
use mathlib.Core.List.{[]}
use borrow.Author.Tests.{eq-eqb, ne_eqb}
use lib.ListN.{length, get_or}
use Rattle.lines.specs.Lines.{split_on, letter}
use Rattle.lines.proofs.FieldLaws.{split_some}
use Prim.Native.Nat.{◌+◌}
use native.Mathlib.Omega.{arith}
use Rattle.trace.specs.Trace.{guards_of, lock_line}
use Rattle.trace.proofs.read_guards.Goals as goal

pub returns-then-read_letter-ne71 : goal.returns-then-read_letter-ne71
unfolding guards_of
returns-then-read_letter-ne71 c =
    let fs = split_on 32 c.args.s.now in
    rw (ne_eqb (letter (get_or fs 0 [])) 71 (λ e. c.if-read_letter-ne71.true (c.read_letter.ensures ∙ ap letter c.field.ensures ∙ e)))

pub returns-then-is_dash : goal.returns-then-is_dash
unfolding guards_of
returns-then-is_dash c =
    let fs = split_on 32 c.args.s.now in
    let k : letter (get_or fs 0 []) ≡ 71 = sym (c.read_letter.ensures ∙ ap letter c.field.ensures) ∙ c.if-read_letter-ne71.false in
    rw (eq-eqb _ _ k, sym c.is_dash.ensures ∙ c.if-is_dash.true)

pub overflow_sub-count_fields : goal.overflow_sub-count_fields
overflow_sub-count_fields c = omega (arith, c.count_fields.ensures, ap length (split_some 32 c.args.s.now).2)

pub returns-then-count_fields-h : goal.returns-then-count_fields-h
unfolding guards_of
returns-then-count_fields-h c =
    let fs = split_on 32 c.args.s.now in
    let k : letter (get_or fs 0 []) ≡ 71 = sym (c.read_letter.ensures ∙ ap letter c.field.ensures) ∙ c.if-read_letter-ne71.false in
    rw (eq-eqb _ _ k, sym c.is_dash.ensures ∙ c.if-is_dash.false, ne_eqb (length fs) (c.args.h.variables + 1) (λ e. c.if-count_fields-h.true (omega (arith, c.count_fields.ensures, e))))

pub returns-in_err-guards : goal.returns-in_err-guards
unfolding guards_of
returns-in_err-guards c =
    let fs = split_on 32 c.args.s.now in
    let k : letter (get_or fs 0 []) ≡ 71 = sym (c.read_letter.ensures ∙ ap letter c.field.ensures) ∙ c.if-read_letter-ne71.false in
    let n : length fs ≡ c.args.h.variables + 1 = omega (arith, c.count_fields.ensures, c.if-count_fields-h.false, ap length (split_some 32 c.args.s.now).2) in
    rw (eq-eqb _ _ k, sym c.is_dash.ensures ∙ c.if-is_dash.false, eq-eqb _ _ n) (c.from_residual.ensures ∙ ap lock_line (sym c.in_err-guards.was ∙ c.read_locks.ensures))

pub returns : goal.returns
unfolding guards_of
returns c =
    let fs = split_on 32 c.args.s.now in
    let k : letter (get_or fs 0 []) ≡ 71 = sym (c.read_letter.ensures ∙ ap letter c.field.ensures) ∙ c.if-read_letter-ne71.false in
    let n : length fs ≡ c.args.h.variables + 1 = omega (arith, c.count_fields.ensures, c.if-count_fields-h.false, ap length (split_some 32 c.args.s.now).2) in
    rw (eq-eqb _ _ k, sym c.is_dash.ensures ∙ c.if-is_dash.false, eq-eqb _ _ n) (ap lock_line (sym c.in_ok-guards.was ∙ c.read_locks.ensures))
