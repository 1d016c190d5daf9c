use mathlib.Core.Path.{◌≡◌, sym, ap, ◌∙◌}
use mathlib.Core.List.{[]}
use borrow.Author.Tests.{eq-eqb, ne_eqb}
use Rattle.std.proofs.Common.{Some, None}
use lib.ListN.{length, get_or}
use Rattle.lines.specs.Lines.{split_on, letter}
use Rattle.decimal.specs.Decimal.{natural_of}
use Rattle.trace.specs.Trace.{head_of}
use Rattle.trace.proofs.TraceLaws.{head_numbers}
use Rattle.trace.proofs.read_head.Goals as goal

pub returns-then-count_fields-ne4 : goal.returns-then-count_fields-ne4
unfolding head_of
returns-then-count_fields-ne4 c =
    let fs = split_on 32 c.args.s.now in
    rw (ne_eqb (length fs) 4 (λ e. c.if-count_fields-ne4.true (c.count_fields.ensures ∙ e)))

pub returns-then-read_letter-ne72 : goal.returns-then-read_letter-ne72
unfolding head_of
returns-then-read_letter-ne72 c =
    let fs = split_on 32 c.args.s.now in
    let four : length fs ≡ 4 = sym c.count_fields.ensures ∙ c.if-count_fields-ne4.false in
    rw (eq-eqb _ _ four, ne_eqb (letter (get_or fs 0 [])) 72 (λ e. c.if-read_letter-ne72.true (c.read_letter.ensures ∙ ap letter c.field.ensures ∙ e)))

pub returns-in_err-threads : goal.returns-in_err-threads
returns-in_err-threads c =
    let s = c.args.s.now in
    let h = head_numbers s (sym c.count_fields.ensures ∙ c.if-count_fields-ne4.false) (sym (c.read_letter.ensures ∙ ap letter c.field.ensures) ∙ c.if-read_letter-ne72.false) in
    let t : natural_of (get_or (split_on 32 s) 1 []) ≡ None = sym (ap natural_of c.field-2.ensures) ∙ sym c.read_natural.ensures ∙ c.in_err-threads.was in
    c.from_residual.ensures ∙ (rw t at h)

pub returns-in_err-variables : goal.returns-in_err-variables
returns-in_err-variables c =
    let s = c.args.s.now in
    let h = head_numbers s (sym c.count_fields.ensures ∙ c.if-count_fields-ne4.false) (sym (c.read_letter.ensures ∙ ap letter c.field.ensures) ∙ c.if-read_letter-ne72.false) in
    let t : natural_of (get_or (split_on 32 s) 1 []) ≡ Some c.in_ok-threads.threads = sym (ap natural_of c.field-2.ensures) ∙ sym c.read_natural.ensures ∙ c.in_ok-threads.was in
    let v : natural_of (get_or (split_on 32 s) 2 []) ≡ None = sym (ap natural_of c.field-3.ensures) ∙ sym c.read_natural-2.ensures ∙ c.in_err-variables.was in
    c.from_residual-in_err-variables.ensures ∙ (rw (t, v) at h)

pub returns-in_err-locks : goal.returns-in_err-locks
returns-in_err-locks c =
    let s = c.args.s.now in
    let h = head_numbers s (sym c.count_fields.ensures ∙ c.if-count_fields-ne4.false) (sym (c.read_letter.ensures ∙ ap letter c.field.ensures) ∙ c.if-read_letter-ne72.false) in
    let t : natural_of (get_or (split_on 32 s) 1 []) ≡ Some c.in_ok-threads.threads = sym (ap natural_of c.field-2.ensures) ∙ sym c.read_natural.ensures ∙ c.in_ok-threads.was in
    let v : natural_of (get_or (split_on 32 s) 2 []) ≡ Some c.in_ok-variables.variables = sym (ap natural_of c.field-3.ensures) ∙ sym c.read_natural-2.ensures ∙ c.in_ok-variables.was in
    let l : natural_of (get_or (split_on 32 s) 3 []) ≡ None = sym (ap natural_of c.field-4.ensures) ∙ sym c.read_natural-3.ensures ∙ c.in_err-locks.was in
    c.from_residual-in_err-locks.ensures ∙ (rw (t, v, l) at h)

pub returns-then-is_allowed : goal.returns-then-is_allowed
returns-then-is_allowed c =
    let s = c.args.s.now in
    let h = head_numbers s (sym c.count_fields.ensures ∙ c.if-count_fields-ne4.false) (sym (c.read_letter.ensures ∙ ap letter c.field.ensures) ∙ c.if-read_letter-ne72.false) in
    let t : natural_of (get_or (split_on 32 s) 1 []) ≡ Some c.in_ok-threads.threads = sym (ap natural_of c.field-2.ensures) ∙ sym c.read_natural.ensures ∙ c.in_ok-threads.was in
    let v : natural_of (get_or (split_on 32 s) 2 []) ≡ Some c.in_ok-variables.variables = sym (ap natural_of c.field-3.ensures) ∙ sym c.read_natural-2.ensures ∙ c.in_ok-variables.was in
    let l : natural_of (get_or (split_on 32 s) 3 []) ≡ Some c.in_ok-locks.locks = sym (ap natural_of c.field-4.ensures) ∙ sym c.read_natural-3.ensures ∙ c.in_ok-locks.was in
    rw (t, v, l, sym c.is_allowed.ensures ∙ c.if-is_allowed.true) at h

pub returns-else-is_allowed : goal.returns-else-is_allowed
returns-else-is_allowed c =
    let s = c.args.s.now in
    let h = head_numbers s (sym c.count_fields.ensures ∙ c.if-count_fields-ne4.false) (sym (c.read_letter.ensures ∙ ap letter c.field.ensures) ∙ c.if-read_letter-ne72.false) in
    let t : natural_of (get_or (split_on 32 s) 1 []) ≡ Some c.in_ok-threads.threads = sym (ap natural_of c.field-2.ensures) ∙ sym c.read_natural.ensures ∙ c.in_ok-threads.was in
    let v : natural_of (get_or (split_on 32 s) 2 []) ≡ Some c.in_ok-variables.variables = sym (ap natural_of c.field-3.ensures) ∙ sym c.read_natural-2.ensures ∙ c.in_ok-variables.was in
    let l : natural_of (get_or (split_on 32 s) 3 []) ≡ Some c.in_ok-locks.locks = sym (ap natural_of c.field-4.ensures) ∙ sym c.read_natural-3.ensures ∙ c.in_ok-locks.was in
    rw (t, v, l, sym c.is_allowed.ensures ∙ c.if-is_allowed.false) at h
