-- `finishing::make_tail` meets its contract. Assumes nothing.
use native.Mathlib.Omega.{arith}
use borrow.Author.Rules.{rules}
use mathlib.Core.Path.{◌≡◌, refl, sym, ap₂, ◌∙◌}
use mathlib.Core.Bool.{Bool, true, ◌||◌, or-true}
use lib.ListN.{take}
use lib.Seq.{length-take-le}
use Rattle.std.specs.List.{zip}
use Rattle.std.proofs.lemmas.Result.{err_from_is_err_and}
use Rattle.rules.specs.Limits.{limits_of, any_volatile}
use Rattle.rules.proofs.Bounds.{up_to_full}
use Rattle.finishing.specs.Computed.Parts.{any_new, whats_of}
use Rattle.finishing.proofs.Answers.{marked_refused, handed, gives_tailless, made_gives}
use Rattle.finishing.proofs.make_tail.Goals as goal
use Rattle.finishing.proofs.make_tail.Goals.{then-any_volatile-via-then-any_volatile, then-any_volatile-via-else-any_volatile+then-any_new}

pub returns : goal.returns
returns c =
    let a = c.args in
    let q = ap₂ (λ (x y : Bool). x || y) (sym c.any_volatile.ensures ∙ c.if-any_volatile.false) (sym c.any_new.ensures ∙ c.if-any_new.false) in
    rw c.line_after-line.ensures (made_gives (limits_of a.course) (up_to_full a.course) a.bytes.now c.in_ok-marked.ensures q (search rules) (search rules) c.fill-events.ensures)

pub returns-in_err-marked : goal.returns-in_err-marked
returns-in_err-marked c =
    let a = c.args in
    let k = limits_of a.course in
    let u = up_to_full a.course in
    let p = err_from_is_err_and c.from_residual.result c.from_residual.ensures.1 in
    rw (p.1, p.2) (marked_refused k u a.bytes.now c.in_err-marked.ensures a.whats.now a.values.now)

pub slice_bounds-what-end : goal.slice_bounds-what-end
slice_bounds-what-end c = (handed (limits_of c.args.course) (up_to_full c.args.course) c.args.bytes.now c.in_ok-marked.ensures).what

pub slice_bounds-rows-end : goal.slice_bounds-rows-end
slice_bounds-rows-end c = sym (length-take-le _ _ (handed (limits_of c.args.course) (up_to_full c.args.course) c.args.bytes.now c.in_ok-marked.ensures).what)

pub slice_bounds-value-end : goal.slice_bounds-value-end
slice_bounds-value-end c = (handed (limits_of c.args.course) (up_to_full c.args.course) c.args.bytes.now c.in_ok-marked.ensures).value

pub slice_bounds-rows-end-2 : goal.slice_bounds-rows-end-2
slice_bounds-rows-end-2 c = sym (length-take-le _ _ (handed (limits_of c.args.course) (up_to_full c.args.course) c.args.bytes.now c.in_ok-marked.ensures).value)

pub returns-then-any_volatile : goal.returns-then-any_volatile
returns-then-any_volatile c =
    let a = c.args in
    let k = limits_of a.course in
    let u = up_to_full a.course in
    let marking = c.in_ok-marked.marked in
    let rows = zip (take marking.events c.mark.new.what) (take marking.events c.mark.new.value) in
    let q : (any_volatile marking.head || any_new (whats_of rows)) ≡ true =
    elim c.then-any_volatile.branch [
      | then-any_volatile-via-then-any_volatile w ↦ rw (sym c.any_volatile.ensures ∙ w.if-any_volatile.true) refl
      | then-any_volatile-via-else-any_volatile+then-any_new w ↦ rw (sym w.any_new.ensures ∙ w.if-any_new.true) (or-true (any_volatile marking.head))
    ] in
    gives_tailless k u a.bytes.now c.in_ok-marked.ensures q a.whats.now a.values.now

pub invariant_of-accepted : goal.invariant_of-accepted
invariant_of-accepted c =
    let h = handed (limits_of c.args.course) (up_to_full c.args.course) c.args.bytes.now c.in_ok-marked.ensures in
    record { allowed = (h.threads, h.variables) }

pub overflow_cast-n : goal.overflow_cast-n
overflow_cast-n c = omega (arith, (handed (limits_of c.args.course) (up_to_full c.args.course) c.args.bytes.now c.in_ok-marked.ensures).few)
