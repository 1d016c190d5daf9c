use Rattle.std.proofs.Common.{◌≡◌, ◌≤◌, refl, sym, ap, ◌∙◌, arith, length, take, drop, ℕ, ◌+◌, ◌-◌, Ok, Err}
use Rattle.std.proofs.lemmas.Result.{err_from_is_err_and}
use lib.Seq.{length-take-le}
use lib.ListN.{length-take}
use Rattle.rules.specs.Limits.{limits_of, with_flags}
use Rattle.lines.proofs.FieldLaws.{before_le}
use Rattle.trace.proofs.Exits.{none_at_err, some_at_ok}
use Rattle.trace.proofs.TraceLaws.{Lies, plain_lies, third_none, third_some, trace_third, trace_unfound}
use Rattle.trace.proofs.find.Goals as goal
use Rattle.trace.proofs.find.Goals.{In_ok-t, After-find-b}

pub returns-in_err-t : goal.returns-in_err-t
returns-in_err-t c =
    let p = err_from_is_err_and c.from_residual.result c.from_residual.ensures.1 in
    rw (p.1, p.2) (sym (trace_unfound (limits_of c.args.course) c.args.s.now _ (sym c.find_plain.ensures ∙ c.in_err-t.was)))

-- the part behind line 2 lies in the bytes
rest_lies : (c : In_ok-t) → Lies c.in_ok-t.t c.args.s.now
rest_lies c = plain_lies (limits_of c.args.course) c.args.s.now c.in_ok-t.t (sym c.find_plain.ensures ∙ c.in_ok-t.was)

pub slice_bounds-rest-count : goal.slice_bounds-rest-count
slice_bounds-rest-count c = (rest_lies (goal.at.slice_bounds-rest-count c).In_ok-t).start

pub slice_bounds-rest-start : goal.slice_bounds-rest-start
slice_bounds-rest-start c = (rest_lies (goal.at.slice_bounds-rest-start c).In_ok-t).start

pub slice_bounds-rest-end : goal.slice_bounds-rest-end
slice_bounds-rest-end c = (rest_lies (goal.at.slice_bounds-rest-end c).In_ok-t).end

pub returns-then-not-begins_with_v : goal.returns-then-not-begins_with_v
returns-then-not-begins_with_v c =
    let a = c.args in
    let s = a.s.now in
    let t = c.in_ok-t.t in
    let q = sym c.find_plain.ensures ∙ c.in_ok-t.was in
    third_none (take (t.to - t.from) (drop t.from s)) t (sym c.begins_with_v.ensures ∙ c.if-not-begins_with_v.true) ∙ trace_third (limits_of a.course) s t refl q

-- line 3 ends within that part
line_within : (c : After-find-b) → c.find-b.result ≤ length (take (c.in_ok-t.t.to - c.in_ok-t.t.from) (drop c.in_ok-t.t.from c.args.s.now))
line_within c = omega (arith, c.find-b.ensures, before_le 10 (take (c.in_ok-t.t.to - c.in_ok-t.t.from) (drop c.in_ok-t.t.from c.args.s.now)))

line_ends : (c : After-find-b) → c.find-b.result ≤ c.in_ok-t.t.to - c.in_ok-t.t.from
line_ends c = omega (arith, line_within c, length-take (c.in_ok-t.t.to - c.in_ok-t.t.from) (drop c.in_ok-t.t.from c.args.s.now))

pub slice_bounds-read_volatiles-end : goal.slice_bounds-read_volatiles-end
slice_bounds-read_volatiles-end c = sym (length-take-le c.find-b.result _ (line_within (goal.at.slice_bounds-read_volatiles-end c).After-find-b))

pub returns-in_err-volatiles : goal.returns-in_err-volatiles
returns-in_err-volatiles c =
    let a = c.args in
    let s = a.s.now in
    let t = c.in_ok-t.t in
    let q = sym c.find_plain.ensures ∙ c.in_ok-t.was in
    let u = take (t.to - t.from) (drop t.from s) in
    let w = third_some u t (sym c.begins_with_v.ensures ∙ c.if-not-begins_with_v.false) c.find-b.result c.find-b.ensures in
    let o = none_at_err c.read_volatiles.result _ _ _ c.in_err-volatiles.was c.ok_or.ensures.value in
    let g = sym c.read_volatiles.ensures ∙ o.0 in
    let p = err_from_is_err_and c.from_residual-in_err-volatiles.result c.from_residual-in_err-volatiles.ensures.1 in
    rw (p.1, p.2) (ap Err o.1 ∙ (rw g at w) ∙ trace_third (limits_of a.course) s t refl q)

pub overflow_add-result : goal.overflow_add-result
overflow_add-result c = let w = rest_lies (goal.at.overflow_add-result c).In_ok-t in omega (arith, w.start, w.end, line_ends (goal.at.overflow_add-result c).After-find-b)

pub overflow_add-result-2 : goal.overflow_add-result-2
overflow_add-result-2 c = let w = rest_lies (goal.at.overflow_add-result-2 c).In_ok-t in omega (arith, w.start, w.end, line_ends (goal.at.overflow_add-result-2 c).After-find-b)

pub returns : goal.returns
returns c =
    let a = c.args in
    let s = a.s.now in
    let t = c.in_ok-t.t in
    let q = sym c.find_plain.ensures ∙ c.in_ok-t.was in
    let u = take (t.to - t.from) (drop t.from s) in
    let w = third_some u t (sym c.begins_with_v.ensures ∙ c.if-not-begins_with_v.false) c.find-b.result c.find-b.ensures in
    let g = sym c.read_volatiles.ensures ∙ some_at_ok c.read_volatiles.result _ _ _ c.in_ok-volatiles.was c.ok_or.ensures.value in
    let n : t.from + (c.find-b.result + 1) ≡ t.from + c.find-b.result + 1 = omega arith in
    ap (λ (n : ℕ). Ok (record { head = with_flags t.head c.in_ok-volatiles.volatiles; guards = t.guards; from = n; to = t.to })) (sym n) ∙ (rw g at w) ∙ trace_third (limits_of a.course) s t refl q
