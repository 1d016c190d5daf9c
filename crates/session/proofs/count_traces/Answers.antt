-- `session::count_traces` meets its contract: the bytes behind `left` are traces, whose numbers are counted.
use mathlib.Core.Path.{◌≡◌, sym, ap, ◌∙◌, subst}
use mathlib.Core.List.{List}
use Prim.Native.Nat.{ℕ, suc, ◌<◌}
use native.Mathlib.Omega.{arith}
use lib.ListN.{drop}
use Rattle.std.proofs.Common.{rules}
use Rattle.rules.specs.Limits.{limits_of}
use Rattle.rules.specs.Rules.{number_in}
use Rattle.marking.specs.Marking.{marked_of}
use Rattle.session.specs.Session.{greatest}
use Rattle.session.proofs.Found.{start_lt}
use Rattle.session.proofs.Numbers.{number_low}
use Rattle.session.proofs.Rounds.{Counting, counting_start, count_low, counting_lost, counting_next, counting_end}
use Rattle.session.proofs.count_traces.Goals as goal

pub loop-left-init : goal.loop-left-init
loop-left-init c = counting_start c.args.course c.args.s.now

pub returns-in_err-a : goal.returns-in_err-a
returns-in_err-a c =
    let l = c.loop-left in
    c.from_residual.ensures ∙ counting_lost c.args.course c.args.s.now l.counts l.count l.left.now l.invariant (search rules) (sym c.find_start.ensures ∙ c.in_err-a.was)

-- a trace starts before its end
pub split_at-requires : goal.split_at-requires
split_at-requires c = omega (arith, start_lt c.loop-left.left.now c.in_ok-a.a (sym c.find_start.ensures ∙ c.in_ok-a.was))

-- every number has a place
place : goal.bounds-counts-k
place c =
    let k : c.number_of-k.result < suc greatest = subst (λ (i : ℕ). i < suc greatest) (sym c.number_of-k.ensures) (number_low c.args.course _) in
    omega (arith, k)

pub offset_bounds-counts-k : goal.offset_bounds-counts-k
offset_bounds-counts-k c = omega (arith, place c)

pub bounds-counts-k : goal.bounds-counts-k
bounds-counts-k c = place c

pub bounds-counts-k-in-loop-left : goal.bounds-counts-k-in-loop-left
bounds-counts-k-in-loop-left c = place c

pub overflow_add-counts : goal.overflow_add-counts
overflow_add-counts c =
    let l = c.loop-left in
    omega (arith, count_low c.args.course c.args.s.now l.counts l.count l.left.now l.invariant c.number_of-k.result (place c), l.invariant.few)

pub loop-left-smaller : goal.loop-left-smaller
loop-left-smaller c =
    let l = c.loop-left in
    omega (arith, start_lt l.left.now c.in_ok-a.a (sym c.find_start.ensures ∙ c.in_ok-a.was), c.split_at.ensures.front_len)

pub loop-left-preserved : goal.loop-left-preserved
loop-left-preserved c =
    let l = c.loop-left in
    let a = c.args in
    let k : c.number_of-k.result ≡ number_in (marked_of (limits_of a.course) (drop c.in_ok-a.a l.left.now))
    = c.number_of-k.ensures ∙ ap (λ (t : List ℕ). number_in (marked_of (limits_of a.course) t)) c.split_at.ensures.back in
    subst (Counting a.course a.s.now _ _) (sym c.split_at.ensures.front)
    (counting_next a.course a.s.now l.counts l.count l.left.now l.invariant (search rules) c.in_ok-a.a c.number_of-k.result (sym c.find_start.ensures ∙ c.in_ok-a.was) k)

pub returns : goal.returns
returns c =
    let l = c.loop-left in
    counting_end c.args.course c.args.s.now l.counts l.count l.left.now l.invariant (search rules)
