use Rattle.std.proofs.Common.{◌≡◌, rules, tests, sym, ap, ◌∙◌, arith, nat_eq, length, drop, set, List, true, length-set}
use Rattle.std.proofs.lemmas.List.{length_push}
use Rattle.std.proofs.lemmas.Iterator.Adapters.{YieldsList-from_skip}
use Rattle.std.proofs.lemmas.Iterator.Consumers.{YieldsList-at, YieldsList-turn, YieldsList-end}
use Rattle.std.proofs.lemmas.Iterator.Splits.{YieldsList-from_slice_split}
use Rattle.lines.specs.Lines.{split_on}
use Rattle.lines.proofs.StdLaws.{split_is}
use Rattle.trace.proofs.WalkLaws.{set_past, volatiles_some, volatiles_none, volatiles_end}
use Rattle.trace.proofs.read_flags.Goals as goal
use Rattle.trace.proofs.read_flags.Goals.{then-n-lt-VARIABLES, else-n-lt-VARIABLES}

pub returns-in_err-n : goal.returns-in_err-n
returns-in_err-n c =
    let s = c.args.s.now in
    let ys = drop 1 (split_on 32 s) in
    let l = c.loop-field in
    let k = c.skip-field-items.ensures in
    let p = c.split.ensures in
    let i = c.into_iter-field-iterator.ensures.into_iter_gives in
    let t = YieldsList-turn (YieldsList-at i (YieldsList-from_skip 1 (YieldsList-at k.source (YieldsList-from_slice_split _ (λ x. nat_eq x 32) s p.rest p.done p.closure (λ x b q k. search (rules, tests)))) k.count)) l.yielded _ l.yielded_by _ _ c.in-Some.field c.in-Some.is c.next.ensures.steps in
    let f = volatiles_none c.args.variables l.low (length l.yielded) l.volatiles ys c.in-Some.field.now (rw (← split_is 32 s) at t) (sym c.read_within.ensures ∙ c.in_err-n.was) in
    c.from_residual.ensures ∙ sym (l.invariant.same ∙ f)

pub loop-field-preserved : goal.loop-field-preserved
loop-field-preserved c =
    let s = c.args.s.now in
    let ys = drop 1 (split_on 32 s) in
    let l = c.loop-field in
    let k = c.skip-field-items.ensures in
    let p = c.split.ensures in
    let i = c.into_iter-field-iterator.ensures.into_iter_gives in
    let t = YieldsList-turn (YieldsList-at i (YieldsList-from_skip 1 (YieldsList-at k.source (YieldsList-from_slice_split _ (λ x. nat_eq x 32) s p.rest p.done p.closure (λ x b q k. search (rules, tests)))) k.count)) l.yielded _ l.yielded_by _ _ c.in-Some.field c.in-Some.is c.next.ensures.steps in
    let n = c.in_ok-n.n in
    let g : c.if-n-lt-VARIABLES.volatiles ≡ set l.volatiles n true =
    elim c.if-n-lt-VARIABLES.branch [ then-n-lt-VARIABLES w ↦ w.volatiles-is | else-n-lt-VARIABLES w ↦ w.volatiles-is ∙ set_past l.volatiles n true (omega (arith, l.invariant.size)) ] in
    let f = volatiles_some c.args.variables l.low (length l.yielded) l.volatiles ys c.in-Some.field.now (rw (← split_is 32 s) at t) n c.if-n-lt-VARIABLES.volatiles (sym c.read_within.ensures ∙ c.in_ok-n.was) g in
    record { can = search rules; finite = search rules; size = ap length g ∙ length-set l.volatiles n true ∙ l.invariant.size; same = rw (length_push l.yielded c.in-Some.field) (l.invariant.same ∙ f) }

pub returns : goal.returns
returns c =
    let s = c.args.s.now in
    let ys = drop 1 (split_on 32 s) in
    let l = c.loop-field in
    let k = c.skip-field-items.ensures in
    let p = c.split.ensures in
    let i = c.into_iter-field-iterator.ensures.into_iter_gives in
    let t = YieldsList-end (YieldsList-at i (YieldsList-from_skip 1 (YieldsList-at k.source (YieldsList-from_slice_split _ (λ x. nat_eq x 32) s p.rest p.done p.closure (λ x b q k. search (rules, tests)))) k.count)) l.yielded _ l.yielded_by _ _ c.in-None.is c.next.ensures.steps in
    volatiles_end c.args.variables l.low (length l.yielded) l.volatiles ys (omega (arith, t.1, ap (λ (u : List (List _)). length (drop 1 u)) (split_is 32 s))) ∙ sym l.invariant.same
