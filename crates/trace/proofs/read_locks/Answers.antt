use Rattle.std.proofs.Common.{rules, tests, sym, ap, ◌∙◌, arith, nat_eq, length, drop, set, List, ℕ, length-set}
use Rattle.std.specs.List.{slice_split}
use Rattle.std.proofs.lemmas.List.{length_push}
use Rattle.std.proofs.lemmas.List.FromFn.{length-enumerate_from}
use Rattle.std.proofs.lemmas.Iterator.Adapters.{YieldsList-from_skip}
use Rattle.std.proofs.lemmas.Iterator.Consumers.{YieldsList-at, YieldsList-from_enumerate, YieldsList-turn, YieldsList-end}
use Rattle.std.proofs.lemmas.Iterator.Splits.{YieldsList-from_slice_split}
use Rattle.lines.specs.Lines.{split_on}
use Rattle.lines.proofs.StdLaws.{split_is}
use Rattle.trace.proofs.WalkLaws.{numbered, set_past, locks_some, locks_none, locks_end}
use Rattle.trace.proofs.read_locks.Goals as goal

pub returns-in_err-lock : goal.returns-in_err-lock
returns-in_err-lock c =
    let s = c.args.s.now in
    let ys = drop 1 (split_on 32 s) in
    let l = c.loop-i in
    let e = c.enumerate-i-items.ensures in
    let k = c.skip.ensures in
    let p = c.split.ensures in
    let i = c.into_iter-i-iterator.ensures.into_iter_gives in
    let t = YieldsList-turn (YieldsList-at i (YieldsList-from_enumerate (YieldsList-at e.source (YieldsList-from_skip 1 (YieldsList-at k.source (YieldsList-from_slice_split _ (λ x. nat_eq x 32) s p.rest p.done p.closure (λ x b q k. search (rules, tests)))) k.count)) e.count)) l.yielded _ l.yielded_by _ _ (c.in-Some.i, c.in-Some.field) c.in-Some.is c.next.ensures.steps in
    let t' = numbered ys (length l.yielded) c.in-Some.i c.in-Some.field.now (rw (← split_is 32 s) at t) in
    let f = locks_none c.args.locks (length l.yielded) l.guards ys c.in-Some.field.now (t'.1, t'.2) (sym c.read_within.ensures ∙ c.in_err-lock.was) in
    c.from_residual.ensures ∙ sym (l.invariant.same ∙ f)

pub loop-i-preserved-then-i-lt-VARIABLES : goal.loop-i-preserved-then-i-lt-VARIABLES
loop-i-preserved-then-i-lt-VARIABLES c =
    let s = c.args.s.now in
    let ys = drop 1 (split_on 32 s) in
    let l = c.loop-i in
    let e = c.enumerate-i-items.ensures in
    let k = c.skip.ensures in
    let p = c.split.ensures in
    let i = c.into_iter-i-iterator.ensures.into_iter_gives in
    let t = YieldsList-turn (YieldsList-at i (YieldsList-from_enumerate (YieldsList-at e.source (YieldsList-from_skip 1 (YieldsList-at k.source (YieldsList-from_slice_split _ (λ x. nat_eq x 32) s p.rest p.done p.closure (λ x b q k. search (rules, tests)))) k.count)) e.count)) l.yielded _ l.yielded_by _ _ (c.in-Some.i, c.in-Some.field) c.in-Some.is c.next.ensures.steps in
    let t' = numbered ys (length l.yielded) c.in-Some.i c.in-Some.field.now (rw (← split_is 32 s) at t) in
    let n = c.in_ok-lock.lock in
    let f = locks_some c.args.locks (length l.yielded) l.guards ys c.in-Some.field.now (t'.1, t'.2) n (set l.guards c.in-Some.i n) (sym c.read_within.ensures ∙ c.in_ok-lock.was) (ap (λ (j : ℕ). set l.guards j n) t'.0) in
    record { can = search rules; finite = search rules; size = length-set l.guards c.in-Some.i n ∙ l.invariant.size; same = rw (length_push l.yielded (c.in-Some.i, c.in-Some.field)) (l.invariant.same ∙ f) }

pub loop-i-preserved : goal.loop-i-preserved
loop-i-preserved c =
    let s = c.args.s.now in
    let ys = drop 1 (split_on 32 s) in
    let l = c.loop-i in
    let e = c.enumerate-i-items.ensures in
    let k = c.skip.ensures in
    let p = c.split.ensures in
    let i = c.into_iter-i-iterator.ensures.into_iter_gives in
    let t = YieldsList-turn (YieldsList-at i (YieldsList-from_enumerate (YieldsList-at e.source (YieldsList-from_skip 1 (YieldsList-at k.source (YieldsList-from_slice_split _ (λ x. nat_eq x 32) s p.rest p.done p.closure (λ x b q k. search (rules, tests)))) k.count)) e.count)) l.yielded _ l.yielded_by _ _ (c.in-Some.i, c.in-Some.field) c.in-Some.is c.next.ensures.steps in
    let t' = numbered ys (length l.yielded) c.in-Some.i c.in-Some.field.now (rw (← split_is 32 s) at t) in
    let n = c.in_ok-lock.lock in
    let g = set_past l.guards (length l.yielded) n (omega (arith, l.invariant.size, t'.0)) in
    let f = locks_some c.args.locks (length l.yielded) l.guards ys c.in-Some.field.now (t'.1, t'.2) n l.guards (sym c.read_within.ensures ∙ c.in_ok-lock.was) g in
    record { can = search rules; finite = search rules; size = l.invariant.size; same = rw (length_push l.yielded (c.in-Some.i, c.in-Some.field)) (l.invariant.same ∙ f) }

pub returns : goal.returns
returns c =
    let s = c.args.s.now in
    let ys = drop 1 (split_on 32 s) in
    let l = c.loop-i in
    let e = c.enumerate-i-items.ensures in
    let k = c.skip.ensures in
    let p = c.split.ensures in
    let i = c.into_iter-i-iterator.ensures.into_iter_gives in
    let t = YieldsList-end (YieldsList-at i (YieldsList-from_enumerate (YieldsList-at e.source (YieldsList-from_skip 1 (YieldsList-at k.source (YieldsList-from_slice_split _ (λ x. nat_eq x 32) s p.rest p.done p.closure (λ x b q k. search (rules, tests)))) k.count)) e.count)) l.yielded _ l.yielded_by _ _ c.in-None.is c.next.ensures.steps in
    locks_end c.args.locks (length l.yielded) l.guards ys (omega (arith, t.1, ap (λ (u : List (List ℕ)). length (drop 1 u)) (split_is 32 s), length-enumerate_from 0 (drop 1 (slice_split (λ x. nat_eq x 32) s)))) ∙ sym l.invariant.same
