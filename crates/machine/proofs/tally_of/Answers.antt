-- `machine::tally_of` meets its contract: after v turns the numbers are those of the first v variables. Assumes nothing.
use native.Mathlib.Omega.{arith}
use mathlib.Core.Path.{ap, ◌∙◌}
use Rattle.state.specs.declared.Cell.{Cell}
use lib.ListN.{get_or}
use Rattle.state.specs.State.{blank, cell_at}
use Rattle.state.proofs.LeafLaws.{cell_read}
use Rattle.judging.specs.Computed.Turns.{awaits_write}
use Rattle.machine.proofs.Tallies.{small_sum, number_none, number_more, tally_is}
use Rattle.machine.proofs.tally_of.Goals as goal

pub loop-v-init : goal.loop-v-init
loop-v-init c = let e = c.default-tally.ensures in (e.0 ∙ number_none _, e.1.0 ∙ number_none _, e.1.1 ∙ number_none _)

pub overflow_add-tally : goal.overflow_add-tally
overflow_add-tally c =
    let l = c.loop-v in
    let s = c.args.s.now in
    let t = c.args.t in
    omega (arith, c.requires.variables, small_sum l.v (λ w. (cell_at s t w).pending) (get_or s.cells c.cell_place.result blank).pending c.from.ensures l.invariant.0)

pub overflow_add-tally-in-loop-v : goal.overflow_add-tally-in-loop-v
overflow_add-tally-in-loop-v c =
    let l = c.loop-v in
    let s = c.args.s.now in
    let t = c.args.t in
    omega (arith, c.requires.variables, small_sum l.v (λ w. (cell_at s t w).fresh) (get_or s.cells c.cell_place.result blank).fresh c.from-in-loop-v.ensures l.invariant.1)

pub overflow_add-tally-in-loop-v-2 : goal.overflow_add-tally-in-loop-v-2
overflow_add-tally-in-loop-v-2 c =
    let l = c.loop-v in
    let s = c.args.s.now in
    let t = c.args.t in
    omega (arith, c.requires.variables, small_sum l.v (λ w. awaits_write (cell_at s t w)) c.awaits_write.result c.from-in-loop-v-2.ensures l.invariant.2)

pub loop-v-preserved : goal.loop-v-preserved
loop-v-preserved c =
    let l = c.loop-v in
    let s = c.args.s.now in
    let t = c.args.t in
    let same = cell_read s t l.v c.requires.thread (omega (arith, c.requires.variables)) c.cell_place.ensures.0 in (
      number_more l.v (λ w. (cell_at s t w).pending) c.from.ensures (ap (λ (x : Cell). x.pending) same) l.invariant.0,
      number_more l.v (λ w. (cell_at s t w).fresh) c.from-in-loop-v.ensures (ap (λ (x : Cell). x.fresh) same) l.invariant.1,
      number_more l.v (λ w. awaits_write (cell_at s t w)) c.from-in-loop-v-2.ensures (c.awaits_write.ensures ∙ ap (λ (x : Cell). awaits_write x) same) l.invariant.2,
    )

pub returns : goal.returns
returns c =
    let l = c.loop-v in
    tally_is c.args.s.now c.args.t (omega arith) l.invariant.0 l.invariant.1 l.invariant.2
