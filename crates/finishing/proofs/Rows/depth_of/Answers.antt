-- `finishing::Rows::depth_of` meets its contract. Assumes nothing.
use native.Mathlib.Omega.{arith}
use mathlib.Core.Path.{◌≡◌, refl, sym, ap, ◌∙◌}
use lib.ListN.{get_or}
use Rattle.std.proofs.lemmas.List.{take_all}
use Rattle.finishing.specs.Computed.Parts.{depth_in, hold_after}
use Rattle.finishing.proofs.Scans.{whats_are, hold_few, depth_more}
use Rattle.finishing.proofs.Rows.depth_of.Goals as goal
use Rattle.finishing.proofs.Rows.depth_of.Goals.{then-matches, else-matches}

pub loop-what-init : goal.loop-what-init
unfolding depth_in
loop-what-init c = (refl, omega arith)

pub loop-what-preserved : goal.loop-what-preserved
loop-what-preserved c =
    let t = c.args.key.thread in
    let p = c.args.key.place in
    let l = c.loop-what in
    let ws = c.self.inside.what.now in
    let w = get_or ws l.what-index 0 in
    let q : c.if-matches.depth ≡ hold_after t p l.depth w =
    elim c.if-matches.branch [
      | then-matches u ↦ rw (sym c.matches.ensures ∙ u.if-matches.true) (u.depth-is ∙ u.depth_after-depth.ensures)
      | else-matches u ↦ rw (sym c.matches.ensures ∙ u.if-matches.false) u.depth-is
    ] in
    (depth_more t p ws l.what-index l.depth c.if-matches.depth c.loop-what-test.true l.invariant.0 q, omega (arith, q, hold_few t p l.depth w, l.invariant.1))

pub returns : goal.returns
returns c =
    let rows = c.self.inside in
    let l = c.loop-what in
    l.invariant.0 ∙ ap (depth_in c.args.key.thread c.args.key.place) (take_all l.what-index rows.what.now c.loop-what-test.false ∙ whats_are rows.what.now rows.value.now c.args.self.now c.self.view_is c.self.invariant.0)
