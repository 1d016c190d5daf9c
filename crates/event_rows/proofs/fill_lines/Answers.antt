-- `event_rows::fill_lines` meets its contract: each turn writes the next place. Assumes nothing.
use native.Mathlib.Omega.{arith}
use mathlib.Core.Path.{◌≡◌, ◌∙◌, ap}
use mathlib.Core.List.{List}
use Prim.Native.Nat.{◌+◌}
use lib.IntN.{ℤ, pos}
use lib.ListN.{get_or, set}
use mir.Val.{of_z, to_z}
use mir.ValLaws.{to_z-of_z}
use borrow.Author.Rules.{rules}
use Rattle.records.specs.Records.{unpacked}
use Rattle.rules.specs.Limits.{value_width}
use Rattle.rules.specs.declared.Event.{Event}
use Rattle.event_rows.proofs.FillLaws.{front_none, front_next, front_all}
use Rattle.event_rows.proofs.fill_lines.Goals as goal

pub loop-i-init : goal.loop-i-init
loop-i-init c = let a = c.args in front_none a.line a.what.now a.value.now a.records.now

pub loop-i-preserved : goal.loop-i-preserved
loop-i-preserved c =
    let a = c.args in
    let i = c.loop-i.i in
    let same : to_z value_width (of_z value_width (get_or a.value.now i (pos 0))) ≡ get_or a.value.now i (pos 0) = to_z-of_z value_width _ (search rules) in
    ap (λ (ys : List Event). set ys i c.unpack.result) c.loop-i.invariant
    ∙ front_next a.line a.what.now a.value.now a.records.now i c.unpack.result (omega arith) (c.unpack.ensures ∙ ap (λ (x : ℤ). unpacked (a.line + i) (get_or a.what.now i 0) x) same)

pub returns : goal.returns
returns c =
    let a = c.args in
    c.loop-i.invariant ∙ front_all a.line a.what.now a.value.now a.records.now c.loop-i.i (omega arith)
