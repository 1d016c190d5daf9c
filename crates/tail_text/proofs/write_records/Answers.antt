-- `tail_text::write_records` meets its contract: the lines of the records so far are written. Assumes nothing.
use Prim.Native.Nat.{ℕ}
use native.Mathlib.Omega.{arith}
use borrow.Author.Rules.{rules}
use lib.IntN.{ℤ}
use lib.ListN.{get_or, length-map}
use mathlib.Core.Path.{ap, sym, ◌∙◌}
use mathlib.Core.List.{map-append}
use Rattle.std.specs.List.{zip}
use Rattle.std.proofs.lemmas.Iterator.{YieldsList-from_slice, YieldsList-from_zip}
use Rattle.std.proofs.lemmas.Iterator.Consumers.{YieldsList-turn, YieldsList-end}
use Rattle.decimal.specs.Text.{room}
use Rattle.decimal.proofs.TextLaws.{wrote_same}
use Rattle.tail_text.specs.Computed.Rows.{line_room, record_text}
use Rattle.tail_text.proofs.RowTexts.{lined_start, lined_step, lined_end}
use Rattle.tail_text.proofs.write_records.Goals as goal

pub loop-what-init : goal.loop-what-init
loop-what-init c = let a = c.args in lined_start (zip a.what.now a.value.now) a.out.now c.requires

pub loop-what-preserved : goal.loop-what-preserved
loop-what-preserved c =
    let a = c.args in
    let l = c.loop-what in
    let k = c.write_record-length in
    let w = c.in-Some.field-0-0.now in
    let x = c.in-Some.field-0-1.now in
    let z = YieldsList-from_zip {s = c.into_iter-what-iterator.result} (YieldsList-from_slice a.what.now cc) (YieldsList-from_slice a.value.now cc) in
    let t = YieldsList-turn z l.yielded l.what-iterator l.yielded_by _ c.next.new.self _ c.in-Some.is c.next.ensures.steps in
    let n = length-map {B = ℕ × ℤ} l.yielded (λ p. (p.0.now, p.1.now)) in
    let e = ap (λ (i : ℕ). get_or (zip a.what.now a.value.now) i (w, x)) n in
    rw map-append (lined_step l.invariant (w, x) (w, x) (omega (arith, n, t.0)) (t.1 ∙ sym e) (wrote_same _ _ _ k.new.out k.result (ap (λ (v : ℤ). room line_room (record_text w v)) (search rules)) k.ensures))

pub returns : goal.returns
returns c =
    let a = c.args in
    let l = c.loop-what in
    let z = YieldsList-from_zip {s = c.into_iter-what-iterator.result} (YieldsList-from_slice a.what.now cc) (YieldsList-from_slice a.value.now cc) in
    lined_end l.invariant (YieldsList-end z l.yielded l.what-iterator l.yielded_by _ c.next.new.self c.in-None.is c.next.ensures.steps).0
