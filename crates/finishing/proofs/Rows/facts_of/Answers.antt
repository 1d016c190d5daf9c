-- `finishing::Rows::facts_of` meets its contract. Assumes nothing.
use Prim.Native.Nat.{ℕ}
use borrow.Author.Rules.{rules}
use native.Mathlib.Omega.{arith}
use mathlib.Core.Path.{sym, ap, ◌∙◌}
use mathlib.Core.List.{map-append}
use lib.IntN.{ℤ}
use lib.ListN.{length-map}
use Rattle.std.proofs.lemmas.Iterator.{YieldsList-from_slice, YieldsList-from_zip}
use Rattle.std.proofs.lemmas.Iterator.Consumers.{YieldsList-turn, YieldsList-end}
use Rattle.std.proofs.lemmas.Slice.Zip.{length-zip}
use Rattle.finishing.specs.Computed.Parts.{entry, facts_after, facts_in}
use Rattle.finishing.proofs.Scans.{scanned_start, scanned_here, scanned_other}
use Rattle.finishing.proofs.Rows.facts_of.Goals as goal

pub loop-what-init : goal.loop-what-init
loop-what-init c = scanned_start c.args.key.thread c.args.key.place c.default-facts.result (search rules)

pub after-facts-requires : goal.after-facts-requires
after-facts-requires c =
    let rows = c.self.inside in
    let l = c.loop-what in
    let z = YieldsList-from_zip {s = c.into_iter-what-iterator.result} (YieldsList-from_slice rows.what.now cc) (YieldsList-from_slice rows.value.now cc) in
    let y = YieldsList-turn z l.yielded l.what-iterator l.yielded_by _ c.next.new.self _ c.in-Some.is c.next.ensures.steps in
    let n = length-zip rows.what.now rows.value.now in
    let m = length-map {B = ℕ × ℤ} l.yielded (λ p. (p.0.now, p.1.now)) in
    (omega (arith, y.0, n, m, l.invariant.loads, c.self.invariant), omega (arith, y.0, n, m, l.invariant.writes, c.self.invariant))

pub loop-what-preserved-then-matches : goal.loop-what-preserved-then-matches
loop-what-preserved-then-matches c =
    let k = c.args.key in
    let l = c.loop-what in
    let w = c.in-Some.field-0-0.now in
    let x = c.in-Some.field-0-1.now in
    let q = c.after-facts.ensures ∙ ap (λ (y : ℤ). facts_after (entry w y) l.facts) (search rules) in
    rw map-append (scanned_here k.thread k.place _ l.facts c.after-facts.result w x l.invariant (sym c.matches.ensures ∙ c.if-matches.true) q)

pub loop-what-preserved : goal.loop-what-preserved
loop-what-preserved c =
    let k = c.args.key in
    let l = c.loop-what in
    rw map-append (scanned_other k.thread k.place _ l.facts c.in-Some.field-0-0.now c.in-Some.field-0-1.now l.invariant (sym c.matches.ensures ∙ c.if-matches.false))

pub returns : goal.returns
returns c =
    let rows = c.self.inside in
    let l = c.loop-what in
    let z = YieldsList-from_zip {s = c.into_iter-what-iterator.result} (YieldsList-from_slice rows.what.now cc) (YieldsList-from_slice rows.value.now cc) in
    let y = YieldsList-end z l.yielded l.what-iterator l.yielded_by _ c.next.new.self c.in-None.is c.next.ensures.steps in
    l.invariant.says ∙ ap (facts_in c.args.key.thread c.args.key.place) (y.0 ∙ c.self.view_is)
