-- `finishing::Rows::put_rest` meets its contract. Assumes nothing.
use borrow.Author.Rules.{rules}
use borrow.Author.Tests.{tests}
use Prim.Native.Nat.{ℕ}
use denote.Ref.{Bor}
use mathlib.Core.Path.{◌≡◌, sym, ap, ◌∙◌}
use mathlib.Core.List.{List, map}
use lib.IntN.{ℤ}
use lib.ListN.{drop}
use Rattle.std.specs.List.{filter}
use Rattle.std.proofs.lemmas.Simd.{map-map}
use Rattle.std.proofs.lemmas.Iterator.{YieldsList-from_slice, YieldsList-from_zip}
use Rattle.std.proofs.lemmas.Iterator.Adapters.{YieldsList-from_skip}
use Rattle.std.proofs.lemmas.Iterator.Consumers.{YieldsList-from_filter, YieldsList-at, YieldsList-end}
use Rattle.finishing.specs.declared.Entry.{Entry}
use Rattle.finishing.specs.Computed.Parts.{entry_of, feeds, rest_in}
use Rattle.finishing.proofs.Adding.{adds_none, adds_more, adds_same, adds_entry}
use Rattle.finishing.proofs.Rows.put_rest.Goals as goal

-- the entries of values that were read one by one
values_read : (f : ℤ → Entry) (ps : List (Bor ℕ × Bor ℤ)) (rs : List (ℕ × ℤ)) → map (λ (p : Bor ℕ × Bor ℤ). (p.0.now, p.1.now)) ps ≡ rs → map (λ (p : Bor ℕ × Bor ℤ). f p.1.now) ps ≡ map f (map (λ (r : ℕ × ℤ). r.1) rs)
values_read f ps rs q =
    sym (map-map (λ (r : ℕ × ℤ). f r.1) (λ (p : Bor ℕ × Bor ℤ). (p.0.now, p.1.now)) ps) ∙ ap (map (λ (r : ℕ × ℤ). f r.1)) q ∙ sym (map-map f (λ (r : ℕ × ℤ). r.1) rs)

pub loop-value-init : goal.loop-value-init
loop-value-init c = adds_none c.args.out.now

pub loop-value-preserved : goal.loop-value-preserved
loop-value-preserved c =
    let a = c.args in
    adds_more _ c.loop-value.yielded _ c.loop-value.invariant (adds_entry (entry_of a.letter a.key.thread a.key.place) c.entry.ensures (search rules) c.put.ensures)

pub returns : goal.returns
unfolding rest_in
returns c =
    let a = c.args in
    let rows = c.self.inside in
    let l = c.loop-value in
    let z = YieldsList-from_zip {s = c.zip.result} (YieldsList-from_slice rows.what.now cc) (YieldsList-from_slice rows.value.now cc) in
    let y = YieldsList-end (YieldsList-at c.into_iter-value-iterator.ensures.into_iter_gives (YieldsList-from_skip a.skip (YieldsList-at c.skip-value-items.ensures.source (YieldsList-from_filter _ (λ r. feeds a.letter a.key.thread a.key.place r.0) (YieldsList-at c.filter-fed.ensures.source z) c.filter-fed.ensures.closure (λ x r q k. search (rules, tests)))) c.skip-value-items.ensures.count)) l.yielded l.value-iterator l.yielded_by _ c.next.new.self c.in-None.is c.next.ensures.steps in
    let fed = λ (rs : List (ℕ × ℤ)). drop a.skip (filter (λ (r : ℕ × ℤ). feeds a.letter a.key.thread a.key.place r.0) rs) in
    adds_same (values_read (entry_of a.letter a.key.thread a.key.place) l.yielded _ (y.0 ∙ ap fed c.self.view_is)) l.invariant
