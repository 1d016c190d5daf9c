-- `report::write_order` meets its contract: one kind of lines for each case.
use mathlib.Core.Path.{sym, ap, ◌∙◌}
use lib.Seq.{length-take-le}
use Rattle.listing.proofs.LineLaws.{wrote_one, wrote_nothing, wrote_as}
use Rattle.ordering.specs.declared.Ordering.{Ordering}
use Rattle.report.specs.Computed.Parts.{ordering_lines}
use Rattle.report.proofs.Lines.{lines_ordered, lines_short}
use Rattle.report.proofs.write_order.Goals as goal

pub returns-then-list-c : goal.returns-then-list-c
returns-then-list-c c =
    let a = c.args in
    wrote_as _ (ordering_lines a.o a.list.now) a.out.now _ _ (lines_short c.in-Ordered.c a.list.now c.if-list-c.true ∙ ap (λ (o : Ordering). ordering_lines o a.list.now) (sym c.in-Ordered.is)) (wrote_nothing a.out.now)

pub slice_bounds-write_sections-end : goal.slice_bounds-write_sections-end
slice_bounds-write_sections-end c = sym (length-take-le c.in-Ordered.c c.args.list.now c.if-list-c.false)

pub returns-else-list-c : goal.returns-else-list-c
returns-else-list-c c =
    let a = c.args in
    wrote_as _ (ordering_lines a.o a.list.now) a.out.now _ _ (lines_ordered c.in-Ordered.c a.list.now c.if-list-c.false ∙ ap (λ (o : Ordering). ordering_lines o a.list.now) (sym c.in-Ordered.is)) c.write_sections.ensures

pub returns-in-Unordered : goal.returns-in-Unordered
unfolding ordering_lines
returns-in-Unordered c =
    let a = c.args in
    wrote_as _ (ordering_lines a.o a.list.now) a.out.now _ _ (ap (λ (o : Ordering). ordering_lines o a.list.now) (sym c.in-Unordered.is)) (wrote_one _ _ _ _ (rw c.from.ensures at c.write_unordered.ensures))

pub returns-in-NoOrder : goal.returns-in-NoOrder
unfolding ordering_lines
returns-in-NoOrder c =
    let a = c.args in
    wrote_as _ (ordering_lines a.o a.list.now) a.out.now _ _ (ap (λ (o : Ordering). ordering_lines o a.list.now) (sym c.in-NoOrder.is)) (wrote_nothing a.out.now)
