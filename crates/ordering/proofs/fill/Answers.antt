-- `ordering::fill` meets its contract: one turn of the loop is one event more. Assumes nothing.
use native.Mathlib.Omega.{arith}
use mathlib.Core.Path.{refl, ◌∙◌, ap}
use lib.ListN.{length-set}
use Rattle.rules.proofs.Bounds.{first_line_high, allowed_bounds}
use Rattle.ordering.specs.Computed.Parts.{code_of, idle_or}
use Rattle.ordering.proofs.RowEvents.{locks_few, reads_at_law}
use Rattle.ordering.proofs.Filling.{filling_start, filling_end}
use Rattle.ordering.proofs.FillingTurn.{Turn, place_few, place_in_law, top_in, top_few, holdable_here, filling_lock, filling_unlock, filling_other}
use Rattle.ordering.proofs.fill.Goals as goal
use Rattle.ordering.proofs.fill.Goals.{After-action-a, then-k, else-k+then-k-2, else-k+else-k-2}

-- ---- the event at i
abbrev Here : Type 0
Here = After-action-a

turn : (c : Here) → Turn c.args.rows.head c.args.rows.what.now c.args.rows.value.now c.loop-i.holds c.loop-i.scratch c.loop-i.begun c.loop-i.n c.loop-i.i c.action-a.result.letter c.action-a.result.thread c.action-a.result.place
turn c = record {
  fits = c.args.rows.fits;
  filling = c.loop-i.invariant.0;
  more = c.loop-i-test.true;
  room = omega (
    arith,
    locks_few c.args.rows.head c.args.rows.what.now c.args.rows.value.now c.args.rows.fits c.requires.ended,
    c.requires.places,
    c.loop-i.invariant.1,
  );
  reads = reads_at_law c.args.rows.head c.args.rows.what.now c.args.rows.value.now c.args.rows.fits c.loop-i.i c.loop-i-test.true _ _ _ c.action-a.ensures.letters c.action-a.ensures.threads c.action-a.ensures.places;
}

-- ---- the answers
pub loop-i-init : goal.loop-i-init
loop-i-init c = (rw c.none-holds.ensures (filling_start _ _ _ _), refl)

pub hold-requires : goal.hold-requires
hold-requires c = holdable_here (turn (goal.at.hold-requires c).After-action-a)

pub offset_bounds-scratch-n : goal.offset_bounds-scratch-n
offset_bounds-scratch-n c = omega (arith, place_few (turn (goal.at.offset_bounds-scratch-n c).After-action-a))

pub overflow_add-n : goal.overflow_add-n
overflow_add-n c = omega (arith, place_few (turn (goal.at.overflow_add-n c).After-action-a))

pub offset_bounds-scratch-top : goal.offset_bounds-scratch-top
offset_bounds-scratch-top c = omega (arith, top_few (turn (goal.at.offset_bounds-scratch-top c).After-action-a) c.if-k.false c.if-k-2.true)

pub offset_bounds-scratch-top-then-k-2 : goal.offset_bounds-scratch-top-then-k-2
offset_bounds-scratch-top-then-k-2 c = omega (arith, top_few (turn (goal.at.offset_bounds-scratch-top-then-k-2 c).After-action-a) c.if-k.false c.if-k-2.true)

pub bounds-scratch-n : goal.bounds-scratch-n
bounds-scratch-n c = place_in_law (turn (goal.at.bounds-scratch-n c).After-action-a) c.if-k.true

pub hold-depth-requires : goal.hold-depth-requires
hold-depth-requires c = holdable_here (turn (goal.at.hold-depth-requires c).After-action-a)

pub encode-requires : goal.encode-requires
encode-requires c = record { t_bound = omega arith; first_bound = c.loop-i.invariant.0.firsts _ (omega arith); last_bound = omega (arith, c.line_after-line.ensures, first_line_high c.args.rows.head) }

pub bounds-scratch-top : goal.bounds-scratch-top
bounds-scratch-top c = top_in (turn (goal.at.bounds-scratch-top c).After-action-a) c.if-k.false c.if-k-2.true

pub bounds-scratch-top-then-k-2 : goal.bounds-scratch-top-then-k-2
bounds-scratch-top-then-k-2 c = top_in (turn (goal.at.bounds-scratch-top-then-k-2 c).After-action-a) c.if-k.false c.if-k-2.true

pub loop-i-preserved : goal.loop-i-preserved
loop-i-preserved c =
    let u = turn (goal.at.loop-i-preserved c).After-action-a in
    elim c.if-k.branch [
      | then-k w ↦ rw (w.scratch-is, w.holds-is, w.begun-is, w.n-is) (filling_lock u w.hold.ensures w.if-k.true (w.idle_or-first.ensures ∙ ap (idle_or _ _) c.line_after-line.ensures) (omega arith) (omega arith), length-set c.loop-i.scratch c.loop-i.n _ ∙ c.loop-i.invariant.1)
      | else-k+then-k-2 w ↦ rw (w.scratch-is, w.holds-is, w.begun-is, w.n-is) (filling_unlock u w.hold-depth.ensures w.if-k.false w.if-k-2.true (w.encode.ensures ∙ ap (code_of _ _) c.line_after-line.ensures) w.idle_or.ensures, length-set c.loop-i.scratch _ _ ∙ c.loop-i.invariant.1)
      | else-k+else-k-2 w ↦ rw (w.scratch-is, w.holds-is, w.begun-is, w.n-is) (filling_other u w.if-k.false w.if-k-2.false, c.loop-i.invariant.1)
    ]

pub returns : goal.returns
returns c = filling_end _ _ _ c.loop-i.invariant.0 (allowed_bounds c.args.rows.head c.args.rows.fits.accepted.head).0 c.requires.ended c.loop-i-test.false
