-- `ordering::deny` meets its contract: the loop asks 20 and 21 of each event, 22 is asked at the end. Assumes nothing.
use mathlib.Core.Path.{sym, ap, ◌∙◌}
use Rattle.std.specs.Prelude.{Err}
use Rattle.rules.proofs.Bounds.{allowed_bounds}
use Rattle.ordering.proofs.RowEvents.{reads_at_law}
use Rattle.ordering.proofs.Denying.{begins, ends_open, ends_fit, Turn, holdable_here, stops_bare, stops_again, goes}
use Rattle.ordering.proofs.deny.Goals as goal
use Rattle.ordering.proofs.deny.Goals.{After-action-a}

-- ---- the event at i
abbrev Here : Type 0
Here = After-action-a

turn : (c : Here) → Turn c.args.rows.head c.args.locks.now c.args.rows.what.now c.args.rows.value.now c.loop-i.holds c.loop-i.pending c.loop-i.late c.loop-i.i c.action-a.result.letter c.action-a.result.thread c.action-a.result.place
turn c = record {
  fits = c.args.rows.fits;
  going = c.loop-i.invariant;
  more = c.loop-i-test.true;
  reads = reads_at_law c.args.rows.head c.args.rows.what.now c.args.rows.value.now c.args.rows.fits c.loop-i.i c.loop-i-test.true _ _ _ c.action-a.ensures.letters c.action-a.ensures.threads c.action-a.ensures.places;
}

-- ---- the answers
pub loop-i-init : goal.loop-i-init
loop-i-init c = rw c.none-holds.ensures (begins _ _ _ _)

pub returns-then-k-under : goal.returns-then-k-under
returns-then-k-under c = ap Err c.denied.ensures ∙ stops_bare (turn (goal.at.returns-then-k-under c).After-action-a) c.is_under-under.ensures c.if-k-under.true

pub returns-then-k-late : goal.returns-then-k-late
returns-then-k-late c = ap Err c.denied-then-k-late.ensures ∙ stops_again (turn (goal.at.returns-then-k-late c).After-action-a) c.is_under-under.ensures c.if-k-under.false c.if-k-late.true

pub hold-depth-requires : goal.hold-depth-requires
hold-depth-requires c = holdable_here (turn (goal.at.hold-depth-requires c).After-action-a)

pub loop-i-preserved : goal.loop-i-preserved
loop-i-preserved c = goes (turn (goal.at.loop-i-preserved c).After-action-a) c.is_under-under.ensures c.if-k-under.false c.if-k-late.false c.hold-depth.ensures c.late_after.ensures c.pending_after.ensures

pub is_unfinished-requires : goal.is_unfinished-requires
is_unfinished-requires c = let m = allowed_bounds _ c.args.rows.fits.accepted.head in record { threads_bound = m.0; variables_bound = m.1 }

pub returns-then-is_unfinished : goal.returns-then-is_unfinished
returns-then-is_unfinished c = ap Err c.denied-then-is_unfinished.ensures ∙ ends_open _ _ _ _ c.args.rows.fits c.loop-i.invariant c.loop-i-test.false (sym c.is_unfinished.ensures ∙ c.if-is_unfinished.true)

pub returns : goal.returns
returns c = ends_fit _ _ _ _ c.args.rows.fits c.loop-i.invariant c.loop-i-test.false (sym c.is_unfinished.ensures ∙ c.if-is_unfinished.false)
