-- `ordering::gather` meets its contract: the loop puts one number after the other to the list. Assumes nothing.
use Rattle.ordering.proofs.Gathering.{gather_start, gather_in, gather_none, gather_one}
use Rattle.ordering.proofs.gather.Goals as goal
use Rattle.ordering.proofs.gather.Goals.{then-x-ne0, else-x-ne0}

pub loop-x-init : goal.loop-x-init
loop-x-init c = gather_start _ _

pub bounds-list-c : goal.bounds-list-c
bounds-list-c c = gather_in c.requires c.loop-x.invariant c.loop-x-test.true c.if-x-ne0.true

pub loop-x-preserved : goal.loop-x-preserved
loop-x-preserved c =
    elim c.if-x-ne0.branch [
      | then-x-ne0 w ↦ rw (w.list-is, w.c-is) (gather_one c.requires c.loop-x.invariant c.loop-x-test.true w.if-x-ne0.true)
      | else-x-ne0 w ↦ rw (w.list-is, w.c-is) (gather_none c.requires c.loop-x.invariant c.loop-x-test.true w.if-x-ne0.false)
    ]
