-- `ordering::Rows::action` meets its contract: the thread and the place are declared ones. Assumes nothing.
use Rattle.ordering.proofs.RowEvents.{reads_at_law}
use Rattle.ordering.proofs.Rows.action.Goals as goal

pub invariant_of-result : goal.invariant_of-result
invariant_of-result c = let r = reads_at_law c.args.self.now.head c.args.self.now.what.now c.args.self.now.value.now c.args.self.now.fits c.args.i c.requires _ _ _ c.letter_in.ensures c.thread_in.ensures c.place_in.ensures in record { thread_low = r.thread_low; place_low = r.place_low }
