-- The definition over all locks is the definition over those that are left.
use Rattle.std.proofs.Common.{◌≡◌, drop, length}
use Rattle.lines.specs.Lines.{split_on}
use Rattle.trace.specs.Trace.{no_locks, locks_from}
use Rattle.trace.proofs.read_locks.Given as goal

abbrev pub invariant-loop-i : goal.invariant-loop-i
invariant-loop-i l = record {
  can : (goal.iterator-loop-i).can_next l.i-iterator;
  finite : (goal.iterator-loop-i).is_finite l.i-iterator;
  size : length l.guards ≡ 16;
  same : locks_from 0 no_locks l.locks (drop 1 (split_on 32 l.s)) ≡ locks_from (length l.yielded) l.guards l.locks (drop (length l.yielded) (drop 1 (split_on 32 l.s)));
}
