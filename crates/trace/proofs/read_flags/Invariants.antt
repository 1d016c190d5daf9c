-- The definition over all numbers is the definition from `low` over those that are left.
use Rattle.std.proofs.Common.{◌≡◌, drop, length}
use Rattle.rules.specs.Limits.{no_volatiles}
use Rattle.lines.specs.Lines.{split_on}
use Rattle.trace.specs.Trace.{volatiles_from}
use Rattle.trace.proofs.read_flags.Given as goal

abbrev pub invariant-loop-field : goal.invariant-loop-field
invariant-loop-field l = record {
  can : (goal.iterator-loop-field).can_next l.field-iterator;
  finite : (goal.iterator-loop-field).is_finite l.field-iterator;
  size : length l.volatiles ≡ 16;
  same : volatiles_from l.variables 0 no_volatiles (drop 1 (split_on 32 l.s)) ≡ volatiles_from l.variables l.low l.volatiles (drop (length l.yielded) (drop 1 (split_on 32 l.s)));
}
