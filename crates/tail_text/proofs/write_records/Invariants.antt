-- `tail_text::write_records` meets its contract: the lines of the records so far are written. Assumes nothing.
use mathlib.Core.List.{map}
use Rattle.std.specs.List.{zip}
use Rattle.tail_text.proofs.RowTexts.{Lined}
use Rattle.tail_text.proofs.write_records.Given as goal

abbrev pub invariant-loop-what : goal.invariant-loop-what
invariant-loop-what l = Lined (zip l.fn.what l.fn.value) (map (λ p. (p.0.now, p.1.now)) l.yielded) l.initial.out l.length l.out
