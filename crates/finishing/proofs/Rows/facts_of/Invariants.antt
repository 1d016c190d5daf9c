-- `finishing::Rows::facts_of` meets its contract. Assumes nothing.
use mathlib.Core.List.{map}
use Rattle.finishing.proofs.Scans.{Scanned}
use Rattle.finishing.proofs.Rows.facts_of.Given as goal

abbrev pub invariant-loop-what : goal.invariant-loop-what
invariant-loop-what l = Scanned l.key.thread l.key.place (map (λ p. (p.0.now, p.1.now)) l.yielded) l.facts
