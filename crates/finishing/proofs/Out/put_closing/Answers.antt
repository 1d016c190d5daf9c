-- `finishing::Out::put_closing` meets its contract. Assumes nothing.
use borrow.Author.Rules.{rules}
use mir.ValLaws.{to_z-of_z}
use Rattle.rules.specs.Events.{B}
use Rattle.rules.specs.Limits.{value_width}
use Rattle.finishing.specs.Computed.Parts.{entry_of, closing}
use Rattle.finishing.proofs.Adding.{adds_none, adds_entry}
use Rattle.finishing.proofs.Out.put_closing.Goals as goal

pub returns-then-facts : goal.returns-then-facts
unfolding closing
returns-then-facts c = rw c.if-facts.true (adds_entry (entry_of B c.args.key.thread c.args.key.place) c.entry.ensures (to_z-of_z value_width c.args.facts.announced (search rules)) c.put.ensures)

pub returns-then-facts-2 : goal.returns-then-facts-2
unfolding closing
returns-then-facts-2 c = rw (c.if-facts.false, c.if-facts-2.true) c.put_fresh.ensures

pub returns-else-facts-2 : goal.returns-else-facts-2
unfolding closing
returns-else-facts-2 c = rw (c.if-facts.false, c.if-facts-2.false) (adds_none c.args.self.now)
