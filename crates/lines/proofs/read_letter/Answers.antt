-- `lines::read_letter` meets its contract.
use Rattle.lines.proofs.FieldLaws.{letter_one, letter_none}
use Rattle.lines.proofs.read_letter.Goals as goal

pub returns-then-f-eq1 : goal.returns-then-f-eq1
returns-then-f-eq1 c = letter_one c.args.f.now c.if-f-eq1.true

pub returns-else-f-eq1 : goal.returns-else-f-eq1
returns-else-f-eq1 c = letter_none c.args.f.now c.if-f-eq1.false
