-- `print::list_sheet` meets its contract.
use Rattle.session.proofs.Answers.{written_by}
use Rattle.print.proofs.list_sheet.Goals as goal

pub returns : goal.returns
returns c = let w = c.mark_sheet.ensures in (written_by _ _ _ _ _ w, w.prints)
