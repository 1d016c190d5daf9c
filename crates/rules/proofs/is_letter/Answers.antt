-- `rules::is_letter` meets its contract: a letter is a byte that names a kind. Assumes nothing.
use mathlib.Core.Path.{◌∙◌, ap}
use Rattle.std.specs.Prelude.{is_some}
use Rattle.rules.proofs.Flags.{named}
use Rattle.rules.proofs.is_letter.Goals as goal

pub returns : goal.returns
returns c = c.is_some.ensures ∙ ap is_some c.kind_of.ensures ∙ named _ _ _
