-- `judging::any_turn` meets its contract.
use mathlib.Core.Path.{refl}
use mir.ValLaws.{to_z-of_z}
use Rattle.rules.specs.Limits.{value_width}
use Rattle.judging.specs.Computed.Turns.{turn_of}
use Rattle.judging.proofs.any_turn.Goals as goal

pub returns : goal.returns
unfolding turn_of
returns c = rw (c.or-rule.ensures, c.or-3.ensures, c.or-2.ensures, c.or.ensures, c.stores_turn-store.ensures, c.reads_turn-read.ensures, c.cell_turn-alone.ensures, c.wait_turn-waits.ensures, c.lock_turn-lock.ensures, to_z-of_z value_width c.args.x c.ranges.x) refl
