-- Document 02 (g): "Old papers whose values all lie within 32 bits give their old verdicts". The full limits with values of 32 bits, and what a line is
-- with values of a narrower width. marking/proofs/Narrow.antt and report/proofs/Narrow.antt prove what the width changes.
use Rattle.std.specs.Prelude.{Bool, true, List, ltb, ℤ}
use Rattle.std.proofs.Math.Option.{Option}
use Rattle.std.specs.Int.Signed.{mag}
use Rattle.std.specs.Int.{Width, w32}
use Rattle.rules.specs.declared.Event.{Event}
use Rattle.rules.specs.Events.{value}
use Rattle.rules.specs.Limits.{Limits, full, full_with, limit}
use Rattle.rules.specs.Reading.{only_if, AllPass}

-- the full limits with document 01's "a value outside 32 bits is 4"
abbrev pub narrow : Limits
narrow = full_with full.scratch w32 true

-- x is from -limit to limit - 1; `mag` of n and of -1 - n is n
abbrev pub fits : Width → ℤ → Bool
fits w x = ltb (mag x) (limit w)

-- its value is of this width
abbrev pub within : Width → Event → Bool
within w e = fits w (value e.kind)

-- what a line is where a value outside this width is 4
abbrev pub narrowed : Width → Option Event → Option Event
narrowed w = only_if (within w)

-- each of these lines that is an event has its value within this width
abbrev pub AllWithin : Width → List (Option Event) → Type 0
AllWithin w = AllPass (within w)
