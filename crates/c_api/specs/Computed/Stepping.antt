-- One step over plain numbers: the event that is tried, and the reply from what is said of it.
use Rattle.std.specs.Prelude.{ℕ, cond, eqb, pos, Option, Some, None}
use Rattle.rules.specs.declared.Counts.{Counts}
use Rattle.rules.specs.declared.Event.{Event}
use Rattle.rules.specs.declared.Kind.{Kind}
use Rattle.rules.specs.declared.Kind.TheVariants.{Assign}
use Rattle.c_api.specs.declared.Reply.{Reply}

-- a letter that names none: an event of a thread that is not declared
abbrev pub event_of : Counts → Option Kind → ℕ → ℕ → Event
event_of h None t line = record { thread = h.threads; line = line; kind = Assign 0 (pos 0) }
event_of h (Some k) t line = record { thread = t; line = line; kind = k }

-- of such a letter 8, which alone has line 0, and else 4
abbrev pub reply_to : Option Kind → Reply → Reply
reply_to None r = cond (eqb r.line 0) r (record { number = 4; line = r.line })
reply_to (Some k) r = r
