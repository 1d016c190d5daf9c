-- One line of a text, as plain numbers.
use Rattle.std.specs.Prelude.{ℕ, ◌+◌, List, cond, ltb, length, take, drop, Option, Some, None}
use Rattle.rules.specs.Limits.{value_width}
use Rattle.lines.specs.Lines.{before, split_on}
use Rattle.events.specs.declared.Line.{Line}
use Rattle.events.specs.Events.{Fields, wrong, right, from_fields}

-- a line's fields, and the place e where the next line starts; none where they are no event
abbrev pub placed : ℕ → Fields → Option Line
placed e wrong = None
placed e (right k t p v) = Some (record { letter = k; thread = t; place = p; value = v; next = e })

-- the line at the front of t, without its end
unfoldable pub front : List ℕ → List ℕ
front t = take (before 10 t) t

-- what f makes of the fields of the line at the front of t, where t starts at `at`; each line is ended by byte 10
unfoldable pub stage : (List (List ℕ) → Fields) → ℕ → List ℕ → Option Line
stage f at t = cond (ltb (before 10 t) (length t)) (placed (at + before 10 t + 1) (f (split_on 32 (front t)))) None

-- the line that starts at `at`
unfoldable pub line_at : List ℕ → ℕ → Option Line
line_at s at = stage (from_fields value_width) at (drop at s)
