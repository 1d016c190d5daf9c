-- Document 02 (f): a paper whose line 3 is not meant as a `V` line is marked as without the line, and as without the volatile rules.
use Prim.Native.Nat.{ℕ}
use mathlib.Core.Path.{◌≡◌, refl, sym, ap}
use mathlib.Core.Bool.{false}
use mathlib.Core.List.{List, []}
use Rattle.rules.specs.Limits.{full, value_width}
use Rattle.rules.specs.Rules.{told, refused_or, answer, verdict, mark_read, past_read}
use Rattle.rules.specs.Plain.{Plain, full_plain}
use Rattle.rules.proofs.Plain.{plain_marked, plain_past}
use Rattle.trace.specs.Trace.{trace_of, meant_volatile, head_in}
use Rattle.trace.proofs.TraceLaws.{never_meant, plain_volatile, plain_alike}
use Rattle.marking.specs.Marking.{lines_in, marked_of, past_of, read_in}
use Rattle.marking.specs.Courses.{MarkedAlike}
use Rattle.marking.specs.Plain.{plain_of, past_plain_of}
use Rattle.marking.proofs.FullWith.{read_with}

module _ (s : List ℕ) where
  -- ---- without the line no variable is volatile

  plain_head : Plain (head_in (trace_of full_plain s))
  plain_head = plain_volatile full_plain s (never_meant full_plain s refl)

  -- Without the line a paper is marked without the volatile rules, after the same events.
  pub plain_rules : (marked_of full_plain s ≡ plain_of s) × (past_of full_plain s ≡ past_plain_of s)
  unfolding marked_of past_of plain_of past_plain_of
  plain_rules = (
    ap (refused_or (told (trace_of full_plain s))) (sym (plain_marked full_plain (head_in (trace_of full_plain s)) plain_head [] (lines_in full_plain s))),
    sym (plain_past full_plain (head_in (trace_of full_plain s)) plain_head [] (lines_in full_plain s)),
  )

  -- ---- a paper that has no `V` line

  module _ (q : meant_volatile full s ≡ false) where
    trace_same : trace_of full_plain s ≡ trace_of full s
    trace_same = plain_alike full_plain.scratch value_width s q

    pub plain_marking : MarkedAlike full_plain s
    unfolding marked_of past_of lines_in mark_read past_read verdict answer
    plain_marking = record { trace = trace_same; marked = rw trace_same refl; past = rw trace_same refl }

    pub plain_read : read_in full_plain s ≡ read_in full s
    unfolding read_in lines_in
    plain_read = rw trace_same (read_with full_plain.scratch value_width false 0 (lines_in full s))
