-- Document 02 (f): a paper without a `V` line has the verdict, lines, memories, listing, order and records that it has without the line and the volatile rules.
use Prim.Native.Nat.{ℕ}
use mathlib.Core.Path.{◌≡◌, sym, ◌∙◌}
use mathlib.Core.Bool.{false}
use mathlib.Core.List.{List}
use Rattle.rules.specs.Limits.{full, first_line}
use Rattle.rules.specs.Plain.{full_plain}
use Rattle.trace.specs.Trace.{trace_of, head_in, meant_volatile}
use Rattle.trace.proofs.TraceLaws.{plain_line}
use Rattle.marking.specs.Marking.{marked_of, past_of, read_in}
use Rattle.marking.specs.Plain.{plain_of, past_plain_of}
use Rattle.marking.proofs.Plain.{plain_rules, plain_marking, plain_read}
use Rattle.report.specs.Same.{SameReport}
use Rattle.report.proofs.Same.{same_report}

-- A paper whose line 3 does not begin with `V`. The rows that are room for its records hold the same too, refused or not; its events start at line 3.
pub plain_paper : (s : List ℕ) → meant_volatile full s ≡ false → SameReport full_plain s × (read_in full_plain s ≡ read_in full s) × (first_line (head_in (trace_of full s)) ≡ 3)
plain_paper s q = (same_report full_plain s (plain_marking s q), plain_read s q, plain_line full s q)

-- and its verdict and events are those by the rows without 26 to 28
pub plain_verdict_law : (s : List ℕ) → meant_volatile full s ≡ false → (marked_of full s ≡ plain_of s) × (past_of full s ≡ past_plain_of s)
plain_verdict_law s q = (sym (plain_marking s q).marked ∙ (plain_rules s).0, sym (plain_marking s q).past ∙ (plain_rules s).1)
