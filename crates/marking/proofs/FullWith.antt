-- The trace that is found hangs neither on the scratch that is asked for nor on the width of values; what is marked does not hang on the scratch.
use Prim.Native.Nat.{ℕ, suc}
use mathlib.Core.Path.{◌≡◌, refl, ap}
use mathlib.Core.Bool.{Bool, true, cond}
use mathlib.Core.List.{List, [], ◌∷◌}
use mathlib.Core.Option.{Option, none, some}
use lib.Dec.{leb}
use mir.Syntax.{Width}
use Rattle.rules.specs.declared.Event.{Event}
use Rattle.rules.specs.Limits.{full, full_with, value_width}
use Rattle.rules.specs.Rules.{answer, verdict, mark_read, past_read}
use Rattle.rules.specs.Reading.{read_from}
use Rattle.trace.specs.Trace.{trace_of}
use Rattle.trace.proofs.TraceLaws.{trace_same, plain_with}
use Rattle.marking.specs.Marking.{lines_in, marked_of, past_of, read_in}
use Rattle.marking.specs.Courses.{MarkedAlike}

pub trace_with : (k : ℕ) (w : Width) (s : List ℕ) → trace_of (full_with k w true) s ≡ trace_of full s
trace_with k w s = trace_same (full_with k w true) full s refl (plain_with k w true s)

pub read_with : (k : ℕ) (w : Width) (b : Bool) (n : ℕ) (rs : List (Option Event)) → read_from (full_with k w b) n rs ≡ read_from full n rs
unfolding read_from
read_with k w b n [] = refl
read_with k w b n (none ∷ rs) = refl
read_with k w b n (some e ∷ rs) = ap (λ (es : List Event). cond (leb full.events n) [] (e ∷ es)) (read_with k w b (suc n) rs)

-- ---- another scratch

module _ (k : ℕ) (s : List ℕ) where
  pub scratch_alike : MarkedAlike (full_with k value_width true) s
  unfolding marked_of past_of lines_in mark_read past_read verdict answer
  scratch_alike = record { trace = trace_with k value_width s; marked = rw (trace_with k value_width s) refl; past = rw (trace_with k value_width s) refl }

  pub scratch_read : read_in (full_with k value_width true) s ≡ read_in full s
  unfolding read_in lines_in
  scratch_read = rw (trace_with k value_width s) (read_with k value_width true 0 (lines_in full s))
