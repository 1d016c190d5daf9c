-- Document 02 (d): no verdict of a paper changes but 16, and what is accepted with every store counted at N stays accepted with the same memories.
use Prim.Native.Nat.{ℕ}
use mathlib.Core.Path.{◌≡◌, refl}
use mathlib.Core.List.{List, []}
use mathlib.Core.Logic.{◌⊎◌, inl}
use Rattle.rules.specs.Limits.{Limits}
use Rattle.rules.specs.Rules.{Marked, accepted, refused, told, number_in, refused_or, mark_read}
use Rattle.rules.specs.PrescientStores.{mark_strict}
use Rattle.rules.proofs.PrescientStores.{strict_marked, strict_accepted}
use Rattle.trace.specs.Trace.{trace_of, head_in}
use Rattle.marking.specs.Marking.{lines_in, marked_of, past_of}
use Rattle.marking.specs.Strict.{strict_of, past_strict_of}
use Rattle.marking.proofs.Whole.{both}

-- With every store counted at N a paper has the same verdict, or 16.
pub paper_same : (m : Limits) (s : List ℕ) → (strict_of m s ≡ marked_of m s) ⊎ (number_in (strict_of m s) ≡ 16)
unfolding marked_of strict_of
paper_same m s = go (told (trace_of m s)) (mark_strict m (head_in (trace_of m s)) [] (lines_in m s)) (mark_read m (head_in (trace_of m s)) [] (lines_in m s)) (strict_marked m (head_in (trace_of m s)) [] (lines_in m s))
  where
    go : (f a b : Marked) → (a ≡ b) ⊎ (number_in a ≡ 16) → (refused_or f a ≡ refused_or f b) ⊎ (number_in (refused_or f a) ≡ 16)
    go accepted a b r = r
    go (refused number line) a b r = inl refl

-- A paper that is accepted with every store counted is accepted, after the same events, and so with the same memories: `accepted_of` takes these from
-- the events.
pub paper_stays : (m : Limits) (s : List ℕ) → strict_of m s ≡ accepted → (marked_of m s ≡ accepted) × (past_strict_of m s ≡ past_of m s)
unfolding marked_of strict_of past_of past_strict_of
paper_stays m s q =
    let f = both (told (trace_of m s)) (mark_strict m (head_in (trace_of m s)) [] (lines_in m s)) q in
    let r = strict_accepted m (head_in (trace_of m s)) [] (lines_in m s) f.1 in
    (rw f.0 r.0, r.1)
