-- A whole row, by the steps over its lines.
use Prim.Native.Nat.{ℕ}
use mathlib.Core.Path.{◌≡◌, refl, sym, ap, ◌∙◌, subst}
use mathlib.Core.Bool.{true, false}
use mathlib.Core.List.{List, []}
use lib.IntN.{ℤ}
use lib.ListN.{length, replicate}
use borrow.Author.Tests.{eq-eqb, ne_eqb}
use Rattle.rules.specs.declared.Counts.{Counts}
use Rattle.rules.specs.declared.Course.TheVariants.{Full}
use Rattle.rules.specs.declared.Memories.{Memories}
use Rattle.rules.specs.declared.Refusal.{Refusal}
use Rattle.std.specs.Prelude.{Result, Ok, Err}
use Rattle.rules.specs.Limits.{full, allowed}
use Rattle.rules.specs.Memories.{memories_of}
use Rattle.rules.specs.Rules.{Words, accepted, told, Verdict, mark_read, Accepted}
use Rattle.rules.proofs.Bounds.{up_to_full}
use Rattle.records.specs.Records.{row_lines}
use Rattle.state.specs.declared.State.{State}
use Rattle.state.specs.State.{start}
use Rattle.state.proofs.Kept.{in_range_law}
use Rattle.state.proofs.Stands.{Stands, stands_start, start_shape}
use Rattle.machine.specs.declared.Answer.{Answer}
use Rattle.machine.specs.declared.Tally.{Tally}
use Rattle.machine.specs.Rows.{row_marked, row_past, MarksRow}
use Rattle.machine.specs.Computed.Walk.{walk, outcome_of}
use Rattle.machine.specs.Computed.Tallies.{no_tally, Ready}
use Rattle.machine.proofs.Steps.{Walked, walked}
use Rattle.machine.proofs.Tallies.{start_tallies}

pub ready_start : (h : Counts) (s : State) (a : Tally) → s ≡ start h → a ≡ no_tally → allowed full h ≡ true → Ready s (replicate 8 a)
ready_start h s a es ea ok = subst (λ (z : State). Ready z (replicate 8 a)) (sym es) (record {
  shape = start_shape h;
  ranged = in_range_law full (start h) (stands_start full h ok).range;
  counted = ap (λ (z : Tally). replicate 8 z) ea ∙ start_tallies h;
})

module _ (h : Counts) (ws : List ℕ) (xs : List ℤ) where
  -- 7
  pub row_uneven : (length xs ≡ length ws → ⊥) → MarksRow h ws xs (Err (record { number = 7; line = 0 }))
  unfolding row_marked
  row_uneven d = record { says = rw (ne_eqb _ _ d) refl; holds = tt }

  module _ (even : length xs ≡ length ws) where
    -- 3
    pub row_head : allowed full h ≡ false → MarksRow h ws xs (Err (record { number = 3; line = 1 }))
    unfolding row_marked
    row_head a = record { says = rw (eq-eqb _ _ even, a) refl; holds = tt }

    module _ (ok : allowed full h ≡ true) {s : State} (es : s ≡ start h) where
      abbrev a : Answer
      a = walk full s (row_lines s.counts ws xs)

      marked_is : row_marked full h ws xs ≡ mark_read full h [] (row_lines h ws xs)
      unfolding row_marked
      marked_is = rw (eq-eqb _ _ even, ok) refl

      from_start : a ≡ walk full (start h) (row_lines h ws xs)
      from_start = ap (λ (z : State). walk full z (row_lines z.counts ws xs)) es ∙ unfold start in refl

      went : Walked full h [] (row_lines h ws xs) a
      went = subst (λ (z : Answer). Walked full h [] (row_lines h ws xs) z) (sym from_start) (walked full h [] (row_lines h ws xs) (start h) (up_to_full Full) (unfold Accepted in tt) (stands_start full h ok))

      said_is : told a.verdict ≡ row_marked full h ws xs
      said_is = went.marked ∙ sym marked_is

      stood : accepted ≡ row_marked full h ws xs → Stands full h (row_past full h ws xs) a.state
      unfolding row_past
      stood q = went.stands (sym marked_is ∙ sym q)

      ended : (v : Verdict) → a.verdict ≡ v → MarksRow h ws xs (outcome_of (record { verdict = v; state = a.state }))
      ended (Err r) v = record { says = ap told (sym v) ∙ said_is; holds = tt }
      ended (Ok tt) v =
          let q : accepted ≡ row_marked full h ws xs = ap told (sym v) ∙ said_is in
          record { says = q; holds = ap (λ (w : Words). memories_of w) (stood q).words }

      -- 4, 9, 5 and the row, line by line
      pub row_run : {r : Result Memories Refusal} → r ≡ outcome_of a → MarksRow h ws xs r
      row_run er = subst (MarksRow h ws xs) (sym er) (ended a.verdict refl)
