-- Rows that marking accepts: each record has a letter, and the trace of their events is accepted.
use Prim.Native.Nat.{ℕ, zero, suc}
use native.Mathlib.Omega.{arith}
use mathlib.Core.Path.{◌≡◌, refl, sym, ap, ◌∙◌}
use mathlib.Core.Bool.{Bool, true, false}
use mathlib.Core.List.{List, [], ◌∷◌, map}
use mathlib.Core.Option.{Option, none, some}
use lib.IntN.{ℤ, pos}
use lib.ListN.{length, get_or}
use Rattle.rules.specs.declared.Event.{Event}
use Rattle.rules.specs.declared.Counts.{Counts}
use Rattle.rules.specs.Events.{is_letter}
use Rattle.rules.specs.Limits.{Limits, line_after}
use Rattle.rules.specs.Rules.{Marked, accepted, refused, verdict, unless, mark_from, mark, mark_read}
use Rattle.records.specs.Records.{letter_in, record_at, row_lines, event_at, row_events}
use Rattle.rules.specs.Memories.{from}
use Rattle.records.proofs.RecordLaws.{event_some, event_none}

module _ (m : Limits) (h : Counts) where
  -- marking lines that are all events
  pub read_events : (past es : List Event) → mark_read m h past (map some es) ≡ mark_from m h past es
  unfolding mark_read mark_from
  read_events past [] = refl
  read_events past (e ∷ es) = ap (unless (verdict m h past e) (line_after h (length past))) (read_events (e ∷ past) es)

  accepted_rest : (n line : ℕ) (r : Marked) → unless n line r ≡ accepted → r ≡ accepted
  accepted_rest zero line r p = p
  accepted_rest (suc n) line r p = cc

  module _ (ws : List ℕ) (xs : List ℤ) where
    named : (i n : ℕ) (past : List Event) → mark_read m h past (from (record_at h ws xs) i n) ≡ accepted → from (record_at h ws xs) i n ≡ map some (from (event_at h ws xs) i n)
    unfolding mark_read from record_at event_at
    named i zero past p = refl
    named i (suc n) past p = go (is_letter (letter_in (get_or ws i 0))) refl (named (suc i) n)
      where
        go : (b : Bool) → is_letter (letter_in (get_or ws i 0)) ≡ b
            → ((past : List Event) → mark_read m h past (from (record_at h ws xs) (suc i) n) ≡ accepted → from (record_at h ws xs) (suc i) n ≡ map some (from (event_at h ws xs) (suc i) n))
            → record_at h ws xs i ∷ from (record_at h ws xs) (suc i) n ≡ some (event_at h ws xs i) ∷ map some (from (event_at h ws xs) (suc i) n)
        go true l r =
            let x : record_at h ws xs i ≡ some (event_at h ws xs i) = event_some (line_after h i) (get_or ws i 0) (get_or xs i (pos 0)) l in
            let q : mark_read m h past (some (event_at h ws xs i) ∷ from (record_at h ws xs) (suc i) n) ≡ accepted = sym (ap (λ (o : Option Event). mark_read m h past (o ∷ from (record_at h ws xs) (suc i) n)) x) ∙ p in
            λ j. x j ∷ r (event_at h ws xs i ∷ past) (accepted_rest (verdict m h past (event_at h ws xs i)) (line_after h (length past)) _ q) j
        go false l r =
            let x : record_at h ws xs i ≡ none = event_none (line_after h i) (get_or ws i 0) (get_or xs i (pos 0)) l in
            let q : refused 4 (line_after h (length past)) ≡ accepted = sym (ap (λ (o : Option Event). mark_read m h past (o ∷ from (record_at h ws xs) (suc i) n)) x) ∙ p in
            let z : ◌≡◌ {A = ℕ} 0 1 = cc in
            absurd (omega arith)

    pub lines_named : mark_read m h [] (row_lines h ws xs) ≡ accepted → row_lines h ws xs ≡ map some (row_events h ws xs)
    unfolding row_lines row_events
    lines_named p = named 0 (length ws) [] p

    pub row_accepted : mark_read m h [] (row_lines h ws xs) ≡ accepted → mark m h (row_events h ws xs) ≡ accepted
    unfolding mark
    row_accepted p = sym (read_events [] (row_events h ws xs)) ∙ sym (ap (mark_read m h []) (lines_named p)) ∙ p
