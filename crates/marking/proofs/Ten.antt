-- Document 02 (i): a paper without Y, F and C has the verdict that it had; another was refused with 4 at the first of them.
use Prim.Native.Nat.{ℕ}
use native.Mathlib.Omega.{arith}
use mathlib.Core.Path.{◌≡◌, refl, sym, ap, subst, ◌∙◌}
use mathlib.Core.Bool.{true, false≢true}
use mathlib.Core.List.{List, [], ◌∷◌, ◌++◌, map, reverse}
use mathlib.Core.Logic.{◌⊎◌, inl, inr}
use mathlib.Core.Option.{Option, some}
use lib.Dec.{T}
use lib.ListN.{length, length-reverse}
use Rattle.rules.specs.declared.Event.{Event}
use Rattle.rules.specs.declared.Counts.{Counts}
use Rattle.rules.specs.Limits.{full, line_after}
use Rattle.rules.specs.Rules.{words_of, Accepted, Marked, accepted, refused, told, refused_or, mark_read, past_read}
use Rattle.rules.specs.Ten.{is_ten, AllTen, ten_words_of, mark_ten, past_ten}
use Rattle.rules.proofs.Fewer.{pass_turned}
use Rattle.rules.proofs.Ten as Lines
use Rattle.rules.proofs.Ten.{ten_words, ten_or_more, past_ten_law, ten_accepted}
use Rattle.trace.specs.Trace.{trace_of, head_in}
use Rattle.marking.specs.Marking.{lines_in, marked_of, past_of, events_in}
use Rattle.marking.specs.Ten.{ten_of, past_ten_of, SameTen, NewKind}
use Rattle.marking.proofs.Whole.{none_unfound}

module _ (s : List ℕ) where
  abbrev h : Counts
  h = (head_in (trace_of full s))

  -- Every paper: what is marked is without Y, F and C and marked as it was, or 4 was said at the first of these behind accepted events.
  pub ten_or_new : SameTen s ⊎ NewKind s
  unfolding ten_of past_ten_of marked_of past_of mark_ten past_ten mark_read past_read
  ten_or_new = by (told (trace_of full s)) refl (ten_or_more full h (lines_in full s))
    where
      by : (f : Marked) → told (trace_of full s) ≡ f → Lines.SameTen full h (lines_in full s) ⊎ Lines.FirstNew full h (lines_in full s) → SameTen s ⊎ NewKind s
      by f q (inl r) = inl (record { fitting = r.fitting (length (past_of full s)) (omega arith); marked = ap (refused_or (told (trace_of full s))) r.narrow_marked; past = r.narrow_past })
      by (refused n line) q (inr r) = absurd (none_unfound full s n line q r.earlier (some r.event) r.rest r.lines)
      by accepted q (inr r) = inr (record {
        earlier = r.earlier;
        event = r.event;
        rest = r.rest;
        line = line_after h (length (reverse r.earlier));
        lines = r.lines;
        line_is = ap (line_after h) (length-reverse r.earlier);
        clean = subst (λ (es : List Event). T (Accepted full h es)) r.narrow_past (ten_accepted full h (lines_in full s));
        new = r.outside;
        ten_marked = rw q r.narrow_marked;
        marked = rw q r.marked;
      })

  -- A paper without Y, F and C is marked as it was, after the same events.
  pub ten_paper : AllTen (lines_in full s) → SameTen s
  ten_paper a = by ten_or_new
    where
      behind : (earlier : List Event) (e : Event) (rest : List (Option Event)) → AllTen (map some earlier ++ (some e ∷ rest)) → is_ten e ≡ true
      behind [] e rest a = a.0
      behind (d ∷ earlier) e rest a = behind earlier e rest a.1

      by : SameTen s ⊎ NewKind s → SameTen s
      by (inl r) = r
      by (inr r) = absurd (false≢true (sym r.new ∙ behind r.earlier r.event r.rest (subst AllTen r.lines a)))

  -- Its events are of the ten kinds, and so are their words.
  pub events_ten : SameTen s → AllTen (map some (events_in full s))
  unfolding events_in past_ten_of
  events_ten r = pass_turned is_ten (past_of full s) [] (subst (λ (es : List Event). AllTen (map some es)) r.past (past_ten_law full h (lines_in full s))) tt

  pub words_ten : SameTen s → ten_words_of (past_ten_of s) ≡ words_of (past_of full s)
  unfolding past_ten_of
  words_ten r = ten_words (past_ten_of s) (past_ten_law full h (lines_in full s)) ∙ ap (λ (es : List Event). words_of es) r.past
