-- One step over plain numbers: what its letter names, and the answer of the step.
use Prim.Native.Nat.{ℕ}
use mathlib.Core.Bool.{Bool, true, false}
use mathlib.Core.Path.{◌≡◌, refl, sym, ◌∙◌, ap}
use native.Mathlib.Omega.{arith}
use lib.Dec.{leb}
use lib.IntN.{ℤ}
use borrow.Author.Tests.{ne_eqb, le-ltb, leb-true, leb-false}
use Rattle.rules.specs.declared.Counts.{Counts}
use Rattle.rules.specs.declared.Event.{Event}
use Rattle.std.specs.Prelude.{Option, Some, None}
use Rattle.rules.specs.declared.Kind.{Kind}
use Rattle.rules.specs.Events.{kind_of}
use Rattle.rules.specs.Limits.{Limits, UpToFull, declared, line_after}
use Rattle.rules.specs.Rules.{refused}
use Rattle.rules.proofs.Bounds.{first_line_low}
use Rattle.state.specs.declared.State.{State}
use Rattle.state.specs.Range.{in_range}
use Rattle.machine.specs.declared.Answer.{Answer}
use Rattle.machine.specs.Stepped.{unchanged, stepped}
use Rattle.machine.proofs.OneStep.{step_out, step_limit, step_undeclared}
use Rattle.c_api.specs.declared.Reply.{Reply}
use Rattle.c_api.specs.declared.StepReply.{StepReply}
use Rattle.c_api.specs.Replies.{reply_of, no_letter, on_named, step_reply}
use Rattle.c_api.specs.Computed.Stepping.{event_of, reply_to}

-- the reply and the state, from the answer of the event that is tried
abbrev told_reply : Option Kind → Answer → StepReply
told_reply n a = record { reply = reply_to n (reply_of a.verdict); state = a.state }

-- an event of a thread that is not declared
nobody : (h : Counts) (t line : ℕ) → declared h (event_of h None t line) ≡ false
unfolding declared
nobody h t line = rw (le-ltb h.threads h.threads (omega arith)) refl

module _ (m : Limits) (s : State) (up : UpToFull m) (t : ℕ) where
  abbrev line : ℕ
  line = line_after s.counts s.events

  abbrev tried : Event
  tried = event_of s.counts None t line

  -- refused with a number in its line
  turned_away_law : (number : ℕ) → in_range m s ≡ true → unchanged s (refused number line) ≡ stepped m s tried → told_reply None (stepped m s tried) ≡ on_named m s t None
  unfolding reply_of no_letter
  turned_away_law number r e =
      ap (told_reply None) (sym e) ∙ rw (ne_eqb line 0 (omega (arith, first_line_low s.counts)), r) refl

  on_none : told_reply None (stepped m s tried) ≡ on_named m s t None
  on_none = by (in_range m s) refl (leb m.events s.events) refl
    where
      by : (b : Bool) → in_range m s ≡ b → (c : Bool) → leb m.events s.events ≡ c → told_reply None (stepped m s tried) ≡ on_named m s t None
      by false r c q = ap (told_reply None) (sym (step_out m s tried r)) ∙ (unfold reply_of no_letter in rw r refl)
      by true r true q = turned_away_law m.excess r (step_limit m s tried up r m.excess refl (leb-true m.events s.events q))
      by true r false q = turned_away_law 5 r (step_undeclared m s tried up r (leb-false m.events s.events q) (nobody s.counts t line))

  on_name : (n : Option Kind) → told_reply n (stepped m s (event_of s.counts n t line)) ≡ on_named m s t n
  on_name None = on_none
  on_name (Some k) = refl

  module _ (k p : ℕ) (x y : ℤ) (same : y ≡ x) (n : Option Kind) (named : n ≡ kind_of k p y) where
    -- the answer of the event that is tried, and the reply from it
    pub step_told : (at : ℕ) (e : Event) (a : Answer) (v r : Reply) → at ≡ line → e ≡ event_of s.counts n t at → a ≡ stepped m s e → v ≡ reply_of a.verdict → r ≡ reply_to n v
        → record { reply = r; state = a.state } ≡ step_reply m s k t p x
    unfolding step_reply
    step_told at e a v r q f g i j =
        ap (λ (z : Reply). record { reply = z; state = a.state }) (j ∙ ap (reply_to n) i)
        ∙ ap (told_reply n) (g ∙ ap (stepped m s) (f ∙ ap (event_of s.counts n t) q))
        ∙ on_name n ∙ ap (on_named m s t) (named ∙ ap (kind_of k p) same)
