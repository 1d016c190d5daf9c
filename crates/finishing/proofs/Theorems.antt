-- Document 02 (c) over a trace's bytes: what is given is a shortest tail, and when it is given.
use Prim.Native.Nat.{ℕ, ◌≤◌, ◌<◌}
use native.Mathlib.Omega.{arith}
use native.Mathlib.Decide.{dec_lt}
use mathlib.Core.Path.{◌≡◌, refl, sym, ◌∙◌}
use mathlib.Core.Bool.{Bool, true, false}
use mathlib.Core.Logic.{◌↔◌}
use mathlib.Core.List.{List, reverse_aux}
use lib.Dec.{T}
use lib.ListN.{length}
use Rattle.rules.specs.Limits.{Limits, UpToFull, any_volatile}
use Rattle.rules.specs.Rules.{accepted, refused, words_of, Accepted}
use Rattle.rules.proofs.Bounds.{allowed_bounds, allowed_full}
use Rattle.rules.proofs.Laws.{or_false_left}
use Rattle.trace.specs.Trace.{head_in, trace_of}
use Rattle.marking.specs.Marking.{marked_of, past_of}
use Rattle.marking.proofs.Whole.{head_allowed, past_clean}
use Rattle.tails.specs.Tails.{finished, Shortest}
use Rattle.tails.proofs.Tails.{accepted_shortest, tail_accepted}
use Rattle.finishing.specs.Tail.{HasTail, some_new, tailless, tail_of, tail_verdict}
use Rattle.finishing.proofs.Answers.{Tailed, past_ten_law, tail_few, verdict_refused, verdict_tailless, verdict_short, verdict_given, verdict_tailed}

module _ (m : Limits) (u : UpToFull m) (s : List ℕ) where
  module _ (a : marked_of m s ≡ accepted) (q : tailless m s ≡ false) where
    -- One always exists. It is legal, leaves nothing outstanding, fresh, owed or held, and no such tail has fewer events; and its lines.
    pub paper_shortest : Shortest (head_in (trace_of m s)) (past_of m s) (tail_of m s)
    unfolding tail_of tailless
    paper_shortest =
        accepted_shortest m (head_in (trace_of m s)) (past_of m s) u.excess (allowed_bounds (head_in (trace_of m s)) (allowed_full m (head_in (trace_of m s)) u (head_allowed m s a))).1
        (or_false_left (any_volatile (head_in (trace_of m s))) (some_new (past_of m s)) q) (past_ten_law m u s a q) (past_clean m s)

    -- it has at most 2,256 events (and `tail_reached` has events whose tail has so many)
    pub paper_room : length (tail_of m s) ≤ 2256
    paper_room = tail_few m u s a q

    -- within the limit of events the trace with its tail is accepted, and then nothing is left
    pub paper_finished : length (reverse_aux (tail_of m s) (past_of m s)) ≤ m.events
        → T (Accepted m (head_in (trace_of m s)) (reverse_aux (tail_of m s) (past_of m s))) × (finished (head_in (trace_of m s)) (words_of (reverse_aux (tail_of m s) (past_of m s))) ≡ true)
    paper_finished b = let f = paper_shortest.finishes in (tail_accepted m (head_in (trace_of m s)) (past_of m s) (tail_of m s) f b, f.done)

  -- a tail is given exactly then; otherwise the trace's own refusal, or 24 at line 0
  pub given_exact : (places : ℕ) → (tail_verdict m s places ≡ accepted) ↔ HasTail m s places
  given_exact places = (to, λ h. verdict_given m u s h.accepts h.tails places h.room)
    where
      to : tail_verdict m s places ≡ accepted → HasTail m s places
      to q = let t = verdict_tailed m u s places q in record {
        accepts = t.accepts;
        tails = t.tails;
        room = by (dec_lt places (length (tail_of m s))) t;
      }
        where
          apart : accepted ≡ refused 24 0 → ⊥
          apart r = let z : ◌≡◌ {A = ℕ} 0 1 = cc in omega arith

          by : Dec (places < length (tail_of m s)) → Tailed m u s → length (tail_of m s) ≤ places
          by (yes b) t = absurd (apart (sym q ∙ verdict_short m u s t.accepts t.tails places b))
          by (no b) t = omega arith

  pub refused_own : (places number line : ℕ) → marked_of m s ≡ refused number line → tail_verdict m s places ≡ refused number line
  refused_own places number line q = verdict_refused m u s places number line q

  pub refused_24 : (places : ℕ) → marked_of m s ≡ accepted → (HasTail m s places → ⊥) → tail_verdict m s places ≡ refused 24 0
  refused_24 places a n = by (tailless m s) refl (dec_lt places (length (tail_of m s)))
    where
      by : (b : Bool) → tailless m s ≡ b → Dec (places < length (tail_of m s)) → tail_verdict m s places ≡ refused 24 0
      by true t d = verdict_tailless m u s a places t
      by false t (yes d) = verdict_short m u s a t places d
      by false t (no d) = absurd (n (record { accepts = a; tails = t; room = omega arith }))
