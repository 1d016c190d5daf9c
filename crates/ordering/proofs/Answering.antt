-- The answers, one after the other.
use Prim.Native.Nat.{ℕ, ◌≤◌}
use native.Mathlib.Omega.{arith}
use mathlib.Core.Path.{◌≡◌, refl, sym, ◌∙◌, ap, ap₂}
use mathlib.Core.Bool.{false, cond}
use mathlib.Core.List.{List}
use borrow.Author.Tests.{ltb-false}
use lib.Dec.{ltb}
use lib.IntN.{ℤ}
use lib.ListN.{length, replicate, length-map}
use Rattle.rules.specs.declared.Event.{Event}
use Rattle.rules.specs.declared.Counts.{Counts}
use Rattle.std.specs.Prelude.{Some, None, Ok, Err}
use Rattle.rules.specs.Rules.{Verdict}
use Rattle.rules.specs.declared.Refusal.{Refusal}
use Rattle.rules.specs.Limits.{full, order_short}
use Rattle.rules.proofs.Laws.{or_false_left, or_false_right}
use Rattle.decimal.specs.Text.{over}
use Rattle.trace.specs.Trace.{Guards}
use Rattle.records.specs.Records.{event_at, row_events}
use Rattle.sections.specs.Denials.{Denial, fit, denied}
use Rattle.sections.specs.Refusals.{unfinished, denial}
use Rattle.sections.specs.Order.{order}
use Rattle.sections.specs.Entries.{entry_code}
use Rattle.sections.proofs.Demand3.{ended, room}
use Rattle.ordering.specs.declared.Ordering.{Ordering}
use Rattle.ordering.specs.declared.Ordering.TheVariants.{Ordered, Unordered, NoOrder}
use Rattle.ordering.specs.Answer.{guard_of, locks_in, answer_of, answer_for, entries_for, ordered, Given}
use Rattle.ordering.specs.Computed.Parts.{Fits, told_as, Orders, Written}
use Rattle.ordering.proofs.RowEvents.{past_all}

-- nothing is written
pub untouched : (a : Ordering) (xs list scratch : List ℕ) (r : Ordering) → a ≡ r → ordered r ≡ false → Given a xs list scratch r list scratch
untouched a xs list scratch r p q = record {
  answers = sym p;
  lists = sym (ap (λ b. cond b (over xs list) list) (ap ordered p ∙ q));
  zeros = sym (ap (λ b. cond b (replicate (length scratch) 0) scratch) (ap ordered p ∙ q));
}

module _ (h : Counts) (es : List Event) where
  pub no_guards_law : answer_for h None es ≡ NoOrder
  unfolding answer_for
  no_guards_law = refl

  module _ (locks : List ℕ) where
    abbrev d : Denial
    d = denial h (guard_of locks) es

    pub judged : answer_for h (Some locks) es ≡ answer_of d (length (order h es))
    unfolding answer_for
    judged = refl

    pub is_denied : (v : Verdict) (r : Refusal) → v ≡ Err r → v ≡ told_as d → answer_for h (Some locks) es ≡ Unordered r
    unfolding told_as answer_of
    is_denied v r p q = judged ∙ go d q
      where
        go : (x : Denial) → v ≡ told_as x → answer_of x (length (order h es)) ≡ Unordered r
        go fit q = cc
        go (denied n m) q = cc

    pub is_ordered : d ≡ fit → (list scratch : List ℕ) (c : ℕ) (list' scratch' : List ℕ) → Written (entries_for h es) list scratch c list' scratch'
        → Given (answer_for h (Some locks) es) (entries_for h es) list scratch (Ordered c) list' scratch'
    unfolding answer_of
    is_ordered p list scratch c list' scratch' v = record {
      answers = sym given;
      lists = v.lists ∙ sym (ap (λ b. cond b (over (entries_for h es) list) list) (ap ordered given));
      zeros = v.zeros ∙ sym (ap (λ b. cond b (replicate (length scratch) 0) scratch) (ap ordered given));
    }
      where
        count : length (entries_for h es) ≡ length (order h es)
        count = unfold entries_for in length-map (order h es) entry_code

        given : answer_for h (Some locks) es ≡ Ordered c
        given = judged ∙ ap₂ answer_of p (sym count ∙ sym v.count)

-- where an order is answered, nothing denies it, and its sections are counted
pub answered_fit : (h : Counts) (g : Guards) (es : List Event) (c : ℕ) → answer_for h g es ≡ Ordered c → (denial h (guard_of (locks_in g)) es ≡ fit) × (c ≡ length (order h es))
unfolding answer_for answer_of
answered_fit h (Some locks) es c q = by (denial h (guard_of locks) es) refl q
  where
    by : (x : Denial) → denial h (guard_of locks) es ≡ x → answer_of x (length (order h es)) ≡ Ordered c → (denial h (guard_of locks) es ≡ fit) × (c ≡ length (order h es))
    by fit f q = (f, cc)
    by (denied n m) f q = absurd (let z : ◌≡◌ {A = ℕ} 0 1 = cc in omega arith)
answered_fit h None es c q = absurd (let z : ◌≡◌ {A = ℕ} 0 1 = cc in omega arith)

-- nothing denies an order
pub is_fit : (v : Verdict) (x : Denial) → v ≡ Ok tt → v ≡ told_as x → x ≡ fit
unfolding told_as
is_fit v fit p q = refl
is_fit v (denied n m) p q = cc

-- enough is lent for it
pub orders : (h : Counts) (guard : ℕ → ℕ) (ws : List ℕ) (xs : List ℤ) (list scratch : List ℕ) → Fits h ws xs → order_short full (length list) (length scratch) ≡ false
    → denial h guard (row_events h ws xs) ≡ fit → Orders h ws xs list scratch
unfolding order_short entries_for row_events
orders h guard ws xs list scratch f s p = record {
  fits = f;
  ended = ap (unfinished h) (past_all (event_at h ws xs) (length ws)) ∙ ended h guard (row_events h ws xs) p;
  room =
      let a : 1000 ≤ length list = ltb-false (length list) 1000 (or_false_left (ltb (length list) 1000) (ltb (length scratch) 1000) s) in
      let c = length-map (order h (row_events h ws xs)) entry_code in
      omega (arith, room full h guard (row_events h ws xs) f.accepted p);
  places = ltb-false (length scratch) 1000 (or_false_right (ltb (length list) 1000) (ltb (length scratch) 1000) s);
}
