-- Events and lines marked by limits m and by limits n that allow as many events or more: the same, or one event too many for m behind accepted ones.
use Prim.Native.Nat.{ℕ, zero, suc, ◌+◌, ◌≤◌, ◌<◌}
use native.Mathlib.Omega.{arith}
use borrow.Author.Tests.{leb-true, leb-false, le-leb, lt-leb}
use mathlib.Core.Path.{◌≡◌, refl, ap, ◌∙◌}
use mathlib.Core.Bool.{Bool, true, false, not, cond}
use mathlib.Core.List.{List, [], ◌∷◌, ◌++◌, map, reverse, reverse_aux}
use mathlib.Core.Logic.{◌⊎◌, inl, inr}
use mathlib.Core.Option.{Option, none, some}
use lib.Dec.{T, leb}
use lib.ListN.{length, length-reverse}
use Rattle.rules.specs.declared.Event.{Event}
use Rattle.rules.specs.declared.Counts.{Counts}
use Rattle.rules.specs.Events.{letter, among}
use Rattle.rules.specs.Limits.{Limits, line_after}
use Rattle.rules.specs.Rules.{Words, rows, row_in, judge, words_of, answer, verdict, Accepted, accepted, refused, unless, mark_from, mark, mark_read, past_read}
use Rattle.rules.specs.Reading.{read_from}
use Rattle.rules.proofs.Laws.{named_among, at_letter, few, accepted_cons, accepted_legal, legal_accepted}
use Rattle.rules.proofs.Marking.{mark_accepts, accepts_mark}
use Rattle.rules.proofs.Readings.{excess_refused, read_over}

-- no more events are read than the limits allow
pub read_few : (m : Limits) (n : ℕ) (rs : List (Option Event)) → n ≤ m.events → n + length (read_from m n rs) ≤ m.events
unfolding read_from
read_few m n [] p = omega arith
read_few m n (none ∷ rs) p = omega arith
read_few m n (some e ∷ rs) p = go (leb m.events n) refl (read_few m (suc n) rs)
  where
    go : (b : Bool) → leb m.events n ≡ b → (suc n ≤ m.events → suc n + length (read_from m (suc n) rs) ≤ m.events) → n + length (cond b [] (e ∷ read_from m (suc n) rs)) ≤ m.events
    go true q r = omega arith
    go false q r = omega (arith, r (leb-false m.events n q))

-- accepted events are accepted by all limits that allow so many
pub accepted_within : (m n : Limits) (h : Counts) (es : List Event) → 0 < m.excess → length es ≤ n.events → T (Accepted m h es) → T (Accepted n h es)
accepted_within m n h es x p a = legal_accepted n h es (accepted_legal m h es x a) p

pub marked_within : (m n : Limits) (h : Counts) (events : List Event) → 0 < m.excess → m.events ≤ n.events → mark m h events ≡ accepted → mark n h events ≡ accepted
marked_within m n h events x p q =
    let a = mark_accepts m h events q in
    accepts_mark n h events (accepted_within m n h (reverse events) x (omega (arith, few m h (reverse events) x a)) a)

module _ (m n : Limits) (h : Counts) where
  verdict_same : (es : List Event) (e : Event) → length es < m.events → length es < n.events → verdict m h es e ≡ verdict n h es e
  unfolding verdict answer words_of
  verdict_same es e p q = rw (lt-leb m.events (length es) p, lt-leb n.events (length es) q)

  -- where both allow so many
  pub mark_same : (es rest : List Event) → length es + length rest ≤ m.events → length es + length rest ≤ n.events → mark_from m h es rest ≡ mark_from n h es rest
  unfolding mark_from
  mark_same es [] p q = refl
  mark_same es (e ∷ rest) p q = λ i. unless (verdict_same es e (omega arith) (omega arith) i) (line_after h (length es)) (mark_same (e ∷ es) rest (omega arith) (omega arith) i)

  -- the lines are marked the same, after the same events
  pub record Same (es : List Event) (rs : List (Option Event)) : Type 0 where
    pub marked : mark_read m h es rs ≡ mark_read n h es rs
    pub past : past_read m h es rs ≡ past_read n h es rs

  -- behind as many accepted events as m allows comes one more
  pub record Over (es : List Event) (rs : List (Option Event)) : Type 0 where
    pub earlier : List Event
    pub event : Event
    pub rest : List (Option Event)
    pub lines : rs ≡ map some earlier ++ (some event ∷ rest)
    pub count : length earlier + length es ≡ m.events
    pub clean : T (Accepted n h (reverse_aux earlier es))

  pub within_or_over : m.events ≤ n.events → (es : List Event) (rs : List (Option Event)) → length es ≤ m.events → T (Accepted n h es) → Same es rs ⊎ Over es rs
  unfolding mark_read past_read
  within_or_over z es [] p a = inl (record { marked = refl; past = refl })
  within_or_over z es (none ∷ rs) p a = inl (record { marked = refl; past = refl })
  within_or_over z es (some e ∷ rs) p a = by (leb m.events (length es)) refl (verdict n h es e) refl (within_or_over z (e ∷ es) rs)
    where
      by : (b : Bool) → leb m.events (length es) ≡ b → (v : ℕ) → verdict n h es e ≡ v
          → (length es < m.events → T (Accepted n h (e ∷ es)) → Same (e ∷ es) rs ⊎ Over (e ∷ es) rs) → Same es (some e ∷ rs) ⊎ Over es (some e ∷ rs)
      by true q v k r = inr (record { earlier = []; event = e; rest = rs; lines = refl; count = omega (arith, leb-true m.events (length es) q); clean = a })
      by false q v k r = on v k
        where
          room : length es < m.events
          room = leb-false m.events (length es) q

          same : verdict m h es e ≡ verdict n h es e
          same = verdict_same es e room (omega (arith, room))

          next : verdict n h es e ≡ 0 → Same (e ∷ es) rs ⊎ Over (e ∷ es) rs → Same es (some e ∷ rs) ⊎ Over es (some e ∷ rs)
          next k (inl s) = inl (record { marked = rw (same, k) s.marked; past = rw (same, k) s.past })
          next k (inr o) = inr (record {
            earlier = e ∷ o.earlier;
            event = o.event;
            rest = o.rest;
            lines = ap (λ (ls : List (Option Event)). some e ∷ ls) o.lines;
            count = omega (arith, o.count);
            clean = o.clean;
          })

          on : (v : ℕ) → verdict n h es e ≡ v → Same es (some e ∷ rs) ⊎ Over es (some e ∷ rs)
          on zero k = next k (r room (accepted_cons n h e es k a))
          on (suc v) k = inl (record { marked = rw (same, k) refl; past = rw (same, k) refl })

-- ---- behind so many accepted events

module _ (m n : Limits) (h : Counts) (earlier : List Event) (x : 0 < n.excess) (c : length earlier ≡ m.events) (a : T (Accepted n h (reverse earlier))) where
  past_is : length (reverse earlier) ≡ m.events
  past_is = length-reverse earlier ∙ c

  on : (rs : List (Option Event)) → mark_read m h [] (map some earlier ++ rs) ≡ mark_read m h (reverse earlier) rs
  on rs = read_over m h earlier [] rs (accepted_within n m h (reverse earlier) x (omega (arith, past_is)) a)

  -- one event more is one too many,
  pub over_marked : (e : Event) (rest : List (Option Event)) → 0 < m.excess → mark_read m h [] (map some earlier ++ (some e ∷ rest)) ≡ refused m.excess (line_after h m.events)
  unfolding mark_read
  over_marked e rest y = on (some e ∷ rest) ∙ stop (verdict m h (reverse earlier) e) m.excess (excess_refused m h (reverse earlier) e (le-leb m.events (length (reverse earlier)) (omega (arith, past_is)))) y
    where
      stop : (v k : ℕ) → v ≡ k → 0 < k → unless v (line_after h (length (reverse earlier))) (mark_read m h (e ∷ reverse earlier) rest) ≡ refused k (line_after h m.events)
      stop zero k q p = absurd (omega (arith, q, p))
      stop (suc v) k q p = λ i. refused (q i) (line_after h (past_is i))

  -- and a line that is no event is 4
  pub wrong_marked : (rest : List (Option Event)) → mark_read m h [] (map some earlier ++ (none ∷ rest)) ≡ refused 4 (line_after h m.events)
  unfolding mark_read
  wrong_marked rest = on (none ∷ rest) ∙ ap (λ (k : ℕ). refused 4 (line_after h k)) past_is

-- ---- 25 is in no row

pub no_row : (h : Counts) (w : Words) (e : Event) → judge h w e ≡ 25 → ⊥
unfolding judge row_in rows
no_row h w e q = against (among (row_in rows (letter e.kind)) 25) (at_letter (λ k. not (among (row_in rows k) 25)) tt e.kind) (named_among (row_in rows (letter e.kind)) h w e 24 q)
  where
    against : (b : Bool) → T (not b) → T b → ⊥
    against true n i = n
    against false n i = i
