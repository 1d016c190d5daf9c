-- Marking the lines of a trace: as reading them first and marking the events that were read; and what an accepted trace has read.
use Prim.Native.Nat.{ℕ, zero, suc, ◌<◌}
use native.Mathlib.Nat.{not-suc-le-zero}
use mathlib.Core.Path.{◌≡◌, refl, sym, ap, ◌∙◌, subst}
use mathlib.Core.Bool.{Bool, true, false, cond}
use mathlib.Core.List.{List, [], ◌∷◌, ◌++◌, map, reverse, reverse_aux, reverse-reverse}
use mathlib.Core.Option.{Option, none, some}
use lib.Dec.{T, leb}
use lib.ListN.{length}
use Rattle.rules.specs.declared.Event.{Event}
use Rattle.rules.specs.declared.Counts.{Counts}
use Rattle.rules.specs.Limits.{Limits, line_after}
use Rattle.rules.specs.Rules.{words_of, answer, verdict, Marked, accepted, refused, refused_or, unless, passing, mark_from, mark, mark_read, past_read, Accepted}
use Rattle.rules.specs.Reading.{read_from, stop_from}
use Rattle.rules.proofs.Laws.{accepted_cons, accepted_last}
use Rattle.rules.proofs.Marking.{left_accepted, accepts_mark}

-- one event too many is refused, whatever it is
pub excess_refused : (m : Limits) (h : Counts) (es : List Event) (e : Event) → leb m.events (length es) ≡ true → verdict m h es e ≡ m.excess
unfolding verdict answer words_of
excess_refused m h es e q = rw q

-- the marking of lines: the first refusal in line order, of the events that are read or of what ends the reading
pub marked_apart : (m : Limits) (h : Counts) (es : List Event) (rs : List (Option Event)) → 0 < m.excess
    → mark_read m h es rs ≡ refused_or (mark_from m h es (read_from m (length es) rs)) (stop_from m h (length es) rs)
unfolding mark_read mark_from read_from stop_from
marked_apart m h es [] x = refl
marked_apart m h es (none ∷ rs) x = refl
marked_apart m h es (some e ∷ rs) x = go (leb m.events (length es)) refl (marked_apart m h (e ∷ es) rs x)
  where
    stop : (n k : ℕ) (later : Marked) → n ≡ k → 0 < k → unless n (line_after h (length es)) later ≡ refused k (line_after h (length es))
    stop zero k later q p = let z : 0 < 0 = rw (← q) at p in absurd (not-suc-le-zero z)
    stop (suc n) k later q p = rw q

    on : (n : ℕ) (line : ℕ) (a b c : Marked) → a ≡ refused_or b c → unless n line a ≡ refused_or (unless n line b) c
    on zero line a b c q = q
    on (suc n) line a b c q = refl

    go : (b : Bool) → leb m.events (length es) ≡ b → mark_read m h (e ∷ es) rs ≡ refused_or (mark_from m h (e ∷ es) (read_from m (suc (length es)) rs)) (stop_from m h (suc (length es)) rs)
        → unless (verdict m h es e) (line_after h (length es)) (mark_read m h (e ∷ es) rs)
        ≡ refused_or (mark_from m h es (cond b [] (e ∷ read_from m (suc (length es)) rs))) (cond b (refused m.excess (line_after h (length es))) (stop_from m h (suc (length es)) rs))
    go true q r = stop (verdict m h es e) m.excess _ (excess_refused m h es e q) x
    go false q r = on (verdict m h es e) _ _ _ _ r

-- the events before the first refusal are accepted
pub past_accepted : (m : Limits) (h : Counts) (es : List Event) (rs : List (Option Event)) → T (Accepted m h es) → T (Accepted m h (past_read m h es rs))
unfolding past_read
past_accepted m h es [] a = a
past_accepted m h es (none ∷ rs) a = a
past_accepted m h es (some e ∷ rs) a = go (verdict m h es e) refl (past_accepted m h (e ∷ es) rs)
  where
    go : (n : ℕ) → verdict m h es e ≡ n → (T (Accepted m h (e ∷ es)) → T (Accepted m h (past_read m h (e ∷ es) rs))) → T (Accepted m h (passing n es (past_read m h (e ∷ es) rs)))
    go zero q r = r (accepted_cons m h e es q a)
    go (suc n) q r = a

abbrev Wrong : Marked → Type 0
Wrong accepted = ⊥
Wrong (refused n l) = Unit {0}

-- every line is an event, and the events that are read are those before the first refusal
pub record AllRead (m : Limits) (h : Counts) (es : List Event) (rs : List (Option Event)) : Type 0 where
  pub lines : rs ≡ map (λ (e : Event). some e) (read_from m (length es) rs)
  pub past : past_read m h es rs ≡ reverse_aux (read_from m (length es) rs) es

-- an accepted trace has read all its lines
pub all_read : (m : Limits) (h : Counts) (es : List Event) (rs : List (Option Event)) → 0 < m.excess → mark_read m h es rs ≡ accepted → AllRead m h es rs
unfolding mark_read past_read read_from
all_read m h es [] x q = record { lines = refl; past = refl }
all_read m h es (none ∷ rs) x q = absurd (subst Wrong q tt)
all_read m h es (some e ∷ rs) x q = go (leb m.events (length es)) refl (verdict m h es e) refl q (all_read m h (e ∷ es) rs x)
  where
    go : (b : Bool) → leb m.events (length es) ≡ b → (n : ℕ) → verdict m h es e ≡ n → unless n (line_after h (length es)) (mark_read m h (e ∷ es) rs) ≡ accepted
        → (mark_read m h (e ∷ es) rs ≡ accepted → AllRead m h (e ∷ es) rs) → AllRead m h es (some e ∷ rs)
    go true p zero v q r = let z : 0 < 0 = rw (sym (excess_refused m h es e p) ∙ v) at x in absurd (not-suc-le-zero z)
    go b p (suc n) v q r = absurd (subst Wrong q tt)
    go false p zero v q r =
        let a = r q in
        record { lines = unfold read_from in rw p (ap (λ (l : List (Option Event)). some e ∷ l) a.lines); past = unfold read_from past_read in rw (p, v) a.past }

-- the same lists of events, in their own order
pub past_read_law : (m : Limits) (h : Counts) (rs : List (Option Event)) → 0 < m.excess → mark_read m h [] rs ≡ accepted → reverse (past_read m h [] rs) ≡ read_from m 0 rs
past_read_law m h rs x q = ap (λ (l : List Event). reverse l) (all_read m h [] rs x q).past ∙ reverse-reverse (read_from m 0 rs)

-- the events before the first refusal, in their own order, are accepted
pub past_marked : (m : Limits) (h : Counts) (rs : List (Option Event)) → mark m h (reverse (past_read m h [] rs)) ≡ accepted
past_marked m h rs = accepts_mark m h (reverse (past_read m h [] rs)) (rw reverse-reverse (past_accepted m h [] rs (unfold Accepted in tt)))

-- ---- lines that are all events

pub read_events : (m : Limits) (h : Counts) (es rest : List Event) → mark_read m h es (map (λ (e : Event). some e) rest) ≡ mark_from m h es rest
unfolding mark_read mark_from
read_events m h es [] = refl
read_events m h es (e ∷ rest) = ap (λ (k : Marked). unless (verdict m h es e) (line_after h (length es)) k) (read_events m h (e ∷ es) rest)

pub past_events : (m : Limits) (h : Counts) (es rest : List Event) → mark_from m h es rest ≡ accepted → past_read m h es (map (λ (e : Event). some e) rest) ≡ reverse_aux rest es
unfolding past_read mark_from
past_events m h es [] q = refl
past_events m h es (e ∷ rest) q = go (verdict m h es e) q (past_events m h (e ∷ es) rest)
  where
    go : (n : ℕ) → unless n (line_after h (length es)) (mark_from m h (e ∷ es) rest) ≡ accepted
        → (mark_from m h (e ∷ es) rest ≡ accepted → past_read m h (e ∷ es) (map (λ (x : Event). some x) rest) ≡ reverse_aux rest (e ∷ es))
        → passing n es (past_read m h (e ∷ es) (map (λ (x : Event). some x) rest)) ≡ reverse_aux rest (e ∷ es)
    go zero q r = r q
    go (suc n) q r = absurd (subst Wrong q tt)

-- ---- behind accepted events the marking goes on

pub read_over : (m : Limits) (h : Counts) (earlier es : List Event) (rs : List (Option Event)) → T (Accepted m h (reverse_aux earlier es))
    → mark_read m h es (map (λ (e : Event). some e) earlier ++ rs) ≡ mark_read m h (reverse_aux earlier es) rs
unfolding mark_read
read_over m h [] es rs a = refl
read_over m h (e ∷ earlier) es rs a = rw (accepted_last m h e es (left_accepted m h earlier (e ∷ es) a)) (read_over m h earlier (e ∷ es) rs a)
