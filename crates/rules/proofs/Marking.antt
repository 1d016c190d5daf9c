-- The marking of a whole trace: accepted exactly when no event is refused after those before it; else the first refused event.
use Prim.Native.Nat.{ℕ, zero, suc, ◌<◌}
use native.Mathlib.Omega.{arith}
use native.Mathlib.Nat.{not-suc-le-zero}
use mathlib.Core.Path.{◌≡◌, refl, sym, ap, ◌∙◌, subst}
use mathlib.Core.List.{List, [], ◌∷◌, ◌++◌, reverse, reverse_aux, append_assoc, reverse-append}
use mathlib.Core.Logic.{◌⊎◌, inl, inr}
use lib.Dec.{T}
use lib.ListN.{length, length-reverse}
use Rattle.rules.proofs.Laws.{accepted_cons, accepted_last, accepted_before}
use Rattle.rules.specs.declared.Event.{Event}
use Rattle.rules.specs.declared.Counts.{Counts}
use Rattle.rules.specs.Limits.{Limits, line_after}
use Rattle.rules.specs.Rules.{verdict, Marked, accepted, refused, unless, mark_from, mark, Accepted, FirstBad}

-- ---- one event more

-- the event is accepted: the marking goes on behind it
pub mark_on : (m : Limits) (c : Counts) (es : List Event) (e : Event) (rest : List Event) → verdict m c es e ≡ 0 → mark_from m c es (e ∷ rest) ≡ mark_from m c (e ∷ es) rest
unfolding mark_from
mark_on m c es e rest v = rw v

-- the event is refused: the marking ends with it
pub mark_stop : (m : Limits) (c : Counts) (es : List Event) (e : Event) (rest : List Event) (n : ℕ) → verdict m c es e ≡ suc n → mark_from m c es (e ∷ rest) ≡ refused (suc n) (line_after c (length es))
unfolding mark_from
mark_stop m c es e rest n v = rw v

-- ---- accepted, by the walk and by the list

abbrev Wrong : Marked → Type 0
Wrong accepted = ⊥
Wrong (refused n l) = Unit {0}

split : (n m line : ℕ) (r : Marked) → n ≡ m → unless m line r ≡ accepted → (n ≡ 0) × (r ≡ accepted)
split n zero line r q p = (q, p)
split n (suc m) line r q p = absurd (subst Wrong p tt)

-- an accepted walk: its first event is accepted, and so is the walk behind it
pub walk_parts : (m : Limits) (c : Counts) (es : List Event) (e : Event) (rest : List Event) → mark_from m c es (e ∷ rest) ≡ accepted → (verdict m c es e ≡ 0) × (mark_from m c (e ∷ es) rest ≡ accepted)
unfolding mark_from
walk_parts m c es e rest p = split (verdict m c es e) (verdict m c es e) (line_after c (length es)) (mark_from m c (e ∷ es) rest) refl p

pub walk_accepts : (m : Limits) (c : Counts) (rest es : List Event) → T (Accepted m c es) → mark_from m c es rest ≡ accepted → T (Accepted m c (reverse_aux rest es))
walk_accepts m c [] es a p = a
walk_accepts m c (e ∷ rest) es a p =
    let q = walk_parts m c es e rest p in
    walk_accepts m c rest (e ∷ es) (accepted_cons m c e es q.0 a) q.1

pub left_accepted : (m : Limits) (c : Counts) (rest es : List Event) → T (Accepted m c (reverse_aux rest es)) → T (Accepted m c es)
left_accepted m c [] es a = a
left_accepted m c (e ∷ rest) es a = accepted_before m c e es (left_accepted m c rest (e ∷ es) a)

pub accepts_walk : (m : Limits) (c : Counts) (rest es : List Event) → T (Accepted m c (reverse_aux rest es)) → mark_from m c es rest ≡ accepted
unfolding mark_from
accepts_walk m c [] es a = refl
accepts_walk m c (e ∷ rest) es a =
    let b = left_accepted m c rest (e ∷ es) a in
    rw (accepted_last m c e es b) (accepts_walk m c rest (e ∷ es) a)

-- a trace is accepted exactly when no event of it is refused after those before it
pub mark_accepts : (m : Limits) (c : Counts) (events : List Event) → mark m c events ≡ accepted → T (Accepted m c (reverse events))
unfolding mark Accepted
mark_accepts m c events p = walk_accepts m c events [] tt p

pub accepts_mark : (m : Limits) (c : Counts) (events : List Event) → T (Accepted m c (reverse events)) → mark m c events ≡ accepted
unfolding mark
accepts_mark m c events a = accepts_walk m c events [] a

-- ---- the first bad event

-- a refusal comes from this event, or from the marking behind it
stops : (n k : ℕ) (r : Marked) (number line : ℕ) → unless n k r ≡ refused number line → ((n ≡ 0) × (r ≡ refused number line)) ⊎ ((n ≡ number) × (0 < number) × (line ≡ k))
stops zero k r number line p = inl (refl, p)
stops (suc n) k r number line p = let same : suc n ≡ number = cc in inr (same, omega arith, cc)

walk_refuses : (m : Limits) (c : Counts) (number line : ℕ) (rest before : List Event) → T (Accepted m c (reverse before)) → mark_from m c (reverse before) rest ≡ refused number line → FirstBad m c (before ++ rest) number line
unfolding mark_from
walk_refuses m c number line [] before a p = absurd (subst Wrong (sym p) tt)
walk_refuses m c number line (e ∷ rest) before a p =
    elim (stops (verdict m c (reverse before) e) (line_after c (length (reverse before))) (mark_from m c (e ∷ reverse before) rest) number line p) [
      | inl q ↦ rw append_assoc at (walk_refuses m c number line rest (before ++ (e ∷ [])) (rw reverse-append (accepted_cons m c e (reverse before) q.0 a)) (rw reverse-append q.1))
      | inr q ↦ record { before = before; event = e; rest = rest; place = refl; clean = a; number_is = q.0; wrong = q.1; line_is = q.2 ∙ ap (line_after c) (length-reverse before) }
    ]

-- a trace is refused exactly with the number and line of its first bad event
pub mark_refuses : (m : Limits) (c : Counts) (events : List Event) (number line : ℕ) → mark m c events ≡ refused number line → FirstBad m c events number line
unfolding mark Accepted
mark_refuses m c events number line p = walk_refuses m c number line events [] tt p

-- the marking goes on behind accepted events
walk_over : (m : Limits) (c : Counts) (before es rest : List Event) → T (Accepted m c (reverse_aux before es)) → mark_from m c es (before ++ rest) ≡ mark_from m c (reverse_aux before es) rest
walk_over m c [] es rest a = refl
walk_over m c (e ∷ before) es rest a =
    mark_on m c es e (before ++ rest) (accepted_last m c e es (left_accepted m c before (e ∷ es) a)) ∙ walk_over m c before (e ∷ es) rest a

pub refuses_mark : (m : Limits) (c : Counts) (events : List Event) (number line : ℕ) → FirstBad m c events number line → mark m c events ≡ refused number line
unfolding mark
refuses_mark m c events number line b =
    rw (b.place, b.line_is, ← (length-reverse b.before)) (walk_over m c b.before [] (b.event ∷ b.rest) b.clean ∙ at_bad number b.wrong b.number_is)
  where
    at_bad : (n : ℕ) → 0 < n → verdict m c (reverse b.before) b.event ≡ n → mark_from m c (reverse b.before) (b.event ∷ b.rest) ≡ refused n (line_after c (length (reverse b.before)))
    at_bad zero h v = absurd (not-suc-le-zero h)
    at_bad (suc n) h v = mark_stop m c (reverse b.before) b.event b.rest n v
