-- Laws of the verdict: what an accepted event does not break.
use Prim.Native.Nat.{ℕ, zero, suc, ◌+◌, ◌≤◌, ◌<◌}
use native.Mathlib.Omega.{arith}
use native.Mathlib.Nat.{suc-ne-zero, not-suc-le-zero}
use borrow.Author.Tests.{eqb-true, eqb-false, eq-eqb, leb-false, lt-leb, not-true, not-false}
use native.Mathlib.Numerals.{add-one}
use mathlib.Core.Path.{◌≡◌, refl, sym, ap, ap₂, ◌∙◌, subst}
use mathlib.Core.Bool.{Bool, true, false, not, cond, ◌&&◌, ◌||◌, or-false}
use mathlib.Core.List.{List, [], ◌∷◌}
use lib.Dec.{T, eqb, leb, eqb→eq}
use lib.ListN.{length}
use Rattle.rules.specs.declared.Event.{Event}
use Rattle.rules.specs.declared.Kind.{Kind}
use Rattle.rules.specs.declared.Kind.TheVariants.{Use, Assign, Load, Store, Read, Write, Lock, Unlock, PrescientStore, PrescientAssign, Wait, Notify, Resume}
use Rattle.rules.specs.Events.{A, B, C, F, K, L, N, P, R, S, U, W, Y, letter, among, is, of, on, subject, subject_of, locks}
use Rattle.rules.specs.Words.{by}
use Rattle.rules.specs.declared.Counts.{Counts}
use Rattle.rules.specs.Limits.{Limits, most, declared}
use Rattle.rules.specs.Rules.{Words, words_of, none?, loc, held, some, waits_on, waits, no_partner, lock_taken, not_held, not_fresh, eight_already, wrong_neighbour, volatile_order, prescient_volatile, of_waiting, not_notified, breaks, rows, row_in, first_broken, judge, answer, verdict, Accepted, legal_by, legal}

-- ---- Booleans

pub is_true : {b : Bool} → T b → b ≡ true
is_true {b = true} h = refl
is_true {b = false} h = absurd h

-- a test holds, or it does not
pub cases : {X : Type 0} (b : Bool) → (b ≡ true → X) → (b ≡ false → X) → X
cases true f g = f refl
cases false f g = g refl

pub and_left : (a b : Bool) → T (a && b) → T a
and_left true b h = tt
and_left false b h = h

pub and_right : (a b : Bool) → T (a && b) → T b
and_right true b h = h
and_right false b h = absurd h

pub or_false_left : (a b : Bool) → (a || b) ≡ false → a ≡ false
or_false_left true b h = h
or_false_left false b h = refl

pub or_false_right : (a b : Bool) → (a || b) ≡ false → b ≡ false
or_false_right true b h = absurd (subst T h tt)
or_false_right false b h = h

pub or_left : (a b : Bool) → T a → T (a || b)
or_left true b h = tt
or_left false b h = absurd h

pub or_right : (a b : Bool) → T b → T (a || b)
or_right true b h = tt
or_right false b h = h

-- of two, where the first holds and not both, not the second
pub other_false : (a b : Bool) → (a && b) ≡ false → T a → b ≡ false
other_false true b h t = h
other_false false b h t = absurd t

-- ---- the rows

-- none of these rules is broken
abbrev pub Unbroken : List ℕ → Counts → Words → Event → Type 0
Unbroken [] c w e = Unit {0}
Unbroken (n ∷ ns) c w e = (breaks n c w e ≡ false) × Unbroken ns c w e

peel : (b : Bool) (n m : ℕ) → cond b (suc n) m ≡ 0 → (b ≡ false) × (m ≡ 0)
peel true n m p = absurd (suc-ne-zero n p)
peel false n m p = (refl, p)

pub unbroken : (ns : List ℕ) (c : Counts) (w : Words) (e : Event) → first_broken ns c w e ≡ 0 → Unbroken ns c w e
unfolding first_broken breaks
unbroken [] c w e p = tt
unbroken (zero ∷ ns) c w e p = (refl, unbroken ns c w e p)
unbroken (suc n ∷ ns) c w e p = let q = peel (breaks (suc n) c w e) n (first_broken ns c w e) p in (q.0, unbroken ns c w e q.1)

-- an accepted event breaks no rule of its row
pub judged : (c : Counts) (w : Words) (e : Event) (ns : List ℕ) → row_in rows (letter e.kind) ≡ ns → judge c w e ≡ 0 → Unbroken ns c w e
unfolding judge
judged c w e ns r p = subst (λ l. Unbroken l c w e) r (unbroken (row_in rows (letter e.kind)) c w e p)

-- a refusal is of a rule that is broken
pub broken_is : (ns : List ℕ) (c : Counts) (w : Words) (e : Event) (n : ℕ) → first_broken ns c w e ≡ suc n → breaks (suc n) c w e ≡ true
unfolding first_broken
broken_is [] c w e n p = absurd (suc-ne-zero n (sym p))
broken_is (m ∷ ns) c w e n p = go (breaks m c w e) refl p (broken_is ns c w e n)
  where
    go : (b : Bool) → breaks m c w e ≡ b → cond b m (first_broken ns c w e) ≡ suc n → (first_broken ns c w e ≡ suc n → breaks (suc n) c w e ≡ true) → breaks (suc n) c w e ≡ true
    go true q p r = rw (← p) q
    go false q p r = r p

-- and its number stands in the row
pub named_among : (ns : List ℕ) (c : Counts) (w : Words) (e : Event) (n : ℕ) → first_broken ns c w e ≡ suc n → T (among ns (suc n))
unfolding first_broken
named_among [] c w e n p = absurd (suc-ne-zero n (sym p))
named_among (m ∷ ns) c w e n p = go (breaks m c w e) p (named_among ns c w e n)
  where
    go : (b : Bool) → cond b m (first_broken ns c w e) ≡ suc n → (first_broken ns c w e ≡ suc n → T (among ns (suc n))) → T (eqb m (suc n) || among ns (suc n))
    go true p r = or_left (eqb m (suc n)) (among ns (suc n)) (subst T (sym (eq-eqb m (suc n) p)) tt)
    go false p r = or_right (eqb m (suc n)) (among ns (suc n)) (r p)

-- the rule n stands before m in a row
abbrev pub precedes : ℕ → ℕ → List ℕ → Bool
precedes n m [] = false
precedes n m (k ∷ ks) = not (eqb k m) && (eqb k n || precedes n m ks)

-- and is not broken where m is named
pub earlier : (ns : List ℕ) (c : Counts) (w : Words) (e : Event) (n m : ℕ) → first_broken ns c w e ≡ m → T (precedes n m ns) → breaks n c w e ≡ false
unfolding first_broken
earlier [] c w e n m p o = absurd o
earlier (k ∷ ns) c w e n m p o = go (breaks k c w e) refl p (and_left (not (eqb k m)) _ o) (and_right (not (eqb k m)) (eqb k n || precedes n m ns) o) (earlier ns c w e n m)
  where
    go : (b : Bool) → breaks k c w e ≡ b → cond b k (first_broken ns c w e) ≡ m → T (not (eqb k m)) → T (eqb k n || precedes n m ns)
        → (first_broken ns c w e ≡ m → T (precedes n m ns) → breaks n c w e ≡ false) → breaks n c w e ≡ false
    go true q p a b r = absurd (subst (λ x. T (not x)) (eq-eqb k m p) a)
    go false q p a b r = here (eqb k n) refl b
      where
        here : (x : Bool) → eqb k n ≡ x → T (x || precedes n m ns) → breaks n c w e ≡ false
        here true s b = rw (← (eqb-true k n s)) q
        here false s b = r p b

-- and one that breaks none is accepted
pub accepts : (ns : List ℕ) (c : Counts) (w : Words) (e : Event) → Unbroken ns c w e → first_broken ns c w e ≡ 0
unfolding first_broken
accepts [] c w e u = refl
accepts (n ∷ ns) c w e u = rw u.0 (accepts ns c w e u.1)

-- a rule among them is not broken
kept : (n : ℕ) (c : Counts) (w : Words) (e : Event) (ns : List ℕ) → Unbroken ns c w e → T (among ns n) → breaks n c w e ≡ false
kept n c w e [] u h = absurd h
kept n c w e (k ∷ ns) u h = go (eqb k n) refl h (kept n c w e ns u.1)
  where
    go : (b : Bool) → eqb k n ≡ b → T (b || among ns n) → (T (among ns n) → breaks n c w e ≡ false) → breaks n c w e ≡ false
    go true q h r = subst (λ i. breaks i c w e ≡ false) (eqb-true k n q) u.0
    go false q h r = r h

-- ---- the letter of an event is known

-- is it this one letter
pub letter_is : (k : ℕ) (e : Event) → T (is (k ∷ []) e) → k ≡ letter e.kind
unfolding is
letter_is k e h = eqb→eq k (letter e.kind) (or_none (eqb k (letter e.kind)) h)
  where
    or_none : (b : Bool) → T (b || false) → T b
    or_none true h = tt
    or_none false h = h

-- an accepted event keeps each rule of its row, wherever the rule stands in it
pub row_kept : (n : ℕ) (c : Counts) (w : Words) (e : Event) → judge c w e ≡ 0 → T (among (row_in rows (letter e.kind)) n) → breaks n c w e ≡ false
unfolding judge
row_kept n c w e p h = kept n c w e (row_in rows (letter e.kind)) (unbroken (row_in rows (letter e.kind)) c w e p) h

-- f holds of each of these numbers
abbrev pub all_of : (ℕ → Bool) → List ℕ → Bool
all_of f [] = true
all_of f (k ∷ ks) = f k && all_of f ks

-- and so of one among them
pub each_among : (f : ℕ → Bool) (ks : List ℕ) (n : ℕ) → T (all_of f ks) → T (among ks n) → T (f n)
each_among f [] n a h = absurd h
each_among f (k ∷ ks) n a h = go (eqb k n) refl h (each_among f ks n (and_right (f k) (all_of f ks) a))
  where
    go : (b : Bool) → eqb k n ≡ b → T (b || among ks n) → (T (among ks n) → T (f n)) → T (f n)
    go true q h r = subst (λ i. T (f i)) (eqb-true k n q) (and_left (f k) (all_of f ks) a)
    go false q h r = r h

-- an event with one of the letters ks has one of js, where each of ks is among js
pub is_among : (ks js : List ℕ) (e : Event) → T (all_of (among js) ks) → T (is ks e) → T (is js e)
unfolding is
is_among ks js e m h = each_among (among js) ks (letter e.kind) m h

-- and none of js, where none of ks is among js
pub is_apart : (ks js : List ℕ) (e : Event) → T (all_of (λ n. not (among js n)) ks) → T (is ks e) → is js e ≡ false
unfolding is
is_apart ks js e m h = not-true (among js (letter e.kind)) (is_true (each_among (λ n. not (among js n)) ks (letter e.kind) m h))

-- an event with none of js has none of ks
pub is_none : (ks js : List ℕ) (e : Event) → T (all_of (among js) ks) → is js e ≡ false → is ks e ≡ false
is_none ks js e m q = cases (is ks e) (λ p. absurd (subst T q (is_among ks js e m (subst T (sym p) tt)))) (λ p. p)

-- and one that is not T's on V with a letter of js is not so with one of ks
pub by_none : (ks js : List ℕ) (t v : ℕ) (e : Event) → T (all_of (among js) ks) → by js t v e ≡ false → by ks t v e ≡ false
unfolding by
by_none ks js t v e m q = cases (is ks e) (λ p. rw p (other_false (is js e) (of t e && on v e) q (is_among ks js e m (subst T (sym p) tt)))) (λ p. rw p)

-- rule n stands in the row of letter k
abbrev pub in_row : ℕ → ℕ → Bool
in_row n k = among (row_in rows k) n

-- an accepted event with one of these letters, in whose rows the rule stands, keeps it
pub letter_kept : (n : ℕ) (ks : List ℕ) (c : Counts) (w : Words) (e : Event) → judge c w e ≡ 0 → T (all_of (in_row n) ks) → T (is ks e) → breaks n c w e ≡ false
unfolding is
letter_kept n ks c w e p r h = row_kept n c w e p (each_among (in_row n) ks (letter e.kind) r h)

-- the letters of the kinds
abbrev pub letters : List ℕ
letters = U ∷ A ∷ L ∷ S ∷ R ∷ W ∷ K ∷ N ∷ P ∷ B ∷ Y ∷ F ∷ C ∷ []

pub lettered : (k : Kind) → T (among letters (letter k))
lettered (Use v x) = tt
lettered (Assign v x) = tt
lettered (Load v x) = tt
lettered (Store v x) = tt
lettered (Read v x) = tt
lettered (Write v x) = tt
lettered (Lock l) = tt
lettered (Unlock l) = tt
lettered (PrescientStore v x) = tt
lettered (PrescientAssign v x) = tt
lettered (Wait l) = tt
lettered (Notify l u) = tt
lettered (Resume l) = tt

-- what holds of each of them holds of a kind's letter
pub at_letter : (f : ℕ → Bool) → T (all_of f letters) → (k : Kind) → T (f (letter k))
at_letter f a k = each_among f letters (letter k) a (lettered k)

-- an accepted event keeps the volatile rules, which lead each row
pub neighbour_kept : (c : Counts) (w : Words) (e : Event) → judge c w e ≡ 0 → wrong_neighbour c w e ≡ false
unfolding breaks row_in rows
neighbour_kept c w e p = row_kept 26 c w e p (at_letter (λ k. among (row_in rows k) 26) tt e.kind)

pub order_kept : (c : Counts) (w : Words) (e : Event) → judge c w e ≡ 0 → volatile_order c w e ≡ false
unfolding breaks row_in rows
order_kept c w e p = row_kept 27 c w e p (at_letter (λ k. among (row_in rows k) 27) tt e.kind)

pub prescient_kept : (c : Counts) (w : Words) (e : Event) → judge c w e ≡ 0 → prescient_volatile c e ≡ false
unfolding breaks row_in rows
prescient_kept c w e p = row_kept 28 c w e p (at_letter (λ k. among (row_in rows k) 28) tt e.kind)

-- an accepted load has an outstanding read
pub load_partner : (c : Counts) (w : Words) (e : Event) → judge c w e ≡ 0 → T (is (L ∷ []) e) → none? (w.reads e.thread (loc e)) ≡ false
unfolding breaks no_partner is row_in rows
load_partner c w e p h = simp (← (letter_is L e h), or-false) at (letter_kept 10 (L ∷ []) c w e p tt h)

-- an accepted write has an outstanding store
pub write_partner : (c : Counts) (w : Words) (e : Event) → judge c w e ≡ 0 → T (is (W ∷ []) e) → none? (w.stores e.thread (loc e)) ≡ false
unfolding breaks no_partner is row_in rows
write_partner c w e p h = simp (← (letter_is W e h), or-false) at (letter_kept 10 (W ∷ []) c w e p tt h)

-- an accepted N, Y or F is of a lock that is held
pub unlock_held : (c : Counts) (w : Words) (e : Event) → judge c w e ≡ 0 → T (is (N ∷ Y ∷ F ∷ []) e) → held w e.thread (loc e) ≡ true
unfolding breaks not_held row_in rows
unlock_held c w e p h = not-false _ (other_false (is (N ∷ Y ∷ F ∷ []) e) (not (held w e.thread (loc e))) (letter_kept 12 (N ∷ Y ∷ F ∷ []) c w e p tt h) h)

-- a lock that an accepted K or C takes is held by no other thread
pub lock_free : (c : Counts) (w : Words) (e : Event) → judge c w e ≡ 0 → T (locks e) → some c.threads (λ t. not (eqb t e.thread) && held w t (loc e)) ≡ false
unfolding breaks lock_taken locks row_in rows
lock_free c w e p h = other_false (is (K ∷ C ∷ []) e) _ (letter_kept 11 (K ∷ C ∷ []) c w e p tt h) h

-- an accepted read or store has room
pub read_room : (c : Counts) (w : Words) (e : Event) → judge c w e ≡ 0 → T (is (R ∷ []) e) → leb most (length (w.reads e.thread (loc e))) ≡ false
unfolding breaks eight_already is row_in rows
read_room c w e p h = simp (← (letter_is R e h), or-false) at (letter_kept 19 (R ∷ []) c w e p tt h)

pub store_room : (c : Counts) (w : Words) (e : Event) → judge c w e ≡ 0 → T (is (S ∷ []) e) → leb most (length (w.stores e.thread (loc e))) ≡ false
unfolding breaks eight_already is row_in rows
store_room c w e p h = simp (← (letter_is S e h), or-false) at (letter_kept 19 (S ∷ []) c w e p tt h)

pub prescient_room : (c : Counts) (w : Words) (e : Event) → judge c w e ≡ 0 → T (is (P ∷ []) e) → leb most (length (w.stores e.thread (loc e))) ≡ false
unfolding breaks eight_already is row_in rows
prescient_room c w e p h = simp (← (letter_is P e h), or-false) at (letter_kept 19 (P ∷ []) c w e p tt h)

-- an accepted store has a fresh assign
pub store_fresh : (c : Counts) (w : Words) (e : Event) → judge c w e ≡ 0 → T (is (S ∷ []) e) → not (w.fresh e.thread (loc e)) ≡ false
unfolding breaks not_fresh is row_in rows
store_fresh c w e p h = simp (← (letter_is S e h), or-false) at (letter_kept 14 (S ∷ []) c w e p tt h)

-- an accepted event other than C, R and W is of a thread that does not wait
abbrev pub barred : List ℕ
barred = U ∷ A ∷ L ∷ S ∷ K ∷ N ∷ P ∷ B ∷ Y ∷ F ∷ []

pub not_waiting : (c : Counts) (w : Words) (e : Event) → judge c w e ≡ 0 → T (is barred e) → waits c w e.thread ≡ false
unfolding breaks of_waiting is row_in rows
not_waiting c w e p h = other_false (not (is (C ∷ R ∷ W ∷ []) e)) _ (letter_kept 29 barred c w e p tt h) (each_among (λ k. not (among (C ∷ R ∷ W ∷ []) k)) barred (letter e.kind) tt h)

-- an accepted C is of a thread that waits on the lock, and is notified on it
pub resume_waits : (c : Counts) (w : Words) (e : Event) → judge c w e ≡ 0 → T (is (C ∷ []) e) → (waits_on w e.thread (loc e) && w.notified e.thread (loc e)) ≡ true
unfolding breaks not_notified subject_of is row_in rows
resume_waits c w e p h = not-false _ (simp (← (letter_is C e h)) at (letter_kept 30 (C ∷ []) c w e p tt h))

-- an accepted F is for a thread that waits on the lock, and is not notified on it
pub notify_waits : (c : Counts) (w : Words) (e : Event) → judge c w e ≡ 0 → T (is (F ∷ []) e) → (not (waits_on w (subject e) (loc e)) || w.notified (subject e) (loc e)) ≡ false
unfolding breaks not_notified is row_in rows
notify_waits c w e p h = other_false (is (F ∷ []) e) _ (or_false_left (is (F ∷ []) e && (not (waits_on w (subject e) (loc e)) || w.notified (subject e) (loc e))) _ (letter_kept 30 (F ∷ []) c w e p tt h)) h

-- ---- an accepted list

pub accepted_cons : (m : Limits) (c : Counts) (e : Event) (es : List Event) → verdict m c es e ≡ 0 → T (Accepted m c es) → T (Accepted m c (e ∷ es))
unfolding Accepted
accepted_cons m c e es v a = rw v a

pub accepted_last : (m : Limits) (c : Counts) (e : Event) (es : List Event) → T (Accepted m c (e ∷ es)) → verdict m c es e ≡ 0
unfolding Accepted
accepted_last m c e es a = eqb→eq (verdict m c es e) 0 (and_left (eqb (verdict m c es e) 0) (Accepted m c es) a)

pub accepted_before : (m : Limits) (c : Counts) (e : Event) (es : List Event) → T (Accepted m c (e ∷ es)) → T (Accepted m c es)
unfolding Accepted
accepted_before m c e es a = and_right (eqb (verdict m c es e) 0) (Accepted m c es) a

-- what an answer of 0 says: there is room, the event is declared, and its row is clear
pub record Passed (m : Limits) (c : Counts) (w : Words) (e : Event) : Type 0 where
  pub room : leb m.events w.events ≡ false
  pub known : declared c e ≡ true
  pub row : judge c w e ≡ 0

pub passed : (m : Limits) (c : Counts) (w : Words) (e : Event) → 0 < m.excess → answer m c w e ≡ 0 → Passed m c w e
unfolding answer
passed m c w e x p = go (leb m.events w.events) (declared c e) refl refl p
  where
    go : (a b : Bool) → leb m.events w.events ≡ a → declared c e ≡ b → cond a m.excess (cond b (judge c w e) 5) ≡ 0 → Passed m c w e
    go true b q r p = absurd (none m.excess x p)
      where
        none : (n : ℕ) → 0 < n → n ≡ 0 → ⊥
        none n h e = omega arith
    go false true q r p = record { room = q; known = r; row = p }
    go false false q r p = absurd (suc-ne-zero 4 p)

-- an accepted list is no longer than the limit
pub few : (m : Limits) (c : Counts) (es : List Event) → 0 < m.excess → T (Accepted m c es) → length es ≤ m.events
unfolding verdict words_of
few m c [] x a = omega arith
few m c (e ∷ es) x a = leb-false m.events (length es) (passed m c (words_of es) e x (accepted_last m c e es a)).room

-- ---- a legal list

-- by whichever judgement j
module _ (j : Counts → Words → Event → ℕ) (c : Counts) (e : Event) (es : List Event) where
  pub legal_by_cons : declared c e ≡ true → j c (words_of es) e ≡ 0 → T (legal_by j c es) → T (legal_by j c (e ∷ es))
  unfolding legal_by
  legal_by_cons d p l = rw (d, p) l

  pub legal_by_known : T (legal_by j c (e ∷ es)) → declared c e ≡ true
  unfolding legal_by
  legal_by_known l = is_true (and_left (declared c e) (eqb (j c (words_of es) e) 0 && legal_by j c es) l)

  pub legal_by_row : T (legal_by j c (e ∷ es)) → j c (words_of es) e ≡ 0
  unfolding legal_by
  legal_by_row l = eqb→eq (j c (words_of es) e) 0 (and_left (eqb (j c (words_of es) e) 0) (legal_by j c es) (and_right (declared c e) (eqb (j c (words_of es) e) 0 && legal_by j c es) l))

  pub legal_by_before : T (legal_by j c (e ∷ es)) → T (legal_by j c es)
  unfolding legal_by
  legal_by_before l = and_right (eqb (j c (words_of es) e) 0) (legal_by j c es) (and_right (declared c e) (eqb (j c (words_of es) e) 0 && legal_by j c es) l)

-- what is legal by the judgement j is so by one that finds nothing where j finds nothing
pub legal_by_less : (j i : Counts → Words → Event → ℕ) (c : Counts) → ((w : Words) (e : Event) → j c w e ≡ 0 → i c w e ≡ 0) → (es : List Event) → T (legal_by j c es) → T (legal_by i c es)
legal_by_less j i c f [] l = unfold legal_by in tt
legal_by_less j i c f (e ∷ es) l = legal_by_cons i c e es (legal_by_known j c e es l) (f (words_of es) e (legal_by_row j c e es l)) (legal_by_less j i c f es (legal_by_before j c e es l))

-- by the rows
module _ (c : Counts) (e : Event) (es : List Event) where
  pub legal_cons : declared c e ≡ true → judge c (words_of es) e ≡ 0 → T (legal c es) → T (legal c (e ∷ es))
  legal_cons = legal_by_cons judge c e es

  pub legal_known : T (legal c (e ∷ es)) → declared c e ≡ true
  legal_known = legal_by_known judge c e es

  pub legal_row : T (legal c (e ∷ es)) → judge c (words_of es) e ≡ 0
  legal_row = legal_by_row judge c e es

  pub legal_before : T (legal c (e ∷ es)) → T (legal c es)
  legal_before = legal_by_before judge c e es

-- an accepted list is legal
pub accepted_legal : (m : Limits) (c : Counts) (es : List Event) → 0 < m.excess → T (Accepted m c es) → T (legal c es)
unfolding legal_by verdict
accepted_legal m c [] x a = tt
accepted_legal m c (e ∷ es) x a =
    let p = passed m c (words_of es) e x (accepted_last m c e es a) in
    legal_cons c e es p.known p.row (accepted_legal m c es x (accepted_before m c e es a))

clear : (m : Limits) (c : Counts) (e : Event) (es : List Event) → declared c e ≡ true → judge c (words_of es) e ≡ 0 → length es < m.events → verdict m c es e ≡ 0
unfolding verdict answer
clear m c e es d p h = rw (room, d, p)
  where
    room : leb m.events (words_of es).events ≡ false
    room = unfold words_of in lt-leb m.events (length es) h

-- and a legal list within the limit is accepted
pub legal_accepted : (m : Limits) (c : Counts) (es : List Event) → T (legal c es) → length es ≤ m.events → T (Accepted m c es)
unfolding Accepted
legal_accepted m c [] l h = tt
legal_accepted m c (e ∷ es) l h = accepted_cons m c e es (clear m c e es (legal_known c e es l) (legal_row c e es l) h) (legal_accepted m c es (legal_before c e es l) (omega arith))

-- ---- a search over the numbers below n

pub some_has : (n : ℕ) (f : ℕ → Bool) (u : ℕ) → u < n → f u ≡ true → some n f ≡ true
unfolding some
some_has zero f u h q = absurd (not-suc-le-zero h)
some_has (suc n) f u h q = go (eqb u n) refl (λ k. some_has n f u k q)
  where
    below : (u ≡ n → ⊥) → u < n
    below d = omega arith

    go : (x : Bool) → eqb u n ≡ x → (u < n → some n f ≡ true) → (f n || some n f) ≡ true
    go true e r = rw (← (eqb-true u n e), q)
    go false e r = is_true (or_right (f n) (some n f) (subst T (sym (r (below (eqb-false u n e)))) tt))

-- where the search finds none, f holds of no number below n
pub some_none : (n : ℕ) (f : ℕ → Bool) → some n f ≡ false → (u : ℕ) → u < n → f u ≡ false
some_none n f p u h = go (f u) refl
  where
    go : (b : Bool) → f u ≡ b → b ≡ false
    go true q = sym (some_has n f u h q) ∙ p
    go false q = refl

-- and back
pub none_some : (n : ℕ) (f : ℕ → Bool) → ((u : ℕ) → u < n → f u ≡ false) → some n f ≡ false
unfolding some
none_some zero f h = refl
none_some (suc n) f h = rw (h n (omega arith)) (none_some n f (λ u k. h u (omega arith)))

-- f is the same wherever it is asked
pub some_ext : (n : ℕ) (f g : ℕ → Bool) → ((i : ℕ) → i < n → f i ≡ g i) → some n f ≡ some n g
unfolding some
some_ext zero f g h = refl
some_ext (suc n) f g h = ap₂ (λ a b. a || b) (h n (omega arith)) (some_ext n f g (λ i k. h i (omega arith)))

-- `some` of no number, of one number more, and of as many
pub some_start : (f : ℕ → Bool) → false ≡ some 0 f
unfolding some
some_start f = refl

pub some_more : (n : ℕ) (f : ℕ → Bool) {b c : Bool} → b ≡ some n f → c ≡ f n → (c || b) ≡ some (n + 1) f
unfolding some
some_more n f p q = rw (add-one n, p, q)

pub some_end : (n : ℕ) (f : ℕ → Bool) {i : ℕ} {b : Bool} → i ≤ n → n ≤ i → b ≡ some i f → b ≡ some n f
some_end n f {i} h k p = p ∙ ap (λ j. some j f) {x = i} {y = n} (omega arith)
