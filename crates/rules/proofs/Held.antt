-- The holds on a lock, after a legal list: each K of T is held, given up at a Y, or undone by an N; each Y but the last has its C;
-- and who waits on a lock does not hold it. So "held" is more K than N, with Y and C counted as document 02 (i) says.
use Prim.Native.Nat.{ℕ, suc, pred, ◌+◌, ◌≤◌, ◌<◌}
use native.Mathlib.Omega.{arith}
use mathlib.Core.Path.{◌≡◌, refl, sym, ap, ◌∙◌, subst}
use mathlib.Core.Bool.{Bool, true, false, not, cond, ◌&&◌, ◌||◌, true≢false, false≢true}
use mathlib.Core.List.{List, [], ◌∷◌}
use mathlib.Core.Option.{some}
use lib.Dec.{T, eqb, ltb, eqb→eq}
use borrow.Author.Tests.{eqb-true, lt-ltb, ltb-true, ltb-false, le-ltb, not-false}
use Rattle.rules.specs.declared.Event.{Event}
use Rattle.rules.specs.declared.Kind.{Kind}
use Rattle.rules.specs.declared.Kind.TheVariants.{Lock, Unlock, Wait, Resume, Read, Load, PrescientStore, Write, Notify, PrescientAssign, Assign, Use, Store}
use Rattle.rules.specs.declared.Counts.{Counts}
use Rattle.rules.specs.Events.{C, F, K, N, Y, letter, subject, subject_of, among, is, of, on, locks, unlocks}
use Rattle.rules.specs.Held.{Balance, Balanced}
use Rattle.rules.specs.Words.{latest, letter_in, count, by, Grip, grip_after, grip, depth, remembered, tells, notified}
use Rattle.rules.specs.Rules.{words_of, loc, held, waits_on, waits, judge, legal}
use Rattle.rules.proofs.Laws.{cases, is_true, and_left, and_right, legal_row, legal_before, unlock_held, not_waiting, resume_waits, notify_waits, other_false, or_false_left, all_of, is_among, is_apart, by_none, some_none}
use Rattle.rules.proofs.Letters.{eqb_turn}
use Rattle.rules.proofs.Simulation.{by_is, by_thread, by_loc}

not_remembered : (a : ℕ) → a ≡ 0 → ltb 0 a ≡ false
not_remembered a q = le-ltb 0 a (omega arith)

-- the letters of the events that change what a thread has of a lock
abbrev pub gripping : List ℕ
gripping = K ∷ N ∷ Y ∷ C ∷ []

pub grip_kept : (t l : ℕ) (e : Event) (g : Grip) → by gripping t l e ≡ false → grip_after t l e g ≡ g
unfolding grip_after
grip_kept t l e g q = rw (by_none (K ∷ []) gripping t l e tt q, by_none (N ∷ []) gripping t l e tt q, by_none (Y ∷ []) gripping t l e tt q, by_none (C ∷ []) gripping t l e tt q)

-- one event more: x, it is T's on this lock
module _ (k n y c h a : ℕ) (b : Balance k n y c h a) where
  lock_balance : (x : Bool) → (T x → a ≡ 0) → Balance (cond x (suc k) k) n y c (cond x (suc h) h) a
  lock_balance true z = record { holds = omega (arith, b.holds); waited = b.waited; apart = λ p. absurd (omega (arith, z tt, p)) }
  lock_balance false z = b

  unlock_balance : (x : Bool) → (T x → 0 < h) → Balance k (cond x (suc n) n) y c (cond x (pred h) h) a
  unlock_balance true z = record { holds = shift (z tt) b.holds; waited = b.waited; apart = λ p. ap pred (b.apart p) }
    where
      shift : 0 < h → k ≡ h + a + n → k ≡ pred h + a + suc n
      shift p q = omega arith
  unlock_balance false z = b

  wait_balance : (x : Bool) → (T x → (0 < h) × (a ≡ 0)) → Balance k n (cond x (suc y) y) c (cond x 0 h) (cond x h a)
  wait_balance true z = record { holds = omega (arith, b.holds, (z tt).1); waited = rw (lt-ltb 0 h (z tt).0) (ap suc (rw (not_remembered a (z tt).1) at b.waited)); apart = λ p. refl }
  wait_balance false z = b

  resume_balance : (x : Bool) → (T x → 0 < a) → Balance k n y (cond x (suc c) c) (cond (x && ltb 0 a) a h) (cond x 0 a)
  resume_balance true z = record { holds = rw (lt-ltb 0 a (z tt)) (omega (arith, b.holds, b.apart (z tt))); waited = rw (lt-ltb 0 a (z tt)) at b.waited; apart = λ p. absurd (omega (arith, p)) }
  resume_balance false z = b

module _ (c : Counts) (t l : ℕ) (d : l < c.locks) (es : List Event) where
  -- an event of T, on this lock
  abbrev here : ℕ → ℕ → Bool
  here u i = eqb u t && eqb i l

  at_thread : (u i : ℕ) → T (here u i) → u ≡ t
  at_thread u i x = eqb→eq u t (and_left (eqb u t) (eqb i l) x)

  at_lock : (u i : ℕ) → T (here u i) → i ≡ l
  at_lock u i x = eqb→eq i l (and_right (eqb u t) (eqb i l) x)

  some_held : (u i : ℕ) → T (here u i) → held (words_of es) u i ≡ true → 0 < depth t l es
  unfolding words_of
  some_held u i x q = ltb-true 0 (depth t l es) (rw (at_thread u i x, at_lock u i x) at q)

  none_remembered : (u i : ℕ) → T (here u i) → waits c (words_of es) u ≡ false → remembered t l es ≡ 0
  unfolding words_of waits
  none_remembered u i x q = let p : remembered u l es ≤ 0 = ltb-false 0 (remembered u l es) (some_none c.locks (λ m. ltb 0 (remembered u m es)) q l d) in rw (← (at_thread u i x)) (omega arith)

  some_remembered : (u i : ℕ) → T (here u i) → (waits_on (words_of es) u i && (words_of es).notified u i) ≡ true → 0 < remembered t l es
  unfolding words_of
  some_remembered u i x q =
      let p : ltb 0 (remembered u i es) ≡ true = is_true (and_left (ltb 0 (remembered u i es)) ((words_of es).notified u i) (subst T (sym q) tt)) in
      ltb-true 0 (remembered t l es) (rw (at_thread u i x, at_lock u i x) at p)

  balance_next : (k : Kind) (u ln : ℕ) → T (is gripping (record { thread = u; line = ln; kind = k })) → judge c (words_of es) (record { thread = u; line = ln; kind = k }) ≡ 0 → Balanced t l es → Balanced t l (record { thread = u; line = ln; kind = k } ∷ es)
  unfolding count by is of on grip grip_after depth remembered
  balance_next (Use _ _) u ln o j b = elim o [ ]
  balance_next (Assign _ _) u ln o j b = elim o [ ]
  balance_next (Load _ _) u ln o j b = elim o [ ]
  balance_next (Store _ _) u ln o j b = elim o [ ]
  balance_next (Read _ _) u ln o j b = elim o [ ]
  balance_next (Write _ _) u ln o j b = elim o [ ]
  balance_next (PrescientStore _ _) u ln o j b = elim o [ ]
  balance_next (PrescientAssign _ _) u ln o j b = elim o [ ]
  balance_next (Notify _ _) u ln o j b = elim o [ ]
  balance_next (Lock i) u ln o j b = lock_balance _ _ _ _ _ _ b (here u i) (λ x. none_remembered u i x (not_waiting c (words_of es) _ j tt))
  balance_next (Unlock i) u ln o j b = unlock_balance _ _ _ _ _ _ b (here u i) (λ x. some_held u i x (unlock_held c (words_of es) _ j tt))
  balance_next (Wait i) u ln o j b = wait_balance _ _ _ _ _ _ b (here u i) (λ x. (some_held u i x (unlock_held c (words_of es) _ j tt), none_remembered u i x (not_waiting c (words_of es) _ j tt)))
  balance_next (Resume i) u ln o j b = resume_balance _ _ _ _ _ _ b (here u i) (λ x. some_remembered u i x (resume_waits c (words_of es) _ j tt))

  balance_kept : (e : Event) → by gripping t l e ≡ false → Balanced t l es → Balanced t l (e ∷ es)
  unfolding count grip grip_after depth remembered
  balance_kept e q b = rw (by_none (K ∷ []) gripping t l e tt q, by_none (N ∷ []) gripping t l e tt q, by_none (Y ∷ []) gripping t l e tt q, by_none (C ∷ []) gripping t l e tt q) b

-- on a legal list, for each thread and each declared lock
pub balanced : (c : Counts) (t l : ℕ) (es : List Event) → l < c.locks → T (legal c es) → Balanced t l es
unfolding count grip depth remembered
balanced c t l [] d a = record { holds = refl; waited = refl; apart = λ p. refl }
balanced c t l (e ∷ es) d a =
    let b = balanced c t l es d (legal_before c e es a) in
    cases (by gripping t l e) (λ q. balance_next c t l d es e.kind e.thread e.line (by_is gripping t l e (subst T (sym q) tt)) (legal_row c e es a) b) (λ q. balance_kept c t l d es e q b)

-- ---- one event more, after any list

-- an event that is none of T's with the letters js is none of T's on the lock with letters among them
own_none : (ks js : List ℕ) (t l : ℕ) (e : Event) → T (all_of (among js) ks) → (is js e && of t e) ≡ false → by ks t l e ≡ false
unfolding by
own_none ks js t l e a h = cases (is ks e) (λ p. rw (p, other_false (is js e) (of t e) h (is_among ks js e a (subst T (sym p) tt)))) (λ p. rw p)

-- a hold is lost by the thread's own N or Y alone
pub depth_keeps : (t l : ℕ) (e : Event) (es : List Event) → (unlocks e && of t e) ≡ false → 0 < depth t l es → 0 < depth t l (e ∷ es)
unfolding depth grip grip_after unlocks
depth_keeps t l e es h p = rw (own_none (N ∷ []) (N ∷ Y ∷ []) t l e tt h, own_none (Y ∷ []) (N ∷ Y ∷ []) t l e tt h) (go (by (K ∷ []) t l e) (by (C ∷ []) t l e) (ltb 0 (grip t l es).remembered) refl)
  where
    go : (x y z : Bool) → ltb 0 (grip t l es).remembered ≡ z → 0 < cond x (suc (grip t l es).held) (cond (y && z) (grip t l es).remembered (grip t l es).held)
    go true y z q = omega arith
    go false true true q = ltb-true 0 (grip t l es).remembered q
    go false true false q = p
    go false false z q = p

-- and got by its own K or C alone
pub depth_gains : (t l : ℕ) (e : Event) (es : List Event) → (locks e && of t e) ≡ false → 0 < depth t l (e ∷ es) → 0 < depth t l es
unfolding depth grip grip_after locks
depth_gains t l e es h p = go (by (N ∷ []) t l e) (by (Y ∷ []) t l e) (rw (own_none (K ∷ []) (K ∷ C ∷ []) t l e tt h, own_none (C ∷ []) (K ∷ C ∷ []) t l e tt h) at p)
  where
    one : (n : ℕ) → 0 < pred n → 0 < n
    one n q = omega arith

    go : (x y : Bool) → 0 < cond x (pred (grip t l es).held) (cond y 0 (grip t l es).held) → 0 < (grip t l es).held
    go true y p = one (grip t l es).held p
    go false true p = absurd (omega (arith, p))
    go false false p = p

-- what was given up at a Y changes by the thread's own Y and C on the lock alone
pub remembered_keeps : (t l : ℕ) (e : Event) (es : List Event) → by (Y ∷ C ∷ []) t l e ≡ false → remembered t l (e ∷ es) ≡ remembered t l es
unfolding remembered grip grip_after
remembered_keeps t l e es h = rw (by_none (Y ∷ []) (Y ∷ C ∷ []) t l e tt h, by_none (C ∷ []) (Y ∷ C ∷ []) t l e tt h)

-- ---- who waits, after a legal list

-- a thread waits on one lock at a time: for a state that keeps one lock and one number for each thread
module _ (c : Counts) (t : ℕ) where
  abbrev One : List Event → Type 0
  One es = (l i : ℕ) → l < c.locks → i < c.locks → 0 < remembered t l es → 0 < remembered t i es → l ≡ i

  -- the thread of an accepted Y waits on no lock
  unwaited : (es : List Event) (u ln n : ℕ) → judge c (words_of es) (record { thread = u; line = ln; kind = Wait n }) ≡ 0 → (l : ℕ) → l < c.locks → (grip u l es).remembered ≤ 0
  unfolding words_of waits remembered is
  unwaited es u ln n j l d = ltb-false 0 (grip u l es).remembered (some_none c.locks (λ m. ltb 0 (grip u m es).remembered) (not_waiting c (words_of es) (record { thread = u; line = ln; kind = Wait n }) j tt) l d)

  one_kept : (es : List Event) (e : Event) → is (Y ∷ C ∷ []) e ≡ false → One es → One (e ∷ es)
  unfolding by
  one_kept es e q b l i dl di a z = b l i dl di (rw (remembered_keeps t l e es (rw q refl)) at a) (rw (remembered_keeps t i e es (rw q refl)) at z)

  one_next : (es : List Event) (k : Kind) (u ln : ℕ) → T (is (Y ∷ C ∷ []) (record { thread = u; line = ln; kind = k })) → judge c (words_of es) (record { thread = u; line = ln; kind = k }) ≡ 0 → One es → One (record { thread = u; line = ln; kind = k } ∷ es)
  unfolding by is of on grip grip_after remembered
  one_next es (Use _ _) u ln o j b = elim o [ ]
  one_next es (Assign _ _) u ln o j b = elim o [ ]
  one_next es (Load _ _) u ln o j b = elim o [ ]
  one_next es (Store _ _) u ln o j b = elim o [ ]
  one_next es (Read _ _) u ln o j b = elim o [ ]
  one_next es (Write _ _) u ln o j b = elim o [ ]
  one_next es (Lock _) u ln o j b = elim o [ ]
  one_next es (Unlock _) u ln o j b = elim o [ ]
  one_next es (PrescientStore _ _) u ln o j b = elim o [ ]
  one_next es (PrescientAssign _ _) u ln o j b = elim o [ ]
  one_next es (Notify _ _) u ln o j b = elim o [ ]
  one_next es (Wait n) u ln o j b = λ l i dl di. go (eqb u t) refl l i dl di
    where
      idle : u ≡ t → (l : ℕ) → l < c.locks → 0 < (grip t l es).remembered → ⊥
      idle p l d h = omega (arith, h, rw p at (unwaited es u ln n j l d))

      go : (x : Bool) → eqb u t ≡ x → (l i : ℕ) → l < c.locks → i < c.locks
          → 0 < cond (x && eqb n l) (grip t l es).held (grip t l es).remembered → 0 < cond (x && eqb n i) (grip t i es).held (grip t i es).remembered → l ≡ i
      go false q l i dl di a z = b l i dl di a z
      go true q l i dl di a z = here (eqb n l) (eqb n i) refl refl a z
        where
          here : (x y : Bool) → eqb n l ≡ x → eqb n i ≡ y → 0 < cond x (grip t l es).held (grip t l es).remembered → 0 < cond y (grip t i es).held (grip t i es).remembered → l ≡ i
          here true true p r a z = sym (eqb-true n l p) ∙ eqb-true n i r
          here true false p r a z = absurd (idle (eqb-true u t q) i di z)
          here false y p r a z = absurd (idle (eqb-true u t q) l dl a)
  one_next es (Resume n) u ln o j b = λ l i dl di a z. b l i dl di (back (eqb u t && eqb n l) (grip t l es).remembered a) (back (eqb u t && eqb n i) (grip t i es).remembered z)
    where
      back : (x : Bool) (m : ℕ) → 0 < cond x 0 m → 0 < m
      back true m h = absurd (omega (arith, h))
      back false m h = h

pub waits_one : (c : Counts) (t : ℕ) (es : List Event) → T (legal c es) → (l i : ℕ) → l < c.locks → i < c.locks → 0 < remembered t l es → 0 < remembered t i es → l ≡ i
waits_one c t [] a = λ l i dl di p q. absurd (unfold remembered grip in omega (arith, p))
waits_one c t (e ∷ es) a =
    let b = waits_one c t es (legal_before c e es a) in
    cases (is (Y ∷ C ∷ []) e) (λ q. one_next c t es e.kind e.thread e.line (subst T (sym q) tt) (legal_row c e es a) b) (λ q. one_kept c t es e q b)

-- the waiting that an event other than F is about is its own thread's
pub own_subject : (e : Event) → is (F ∷ []) e ≡ false → subject e ≡ e.thread
unfolding is subject_of
own_subject e h = rw (eqb_turn (letter e.kind) F, or_false_left (eqb F (letter e.kind)) false h)

module _ (t l : ℕ) (e : Event) where
  told_letter : T (is (Y ∷ F ∷ C ∷ []) e) → is (Y ∷ F ∷ C ∷ []) e ≡ true
  told_letter h = is_true h

  -- an F that tells t something of l is for t, on l
  told : is (F ∷ []) e ≡ true → tells t l e ≡ true → (loc e ≡ l) × (subject e ≡ t)
  unfolding tells on
  told f p = pick (eqb (subject e) t) (eqb (loc e) l) refl refl (rw (told_letter (is_among (F ∷ []) (Y ∷ F ∷ C ∷ []) e tt (subst T (sym f) tt))) at p)
    where
      pick : (a b : Bool) → eqb (subject e) t ≡ a → eqb (loc e) l ≡ b → (a && b) ≡ true → (loc e ≡ l) × (subject e ≡ t)
      pick true true p q h = (eqb-true (loc e) l q, eqb-true (subject e) t p)
      pick true false p q h = absurd (false≢true h)
      pick false b p q h = absurd (false≢true h)

  -- and is no Y or C
  no_turn : is (F ∷ []) e ≡ true → by (Y ∷ C ∷ []) t l e ≡ false
  unfolding by
  no_turn f = rw (is_apart (F ∷ []) (Y ∷ C ∷ []) e tt (subst T (sym f) tt))

  -- an event that tells t nothing of l is no Y or C of t on l
  untold : tells t l e ≡ false → by (Y ∷ C ∷ []) t l e ≡ false
  unfolding by tells of
  untold p = go (is (Y ∷ C ∷ []) e) refl
    where
      go : (x : Bool) → is (Y ∷ C ∷ []) e ≡ x → (x && (eqb e.thread t && on l e)) ≡ false
      go true q = let h = subst T (sym q) tt in rw (told_letter (is_among (Y ∷ C ∷ []) (Y ∷ F ∷ C ∷ []) e tt h), own_subject e (is_apart (Y ∷ C ∷ []) (F ∷ []) e tt h)) at p
      go false q = refl

  -- who is notified by an accepted F waits on its lock
  subject_waits : (c : Counts) (es : List Event) → judge c (words_of es) e ≡ 0 → is (F ∷ []) e ≡ true → tells t l e ≡ true → 0 < remembered t l es
  unfolding words_of
  subject_waits c es j f p =
      let q : (loc e ≡ l) × (subject e ≡ t) = told f p in
      let w : not (ltb 0 (remembered (subject e) (loc e) es)) ≡ false = or_false_left (not (ltb 0 (remembered (subject e) (loc e) es))) ((words_of es).notified (subject e) (loc e)) (notify_waits c (words_of es) e j (subst T (sym f) tt)) in
      ltb-true 0 (remembered t l es) (not-false _ (rw (q.1, q.0) at w))

-- who was notified on a lock waits on it
pub notified_waits : (c : Counts) (t l : ℕ) (es : List Event) → T (legal c es) → notified t l es ≡ true → 0 < remembered t l es
unfolding notified latest letter_in
notified_waits c t l [] a q = absurd (false≢true q)
notified_waits c t l (e ∷ es) a q = go (tells t l e) refl q (notified_waits c t l es (legal_before c e es a))
  where
    go : (b : Bool) → tells t l e ≡ b → letter_in (F ∷ []) (cond b (some e) (latest (tells t l) es)) ≡ true → (letter_in (F ∷ []) (latest (tells t l) es) ≡ true → 0 < remembered t l es) → 0 < remembered t l (e ∷ es)
    go true p f r = rw (remembered_keeps t l e es (no_turn t l e f)) (subject_waits t l e c es (legal_row c e es a) f p)
    go false p f r = rw (remembered_keeps t l e es (untold t l e p)) (r f)

-- A thread waits from its Y to its C: it waits on a lock exactly where the latest of its Y and C on it is a Y.
module _ (c : Counts) (t l : ℕ) (e : Event) (es : List Event) (j : judge c (words_of es) e ≡ 0) (h : by (Y ∷ C ∷ []) t l e ≡ true) where
  turned : T (is (Y ∷ C ∷ []) e)
  turned = by_is (Y ∷ C ∷ []) t l e (subst T (sym h) tt)

  own_turn : (of t e && on l e) ≡ true
  own_turn = is_true (and_right (is (Y ∷ C ∷ []) e) (of t e && on l e) (unfold by in subst T (sym h) tt))

  other_turn : is (Y ∷ []) e ≡ false → T (is (Y ∷ C ∷ []) e) → is (C ∷ []) e ≡ true
  unfolding is
  other_turn q h = pick (eqb Y (letter e.kind)) (eqb C (letter e.kind)) q h
    where
      pick : (a b : Bool) → (a || false) ≡ false → T (a || (b || false)) → (b || false) ≡ true
      pick true b q h = absurd (true≢false q)
      pick false b q h = is_true h

  given_up_law : is (Y ∷ []) e ≡ true → 0 < depth t l es
  unfolding words_of
  given_up_law q =
      let p : ltb 0 (depth e.thread (loc e) es) ≡ true = unlock_held c (words_of es) e j (is_among (Y ∷ []) (N ∷ Y ∷ F ∷ []) e tt (subst T (sym q) tt)) in
      ltb-true 0 (depth t l es) (rw (by_thread (Y ∷ C ∷ []) t l e (subst T (sym h) tt), by_loc (Y ∷ C ∷ []) t l e (subst T (sym h) tt)) at p)

  turn_waits : ltb 0 (remembered t l (e ∷ es)) ≡ is (Y ∷ []) e
  unfolding remembered grip grip_after by depth
  turn_waits = rw own_turn (go (is (Y ∷ []) e) refl)
    where
      go : (b : Bool) → is (Y ∷ []) e ≡ b → ltb 0 (cond (b && true) (grip t l es).held (cond (is (C ∷ []) e && true) 0 (grip t l es).remembered)) ≡ b
      go true q = lt-ltb 0 (grip t l es).held (given_up_law q)
      go false q = rw (resumed q)
        where
          resumed : is (Y ∷ []) e ≡ false → is (C ∷ []) e ≡ true
          resumed q = other_turn q turned

pub waits_between : (c : Counts) (t l : ℕ) (es : List Event) → T (legal c es) → ltb 0 (remembered t l es) ≡ letter_in (Y ∷ []) (latest (by (Y ∷ C ∷ []) t l) es)
unfolding latest letter_in
waits_between c t l [] a = unfold remembered grip in refl
waits_between c t l (e ∷ es) a = go (by (Y ∷ C ∷ []) t l e) refl (waits_between c t l es (legal_before c e es a))
  where
    go : (b : Bool) → by (Y ∷ C ∷ []) t l e ≡ b → ltb 0 (remembered t l es) ≡ letter_in (Y ∷ []) (latest (by (Y ∷ C ∷ []) t l) es) → ltb 0 (remembered t l (e ∷ es)) ≡ letter_in (Y ∷ []) (cond b (some e) (latest (by (Y ∷ C ∷ []) t l) es))
    go true q r = turn_waits c t l e es (legal_row c e es a) q
    go false q r = rw (remembered_keeps t l e es q) r
