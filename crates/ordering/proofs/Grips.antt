-- What the levels, the depths and what is remembered stand for after one event more. A depth is the sum of its thread's levels, since an accepted N gives up a hold that
-- is there. What is remembered is a sum too, of which one number is not 0, since a thread waits on one lock.
use Prim.Native.Nat.{ℕ, suc, pred, ◌+◌, ◌-◌, ◌*◌, ◌<◌, ◌≤◌}
use native.Mathlib.Decide.{ℕ_discrete}
use native.Mathlib.Omega.{arith}
use mathlib.Core.Path.{◌≡◌, refl, sym, ◌∙◌, ap, ap₂, subst}
use mathlib.Core.Bool.{Bool, true, false, cond, ◌&&◌, ◌||◌, and-false, and-true, false≢true}
use mathlib.Core.List.{List, [], ◌∷◌}
use borrow.Author.Tests.{eq-eqb, ne_eqb, eqb-true, ltb-true, ltb-false, lt-ltb}
use lib.Dec.{T, eqb, ltb}
use lib.ListN.{length, get_or, set, replicate, length-set, get_or-replicate}
use lib.Seq.{get_or-set_same, get_or-set_other, set-get_or}
use Rattle.rules.specs.declared.Event.{Event}
use Rattle.rules.specs.declared.Counts.{Counts}
use Rattle.rules.specs.Events.{C, F, K, N, Y, among, is, of, on, on_lock, lock_letters, locks, unlocks, subject}
use Rattle.rules.specs.Limits.{declared}
use Rattle.rules.specs.Words.{by, locks_by, grip_after, grip, depth, remembered, pending}
use Rattle.rules.specs.Rules.{some, loc, words_of, waits, held, legal}
use Rattle.rules.proofs.Laws.{is_true, and_left, and_right, or_false_left, or_false_right, all_of, is_among, barred, legal_known, legal_row, legal_before, unlock_held, not_waiting, resume_waits, some_has, some_ext}
use Rattle.rules.proofs.Held.{balanced, waits_one}
use Rattle.sections.specs.Places.{unlocks_by, holds_some}
use Rattle.sections.specs.Refusals.{unfinished}
use Rattle.sections.proofs.Holding.{same_holds, gains_none, lock_taken_law}
use Rattle.ordering.specs.declared.Holds.{Holds}
use Rattle.ordering.specs.Computed.Parts.{takes_hold, gives_hold, exchanges, level_after, no_holds, Holdable, Held, pending_in, unfinished_in}
use Rattle.ordering.proofs.Arrays.{thread_set, cell_set}
use Rattle.ordering.proofs.Sums.{total_some, total_same, total_zero, total_low, total_moved, total_one}
use Rattle.rules.proofs.Sums.{total, total_part}
use Rattle.ordering.proofs.Scanned.{Reads, apart, Owed}

-- ---- what one event leaves of a hold

grip_low : (t l : ℕ) (es : List Event) → ((grip t l es).held ≤ length es) × ((grip t l es).remembered ≤ length es)
unfolding grip grip_after
grip_low t l [] = (omega arith, omega arith)
grip_low t l (e ∷ es) = (held (by (K ∷ []) t l e) (by (N ∷ []) t l e) (by (Y ∷ []) t l e) (by (C ∷ []) t l e && ltb 0 (grip t l es).remembered) (grip_low t l es), kept (by (Y ∷ []) t l e) (by (C ∷ []) t l e) (grip_low t l es))
  where
    x : ℕ
    x = (grip t l es).held

    m : ℕ
    m = (grip t l es).remembered

    less : pred x ≤ x
    less = omega arith

    held : (a b c d : Bool) → (x ≤ length es) × (m ≤ length es) → cond a (suc x) (cond b (pred x) (cond c 0 (cond d m x))) ≤ suc (length es)
    held true b c d r = omega (arith, r.0)
    held false true c d r = omega (arith, r.0, less)
    held false false true d r = omega arith
    held false false false true r = omega (arith, r.1)
    held false false false false r = omega (arith, r.0)

    kept : (a b : Bool) → (x ≤ length es) × (m ≤ length es) → cond a x (cond b 0 m) ≤ suc (length es)
    kept true b r = omega (arith, r.0)
    kept false true r = omega arith
    kept false false r = omega (arith, r.1)

module _ (es : List Event) (k u p : ℕ) (e : Event) (r : Reads k u p e) where
  by_letter : (c t l : ℕ) → by (c ∷ []) t l e ≡ (eqb k c && (eqb u t && eqb p l))
  unfolding by of on
  by_letter c t l = rw (r.letter_is c, r.whose, r.places)

  grip_other : (t l : ℕ) → (u ≡ t → p ≡ l → ⊥) → grip t l (e ∷ es) ≡ grip t l es
  unfolding grip grip_after
  grip_other t l n = rw (none K, none N, none Y, none C)
    where
      none : (c : ℕ) → by (c ∷ []) t l e ≡ false
      none c = by_letter c t l ∙ ap (λ b. eqb k c && b) (apart u t p l n) ∙ and-false (eqb k c)

  own_letter : (c : ℕ) → by (c ∷ []) u p e ≡ eqb k c
  own_letter c = by_letter c u p ∙ rw (eq-eqb u u refl, eq-eqb p p refl) (and-true (eqb k c))

  -- the holds x and what is remembered m, after the letter c
  abbrev held_by : ℕ → ℕ → ℕ → ℕ
  held_by c x m = cond (eqb c K) (suc x) (cond (eqb c N) (pred x) (cond (eqb c Y) 0 (cond (eqb c C && ltb 0 m) m x)))

  abbrev remembered_by : ℕ → ℕ → ℕ → ℕ
  remembered_by c x m = cond (eqb c Y) x (cond (eqb c C) 0 m)

  depth_own : depth u p (e ∷ es) ≡ held_by k (depth u p es) (remembered u p es)
  unfolding depth remembered grip grip_after
  depth_own = rw (own_letter K, own_letter N, own_letter Y, own_letter C)

  remembered_own : remembered u p (e ∷ es) ≡ remembered_by k (depth u p es) (remembered u p es)
  unfolding depth remembered grip grip_after
  remembered_own = rw (own_letter Y, own_letter C)

  -- a letter other than Y and C
  module _ (z : exchanges k ≡ false) where
    depth_plain : depth u p (e ∷ es) ≡ level_after (depth u p es) k
    unfolding level_after
    depth_plain = depth_own ∙ rw (or_false_left (eqb k Y) (eqb k C) z, or_false_right (eqb k Y) (eqb k C) z)

    remembered_plain : remembered u p (e ∷ es) ≡ remembered u p es
    remembered_plain = remembered_own ∙ rw (or_false_left (eqb k Y) (eqb k C) z, or_false_right (eqb k Y) (eqb k C) z)

  -- after a legal list
  module _ (h : Counts) (v : T (legal h (e ∷ es))) where
    letters_in : (c : ℕ) → k ≡ c → T (is (c ∷ []) e)
    letters_in c q = subst T (sym (r.letter_is c ∙ eq-eqb k c q)) tt

    -- its lock is declared
    lock_in : (ks : List ℕ) → T (all_of (among lock_letters) ks) → T (is ks e) → p < h.locks
    unfolding declared on_lock
    lock_in ks m q =
        let o : is lock_letters e ≡ true = is_true (is_among ks lock_letters e m q) in
        let d = rw (o, r.places) at (legal_known h e es v) in
        ltb-true p h.locks (is_true (and_right (ltb (subject e) h.threads) (ltb p h.locks) (and_right (ltb e.thread h.threads) (ltb (subject e) h.threads && ltb p h.locks) (subst T (sym d) tt))))

    -- the lock of an N or Y is held
    given_up_law : (ks : List ℕ) → T (all_of (among (N ∷ Y ∷ F ∷ [])) ks) → T (is ks e) → held (words_of es) u p ≡ true
    given_up_law ks m q = rw (r.whose, r.places) at (unlock_held h (words_of es) e (legal_row h e es v) (is_among ks (N ∷ Y ∷ F ∷ []) e m q))

    -- a thread that gives up a lock holds something before it, and one that takes a lock does after it
    pub gives_up : gives_hold k ≡ true → holds_some h u es ≡ true
    unfolding holds_some unlocks
    gives_up q = let t = subst T (sym (r.unlocking ∙ q)) tt in some_has h.locks (λ l. held (words_of es) u l) p (lock_in (N ∷ Y ∷ []) tt t) (given_up_law (N ∷ Y ∷ []) tt t)

    pub takes_hold_law : takes_hold k ≡ true → holds_some h u (e ∷ es) ≡ true
    unfolding holds_some locks
    takes_hold_law q =
        let t = r.locking ∙ q in
        let x : held (words_of (e ∷ es)) e.thread (loc e) ≡ true = lock_taken_law h es e (legal_row h e es v) t in
        some_has h.locks (λ l. held (words_of (e ∷ es)) u l) p (lock_in (K ∷ C ∷ []) tt (subst T (sym t) tt)) (sym (ap₂ (λ t l. held (words_of (e ∷ es)) t l) r.whose r.places) ∙ x)

    abbrev n : ℕ
    n = h.locks

    -- with a Y or C the holds and what is remembered change places
    record Exchanged : Type 0 where
      pub lock_low : p < n
      pub held : depth u p (e ∷ es) ≡ remembered u p es
      pub kept : remembered u p (e ∷ es) ≡ depth u p es
      -- and the thread remembers no other lock
      pub alone : total n (λ l. remembered u l es) ≡ remembered u p es

    own_at : (c : ℕ) → k ≡ c → (depth u p (e ∷ es) ≡ held_by c (depth u p es) (remembered u p es)) × (remembered u p (e ∷ es) ≡ remembered_by c (depth u p es) (remembered u p es))
    own_at c q = (depth_own ∙ ap (λ c. held_by c (depth u p es) (remembered u p es)) q, remembered_own ∙ ap (λ c. remembered_by c (depth u p es) (remembered u p es)) q)

    -- a Y: its thread does not wait
    waiting : k ≡ Y → Exchanged
    unfolding words_of waits
    waiting q = record { lock_low = low; held = (own_at Y q).0 ∙ sym zero; kept = (own_at Y q).1; alone = omega (arith, zero, none) }
      where
        low : p < n
        low = lock_in (Y ∷ []) tt (letters_in Y q)

        idle : waits h (words_of es) u ≡ false
        idle = rw r.whose at (not_waiting h (words_of es) e (legal_row h e es v) (is_among (Y ∷ []) barred e tt (letters_in Y q)))

        none : total n (λ l. remembered u l es) ≤ 0
        none = ltb-false 0 (total n (λ l. remembered u l es)) (total_some n (λ l. remembered u l es) ∙ idle)

        zero : remembered u p es ≡ 0
        zero = omega (arith, none, total_part n p (λ l. remembered u l es) low)

    -- a C: its thread waits on the lock, and does not hold it
    coming : k ≡ C → Exchanged
    unfolding words_of
    coming q = record {
      lock_low = low;
      held = (own_at C q).0 ∙ rw (lt-ltb 0 (remembered u p es) some) refl;
      kept = (own_at C q).1 ∙ sym ((balanced h u p es low before).apart some);
      alone = total_one n p (λ l. remembered u l es) low (λ i l o. other i l o (ltb 0 (remembered u i es)) refl);
    }
      where
        low : p < n
        low = lock_in (C ∷ []) tt (letters_in C q)

        before : T (legal h es)
        before = legal_before h e es v

        some : 0 < remembered u p es
        some =
            let w = rw (r.whose, r.places) at (resume_waits h (words_of es) e (legal_row h e es v) (letters_in C q)) in
            ltb-true 0 (remembered u p es) (is_true (and_left (ltb 0 (remembered u p es)) ((words_of es).notified u p) (subst T (sym w) tt)))

        other : (i : ℕ) → i < n → (i ≡ p → ⊥) → (b : Bool) → ltb 0 (remembered u i es) ≡ b → remembered u i es ≡ 0
        other i l o true w = absurd (o (waits_one h u es before i p l low (ltb-true 0 (remembered u i es) w) some))
        other i l o false w = let z = ltb-false 0 (remembered u i es) w in omega (arith, z)

    exchanged : exchanges k ≡ true → Exchanged
    exchanged q = go (eqb k Y) refl (eqb k C) refl q
      where
        go : (a : Bool) → eqb k Y ≡ a → (b : Bool) → eqb k C ≡ b → (a || b) ≡ true → Exchanged
        go true x b y q = waiting (eqb-true k Y x)
        go false x true y q = coming (eqb-true k C y)
        go false x false y q = absurd (false≢true q)

    -- ---- the sums, for the thread of the event

    abbrev was : ℕ → ℕ
    was l = depth u l es

    abbrev is' : ℕ → ℕ
    is' l = depth u l (e ∷ es)

    abbrev kept : ℕ → ℕ
    kept l = remembered u l es

    other_own : (l : ℕ) → (l ≡ p → ⊥) → grip u l (e ∷ es) ≡ grip u l es
    other_own l o = grip_other u l (λ _ q. o (sym q))

    moved : p < n → total n is' + was p ≡ total n was + is' p
    unfolding depth
    moved q = total_moved n p was is' q (λ l _ o. ap (λ g. g.held) (other_own l o))

    plain_depth : exchanges k ≡ false → total n is' ≡ level_after (total n was) k
    unfolding level_after words_of
    plain_depth z = by (eqb k K) refl (eqb k N) refl
      where
        at : (a b : Bool) → eqb k K ≡ a → eqb k N ≡ b → is' p ≡ cond a (suc (was p)) (cond b (pred (was p)) (was p))
        at a b x y = depth_plain z ∙ ap₂ (λ a b. cond a (suc (was p)) (cond b (pred (was p)) (was p))) x y

        same : (l : ℕ) → is' p ≡ was p → Dec (l ≡ p) → is' l ≡ was l
        same l q (yes o) = rw o q
        same l q (no o) = unfold depth in ap (λ g. g.held) (other_own l o)

        by : (a : Bool) → eqb k K ≡ a → (b : Bool) → eqb k N ≡ b → total n is' ≡ cond a (suc (total n was)) (cond b (pred (total n was)) (total n was))
        by true x b y = omega (arith, at true b x y, moved (lock_in (K ∷ []) tt (letters_in K (eqb-true k K x))))
        by false x true y =
            let t = letters_in N (eqb-true k N y) in
            let q : is' p ≡ pred (was p) = at false true x y in
            let z : total n was ≡ suc (total n is') = omega (arith, q, ltb-true 0 (was p) (given_up_law (N ∷ []) tt t), moved (lock_in (N ∷ []) tt t)) in
            sym (ap pred z)
        by false x false y = total_same n was is' (λ l _. same l (at false false x y) (ℕ_discrete l p))

    plain_kept : exchanges k ≡ false → total n (λ l. remembered u l (e ∷ es)) ≡ total n kept
    plain_kept z = total_same n kept (λ l. remembered u l (e ∷ es)) (λ l _. same l (ℕ_discrete l p))
      where
        same : (l : ℕ) → Dec (l ≡ p) → remembered u l (e ∷ es) ≡ remembered u l es
        same l (yes o) = rw o (remembered_plain z)
        same l (no o) = unfold remembered in ap (λ g. g.remembered) (other_own l o)

    -- its holds on the lock and on all locks, and what it remembers
    record Next : Type 0 where
      pub level : is' p ≡ cond (exchanges k) (total n kept) (level_after (was p) k)
      pub depths : total n is' ≡ cond (exchanges k) (total n was - was p + total n kept) (level_after (total n was) k)
      pub keeps : total n (λ l. remembered u l (e ∷ es)) ≡ cond (exchanges k) (was p) (total n kept)

    next : Next
    unfolding remembered
    next = by (exchanges k) refl
      where
        by : (b : Bool) → exchanges k ≡ b → Next
        by true q =
            let x = exchanged q in
            let m = total_moved n p kept (λ l. remembered u l (e ∷ es)) x.lock_low (λ l _ o. ap (λ g. g.remembered) (other_own l o)) in
            record {
              level = rw q (x.held ∙ sym x.alone);
              depths = rw q (omega (arith, moved x.lock_low, x.held, x.alone, total_part n p was x.lock_low));
              keeps = rw q (omega (arith, m, x.alone, x.kept));
            }
        by false q = record { level = rw q (depth_plain q); depths = rw q (plain_depth q); keeps = rw q (plain_kept q) }

-- ---- the arrays

-- a thread holds something, or waits, exactly where a sum over the locks is not 0
holds_total : (h : Counts) (t : ℕ) (es : List Event) → ltb 0 (total h.locks (λ l. depth t l es)) ≡ holds_some h t es
unfolding holds_some words_of
holds_total h t es = total_some h.locks (λ l. depth t l es)

waits_total : (h : Counts) (t : ℕ) (es : List Event) → ltb 0 (total h.locks (λ l. remembered t l es)) ≡ waits h (words_of es) t
unfolding waits words_of
waits_total h t es = total_some h.locks (λ l. remembered t l es)

pub record Grips (h : Counts) (s : Holds) (es : List Event) : Type 0 where
  pub levels_long : length s.levels ≡ 128
  pub depths_long : length s.depths ≡ 8
  pub kept_long : length s.remembered ≡ 8
  pub level : (t l : ℕ) → t < 8 → l < 16 → get_or s.levels (t * 16 + l) 0 ≡ depth t l es
  pub depth_is : (t : ℕ) → t < 8 → get_or s.depths t 0 ≡ total h.locks (λ l. depth t l es)
  pub kept_is : (t : ℕ) → t < 8 → get_or s.remembered t 0 ≡ total h.locks (λ l. remembered t l es)

pub grips_start : (h : Counts) → Grips h no_holds []
unfolding no_holds depth remembered grip
grips_start h = record {
  levels_long = refl;
  depths_long = refl;
  kept_long = refl;
  level = λ t l ht hl. get_or-replicate {A = ℕ} 128 (t * 16 + l) 0 0 (omega arith);
  depth_is = none;
  kept_is = none;
}
  where
    none : (t : ℕ) → t < 8 → get_or (replicate {A = ℕ} 8 0) t 0 ≡ total h.locks (λ i. 0)
    none t ht = get_or-replicate {A = ℕ} 8 t 0 0 ht ∙ sym (total_zero h.locks)

module _ (h : Counts) (s : Holds) (es : List Event) (G : Grips h s es) where
  pub some_held : (t : ℕ) → t < 8 → ltb 0 (get_or s.depths t 0) ≡ holds_some h t es
  some_held t ht = ap (ltb 0) (G.depth_is t ht) ∙ holds_total h t es

  pub unfinished_is : (owed : List Bool) → Owed owed es → h.threads ≤ 8 → h.variables ≤ 16 → unfinished_in h s owed ≡ unfinished h es
  unfolding unfinished_in unfinished pending_in
  unfinished_is owed O ht hv =
      some_ext h.threads (λ t. ltb 0 (get_or s.depths t 0) || (some h.variables (λ v. get_or owed (t * 16 + v) false) || ltb 0 (get_or s.remembered t 0))) (λ t. holds_some h t es || (some h.variables (λ v. pending t v es) || waits h (words_of es) t))
      (λ t q. let low : t < 8 = omega (arith, q, ht) in
      λ i. some_held t low i || (some_ext h.variables (λ v. get_or owed (t * 16 + v) false) (λ v. pending t v es) (λ v w. O.owes t v low (omega (arith, w, hv))) i || (ap (ltb 0) (G.kept_is t low) ∙ waits_total h t es) i))

  module _ (k u p : ℕ) (e : Event) (r : Reads k u p e) (v : T (legal h (e ∷ es))) where
    pub holdable : h.locks ≤ 8 → length es ≤ 2000 → Holdable s u p k
    unfolding depth remembered
    holdable hl few = record {
      thread_low = r.thread_low;
      place_low = r.place_low;
      level_low = omega (arith, level_is, (grip_low u p es).0);
      depth_low = omega (arith, G.depth_is u r.thread_low, total_low h.locks (λ l. depth u l es) (λ l. omega (arith, (grip_low u l es).0)));
      remembered_low = omega (arith, G.kept_is u r.thread_low, total_low h.locks (λ l. remembered u l es) (λ l. omega (arith, (grip_low u l es).1)));
      held = λ q. (given q, part (lock_in es k u p e r h v (N ∷ []) tt (letters_in es k u p e r h v N q)));
      part = λ q. part (exchanged es k u p e r h v q).lock_low;
    }
      where
        level_is : get_or s.levels (u * 16 + p) 0 ≡ depth u p es
        level_is = G.level u p r.thread_low r.place_low

        given : k ≡ N → 0 < get_or s.levels (u * 16 + p) 0
        given q =
            let x : 0 < depth u p es = unfold words_of in ltb-true 0 (depth u p es) (given_up_law es k u p e r h v (N ∷ []) tt (letters_in es k u p e r h v N q)) in
            omega (arith, level_is, x)

        part : p < h.locks → get_or s.levels (u * 16 + p) 0 ≤ get_or s.depths u 0
        part q = omega (arith, level_is, G.depth_is u r.thread_low, total_part h.locks p (λ l. depth u l es) q)

    module _ {x : ℕ} {s' : Holds} (H : Held s u p k x s') where
      -- the depth of the event's thread, and of another
      pub depth_here : get_or s'.depths u 0 ≡ x
      depth_here = ap (λ ds. get_or ds u 0) H.depths_are ∙ get_or-set_same s.depths u x 0 (omega (arith, r.thread_low, G.depths_long))

      pub depth_else : (t : ℕ) → (t ≡ u → ⊥) → get_or s'.depths t 0 ≡ get_or s.depths t 0
      depth_else t n = ap (λ ds. get_or ds t 0) H.depths_are ∙ get_or-set_other s.depths u t x 0 n

      pub grips_after : Grips h s' (e ∷ es)
      grips_after = record {
        levels_long = ap length H.levels_are ∙ length-set s.levels (u * 16 + p) _ ∙ G.levels_long;
        depths_long = ap length H.depths_are ∙ length-set s.depths u x ∙ G.depths_long;
        kept_long = ap length H.remembered_are ∙ length-set s.remembered u _ ∙ G.kept_long;
        level = λ t l ht hl. ap (λ xs. get_or xs (t * 16 + l) 0) H.levels_are
            ∙ cell_set 0 s.levels (λ t l. depth t l es) (λ t l. depth t l (e ∷ es)) G.levels_long G.level u p r.thread_low r.place_low
            ((λ i. cond (exchanges k) (m_is i) (level_after (y_is i) k)) ∙ sym N.level)
            (λ t l n. unfold depth in ap (λ g. g.held) (grip_other es k u p e r t l n)) t l ht hl;
        depth_is = λ t ht. ap (λ xs. get_or xs t 0) H.depths_are
            ∙ thread_set 0 s.depths (λ t. total h.locks (λ l. depth t l es)) (λ t. total h.locks (λ l. depth t l (e ∷ es))) G.depths_long G.depth_is u r.thread_low
            (H.depth_is ∙ (λ i. cond (exchanges k) (d_is i - y_is i + m_is i) (level_after (d_is i) k)) ∙ sym N.depths)
            (λ t n. total_same h.locks (λ l. depth t l es) (λ l. depth t l (e ∷ es)) (λ l _. unfold depth in ap (λ g. g.held) (grip_other es k u p e r t l (λ q _. n q)))) t ht;
        kept_is = λ t ht. ap (λ xs. get_or xs t 0) H.remembered_are
            ∙ thread_set 0 s.remembered (λ t. total h.locks (λ l. remembered t l es)) (λ t. total h.locks (λ l. remembered t l (e ∷ es))) G.kept_long G.kept_is u r.thread_low
            ((λ i. cond (exchanges k) (y_is i) (m_is i)) ∙ sym N.keeps)
            (λ t n. total_same h.locks (λ l. remembered t l es) (λ l. remembered t l (e ∷ es)) (λ l _. unfold remembered in ap (λ g. g.remembered) (grip_other es k u p e r t l (λ q _. n q)))) t ht;
      }
        where
          N : Next es k u p e r h v
          N = next es k u p e r h v

          y_is : get_or s.levels (u * 16 + p) 0 ≡ depth u p es
          y_is = G.level u p r.thread_low r.place_low

          d_is : get_or s.depths u 0 ≡ total h.locks (λ l. depth u l es)
          d_is = G.depth_is u r.thread_low

          m_is : get_or s.remembered u 0 ≡ total h.locks (λ l. remembered u l es)
          m_is = G.kept_is u r.thread_low

      -- what it holds then
      pub holds_after : ltb 0 x ≡ holds_some h u (e ∷ es)
      holds_after = ap (ltb 0) (sym depth_here ∙ grips_after.depth_is u r.thread_low) ∙ holds_total h u (e ∷ es)

    -- an event other than K, N, Y and C leaves all
    pub grips_kept : takes_hold k ≡ false → gives_hold k ≡ false → Grips h s (e ∷ es)
    unfolding level_after
    grips_kept a c = grips_after {x = get_or s.depths u 0} (record {
      depth_is = same (get_or s.depths u 0 - get_or s.levels (u * 16 + p) 0 + get_or s.remembered u 0) (get_or s.depths u 0);
      levels_are = sym (ap (set s.levels (u * 16 + p)) (sym (same (get_or s.remembered u 0) (get_or s.levels (u * 16 + p) 0))) ∙ set-get_or s.levels (u * 16 + p) 0);
      depths_are = sym (set-get_or s.depths u 0);
      remembered_are = sym (rw (no_y, no_c) (set-get_or s.remembered u 0));
    })
      where
        no_y : eqb k Y ≡ false
        no_y = or_false_right (eqb k N) (eqb k Y) c

        no_c : eqb k C ≡ false
        no_c = or_false_right (eqb k K) (eqb k C) a

        same : (y d : ℕ) → d ≡ cond (eqb k Y || eqb k C) y (cond (eqb k K) (suc d) (cond (eqb k N) (pred d) d))
        same y d = rw (no_y, no_c, or_false_left (eqb k K) (eqb k C) a, or_false_left (eqb k N) (eqb k Y) c)

-- ---- what a thread holds after one event more

module _ (h : Counts) (es : List Event) (k u p : ℕ) (e : Event) (r : Reads k u p e) where
  of_is : (t : ℕ) → of t e ≡ eqb u t
  unfolding of
  of_is t = ap (λ u. eqb u t) r.whose

  pub other_holds : (t : ℕ) → (u ≡ t → ⊥) → holds_some h t (e ∷ es) ≡ holds_some h t es
  unfolding locks_by unlocks_by
  other_holds t n = same_holds h t e es (not_of (locks e)) (not_of (unlocks e))
    where
      not_of : (b : Bool) → (b && of t e) ≡ false
      not_of b = ap (λ x. b && x) (of_is t ∙ ne_eqb u t n) ∙ and-false b

  -- by an event other than a K it gains nothing
  pub gains : takes_hold k ≡ false → holds_some h u (e ∷ es) ≡ true → holds_some h u es ≡ true
  unfolding locks_by
  gains c = gains_none h u e es (ap (λ b. b && of u e) (r.locking ∙ c))
