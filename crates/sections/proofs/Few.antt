-- Each section has a K or C of its own. At most half of the events of a trace that leaves no lock held and no thread waiting are K and C, for then no
-- thread has done more K than N on any lock, nor more C than Y (rules' proofs/Held.antt).
use Prim.Native.Nat.{ℕ, zero, suc, ◌+◌, ◌*◌, ◌<◌, ◌≤◌}
use native.Mathlib.Decide.{ℕ_discrete, dec_lt}
use native.Mathlib.Omega.{arith}
use mathlib.Core.Path.{◌≡◌, refl, sym, ap, subst}
use mathlib.Core.Logic.{ite}
use mathlib.Core.Bool.{Bool, true, false, cond, ◌&&◌, and-false}
use mathlib.Core.List.{List, [], ◌∷◌, map}
use borrow.Author.Tests.{eq-eqb, ne_eqb, lt-ltb, le-ltb, ltb-false, leb-true}
use lib.Dec.{T, eqb, ltb, leb}
use lib.ListN.{length}
use Rattle.rules.specs.declared.Event.{Event}
use Rattle.rules.specs.declared.Counts.{Counts}
use Rattle.rules.specs.Events.{C, K, N, Y, among, is, of, on, lock_letters, on_lock, locks}
use Rattle.rules.specs.Words.{by, count, depth, remembered}
use Rattle.rules.specs.Rules.{loc, words_of, held, waits_on, waits}
use Rattle.serial.specs.Events as E
use Rattle.serial.specs.Lists.{All}
use Rattle.serial.specs.Sections.{Section, grown, push, without}
use Rattle.serial.proofs.Counted as H
use Rattle.serial.proofs.Lines.{either, Open, Now, traced}
use Rattle.sections.specs.View.{view}
use Rattle.sections.specs.Places.{holds_some}
use Rattle.sections.specs.Order.{sections}
use Rattle.sections.specs.Refusals.{unfinished}
use Rattle.sections.proofs.Valid.{Valid, Declared, lock_low}
use Rattle.sections.proofs.Viewed.{shape, next_shape}
use Rattle.rules.proofs.Laws.{is_true, cases, and_left, all_of, is_among, at_letter, some_none}
use Rattle.rules.proofs.Held.{balanced}
use Rattle.sections.proofs.Ordered.{all_imp, sections_same, some_busy, settled}

-- ---- each section has a K or C of its own

push_long : {X : Type 0} (t n : ℕ) (e : E.Event X) (es : List (E.Event X)) (ss : List (Section X)) → Now t es ss → length (push t n e ss) ≡ length ss
unfolding Now push
push_long t n e es [] h = absurd h
push_long {X} t n e es (s ∷ ss) h = step (ℕ_discrete s.owner t) h (push_long t n e es ss)
  where
    step : (d : Dec (s.owner ≡ t)) → either d (Open t es s) (Now t es ss) → (Now t es ss → length (push t n e ss) ≡ length ss)
        → length (ite {C = List (Section X)} d (grown n e s ∷ ss) (s ∷ push t n e ss)) ≡ suc (length ss)
    step (yes p) h r = refl
    step (no p) h r = ap suc (r h)

without_less : {X : Type 0} (t : ℕ) (ss : List (Section X)) → length (without t ss) ≤ length ss
unfolding without
without_less t [] = omega arith
without_less {X} t (s ∷ ss) = step (ℕ_discrete s.owner t) (without_less t ss)
  where
    step : (d : Dec (s.owner ≡ t)) → length (without t ss) ≤ length ss → length (ite {C = List (Section X)} d ss (s ∷ without t ss)) ≤ suc (length ss)
    step (yes p) r = omega arith
    step (no p) r = omega arith

pub section_locks : (h : Counts) (es : List Event) → All (Declared h) es → length (sections h es) ≤ count locks es
unfolding sections count
section_locks h [] d = omega arith
section_locks h (e ∷ es) d = rw (next_shape e (suc (length es)) (holds_some h e.thread es) (sections h es)) (go (locks e) (holds_some h e.thread es) busy (section_locks h es d.1))
  where
    busy : T (holds_some h e.thread es) → Now e.thread (map view es) (sections h es)
    busy b = rw (sections_same h es d.1) ((traced H.counted (map view es)).now e.thread (some_busy h e.thread es b))

    go : (a b : Bool) → (T b → Now e.thread (map view es) (sections h es)) → length (sections h es) ≤ count locks es → length (shape a b e.thread (suc (length es)) (view e) (sections h es)) ≤ cond a (suc (count locks es)) (count locks es)
    go true true n r = omega (arith, without_less e.thread (sections h es), r)
    go true false n r = omega (arith, r)
    go false true n r = omega (arith, push_long e.thread (suc (length es)) (view e) (map view es) (sections h es) (n tt), r)
    go false false n r = r

-- ---- counts, by a number that each event has

count_same : (p q : Event → Bool) (es : List Event) → ((e : Event) → p e ≡ q e) → count p es ≡ count q es
unfolding count
count_same p q [] f = refl
count_same p q (e ∷ es) f = rw (f e, count_same p q es f)

module _ (f : Event → ℕ) where
  -- those that pass the test and have a number below m, and those with the number m
  abbrev under : (Event → Bool) → ℕ → List Event → ℕ
  under p m es = count (λ e. p e && ltb (f e) m) es

  abbrev with : (Event → Bool) → ℕ → List Event → ℕ
  with p m es = count (λ e. p e && eqb (f e) m) es

  none_under : (p : Event → Bool) (es : List Event) → under p 0 es ≡ 0
  unfolding count
  none_under p [] = refl
  none_under p (e ∷ es) = rw (le-ltb (f e) 0 (omega arith), and-false (p e)) (none_under p es)

  split : (p : Event → Bool) (m : ℕ) (es : List Event) → under p (suc m) es ≡ under p m es + with p m es
  unfolding count
  split p m [] = refl
  split p m (e ∷ es) = go (p e) (dec_lt (f e) m) (ℕ_discrete (f e) m) (split p m es)
    where
      go : (b : Bool) → Dec (f e < m) → Dec (f e ≡ m) → under p (suc m) es ≡ under p m es + with p m es
          → cond (b && ltb (f e) (suc m)) (suc (under p (suc m) es)) (under p (suc m) es)
          ≡ cond (b && ltb (f e) m) (suc (under p m es)) (under p m es) + cond (b && eqb (f e) m) (suc (with p m es)) (with p m es)
      go false l q r = r
      go true (yes l) q r = rw (lt-ltb (f e) m l, lt-ltb (f e) (suc m) (omega (arith, l)), ne_eqb (f e) m (λ s. omega (arith, l, s))) (omega (arith, r))
      go true (no l) (yes q) r = rw (le-ltb (f e) m (omega (arith, q)), lt-ltb (f e) (suc m) (omega (arith, q)), eq-eqb (f e) m q) (omega (arith, r))
      go true (no l) (no q) r = rw (le-ltb (f e) m (omega (arith, l)), le-ltb (f e) (suc m) (omega (arith, l, q)), ne_eqb (f e) m q) (omega (arith, r))

  all_under : (p : Event → Bool) (n : ℕ) (es : List Event) → All (λ (e : Event). p e ≡ true → f e < n) es → under p n es ≡ count p es
  unfolding count
  all_under p n [] d = refl
  all_under p n (e ∷ es) d = go (p e) d.0 (all_under p n es d.1)
    where
      go : (b : Bool) → (b ≡ true → f e < n) → under p n es ≡ count p es → cond (b && ltb (f e) n) (suc (under p n es)) (under p n es) ≡ cond b (suc (count p es)) (count p es)
      go true l r = rw (lt-ltb (f e) n (l refl)) (ap suc r)
      go false l r = r

  under_less : (p q : Event → Bool) (n : ℕ) (es : List Event) → ((i : ℕ) → i < n → with p i es ≤ with q i es) → under p n es ≤ under q n es
  under_less p q zero es g = omega (arith, none_under p es, none_under q es)
  under_less p q (suc n) es g = omega (arith, split p n es, split q n es, under_less p q n es (λ i b. g i (omega arith)), g n (omega arith))

  -- no more pass p than q, where this is so for each number
  no_more : (p q : Event → Bool) (n : ℕ) (es : List Event) → All (λ (e : Event). p e ≡ true → f e < n) es → All (λ (e : Event). q e ≡ true → f e < n) es
      → ((i : ℕ) → i < n → with p i es ≤ with q i es) → count p es ≤ count q es
  no_more p q n es a b g = omega (arith, all_under p n es a, all_under q n es b, under_less p q n es g)

-- ---- no more of one letter than of another, where this is so for each thread and lock

and_swap : (a b c : Bool) → ((a && b) && c) ≡ (a && (b && c))
and_swap true b c = refl
and_swap false b c = refl

module _ (h : Counts) (es : List Event) (d : All (Declared h) es) where
  -- letters of lock events
  abbrev Locking : List ℕ → Type 0
  Locking ks = T (all_of (among lock_letters) ks)

  low : (ks : List ℕ) (t : ℕ) → Locking ks → All (λ (e : Event). (is ks e && of t e) ≡ true → loc e < h.locks) es
  unfolding on_lock
  low ks t o = all_imp (Declared h) (λ (e : Event). (is ks e && of t e) ≡ true → loc e < h.locks) es
      (λ e n q. lock_low h e n (is_true (is_among ks lock_letters e o (and_left (is ks e) (of t e) (subst T (sym q) tt)))))
      d

  -- the letter j, and the letter k
  module _ (j k : ℕ) (a : Locking (j ∷ [])) (b : Locking (k ∷ [])) (g : (t l : ℕ) → t < h.threads → l < h.locks → count (by (j ∷ []) t l) es ≤ count (by (k ∷ []) t l) es) where
    -- of one thread
    of_thread : (t : ℕ) → t < h.threads → count (λ e. is (j ∷ []) e && of t e) es ≤ count (λ e. is (k ∷ []) e && of t e) es
    unfolding by on
    of_thread t ht = no_more loc (λ e. is (j ∷ []) e && of t e) (λ e. is (k ∷ []) e && of t e) h.locks es (low (j ∷ []) t a) (low (k ∷ []) t b)
        (λ l hl. omega (
          arith,
          g t l ht hl,
          count_same (λ e. (is (j ∷ []) e && of t e) && eqb (loc e) l) (by (j ∷ []) t l) es (λ e. and_swap (is (j ∷ []) e) (of t e) (eqb (loc e) l)),
          count_same (λ e. (is (k ∷ []) e && of t e) && eqb (loc e) l) (by (k ∷ []) t l) es (λ e. and_swap (is (k ∷ []) e) (of t e) (eqb (loc e) l)),
        ))

    of_all : count (is (j ∷ [])) es ≤ count (is (k ∷ [])) es
    unfolding of
    of_all = no_more (λ e. e.thread) (is (j ∷ [])) (is (k ∷ [])) h.threads es
        (all_imp (Declared h) (λ (e : Event). is (j ∷ []) e ≡ true → e.thread < h.threads) es (λ e n q. n.0) d)
        (all_imp (Declared h) (λ (e : Event). is (k ∷ []) e ≡ true → e.thread < h.threads) es (λ e n q. n.0) d)
        of_thread

-- ---- the K and C, and the N and Y

abbrev one : Bool → ℕ
one true = 1
one false = 0

one_more : (p : Event → Bool) (e : Event) (es : List Event) → count p (e ∷ es) ≡ one (p e) + count p es
unfolding count
one_more p e es = cases (p e) (λ q. rw q (omega arith)) (λ q. rw q (omega arith))

-- what locks is a K or a C, and no N and no Y
parts : (es : List Event) → (count locks es ≤ count (is (K ∷ [])) es + count (is (C ∷ [])) es) × (count locks es + count (is (N ∷ [])) es + count (is (Y ∷ [])) es ≤ length es)
unfolding locks is
parts [] = unfold count in (omega arith, omega arith)
parts (e ∷ es) =
    let a : one (locks e) ≤ one (is (K ∷ []) e) + one (is (C ∷ []) e) = leb-true _ _ (is_true (at_letter (λ k. leb (one (among (K ∷ C ∷ []) k)) (one (among (K ∷ []) k) + one (among (C ∷ []) k))) tt e.kind)) in
    let b : one (locks e) + one (is (N ∷ []) e) + one (is (Y ∷ []) e) ≤ 1 = leb-true _ _ (is_true (at_letter (λ k. leb (one (among (K ∷ C ∷ []) k) + one (among (N ∷ []) k) + one (among (Y ∷ []) k)) 1) tt e.kind)) in
    let x = one_more locks e es in
    (omega (arith, a, x, one_more (is (K ∷ [])) e es, one_more (is (C ∷ [])) e es, (parts es).0), omega (arith, b, x, one_more (is (N ∷ [])) e es, one_more (is (Y ∷ [])) e es, (parts es).1))

pub locks_half : (h : Counts) (es : List Event) → All (Declared h) es → Valid h es → unfinished h es ≡ false → 2 * count locks es ≤ length es
unfolding holds_some words_of waits
locks_half h es d v u = omega (arith, (parts es).0, (parts es).1, of_all h es d K N tt tt undone, of_all h es d C Y tt tt waited)
  where
    unheld : (t l : ℕ) → t < h.threads → l < h.locks → held (words_of es) t l ≡ false
    unheld t l ht hl = some_none h.locks (λ l. held (words_of es) t l) (settled h es u t ht).0 l hl

    awake : (t l : ℕ) → t < h.threads → l < h.locks → waits_on (words_of es) t l ≡ false
    awake t l ht hl = some_none h.locks (λ l. waits_on (words_of es) t l) (settled h es u t ht).2 l hl

    -- nothing is held or remembered: each K is undone by an N
    undone : (t l : ℕ) → t < h.threads → l < h.locks → count (by (K ∷ []) t l) es ≤ count (by (N ∷ []) t l) es
    undone t l ht hl = omega (arith, (balanced h t l es hl v).holds, ltb-false 0 (depth t l es) (unheld t l ht hl), ltb-false 0 (remembered t l es) (awake t l ht hl))

    -- each C has a Y
    waited : (t l : ℕ) → t < h.threads → l < h.locks → count (by (C ∷ []) t l) es ≤ count (by (Y ∷ []) t l) es
    waited t l ht hl = see (ltb 0 (remembered t l es)) (balanced h t l es hl v).waited
      where
        see : (b : Bool) → count (by (Y ∷ []) t l) es ≡ cond b (suc (count (by (C ∷ []) t l) es)) (count (by (C ∷ []) t l) es) → count (by (C ∷ []) t l) es ≤ count (by (Y ∷ []) t l) es
        see true q = omega (arith, q)
        see false q = omega (arith, q)
