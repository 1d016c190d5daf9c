-- 2,256 is reached: the tail of 2,000 events that assign each variable by each thread and then lock has as many events.
use Prim.Native.Nat.{ℕ, zero, suc, ◌+◌, ◌*◌, ◌≤◌, ◌<◌}
use native.Mathlib.Omega.{arith}
use native.Mathlib.Nat.{not-suc-le-zero}
use mathlib.Core.Path.{◌≡◌, refl, ap, ◌∙◌}
use mathlib.Core.Bool.{Bool, true, false, not, cond, ◌&&◌, and-false}
use mathlib.Core.List.{List, [], ◌∷◌, ◌++◌, reverse}
use lib.Dec.{T, eqb}
use lib.IntN.{pos}
use lib.ListN.{length, replicate, length-append, length-reverse, length-replicate}
use borrow.Author.Tests.{eqb-true, eqb-false, eq-eqb, lt-ltb}
use Rattle.rules.specs.declared.Kind.TheVariants.{Assign, Lock}
use Rattle.rules.specs.declared.Event.{Event}
use Rattle.rules.specs.declared.Counts.{Counts}
use Rattle.rules.specs.declared.Course.TheVariants.{Full}
use Rattle.rules.specs.Events.{A, B, K, L, P, R, is, of, on, subject_of, on_lock, locks}
use Rattle.rules.specs.Limits.{full, most_counts, volatile, any_volatile, stray_volatile, line_after, allowed, declared}
use Rattle.rules.specs.Words as Earlier
use Rattle.rules.specs.Words.{latest, letter_in, count, in_order, by, locks_by, grip_after, grip, depth}
use Rattle.rules.specs.Rules.{words_of, some, dead_read, legal_by}
use Rattle.rules.proofs.Bounds.{up_to_full}
use Rattle.rules.proofs.Laws.{cases, is_apart, none_some, legal_accepted}
use Rattle.rules.proofs.Next.{next}
use Rattle.rules.proofs.Simulation.{legal_next}
use Rattle.rules.proofs.Held.{gripping}
use Rattle.rules.proofs.Cells.{event_by, cell_of}
use Rattle.tails.specs.Tails.{move, numbered}
use Rattle.tails.specs.Longest.{assigns_of, assigns_all, locks_all, longest, Reaches}
use Rattle.rules.proofs.Sums.{total}
use Rattle.tails.proofs.Totals.{sums_least, each_length}
use Rattle.tails.proofs.Parts.{part_of, depth_off}
use Rattle.tails.proofs.Left.{due_of, left}
use Rattle.tails.proofs.Runs.{after, after_append, after_each, Fit, AllPlain, all_plain, fit_next}
use Rattle.tails.proofs.Tails.{numbered_length, tail_length}
use Rattle.tails.proofs.Room.{tail_room}

module _ (h : Counts) (pl : AllPlain h) where
  -- no read is outstanding, nothing is owed, and a thread holds no lock but that with its own number
  record Quiet (es : List Event) : Type 0 where
    fit : Fit h es
    reads : (t v : ℕ) → (words_of es).reads t v ≡ []
    pending : (t v : ℕ) → (words_of es).pending t v ≡ false
    holds : (t l : ℕ) → eqb t l ≡ false → (words_of es).depth t l ≡ 0

  quiet_start : Quiet []
  quiet_start = record {
    fit = record { goes = unfold legal_by in tt; ten = tt };
    reads = λ t v. unfold words_of Earlier.reads count in_order in refl;
    pending = λ t v. unfold words_of Earlier.pending latest letter_in in refl;
    holds = λ t l q. unfold words_of depth grip in refl;
  }

  quiet_next : (e : Event) (es : List Event) → T (is (A ∷ K ∷ []) e) → ((t l : ℕ) → eqb t l ≡ false → by gripping t l e ≡ false) → Fit h (e ∷ es) → Quiet es → Quiet (e ∷ es)
  unfolding next by
  quiet_next e es o g f q =
      let n = legal_next h e es q.fit.goes in record {
        fit = f;
        reads = λ t v. ap (λ w. w.reads t v) n ∙ rw (is_apart (A ∷ K ∷ []) (R ∷ []) e tt o, is_apart (A ∷ K ∷ []) (L ∷ []) e tt o) (q.reads t v);
        pending = λ t v. ap (λ w. w.pending t v) n ∙ rw (is_apart (A ∷ K ∷ []) (P ∷ B ∷ []) e tt o) (q.pending t v);
        holds = λ t l p. ap (λ w. w.depth t l) n ∙ depth_off (words_of es) e t l (g t l p) ∙ q.holds t l p;
      }

  -- ---- the assigns

  assign_next : (t v n : ℕ) (es : List Event) → t < h.threads → v < h.variables → Quiet es
      → Quiet (event_by t n (Assign v (pos 0)) ∷ es) × ((u m : ℕ) → (words_of (event_by t n (Assign v (pos 0)) ∷ es)).fresh u m ≡ cond (eqb t u && eqb v m) true ((words_of es).fresh u m))
  assign_next t v n es a b q = (
    quiet_next (event_by t n (Assign v (pos 0))) es (unfold is in tt) (λ u l p. unfold by is in refl)
        (fit_next h es t n (Assign v (pos 0)) (unfold is in tt) (unfold declared on_lock is subject_of in rw (lt-ltb t h.threads a, lt-ltb v h.variables b)) (unfold on_lock is in pl v b) q.fit (unfold dead_read is in rw (q.pending t v, q.reads t v))) q,
    λ u m. ap (λ w. w.fresh u m) (legal_next h (event_by t n (Assign v (pos 0))) es q.fit.goes) ∙ unfold next by is of on in refl,
  )

  -- what is fresh stays so
  abbrev Keeps : List Event → List Event → Type 0
  Keeps es fs = (t v : ℕ) → (words_of es).fresh t v ≡ true → (words_of fs).fresh t v ≡ true

  assigned_by : (t : ℕ) → t < h.threads → (n : ℕ) (es : List Event) → Quiet es
      → Quiet (after n (assigns_of h t) es) × Keeps es (after n (assigns_of h t) es) × ((v : ℕ) → v < h.variables → (words_of (after n (assigns_of h t) es)).fresh t v ≡ true)
  unfolding numbered
  assigned_by t a n es q = after_each _ (λ v fs. Quiet fs × Keeps es fs × ((m : ℕ) → m < v → (words_of fs).fresh t m ≡ true)) h.variables
      (λ v b n fs p.
      let r = assign_next t v n fs a b p.0 in (
        r.0,
        λ u m f. r.1 u m ∙ either (eqb t u && eqb v m) (p.1 u m f),
        λ m o. r.1 t m ∙ cases (eqb v m) (λ e. rw (eq-eqb t t refl, e)) (λ e. either (eqb t t && eqb v m) (p.2 m (omega (arith, o, eqb-false v m e)))),
      ))
      n es (q, λ u m f. f, λ m o. absurd (not-suc-le-zero o))
    where
      either : (b : Bool) {c : Bool} → c ≡ true → cond b true c ≡ true
      either true p = refl
      either false p = p

  assigned : (n : ℕ) → Quiet (after n (assigns_all h) []) × ((t v : ℕ) → t < h.threads → v < h.variables → (words_of (after n (assigns_all h) [])).fresh t v ≡ true)
  unfolding assigns_all
  assigned n = after_each (assigns_of h) (λ t es. Quiet es × ((u v : ℕ) → u < t → v < h.variables → (words_of es).fresh u v ≡ true)) h.threads
      (λ t a n es p.
      let r = assigned_by t a n es p.0 in
      (r.0, λ u v o b. cases (eqb t u) (λ e. rw (← (eqb-true t u e)) (r.2 v b)) (λ e. r.1 u v (p.1 u v (omega (arith, o, eqb-false t u e)) b))))
      n [] (quiet_start, λ u v o. absurd (not-suc-le-zero o))

  -- ---- the locks

  lock_next : (t n : ℕ) (es : List Event) → t < h.threads → t < h.locks → Quiet es → Quiet (event_by t n (Lock t) ∷ es)
  lock_next t n es a b q =
      quiet_next (event_by t n (Lock t)) es (unfold is in tt)
      (λ u l p. unfold by is of on in cases (eqb t u) (λ e. rw (e, eqb-true t u e) p) (λ e. rw e))
      (fit_next h es t n (Lock t) (unfold is in tt) (unfold declared on_lock is subject_of in rw (lt-ltb t h.threads a, lt-ltb t h.locks b)) (unfold on_lock is in refl) q.fit (record {
        free = none_some h.threads _ (λ u c. cases (eqb u t) (λ e. rw e) (λ e. rw (e, q.holds u t e)));
        not_pending = none_some h.variables _ (λ v c. q.pending t v);
      })) q

  -- after k locks of T on the lock with its number
  record Locked (t k : ℕ) (es fs : List Event) : Type 0 where
    quiet : Quiet fs
    keeps : Keeps es fs
    spoiled : (u v : ℕ) → (words_of es).usable u v ≡ false → (words_of fs).usable u v ≡ false
    own : 0 < k → (v : ℕ) → (words_of fs).usable t v ≡ false
    holds : (u : ℕ) → (words_of es).depth u u ≤ (words_of fs).depth u u
    more : k + (words_of es).depth t t ≤ (words_of fs).depth t t

  locked_by : (t : ℕ) → t < h.threads → t < h.locks → (k n : ℕ) (es : List Event) → Quiet es → Locked t k es (after n (replicate k (move t (Lock t))) es)
  unfolding numbered
  locked_by t a b zero n es q = record { quiet = q; keeps = λ u v f. f; spoiled = λ u v f. f; own = λ p. absurd (not-suc-le-zero p); holds = λ u. omega arith; more = omega arith }
  locked_by t a b (suc k) n es q =
      let r = locked_by t a b k (suc n) (event_by t n (Lock t) ∷ es) (lock_next t n es a b q) in record {
        quiet = r.quiet;
        keeps = λ u v f. r.keeps u v (fresh u v ∙ f);
        spoiled = λ u v f. r.spoiled u v (usable u v ∙ simp (f, and-false));
        own = λ p v. r.spoiled t v (usable t v ∙ rw (eq-eqb t t refl));
        holds = λ u. omega (arith, r.holds u, less u);
        more = omega (arith, r.more, rw (eq-eqb t t refl) at (depth t));
      }
    where
      next_is : words_of (event_by t n (Lock t) ∷ es) ≡ next (words_of es) (event_by t n (Lock t))
      next_is = legal_next h (event_by t n (Lock t)) es q.fit.goes

      fresh : (u v : ℕ) → (words_of (event_by t n (Lock t) ∷ es)).fresh u v ≡ (words_of es).fresh u v
      fresh u v = ap (λ w. w.fresh u v) next_is ∙ unfold next by is in refl

      usable : (u v : ℕ) → (words_of (event_by t n (Lock t) ∷ es)).usable u v ≡ not (eqb t u) && (words_of es).usable u v
      usable u v = ap (λ w. w.usable u v) next_is ∙ unfold next by is of locks_by locks in refl

      depth : (u : ℕ) → (words_of (event_by t n (Lock t) ∷ es)).depth u u ≡ cond (eqb t u && eqb t u) (suc ((words_of es).depth u u)) ((words_of es).depth u u)
      depth u = ap (λ w. w.depth u u) next_is ∙ unfold next grip_after by is of on in refl

      less : (u : ℕ) → (words_of es).depth u u ≤ (words_of (event_by t n (Lock t) ∷ es)).depth u u
      less u = rw (depth u) (go (eqb t u && eqb t u) ((words_of es).depth u u))
        where
          go : (c : Bool) (d : ℕ) → d ≤ cond c (suc d) d
          go true d = omega arith
          go false d = omega arith

  module _ (b : h.threads ≤ h.locks) (k : ℕ) (c : 0 < k) where
    -- behind the locks all copies are fresh and unusable, and each thread has k holds
    record Reached (t : ℕ) (es : List Event) : Type 0 where
      quiet : Quiet es
      fresh : (u v : ℕ) → u < h.threads → v < h.variables → (words_of es).fresh u v ≡ true
      spoiled : (u v : ℕ) → u < t → (words_of es).usable u v ≡ false
      holds : (u : ℕ) → u < t → k ≤ (words_of es).depth u u

    reached : (n : ℕ) → Reached h.threads (after n (assigns_all h ++ locks_all h k) [])
    unfolding locks_all
    reached n = rw (after_append n (assigns_all h) (locks_all h k) []) (
        after_each (λ t. replicate k (move t (Lock t))) Reached h.threads
        (λ t a n es p.
        let r = locked_by t a (omega (arith, a, b)) k n es p.quiet in record {
          quiet = r.quiet;
          fresh = λ u v o i. r.keeps u v (p.fresh u v o i);
          spoiled = λ u v o. cases (eqb t u) (λ e. rw (← (eqb-true t u e)) (r.own c v)) (λ e. r.spoiled u v (p.spoiled u v (omega (arith, o, eqb-false t u e))));
          holds = λ u o. cases (eqb t u) (λ e. rw (← (eqb-true t u e)) (omega (arith, r.more))) (λ e. omega (arith, r.holds u, p.holds u (omega (arith, o, eqb-false t u e))));
        })
        (n + length (assigns_all h)) (after n (assigns_all h) [])
        (record { quiet = (assigned n).0; fresh = (assigned n).1; spoiled = λ u v o. absurd (not-suc-le-zero o); holds = λ u o. absurd (not-suc-le-zero o) }))

    -- so three events are left for each thread and variable, and k for each thread
    reached_left : (es : List Event) → Reached h.threads es → h.threads * (h.variables * 3 + k) ≤ left h (words_of es)
    unfolding left due_of cell_of
    reached_left es r = sums_least h 3 k (λ t v. due_of (part_of (words_of es) t v)) (words_of es).depth b (λ t v a i. rw (r.quiet.pending t v, r.fresh t v a i, r.spoiled t v a) (omega arith)) (λ t a. r.holds t a)

-- ---- the full course

moves_are : (k : ℕ) → length (assigns_all (most_counts full) ++ locks_all (most_counts full) k) ≡ 128 + 8 * k
unfolding assigns_all locks_all total
moves_are k = omega (arith, length-append (assigns_all (most_counts full)) (locks_all (most_counts full) k), each_length (assigns_of (most_counts full)) (λ t. 16) (λ t. each_length (λ v. move t (Assign v (pos 0)) ∷ []) (λ v. 1) (λ v. refl) 16) 8, each_length (λ t. replicate k (move t (Lock t))) (λ t. k) (λ t. length-replicate k (move t (Lock t))) 8)

pub tail_reached : Reaches (most_counts full) (reverse longest) 2256
unfolding longest
tail_reached =
    let r = reached h pl (omega arith) 234 (omega arith) (line_after h 0) in
    let a = legal_accepted full h (reverse longest) r.quiet.fit.goes few in record {
      head = head;
      plain = plain;
      ten = r.quiet.fit.ten;
      accepted = a;
      long = omega (arith, tail_length h (reverse longest), reached_left h pl (omega arith) 234 (omega arith) (reverse longest) r, tail_room full h (reverse longest) (up_to_full Full) head r.quiet.fit.ten a);
    }
  where
    h : Counts
    h = most_counts full

    head : allowed full h ≡ true
    head = unfold allowed stray_volatile some volatile in refl

    plain : any_volatile h ≡ false
    plain = unfold any_volatile some volatile in refl

    pl : AllPlain h
    pl = all_plain h (omega arith) plain

    few : length (reverse longest) ≤ 2000
    few = omega (arith, length-reverse longest, numbered_length (line_after h 0) (assigns_all h ++ locks_all h 234), moves_are 234)
