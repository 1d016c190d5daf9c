-- The first pass: what the loop knows before each event, one turn of it, and its ends.
use Prim.Native.Nat.{ℕ, suc, ◌+◌, ◌*◌, ◌-◌, ◌<◌, ◌≤◌}
use native.Mathlib.Decide.{dec_lt}
use native.Mathlib.Omega.{arith}
use native.Mathlib.Numerals.{add-one}
use mathlib.Core.Path.{◌≡◌, refl, sym, ◌∙◌, ap, ap₂}
use mathlib.Core.Bool.{Bool, true, false, not, cond, ◌&&◌, ◌||◌}
use mathlib.Core.List.{List, [], ◌∷◌}
use lib.Dec.{T, eqb, ltb}
use lib.IntN.{ℤ}
use lib.ListN.{length, get_or, set, replicate}
use borrow.Author.Tests.{lt-ltb, le-ltb}
use Rattle.rules.specs.declared.Event.{Event}
use Rattle.rules.specs.declared.Counts.{Counts}
use Rattle.std.specs.Prelude.{Ok, Err}
use Rattle.rules.specs.Rules.{Verdict}
use Rattle.rules.specs.Events.{A, B, U}
use Rattle.rules.specs.Limits.{line_after}
use Rattle.rules.specs.Rules.{words_of, held, legal}
use Rattle.rules.proofs.Bounds.{allowed_bounds}
use Rattle.serial.specs.Lists.{All}
use Rattle.records.specs.Records.{event_at, row_events}
use Rattle.rules.specs.Memories.{from}
use Rattle.rules.proofs.From.{from_step, from_end}
use Rattle.sections.specs.Denials.{Denial, fit, denied}
use Rattle.sections.specs.Refusals.{after_unlock, not_under, late_lock, denial_from, denial}
use Rattle.sections.proofs.Valid.{Declared}
use Rattle.sections.proofs.Whole.{from_held}
use Rattle.sections.proofs.Ordered.{lock_below}
use Rattle.ordering.specs.Answer.{guard_of}
use Rattle.ordering.specs.declared.Holds.{Holds}
use Rattle.ordering.specs.Computed.Parts.{Fits, past, no_holds, under_in, takes_hold, Holdable, Held, pending_after, late_after, unfinished_in, told_as}
use Rattle.ordering.proofs.RowEvents.{past_length, row_few, known_past, legal_past}
use Rattle.ordering.proofs.Scanned.{Reads, Owed, owed_start, owed_after}
use Rattle.ordering.proofs.Grips.{Grips, grips_start, holdable, grips_after, holds_after, unfinished_is}
use Rattle.ordering.proofs.Late.{Late, late_start, late_after_law}

-- the verdicts of the first pass
abbrev pub accept : Verdict
accept = Ok tt

abbrev pub refused_at : Counts → ℕ → ℕ → Verdict
refused_at h rule i = Err (record { number = rule; line = line_after h i })

-- the level of its guard says whether a thread is under it
under_is : (h : Counts) (s : Holds) (es : List Event) → Grips h s es → h.locks ≤ 8 → All (Declared h) es → (t g : ℕ) → t < 8 → under_in s t g ≡ held (words_of es) t g
unfolding under_in
under_is h s es G low d t g ht = go (dec_lt g 16)
  where
    none : (b : Bool) → held (words_of es) t g ≡ b → 16 ≤ g → false ≡ b
    none true p q = absurd (omega (arith, lock_below h t g es d (from_held t g es p), low, q))
    none false p q = refl

    go : Dec (g < 16) → (ltb g 16 && ltb 0 (get_or s.levels (t * 16 + g) 0)) ≡ held (words_of es) t g
    go (yes q) = rw (lt-ltb g 16 q) (unfold words_of in ap (ltb 0) (G.level t g ht q))
    go (no q) = let z : 16 ≤ g = omega (arith, q) in rw (le-ltb g 16 z) (none (held (words_of es) t g) refl z)

-- ---- what the loop knows

module _ (h : Counts) (gs ws : List ℕ) (xs : List ℤ) where
  abbrev ev : ℕ → Event
  ev = event_at h ws xs

  abbrev pub whole : Denial
  whole = denial h (guard_of gs) (row_events h ws xs)

  pub record Going (s : Holds) (owed : List Bool) (late : List Bool) (i : ℕ) : Type 0 where
    pub upto : i ≤ length ws
    pub grips_are : Grips h s (past ev i)
    pub owed_are : Owed owed (past ev i)
    pub late_are : Late h late (past ev i)
    pub left : denial_from h (guard_of gs) (past ev i) (from ev i (length ws - i)) ≡ whole

  pub begins : Going no_holds (replicate 128 false) (replicate 8 false) 0
  unfolding past denial row_events
  begins = record {
    upto = omega arith;
    grips_are = grips_start h;
    owed_are = owed_start;
    late_are = late_start h;
    left = ap (λ (n : ℕ). denial_from h (guard_of gs) [] (from ev 0 n)) {x = length ws - 0} {y = length ws} (omega arith);
  }

  -- ---- the ends

  module _ (f : Fits h ws xs) {s : Holds} {owed : List Bool} {late : List Bool} {i : ℕ} (G : Going s owed late i) where
    ended : length ws ≤ i → whole ≡ cond (unfinished_in h s owed) (denied 22 (line_after h i)) fit
    unfolding denial_from
    ended e =
        sym G.left ∙ ap (denial_from h (guard_of gs) (past ev i)) (from_end ev i (length ws) e)
        ∙ ap₂ (λ c n. cond c (denied 22 (line_after h n)) fit) (sym (unfinished_is h s (past ev i) G.grips_are owed G.owed_are (allowed_bounds h f.accepted.head).0 (allowed_bounds h f.accepted.head).1)) (past_length ev i)

    pub ends_open : length ws ≤ i → unfinished_in h s owed ≡ true → refused_at h 22 (length ws) ≡ told_as whole
    unfolding told_as
    ends_open e o = ap (refused_at h 22) {x = length ws} {y = i} (omega (arith, e, G.upto)) ∙ sym (ap told_as (ended e ∙ ap (λ c. cond c (denied 22 (line_after h i)) fit) o))

    pub ends_fit : length ws ≤ i → unfinished_in h s owed ≡ false → accept ≡ told_as whole
    unfolding told_as
    ends_fit e o = sym (ap told_as (ended e ∙ ap (λ c. cond c (denied 22 (line_after h i)) fit) o))

-- ---- one turn: the event at i, by its letter k, thread t and place p

pub record Turn (h : Counts) (gs ws : List ℕ) (xs : List ℤ) (s : Holds) (owed : List Bool) (late : List Bool) (i k t p : ℕ) : Type 0 where
  pub fits : Fits h ws xs
  pub going : Going h gs ws xs s owed late i
  pub more : i < length ws
  pub reads : Reads k t p (event_at h ws xs i)

module _ {h : Counts} {gs ws : List ℕ} {xs : List ℤ} {s : Holds} {owed : List Bool} {late : List Bool} {i k t p : ℕ} (u : Turn h gs ws xs s owed late i k t p) where
  abbrev es : List Event
  es = past (event_at h ws xs) i

  abbrev e : Event
  e = event_at h ws xs i

  abbrev r : Reads k t p e
  r = u.reads

  few_past : length es ≤ 2000
  few_past = omega (arith, past_length (event_at h ws xs) i, u.more, row_few h ws xs u.fits)

  pub early : i ≤ 2000
  early = omega (arith, u.more, row_few h ws xs u.fits)

  next_legal : T (legal h (e ∷ es))
  unfolding past
  next_legal = legal_past h ws xs u.fits (suc i) u.more

  pub holdable_here : Holdable s t p k
  holdable_here = holdable h s es u.going.grips_are k t p e r next_legal (allowed_bounds h u.fits.accepted.head).2 few_past

  abbrev nu : Bool
  nu = not_under (guard_of gs) es e

  abbrev ll : Bool
  ll = late_lock h es e

  abbrev d : Denial
  d = denial_from h (guard_of gs) (e ∷ es) (from (event_at h ws xs) (suc i) (length ws - suc i))

  opened : (x y : Bool) → nu ≡ x → ll ≡ y → whole h gs ws xs ≡ cond x (denied 20 (line_after h i)) (cond y (denied 21 (line_after h i)) d)
  unfolding denial_from
  opened x y a b =
      sym u.going.left ∙ ap (denial_from h (guard_of gs) es) (from_step (event_at h ws xs) i (length ws) u.more)
      ∙ ap (λ n. cond nu (denied 20 (line_after h n)) (cond ll (denied 21 (line_after h n)) d)) (past_length (event_at h ws xs) i)
      ∙ ap₂ (λ x y. cond x (denied 20 (line_after h i)) (cond y (denied 21 (line_after h i)) d)) a b

  on : (s' : Holds) (owed' : List Bool) (late' : List Bool) → nu ≡ false → ll ≡ false
      → Grips h s' (e ∷ es) → Owed owed' (e ∷ es) → Late h late' (e ∷ es) → Going h gs ws xs s' owed' late' (i + 1)
  unfolding past
  on s' owed' late' a b G O M = rw (add-one i) (record { upto = u.more; grips_are = G; owed_are = O; late_are = M; left = sym (opened false false a b) })

  -- ---- what denies an order, and what goes on

  module _ {under : Bool} (w : under ≡ under_in s t (get_or gs p 0)) where
    abbrev bare : Bool
    bare = (eqb k U || (eqb k A || eqb k B)) && not under

    abbrev again : Bool
    again = takes_hold k && get_or late t false

    bare_is : nu ≡ bare
    unfolding not_under guard_of
    bare_is =
        let b = under_is h s es u.going.grips_are (allowed_bounds h u.fits.accepted.head).2 (known_past h ws xs u.fits i u.going.upto) t (get_or gs p 0) r.thread_low in
        ap₂ (λ x y. x && not y) r.uses (ap₂ (λ t p. held (words_of es) t (get_or gs p 0)) r.whose r.places ∙ sym (w ∙ b))

    again_is : ll ≡ again
    unfolding late_lock
    again_is = ap₂ (λ x y. x && y) r.locking (ap (λ t. after_unlock h t es) r.whose ∙ sym (u.going.late_are.after t r.thread_low))

    pub stops_bare : bare ≡ true → refused_at h 20 i ≡ told_as (whole h gs ws xs)
    unfolding told_as
    stops_bare z = sym (ap told_as (opened true ll (bare_is ∙ z) refl))

    pub stops_again : bare ≡ false → again ≡ true → refused_at h 21 i ≡ told_as (whole h gs ws xs)
    unfolding told_as
    stops_again n z = sym (ap told_as (opened false true (bare_is ∙ n) (again_is ∙ z)))

    pub goes : bare ≡ false → again ≡ false → {y : ℕ} {s' : Holds} {z o : Bool} → Held s t p k y s' → z ≡ late_after (get_or late t false) k (ltb 0 y)
        → o ≡ pending_after (get_or owed (t * 16 + p) false) k → Going h gs ws xs s' (set owed (t * 16 + p) o) (set late t z) (i + 1)
    goes n m {y} {s'} {z} {o} H ez eo =
        on s' (set owed (t * 16 + p) o) (set late t z) (bare_is ∙ n) (again_is ∙ m)
        (grips_after h s es u.going.grips_are k t p e r next_legal H) (owed_after owed es u.going.owed_are k t p e r eo)
        (late_after_law h late es u.going.late_are k t p e r (holds_after h s es u.going.grips_are k t p e r next_legal H) ez)
