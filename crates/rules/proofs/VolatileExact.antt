-- 27 refuses nothing else: where it is broken, an earlier use or assign of a volatile stands in the way.
use Prim.Native.Nat.{ℕ, zero, suc, ◌≤◌, ◌<◌}
use native.Mathlib.Omega.{arith}
use mathlib.Core.Path.{◌≡◌, refl, sym, subst}
use mathlib.Core.Bool.{Bool, true, false, not, cond, ◌&&◌, ◌||◌}
use mathlib.Core.List.{List, [], ◌∷◌, ◌++◌}
use mathlib.Core.Logic.{inl, inr}
use lib.Dec.{T, ltb}
use lib.ListN.{length, drop}
use borrow.Author.Tests.{ltb-true, ltb-false}
use Rattle.rules.specs.declared.Event.{Event}
use Rattle.rules.specs.declared.Slot.{Slot}
use Rattle.rules.specs.declared.Counts.{Counts}
use Rattle.rules.specs.Events.{A, L, R, U, W, is}
use Rattle.rules.specs.Limits.{Limits, some, volatile}
use Rattle.rules.specs.Words.{latest, letter_in, last_at, count, slot, in_order, first, by, accesses, reads, stores, fresh, last_write, after_load, loaded_read, used_read, last_assign}
use Rattle.rules.specs.Rules.{words_of, none?, bars_use, bars_write, use_barred, write_barred, Accepted, legal}
use Rattle.rules.specs.Volatile.{At, UseRead, AssignWrite, Acts, Associated}
use Rattle.rules.proofs.Laws.{is_true, load_partner, legal_row, legal_before, accepted_legal}
use Rattle.rules.proofs.Simulation.{by_is, by_thread, by_loc}
use Rattle.rules.proofs.Volatile.{load_next}
use Rattle.rules.proofs.VolatileOrder.{by_wider, Rising, top, In, above, Assigns, assigns_of_law, one_at, read_use, legal_once}

-- what a search finds
found : (n : ℕ) (f : ℕ → Bool) → some n f ≡ true → (u : ℕ) × (f u ≡ true)
unfolding some
found zero f p = absurd (subst T (sym p) tt)
found (suc n) f p = go (f n) refl p (found n f)
  where
    go : (b : Bool) → f n ≡ b → (b || some n f) ≡ true → (some n f ≡ true → (u : ℕ) × (f u ≡ true)) → (u : ℕ) × (f u ≡ true)
    go true q p r = (n, q)
    go false q p r = r p

both_of : (a b : Bool) → (a && b) ≡ true → (a ≡ true) × (b ≡ true)
both_of true b p = (refl, p)
both_of false b p = absurd (subst T (sym p) tt)

-- ---- the read of a load has a position

abbrev Positive : List Slot → Type 0
Positive [] = Unit {0}
Positive (s ∷ ss) = (0 < s.position) × Positive ss

positive_append : (ss rs : List Slot) → Positive ss → Positive rs → Positive (ss ++ rs)
positive_append [] rs p q = q
positive_append (s ∷ ss) rs p q = (p.0, positive_append ss rs p.1 q)

positive_drop : (n : ℕ) (ss : List Slot) → Positive ss → Positive (drop n ss)
positive_drop zero ss p = p
positive_drop (suc n) [] p = tt
positive_drop (suc n) (s ∷ ss) p = positive_drop n ss p.1

in_order_positive : (q : Event → Bool) (es : List Event) → Positive (in_order slot q es)
unfolding in_order
in_order_positive q [] = tt
in_order_positive q (e ∷ es) = positive_append (in_order slot q es) (cond (q e) (slot es e ∷ []) []) (in_order_positive q es) (go (q e))
  where
    go : (b : Bool) → Positive (cond b (slot es e ∷ []) [])
    go true = (omega arith, tt)
    go false = tt

first_positive : (ss : List Slot) → none? ss ≡ false → Positive ss → 0 < (first ss).position
first_positive [] n p = absurd (subst T n tt)
first_positive (s ∷ ss) n p = p.0

read_positive : (t v : ℕ) (es : List Event) → none? (reads t v es) ≡ false → 0 < (first (reads t v es)).position
unfolding reads
read_positive t v es n = first_positive (reads t v es) n (positive_drop (count (by (L ∷ []) t v) es) (in_order slot (by (R ∷ []) t v) es) (in_order_positive (by (R ∷ []) t v) es))

-- after a load, the position of its read
loaded_positive : (c : Counts) (t v : ℕ) (es : List Event) → T (legal c es) → T (after_load t v es) → 0 < loaded_read t v es
unfolding loaded_read after_load latest letter_in words_of
loaded_positive c t v [] l n = absurd n
loaded_positive c t v (e ∷ es) l n = go (by accesses t v e) (by (L ∷ []) t v e) refl refl (subst T (load_next t v e es) n) (loaded_positive c t v es (legal_before c e es l))
  where
    loads : T (by (L ∷ []) t v e) → none? (reads t v es) ≡ false
    loads b = rw (by_thread (L ∷ []) t v e b, by_loc (L ∷ []) t v e b) at (load_partner c (words_of es) e (legal_row c e es l) (by_is (L ∷ []) t v e b))

    go : (d b : Bool) → by accesses t v e ≡ d → by (L ∷ []) t v e ≡ b → T (cond d (is (L ∷ []) e) (after_load t v es)) → (T (after_load t v es) → 0 < loaded_read t v es) → 0 < cond b (first (reads t v es)).position (loaded_read t v es)
    go d true p q k r = read_positive t v es (loads (subst T (sym q) tt))
    go true false p q k r = absurd (subst T q (by_wider accesses (L ∷ []) t v e k (subst T (sym p) tt)))
    go false false p q k r = r k

-- ---- what stands behind the words

write_of : (t v : ℕ) (es : List Event) → 0 < last_write t v es → (i : ℕ) × AssignWrite t v es i (last_write t v es)
unfolding last_write last_at
write_of t v [] h = absurd (omega arith)
write_of t v (e ∷ es) h = go (by (W ∷ []) t v e) refl h (write_of t v es)
  where
    go : (b : Bool) → by (W ∷ []) t v e ≡ b → 0 < cond b (suc (length es)) (last_write t v es) → (0 < last_write t v es → (i : ℕ) × AssignWrite t v es i (last_write t v es)) → (i : ℕ) × AssignWrite t v (e ∷ es) i (cond b (suc (length es)) (last_write t v es))
    go true q h r = ((first (stores t v es)).position, inl (subst T (sym q) tt, refl, refl))
    go false q h r = let d = r h in (d.0, inr d.1)

use_of : (t v : ℕ) (es : List Event) → 0 < used_read t v es → (i : ℕ) × UseRead t v es i (used_read t v es)
unfolding used_read
use_of t v [] h = absurd (omega arith)
use_of t v (e ∷ es) h = go (by (U ∷ []) t v e) refl h (use_of t v es)
  where
    go : (b : Bool) → by (U ∷ []) t v e ≡ b → 0 < cond b (loaded_read t v es) (used_read t v es) → (0 < used_read t v es → (i : ℕ) × UseRead t v es i (used_read t v es)) → (i : ℕ) × UseRead t v (e ∷ es) i (cond b (loaded_read t v es) (used_read t v es))
    go true q h r = (suc (length es), inl (subst T (sym q) tt, refl, refl))
    go false q h r = let d = r h in (d.0, inr d.1)

top_above : (a : ℕ) (ss : List Slot) → Rising a ss → a ≤ top a ss
top_above a [] r = omega arith
top_above a (s ∷ ss) r = omega (arith, r.0, top_above s.position ss r.1)

first_in : (ss : List Slot) → none? ss ≡ false → In (first ss).position ss
first_in [] n = absurd (subst T n tt)
first_in (s ∷ ss) n = inl refl

-- ---- an assign that is fresh or outstanding is not written

module _ (c : Counts) (es : List Event) (l : T (legal c es)) (t u : ℕ) (vol : volatile c u ≡ true) where
  line : Assigns t u es
  line = assigns_of_law c t u vol es l

  fresh_unwritten : fresh t u es ≡ true → (p : ℕ) → AssignWrite t u es (last_assign t u es) p → ⊥
  fresh_unwritten f p d = omega (arith, line.done (last_assign t u es) p d, line.ahead f, top_above line.last (stores t u es) line.rising)

  stored_unwritten : (i : ℕ) → In i (stores t u es) → (p : ℕ) → AssignWrite t u es i p → ⊥
  stored_unwritten i n p d = omega (arith, line.done i p d, above line.last i (stores t u es) line.rising n)

  -- an assign that is not written has neither read nor write
  no_write : (i : ℕ) → At A t u es i → ((p : ℕ) → AssignWrite t u es i p → ⊥) → (p : ℕ) → Associated t u es i p → ⊥
  no_write i k n p (inl d) = omega (arith, one_at U A t u es i (read_use t u es i p d) k)
  no_write i k n p (inr d) = n p d

  -- a use or assign whose read or write does not come before r
  abbrev InTheWay : ℕ → Type 0
  InTheWay r = (i : ℕ) × (Acts t u es i × ((p : ℕ) → Associated t u es i p → r ≤ p))

  in_the_way : (r : ℕ) → 0 < r → bars_use (words_of es) t r u ≡ true → InTheWay r
  unfolding bars_use words_of
  in_the_way r h b = go (fresh t u es) (none? (stores t u es)) (ltb (last_write t u es) r) (ltb (used_read t u es) r) refl refl refl refl b
    where
      go : (f n w k : Bool) → fresh t u es ≡ f → none? (stores t u es) ≡ n → ltb (last_write t u es) r ≡ w → ltb (used_read t u es) r ≡ k → (f || not n || not w || not k) ≡ true → InTheWay r
      go true n w k f1 f2 f3 f4 b = (last_assign t u es, (inr (line.fresh_at f1), λ p d. absurd (no_write (last_assign t u es) (line.fresh_at f1) (fresh_unwritten f1) p d)))
      go false false w k f1 f2 f3 f4 b =
          let s = (first (stores t u es)).position in
          let i = first_in (stores t u es) f2 in
          (s, (inr (line.stored_at s i), λ p d. absurd (no_write s (line.stored_at s i) (stored_unwritten s i) p d)))
      go false true false k f1 f2 f3 f4 b =
          let j = ltb-false (last_write t u es) r f3 in
          let d = write_of t u es (omega arith) in
          (d.0, (inr (line.written_at d.0 (last_write t u es) d.1), λ p g. omega (arith, j, legal_once c t u vol es l d.0 p (last_write t u es) g (inr d.1))))
      go false true true false f1 f2 f3 f4 b =
          let j = ltb-false (used_read t u es) r f4 in
          let d = use_of t u es (omega arith) in
          (d.0, (inl (read_use t u es d.0 (used_read t u es) d.1), λ p g. omega (arith, j, legal_once c t u vol es l d.0 p (used_read t u es) g (inl d.1))))
      go false true true true f1 f2 f3 f4 b = absurd (subst T (sym b) tt)

  -- an assign before position b that is not written
  abbrev Unwritten : ℕ → Type 0
  Unwritten b = (i : ℕ) × (At A t u es i × ((i < b) × ((p : ℕ) → AssignWrite t u es i p → ⊥)))

  unwritten_before : (b : ℕ) → bars_write (words_of es) t b u ≡ true → Unwritten b
  unfolding bars_write words_of
  unwritten_before b h = go (none? (stores t u es)) (ltb (first (stores t u es)).position b) (fresh t u es) (ltb (last_assign t u es) b) refl refl refl refl h
    where
      of_fresh : fresh t u es ≡ true → ltb (last_assign t u es) b ≡ true → Unwritten b
      of_fresh f k = (last_assign t u es, (line.fresh_at f, (ltb-true _ _ k, fresh_unwritten f)))

      go : (n s f k : Bool) → none? (stores t u es) ≡ n → ltb (first (stores t u es)).position b ≡ s → fresh t u es ≡ f → ltb (last_assign t u es) b ≡ k → (not n && s || f && k) ≡ true → Unwritten b
      go false true f k f1 f2 f3 f4 h =
          let s = (first (stores t u es)).position in
          let i = first_in (stores t u es) f1 in
          (s, (line.stored_at s i, (ltb-true _ _ f2, stored_unwritten s i)))
      go false false true true f1 f2 f3 f4 h = of_fresh f3 f4
      go true s true true f1 f2 f3 f4 h = of_fresh f3 f4
      go false false true false f1 f2 f3 f4 h = absurd (subst T (sym h) tt)
      go false false false k f1 f2 f3 f4 h = absurd (subst T (sym h) tt)
      go true s true false f1 f2 f3 f4 h = absurd (subst T (sym h) tt)
      go true s false k f1 f2 f3 f4 h = absurd (subst T (sym h) tt)

-- ---- what 27 found

-- a volatile variable that a search finds
volatile_found : (c : Counts) (f : ℕ → Bool) → some c.variables (λ u. volatile c u && f u) ≡ true → (u : ℕ) × ((volatile c u ≡ true) × (f u ≡ true))
volatile_found c f h = let x = found c.variables (λ u. volatile c u && f u) h in (x.0, both_of (volatile c x.0) (f x.0) x.1)

use_search : (c : Counts) (t v : ℕ) (es : List Event) (e : Event) → T (by (U ∷ []) t v e) → use_barred c (words_of es) e ≡ true → some c.variables (λ u. volatile c u && bars_use (words_of es) t (loaded_read t v es) u) ≡ true
unfolding use_barred words_of
use_search c t v es e b h =
    (both_of (volatile c v) _ (rw (is_true {b = is (U ∷ []) e} (by_is (U ∷ []) t v e b), by_thread (U ∷ []) t v e b, by_loc (U ∷ []) t v e b) at h)).1

write_search : (c : Counts) (t v : ℕ) (es : List Event) (e : Event) → T (by (W ∷ []) t v e) → write_barred c (words_of es) e ≡ true → some c.variables (λ u. volatile c u && bars_write (words_of es) t (first (stores t v es)).position u) ≡ true
unfolding write_barred words_of
write_search c t v es e b h =
    (both_of (not (none? (stores t v es))) _ (both_of (volatile c v) _ (rw (is_true {b = is (W ∷ []) e} (by_is (W ∷ []) t v e b), by_thread (W ∷ []) t v e b, by_loc (W ∷ []) t v e b) at h)).1).1

-- 27 at U, directly after its load: a use or assign of T on a volatile variable has no read or write before U's read.
pub use_barred_only : (m : Limits) (c : Counts) (es : List Event) → 0 < m.excess → T (Accepted m c es) → (t v : ℕ) (e : Event) → T (by (U ∷ []) t v e) → T (after_load t v es) → use_barred c (words_of es) e ≡ true
    → (u : ℕ) × ((volatile c u ≡ true) × ((i : ℕ) × (Acts t u es i × ((p : ℕ) → Associated t u es i p → loaded_read t v es ≤ p))))
use_barred_only m c es x a t v e b n h =
    let l = accepted_legal m c es x a in
    let g = volatile_found c (bars_use (words_of es) t (loaded_read t v es)) (use_search c t v es e b h) in
    (g.0, (g.1.0, in_the_way c es l t g.0 g.1.0 (loaded_read t v es) (loaded_positive c t v es l n) g.1.1))

-- 27 at W: an assign of T on a volatile variable before the one being written is not written.
pub write_barred_only : (m : Limits) (c : Counts) (es : List Event) → 0 < m.excess → T (Accepted m c es) → (t v : ℕ) (e : Event) → T (by (W ∷ []) t v e) → write_barred c (words_of es) e ≡ true
    → (u : ℕ) × ((volatile c u ≡ true) × ((i : ℕ) × (At A t u es i × ((i < (first (stores t v es)).position) × ((p : ℕ) → AssignWrite t u es i p → ⊥)))))
write_barred_only m c es x a t v e b h =
    let g = volatile_found c (bars_write (words_of es) t (first (stores t v es)).position) (write_search c t v es e b h) in
    (g.0, (g.1.0, unwritten_before c es (accepted_legal m c es x a) t g.0 g.1.0 (first (stores t v es)).position g.1.1))
