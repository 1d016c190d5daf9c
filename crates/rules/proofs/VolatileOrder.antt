-- Rule 4.3 of source document 001, section 3, on accepted events: read and write order follows use and assign order.
use Prim.Native.Nat.{ℕ, suc, ◌≤◌, ◌<◌}
use native.Mathlib.Omega.{arith}
use mathlib.Core.Path.{◌≡◌, refl, sym, ◌∙◌, subst}
use mathlib.Core.Bool.{Bool, true, false, not, cond, ◌&&◌, ◌||◌}
use mathlib.Core.List.{List, [], ◌∷◌, ◌++◌}
use mathlib.Core.Logic.{◌⊎◌, inl, inr}
use lib.Dec.{T, ltb}
use lib.ListN.{length}
use borrow.Author.Tests.{ltb-true, ltb-false, not-false}
use Rattle.rules.specs.declared.Kind.{Kind}
use Rattle.rules.specs.declared.Kind.TheVariants.{Assign, Store, Write, PrescientStore, PrescientAssign, Read, Unlock, Load, Notify, Lock, Use, Wait, Resume}
use Rattle.rules.specs.declared.Event.{Event}
use Rattle.rules.specs.declared.Slot.{Slot}
use Rattle.rules.specs.declared.Counts.{Counts}
use Rattle.rules.specs.Events.{A, B, P, S, U, W, letter, among, is, of, on, subject, on_lock, lock_letters}
use Rattle.rules.specs.Limits.{Limits, volatile, declared}
use Rattle.rules.specs.Words.{latest, letter_in, last_at, count, in_order, first, store_slot, by, accesses, stores, fresh, last_write, after_assign, loaded_read, used_read, last_assign}
use Rattle.rules.specs.Rules.{words_of, none?, loc, bars_use, bars_write, use_barred, write_barred, volatile_order, prescient_volatile, judge, Accepted, legal}
use Rattle.rules.specs.Volatile.{At, UseRead, AssignWrite, Acts, Associated}
use Rattle.rules.proofs.Laws.{cases, is_true, and_right, or_false_left, or_false_right, letter_is, is_among, by_none, some_none, order_kept, prescient_kept, store_fresh, write_partner, legal_known, legal_row, legal_before, accepted_legal}
use Rattle.rules.proofs.Next.{others, next}
use Rattle.rules.proofs.Simulation.{by_is, by_thread, by_loc, legal_next}
use Rattle.rules.proofs.Projections.{within, assign_match, store_match, used_match, write_match}
use Rattle.rules.proofs.Cells.{event_by}
use Rattle.rules.proofs.Volatile.{assign_next, stores_it}

-- T's event on V has other letters too
pub by_wider : (ks js : List ℕ) (t v : ℕ) (e : Event) → T (is js e) → T (by ks t v e) → T (by js t v e)
unfolding by
by_wider ks js t v e h b = rw (is_true {b = is js e} h) (and_right (is ks e) (of t e && on v e) b)

-- ---- T's words on V, one event later

module _ (c : Counts) (t v : ℕ) (e : Event) (es : List Event) (l : T (legal c es)) where
  fresh_next : fresh t v (e ∷ es) ≡ cond (by (A ∷ B ∷ S ∷ []) t v e) (is (A ∷ []) e) (fresh t v es)
  unfolding words_of next
  fresh_next = λ i. (legal_next c e es l i).fresh t v

  last_next : last_assign t v (e ∷ es) ≡ cond (by (A ∷ []) t v e) (suc (length es)) (last_assign t v es)
  unfolding words_of next
  last_next = λ i. (legal_next c e es l i).last_assign t v

  stores_next : stores t v (e ∷ es) ≡ cond (by (S ∷ P ∷ []) t v e) (stores t v es ++ (store_slot t v es e ∷ [])) (cond (by (W ∷ []) t v e) (others (stores t v es)) (stores t v es))
  unfolding words_of next
  stores_next = λ i. (legal_next c e es l i).stores t v

-- a fresh assign of a volatile is the latest of T's own events on it
fresh_latest : (c : Counts) (t v : ℕ) → volatile c v ≡ true → (es : List Event) → T (legal c es) → T (fresh t v es) → T (after_assign t v es)
unfolding fresh latest letter_in
fresh_latest c t v q [] l f = absurd f
fresh_latest c t v q (e ∷ es) l f =
    let k = legal_before c e es l in
    subst T (sym (assign_next t v e es)) (go (by (A ∷ B ∷ S ∷ []) t v e) (by accesses t v e) refl refl (subst T (fresh_next c t v e es k) f) (fresh_latest c t v q es k))
  where
    go : (b d : Bool) → by (A ∷ B ∷ S ∷ []) t v e ≡ b → by accesses t v e ≡ d → T (cond b (is (A ∷ []) e) (fresh t v es)) → (T (fresh t v es) → T (after_assign t v es)) → T (cond d (is (A ∷ []) e) (after_assign t v es))
    go true true g k h r = h
    go true false g k h r =
        let b = subst T (sym g) tt in
        absurd (subst T k (by_wider (A ∷ B ∷ S ∷ []) accesses t v e (is_among (A ∷ B ∷ S ∷ []) accesses e tt (by_is (A ∷ B ∷ S ∷ []) t v e b)) b))
    go false true g k h r =
        let b = subst T (sym k) tt in
        absurd (subst T g (by_wider accesses (A ∷ B ∷ S ∷ []) t v e (is_among (S ∷ []) (A ∷ B ∷ S ∷ []) e tt (stores_it c t v q es e (legal_row c e es l) b (r h))) b))
    go false false g k h r = r h

-- ---- what an accepted event does to T's assigns of a volatile V: it assigns, stores or writes, or leaves them as they are

data Turn (t v : ℕ) (e : Event) (es : List Event) : Type 0 where
  assigns : T (by (A ∷ []) t v e) → by (W ∷ []) t v e ≡ false → fresh t v es ≡ false → fresh t v (e ∷ es) ≡ true
      → last_assign t v (e ∷ es) ≡ suc (length es) → stores t v (e ∷ es) ≡ stores t v es → Turn t v e es
  leaves : by (A ∷ []) t v e ≡ false → by (W ∷ []) t v e ≡ false → fresh t v (e ∷ es) ≡ fresh t v es
      → last_assign t v (e ∷ es) ≡ last_assign t v es → stores t v (e ∷ es) ≡ stores t v es → Turn t v e es
  puts : by (A ∷ []) t v e ≡ false → by (W ∷ []) t v e ≡ false → fresh t v es ≡ true → fresh t v (e ∷ es) ≡ false
      → last_assign t v (e ∷ es) ≡ last_assign t v es → (s : Slot) → s.position ≡ last_assign t v es → stores t v (e ∷ es) ≡ stores t v es ++ (s ∷ []) → Turn t v e es
  writes : by (A ∷ []) t v e ≡ false → T (by (W ∷ []) t v e) → fresh t v (e ∷ es) ≡ fresh t v es
      → last_assign t v (e ∷ es) ≡ last_assign t v es → (s : Slot) (ss : List Slot) → stores t v es ≡ s ∷ ss → stores t v (e ∷ es) ≡ ss → Turn t v e es

-- the letters of the events that do not leave them
abbrev turning : List ℕ
turning = A ∷ S ∷ W ∷ P ∷ B ∷ []

module _ (c : Counts) (t v : ℕ) (q : volatile c v ≡ true) (es : List Event) (l : T (legal c es)) where
  same : (e : Event) → by (A ∷ []) t v e ≡ false → by (W ∷ []) t v e ≡ false → by (A ∷ B ∷ S ∷ []) t v e ≡ false → by (S ∷ P ∷ []) t v e ≡ false → Turn t v e es
  same e a w f s = leaves a w (fresh_next c t v e es l ∙ rw f) (last_next c t v e es l ∙ rw a) (stores_next c t v e es l ∙ rw (s, w))

  -- an accepted assign finds none fresh
  unfresh : (e : Event) → T (by (A ∷ []) t v e) → judge c (words_of es) e ≡ 0 → fresh t v es ≡ false
  unfresh e b p = go (fresh t v es) refl
    where
      a : T (is (A ∷ []) e)
      a = by_is (A ∷ []) t v e b

      go : (f : Bool) → fresh t v es ≡ f → f ≡ false
      go true g =
          let s = stores_it c t v q es e p (by_wider (A ∷ []) accesses t v e (is_among (A ∷ []) accesses e tt a) b) (fresh_latest c t v q es l (subst T (sym g) tt)) in
          absurd (omega (arith, letter_is A e a, letter_is S e s))
      go false g = refl

  -- an accepted store finds one
  is_fresh : (e : Event) → T (by (S ∷ []) t v e) → judge c (words_of es) e ≡ 0 → fresh t v es ≡ true
  unfolding words_of
  is_fresh e b p = not-false _ (rw (by_thread (S ∷ []) t v e b, by_loc (S ∷ []) t v e b) at (store_fresh c (words_of es) e p (by_is (S ∷ []) t v e b)))

  -- an accepted write finds an outstanding store
  has_store : (e : Event) → T (by (W ∷ []) t v e) → judge c (words_of es) e ≡ 0 → none? (stores t v es) ≡ false
  unfolding words_of
  has_store e b p = rw (by_thread (W ∷ []) t v e b, by_loc (W ∷ []) t v e b) at (write_partner c (words_of es) e p (by_is (W ∷ []) t v e b))

  -- no early store, and none of its assigns
  not_prescient : (e : Event) → T (by (P ∷ B ∷ []) t v e) → judge c (words_of es) e ≡ 0 → ⊥
  unfolding prescient_volatile
  not_prescient e b p = subst T (rw (is_true {b = is (P ∷ B ∷ []) e} (by_is (P ∷ B ∷ []) t v e b), by_loc (P ∷ B ∷ []) t v e b, q) at (prescient_kept c (words_of es) e p)) tt

  turn : (u n : ℕ) (k : Kind) → T (is turning (event_by u n k)) → (of t (event_by u n k) && on v (event_by u n k)) ≡ true → judge c (words_of es) (event_by u n k) ≡ 0 → Turn t v (event_by u n k) es
  unfolding by is
  turn u n (Use _ _) o b p = elim o [ ]
  turn u n (Load _ _) o b p = elim o [ ]
  turn u n (Read _ _) o b p = elim o [ ]
  turn u n (Lock _) o b p = elim o [ ]
  turn u n (Unlock _) o b p = elim o [ ]
  turn u n (Wait _) o b p = elim o [ ]
  turn u n (Notify _ _) o b p = elim o [ ]
  turn u n (Resume _) o b p = elim o [ ]
  turn u n (Assign w x) o b p =
      let e = event_by u n (Assign w x) in
      let a = subst T (sym b) tt in
      assigns a refl (unfresh e a p) (fresh_next c t v e es l ∙ rw b) (last_next c t v e es l ∙ rw b) (stores_next c t v e es l)
  turn u n (Store w x) o b p =
      let e = event_by u n (Store w x) in
      puts refl refl (is_fresh e (subst T (sym b) tt) p) (fresh_next c t v e es l ∙ rw b) (last_next c t v e es l) (store_slot t v es e) refl (stores_next c t v e es l ∙ rw b)
  turn u n (Write w x) o b p = go (stores t v es) refl (has_store e (subst T (sym b) tt) p)
    where
      e : Event
      e = event_by u n (Write w x)

      go : (ss : List Slot) → stores t v es ≡ ss → none? ss ≡ false → Turn t v e es
      go [] g k = absurd (subst T k tt)
      go (s ∷ ss) g k = writes refl (subst T (sym b) tt) (fresh_next c t v e es l) (last_next c t v e es l) s ss g (stores_next c t v e es l ∙ rw (b, g))
  turn u n (PrescientStore w x) o b p = absurd (not_prescient (event_by u n (PrescientStore w x)) (subst T (sym b) tt) p)
  turn u n (PrescientAssign w x) o b p = absurd (not_prescient (event_by u n (PrescientAssign w x)) (subst T (sym b) tt) p)

  turned : (e : Event) → judge c (words_of es) e ≡ 0 → Turn t v e es
  unfolding by
  turned e p = cases (by turning t v e)
      (λ b. let h = subst T (sym b) tt in turn e.thread e.line e.kind (by_is turning t v e h) (is_true (and_right (is turning e) (of t e && on v e) h)) p)
      (λ b. same e (by_none (A ∷ []) turning t v e tt b) (by_none (W ∷ []) turning t v e tt b) (by_none (A ∷ B ∷ S ∷ []) turning t v e tt b) (by_none (S ∷ P ∷ []) turning t v e tt b))

-- ---- positions in a queue

-- a stands below them all, and each below the next
abbrev pub Rising : ℕ → List Slot → Type 0
Rising a [] = Unit {0}
Rising a (s ∷ ss) = (a < s.position) × Rising s.position ss

-- the last position; a where there is none
abbrev pub top : ℕ → List Slot → ℕ
top a [] = a
top a (s ∷ ss) = top s.position ss

-- i is one of them
abbrev pub In : ℕ → List Slot → Type 0
In i [] = ⊥
In i (s ∷ ss) = (i ≡ s.position) ⊎ In i ss

rising_append : (a : ℕ) (ss : List Slot) (s : Slot) → Rising a ss → top a ss < s.position → Rising a (ss ++ (s ∷ []))
rising_append a [] s r h = (h, tt)
rising_append a (x ∷ ss) s r h = (r.0, rising_append x.position ss s r.1 h)

top_append : (a : ℕ) (ss : List Slot) (s : Slot) → top a (ss ++ (s ∷ [])) ≡ s.position
top_append a [] s = refl
top_append a (x ∷ ss) s = top_append x.position ss s

pub above : (a i : ℕ) (ss : List Slot) → Rising a ss → In i ss → a < i
above a i [] r k = absurd k
above a i (s ∷ ss) r (inl k) = omega (arith, r.0, k)
above a i (s ∷ ss) r (inr k) = omega (arith, r.0, above s.position i ss r.1 k)

first_least : (a i : ℕ) (ss : List Slot) → Rising a ss → In i ss → (first ss).position ≤ i
first_least a i [] r k = absurd k
first_least a i (s ∷ ss) r (inl k) = omega (arith, k)
first_least a i (s ∷ ss) r (inr k) = omega (arith, above s.position i ss r.1 k)

in_left : (i : ℕ) (ss : List Slot) (s : Slot) → In i ss → In i (ss ++ (s ∷ []))
in_left i [] s k = absurd k
in_left i (x ∷ ss) s (inl k) = inl k
in_left i (x ∷ ss) s (inr k) = inr (in_left i ss s k)

in_last : (i : ℕ) (ss : List Slot) (s : Slot) → i ≡ s.position → In i (ss ++ (s ∷ []))
in_last i [] s k = inl k
in_last i (x ∷ ss) s k = inr (in_last i ss s k)

in_append : (i : ℕ) (ss : List Slot) (s : Slot) → In i (ss ++ (s ∷ [])) → In i ss ⊎ (i ≡ s.position)
in_append i [] s (inl k) = inr k
in_append i [] s (inr k) = absurd k
in_append i (x ∷ ss) s (inl k) = inl (inl k)
in_append i (x ∷ ss) s (inr k) = elim (in_append i ss s k) [ inl y ↦ inl (inr y) | inr y ↦ inr y ]

-- ---- T's assigns of a volatile V: written, then outstanding, then fresh, in the order of their positions

-- the assign at position i is fresh, or outstanding, or written
pub data Stage (t v : ℕ) (es : List Event) (i : ℕ) : Type 0 where
  newest : fresh t v es ≡ true → i ≡ last_assign t v es → Stage t v es i
  stored : In i (stores t v es) → Stage t v es i
  written : (p : ℕ) → AssignWrite t v es i p → Stage t v es i

pub record Assigns (t v : ℕ) (es : List Event) : Type 0 where
  -- the assign that was written last
  pub last : ℕ
  pub done : (i p : ℕ) → AssignWrite t v es i p → i ≤ last
  pub rising : Rising last (stores t v es)
  pub behind : top last (stores t v es) ≤ last_assign t v es
  pub ahead : fresh t v es ≡ true → top last (stores t v es) < last_assign t v es
  -- each assign is one of the three
  pub each : (i : ℕ) → At A t v es i → Stage t v es i
  -- and these are assigns
  pub fresh_at : fresh t v es ≡ true → At A t v es (last_assign t v es)
  pub stored_at : (i : ℕ) → In i (stores t v es) → At A t v es i
  pub written_at : (i p : ℕ) → AssignWrite t v es i p → At A t v es i

no_assigns : (t v : ℕ) → Assigns t v []
unfolding stores in_order count fresh latest letter_in
no_assigns t v = record {
  last = 0;
  done = λ i p d. absurd d;
  rising = tt;
  behind = omega arith;
  ahead = λ f. absurd (subst T (sym f) tt);
  each = λ i k. absurd k;
  fresh_at = λ f. absurd (subst T (sym f) tt);
  stored_at = λ i k. absurd k;
  written_at = λ i p d. absurd d;
}

module _ (t v : ℕ) (e : Event) (es : List Event) where
  -- an event that is no write writes nothing more
  no_write_yet : by (W ∷ []) t v e ≡ false → (i p : ℕ) → AssignWrite t v (e ∷ es) i p → AssignWrite t v es i p
  no_write_yet w i p (inl x) = absurd (subst T w x.0)
  no_write_yet w i p (inr d) = d

  -- one that is no assign leaves the assigns that there were
  no_assign_yet : by (A ∷ []) t v e ≡ false → (i : ℕ) → At A t v (e ∷ es) i → At A t v es i
  no_assign_yet a i (inl x) = absurd (subst T a x.0)
  no_assign_yet a i (inr k) = k

  assigns_next : last_assign t v es ≤ length es → Assigns t v es → Turn t v e es → Assigns t v (e ∷ es)
  assigns_next n s (assigns a w f g l st) = record {
    last = s.last;
    done = λ i p d. s.done i p (no_write_yet w i p d);
    rising = rw st s.rising;
    behind = rw (st, l) (omega (arith, s.behind));
    ahead = λ y. rw (st, l) (omega (arith, s.behind));
    each = each;
    fresh_at = λ y. rw l (inl (a, refl));
    stored_at = λ i k. inr (s.stored_at i (rw st at k));
    written_at = λ i p d. inr (s.written_at i p (no_write_yet w i p d));
  }
    where
      each : (i : ℕ) → At A t v (e ∷ es) i → Stage t v (e ∷ es) i
      each i (inl x) = newest g (x.1 ∙ sym l)
      each i (inr k) = elim (s.each i k) [ newest y z ↦ absurd (subst T (sym y ∙ f) tt) | stored y ↦ stored (rw st y) | written p y ↦ written p (inr y) ]
  assigns_next n s (leaves a w f l st) = record {
    last = s.last;
    done = λ i p d. s.done i p (no_write_yet w i p d);
    rising = rw st s.rising;
    behind = rw (st, l) s.behind;
    ahead = λ y. rw (st, l) (s.ahead (sym f ∙ y));
    each = λ i k. elim (s.each i (no_assign_yet a i k)) [ newest y z ↦ newest (f ∙ y) (z ∙ sym l) | stored y ↦ stored (rw st y) | written p y ↦ written p (inr y) ];
    fresh_at = λ y. rw l (inr (s.fresh_at (sym f ∙ y)));
    stored_at = λ i k. inr (s.stored_at i (rw st at k));
    written_at = λ i p d. inr (s.written_at i p (no_write_yet w i p d));
  }
  assigns_next n s (puts a w f g l x xp st) = record {
    last = s.last;
    done = λ i p d. s.done i p (no_write_yet w i p d);
    rising = rw st (rising_append s.last (stores t v es) x s.rising (rw xp (s.ahead f)));
    behind = rw (st, l, top_append s.last (stores t v es) x) (omega arith);
    ahead = λ y. absurd (subst T (sym y ∙ g) tt);
    each = λ i k. elim (s.each i (no_assign_yet a i k)) [ newest y z ↦ stored (rw st (in_last i (stores t v es) x (z ∙ sym xp))) | stored y ↦ stored (rw st (in_left i (stores t v es) x y)) | written p y ↦ written p (inr y) ];
    fresh_at = λ y. absurd (subst T (sym y ∙ g) tt);
    stored_at = λ i k. inr (elim (in_append i (stores t v es) x (rw st at k)) [ inl y ↦ s.stored_at i y | inr y ↦ rw (y, xp) (s.fresh_at f) ]);
    written_at = λ i p d. inr (s.written_at i p (no_write_yet w i p d));
  }
  assigns_next n s (writes a w f l x ss sx st) = record {
    last = x.position;
    done = done;
    rising = rw st rise.1;
    behind = rw (st, l) (rw sx at s.behind);
    ahead = λ y. rw (st, l) (rw sx at (s.ahead (sym f ∙ y)));
    each = λ i k. elim (s.each i (no_assign_yet a i k)) [ newest y z ↦ newest (f ∙ y) (z ∙ sym l) | stored y ↦ popped i (rw sx at y) | written p y ↦ written p (inr y) ];
    fresh_at = λ y. rw l (inr (s.fresh_at (sym f ∙ y)));
    stored_at = λ i k. inr (s.stored_at i (rw sx (inr (rw st at k))));
    written_at = written_at;
  }
    where
      rise : Rising s.last (x ∷ ss)
      rise = rw sx at s.rising

      done : (i p : ℕ) → AssignWrite t v (e ∷ es) i p → i ≤ x.position
      done i p (inl y) = let z = rw sx at y.1 in omega arith
      done i p (inr d) = omega (arith, s.done i p d, rise.0)

      written_at : (i p : ℕ) → AssignWrite t v (e ∷ es) i p → At A t v (e ∷ es) i
      written_at i p (inl y) = inr (s.stored_at i (rw sx (inl (rw sx at y.1))))
      written_at i p (inr d) = inr (s.written_at i p d)

      -- the oldest is written now
      popped : (i : ℕ) → In i (x ∷ ss) → Stage t v (e ∷ es) i
      popped i (inl y) = written (suc (length es)) (inl (w, rw sx y, refl))
      popped i (inr y) = stored (rw st y)

-- no word gives a position above the length
assign_within : (t v : ℕ) (es : List Event) → last_assign t v es ≤ length es
assign_within t v es = (within (of t) es _ _ (assign_match t v es)).0

write_within : (t v : ℕ) (es : List Event) → last_write t v es ≤ length es
write_within t v es = (within (of t) es _ _ (write_match t v es)).0

used_within : (t v : ℕ) (es : List Event) → used_read t v es ≤ length es
used_within t v es = (within (of t) es _ _ (used_match t v es)).0

pub assigns_of_law : (c : Counts) (t v : ℕ) → volatile c v ≡ true → (es : List Event) → T (legal c es) → Assigns t v es
assigns_of_law c t v q [] l = no_assigns t v
assigns_of_law c t v q (e ∷ es) l = let k = legal_before c e es l in assigns_next t v e es (assign_within t v es) (assigns_of_law c t v q es k) (turned c t v q es k e (legal_row c e es l))

-- ---- what 27 says of an accepted use, and of an accepted write

use_clear : (c : Counts) (t v u : ℕ) (e : Event) (es : List Event) → judge c (words_of es) e ≡ 0 → T (by (U ∷ []) t v e) → volatile c v ≡ true → volatile c u ≡ true → u < c.variables → bars_use (words_of es) t (loaded_read t v es) u ≡ false
unfolding volatile_order use_barred words_of
use_clear c t v u e es p b q r h =
    rw r at (some_none c.variables (λ n. volatile c n && bars_use (words_of es) t (loaded_read t v es) n)
    (rw (is_true {b = is (U ∷ []) e} (by_is (U ∷ []) t v e b), by_thread (U ∷ []) t v e b, by_loc (U ∷ []) t v e b, q) at (or_false_left (use_barred c (words_of es) e) (write_barred c (words_of es) e) (order_kept c (words_of es) e p))) u h)

write_clear : (c : Counts) (t v u : ℕ) (e : Event) (es : List Event) → T (legal c es) → judge c (words_of es) e ≡ 0 → T (by (W ∷ []) t v e) → volatile c v ≡ true → volatile c u ≡ true → u < c.variables
    → bars_write (words_of es) t (first (stores t v es)).position u ≡ false
unfolding volatile_order write_barred words_of
write_clear c t v u e es l p b q r h =
    rw r at (some_none c.variables (λ n. volatile c n && bars_write (words_of es) t (first (stores t v es)).position n)
    (rw (is_true {b = is (W ∷ []) e} (by_is (W ∷ []) t v e b), by_thread (W ∷ []) t v e b, by_loc (W ∷ []) t v e b, q, has_store c t v q es l e b p) at (or_false_right (use_barred c (words_of es) e) (write_barred c (words_of es) e) (order_kept c (words_of es) e p))) u h)

-- the assigns of variable u are written, and its uses read, before position r
record Ahead (t u r : ℕ) (es : List Event) : Type 0 where
  stale : fresh t u es ≡ false
  empty : none? (stores t u es) ≡ true
  wrote : last_write t u es < r
  used : used_read t u es < r

ahead_of : (t u r : ℕ) (es : List Event) → bars_use (words_of es) t r u ≡ false → Ahead t u r es
unfolding bars_use words_of
ahead_of t u r es p = go (fresh t u es) (none? (stores t u es)) (ltb (last_write t u es) r) (ltb (used_read t u es) r) refl refl refl refl p
  where
    go : (f n l k : Bool) → fresh t u es ≡ f → none? (stores t u es) ≡ n → ltb (last_write t u es) r ≡ l → ltb (used_read t u es) r ≡ k → (f || not n || not l || not k) ≡ false → Ahead t u r es
    go false true true true a b c d p = record { stale = a; empty = b; wrote = ltb-true _ _ c; used = ltb-true _ _ d }
    go false true true false a b c d p = absurd (subst T p tt)
    go false true false k a b c d p = absurd (subst T p tt)
    go false false l k a b c d p = absurd (subst T p tt)
    go true n l k a b c d p = absurd (subst T p tt)

-- no unwritten assign of variable u stands before position a
record Behind (t u a : ℕ) (es : List Event) : Type 0 where
  stored : none? (stores t u es) ≡ false → a ≤ (first (stores t u es)).position
  assigned : fresh t u es ≡ true → a ≤ last_assign t u es

behind_of : (t u a : ℕ) (es : List Event) → bars_write (words_of es) t a u ≡ false → Behind t u a es
unfolding bars_write words_of
behind_of t u a es p = record {
  stored = λ n. ltb-false _ _ (rw n at (or_false_left (not (none? (stores t u es)) && ltb (first (stores t u es)).position a) (fresh t u es && ltb (last_assign t u es) a) p));
  assigned = λ f. ltb-false _ _ (rw f at (or_false_right (not (none? (stores t u es)) && ltb (first (stores t u es)).position a) (fresh t u es && ltb (last_assign t u es) a) p));
}

-- ---- where they stand

at_within : (k t v : ℕ) (es : List Event) (i : ℕ) → At k t v es i → i ≤ length es
at_within k t v [] i a = absurd a
at_within k t v (e ∷ es) i (inl x) = omega arith
at_within k t v (e ∷ es) i (inr a) = omega (arith, at_within k t v es i a)

use_read : (t v : ℕ) (es : List Event) (i : ℕ) → At U t v es i → (p : ℕ) × UseRead t v es i p
use_read t v [] i a = absurd a
use_read t v (e ∷ es) i (inl x) = (loaded_read t v es, inl (x.0, x.1, refl))
use_read t v (e ∷ es) i (inr a) = let r = use_read t v es i a in (r.0, inr r.1)

pub read_use : (t v : ℕ) (es : List Event) (i p : ℕ) → UseRead t v es i p → At U t v es i
read_use t v [] i p d = absurd d
read_use t v (e ∷ es) i p (inl x) = inl (x.0, x.1)
read_use t v (e ∷ es) i p (inr d) = inr (read_use t v es i p d)

-- no read of a use is behind that of the latest use
read_latest : (c : Counts) (t v : ℕ) → volatile c v ≡ true → v < c.variables → (es : List Event) → T (legal c es) → (i p : ℕ) → UseRead t v es i p → p ≤ used_read t v es
unfolding used_read
read_latest c t v q h [] l i p d = absurd d
read_latest c t v q h (e ∷ es) l i p (inl d) = rw (is_true {b = by (U ∷ []) t v e} d.0) (omega arith)
read_latest c t v q h (e ∷ es) l i p (inr d) = go (by (U ∷ []) t v e) refl (read_latest c t v q h es (legal_before c e es l) i p d)
  where
    go : (b : Bool) → by (U ∷ []) t v e ≡ b → p ≤ used_read t v es → p ≤ cond b (loaded_read t v es) (used_read t v es)
    go true b k = omega (arith, k, (ahead_of t v (loaded_read t v es) es (use_clear c t v v e es (legal_row c e es l) (subst T (sym b) tt) q q h)).used)
    go false b k = k

-- no write of an assign is behind the latest write
write_latest : (t v : ℕ) (es : List Event) (i p : ℕ) → AssignWrite t v es i p → p ≤ last_write t v es
unfolding last_write last_at
write_latest t v [] i p d = absurd d
write_latest t v (e ∷ es) i p (inl d) = rw (is_true {b = by (W ∷ []) t v e} d.0) (omega arith)
write_latest t v (e ∷ es) i p (inr d) = go (by (W ∷ []) t v e) (write_latest t v es i p d) (write_within t v es)
  where
    go : (b : Bool) → p ≤ last_write t v es → last_write t v es ≤ length es → p ≤ cond b (suc (length es)) (last_write t v es)
    go true k l = omega arith
    go false k l = k

-- ---- the order

-- T's use or assign of variable u at position i has its read or write before position q
abbrev Sooner : ℕ → ℕ → List Event → ℕ → ℕ → Type 0
Sooner t u es i q = (p : ℕ) × (Associated t u es i p × (p < q))

none_in : (i : ℕ) (ss : List Slot) → none? ss ≡ true → In i ss → ⊥
none_in i [] n k = k
none_in i (s ∷ ss) n k = subst T (sym n) tt

some_in_law : (i : ℕ) (ss : List Slot) → In i ss → none? ss ≡ false
some_in_law i [] k = absurd k
some_in_law i (s ∷ ss) k = refl

module _ (c : Counts) (t u : ℕ) (vol : volatile c u ≡ true) (h : u < c.variables) where
  -- before the read of a use
  before_use : (es : List Event) → T (legal c es) → (r : ℕ) → Ahead t u r es → (i : ℕ) → Acts t u es i → Sooner t u es i r
  before_use es l r k i (inl y) = let d = use_read t u es i y in (d.0, (inl d.1, omega (arith, read_latest c t u vol h es l i d.0 d.1, k.used)))
  before_use es l r k i (inr y) =
      elim ((assigns_of_law c t u vol es l).each i y) [
        | newest f z ↦ absurd (subst T (sym f ∙ k.stale) tt)
        | stored z ↦ absurd (none_in i (stores t u es) k.empty z)
        | written p d ↦ (p, (inr d, omega (arith, write_latest t u es i p d, k.wrote)))
      ]

  -- before the write of an assign at b, where the write is the next event
  before_write : (es : List Event) → T (legal c es) → (b : ℕ) → Behind t u b es → (i : ℕ) → i < b → Acts t u es i → Sooner t u es i (suc (length es))
  before_write es l b k i n (inl y) = let d = use_read t u es i y in (d.0, (inl d.1, omega (arith, read_latest c t u vol h es l i d.0 d.1, used_within t u es)))
  before_write es l b k i n (inr y) =
      let s = assigns_of_law c t u vol es l in
      elim (s.each i y) [
        | newest f z ↦ absurd (omega (arith, n, z, k.assigned f))
        | stored z ↦ absurd (omega (arith, n, k.stored (some_in_law i (stores t u es) z), first_least s.last i (stores t u es) s.rising z))
        | written p d ↦ (p, (inr d, omega (arith, write_latest t u es i p d, write_within t u es)))
      ]

  -- an event later
  acts_before : (e : Event) (es : List Event) (i : ℕ) → i ≤ length es → Acts t u (e ∷ es) i → Acts t u es i
  acts_before e es i n (inl (inl y)) = absurd (omega arith)
  acts_before e es i n (inl (inr y)) = inl y
  acts_before e es i n (inr (inl y)) = absurd (omega arith)
  acts_before e es i n (inr (inr y)) = inr y

  sooner_on : (e : Event) (es : List Event) (i q r : ℕ) → r ≡ q → Sooner t u es i q → Sooner t u (e ∷ es) i r
  sooner_on e es i q r z s = (s.0, (elim s.1.0 [ inl d ↦ inl (inr d) | inr d ↦ inr (inr d) ], rw z s.1.1))

  ordered : (v : ℕ) → volatile c v ≡ true → (es : List Event) → T (legal c es) → (i j q : ℕ) → Acts t u es i → Associated t v es j q → i < j → Sooner t u es i q
  ordered v r [] l i j q y (inl d) n = absurd d
  ordered v r [] l i j q y (inr d) n = absurd d
  ordered v r (e ∷ es) l i j q y (inl (inl d)) n =
      let k = ahead_of t u (loaded_read t v es) es (use_clear c t v u e es (legal_row c e es l) d.0 r vol h) in
      sooner_on e es i (loaded_read t v es) q d.2 (before_use es (legal_before c e es l) (loaded_read t v es) k i (acts_before e es i (omega (arith, n, d.1)) y))
  ordered v r (e ∷ es) l i j q y (inl (inr d)) n =
      let k = legal_before c e es l in
      sooner_on e es i q q refl (ordered v r es k i j q (acts_before e es i (omega (arith, n, at_within U t v es j (read_use t v es j q d))) y) (inl d) n)
  ordered v r (e ∷ es) l i j q y (inr (inl d)) n =
      let k = legal_before c e es l in
      let b = (first (stores t v es)).position in
      let w : b ≤ length es = (within (of t) es _ _ (store_match t v es)).0 in
      sooner_on e es i (suc (length es)) q d.2
      (before_write es k b (behind_of t u b es (write_clear c t v u e es k (legal_row c e es l) d.0 r vol h)) i (omega (arith, n, d.1)) (acts_before e es i (omega (arith, n, d.1, w)) y))
  ordered v r (e ∷ es) l i j q y (inr (inr d)) n =
      let k = legal_before c e es l in
      sooner_on e es i q q refl (ordered v r es k i j q (acts_before e es i (omega (arith, n, at_within A t v es j ((assigns_of_law c t v r es k).written_at j q d))) y) (inr d) n)

-- ---- each has one read or write

-- no two letters stand at one position
pub one_at : (k m t v : ℕ) (es : List Event) (i : ℕ) → At k t v es i → At m t v es i → k ≡ m
one_at k m t v [] i a b = absurd a
one_at k m t v (e ∷ es) i (inl a) (inl b) = letter_is k e (by_is (k ∷ []) t v e a.0) ∙ sym (letter_is m e (by_is (m ∷ []) t v e b.0))
one_at k m t v (e ∷ es) i (inl a) (inr b) = absurd (omega (arith, a.1, at_within m t v es i b))
one_at k m t v (e ∷ es) i (inr a) (inl b) = absurd (omega (arith, b.1, at_within k t v es i a))
one_at k m t v (e ∷ es) i (inr a) (inr b) = one_at k m t v es i a b

one_read : (t v : ℕ) (es : List Event) (i p q : ℕ) → UseRead t v es i p → UseRead t v es i q → p ≡ q
one_read t v [] i p q a b = absurd a
one_read t v (e ∷ es) i p q (inl a) (inl b) = a.2 ∙ sym b.2
one_read t v (e ∷ es) i p q (inl a) (inr b) = absurd (omega (arith, a.1, at_within U t v es i (read_use t v es i q b)))
one_read t v (e ∷ es) i p q (inr a) (inl b) = absurd (omega (arith, b.1, at_within U t v es i (read_use t v es i p a)))
one_read t v (e ∷ es) i p q (inr a) (inr b) = one_read t v es i p q a b

module _ (c : Counts) (t v : ℕ) (vol : volatile c v ≡ true) where
  -- what is written now was not written before
  not_again : (e : Event) (es : List Event) → T (legal c (e ∷ es)) → (i p : ℕ) → T (by (W ∷ []) t v e) → i ≡ (first (stores t v es)).position → AssignWrite t v es i p → ⊥
  not_again e es l i p b k d = go (stores t v es) (has_store c t v vol es before e b (legal_row c e es l)) s.rising k
    where
      before : T (legal c es)
      before = legal_before c e es l

      s : Assigns t v es
      s = assigns_of_law c t v vol es before

      go : (ss : List Slot) → none? ss ≡ false → Rising s.last ss → i ≡ (first ss).position → ⊥
      go [] n r k = subst T n tt
      go (x ∷ ss) n r k = omega (arith, k, r.0, s.done i p d)

  one_write : (es : List Event) → T (legal c es) → (i p q : ℕ) → AssignWrite t v es i p → AssignWrite t v es i q → p ≡ q
  one_write [] l i p q a b = absurd a
  one_write (e ∷ es) l i p q (inl a) (inl b) = a.2 ∙ sym b.2
  one_write (e ∷ es) l i p q (inl a) (inr b) = absurd (not_again e es l i q a.0 a.1 b)
  one_write (e ∷ es) l i p q (inr a) (inl b) = absurd (not_again e es l i p b.0 b.1 a)
  one_write (e ∷ es) l i p q (inr a) (inr b) = one_write es (legal_before c e es l) i p q a b

  -- no assign is a use
  apart : (es : List Event) → T (legal c es) → (i p q : ℕ) → UseRead t v es i p → AssignWrite t v es i q → ⊥
  apart es l i p q a b = omega (arith, one_at U A t v es i (read_use t v es i p a) ((assigns_of_law c t v vol es l).written_at i q b))

  -- the use or assign at a position has at most one read or write
  pub legal_once : (es : List Event) → T (legal c es) → (i p q : ℕ) → Associated t v es i p → Associated t v es i q → p ≡ q
  legal_once es l i p q (inl a) (inl b) = one_read t v es i p q a b
  legal_once es l i p q (inl a) (inr b) = absurd (apart es l i p q a b)
  legal_once es l i p q (inr a) (inl b) = absurd (apart es l i q p b a)
  legal_once es l i p q (inr a) (inr b) = one_write es l i p q a b

  -- what has a read or write is a use or assign
  acts_of : (es : List Event) → T (legal c es) → (i p : ℕ) → Associated t v es i p → Acts t v es i
  acts_of es l i p (inl d) = inl (read_use t v es i p d)
  acts_of es l i p (inr d) = inr ((assigns_of_law c t v vol es l).written_at i p d)

-- ---- the variable of an accepted use or assign is declared

declared_on : (c : Counts) (k t v : ℕ) (e : Event) → among lock_letters k ≡ false → declared c e ≡ true → T (by (k ∷ []) t v e) → v < c.variables
unfolding declared on_lock is
declared_on c k t v e n d b =
    let on = ltb (loc e) (cond (among lock_letters (letter e.kind)) c.locks c.variables) in
    let p : T (ltb e.thread c.threads && (ltb (subject e) c.threads && on)) = subst T (sym d) tt in
    ltb-true v c.variables (is_true (rw (← (letter_is k e (by_is (k ∷ []) t v e b)), n, by_loc (k ∷ []) t v e b) at (and_right (ltb (subject e) c.threads) on (and_right (ltb e.thread c.threads) _ p))))

at_declared : (c : Counts) (k t v : ℕ) → among lock_letters k ≡ false → (es : List Event) → T (legal c es) → (i : ℕ) → At k t v es i → v < c.variables
at_declared c k t v n [] l i b = absurd b
at_declared c k t v n (e ∷ es) l i (inl b) = declared_on c k t v e n (legal_known c e es l) b.0
at_declared c k t v n (e ∷ es) l i (inr b) = at_declared c k t v n es (legal_before c e es l) i b

acts_declared : (c : Counts) (t v : ℕ) (es : List Event) → T (legal c es) → (i : ℕ) → Acts t v es i → v < c.variables
acts_declared c t v es l i (inl b) = at_declared c U t v refl es l i b
acts_declared c t v es l i (inr b) = at_declared c A t v refl es l i b

-- ---- accepted events

module _ (m : Limits) (c : Counts) (es : List Event) (x : 0 < m.excess) (a : T (Accepted m c es)) where
  -- Rule 4.3: “Let action A be a use or assign by thread t on variable v, let action F be the load or store associated with A, and let action P be the
  -- read or write of v that corresponds to F. Similarly, let action B be … If A precedes B, then P must precede Q.” A is on u and stands at position i, B
  -- is on v and stands at j, and Q stands at q: then A's read or write has been made, and came before Q.
  pub volatile_order_law : (t u v : ℕ) → volatile c u ≡ true → volatile c v ≡ true → (i j q : ℕ) → Acts t u es i → Associated t v es j q → i < j → (p : ℕ) × (Associated t u es i p × (p < q))
  volatile_order_law t u v f g i j q y d n = let l = accepted_legal m c es x a in ordered c t u f (acts_declared c t u es l i y) v g es l i j q y d n

  -- A use or assign has at most one read or write.
  pub associated_once : (t v : ℕ) → volatile c v ≡ true → (i p q : ℕ) → Associated t v es i p → Associated t v es i q → p ≡ q
  associated_once t v f i p q = legal_once c t v f es (accepted_legal m c es x a) i p q

  -- The reads and writes come in the order of the uses and assigns.
  pub volatile_order_both : (t u v : ℕ) → volatile c u ≡ true → volatile c v ≡ true → (i p j q : ℕ) → Associated t u es i p → Associated t v es j q → i < j → p < q
  volatile_order_both t u v f g i p j q b d n =
      let o = volatile_order_law t u v f g i j q (acts_of c t u f es (accepted_legal m c es x a) i p b) d n in
      omega (arith, o.1.1, associated_once t u f i p o.0 b o.1.0)
