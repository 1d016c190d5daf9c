-- Each word depends on one projection of the earlier events alone; so do the refusals of a row, and the memories.
use Prim.Native.Nat.{ℕ, zero, suc, ◌≤◌, ◌<◌}
use native.Mathlib.Omega.{arith}
use mathlib.Core.Path.{◌≡◌, refl, sym, ap, ◌∙◌, subst}
use mathlib.Core.Bool.{Bool, true, false, not, cond, ◌&&◌, ◌||◌, and-false}
use mathlib.Core.List.{List, [], ◌∷◌, ◌++◌, map, append-nil, nil≢cons, cons≢nil, head-eq_of_cons-eq, tail-eq_of_cons-eq}
use mathlib.Core.Logic.{◌⊎◌, inl, inr}
use mathlib.Core.Option.{some}
use lib.Dec.{T, eqb, ltb}
use lib.ListN.{length, drop}
use borrow.Author.Tests.{lt-ltb, le-ltb}
use Rattle.rules.specs.declared.Event.{Event}
use Rattle.rules.specs.declared.Slot.{Slot}
use Rattle.rules.specs.declared.Counts.{Counts}
use Rattle.rules.specs.Events.{A, C, F, K, L, N, P, R, S, U, W, Y, letter, value, among, is, of, on, subject, lock_letters, on_lock, locks, eq_z}
use Rattle.rules.specs.Words.{latest, value_in, letter_in, last_at, count, slot, store_slot, in_order, first, by, accesses, locks_by, reads, stores, copy, fresh, pending, announced, last_lock, last_write, usable, Grip, grip_after, grip, depth, remembered, tells, notified, main, after_load, after_assign, loaded_read, used_read, last_assign}
use Rattle.rules.specs.Limits.{volatile}
use Rattle.rules.specs.Rules
use Rattle.rules.specs.Rules.{words_of, none?, loc, waits_on, waits, no_partner, lock_taken, not_held, pending_bars, not_fresh, not_stored, read_before_write, unwritten, not_written, not_usable, differs, eight_already, dead_read, wrong_neighbour, bars_use, bars_write, use_barred, write_barred, volatile_order, of_waiting, not_notified, breaks, rows, row_in, first_broken, judge}
use Rattle.rules.specs.Memories.{below, each, memory, copies}
use Rattle.rules.specs.Projections.{keep, own, own_on, memory_on, lock_on}
use Rattle.rules.proofs.Laws.{and_left, and_right, all_of, each_among, is_among}

-- ---- tests

-- what passes p passes q
abbrev Within : (Event → Bool) → (Event → Bool) → Type 0
Within p q = (e : Event) → T (p e) → T (q e)

fails : (a b : Bool) → (T a → T b) → b ≡ false → a ≡ false
fails true b f h = absurd (subst T h (f tt))
fails false b f h = refl

both : (a b : Bool) → T a → T b → T (a && b)
both true b x y = y
both false b x y = x

passes : {b : Bool} → b ≡ true → T b
passes h = subst T (sym h) tt

-- ---- a list and what is kept of it

module _ (q : Event → Bool) where
  -- induction: an event that fails the test is left out, one that passes it is kept
  kept : (Q : List Event → List Event → Type 0) → Q [] []
      → ((e : Event) (es : List Event) → q e ≡ false → Q es (keep q es) → Q (e ∷ es) (keep q es))
      → ((e : Event) (es : List Event) → q e ≡ true → Q es (keep q es) → Q (e ∷ es) (e ∷ keep q es))
      → (es : List Event) → Q es (keep q es)
  unfolding keep
  kept Q start skips keeps [] = start
  kept Q start skips keeps (e ∷ es) = go (q e) refl (kept Q start skips keeps es)
    where
      go : (b : Bool) → q e ≡ b → Q es (keep q es) → Q (e ∷ es) (cond b (e ∷ keep q es) (keep q es))
      go true h k = keeps e es h k
      go false h k = skips e es h k

  -- the same of a list and of what is kept of it
  kept_same : {A : Type 0} (f : List Event → A)
      → ((e : Event) (es : List Event) → q e ≡ false → f (e ∷ es) ≡ f es)
      → ((e : Event) (es : List Event) → f es ≡ f (keep q es) → f (e ∷ es) ≡ f (e ∷ keep q es))
      → (es : List Event) → f es ≡ f (keep q es)
  kept_same f skips keeps = kept (λ es fs. f es ≡ f fs) refl (λ e es h k. skips e es h ∙ k) (λ e es h k. keeps e es k)

  module _ (p : Event → Bool) (w : Within p q) where
    -- a word that only what passes p can change
    tested : {A : Type 0} (f : List Event → A) (g : Event → A → A) → ((e : Event) (es : List Event) → f (e ∷ es) ≡ cond (p e) (g e (f es)) (f es)) → (es : List Event) → f es ≡ f (keep q es)
    tested f g s = kept_same f (λ e es h. rw (s e es, fails (p e) (q e) (w e) h)) (λ e es k. rw (s e es, s e (keep q es), k))

    latest_kept : (es : List Event) → latest p es ≡ latest p (keep q es)
    unfolding latest
    latest_kept = tested (latest p) (λ e o. some e) (λ e es. refl)

    count_kept : (es : List Event) → count p es ≡ count p (keep q es)
    unfolding count
    count_kept = tested (count p) (λ e n. suc n) (λ e es. refl)

    keep_kept : (es : List Event) → keep p es ≡ keep p (keep q es)
    unfolding keep
    keep_kept = tested (keep p) (λ e es. e ∷ es) (λ e es. refl)

-- ---- positions

-- position a in es is position b in what is kept of es: 0 in both, or that of an event that is kept
abbrev pub Match : (Event → Bool) → List Event → ℕ → ℕ → Type 0
Match q [] a b = (a ≡ 0) × (b ≡ 0)
Match q (e ∷ es) a b = (T (q e) × (a ≡ suc (length es)) × (b ≡ suc (length (keep q es)))) ⊎ Match q es a b

no_later : (a b c d : ℕ) → b ≤ a → d ≤ c → ltb a b ≡ ltb c d
no_later a b c d h k = le-ltb a b h ∙ sym (le-ltb c d k)

later : (a b c d : ℕ) → a < b → c < d → ltb a b ≡ ltb c d
later a b c d h k = lt-ltb a b h ∙ sym (lt-ltb c d k)

module _ (q : Event → Bool) where
  -- no position is above the length
  pub within : (es : List Event) (a b : ℕ) → Match q es a b → (a ≤ length es) × (b ≤ length (keep q es))
  unfolding keep
  within [] a b m = (omega arith, omega arith)
  within (e ∷ es) a b (inl m) = (omega arith, go (q e) m.0)
    where
      go : (x : Bool) → T x → b ≤ length (cond x (e ∷ keep q es) (keep q es))
      go true t = omega arith
      go false t = absurd t
  within (e ∷ es) a b (inr m) = go (q e) (within es a b m)
    where
      go : (x : Bool) → (a ≤ length es) × (b ≤ length (keep q es)) → (a ≤ suc (length es)) × (b ≤ length (cond x (e ∷ keep q es) (keep q es)))
      go true h = (omega arith, omega arith)
      go false h = (omega arith, h.1)

  -- two positions keep their order
  same_order : (es : List Event) (a b c d : ℕ) → Match q es a c → Match q es b d → ltb a b ≡ ltb c d
  same_order [] a b c d m n = no_later a b c d (omega arith) (omega arith)
  same_order (e ∷ es) a b c d (inl m) (inl n) = no_later a b c d (omega arith) (omega arith)
  same_order (e ∷ es) a b c d (inl m) (inr n) = let h = within es b d n in no_later a b c d (omega arith) (omega arith)
  same_order (e ∷ es) a b c d (inr m) (inl n) = let h = within es a c m in later a b c d (omega arith) (omega arith)
  same_order (e ∷ es) a b c d (inr m) (inr n) = same_order es a b c d m n

  none_match : (es : List Event) → Match q es 0 0
  none_match [] = (refl, refl)
  none_match (e ∷ es) = inr (none_match es)

  last_match : (p : Event → Bool) → Within p q → (es : List Event) → Match q es (last_at p es) (last_at p (keep q es))
  unfolding last_at
  last_match p w = kept q (λ es fs. Match q es (last_at p es) (last_at p fs)) (refl, refl)
      (λ e es h m. inr (rw (fails (p e) (q e) (w e) h) m))
      (λ e es h m. go (p e) e es h m)
    where
      go : (x : Bool) (e : Event) (es : List Event) → q e ≡ true → Match q es (last_at p es) (last_at p (keep q es)) → Match q (e ∷ es) (cond x (suc (length es)) (last_at p es)) (cond x (suc (length (keep q es))) (last_at p (keep q es)))
      go true e es h m = inl (passes h, refl, refl)
      go false e es h m = inr m

-- the same values, and positions that match
data Alike (q : Event → Bool) (es : List Event) : List Slot → List Slot → Type 0 where
  nil : Alike q es [] []
  cons : {s r : Slot} {ss rs : List Slot} → s.value ≡ r.value → Match q es s.position r.position → Alike q es ss rs → Alike q es (s ∷ ss) (r ∷ rs)

module _ (q : Event → Bool) where
  alike_on : {es : List Event} {ss rs : List Slot} (e : Event) → Alike q es ss rs → Alike q (e ∷ es) ss rs
  alike_on e nil = nil
  alike_on e (cons x m a) = cons x (inr m) (alike_on e a)

  alike_append : {es : List Event} {ss rs ss' rs' : List Slot} → Alike q es ss rs → Alike q es ss' rs' → Alike q es (ss ++ ss') (rs ++ rs')
  alike_append nil b = b
  alike_append (cons x m a) b = cons x m (alike_append a b)

  alike_drop : {es : List Event} {ss rs : List Slot} (n : ℕ) → Alike q es ss rs → Alike q es (drop n ss) (drop n rs)
  alike_drop zero a = a
  alike_drop (suc n) nil = nil
  alike_drop (suc n) (cons x m a) = alike_drop n a

  alike_first : {es : List Event} {ss rs : List Slot} → Alike q es ss rs → Match q es (first ss).position (first rs).position
  alike_first {es = es} nil = none_match q es
  alike_first (cons x m a) = m

  alike_values : {es : List Event} {ss rs : List Slot} → Alike q es ss rs → map (λ s. s.value) ss ≡ map (λ s. s.value) rs
  alike_values nil = refl
  alike_values (cons x m a) = λ i. x i ∷ alike_values a i

  -- a way to keep an event that gives the same value and a position that matches
  abbrev Fair : (List Event → Event → Slot) → Type 0
  Fair f = (e : Event) (es : List Event) → q e ≡ true → ((f es e).value ≡ (f (keep q es) e).value) × Match q (e ∷ es) (f es e).position (f (keep q es) e).position

  slot_fair : Fair slot
  slot_fair e es h = (refl, inl (passes h, refl, refl))

  store_slot_fair : (t v : ℕ) → Within (by (A ∷ []) t v) q → Fair (store_slot t v)
  unfolding last_assign
  store_slot_fair t v w e es h = (refl, go (is (S ∷ []) e))
    where
      go : (x : Bool) → Match q (e ∷ es) (cond x (last_assign t v es) (suc (length es))) (cond x (last_assign t v (keep q es)) (suc (length (keep q es))))
      go true = inr (last_match q (by (A ∷ []) t v) w es)
      go false = inl (passes h, refl, refl)

  in_order_alike : (f : List Event → Event → Slot) (p : Event → Bool) → Fair f → Within p q → (es : List Event) → Alike q es (in_order f p es) (in_order f p (keep q es))
  unfolding in_order
  in_order_alike f p fair w = kept q (λ es fs. Alike q es (in_order f p es) (in_order f p fs)) nil
      (λ e es h a. rw (fails (p e) (q e) (w e) h, append-nil) (alike_on e a))
      (λ e es h a. alike_append (alike_on e a) (go (p e) e es h))
    where
      go : (x : Bool) (e : Event) (es : List Event) → q e ≡ true → Alike q (e ∷ es) (cond x (f es e ∷ []) []) (cond x (f (keep q es) e ∷ []) [])
      go true e es h = cons (fair e es h).0 (fair e es h).1 nil
      go false e es h = nil

  -- the queue of what passes p, with as many taken off as pass o
  queue_alike : (f : List Event → Event → Slot) (p o : Event → Bool) → Fair f → Within p q → Within o q → (es : List Event) → Alike q es (drop (count o es) (in_order f p es)) (drop (count o (keep q es)) (in_order f p (keep q es)))
  queue_alike f p o fair w u es = rw (← (count_kept q o u es)) (alike_drop (count o es) (in_order_alike f p fair w es))

-- ---- the words

-- none of these letters is that of a lock event
abbrev no_lock : List ℕ → Bool
no_lock ks = all_of (λ k. not (among lock_letters k)) ks

-- T's event on variable V
abbrev on_variable : ℕ → ℕ → Event → Bool
on_variable t v e = of t e && (not (on_lock e) && on v e)

by_own : (ks : List ℕ) (t v : ℕ) → Within (by ks t v) (of t)
unfolding by
by_own ks t v e b = and_left (of t e) (on v e) (and_right (is ks e) (of t e && on v e) b)

by_variable : (ks : List ℕ) (t v : ℕ) → T (no_lock ks) → Within (by ks t v) (on_variable t v)
unfolding by on_lock is
by_variable ks t v h e b =
    let x = and_right (is ks e) (of t e && on v e) b in
    both (of t e) _ (and_left (of t e) (on v e) x) (both (not (on_lock e)) _ (each_among (λ k. not (among lock_letters k)) ks (letter e.kind) h (and_left (is ks e) _ b)) (and_right (of t e) (on v e) x))

module _ (t v : ℕ) where
  latest_on : (ks : List ℕ) → T (no_lock ks) → (es : List Event) → latest (by ks t v) es ≡ latest (by ks t v) (own_on t v es)
  unfolding own_on
  latest_on ks h = latest_kept (on_variable t v) (by ks t v) (by_variable ks t v h)

  pub copy_on : (es : List Event) → copy t v es ≡ copy t v (own_on t v es)
  unfolding copy
  copy_on es = ap value_in (latest_on _ tt es)

  pub fresh_on : (es : List Event) → fresh t v es ≡ fresh t v (own_on t v es)
  unfolding fresh
  fresh_on es = ap (letter_in (A ∷ [])) (latest_on _ tt es)

  pub pending_on : (es : List Event) → pending t v es ≡ pending t v (own_on t v es)
  unfolding pending
  pending_on es = ap (letter_in (P ∷ [])) (latest_on _ tt es)

  pub announced_on : (es : List Event) → announced t v es ≡ announced t v (own_on t v es)
  unfolding announced
  announced_on es = ap value_in (latest_on _ tt es)

  pub after_load_on : (es : List Event) → after_load t v es ≡ after_load t v (own_on t v es)
  unfolding after_load
  after_load_on es = ap (letter_in (L ∷ [])) (latest_on accesses tt es)

  pub after_assign_on : (es : List Event) → after_assign t v es ≡ after_assign t v (own_on t v es)
  unfolding after_assign
  after_assign_on es = ap (letter_in (A ∷ [])) (latest_on accesses tt es)

  reads_alike : (q : Event → Bool) → Within (by (R ∷ []) t v) q → Within (by (L ∷ []) t v) q → (es : List Event) → Alike q es (reads t v es) (reads t v (keep q es))
  unfolding reads
  reads_alike q = queue_alike q slot (by (R ∷ []) t v) (by (L ∷ []) t v) (slot_fair q)

  stores_alike : (q : Event → Bool) → Within (by (A ∷ []) t v) q → Within (by (S ∷ P ∷ []) t v) q → Within (by (W ∷ []) t v) q → (es : List Event) → Alike q es (stores t v es) (stores t v (keep q es))
  unfolding stores
  stores_alike q a = queue_alike q (store_slot t v) (by (S ∷ P ∷ []) t v) (by (W ∷ []) t v) (store_slot_fair q t v a)

  reads_on : (es : List Event) → Alike (on_variable t v) es (reads t v es) (reads t v (own_on t v es))
  unfolding own_on
  reads_on = reads_alike (on_variable t v) (by_variable _ t v tt) (by_variable _ t v tt)

  pub read_values_on : (es : List Event) → map (λ s. s.value) (reads t v es) ≡ map (λ s. s.value) (reads t v (own_on t v es))
  read_values_on es = alike_values (on_variable t v) (reads_on es)

  pub store_values_on : (es : List Event) → map (λ s. s.value) (stores t v es) ≡ map (λ s. s.value) (stores t v (own_on t v es))
  unfolding own_on
  store_values_on es = alike_values (on_variable t v) (stores_alike (on_variable t v) (by_variable _ t v tt) (by_variable _ t v tt) (by_variable _ t v tt) es)

  -- its read came before its write
  pub order_on : (es : List Event) → read_before_write (words_of es) t v ≡ read_before_write (words_of (own_on t v es)) t v
  unfolding read_before_write words_of last_write own_on
  order_on es = same_order (on_variable t v) es _ _ _ _ (alike_first (on_variable t v) (reads_on es)) (last_match (on_variable t v) (by (W ∷ []) t v) (by_variable _ t v tt) es)

  pub usable_own : (es : List Event) → usable t v es ≡ usable t v (own t es)
  unfolding usable own by locks_by last_lock
  usable_own = kept_same (of t) (usable t v) (λ e es h. simp (h, and-false)) (λ e es k. rw (order es, k))
    where
      order : (es : List Event) → ltb (last_lock t es) (first (reads t v es)).position ≡ ltb (last_lock t (keep (of t) es)) (first (reads t v (keep (of t) es))).position
      order es = same_order (of t) es _ _ _ _ (last_match (of t) (locks_by t) (λ e. and_right (locks e) (of t e)) es) (alike_first (of t) (reads_alike (of t) (by_own (R ∷ []) t v) (by_own (L ∷ []) t v) es))

  -- the positions that the volatile rules look at, in T's own events
  pub write_match : (es : List Event) → Match (of t) es (last_write t v es) (last_write t v (own t es))
  unfolding last_write own
  write_match = last_match (of t) (by (W ∷ []) t v) (by_own (W ∷ []) t v)

  pub assign_match : (es : List Event) → Match (of t) es (last_assign t v es) (last_assign t v (own t es))
  unfolding last_assign own
  assign_match = last_match (of t) (by (A ∷ []) t v) (by_own (A ∷ []) t v)

  pub store_match : (es : List Event) → Match (of t) es (first (stores t v es)).position (first (stores t v (own t es))).position
  unfolding own
  store_match es = alike_first (of t) (stores_alike (of t) (by_own (A ∷ []) t v) (by_own (S ∷ P ∷ []) t v) (by_own (W ∷ []) t v) es)

  -- the position f gives where T's event on V with one of these letters comes, and that is kept till the next
  latched : (ks : List ℕ) (f g : List Event → ℕ) → ((e : Event) (es : List Event) → f (e ∷ es) ≡ cond (by ks t v e) (g es) (f es)) → f [] ≡ 0
      → ((es : List Event) → Match (of t) es (g es) (g (own t es))) → (es : List Event) → Match (of t) es (f es) (f (own t es))
  unfolding own
  latched ks f g step start m = kept (of t) (λ es fs. Match (of t) es (f es) (f fs)) (start, start)
      (λ e es h k. inr (rw (step e es, fails (by ks t v e) (of t e) (by_own ks t v e) h) k))
      (λ e es h k. inr (rw (step e es, step e (keep (of t) es)) (go (by ks t v e) es k)))
    where
      go : (x : Bool) (es : List Event) → Match (of t) es (f es) (f (keep (of t) es)) → Match (of t) es (cond x (g es) (f es)) (cond x (g (keep (of t) es)) (f (keep (of t) es)))
      go true es k = m es
      go false es k = k

  pub loaded_match : (es : List Event) → Match (of t) es (loaded_read t v es) (loaded_read t v (own t es))
  unfolding loaded_read own
  loaded_match = latched (L ∷ []) (loaded_read t v) (λ es. (first (reads t v es)).position) (λ e es. refl) refl
      (λ es. alike_first (of t) (reads_alike (of t) (by_own (R ∷ []) t v) (by_own (L ∷ []) t v) es))

  pub used_match : (es : List Event) → Match (of t) es (used_read t v es) (used_read t v (own t es))
  unfolding used_read
  used_match = latched (U ∷ []) (used_read t v) (loaded_read t v) (λ e es. refl) refl loaded_match

-- T's event on lock l with one of these letters
by_lock : (ks : List ℕ) (t l : ℕ) → T (all_of (among lock_letters) ks) → Within (by ks t l) (λ e. on_lock e && on l e)
unfolding by on_lock
by_lock ks t l m e b = both (on_lock e) (on l e) (is_among ks lock_letters e m (and_left (is ks e) _ b)) (and_right (of t e) (on l e) (and_right (is ks e) _ b))

tells_lock : (t l : ℕ) → Within (tells t l) (λ e. on_lock e && on l e)
unfolding tells on_lock
tells_lock t l e b = both (on_lock e) (on l e) (is_among (Y ∷ F ∷ C ∷ []) lock_letters e tt (and_left (is (Y ∷ F ∷ C ∷ []) e) _ b)) (and_right (eqb (subject e) t) (on l e) (and_right (is (Y ∷ F ∷ C ∷ []) e) _ b))

module _ (t l : ℕ) where
  -- what T has of the lock hangs on its K, N, Y and C on it
  grip_kept : (q : Event → Bool) → ((k : ℕ) → T (among (K ∷ N ∷ Y ∷ C ∷ []) k) → Within (by (k ∷ []) t l) q) → (es : List Event) → grip t l es ≡ grip t l (keep q es)
  unfolding grip
  grip_kept q w = kept_same q (grip t l)
      (λ e es h. unfold grip_after in rw (out e h K tt, out e h N tt, out e h Y tt, out e h C tt))
      (λ e es k. ap (grip_after t l e) k)
    where
      out : (e : Event) → q e ≡ false → (k : ℕ) → T (among (K ∷ N ∷ Y ∷ C ∷ []) k) → by (k ∷ []) t l e ≡ false
      out e h k m = fails (by (k ∷ []) t l e) (q e) (w k m e) h

  grip_lock : (es : List Event) → grip t l es ≡ grip t l (lock_on l es)
  unfolding lock_on
  grip_lock = grip_kept (λ e. on_lock e && on l e) (λ k m. by_lock (k ∷ []) t l (one k m))
    where
      one : (k : ℕ) → T (among (K ∷ N ∷ Y ∷ C ∷ []) k) → T (among lock_letters k && true)
      one k m = both (among lock_letters k) true (each_among (among lock_letters) (K ∷ N ∷ Y ∷ C ∷ []) k tt m) tt

  grip_own : (es : List Event) → grip t l es ≡ grip t l (own t es)
  unfolding own
  grip_own = grip_kept (of t) (λ k m. by_own (k ∷ []) t l)

  pub depth_lock : (es : List Event) → depth t l es ≡ depth t l (lock_on l es)
  unfolding depth
  depth_lock es = ap (λ (g : Grip). g.held) (grip_lock es)

  pub depth_own : (es : List Event) → depth t l es ≡ depth t l (own t es)
  unfolding depth
  depth_own es = ap (λ (g : Grip). g.held) (grip_own es)

  pub remembered_lock : (es : List Event) → remembered t l es ≡ remembered t l (lock_on l es)
  unfolding remembered
  remembered_lock es = ap (λ (g : Grip). g.remembered) (grip_lock es)

  pub remembered_own : (es : List Event) → remembered t l es ≡ remembered t l (own t es)
  unfolding remembered
  remembered_own es = ap (λ (g : Grip). g.remembered) (grip_own es)

  pub notified_lock : (es : List Event) → notified t l es ≡ notified t l (lock_on l es)
  unfolding notified lock_on
  notified_lock es = ap (letter_in (F ∷ [])) (latest_kept (λ e. on_lock e && on l e) (tells t l) (tells_lock t l) es)

pub main_memory : (v : ℕ) (es : List Event) → main v es ≡ main v (memory_on v es)
unfolding main memory_on
main_memory v es = ap value_in (latest_kept (λ e. is (R ∷ W ∷ []) e && on v e) (λ e. is (W ∷ []) e && on v e)
    (λ e b. both (is (R ∷ W ∷ []) e) (on v e) (is_among (W ∷ []) (R ∷ W ∷ []) e tt (and_left (is (W ∷ []) e) (on v e) b)) (and_right (is (W ∷ []) e) (on v e) b)) es)

-- T's events on V are among T's own
pub own_on_law : (t v : ℕ) (es : List Event) → own_on t v es ≡ own_on t v (own t es)
unfolding own_on own
own_on_law t v = keep_kept (of t) (on_variable t v) (λ e. and_left (of t e) (not (on_lock e) && on v e))

-- ---- two lists with the same projections

-- what the rules ask of a queue, apart from its order: from its values
pub same_values : (ss rs : List Slot) → map (λ s. s.value) ss ≡ map (λ s. s.value) rs → (none? ss ≡ none? rs) × ((first ss).value ≡ (first rs).value) × (length ss ≡ length rs)
same_values [] [] h = (refl, refl, refl)
same_values [] (r ∷ rs) h = absurd (nil≢cons h)
same_values (s ∷ ss) [] h = absurd (cons≢nil h)
same_values (s ∷ ss) (r ∷ rs) h = (refl, head-eq_of_cons-eq h, ap suc (same_values ss rs (tail-eq_of_cons-eq h)).2)

-- what depends on a projection alone is the same where the projection is
through : {A : Type 0} (f : List Event → A) (k : List Event → List Event) → ((es : List Event) → f es ≡ f (k es)) → (es fs : List Event) → k es ≡ k fs → f es ≡ f fs
through f k law es fs h = law es ∙ ap f h ∙ sym (law fs)

pub some_same : (n : ℕ) (f g : ℕ → Bool) → ((v : ℕ) → f v ≡ g v) → Rules.some n f ≡ Rules.some n g
some_same n f g h = λ i. Rules.some n (λ v. h v i)

and_same : (b x y : Bool) → (T b → x ≡ y) → (b && x) ≡ (b && y)
and_same true x y h = h tt
and_same false x y h = refl

-- the words of T, after lists with the same events of T
module _ (t : ℕ) (es fs : List Event) (h : own t es ≡ own t fs) where
  by_variable_same : {A : Type 0} (v : ℕ) (f : List Event → A) → ((gs : List Event) → f gs ≡ f (own_on t v gs)) → f es ≡ f fs
  by_variable_same v f law = through f (own_on t v) law es fs (through (own_on t v) (own t) (own_on_law t v) es fs h)

  copy_same : (v : ℕ) → copy t v es ≡ copy t v fs
  copy_same v = by_variable_same v (copy t v) (copy_on t v)

  fresh_same : (v : ℕ) → fresh t v es ≡ fresh t v fs
  fresh_same v = by_variable_same v (fresh t v) (fresh_on t v)

  pending_same : (v : ℕ) → pending t v es ≡ pending t v fs
  pending_same v = by_variable_same v (pending t v) (pending_on t v)

  announced_same : (v : ℕ) → announced t v es ≡ announced t v fs
  announced_same v = by_variable_same v (announced t v) (announced_on t v)

  reads_same : (v : ℕ) → (none? (reads t v es) ≡ none? (reads t v fs)) × ((first (reads t v es)).value ≡ (first (reads t v fs)).value) × (length (reads t v es) ≡ length (reads t v fs))
  reads_same v = same_values (reads t v es) (reads t v fs) (by_variable_same v (λ gs. map (λ s. s.value) (reads t v gs)) (read_values_on t v))

  stores_same : (v : ℕ) → (none? (stores t v es) ≡ none? (stores t v fs)) × ((first (stores t v es)).value ≡ (first (stores t v fs)).value) × (length (stores t v es) ≡ length (stores t v fs))
  stores_same v = same_values (stores t v es) (stores t v fs) (by_variable_same v (λ gs. map (λ s. s.value) (stores t v gs)) (store_values_on t v))

  order_same : (v : ℕ) → read_before_write (words_of es) t v ≡ read_before_write (words_of fs) t v
  order_same v = by_variable_same v (λ gs. read_before_write (words_of gs) t v) (order_on t v)

  usable_same : (v : ℕ) → usable t v es ≡ usable t v fs
  usable_same v = through (usable t v) (own t) (usable_own t v) es fs h

  after_load_same : (v : ℕ) → after_load t v es ≡ after_load t v fs
  after_load_same v = by_variable_same v (after_load t v) (after_load_on t v)

  after_assign_same : (v : ℕ) → after_assign t v es ≡ after_assign t v fs
  after_assign_same v = by_variable_same v (after_assign t v) (after_assign_on t v)

  -- two positions in T's own events keep their order
  positions_same : (f g : List Event → ℕ) → ((gs : List Event) → Match (of t) gs (f gs) (f (own t gs))) → ((gs : List Event) → Match (of t) gs (g gs) (g (own t gs))) → ltb (f es) (g es) ≡ ltb (f fs) (g fs)
  unfolding own
  positions_same f g m n = through (λ gs. ltb (f gs) (g gs)) (own t) (λ gs. same_order (of t) gs (f gs) (g gs) (f (own t gs)) (g (own t gs)) (m gs) (n gs)) es fs h

  bars_use_same : (v u : ℕ) → bars_use (words_of es) t (loaded_read t v es) u ≡ bars_use (words_of fs) t (loaded_read t v fs) u
  unfolding bars_use words_of
  bars_use_same v u = rw (
    fresh_same u,
    (stores_same u).0,
    positions_same (last_write t u) (loaded_read t v) (write_match t u) (loaded_match t v),
    positions_same (used_read t u) (loaded_read t v) (used_match t u) (loaded_match t v),
  )

  bars_write_same : (v u : ℕ) → bars_write (words_of es) t (first (stores t v es)).position u ≡ bars_write (words_of fs) t (first (stores t v fs)).position u
  unfolding bars_write words_of
  bars_write_same v u = rw (
    fresh_same u,
    (stores_same u).0,
    positions_same (λ gs. (first (stores t u gs)).position) (λ gs. (first (stores t v gs)).position) (store_match t u) (store_match t v),
    positions_same (last_assign t u) (λ gs. (first (stores t v gs)).position) (assign_match t u) (store_match t v),
  )

  depth_same : (l : ℕ) → depth t l es ≡ depth t l fs
  depth_same l = through (depth t l) (own t) (depth_own t l) es fs h

  waits_same : (c : Counts) → waits c (words_of es) t ≡ waits c (words_of fs) t
  unfolding waits words_of
  waits_same c = some_same c.locks _ _ (λ l. ap (ltb 0) (through (remembered t l) (own t) (remembered_own t l) es fs h))

-- whether T waits on lock l, and whether it is notified, after lists with the same events of the lock
module _ (l : ℕ) (es fs : List Event) (h : lock_on l es ≡ lock_on l fs) where
  waits_on_same : (t : ℕ) → waits_on (words_of es) t l ≡ waits_on (words_of fs) t l
  unfolding words_of
  waits_on_same t = ap (ltb 0) (through (remembered t l) (lock_on l) (remembered_lock t l) es fs h)

  notified_same : (t : ℕ) → notified t l es ≡ notified t l fs
  notified_same t = through (notified t l) (lock_on l) (notified_lock t l) es fs h

-- the refusals of e hang on its thread's events; at R also on the variable's R and W, at K, C and F also on the lock's events
module _ (c : Counts) (e : Event) (es fs : List Event) (o : own e.thread es ≡ own e.thread fs)
    (m : T (is (R ∷ []) e) → memory_on (loc e) es ≡ memory_on (loc e) fs)
    (k : T (is (K ∷ C ∷ F ∷ []) e) → lock_on (loc e) es ≡ lock_on (loc e) fs) where
  same_10 : no_partner (words_of es) e ≡ no_partner (words_of fs) e
  unfolding no_partner words_of
  same_10 = rw ((reads_same e.thread es fs o (loc e)).0, (stores_same e.thread es fs o (loc e)).0, pending_same e.thread es fs o (loc e))

  same_11 : lock_taken c (words_of es) e ≡ lock_taken c (words_of fs) e
  unfolding lock_taken words_of locks
  same_11 = and_same (is (K ∷ C ∷ []) e) _ _ (λ x. some_same c.threads _ _ (λ t. ap (λ d. not (eqb t e.thread) && ltb 0 d) (through (depth t (loc e)) (lock_on (loc e)) (depth_lock t (loc e)) es fs (k (is_among (K ∷ C ∷ []) (K ∷ C ∷ F ∷ []) e tt x)))))

  same_12 : not_held (words_of es) e ≡ not_held (words_of fs) e
  unfolding not_held words_of
  same_12 = rw (depth_same e.thread es fs o (loc e))

  same_13 : pending_bars c (words_of es) e ≡ pending_bars c (words_of fs) e
  unfolding pending_bars words_of
  same_13 = rw (some_same c.variables _ _ (pending_same e.thread es fs o), pending_same e.thread es fs o (loc e))

  same_14 : not_fresh (words_of es) e ≡ not_fresh (words_of fs) e
  unfolding not_fresh words_of
  same_14 = rw (fresh_same e.thread es fs o (loc e))

  same_15 : not_stored c (words_of es) e ≡ not_stored c (words_of fs) e
  unfolding not_stored words_of
  same_15 = rw (some_same c.variables _ _ (fresh_same e.thread es fs o), fresh_same e.thread es fs o (loc e))

  unwritten_same : (v : ℕ) → unwritten (words_of es) e.thread v ≡ unwritten (words_of fs) e.thread v
  unfolding unwritten words_of
  unwritten_same v = rw (pending_same e.thread es fs o v, (stores_same e.thread es fs o v).2)

  same_16 : not_written c (words_of es) e ≡ not_written c (words_of fs) e
  unfolding not_written words_of
  same_16 = rw (some_same c.variables _ _ unwritten_same, (stores_same e.thread es fs o (loc e)).0, order_same e.thread es fs o (loc e))

  same_17 : not_usable (words_of es) e ≡ not_usable (words_of fs) e
  unfolding not_usable words_of
  same_17 = rw (usable_same e.thread es fs o (loc e))

  same_18 : differs (words_of es) e ≡ differs (words_of fs) e
  unfolding differs words_of
  same_18 = rw (
    copy_same e.thread es fs o (loc e),
    (reads_same e.thread es fs o (loc e)).1,
    (stores_same e.thread es fs o (loc e)).1,
    announced_same e.thread es fs o (loc e),
    and_same (is (R ∷ []) e) _ _ (λ x. ap (λ y. not (eq_z (value e.kind) y)) (through (main (loc e)) (memory_on (loc e)) (main_memory (loc e)) es fs (m x))),
  )

  same_19 : eight_already (words_of es) e ≡ eight_already (words_of fs) e
  unfolding eight_already words_of
  same_19 = rw ((reads_same e.thread es fs o (loc e)).2, (stores_same e.thread es fs o (loc e)).2)

  same_23 : dead_read (words_of es) e ≡ dead_read (words_of fs) e
  unfolding dead_read words_of
  same_23 = rw ((reads_same e.thread es fs o (loc e)).0, (stores_same e.thread es fs o (loc e)).0, fresh_same e.thread es fs o (loc e), pending_same e.thread es fs o (loc e))

  same_26 : wrong_neighbour c (words_of es) e ≡ wrong_neighbour c (words_of fs) e
  unfolding wrong_neighbour words_of
  same_26 = rw (after_load_same e.thread es fs o (loc e), after_assign_same e.thread es fs o (loc e))

  same_27 : volatile_order c (words_of es) e ≡ volatile_order c (words_of fs) e
  unfolding volatile_order use_barred write_barred words_of
  same_27 = rw (
    some_same c.variables _ _ (λ u. ap (λ b. volatile c u && b) (bars_use_same e.thread es fs o (loc e) u)),
    some_same c.variables _ _ (λ u. ap (λ b. volatile c u && b) (bars_write_same e.thread es fs o (loc e) u)),
    (stores_same e.thread es fs o (loc e)).0,
  )

  same_29 : of_waiting c (words_of es) e ≡ of_waiting c (words_of fs) e
  unfolding of_waiting
  same_29 = rw (waits_same e.thread es fs o c)

  -- whether the thread that e is about waits on the lock, and is notified
  same_subject : (j : ℕ) → T (among (K ∷ C ∷ F ∷ []) j) → (f : Bool → Bool → Bool)
      → (is (j ∷ []) e && f (waits_on (words_of es) (subject e) (loc e)) (notified (subject e) (loc e) es)) ≡ (is (j ∷ []) e && f (waits_on (words_of fs) (subject e) (loc e)) (notified (subject e) (loc e) fs))
  same_subject j m f = and_same (is (j ∷ []) e) _ _ (λ x. let h = k (is_among (j ∷ []) (K ∷ C ∷ F ∷ []) e (both (among (K ∷ C ∷ F ∷ []) j) true m tt) x) in
      (λ i. f (waits_on_same (loc e) es fs h (subject e) i) (notified_same (loc e) es fs h (subject e) i)))

  same_30 : not_notified (words_of es) e ≡ not_notified (words_of fs) e
  unfolding not_notified words_of
  same_30 = rw (same_subject F tt (λ a b. not a || b), same_subject C tt (λ a b. not (a && b)))

  same_broken : (ns : List ℕ) → first_broken ns c (words_of es) e ≡ first_broken ns c (words_of fs) e
  unfolding first_broken breaks
  same_broken [] = refl
  same_broken (n ∷ ns) = rw (same_10, same_11, same_12, same_13, same_14, same_15, same_16, same_17, same_18, same_19, same_23, same_26, same_27, same_29, same_30, same_broken ns)

  pub judge_by_needed_lists : judge c (words_of es) e ≡ judge c (words_of fs) e
  unfolding judge
  judge_by_needed_lists = same_broken (row_in rows (letter e.kind))

pub judge_by_lists : (c : Counts) (e : Event) (es fs : List Event) → own e.thread es ≡ own e.thread fs → memory_on (loc e) es ≡ memory_on (loc e) fs → lock_on (loc e) es ≡ lock_on (loc e) fs → judge c (words_of es) e ≡ judge c (words_of fs) e
judge_by_lists c e es fs o m k = judge_by_needed_lists c e es fs o (λ x. m) (λ x. k)

-- ---- the memories

pub memory_by_lists : (c : Counts) (es fs : List Event) → ((v : ℕ) → memory_on v es ≡ memory_on v fs) → memory c (words_of es) ≡ memory c (words_of fs)
unfolding memory words_of
memory_by_lists c es fs h = λ i. each (λ v. through (main v) (memory_on v) (main_memory v) es fs (h v) i ∷ []) (below c.variables)

pub copies_by_lists : (c : Counts) (es fs : List Event) → ((t : ℕ) → own t es ≡ own t fs) → copies c (words_of es) ≡ copies c (words_of fs)
unfolding copies words_of
copies_by_lists c es fs h = λ i. each (λ t. each (λ v. cond (usable_same t es fs (h t) v i) (record { thread = t; variable = v; value = copy_same t es fs (h t) v i } ∷ []) []) (below c.variables)) (below c.threads)
