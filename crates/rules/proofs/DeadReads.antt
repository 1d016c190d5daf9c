-- Document 02 (a): 23 is exact. It refuses the events that leave T a read of V which can never be loaded, and those alone.
use Prim.Native.Nat.{ℕ, suc, ◌≤◌, ◌<◌}
use native.Mathlib.Omega.{arith}
use mathlib.Core.Path.{◌≡◌, refl, sym, ◌∙◌, subst}
use mathlib.Core.Bool.{Bool, true, false, not, cond, ◌&&◌, ◌||◌, or-false, false≢true}
use mathlib.Core.List.{List, [], ◌∷◌, ◌++◌}
use mathlib.Core.Logic.{◌⊎◌, inl, inr, ◌↔◌}
use lib.Dec.{T, eqb}
use lib.IntN.{ℤ}
use lib.ListN.{length}
use borrow.Author.Tests.{not-true, lt-ltb, eqb-true, eqb-false}
use Rattle.rules.specs.declared.Kind.{Kind}
use Rattle.rules.specs.declared.Kind.TheVariants.{Assign, Load, Store, Read, Write, PrescientStore, PrescientAssign, Unlock, Notify, Lock, Use, Wait, Resume}
use Rattle.rules.specs.declared.Event.{Event}
use Rattle.rules.specs.declared.Slot.{Slot}
use Rattle.rules.specs.declared.Counts.{Counts}
use Rattle.rules.specs.Events.{L, W, letter, place, is}
use Rattle.rules.specs.Limits.{volatile, declared}
use Rattle.rules.specs.Words.{first, count, by, reads}
use Rattle.rules.specs.Rules.{Words, words_of, none?, loc, waits, dead_read, breaks, rows, row_in, first_broken, judge, legal_by, legal}
use Rattle.rules.specs.DeadReads.{except, judge_but, Dead}
use Rattle.rules.proofs.Laws.{cases, Unbroken, unbroken, broken_is, accepts, is_true, and_left, and_right, is_among, at_letter, load_partner, write_partner, legal_cons, legal_by_cons, legal_by_known, legal_by_row, legal_by_before, legal_by_less}
use Rattle.rules.proofs.Next.{next}
use Rattle.rules.proofs.Simulation.{by_is, by_thread, by_loc, Paired, Partnered, paired_next, paired_none, words_next, legal_next}
use Rattle.rules.proofs.Cells.{event_by, Cell, cell_of, slot_at, changed, changing, cell_own, cell_cases, events_next}
use Rattle.rules.proofs.Rows.{Kept, row_of}
use Rattle.rules.proofs.Live.{Placed, Live, live, append_some}
use Rattle.rules.proofs.Loads.{reads_cell, all_loadable}

-- ---- a read that is dead stays so

-- what bars the oldest read of T on V from its load: a store is outstanding, a fresh assign is to be stored, or a write came after the read
data Bar (c : Cell) : Type 0 where
  by_store : none? c.stores ≡ false → Bar c
  by_assign : c.fresh ≡ true → c.pending ≡ false → Bar c
  by_write : (first c.reads).position < c.last_write → Bar c

-- such a read, after n events
record Barred (c : Cell) (n : ℕ) : Type 0 where
  waits : none? c.reads ≡ false
  early : (first c.reads).position ≤ n
  why : Bar c

first_append : (ss : List Slot) (s : Slot) → none? ss ≡ false → first (ss ++ (s ∷ [])) ≡ first ss
first_append [] s q = absurd (false≢true (sym q))
first_append (r ∷ ss) s q = refl

barred_later : (c : Cell) (n : ℕ) → Barred c n → Barred c (suc n)
barred_later c n d = record { waits = d.waits; early = omega (arith, d.early); why = d.why }

-- the row of L lets no load of it in
barred_load : (h : Counts) (w : Words) (t n v : ℕ) (x : ℤ) → judge h w (event_by t n (Load v x)) ≡ 0 → Barred (cell_of w t v) w.events → ⊥
unfolding cell_of
barred_load h w t n v x p d = go d.why
  where
    r : Kept h w t (Load v x)
    r = row_of h w t n (Load v x) p

    go : Bar (cell_of w t v) → ⊥
    go (by_store q) = false≢true (sym q ∙ r.0.written)
    go (by_assign f o) = false≢true (sym r.0.stored ∙ f)
    go (by_write q) = false≢true (sym r.0.after ∙ lt-ltb (first (w.reads t v)).position (w.last_write t v) q)

barred_change : (h : Counts) (w : Words) (t n : ℕ) (k : Kind) → T (is changing (event_by t n k)) → judge_but 23 h w (event_by t n k) ≡ 0 → Barred (cell_of w t (place k)) w.events
    → Barred (changed (suc w.events) k (cell_of w t (place k))) (suc w.events)
unfolding judge judge_but except row_in rows is
barred_change h w t n (Use _ _) o p d = elim o [ ]
barred_change h w t n (Lock _) o p d = elim o [ ]
barred_change h w t n (Unlock _) o p d = elim o [ ]
barred_change h w t n (Wait _) o p d = elim o [ ]
barred_change h w t n (Notify _ _) o p d = elim o [ ]
barred_change h w t n (Resume _) o p d = elim o [ ]
barred_change h w t n (Assign v x) o p d = record { waits = d.waits; early = omega (arith, d.early); why = go d.why }
  where
    go : Bar (cell_of w t v) → Bar (changed (suc w.events) (Assign v x) (cell_of w t v))
    go (by_store q) = by_store q
    go (by_assign f o) = by_assign refl o
    go (by_write q) = by_write q
barred_change h w t n (Load v x) o p d = absurd (barred_load h w t n v x p d)
barred_change h w t n (Store v x) o p d = record { waits = d.waits; early = omega (arith, d.early); why = by_store (append_some (cell_of w t v).stores (slot_at (cell_of w t v).last_assign x)) }
barred_change h w t n (Read v x) o p d = record { waits = append_some (cell_of w t v).reads s; early = rw first_same (omega (arith, d.early)); why = go d.why }
  where
    s : Slot
    s = slot_at (suc w.events) x

    first_same : first ((cell_of w t v).reads ++ (s ∷ [])) ≡ first (cell_of w t v).reads
    first_same = first_append (cell_of w t v).reads s d.waits

    go : Bar (cell_of w t v) → Bar (changed (suc w.events) (Read v x) (cell_of w t v))
    go (by_store q) = by_store q
    go (by_assign f o) = by_assign f o
    go (by_write q) = by_write (rw first_same q)
barred_change h w t n (Write v x) o p d = record { waits = d.waits; early = omega (arith, d.early); why = by_write (omega (arith, d.early)) }
barred_change h w t n (PrescientStore v x) o p d = record { waits = d.waits; early = omega (arith, d.early); why = by_store (append_some (cell_of w t v).stores (slot_at (suc w.events) x)) }
barred_change h w t n (PrescientAssign v x) o p d = record { waits = d.waits; early = omega (arith, d.early); why = go d.why }
  where
    owes : (cell_of w t v).pending ≡ true
    owes = unfold cell_of in (row_of h w t n (PrescientAssign v x) p).0

    go : Bar (cell_of w t v) → Bar (changed (suc w.events) (PrescientAssign v x) (cell_of w t v))
    go (by_store q) = by_store q
    go (by_assign f o) = absurd (false≢true (sym o ∙ owes))
    go (by_write q) = by_write q

barred_next : (h : Counts) (w : Words) (t n : ℕ) (k : Kind) → judge_but 23 h w (event_by t n k) ≡ 0 → (u m : ℕ) → Barred (cell_of w u m) w.events
    → Barred (cell_of (next w (event_by t n k)) u m) (suc w.events)
barred_next h w t n k p u m d =
    cell_cases (λ c. Barred c (suc w.events)) w t n k u m
    (λ o a b. barred_change h w t n k o p (rw (a, b) d))
    (λ q. barred_later (cell_of w u m) w.events d)

-- the rows of L and W are without 23
whole_row : (h : Counts) (w : Words) (t n : ℕ) (k : Kind) → T (is (L ∷ W ∷ []) (event_by t n k)) → judge_but 23 h w (event_by t n k) ≡ 0 → judge h w (event_by t n k) ≡ 0
unfolding is judge judge_but except row_in rows
whole_row h w t n (Use _ _) o p = elim o [ ]
whole_row h w t n (Assign _ _) o p = elim o [ ]
whole_row h w t n (Store _ _) o p = elim o [ ]
whole_row h w t n (Read _ _) o p = elim o [ ]
whole_row h w t n (Lock _) o p = elim o [ ]
whole_row h w t n (Unlock _) o p = elim o [ ]
whole_row h w t n (PrescientStore _ _) o p = elim o [ ]
whole_row h w t n (PrescientAssign _ _) o p = elim o [ ]
whole_row h w t n (Wait _) o p = elim o [ ]
whole_row h w t n (Notify _ _) o p = elim o [ ]
whole_row h w t n (Resume _) o p = elim o [ ]
whole_row h w t n (Load v x) o p = p
whole_row h w t n (Write v x) o p = p

-- and the event is no load of it
barred_no_load : (h : Counts) (w : Words) (t n : ℕ) (k : Kind) → judge_but 23 h w (event_by t n k) ≡ 0 → (u m : ℕ) → Barred (cell_of w u m) w.events
    → by (L ∷ []) u m (event_by t n k) ≡ false
unfolding is
barred_no_load h w t n k p u m d = cases (by (L ∷ []) u m e) (λ q. absurd (loads (subst T (sym q) tt))) (λ q. q)
  where
    e : Event
    e = event_by t n k

    loaded : (k : Kind) → T (is (L ∷ []) (event_by t n k)) → judge h w (event_by t n k) ≡ 0 → Barred (cell_of w t (place k)) w.events → ⊥
    loaded (Use _ _) o p d = elim o [ ]
    loaded (Assign _ _) o p d = elim o [ ]
    loaded (Store _ _) o p d = elim o [ ]
    loaded (Read _ _) o p d = elim o [ ]
    loaded (Write _ _) o p d = elim o [ ]
    loaded (Lock _) o p d = elim o [ ]
    loaded (Unlock _) o p d = elim o [ ]
    loaded (PrescientStore _ _) o p d = elim o [ ]
    loaded (PrescientAssign _ _) o p d = elim o [ ]
    loaded (Wait _) o p d = elim o [ ]
    loaded (Notify _ _) o p d = elim o [ ]
    loaded (Resume _) o p d = elim o [ ]
    loaded (Load v x) o p d = barred_load h w t n v x p d

    loads : T (by (L ∷ []) u m e) → ⊥
    loads b =
        let o = by_is (L ∷ []) u m e b in
        loaded k o (whole_row h w t n k (is_among (L ∷ []) (L ∷ W ∷ []) e tt o) p) (rw (by_thread (L ∷ []) u m e b, by_loc (L ∷ []) u m e b) d)

-- ---- lists that are legal but for 23

-- rule 10 is left in
partnered_but : (h : Counts) (w : Words) (e : Event) → judge_but 23 h w e ≡ 0 → Partnered w e
partnered_but h w e p = record { loads = λ o. load_partner h w e (whole (is_among (L ∷ []) (L ∷ W ∷ []) e tt o)) o; writes = λ o. write_partner h w e (whole (is_among (W ∷ []) (L ∷ W ∷ []) e tt o)) o }
  where
    whole : T (is (L ∷ W ∷ []) e) → judge h w e ≡ 0
    whole o = whole_row h w e.thread e.line e.kind o p

paired_but : (h : Counts) (es : List Event) → T (legal_by (judge_but 23) h es) → Paired es
paired_but h [] l = paired_none
paired_but h (e ∷ es) l = paired_next e es (partnered_but h (words_of es) e (legal_by_row (judge_but 23) h e es l)) (paired_but h es (legal_by_before (judge_but 23) h e es l))

-- none of these rules is broken, so none of them without n is
unbroken_except : (n : ℕ) (ns : List ℕ) (h : Counts) (w : Words) (e : Event) → Unbroken ns h w e → Unbroken (except n ns) h w e
unfolding except
unbroken_except n [] h w e u = tt
unbroken_except n (k ∷ ns) h w e u = go (eqb k n) (unbroken_except n ns h w e u.1)
  where
    go : (b : Bool) → Unbroken (except n ns) h w e → Unbroken (cond b (except n ns) (k ∷ except n ns)) h w e
    go true r = r
    go false r = (u.0, r)

judge_but_law : (n : ℕ) (h : Counts) (w : Words) (e : Event) → judge h w e ≡ 0 → judge_but n h w e ≡ 0
unfolding judge judge_but
judge_but_law n h w e p = accepts (except n (row_in rows (letter e.kind))) h w e (unbroken_except n (row_in rows (letter e.kind)) h w e (unbroken (row_in rows (letter e.kind)) h w e p))

legal_but : (n : ℕ) (h : Counts) (es : List Event) → T (legal h es) → T (legal_by (judge_but n) h es)
legal_but n h es l = legal_by_less judge (judge_but n) h (judge_but_law n h) es l

-- none of these rules is broken but for n: the first broken one is n, or there is none
only : (n : ℕ) (ns : List ℕ) (h : Counts) (w : Words) (e : Event) → Unbroken (except n ns) h w e → (first_broken ns h w e ≡ 0) ⊎ (first_broken ns h w e ≡ n)
unfolding first_broken except
only n [] h w e u = inl refl
only n (k ∷ ns) h w e u = go (eqb k n) (breaks k h w e) refl refl u (only n ns h w e)
  where
    go : (a b : Bool) → eqb k n ≡ a → breaks k h w e ≡ b → Unbroken (cond a (except n ns) (k ∷ except n ns)) h w e
        → (Unbroken (except n ns) h w e → (first_broken ns h w e ≡ 0) ⊎ (first_broken ns h w e ≡ n))
        → (cond b k (first_broken ns h w e) ≡ 0) ⊎ (cond b k (first_broken ns h w e) ≡ n)
    go true true q s u r = inr (eqb-true k n q)
    go true false q s u r = r u
    go false true q s u r = absurd (false≢true (sym u.0 ∙ s))
    go false false q s u r = r u.1

judge_only : (n : ℕ) (h : Counts) (w : Words) (e : Event) → judge_but n h w e ≡ 0 → (judge h w e ≡ 0) ⊎ (judge h w e ≡ n)
unfolding judge judge_but
judge_only n h w e p = only n (row_in rows (letter e.kind)) h w e (unbroken (except n (row_in rows (letter e.kind))) h w e p)

-- ---- events that go on

-- what goes on from a read that is dead does not load it
barred_ever : (h : Counts) (es : List Event) (t v : ℕ) → Barred (cell_of (words_of es) t v) (words_of es).events → (more : List Event) → T (legal_by (judge_but 23) h (more ++ es))
    → Barred (cell_of (words_of (more ++ es)) t v) (words_of (more ++ es)).events × (count (by (L ∷ []) t v) more ≡ 0)
barred_ever h es t v d [] l = (d, unfold count in refl)
barred_ever h es t v d (e ∷ more) l =
    let r = barred_ever h es t v d more (legal_by_before (judge_but 23) h e (more ++ es) l) in
    let p = legal_by_row (judge_but 23) h e (more ++ es) l in (
      subst (λ w. Barred (cell_of w t v) w.events) (sym (words_next e (more ++ es) (paired_but h (more ++ es) (legal_by_before (judge_but 23) h e (more ++ es) l))))
          (barred_events (words_of (more ++ es)) e (barred_next h (words_of (more ++ es)) e.thread e.line e.kind p t v r.0)),
      count_skip (by (L ∷ []) t v) e more (barred_no_load h (words_of (more ++ es)) e.thread e.line e.kind p t v r.0) r.1,
    )
  where
    barred_events : (w : Words) (e : Event) → Barred (cell_of (next w e) t v) (suc w.events) → Barred (cell_of (next w e) t v) (next w e).events
    barred_events w e d = subst (λ n. Barred (cell_of (next w e) t v) n) (sym (events_next w e)) d

    count_skip : (p : Event → Bool) (e : Event) (es : List Event) → p e ≡ false → count p es ≡ 0 → count p (e ∷ es) ≡ 0
    count_skip p e es q r = unfold count in rw (q, r)

first_below : (a b : ℕ) (ss : List Slot) → Placed a b ss → (first ss).position ≤ suc b
first_below a b [] p = omega arith
first_below a b (s ∷ ss) p = omega (arith, p.1)

first_new : (a b : ℕ) (x : ℤ) (ss : List Slot) → Placed a b ss → (first (ss ++ (slot_at (suc b) x ∷ []))).position ≤ suc b
first_new a b x [] p = omega arith
first_new a b x (s ∷ ss) p = omega (arith, p.1)

-- the event that 23 names leaves such a read
barred_start : (w : Words) (t n : ℕ) (k : Kind) → T (dead_read w (event_by t n k)) → Live (cell_of w t (place k)) w.events
    → Barred (changed (suc w.events) k (cell_of w t (place k))) (suc w.events)
unfolding dead_read is cell_of
barred_start w t n (Use _ _) p l = elim p [ ]
barred_start w t n (Load _ _) p l = elim p [ ]
barred_start w t n (Store _ _) p l = elim p [ ]
barred_start w t n (Write _ _) p l = elim p [ ]
barred_start w t n (Lock _) p l = elim p [ ]
barred_start w t n (Unlock _) p l = elim p [ ]
barred_start w t n (PrescientAssign _ _) p l = elim p [ ]
barred_start w t n (Wait _) p l = elim p [ ]
barred_start w t n (Notify _ _) p l = elim p [ ]
barred_start w t n (Resume _) p l = elim p [ ]
barred_start w t n (Assign v x) p l = record {
  waits = not-true (none? (w.reads t v)) (is_true (and_right (not (w.pending t v)) (not (none? (w.reads t v))) both));
  early = first_below (w.last_write t v) w.events (w.reads t v) l.placed;
  why = by_assign refl (not-true (w.pending t v) (is_true (and_left (not (w.pending t v)) (not (none? (w.reads t v))) both)));
}
  where
    both : T (not (w.pending t v) && not (none? (w.reads t v)))
    both = simp or-false at p
barred_start w t n (Read v x) p l = record {
  waits = append_some (w.reads t v) (slot_at (suc w.events) x);
  early = first_new (w.last_write t v) w.events x (w.reads t v) l.placed;
  why = go (none? (w.stores t v)) (w.fresh t v) (w.pending t v) refl refl refl (is_true (simp or-false at p));
}
  where
    go : (s f o : Bool) → none? (w.stores t v) ≡ s → w.fresh t v ≡ f → w.pending t v ≡ o → (not s || f && not o) ≡ true
        → Bar (changed (suc w.events) (Read v x) (cell_of w t v))
    go false f o a b c q = by_store a
    go true true false a b c q = by_assign b c
    go true true true a b c q = absurd (false≢true q)
    go true false o a b c q = absurd (false≢true q)
barred_start w t n (PrescientStore v x) p l = record {
  waits = not-true (none? (w.reads t v)) (is_true p);
  early = first_below (w.last_write t v) w.events (w.reads t v) l.placed;
  why = by_store (append_some (w.stores t v) (slot_at (suc w.events) x));
}

judge_dead : (h : Counts) (w : Words) (e : Event) → judge h w e ≡ 23 → dead_read w e ≡ true
unfolding judge breaks
judge_dead h w e p = broken_is (row_in rows (letter e.kind)) h w e 22 p

-- ---- 23 is the last rule of its rows

abbrev none : List ℕ → Bool
none [] = true
none (n ∷ ns) = false

-- n is the last of these numbers, or is not among them
abbrev last_only : ℕ → List ℕ → Bool
last_only n [] = true
last_only n (k ∷ ks) = cond (eqb k n) (none ks) (last_only n ks)

last_named : (n : ℕ) (ns : List ℕ) (h : Counts) (w : Words) (e : Event) → T (last_only n ns) → first_broken ns h w e ≡ n → Unbroken (except n ns) h w e
unfolding first_broken except
last_named n [] h w e o p = tt
last_named n (k ∷ ns) h w e o p = go (eqb k n) (breaks k h w e) refl refl o p (last_named n ns h w e)
  where
    at_end : (ks : List ℕ) → T (none ks) → Unbroken (except n ks) h w e
    at_end [] z = tt
    at_end (k ∷ ks) z = absurd z

    go : (a b : Bool) → eqb k n ≡ a → breaks k h w e ≡ b → T (cond a (none ns) (last_only n ns)) → cond b k (first_broken ns h w e) ≡ n
        → (T (last_only n ns) → first_broken ns h w e ≡ n → Unbroken (except n ns) h w e) → Unbroken (cond a (except n ns) (k ∷ except n ns)) h w e
    go true b q s o p r = at_end ns o
    go false true q s o p r = absurd (eqb-false k n q p)
    go false false q s o p r = (s, r o p)

dead_last : (k : Kind) → T (last_only 23 (row_in rows (letter k)))
unfolding row_in rows
dead_last = at_letter (λ n. last_only 23 (row_in rows n)) tt

refused_last : (h : Counts) (w : Words) (e : Event) → judge h w e ≡ 23 → judge_but 23 h w e ≡ 0
unfolding judge judge_but
refused_last h w e p = accepts (except 23 (row_in rows (letter e.kind))) h w e (last_named 23 (row_in rows (letter e.kind)) h w e (dead_last e.kind) p)

-- ---- 23 is exact

-- Refuse the event that leaves T an outstanding read of V which can never be loaded.
pub refused_dead : (h : Counts) (es : List Event) (e : Event) → T (legal h es) → declared h e ≡ true → judge h (words_of es) e ≡ 23 → Dead h e.thread (loc e) (e ∷ es)
refused_dead h es e l k p = record {
  goes = legal_by_cons (judge_but 23) h e es k (refused_last h (words_of es) e p) (legal_but 23 h es l);
  before = 0;
  outstanding = length_some (reads e.thread (loc e) (e ∷ es)) (rw (← (reads_cell (e ∷ es) e.thread (loc e))) barred.waits);
  never = λ more g. omega (arith, (barred_ever h (e ∷ es) e.thread (loc e) barred more g).1);
}
  where
    barred : Barred (cell_of (words_of (e ∷ es)) e.thread (loc e)) (words_of (e ∷ es)).events
    barred = subst (λ w. Barred (cell_of w e.thread (loc e)) w.events) (sym (legal_next h e es l))
        (subst (λ n. Barred (cell_of (next (words_of es) e) e.thread (loc e)) n) (sym (events_next (words_of es) e))
        (subst (λ c. Barred c (suc (words_of es).events)) (sym (cell_own (words_of es) e.thread e.line e.kind))
        (barred_start (words_of es) e.thread e.line e.kind (subst T (sym (judge_dead h (words_of es) e p)) tt) (live h es l e.thread (loc e)))))

    length_some : (ss : List Slot) → none? ss ≡ false → 0 < length ss
    length_some [] q = absurd (false≢true (sym q))
    length_some (s ∷ ss) q = omega arith

-- An event that leaves a read dead, of whichever variable that is not volatile and thread that does not wait after it, is refused with 23.
pub dead_refused : (h : Counts) (es : List Event) (e : Event) → T (legal h es) → (t v : ℕ) → volatile h v ≡ false → waits h (words_of (e ∷ es)) t ≡ false → Dead h t v (e ∷ es)
    → judge h (words_of es) e ≡ 23
dead_refused h es e l t v c z d = go (judge_only 23 h (words_of es) e (legal_by_row (judge_but 23) h e es d.goes))
  where
    go : (judge h (words_of es) e ≡ 0) ⊎ (judge h (words_of es) e ≡ 23) → judge h (words_of es) e ≡ 23
    go (inl q) =
        let m = all_loadable h (e ∷ es) (legal_cons h e es (legal_by_known (judge_but 23) h e es d.goes) q l) t v c z in
        absurd (omega (arith, d.outstanding, d.never m.more (legal_but 23 h (m.more ++ (e ∷ es)) m.goes), m.loads))
    go (inr q) = q

-- On a variable that is not volatile, of a thread that does not wait after it, 23 is said exactly of an event that leaves T a read of V which can never be loaded.
pub dead_exact : (h : Counts) (es : List Event) (e : Event) → T (legal h es) → declared h e ≡ true → volatile h (loc e) ≡ false → waits h (words_of (e ∷ es)) e.thread ≡ false
    → judge h (words_of es) e ≡ 23 ↔ Dead h e.thread (loc e) (e ∷ es)
dead_exact h es e l d c z = (refused_dead h es e l d, dead_refused h es e l e.thread (loc e) c z)
