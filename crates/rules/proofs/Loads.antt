-- Document 02 (a): in a paper L meets neither 15 nor 16, and each outstanding read may yet be loaded.
use Prim.Native.Nat.{ℕ, suc, ◌+◌, ◌≤◌, ◌<◌}
use native.Mathlib.Omega.{arith}
use mathlib.Core.Path.{◌≡◌, refl, sym, ap, ◌∙◌, subst}
use mathlib.Core.Bool.{Bool, true, false, cond, ◌&&◌, ◌||◌, or-false, false≢true}
use mathlib.Core.List.{List, [], ◌∷◌, ◌++◌, append_assoc, reverse}
use mathlib.Core.Logic.{◌⊎◌, inl, inr}
use lib.Dec.{T, ltb, leb}
use lib.IntN.{ℤ}
use lib.ListN.{length, length-append}
use borrow.Author.Tests.{lt-ltb, ltb-true, le-ltb, eq-eqb}
use Rattle.rules.specs.declared.Kind.{Kind}
use Rattle.rules.specs.declared.Kind.TheVariants.{Load, Unlock, PrescientAssign, Wait, Read, PrescientStore, Write, Notify, Lock, Assign, Use, Resume, Store}
use Rattle.rules.specs.declared.Event.{Event}
use Rattle.rules.specs.declared.Slot.{Slot}
use Rattle.rules.specs.declared.Counts.{Counts}
use Rattle.rules.specs.Events.{B, C, L, R, Y, letter, place, among, is, of, on, subject, subject_of, lock_letters, on_lock, locks, unlocks}
use Rattle.rules.specs.Limits.{Limits, volatile, declared}
use Rattle.rules.specs.Words.{first, count, in_order, by, reads, pending, announced, remembered}
use Rattle.rules.specs.Rules.{Words, words_of, none?, waits, no_partner, pending_bars, not_stored, read_before_write, not_written, of_waiting, not_notified, breaks, rows, row_in, first_broken, judge, answer, verdict, Accepted, legal, FirstBad}
use Rattle.rules.specs.DeadReads.{loads_of, Loadable}
use Rattle.rules.proofs.Laws.{cases, or_left, or_right, broken_is, named_among, earlier, is_true, and_left, and_right, is_apart, some_ext, legal_cons, legal_known, legal_before, accepted_legal, legal_accepted}
use Rattle.rules.proofs.Signed.{eq_z_refl}
use Rattle.rules.proofs.Next.{others, next}
use Rattle.rules.proofs.Simulation.{legal_next}
use Rattle.rules.proofs.Held.{remembered_keeps}
use Rattle.rules.proofs.Cells.{event_by, cell_of, changed, changing, cell_own, cell_cases}
use Rattle.rules.proofs.Rows.{Led, Kept, allowed_by}
use Rattle.rules.proofs.Live.{Placed, AllLive, live, others_some}

-- ---- L meets neither 15 nor 16

-- the oldest of the reads came after the last write
first_after : (a b : ℕ) (ss : List Slot) → none? ss ≡ false → Placed a b ss → ltb (first ss).position a ≡ false
first_after a b [] q p = absurd (false≢true (sym q))
first_after a b (s ∷ ss) q p = le-ltb s.position a p.0

load_live : (h : Counts) (w : Words) (t n : ℕ) (k : Kind) → AllLive w → T (is (L ∷ []) (event_by t n k))
    → (judge h w (event_by t n k) ≡ 15 → ⊥) × (judge h w (event_by t n k) ≡ 16 → ⊥)
unfolding judge first_broken row_in rows breaks no_partner pending_bars not_stored read_before_write not_written is locks unlocks cell_of
load_live h w t n (Use _ _) l o = elim o [ ]
load_live h w t n (Assign _ _) l o = elim o [ ]
load_live h w t n (Store _ _) l o = elim o [ ]
load_live h w t n (Read _ _) l o = elim o [ ]
load_live h w t n (Write _ _) l o = elim o [ ]
load_live h w t n (Lock _) l o = elim o [ ]
load_live h w t n (Unlock _) l o = elim o [ ]
load_live h w t n (PrescientStore _ _) l o = elim o [ ]
load_live h w t n (PrescientAssign _ _) l o = elim o [ ]
load_live h w t n (Wait _) l o = elim o [ ]
load_live h w t n (Notify _ _) l o = elim o [ ]
load_live h w t n (Resume _) l o = elim o [ ]
load_live h w t n (Load v x) l o = (λ p. stored (earlier row h w e 10 15 p tt) (earlier row h w e 13 15 p tt) (broken_is row h w e 14 p), λ p. written (earlier row h w e 10 16 p tt) (broken_is row h w e 15 p))
  where
    e : Event
    e = event_by t n (Load v x)

    row : List ℕ
    row = row_in rows L

    stored : breaks 10 h w e ≡ false → breaks 13 h w e ≡ false → breaks 15 h w e ≡ true → ⊥
    stored a b q = false≢true (sym b ∙ (l t v).stored (simp or-false at a) (simp or-false at q))

    written : breaks 10 h w e ≡ false → breaks 16 h w e ≡ true → ⊥
    written a q =
        let some : none? (w.reads t v) ≡ false = simp or-false at a in
        false≢true (rw ((l t v).written some, first_after (w.last_write t v) w.events (w.reads t v) some (l t v).placed) at q)

-- In a paper L can then no longer meet 15 or 16.
pub load_clear : (h : Counts) (es : List Event) (e : Event) → T (legal h es) → T (is (L ∷ []) e) → (judge h (words_of es) e ≡ 15 → ⊥) × (judge h (words_of es) e ≡ 16 → ⊥)
load_clear h es e l o = load_live h (words_of es) e.thread e.line e.kind (live h es l) o

-- 15 and 16 stand in the rows of L, N and Y alone
rows_of : (t n : ℕ) (k : Kind) → T (among (row_in rows (letter k)) 15 || among (row_in rows (letter k)) 16) → (T (is (L ∷ []) (event_by t n k)) → ⊥) → T (unlocks (event_by t n k))
unfolding row_in rows is unlocks
rows_of t n (Use _ _) r f = elim r [ ]
rows_of t n (Assign _ _) r f = elim r [ ]
rows_of t n (Store _ _) r f = elim r [ ]
rows_of t n (Read _ _) r f = elim r [ ]
rows_of t n (Write _ _) r f = elim r [ ]
rows_of t n (Lock _) r f = elim r [ ]
rows_of t n (PrescientStore _ _) r f = elim r [ ]
rows_of t n (PrescientAssign _ _) r f = elim r [ ]
rows_of t n (Notify _ _) r f = elim r [ ]
rows_of t n (Resume _) r f = elim r [ ]
rows_of t n (Load v x) r f = absurd (f tt)
rows_of t n (Unlock m) r f = tt
rows_of t n (Wait m) r f = tt

-- and so these refusals are of N and Y
pub unlock_alone : (h : Counts) (es : List Event) (e : Event) → T (legal h es) → (judge h (words_of es) e ≡ 15) ⊎ (judge h (words_of es) e ≡ 16) → T (unlocks e)
unfolding judge
unlock_alone h es e l (inl p) = rows_of e.thread e.line e.kind (or_left (among (row_in rows (letter e.kind)) 15) (among (row_in rows (letter e.kind)) 16) (named_among _ h (words_of es) e 14 p)) (λ o. (load_clear h es e l o).0 p)
unlock_alone h es e l (inr p) = rows_of e.thread e.line e.kind (or_right (among (row_in rows (letter e.kind)) 15) (among (row_in rows (letter e.kind)) 16) (named_among _ h (words_of es) e 15 p)) (λ o. (load_clear h es e l o).1 p)

-- a refusal with a number that is neither 5 nor that of an event too many is the row's, of a declared event
pub row_refused : (m : Limits) (h : Counts) (w : Words) (e : Event) (n : ℕ) → (m.excess ≡ n → ⊥) → (5 ≡ n → ⊥) → answer m h w e ≡ n → (declared h e ≡ true) × (judge h w e ≡ n)
unfolding answer
row_refused m h w e n x y p = go (leb m.events w.events) (declared h e) refl p
  where
    go : (a b : Bool) → declared h e ≡ b → cond a m.excess (cond b (judge h w e) 5) ≡ n → (declared h e ≡ true) × (judge h w e ≡ n)
    go true b d q = absurd (x q)
    go false true d q = (d, q)
    go false false d q = absurd (y q)

-- the first bad event of a trace that is refused with 15 or 16 is an N or Y
pub unlock_refused : (m : Limits) (h : Counts) (events : List Event) (number line : ℕ) → 0 < m.excess → (m.excess ≡ number → ⊥) → (number ≡ 15) ⊎ (number ≡ 16)
    → (b : FirstBad m h events number line) → T (unlocks b.event)
unfolding verdict
unlock_refused m h events number line x y o b = unlock_alone h (reverse b.before) b.event (accepted_legal m h (reverse b.before) x b.clean) (go o)
  where
    row : (5 ≡ number → ⊥) → judge h (words_of (reverse b.before)) b.event ≡ number
    row z = (row_refused m h (words_of (reverse b.before)) b.event number y z b.number_is).1

    go : (number ≡ 15) ⊎ (number ≡ 16) → (judge h (words_of (reverse b.before)) b.event ≡ 15) ⊎ (judge h (words_of (reverse b.before)) b.event ≡ 16)
    go (inl q) = inl (row (λ p. omega arith) ∙ q)
    go (inr q) = inr (row (λ p. omega arith) ∙ q)

-- ---- an outstanding read is of a declared thread and variable

abbrev Known : Counts → Words → Type 0
Known h w = (t v : ℕ) → none? (cell_of w t v).reads ≡ false → (t < h.threads) × (v < h.variables)

known_change : (h : Counts) (w : Words) (t n : ℕ) (k : Kind) → T (is changing (event_by t n k)) → declared h (event_by t n k) ≡ true → Known h w
    → none? (changed (suc w.events) k (cell_of w t (place k))).reads ≡ false → (t < h.threads) × (place k < h.variables)
unfolding declared on_lock
known_change h w t n k o d g q = cases (among (R ∷ []) (letter k)) (λ r. declared_here) (λ r. g t (place k) (cases (among (L ∷ []) (letter k)) (λ s. others_some (cell_of w t (place k)).reads (rw (r, s) at q)) (λ s. rw (r, s) at q)))
  where
    e : Event
    e = event_by t n k

    declared_here : (t < h.threads) × (place k < h.variables)
    declared_here =
        let own = ltb t h.threads in
        let about = ltb (subject e) h.threads in
        let low = ltb (place k) h.variables in
        let b : T (own && (about && low)) = subst T (sym (rw (is_apart changing lock_letters e tt o) at d)) tt in
        (ltb-true t h.threads (is_true (and_left own (about && low) b)), ltb-true (place k) h.variables (is_true (and_right about low (and_right own (about && low) b))))

known_next : (h : Counts) (w : Words) (t n : ℕ) (k : Kind) → declared h (event_by t n k) ≡ true → Known h w → Known h (next w (event_by t n k))
known_next h w t n k d g u m =
    cell_cases (λ c. none? c.reads ≡ false → (u < h.threads) × (m < h.variables)) w t n k u m
    (λ o a b q. rw (← a, ← b) (known_change h w t n k o d g q))
    (λ q. g u m)

known_start : (h : Counts) → Known h (words_of [])
unfolding words_of cell_of reads in_order count
known_start h t v q = absurd (false≢true (sym q))

known : (h : Counts) (es : List Event) → T (legal h es) → Known h (words_of es)
known h [] l = known_start h
known h (e ∷ es) l = rw (legal_next h e es (legal_before h e es l)) (known_next h (words_of es) e.thread e.line e.kind (legal_known h e es l) (known h es (legal_before h e es l)))

-- ---- each outstanding read may yet be loaded

pub reads_cell : (es : List Event) (t v : ℕ) → (cell_of (words_of es) t v).reads ≡ reads t v es
unfolding cell_of words_of
reads_cell es t v = refl

count_last : (p : Event → Bool) (xs : List Event) (e : Event) → count p (xs ++ (e ∷ [])) ≡ count p (e ∷ []) + count p xs
unfolding count
count_last p [] e = omega arith
count_last p (x ∷ xs) e = go (p x) (count_last p xs e)
  where
    go : (b : Bool) → count p (xs ++ (e ∷ [])) ≡ count p (e ∷ []) + count p xs → cond b (suc (count p (xs ++ (e ∷ [])))) (count p (xs ++ (e ∷ []))) ≡ count p (e ∷ []) + cond b (suc (count p xs)) (count p xs)
    go true q = omega (arith, q)
    go false q = q

-- what goes on behind e goes on from before it
before_it : (h : Counts) (t v n : ℕ) (e : Event) (es : List Event) → Loadable h t v n (e ∷ es) → count (by (L ∷ []) t v) (e ∷ []) + length (reads t v (e ∷ es)) ≡ length (reads t v es)
    → Loadable h t v (suc n) es
before_it h t v n e es m q = record {
  more = m.more ++ (e ∷ []);
  goes = subst (λ fs. T (legal h fs)) (sym (append_assoc m.more (e ∷ []) es)) m.goes;
  loads = count_last (by (L ∷ []) t v) m.more e ∙ ap (λ i. count (by (L ∷ []) t v) (e ∷ []) + i) m.loads ∙ q;
  few = rw (length-append m.more (e ∷ [])) (omega (arith, m.few));
}

one_load : (t v n : ℕ) (x : ℤ) → count (by (L ∷ []) t v) (event_by t n (Load v x) ∷ []) ≡ 1
unfolding count by is of on
one_load t v n x = rw (eq-eqb t t refl, eq-eqb v v refl)

no_load : (t v n : ℕ) (x : ℤ) → count (by (L ∷ []) t v) (event_by t n (PrescientAssign v x) ∷ []) ≡ 0
unfolding count by is
no_load t v n x = refl

-- L's row, of the oldest of the reads
pub loads_row : (h : Counts) (t v : ℕ) (s : Slot) (rs : List Slot) (w : Words) → AllLive w → (cell_of w t v).reads ≡ s ∷ rs → (cell_of w t v).pending ≡ false → (cell_of w t v).fresh ≡ false → Kept h w t (Load v s.value)
unfolding cell_of
loads_row h t v s rs w l q p f =
    let some : none? (w.reads t v) ≡ false = rw q in
    (record { partner = some; not_pending = p; stored = f; written = (l t v).written some; after = first_after (w.last_write t v) w.events (w.reads t v) some (l t v).placed }, rw q (eq_z_refl s.value))

-- an event that is no Y or C changes no waiting
pub waits_keeps : (h : Counts) (t : ℕ) (e : Event) (es : List Event) → is (Y ∷ C ∷ []) e ≡ false → waits h (words_of (e ∷ es)) t ≡ waits h (words_of es) t
unfolding waits words_of by
waits_keeps h t e es q = some_ext h.locks (λ l. ltb 0 (remembered t l (e ∷ es))) (λ l. ltb 0 (remembered t l es)) (λ l b. ap (ltb 0) (remembered_keeps t l e es (rw q refl)))

module _ (h : Counts) (t v : ℕ) (a : t < h.threads) (b : v < h.variables) (c : volatile h v ≡ false) where
  -- L and B are declared, and while T does not wait the rules that lead the rows ask nothing
  leads : (k : Kind) → place k ≡ v → T (is (L ∷ B ∷ []) (event_by t 0 k)) → (w : Words) → waits h w t ≡ false → (declared h (event_by t 0 k) ≡ true) × Led h w (event_by t 0 k)
  unfolding declared subject_of on_lock of_waiting not_notified is
  leads (Use _ _) s o w z = elim o [ ]
  leads (Assign _ _) s o w z = elim o [ ]
  leads (Store _ _) s o w z = elim o [ ]
  leads (Read _ _) s o w z = elim o [ ]
  leads (Write _ _) s o w z = elim o [ ]
  leads (Lock _) s o w z = elim o [ ]
  leads (Unlock _) s o w z = elim o [ ]
  leads (PrescientStore _ _) s o w z = elim o [ ]
  leads (Wait _) s o w z = elim o [ ]
  leads (Notify _ _) s o w z = elim o [ ]
  leads (Resume _) s o w z = elim o [ ]
  leads (Load u x) s o w z = (rw (s, lt-ltb t h.threads a, lt-ltb v h.variables b), record { idle = z; told = refl; plain = rw s c })
  leads (PrescientAssign u x) s o w z = (rw (s, lt-ltb t h.threads a, lt-ltb v h.variables b), record { idle = z; told = refl; plain = rw s c })

  -- one event more, which its row allows: T does not wait after it
  goes_on : (k : Kind) → place k ≡ v → T (is (L ∷ B ∷ []) (event_by t 0 k)) → (es : List Event) → T (legal h es) → waits h (words_of es) t ≡ false → Kept h (words_of es) t k
      → T (legal h (event_by t 0 k ∷ es)) × (waits h (words_of (event_by t 0 k ∷ es)) t ≡ false) × (cell_of (words_of (event_by t 0 k ∷ es)) t v ≡ changed (suc (words_of es).events) k (cell_of (words_of es) t v))
  goes_on k s o es l z r = (
    legal_cons h (event_by t 0 k) es (leads k s o (words_of es) z).0 (allowed_by h (words_of es) t 0 k (leads k s o (words_of es) z).1 r) l,
    waits_keeps h t (event_by t 0 k) es (is_apart (L ∷ B ∷ []) (Y ∷ C ∷ []) (event_by t 0 k) tt o) ∙ z,
    subst (λ z. cell_of (words_of (event_by t 0 k ∷ es)) t z ≡ changed (suc (words_of es).events) k (cell_of (words_of es) t z)) s
        (ap (λ w. cell_of w t (place k)) (legal_next h (event_by t 0 k) es l) ∙ cell_own (words_of es) t 0 k),
  )

  -- with V not owed and no assign fresh, each read is loaded
  loads_all : (rs : List Slot) (es : List Event) → T (legal h es) → waits h (words_of es) t ≡ false → (cell_of (words_of es) t v).reads ≡ rs → (cell_of (words_of es) t v).pending ≡ false → (cell_of (words_of es) t v).fresh ≡ false
      → Loadable h t v (length rs) es
  loads_all [] es l z q p f = record { more = []; goes = l; loads = unfold count in ap length (sym q ∙ reads_cell es t v); few = omega arith }
  loads_all (s ∷ rs) es l z q p f =
      let g = goes_on (Load v s.value) refl (unfold is in tt) es l z (loads_row h t v s rs (words_of es) (live h es l) q p f) in
      before_it h t v (length rs) (event_by t 0 (Load v s.value)) es
      (loads_all rs (event_by t 0 (Load v s.value) ∷ es) g.0 g.1 (ap (λ c. c.reads) g.2 ∙ ap others q) (ap (λ c. c.pending) g.2 ∙ p) (ap (λ c. c.fresh) g.2 ∙ f))
      (omega (arith, one_load t v 0 s.value, rest g.2, sum))
    where
      rest : cell_of (words_of (event_by t 0 (Load v s.value) ∷ es)) t v ≡ changed (suc (words_of es).events) (Load v s.value) (cell_of (words_of es) t v) → length (reads t v (event_by t 0 (Load v s.value) ∷ es)) ≡ length rs
      rest g = ap length (sym (reads_cell (event_by t 0 (Load v s.value) ∷ es) t v) ∙ ap (λ c. c.reads) g ∙ ap others q)

      sum : length (reads t v es) ≡ length (s ∷ rs)
      sum = ap length (sym (reads_cell es t v) ∙ q)

  -- B where V is owed, then the loads
  loads_owed : (es : List Event) → T (legal h es) → waits h (words_of es) t ≡ false → none? (cell_of (words_of es) t v).reads ≡ false → (o : Bool) → pending t v es ≡ o
      → Loadable h t v (cond o (suc (length (reads t v es))) (length (reads t v es))) es
  loads_owed es l z q true p =
      let k = PrescientAssign v (cell_of (words_of es) t v).announced in
      let g = goes_on k refl (unfold is in tt) es l z (unfold cell_of words_of in (p, eq_z_refl (announced t v es))) in
      before_it h t v (length (reads t v es)) (event_by t 0 k) es
      (loads_all (reads t v es) (event_by t 0 k ∷ es) g.0 g.1 (ap (λ c. c.reads) g.2 ∙ reads_cell es t v) (ap (λ c. c.pending) g.2) (ap (λ c. c.fresh) g.2))
      (omega (arith, no_load t v 0 (cell_of (words_of es) t v).announced, ap length (sym (reads_cell (event_by t 0 k ∷ es) t v) ∙ ap (λ c. c.reads) g.2 ∙ reads_cell es t v)))
  loads_owed es l z q false p =
      let n : (cell_of (words_of es) t v).pending ≡ false = unfold cell_of words_of in p in
      loads_all (reads t v es) es l z (reads_cell es t v) n (cases (cell_of (words_of es) t v).fresh (λ f. absurd (false≢true (sym n ∙ (live h es l t v).stored q f))) (λ f. f))

-- Each outstanding read of a variable that is not volatile may yet be loaded, by a thread that does not wait: while V is owed, its store is written, and
-- the coming B clears a fresh assign. (On a volatile variable a load waits for the use of the one before it, which 27 may refuse for good. A thread that
-- waits may never be notified.)
pub all_loadable : (h : Counts) (es : List Event) → T (legal h es) → (t v : ℕ) → volatile h v ≡ false → waits h (words_of es) t ≡ false → Loadable h t v (loads_of t v es) es
unfolding loads_of
all_loadable h es l t v c z = go (none? (reads t v es)) refl
  where
    length_none : (ss : List Slot) → none? ss ≡ true → 0 ≡ length ss
    length_none [] q = refl
    length_none (s ∷ ss) q = absurd (false≢true q)

    go : (b : Bool) → none? (reads t v es) ≡ b → Loadable h t v (loads_of t v es) es
    go true q = record { more = []; goes = l; loads = unfold count in length_none (reads t v es) q; few = omega arith }
    go false q =
        let some : none? (cell_of (words_of es) t v).reads ≡ false = rw (reads_cell es t v) q in
        let k = known h es l t v some in
        loads_owed h t v k.0 k.1 c es l z some (pending t v es) refl

-- and these events are accepted where the limit leaves room for them
pub accepted_loadable : (m : Limits) (h : Counts) (es : List Event) → 0 < m.excess → T (Accepted m h es) → (t v : ℕ) → volatile h v ≡ false → waits h (words_of es) t ≡ false → length es + loads_of t v es ≤ m.events
    → (l : Loadable h t v (loads_of t v es) es) × T (Accepted m h (l.more ++ es))
accepted_loadable m h es x a t v c z r =
    let l = all_loadable h es (accepted_legal m h es x a) t v c z in
    (l, legal_accepted m h (l.more ++ es) l.goes (rw (length-append l.more es) (omega (arith, l.few, r))))
