-- Document 02 (d): which outstanding store has its assign still to come, what N's test is after a legal list, and that no
-- other verdict changes.
use Prim.Native.Nat.{ℕ, zero, suc, ◌≤◌, ◌<◌}
use native.Mathlib.Omega.{arith}
use mathlib.Core.Path.{◌≡◌, refl, sym, ap, ◌∙◌, subst}
use mathlib.Core.Bool.{Bool, true, false, not, cond, ◌||◌, and-true, false≢true}
use mathlib.Core.List.{List, [], ◌∷◌, ◌++◌}
use mathlib.Core.Logic.{◌⊎◌, inl, inr}
use mathlib.Core.Option.{Option, none, some as found}
use lib.Dec.{T, eqb, leb}
use lib.IntN.{ℤ}
use lib.ListN.{length}
use borrow.Author.Tests.{eqb-true, eq-eqb, ne_eqb, lt-ltb, not-false}
use Rattle.rules.specs.declared.Kind.{Kind}
use Rattle.rules.specs.declared.Kind.TheVariants.{Assign, Load, Store, Read, Write, Unlock, PrescientStore, PrescientAssign, Wait, Notify, Lock, Use, Resume}
use Rattle.rules.specs.declared.Event.{Event}
use Rattle.rules.specs.declared.Slot.{Slot}
use Rattle.rules.specs.declared.Counts.{Counts}
use Rattle.rules.specs.Events.{L, N, P, Y, place, value, is, of, on, unlocks}
use Rattle.rules.specs.Limits.{Limits, line_after, declared}
use Rattle.rules.specs.Words.{latest, value_in, letter_in, last_at, count, in_order, by, stores, pending, announced, last_assign}
use Rattle.rules.specs.Rules.{Words, words_of, some, none?, on_some, unwritten, not_written, wrong_neighbour, use_barred, write_barred, volatile_order, prescient_volatile, not_notified, breaks, rows, row_in, first_broken, judge, answer, verdict, legal_by, legal, Marked, accepted, number_in, unless, mark_read, past_read}
use Rattle.rules.specs.PrescientStores.{prescient_store, assign_pending, some_made, made_unwritten, judge_strict, verdict_strict, mark_strict, past_strict}
use Rattle.rules.proofs.Laws.{cases, is_true, or_false_left, is_apart, by_none, legal_row, legal_before, legal_by_less, some_none, none_some}
use Rattle.rules.proofs.Next.{others, next}
use Rattle.rules.proofs.Simulation.{legal_next}
use Rattle.rules.proofs.Cells.{event_by, Cell, cell_of, slot_at, changed, changing, cell_cases, events_next}
use Rattle.rules.proofs.Rows.{unlock_row_law, Kept, row_of}
use Rattle.rules.proofs.Live.{Placed, placed_later, placed_others, placed_append}

-- ---- with V owed the latest store is that of the latest P

-- the last of these stores is z, and the others came before it
abbrev Ending : Slot → List Slot → Type 0
Ending z [] = Unit {0}
Ending z (s ∷ []) = s ≡ z
Ending z (s ∷ (r ∷ ss)) = (s.position < z.position) × Ending z (r ∷ ss)

ending_others : (z : Slot) (ss : List Slot) → Ending z ss → Ending z (others ss)
ending_others z [] e = tt
ending_others z (s ∷ []) e = tt
ending_others z (s ∷ (r ∷ ss)) e = e.1

ending_append : (a n : ℕ) (x : ℤ) (ss : List Slot) → Placed a n ss → Ending (slot_at (suc n) x) (ss ++ (slot_at (suc n) x ∷ []))
ending_append a n x [] p = refl
ending_append a n x (s ∷ []) p = (omega (arith, p.1), refl)
ending_append a n x (s ∷ (r ∷ ss)) p = (omega (arith, p.1), ending_append a n x (r ∷ ss) p.2)

-- of the words c of a thread and variable after n events, where z is the store of the latest P
record Prescient (z : Slot) (c : Cell) (n : ℕ) : Type 0 where
  placed : Placed 0 n c.stores
  assigned : c.last_assign ≤ n
  ending : c.pending ≡ true → Ending z c.stores

prescient_later : (z : Slot) (c : Cell) (n : ℕ) → Prescient z c n → Prescient z c (suc n)
prescient_later z c n e = record { placed = placed_later 0 n c.stores e.placed; assigned = omega (arith, e.assigned); ending = e.ending }

-- the store of the latest P, after an event of kind k at position p
abbrev latest_p : ℕ → Kind → Slot → Slot
latest_p p k z = cond (is (P ∷ []) (event_by 0 0 k)) (slot_at p (value k)) z

prescient_change : (h : Counts) (w : Words) (t n : ℕ) (k : Kind) (z : Slot) → T (is changing (event_by t n k)) → Kept h w t k → Prescient z (cell_of w t (place k)) w.events
    → Prescient (latest_p (suc w.events) k z) (changed (suc w.events) k (cell_of w t (place k))) (suc w.events)
unfolding cell_of is
prescient_change h w t n (Use _ _) z o r e = elim o [ ]
prescient_change h w t n (Lock _) z o r e = elim o [ ]
prescient_change h w t n (Unlock _) z o r e = elim o [ ]
prescient_change h w t n (Wait _) z o r e = elim o [ ]
prescient_change h w t n (Notify _ _) z o r e = elim o [ ]
prescient_change h w t n (Resume _) z o r e = elim o [ ]
prescient_change h w t n (Assign v x) z o r e = record { placed = placed_later 0 w.events (w.stores t v) e.placed; assigned = omega arith; ending = e.ending }
prescient_change h w t n (Load v x) z o r e = record { placed = placed_later 0 w.events (w.stores t v) e.placed; assigned = omega (arith, e.assigned); ending = e.ending }
prescient_change h w t n (Store v x) z o r e = record {
  placed = placed_append 0 (suc w.events) (w.last_assign t v) x (w.stores t v) (omega arith) (omega (arith, e.assigned)) (placed_later 0 w.events (w.stores t v) e.placed);
  assigned = omega (arith, e.assigned);
  ending = λ o. absurd (false≢true (sym r.0.not_pending ∙ o));
}
prescient_change h w t n (Read v x) z o r e = record { placed = placed_later 0 w.events (w.stores t v) e.placed; assigned = omega (arith, e.assigned); ending = e.ending }
prescient_change h w t n (Write v x) z o r e = record {
  placed = placed_others 0 (suc w.events) (w.stores t v) (placed_later 0 w.events (w.stores t v) e.placed);
  assigned = omega (arith, e.assigned);
  ending = λ o. ending_others z (w.stores t v) (e.ending o);
}
prescient_change h w t n (PrescientStore v x) z o r e = record {
  placed = placed_append 0 (suc w.events) (suc w.events) x (w.stores t v) (omega arith) (omega arith) (placed_later 0 w.events (w.stores t v) e.placed);
  assigned = omega (arith, e.assigned);
  ending = λ o. ending_append 0 w.events x (w.stores t v) e.placed;
}
prescient_change h w t n (PrescientAssign v x) z o r e = record { placed = placed_later 0 w.events (w.stores t v) e.placed; assigned = omega (arith, e.assigned); ending = λ o. absurd (false≢true o) }

prescient_next : (h : Counts) (w : Words) (t n : ℕ) (k : Kind) → judge h w (event_by t n k) ≡ 0 → (u m : ℕ) (z : Slot) → Prescient z (cell_of w u m) w.events
    → Prescient (cond (by (P ∷ []) u m (event_by t n k)) (slot_at (suc w.events) (value k)) z) (cell_of (next w (event_by t n k)) u m) (suc w.events)
unfolding by is of on
prescient_next h w t n k p u m z e =
    cell_cases (λ c. Prescient (cond (by (P ∷ []) u m (event_by t n k)) (slot_at (suc w.events) (value k)) z) c (suc w.events)) w t n k u m
    (λ o a b. rw (eq-eqb t u a, eq-eqb (place k) m b, and-true) (prescient_change h w t n k z o (row_of h w t n k p) (rw (a, b) e)))
    (λ q. rw (by_none (P ∷ []) changing u m (event_by t n k) tt q) (prescient_later z (cell_of w u m) w.events e))

latest_next : (t v : ℕ) (e : Event) (es : List Event) → prescient_store t v (e ∷ es) ≡ cond (by (P ∷ []) t v e) (slot_at (suc (words_of es).events) (value e.kind)) (prescient_store t v es)
unfolding prescient_store announced last_at latest value_in words_of
latest_next t v e es = cases (by (P ∷ []) t v e) (λ q. rw q refl) (λ q. rw q refl)

prescient : (h : Counts) (es : List Event) → T (legal h es) → (t v : ℕ) → Prescient (prescient_store t v es) (cell_of (words_of es) t v) (words_of es).events
unfolding by next
prescient h [] l t v = start
  where
    start : Prescient (prescient_store t v []) (cell_of (words_of []) t v) (words_of []).events
    start = unfold words_of cell_of stores pending last_assign last_at in_order count latest letter_in in record { placed = tt; assigned = omega arith; ending = λ o. tt }
prescient h (e ∷ es) l t v =
    rw (legal_next h e es (legal_before h e es l), latest_next t v e es, events_next (words_of es) e)
    (prescient_next h (words_of es) e.thread e.line e.kind (legal_row h e es l) t v (prescient_store t v es) (prescient h es (legal_before h e es l) t v))

ending_last : (z : Slot) (ss : List Slot) → Ending z ss → none? ss ≡ false → (older : List Slot) × (ss ≡ older ++ (z ∷ []))
ending_last z [] e q = absurd (false≢true (sym q))
ending_last z (s ∷ []) e q = ([], ap (λ r. r ∷ []) e)
ending_last z (s ∷ (r ∷ ss)) e q = let i = ending_last z (r ∷ ss) e.1 refl in (s ∷ i.0, ap (λ rs. s ∷ rs) i.1)

-- With V owed, the last outstanding store is that of the latest P: its assign is owed.
pub prescient_last : (h : Counts) (es : List Event) → T (legal h es) → (t v : ℕ) → pending t v es ≡ true → none? (stores t v es) ≡ false
    → (older : List Slot) × (stores t v es ≡ older ++ (prescient_store t v es ∷ []))
unfolding words_of cell_of
prescient_last h es l t v o q = ending_last (prescient_store t v es) (stores t v es) ((prescient h es l t v).ending o) q

ending_only : (z s : Slot) (older : List Slot) → Ending z (older ++ (s ∷ [])) → s ≡ z
ending_only z s [] e = e
ending_only z s (r ∷ []) e = e.1
ending_only z s (r ∷ (q ∷ older)) e = ending_only z s (q ∷ older) e.1

-- of each thread and variable: with V owed, the last outstanding store has the announced value
abbrev pub AllAnnounced : Words → Type 0
AllAnnounced w = (t v : ℕ) (older : List Slot) (s : Slot) → w.pending t v ≡ true → w.stores t v ≡ older ++ (s ∷ []) → s.value ≡ w.announced t v

pub last_announced : (h : Counts) (es : List Event) → T (legal h es) → AllAnnounced (words_of es)
unfolding words_of cell_of prescient_store
last_announced h es l t v older s o q = ap (λ (z : Slot). z.value) (ending_only (prescient_store t v es) s older (subst (Ending (prescient_store t v es)) q ((prescient h es l t v).ending o)))

-- ---- N's test

-- After a legal list N's test is that T has an outstanding store on V whose assign is made.
pub unwritten_exact : (h : Counts) (es : List Event) → T (legal h es) → (t v : ℕ) → unwritten (words_of es) t v ≡ made_unwritten t v es
unfolding unwritten words_of cell_of some_made assign_pending made_unwritten
unwritten_exact h es l t v = go (pending t v es) (stores t v es) refl refl (prescient h es l t v).ending
  where
    z : Slot
    z = prescient_store t v es

    go : (o : Bool) (ss : List Slot) → pending t v es ≡ o → stores t v es ≡ ss → (pending t v es ≡ true → Ending z (stores t v es)) → unwritten (words_of es) t v ≡ made_unwritten t v es
    go true [] p q f = rw (q, p) refl
    go false [] p q f = rw (q, p) refl
    go true (s ∷ []) p q f = rw (q, p, eq-eqb s.position z.position (ap (λ (r : Slot). r.position) (rw q at (f p)))) refl
    go false (s ∷ []) p q f = rw (q, p) refl
    go true (s ∷ (r ∷ ss)) p q f = let e = rw q at (f p) in rw (q, p, ne_eqb s.position z.position (λ d. omega (arith, d, e.0))) (lt-ltb 1 (suc (suc (length ss))) (omega arith))
    go false (s ∷ (r ∷ ss)) p q f = rw (q, p) (lt-ltb 0 (suc (suc (length ss))) (omega arith))

-- and so 16 at N, and at Y, is that T has one on some variable
pub unlock_exact : (h : Counts) (es : List Event) → T (legal h es) → (e : Event) → T (unlocks e) → breaks 16 h (words_of es) e ≡ on_some h (λ t v. made_unwritten t v es) e
unfolding breaks not_written unlocks
unlock_exact h es l e o = rw (is_apart (N ∷ Y ∷ []) (L ∷ []) e tt o, is_true {b = is (N ∷ Y ∷ []) e} o) (λ i. some h.variables (λ v. unwritten_exact h es l e.thread v i))

-- no store is left, or that of the latest P alone
none_made : (t v : ℕ) (es : List Event) (ss : List Slot) → some_made t v es ss ≡ false → (pending t v es ≡ true → Ending (prescient_store t v es) ss)
    → (ss ≡ []) ⊎ ((pending t v es ≡ true) × (ss ≡ prescient_store t v es ∷ []))
unfolding some_made assign_pending
none_made t v es [] q f = inl refl
none_made t v es (s ∷ ss) q f = cases (pending t v es) (λ p. inr (p, alone ss (f p) (rw p at q))) (λ p. absurd (false≢true (sym (rw p at q))))
  where
    alone : (ss : List Slot) → Ending (prescient_store t v es) (s ∷ ss) → (not (eqb s.position (prescient_store t v es).position) || some_made t v es ss) ≡ false → s ∷ ss ≡ prescient_store t v es ∷ []
    alone [] e q = ap (λ (r : Slot). r ∷ []) e
    alone (r ∷ ss) e q = absurd (let d = eqb-true s.position (prescient_store t v es).position (not-false _ (or_false_left _ (some_made t v es (r ∷ ss)) q)) in omega (arith, d, e.0))

-- "only an assign already made must reach main memory before the unlock": at an accepted N or Y the outstanding stores of T on V are none, or that of the
-- latest P alone while its assign is owed.
pub unlock_leaves : (h : Counts) (es : List Event) → T (legal h es) → (e : Event) → T (unlocks e) → judge h (words_of es) e ≡ 0 → (v : ℕ) → v < h.variables
    → (stores e.thread v es ≡ []) ⊎ ((pending e.thread v es ≡ true) × (stores e.thread v es ≡ prescient_store e.thread v es ∷ []))
unfolding words_of cell_of made_unwritten
unlock_leaves h es l e o p v b =
    none_made e.thread v es (stores e.thread v es)
    (sym (unwritten_exact h es l e.thread v) ∙ some_none h.variables (λ v. unwritten (words_of es) e.thread v) (unlock_row_law h (words_of es) e p o).written v b)
    (prescient h es l e.thread v).ending

-- ---- the verdicts with every store counted at N

-- what N counts is outstanding
counted : (w : Words) (t v : ℕ) → not (none? (w.stores t v)) ≡ false → unwritten w t v ≡ false
unfolding unwritten
counted w t v q = go (w.pending t v) (w.stores t v) refl refl q
  where
    go : (o : Bool) (ss : List Slot) → w.pending t v ≡ o → w.stores t v ≡ ss → not (none? ss) ≡ false → unwritten w t v ≡ false
    go true [] p r q = rw (p, r) refl
    go false [] p r q = rw (p, r) refl
    go o (s ∷ ss) p r q = absurd (false≢true (sym q))

-- the first of 29, 12, 15 and 16 that is broken
abbrev unlock_row : Bool → Bool → Bool → Bool → ℕ
unlock_row z a b c = cond z 29 (cond a 12 (cond b 15 (cond c 16 0)))

-- N and Y are judged so
unlock_judge : (h : Counts) (w : Words) (t n : ℕ) (k : Kind) → T (unlocks (event_by t n k))
    → judge h w (event_by t n k) ≡ unlock_row (breaks 29 h w (event_by t n k)) (breaks 12 h w (event_by t n k)) (breaks 15 h w (event_by t n k)) (on_some h (unwritten w) (event_by t n k))
unfolding judge rows row_in first_broken breaks not_written wrong_neighbour use_barred write_barred volatile_order prescient_volatile not_notified unlocks is
unlock_judge h w t n (Use _ _) o = elim o [ ]
unlock_judge h w t n (Assign _ _) o = elim o [ ]
unlock_judge h w t n (Load _ _) o = elim o [ ]
unlock_judge h w t n (Store _ _) o = elim o [ ]
unlock_judge h w t n (Read _ _) o = elim o [ ]
unlock_judge h w t n (Write _ _) o = elim o [ ]
unlock_judge h w t n (Lock _) o = elim o [ ]
unlock_judge h w t n (PrescientStore _ _) o = elim o [ ]
unlock_judge h w t n (PrescientAssign _ _) o = elim o [ ]
unlock_judge h w t n (Notify _ _) o = elim o [ ]
unlock_judge h w t n (Resume _) o = elim o [ ]
unlock_judge h w t n (Unlock l) o = refl
unlock_judge h w t n (Wait l) o = refl

-- with every store counted e is judged the same, or refused with 16 where it is an N or Y that breaks nothing
abbrev Relaxed : Counts → Words → Event → Type 0
Relaxed h w e = (judge_strict h w e ≡ judge h w e) ⊎ (T (unlocks e) × (judge_strict h w e ≡ 16) × (judge h w e ≡ 0))

relaxed : (h : Counts) (w : Words) (e : Event) → Relaxed h w e
unfolding judge_strict
relaxed h w e = cases (unlocks e) (λ q. let j : judge h w e ≡ row (on_some h (unwritten w) e) = unlock_judge h w e.thread e.line e.kind (subst T (sym q) tt) in rw (q, j) (go (breaks 29 h w e) (breaks 12 h w e) (breaks 15 h w e) _ _ less)) (λ q. rw q (inl refl))
  where
    row : Bool → ℕ
    row c = unlock_row (breaks 29 h w e) (breaks 12 h w e) (breaks 15 h w e) c

    less : on_some h (λ t v. not (none? (w.stores t v))) e ≡ false → on_some h (unwritten w) e ≡ false
    less q = none_some h.variables (λ v. unwritten w e.thread v) (λ u b. counted w e.thread u (some_none h.variables (λ v. not (none? (w.stores e.thread v))) q u b))

    go : (z a b c d : Bool) → (d ≡ false → c ≡ false) → (unlock_row z a b d ≡ unlock_row z a b c) ⊎ (Unit {0} × (unlock_row z a b d ≡ 16) × (unlock_row z a b c ≡ 0))
    go true a b c d f = inl refl
    go false true b c d f = inl refl
    go false false true c d f = inl refl
    go false false false true true f = inl refl
    go false false false true false f = absurd (false≢true (sym (f refl)))
    go false false false false true f = inr (tt, refl, refl)
    go false false false false false f = inl refl

-- Whatever the words: e is judged the same with every store counted at N and Y, or e is one of these that breaks nothing and is then 16.
pub strict_same : (h : Counts) (w : Words) (e : Event) → (judge_strict h w e ≡ judge h w e) ⊎ (T (unlocks e) × (judge_strict h w e ≡ 16) × (judge h w e ≡ 0))
strict_same = relaxed

-- 9 and 5 come first in both
verdict_same : (m : Limits) (h : Counts) (es : List Event) (e : Event) → (verdict_strict m h es e ≡ verdict m h es e) ⊎ (verdict_strict m h es e ≡ 16)
unfolding verdict_strict verdict answer words_of
verdict_same m h es e = go (leb m.events (length es)) (declared h e) (strict_same h (words_of es) e)
  where
    go : (a b : Bool) → Relaxed h (words_of es) e
        → (cond a m.excess (cond b (judge_strict h (words_of es) e) 5) ≡ cond a m.excess (cond b (judge h (words_of es) e) 5)) ⊎ (cond a m.excess (cond b (judge_strict h (words_of es) e) 5) ≡ 16)
    go true b r = inl refl
    go false false r = inl refl
    go false true (inl q) = inl q
    go false true (inr q) = inr q.1

same_on : (n p line : ℕ) (a b : Marked) → (n ≡ p) ⊎ (n ≡ 16) → (a ≡ b) ⊎ (number_in a ≡ 16) → (unless n line a ≡ unless p line b) ⊎ (number_in (unless n line a) ≡ 16)
same_on n p line a b (inl q) r = rw q (go p)
  where
    go : (p : ℕ) → (unless p line a ≡ unless p line b) ⊎ (number_in (unless p line a) ≡ 16)
    go zero = r
    go (suc p) = inl refl
same_on n p line a b (inr q) r = inr (rw q refl)

-- Lines are marked the same with every store counted at N, or they are then refused with 16. So what is refused with another number keeps number
-- and line.
pub strict_marked : (m : Limits) (h : Counts) (es : List Event) (rs : List (Option Event)) → (mark_strict m h es rs ≡ mark_read m h es rs) ⊎ (number_in (mark_strict m h es rs) ≡ 16)
unfolding mark_strict mark_read
strict_marked m h es [] = inl refl
strict_marked m h es (none ∷ rest) = inl refl
strict_marked m h es (found e ∷ rest) =
    same_on (verdict_strict m h es e) (verdict m h es e) (line_after h (length es)) (mark_strict m h (e ∷ es) rest) (mark_read m h (e ∷ es) rest) (verdict_same m h es e) (strict_marked m h (e ∷ es) rest)

strict_kept : (h : Counts) (w : Words) (e : Event) → judge_strict h w e ≡ 0 → judge h w e ≡ 0
strict_kept h w e p = go (strict_same h w e)
  where
    go : Relaxed h w e → judge h w e ≡ 0
    go (inl q) = sym q ∙ p
    go (inr q) = q.2

-- a list that is legal with every store counted is legal
pub strict_legal : (h : Counts) (es : List Event) → T (legal_by judge_strict h es) → T (legal h es)
strict_legal h es l = legal_by_less judge_strict judge h (strict_kept h) es l

-- lines that are accepted with every store counted
open_lines : (m : Limits) (h : Counts) (e : Event) (es : List Event) (rest : List (Option Event)) → mark_strict m h es (found e ∷ rest) ≡ accepted → (verdict_strict m h es e ≡ 0) × (mark_strict m h (e ∷ es) rest ≡ accepted)
unfolding mark_strict
open_lines m h e es rest q = go (verdict_strict m h es e) q
  where
    go : (n : ℕ) → unless n (line_after h (length es)) (mark_strict m h (e ∷ es) rest) ≡ accepted → (n ≡ 0) × (mark_strict m h (e ∷ es) rest ≡ accepted)
    go zero q = (refl, q)
    go (suc n) q = absurd (let z : ◌≡◌ {A = ℕ} (suc n) 0 = ap number_in q in omega arith)

-- What is accepted with every store counted is accepted, after the same events, and so with the same memories: these are the events'.
pub strict_accepted : (m : Limits) (h : Counts) (es : List Event) (rs : List (Option Event)) → mark_strict m h es rs ≡ accepted → (mark_read m h es rs ≡ accepted) × (past_strict m h es rs ≡ past_read m h es rs)
unfolding mark_read past_strict past_read
strict_accepted m h es [] q = (refl, refl)
strict_accepted m h es (none ∷ rest) q = absurd (let z : ◌≡◌ {A = ℕ} 4 0 = unfold mark_strict in ap number_in q in omega arith)
strict_accepted m h es (found e ∷ rest) q =
    let o = open_lines m h e es rest q in
    let r = strict_accepted m h (e ∷ es) rest o.1 in
    (rw (kept (verdict_same m h es e) o.0) r.0, rw (o.0, kept (verdict_same m h es e) o.0) r.1)
  where
    kept : (verdict_strict m h es e ≡ verdict m h es e) ⊎ (verdict_strict m h es e ≡ 16) → verdict_strict m h es e ≡ 0 → verdict m h es e ≡ 0
    kept (inl q) p = sym q ∙ p
    kept (inr q) p = absurd (omega (arith, q, p))
