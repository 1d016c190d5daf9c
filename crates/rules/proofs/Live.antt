-- What 23 keeps: while a read is outstanding, no store is, an assign is fresh only where V is owed, and no write of T on V came after the read.
use Prim.Native.Nat.{ℕ, suc, ◌≤◌}
use native.Mathlib.Omega.{arith}
use mathlib.Core.Path.{◌≡◌, refl, sym, ◌∙◌}
use mathlib.Core.Bool.{Bool, true, false, not, ◌&&◌, ◌||◌, or-true, or-false, false≢true}
use mathlib.Core.List.{List, [], ◌∷◌, ◌++◌}
use lib.Dec.{T}
use lib.IntN.{ℤ}
use Rattle.rules.specs.declared.Kind.{Kind}
use Rattle.rules.specs.declared.Kind.TheVariants.{Assign, Load, Store, Read, Write, PrescientStore, PrescientAssign, Unlock, Notify, Lock, Use, Wait, Resume}
use Rattle.rules.specs.declared.Event.{Event}
use Rattle.rules.specs.declared.Slot.{Slot}
use Rattle.rules.specs.declared.Counts.{Counts}
use Rattle.rules.specs.Events.{place, is}
use Rattle.rules.specs.Words.{latest, letter_in, last_at, count, in_order, reads, stores, fresh, pending, last_write}
use Rattle.rules.specs.Rules.{Words, words_of, none?, dead_read, judge, legal}
use Rattle.rules.proofs.Laws.{legal_row, legal_before}
use Rattle.rules.proofs.Next.{others, next}
use Rattle.rules.proofs.Simulation.{legal_next}
use Rattle.rules.proofs.Cells.{event_by, Cell, cell_of, slot_at, changed, changing, cell_cases}
use Rattle.rules.proofs.Rows.{Kept, row_of}

-- the positions of these slots lie between a and b
abbrev pub Placed : ℕ → ℕ → List Slot → Type 0
Placed a b [] = Unit {0}
Placed a b (s ∷ ss) = (a ≤ s.position) × (s.position ≤ b) × Placed a b ss

-- of the words c of a thread and variable after n events
pub record Live (c : Cell) (n : ℕ) : Type 0 where
  pub written : none? c.reads ≡ false → none? c.stores ≡ true
  pub stored : none? c.reads ≡ false → c.fresh ≡ true → c.pending ≡ true
  pub placed : Placed c.last_write n c.reads
  pub last : c.last_write ≤ n

-- ---- queues

pub placed_later : (a b : ℕ) (ss : List Slot) → Placed a b ss → Placed a (suc b) ss
placed_later a b [] p = tt
placed_later a b (s ∷ ss) p = (p.0, omega arith, placed_later a b ss p.2)

pub placed_others : (a b : ℕ) (ss : List Slot) → Placed a b ss → Placed a b (others ss)
placed_others a b [] p = tt
placed_others a b (s ∷ ss) p = p.2

pub placed_append : (a b p : ℕ) (x : ℤ) (ss : List Slot) → a ≤ p → p ≤ b → Placed a b ss → Placed a b (ss ++ (slot_at p x ∷ []))
placed_append a b p x [] h k q = (h, k, tt)
placed_append a b p x (s ∷ ss) h k q = (q.0, q.1, placed_append a b p x ss h k q.2)

placed_none : (a b : ℕ) (ss : List Slot) → none? ss ≡ true → Placed a b ss
placed_none a b [] h = tt
placed_none a b (s ∷ ss) h = absurd (false≢true h)

-- a queue that has another had one
pub others_some : (ss : List Slot) → none? (others ss) ≡ false → none? ss ≡ false
others_some [] h = h
others_some (s ∷ ss) h = refl

-- a queue with one more is not empty
pub append_some : (ss : List Slot) (s : Slot) → none? (ss ++ (s ∷ [])) ≡ false
append_some [] s = refl
append_some (r ∷ ss) s = refl

not_not : (b : Bool) → (b ≡ false → ⊥) → b ≡ true
not_not true h = refl
not_not false h = absurd (h refl)

-- ---- what 23 refuses

module _ (w : Words) (t v : ℕ) (x : ℤ) where
  dead_assign : w.pending t v ≡ false → none? (w.reads t v) ≡ false → dead_read w (event_by t 0 (Assign v x)) ≡ true
  unfolding dead_read is
  dead_assign p q = simp (p, q)

  dead_stored : none? (w.stores t v) ≡ false → dead_read w (event_by t 0 (Read v x)) ≡ true
  unfolding dead_read is
  dead_stored q = rw q

  dead_fresh : w.fresh t v ≡ true → w.pending t v ≡ false → dead_read w (event_by t 0 (Read v x)) ≡ true
  unfolding dead_read is
  dead_fresh f p = simp or-false ((λ i. not (none? (w.stores t v)) || f i && not (p i)) ∙ or-true (not (none? (w.stores t v))))

  dead_prescient : none? (w.reads t v) ≡ false → dead_read w (event_by t 0 (PrescientStore v x)) ≡ true
  unfolding dead_read is
  dead_prescient q = rw q

-- ---- one event more

live_later : (c : Cell) (n : ℕ) → Live c n → Live c (suc n)
live_later c n l = record { written = l.written; stored = l.stored; placed = placed_later c.last_write n c.reads l.placed; last = omega (arith, l.last) }

-- no read is outstanding
live_none : (c : Cell) (n : ℕ) → none? c.reads ≡ true → c.last_write ≤ n → Live c n
live_none c n q h = record { written = λ r. absurd (false≢true (sym r ∙ q)); stored = λ r f. absurd (false≢true (sym r ∙ q)); placed = placed_none c.last_write n c.reads q; last = h }

live_change : (h : Counts) (w : Words) (t n : ℕ) (k : Kind) → T (is changing (event_by t n k)) → Kept h w t k → Live (cell_of w t (place k)) w.events
    → Live (changed (suc w.events) k (cell_of w t (place k))) (suc w.events)
unfolding cell_of is
live_change h w t n (Use _ _) o r l = elim o [ ]
live_change h w t n (Lock _) o r l = elim o [ ]
live_change h w t n (Unlock _) o r l = elim o [ ]
live_change h w t n (Wait _) o r l = elim o [ ]
live_change h w t n (Notify _ _) o r l = elim o [ ]
live_change h w t n (Resume _) o r l = elim o [ ]
live_change h w t n (Assign v x) o r l = record {
  written = l.written;
  stored = λ q f. not_not (w.pending t v) (λ p. false≢true (sym r ∙ dead_assign w t v x p q));
  placed = placed_later (w.last_write t v) w.events (w.reads t v) l.placed;
  last = omega (arith, l.last);
}
live_change h w t n (Load v x) o r l = record {
  written = λ q. l.written (others_some (w.reads t v) q);
  stored = λ q. l.stored (others_some (w.reads t v) q);
  placed = placed_others (w.last_write t v) (suc w.events) (w.reads t v) (placed_later (w.last_write t v) w.events (w.reads t v) l.placed);
  last = omega (arith, l.last);
}
live_change h w t n (Store v x) o r l =
    live_none (changed (suc w.events) (Store v x) (cell_of w t v)) (suc w.events) (not_not (none? (w.reads t v)) (λ q. false≢true (sym r.0.not_pending ∙ l.stored q r.0.fresh))) (omega (arith, l.last))
live_change h w t n (Read v x) o r l = record {
  written = λ q. not_not (none? (w.stores t v)) (λ p. false≢true (sym r.0.live ∙ dead_stored w t v x p));
  stored = λ q f. not_not (w.pending t v) (λ p. false≢true (sym r.0.live ∙ dead_fresh w t v x f p));
  placed = placed_append (w.last_write t v) (suc w.events) (suc w.events) x (w.reads t v) (omega (arith, l.last)) (omega arith) (placed_later (w.last_write t v) w.events (w.reads t v) l.placed);
  last = omega (arith, l.last);
}
live_change h w t n (Write v x) o r l = live_none (changed (suc w.events) (Write v x) (cell_of w t v)) (suc w.events) (not_not (none? (w.reads t v)) (λ q. false≢true (sym r.0 ∙ l.written q))) (omega arith)
live_change h w t n (PrescientStore v x) o r l = live_none (changed (suc w.events) (PrescientStore v x) (cell_of w t v)) (suc w.events) (not_not (none? (w.reads t v)) (λ q. false≢true (sym r.live ∙ dead_prescient w t v x q))) (omega (arith, l.last))
live_change h w t n (PrescientAssign v x) o r l = record {
  written = l.written;
  stored = λ q f. absurd (false≢true f);
  placed = placed_later (w.last_write t v) w.events (w.reads t v) l.placed;
  last = omega (arith, l.last);
}

-- of each thread and variable
abbrev pub AllLive : Words → Type 0
AllLive w = (t v : ℕ) → Live (cell_of w t v) w.events

live_next : (h : Counts) (w : Words) (t n : ℕ) (k : Kind) → judge h w (event_by t n k) ≡ 0 → AllLive w → AllLive (next w (event_by t n k))
unfolding next
live_next h w t n k p l u m =
    cell_cases (λ c. Live c (suc w.events)) w t n k u m
    (λ o a b. live_change h w t n k o (row_of h w t n k p) (l t (place k)))
    (λ q. live_later (cell_of w u m) w.events (l u m))

live_start : AllLive (words_of [])
unfolding words_of cell_of reads stores fresh pending last_write in_order latest letter_in last_at count
live_start t v = record { written = λ q. refl; stored = λ q f. absurd (false≢true f); placed = tt; last = omega arith }

-- after a legal list
pub live : (h : Counts) (es : List Event) → T (legal h es) → AllLive (words_of es)
live h [] l = live_start
live h (e ∷ es) l =
    rw (legal_next h e es (legal_before h e es l)) (live_next h (words_of es) e.thread e.line e.kind (legal_row h e es l) (live h es (legal_before h e es l)))
