-- Each outstanding store has a position: after a legal list a fresh assign stands somewhere, and so does the assign of a store, or the early store itself.
use Prim.Native.Nat.{ℕ, suc, ◌≤◌, ◌<◌}
use native.Mathlib.Omega.{arith}
use mathlib.Core.Path.{◌≡◌}
use mathlib.Core.Bool.{true, false≢true}
use mathlib.Core.List.{List, [], ◌∷◌}
use lib.Dec.{T}
use Rattle.rules.specs.declared.Kind.{Kind}
use Rattle.rules.specs.declared.Kind.TheVariants.{Assign, Load, Store, Read, Write, PrescientStore, PrescientAssign, Lock, Wait, Notify, Unlock, Resume, Use}
use Rattle.rules.specs.declared.Event.{Event}
use Rattle.rules.specs.declared.Counts.{Counts}
use Rattle.rules.specs.Events.{place, is}
use Rattle.rules.specs.Words.{latest, letter_in, last_at, count, in_order, reads, stores, fresh, pending, last_write, last_assign}
use Rattle.rules.specs.Rules.{Words, words_of, judge, legal}
use Rattle.rules.proofs.Laws.{legal_row, legal_before}
use Rattle.rules.proofs.Next.{next}
use Rattle.rules.proofs.Simulation.{legal_next}
use Rattle.rules.proofs.Cells.{event_by, Cell, cell_of, changed, changing, cell_cases}
use Rattle.rules.proofs.Rows.{Kept, row_of}
use Rattle.rules.proofs.Live.{Placed, placed_later, placed_others, placed_append}

-- of the words c of a thread and variable after n events
pub record Assigned (c : Cell) (n : ℕ) : Type 0 where
  pub fresh : c.fresh ≡ true → 0 < c.last_assign
  pub last : c.last_assign ≤ n
  pub stores : Placed 1 n c.stores

assigned_later : (c : Cell) (n : ℕ) → Assigned c n → Assigned c (suc n)
assigned_later c n a = record { fresh = a.fresh; last = omega (arith, a.last); stores = placed_later 1 n c.stores a.stores }

assigned_change : (h : Counts) (w : Words) (t n : ℕ) (k : Kind) → T (is changing (event_by t n k)) → Kept h w t k → Assigned (cell_of w t (place k)) w.events → Assigned (changed (suc w.events) k (cell_of w t (place k))) (suc w.events)
unfolding cell_of is
assigned_change h w t n (Use _ _) o r a = elim o [ ]
assigned_change h w t n (Lock _) o r a = elim o [ ]
assigned_change h w t n (Unlock _) o r a = elim o [ ]
assigned_change h w t n (Wait _) o r a = elim o [ ]
assigned_change h w t n (Notify _ _) o r a = elim o [ ]
assigned_change h w t n (Resume _) o r a = elim o [ ]
assigned_change h w t n (Assign v x) o r a = record { fresh = λ q. omega arith; last = omega arith; stores = placed_later 1 w.events (w.stores t v) a.stores }
assigned_change h w t n (Load v x) o r a = record { fresh = a.fresh; last = omega (arith, a.last); stores = placed_later 1 w.events (w.stores t v) a.stores }
assigned_change h w t n (Store v x) o r a = record {
  fresh = λ q. absurd (false≢true q);
  last = omega (arith, a.last);
  stores = placed_append 1 (suc w.events) (w.last_assign t v) x (w.stores t v) (a.fresh r.0.fresh) (omega (arith, a.last)) (placed_later 1 w.events (w.stores t v) a.stores);
}
assigned_change h w t n (Read v x) o r a = record { fresh = a.fresh; last = omega (arith, a.last); stores = placed_later 1 w.events (w.stores t v) a.stores }
assigned_change h w t n (Write v x) o r a = record { fresh = a.fresh; last = omega (arith, a.last); stores = placed_others 1 (suc w.events) (w.stores t v) (placed_later 1 w.events (w.stores t v) a.stores) }
assigned_change h w t n (PrescientStore v x) o r a = record {
  fresh = a.fresh;
  last = omega (arith, a.last);
  stores = placed_append 1 (suc w.events) (suc w.events) x (w.stores t v) (omega arith) (omega arith) (placed_later 1 w.events (w.stores t v) a.stores);
}
assigned_change h w t n (PrescientAssign v x) o r a = record { fresh = λ q. absurd (false≢true q); last = omega (arith, a.last); stores = placed_later 1 w.events (w.stores t v) a.stores }

-- of each thread and variable
abbrev pub AllAssigned : Words → Type 0
AllAssigned w = (t v : ℕ) → Assigned (cell_of w t v) w.events

assigned_next : (h : Counts) (w : Words) (t n : ℕ) (k : Kind) → judge h w (event_by t n k) ≡ 0 → AllAssigned w → AllAssigned (next w (event_by t n k))
unfolding next
assigned_next h w t n k p a u m =
    cell_cases (λ c. Assigned c (suc w.events)) w t n k u m
    (λ o x y. assigned_change h w t n k o (row_of h w t n k p) (a t (place k)))
    (λ q. assigned_later (cell_of w u m) w.events (a u m))

assigned_start : AllAssigned (words_of [])
unfolding words_of cell_of reads stores fresh pending last_write last_assign in_order latest letter_in last_at count
assigned_start t v = record { fresh = λ q. absurd (false≢true q); last = omega arith; stores = tt }

-- after a legal list
pub assigned : (h : Counts) (es : List Event) → T (legal h es) → AllAssigned (words_of es)
assigned h [] l = assigned_start
assigned h (e ∷ es) l =
    rw (legal_next h e es (legal_before h e es l)) (assigned_next h (words_of es) e.thread e.line e.kind (legal_row h e es l) (assigned h es (legal_before h e es l)))
