-- The words of a thread and variable that a tail is made of, and what one event more makes of them.
use Prim.Native.Nat.{ℕ, suc, pred, ◌+◌, ◌≤◌}
use native.Mathlib.Omega.{arith}
use mathlib.Core.Path.{◌≡◌, refl, sym, ap, ◌∙◌, subst}
use mathlib.Core.Bool.{Bool, false, not, cond, ◌&&◌, false≢true}
use mathlib.Core.List.{List, [], ◌∷◌, ◌++◌, map}
use lib.Dec.{T, eqb}
use lib.IntN.{ℤ}
use borrow.Author.Tests.{eq-eqb}
use Rattle.rules.specs.declared.Kind.{Kind}
use Rattle.rules.specs.declared.Kind.TheVariants.{Assign, Store, Write, Lock, Unlock, PrescientAssign, Read, Notify, Resume, Wait, PrescientStore, Load, Use}
use Rattle.rules.specs.declared.Event.{Event}
use Rattle.rules.specs.declared.Slot.{Slot}
use Rattle.rules.specs.Events.{A, B, L, lock_letters, place, is, of, on, on_lock}
use Rattle.rules.specs.Words.{by, locks_by, grip_after}
use Rattle.rules.specs.Rules.{Words}
use Rattle.rules.specs.Ten.{is_ten}
use Rattle.rules.proofs.Laws.{cases, is_true, is_among, is_apart, by_none}
use Rattle.rules.proofs.Next.{next, grip_in}
use Rattle.rules.proofs.Simulation.{by_is, by_thread, by_loc}
use Rattle.rules.proofs.Held.{gripping, grip_kept}
use Rattle.rules.proofs.Cells.{event_by, Cell, cell_of, changed, changing, cell_own, cell_cases}
use Rattle.tails.specs.Tails.{Move, move, write, load}

pub record Part : Type 0 where
  pub reads : List Slot
  pub stores : List Slot
  pub fresh : Bool
  pub pending : Bool
  pub announced : ℤ
  pub usable : Bool
  pub copy : ℤ

abbrev pub part_with : Cell → Bool → ℤ → Part
part_with c b x = record { reads = c.reads; stores = c.stores; fresh = c.fresh; pending = c.pending; announced = c.announced; usable = b; copy = x }

abbrev pub part_of : Words → ℕ → ℕ → Part
part_of w t v = part_with (cell_of w t v) (w.usable t v) (w.copy t v)

-- the moves on V hang on its part alone
abbrev pub closing : ℕ → ℕ → Bool → Bool → Bool → ℤ → ℤ → List Move
closing t v pending fresh usable copy announced =
    cond pending (move t (PrescientAssign v announced) ∷ [])
    (cond fresh (cond usable [] (move t (Assign v copy) ∷ []) ++ (move t (Store v copy) ∷ move t (Write v copy) ∷ [])) [])

abbrev pub closes_part : ℕ → ℕ → Part → List Move
closes_part t v p = closing t v p.pending p.fresh p.usable p.copy p.announced

abbrev pub settles_part : ℕ → ℕ → Part → List Move
settles_part t v p = map (write t v) p.stores ++ (closes_part t v p ++ map (load t v) p.reads)

-- ---- one event more

module _ (w : Words) (t n : ℕ) (k : Kind) where
  abbrev e : Event
  e = event_by t n k

  -- the event's own
  pub part_own : part_of (next w e) t (place k) ≡ part_with (changed (suc w.events) k (cell_of w t (place k))) ((next w e).usable t (place k)) ((next w e).copy t (place k))
  part_own = λ i. part_with (cell_own w t n k i) ((next w e).usable t (place k)) ((next w e).copy t (place k))

  -- another is as it was, but for what a lock spoils
  pub part_off : (u m : ℕ) → by changing u m e ≡ false → part_of (next w e) u m ≡ part_with (cell_of w u m) (not (locks_by u e) && w.usable u m) (w.copy u m)
  unfolding next
  part_off u m q = λ i. part_with (cell_off i) (usable_off i) (copy_off i)
    where
      cell_off : cell_of (next w e) u m ≡ cell_of w u m
      cell_off = cell_cases (λ c. c ≡ cell_of w u m) w t n k u m (λ o a b. absurd (false≢true (sym q ∙ unfold by of on in rw (is_true {b = is changing e} o, eq-eqb t u a, eq-eqb (place k) m b)))) (λ r. refl)

      usable_off : (next w e).usable u m ≡ not (locks_by u e) && w.usable u m
      usable_off = rw (by_none (A ∷ B ∷ []) changing u m e tt q, by_none (L ∷ []) changing u m e tt q)

      copy_off : (next w e).copy u m ≡ w.copy u m
      copy_off = rw (by_none (A ∷ B ∷ L ∷ []) changing u m e tt q)

-- the holds of a thread on a lock that the event is not about
pub depth_off : (w : Words) (e : Event) (t l : ℕ) → by gripping t l e ≡ false → (next w e).depth t l ≡ w.depth t l
unfolding next
depth_off w e t l q = ap (λ g. g.held) (grip_kept t l e (grip_in w t l) q)

depth_own : (w : Words) (t n : ℕ) (k : Kind) → T (is_ten (event_by t n k)) → T (is gripping (event_by t n k))
    → (w.depth t (place k) ≤ 1 + (next w (event_by t n k)).depth t (place k)) × ((next w (event_by t n k)).depth t (place k) ≤ 1 + w.depth t (place k))
unfolding next grip_after by is of on
depth_own w t n (Use _ _) o g = elim g [ ]
depth_own w t n (Assign _ _) o g = elim g [ ]
depth_own w t n (Load _ _) o g = elim g [ ]
depth_own w t n (Store _ _) o g = elim g [ ]
depth_own w t n (Read _ _) o g = elim g [ ]
depth_own w t n (Write _ _) o g = elim g [ ]
depth_own w t n (PrescientStore _ _) o g = elim g [ ]
depth_own w t n (PrescientAssign _ _) o g = elim g [ ]
depth_own w t n (Wait _) o g = elim o [ ]
depth_own w t n (Notify _ _) o g = elim o [ ]
depth_own w t n (Resume _) o g = elim o [ ]
depth_own w t n (Lock l) o g = rw (eq-eqb t t refl, eq-eqb l l refl) (omega arith, omega arith)
depth_own w t n (Unlock l) o g = rw (eq-eqb t t refl, eq-eqb l l refl) (less (w.depth t l))
  where
    less : (d : ℕ) → (d ≤ 1 + pred d) × (pred d ≤ 1 + d)
    less d = (omega arith, omega arith)

-- ---- what one event more changes, for each thread and variable and for each thread and lock

module _ (w : Words) (e : Event) where
  abbrev t : ℕ
  t = e.thread

  abbrev v : ℕ
  v = place e.kind

  -- R relates a part before the event and after it, and by how much they may differ: by one at the event's own thread and variable
  pub part_near : (R : ℕ → Part → Part → Type 0)
      → (T (is changing e) → R 1 (part_of w t v) (part_with (changed (suc w.events) e.kind (cell_of w t v)) ((next w e).usable t v) ((next w e).copy t v)))
      → ((x : ℕ) (c : Cell) (a b : Bool) (y : ℤ) → R x (part_with c b y) (part_with c (a && b) y))
      → (u m : ℕ) → R (cond (eqb t u && eqb v m) (cond (on_lock e) 0 1) 0) (part_of w u m) (part_of (next w e) u m)
  unfolding on_lock
  part_near R own off u m = cases (by changing u m e)
      (λ q. let b = subst T (sym q) tt in
      rw (← (by_thread changing u m e b), ← (by_loc changing u m e b), eq-eqb t t refl, eq-eqb v v refl, is_apart changing lock_letters e tt (by_is changing u m e b), part_own w t e.line e.kind)
      (own (by_is changing u m e b)))
      (λ q. rw (part_off w t e.line e.kind u m q) (off _ (cell_of w u m) (not (locks_by u e)) (w.usable u m) (w.copy u m)))

  -- the holds are changed by one at the event's own thread and lock
  pub depth_near : T (is_ten e) → (u l : ℕ)
      → (w.depth u l ≤ cond (eqb t u && eqb v l) (cond (on_lock e) 1 0) 0 + (next w e).depth u l) × ((next w e).depth u l ≤ cond (eqb t u && eqb v l) (cond (on_lock e) 1 0) 0 + w.depth u l)
  unfolding on_lock
  depth_near o u l = cases (by gripping u l e)
      (λ q. let b = subst T (sym q) tt in
      rw (← (by_thread gripping u l e b), ← (by_loc gripping u l e b), eq-eqb t t refl, eq-eqb v v refl, is_true {b = is lock_letters e} (is_among gripping lock_letters e tt (by_is gripping u l e b)))
      (depth_own w t e.line e.kind o (by_is gripping u l e b)))
      (λ q. rw (depth_off w e u l q) (omega arith, omega arith))
