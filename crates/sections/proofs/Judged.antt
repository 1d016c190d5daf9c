-- An event that the rules accept is one that the theory allows.
use Prim.Native.Nat.{ℕ, ◌≤◌, ◌<◌}
use native.Mathlib.Decide.{ℕ_discrete}
use native.Mathlib.Omega.{arith}
use mathlib.Core.Path.{◌≡◌, refl, sym, ap, subst, subst₂}
use mathlib.Core.Logic.{ite}
use mathlib.Core.Bool.{true, false, true≢false, false≢true}
use mathlib.Core.List.{List, [], ◌∷◌, map}
use lib.Dec.{ltb}
use lib.IntN.{ℤ}
use lib.ListN.{length}
use borrow.Author.Tests.{ltb-false}
use Rattle.rules.specs.declared.Kind.{Kind}
use Rattle.rules.specs.Events.{place, is, locks, unlocks, eq_z}
use Rattle.rules.specs.declared.Slot.{Slot}
use Rattle.rules.specs.Words.{first}
use Rattle.rules.specs.declared.Counts.{Counts}
use Rattle.rules.specs.Rules.{Words, none?, unwritten, judge}
use Rattle.rules.proofs.Laws.{some_none}
use Rattle.rules.proofs.Cells.{event_by}
use Rattle.rules.proofs.Rows.{LockRow, UnlockRow, lock_row, unlock_row_law, Kept, row_of}
use Rattle.rules.proofs.Signed.{eq_z_true}
use Rattle.serial.specs.Words as C
use Rattle.serial.specs.Events as E
use Rattle.sections.proofs.Viewed.{Viewed, mem, lock, unlock, idle, on_variable}
use Rattle.sections.proofs.Cells.{cell_of, slotted, valued}

none : (ss : List Slot) → none? ss ≡ true → map valued ss ≡ []
none [] p = refl
none (s ∷ ss) p = absurd (false≢true p)

-- as N's test counts them, with V not owed
none_counted : (ss : List Slot) → ltb 0 (length ss) ≡ false → map valued ss ≡ []
none_counted [] p = refl
none_counted (s ∷ ss) p = absurd (let h = ltb-false 0 (length (s ∷ ss)) p in omega arith)

module _ (c : Counts) (w : Words) (u : ℕ) where
  own : (κ : E.Kind) (v : ℕ) (x : ℤ) → Kept c w u (on_variable κ v x) → C.Allowed (C.own κ x) (cell_of w u v) (w.main v)
  unfolding cell_of
  own E.Use v x r = (r.0, eq_z_true x (w.copy u v) r.1)
  own E.Assign v x r = tt
  own E.Load v x r = go (w.reads u v) r.0.partner r.0.not_pending r.0.stored (none (w.stores u v) r.0.written) (ltb-false (first (w.reads u v)).position (w.last_write u v) r.0.after) r.1
    where
      go : (ss : List Slot) → none? ss ≡ false → w.pending u v ≡ false → w.fresh u v ≡ false → map valued (w.stores u v) ≡ [] → w.last_write u v ≤ (first ss).position → eq_z x (first ss).value ≡ true
          → (r : C.Slot ℤ) × (rs : List (C.Slot ℤ)) × (map slotted ss ≡ r ∷ rs) × (w.pending u v ≡ false) × (w.fresh u v ≡ false) × (map valued (w.stores u v) ≡ []) × (w.last_write u v ≤ r.position) × (x ≡ r.value)
      go [] a ow fr st wr q = absurd (true≢false a)
      go (s ∷ ss) a ow fr st wr q = (slotted s, map slotted ss, refl, ow, fr, st, wr, eq_z_true x s.value q)
  own E.Store v x r = (r.0.not_pending, r.0.fresh, r.0.usable, eq_z_true x (w.copy u v) r.1)
  own E.Read v x r = eq_z_true x (w.main v) r.1
  own E.Write v x r = go (w.stores u v) r.0 r.1
    where
      go : (ss : List Slot) → none? ss ≡ false → eq_z x (first ss).value ≡ true → (rest : List ℤ) × (map valued ss ≡ x ∷ rest)
      go [] a b = absurd (true≢false a)
      go (s ∷ ss) a b = (map valued ss, ap (λ y. y ∷ map valued ss) (sym (eq_z_true x s.value b)))
  own E.PrescientStore v x r = r.not_pending
  own E.PrescientAssign v x r = (r.0, eq_z_true x (w.announced u v) r.1)

  -- 13, at K and C: nothing is owed
  own_lock : (l : ℕ) → LockRow c w u l → (v : ℕ) → v < c.variables → C.Allowed C.locks (cell_of w u v) (w.main v)
  unfolding cell_of
  own_lock l r v h = some_none c.variables (λ v. w.pending u v) r.not_pending v h

  -- 15 and 16, at N and Y: nothing is fresh, and with V not owed all is written
  own_unlock : (l : ℕ) → UnlockRow c w u l → (v : ℕ) → v < c.variables → C.Allowed C.unlocks (cell_of w u v) (w.main v)
  unfolding cell_of unwritten
  own_unlock l r v h =
      (some_none c.variables (λ v. w.fresh u v) r.stored v h, λ o. none_counted (w.stores u v) (rw o at (some_none c.variables (λ v. unwritten w u v) r.written v h)))

-- an own act is allowed at the thread and the variable that see it as theirs
at_own : (w : Words) (κ : E.Kind) (u v' t v : ℕ) (x : ℤ) → C.Allowed (C.own κ x) (cell_of w u v') (w.main v') → C.Allowed (C.act t v (E.mem κ u v' x)) (cell_of w t v) (w.main v)
at_own w κ u v' t v x a = go (ℕ_discrete u t) (ℕ_discrete v' v)
  where
    go : (d : Dec (u ≡ t)) (d' : Dec (v' ≡ v)) → C.Allowed (C.seen_by d (ite {C = C.Touch ℤ} d' (C.at κ x) C.elsewhere)) (cell_of w t v) (w.main v)
    go (yes p) (yes q) = subst₂ (λ i j. C.Allowed (C.own κ x) (cell_of w i j) (w.main j)) p q a
    go (yes p) (no q) = tt
    go (no p) (yes q) = tt
    go (no p) (no q) = tt

by_own : (w : Words) (b : C.Act ℤ) (u t v : ℕ) → C.Allowed b (cell_of w u v) (w.main v) → C.Allowed (ite {C = C.Act ℤ} (ℕ_discrete u t) b C.nothing) (cell_of w t v) (w.main v)
by_own w b u t v a = go (ℕ_discrete u t)
  where
    go : (d : Dec (u ≡ t)) → C.Allowed (ite {C = C.Act ℤ} d b C.nothing) (cell_of w t v) (w.main v)
    go (yes q) = subst (λ i. C.Allowed b (cell_of w i v) (w.main v)) q a
    go (no q) = tt

pub allowed : (c : Counts) (w : Words) (u ln : ℕ) {k : Kind} {x : E.Event ℤ} → Viewed u k x → judge c w (event_by u ln k) ≡ 0 → (t v : ℕ) → v < c.variables → C.Allowed (C.act t v x) (cell_of w t v) (w.main v)
unfolding locks unlocks is
allowed c w u ln (mem κ v' x) p t v h = at_own w κ u v' t v x (own c w u κ v' x (row_of c w u ln (on_variable κ v' x) p))
allowed c w u ln {k} (lock j a i) p t v h = by_own w C.locks u t v (own_lock c w u (place k) (lock_row c w (event_by u ln k) p a) v h)
allowed c w u ln {k} (unlock j a i) p t v h = by_own w C.unlocks u t v (own_unlock c w u (place k) (unlock_row_law c w (event_by u ln k) p a) v h)
allowed c w u ln (idle a) p t v h = tt
