-- What the row of each kind asks, in one statement for each kind: an event breaks no rule of its row exactly where it holds.
use Prim.Native.Nat.{ℕ}
use mathlib.Core.Path.{◌≡◌, refl, sym, subst}
use mathlib.Core.Bool.{Bool, true, false, not, ◌&&◌, or-false}
use mathlib.Core.List.{List, [], ◌∷◌}
use lib.Dec.{T, eqb, ltb, leb}
use lib.IntN.{ℤ}
use lib.ListN.{length}
use borrow.Author.Tests.{not-false}
use Rattle.rules.specs.declared.Kind.{Kind}
use Rattle.rules.specs.declared.Kind.TheVariants.{Use, Assign, Load, Store, Read, Write, Lock, Unlock, PrescientStore, PrescientAssign, Wait, Notify, Resume}
use Rattle.rules.specs.declared.Event.{Event}
use Rattle.rules.specs.declared.Counts.{Counts}
use Rattle.rules.specs.Events.{B, C, F, K, L, N, P, U, W, Y, letter, among, is, on_lock, locks, unlocks, eq_z, lock_letters}
use Rattle.rules.specs.Limits.{most, volatile}
use Rattle.rules.specs.Words.{first, accesses}
use Rattle.rules.specs.Rules.{Words, some, none?, loc, held, no_partner, lock_taken, not_held, pending_bars, not_fresh, not_stored, read_before_write, unwritten, not_written, not_usable, differs, eight_already, dead_read, wrong_neighbour, use_barred, write_barred, volatile_order, prescient_volatile, of_waiting, not_notified, breaks, rows, row_in, first_broken, judge}
use Rattle.rules.proofs.Laws.{Unbroken, row_kept, letter_kept, lock_free, unlock_held, accepts, or_false_left, or_false_right, other_false, all_of, each_among, is_among}
use Rattle.rules.proofs.Cells.{event_by}

-- L: a read is outstanding, V is not owed, nothing is fresh or to be written, and the read came after the last write
pub record LoadRow (w : Words) (t v : ℕ) : Type 0 where
  pub partner : none? (w.reads t v) ≡ false
  pub not_pending : w.pending t v ≡ false
  pub stored : w.fresh t v ≡ false
  pub written : none? (w.stores t v) ≡ true
  pub after : ltb (first (w.reads t v)).position (w.last_write t v) ≡ false

-- S: V is not owed, its copy is fresh and usable, and a store more has room
pub record StoreRow (w : Words) (t v : ℕ) : Type 0 where
  pub not_pending : w.pending t v ≡ false
  pub fresh : w.fresh t v ≡ true
  pub usable : w.usable t v ≡ true
  pub room : leb most (length (w.stores t v)) ≡ false

-- R: a read more has room, and is not dead
pub record ReadRow (w : Words) (t v : ℕ) (x : ℤ) : Type 0 where
  pub room : leb most (length (w.reads t v)) ≡ false
  pub live : dead_read w (event_by t 0 (Read v x)) ≡ false

-- K and C: no other thread holds the lock, and T owes nothing
pub record LockRow (h : Counts) (w : Words) (t l : ℕ) : Type 0 where
  pub free : some h.threads (λ u. not (eqb u t) && held w u l) ≡ false
  pub not_pending : some h.variables (λ v. w.pending t v) ≡ false

-- N and Y: T holds the lock, and has stored and written its assigns
pub record UnlockRow (h : Counts) (w : Words) (t l : ℕ) : Type 0 where
  pub held : held w t l ≡ true
  pub stored : some h.variables (λ v. w.fresh t v) ≡ false
  pub written : some h.variables (λ v. unwritten w t v) ≡ false

-- P: V is not owed, a store more has room, and it leaves no read dead
pub record PrescientStoreRow (w : Words) (t v : ℕ) (x : ℤ) : Type 0 where
  pub not_pending : w.pending t v ≡ false
  pub room : leb most (length (w.stores t v)) ≡ false
  pub live : dead_read w (event_by t 0 (PrescientStore v x)) ≡ false

module _ (h : Counts) (w : Words) (e : Event) (p : judge h w e ≡ 0) where
  -- an event that locks and breaks no rule of its row has the one, and an event that unlocks the other
  pub lock_row : T (locks e) → LockRow h w e.thread (loc e)
  unfolding row_in rows breaks pending_bars locks
  lock_row o = record { free = lock_free h w e p o; not_pending = other_false (is (K ∷ C ∷ []) e) _ (or_false_left (is (K ∷ C ∷ []) e && _) _ (letter_kept 13 (K ∷ C ∷ []) h w e p tt o)) o }

  pub unlock_row_law : T (unlocks e) → UnlockRow h w e.thread (loc e)
  unfolding row_in rows breaks not_stored not_written unlocks
  unlock_row_law o = record {
    held = unlock_held h w e p (is_among (N ∷ Y ∷ []) (N ∷ Y ∷ F ∷ []) e tt o);
    stored = other_false (is (N ∷ Y ∷ []) e) _ (or_false_right (is (L ∷ []) e && _) _ (letter_kept 15 (N ∷ Y ∷ []) h w e p tt o)) o;
    written = other_false (is (N ∷ Y ∷ []) e) _ (or_false_right (is (L ∷ []) e && _) _ (letter_kept 16 (N ∷ Y ∷ []) h w e p tt o)) o;
  }

-- what an event of thread t keeps that breaks no rule of its row
abbrev pub Kept : Counts → Words → ℕ → Kind → Type 0
Kept h w t (Use v x) = (w.usable t v ≡ true) × (eq_z x (w.copy t v) ≡ true)
Kept h w t (Assign v x) = dead_read w (event_by t 0 (Assign v x)) ≡ false
Kept h w t (Load v x) = LoadRow w t v × (eq_z x (first (w.reads t v)).value ≡ true)
Kept h w t (Store v x) = StoreRow w t v × (eq_z x (w.copy t v) ≡ true)
Kept h w t (Read v x) = ReadRow w t v x × (eq_z x (w.main v) ≡ true)
Kept h w t (Write v x) = (none? (w.stores t v) ≡ false) × (eq_z x (first (w.stores t v)).value ≡ true)
Kept h w t (Lock l) = LockRow h w t l
Kept h w t (Unlock l) = UnlockRow h w t l
Kept h w t (Wait l) = UnlockRow h w t l
Kept h w t (Notify l i) = held w t l ≡ true
Kept h w t (Resume l) = LockRow h w t l
Kept h w t (PrescientStore v x) = PrescientStoreRow w t v x
Kept h w t (PrescientAssign v x) = (w.pending t v ≡ true) × (eq_z x (w.announced t v) ≡ true)

-- an event that breaks no rule of its row has it
pub row_of : (h : Counts) (w : Words) (t n : ℕ) (k : Kind) → judge h w (event_by t n k) ≡ 0 → Kept h w t k
unfolding row_in rows breaks no_partner lock_taken not_held pending_bars not_fresh not_stored read_before_write not_written not_usable differs eight_already dead_read is locks unlocks
row_of h w t n (Use v x) p = (not-false _ (row_kept 17 h w (event_by t n (Use v x)) p tt), not-false _ (simp or-false at (row_kept 18 h w (event_by t n (Use v x)) p tt)))
row_of h w t n (Assign v x) p = row_kept 23 h w (event_by t n (Assign v x)) p tt
row_of h w t n (Load v x) p = (
  record {
    partner = simp or-false at (row_kept 10 h w (event_by t n (Load v x)) p tt);
    not_pending = row_kept 13 h w (event_by t n (Load v x)) p tt;
    stored = simp or-false at (row_kept 15 h w (event_by t n (Load v x)) p tt);
    written = not-false _ (or_false_left (not (none? (w.stores t v))) _ (simp or-false at (row_kept 16 h w (event_by t n (Load v x)) p tt)));
    after = or_false_right (not (none? (w.stores t v))) _ (simp or-false at (row_kept 16 h w (event_by t n (Load v x)) p tt));
  },
  not-false _ (simp or-false at (row_kept 18 h w (event_by t n (Load v x)) p tt)),
)
row_of h w t n (Store v x) p = (
  record {
    not_pending = row_kept 13 h w (event_by t n (Store v x)) p tt;
    fresh = not-false _ (row_kept 14 h w (event_by t n (Store v x)) p tt);
    usable = not-false _ (row_kept 17 h w (event_by t n (Store v x)) p tt);
    room = row_kept 19 h w (event_by t n (Store v x)) p tt;
  },
  not-false _ (simp or-false at (row_kept 18 h w (event_by t n (Store v x)) p tt)),
)
row_of h w t n (Read v x) p = (
  record {
    room = simp or-false at (row_kept 19 h w (event_by t n (Read v x)) p tt);
    live = row_kept 23 h w (event_by t n (Read v x)) p tt;
  },
  not-false _ (simp or-false at (row_kept 18 h w (event_by t n (Read v x)) p tt)),
)
row_of h w t n (Write v x) p = (simp or-false at (row_kept 10 h w (event_by t n (Write v x)) p tt), not-false _ (simp or-false at (row_kept 18 h w (event_by t n (Write v x)) p tt)))
row_of h w t n (Lock l) p = lock_row h w (event_by t n (Lock l)) p tt
row_of h w t n (Unlock l) p = unlock_row_law h w (event_by t n (Unlock l)) p tt
row_of h w t n (Wait l) p = unlock_row_law h w (event_by t n (Wait l)) p tt
row_of h w t n (Notify l i) p = unlock_held h w (event_by t n (Notify l i)) p tt
row_of h w t n (Resume l) p = lock_row h w (event_by t n (Resume l)) p tt
row_of h w t n (PrescientStore v x) p = record { not_pending = row_kept 13 h w (event_by t n (PrescientStore v x)) p tt; room = row_kept 19 h w (event_by t n (PrescientStore v x)) p tt; live = row_kept 23 h w (event_by t n (PrescientStore v x)) p tt }
row_of h w t n (PrescientAssign v x) p = (not-false _ (row_kept 10 h w (event_by t n (PrescientAssign v x)) p tt), not-false _ (row_kept 18 h w (event_by t n (PrescientAssign v x)) p tt))

-- the rules that lead the rows ask nothing more: T does not wait, or need not; an F is for a thread to be notified, a C of one that was; and V is not
-- volatile, where the event is on a variable
pub record Led (h : Counts) (w : Words) (e : Event) : Type 0 where
  pub idle : of_waiting h w e ≡ false
  pub told : not_notified w e ≡ false
  pub plain : (not (on_lock e) && volatile h (loc e)) ≡ false

module _ (h : Counts) (w : Words) (e : Event) (q : Led h w e) where
  -- what is asked of events on a volatile variable alone
  off : (ks : List ℕ) → T (all_of (λ k. not (among lock_letters k)) ks) → (x : Bool) → (volatile h (loc e) ≡ false → x ≡ false) → (is ks e && x) ≡ false
  unfolding on_lock is
  off ks a x f = go (is ks e) refl
    where
      go : (b : Bool) → is ks e ≡ b → (b && x) ≡ false
      go true p = f (other_false (not (on_lock e)) _ q.plain (each_among (λ k. not (among lock_letters k)) ks (letter e.kind) a (subst T (sym p) tt)))
      go false p = refl

  use_off : use_barred h w e ≡ false
  unfolding use_barred
  use_off = off (U ∷ []) tt _ (λ p. rw p)

  write_off : write_barred h w e ≡ false
  unfolding write_barred
  write_off = off (W ∷ []) tt _ (λ p. rw p)

  led : (ns : List ℕ) → Unbroken ns h w e → first_broken (29 ∷ 30 ∷ 26 ∷ 27 ∷ 28 ∷ ns) h w e ≡ 0
  unfolding breaks wrong_neighbour volatile_order prescient_volatile
  led ns u = accepts (29 ∷ 30 ∷ 26 ∷ 27 ∷ 28 ∷ ns) h w e (q.idle, (q.told, (off accesses tt _ (λ p. rw p), (rw (use_off, write_off), (off (P ∷ B ∷ []) tt _ (λ p. p), u)))))

-- and what has it breaks none
pub allowed_by : (h : Counts) (w : Words) (t n : ℕ) (k : Kind) → Led h w (event_by t n k) → Kept h w t k → judge h w (event_by t n k) ≡ 0
unfolding judge row_in rows breaks no_partner lock_taken not_held pending_bars not_fresh not_stored read_before_write not_written not_usable differs eight_already dead_read is locks unlocks
allowed_by h w t n (Use v x) q r = led h w (event_by t n (Use v x)) q (17 ∷ 18 ∷ []) (rw r.0, (rw r.1, tt))
allowed_by h w t n (Assign v x) q r = led h w (event_by t n (Assign v x)) q (23 ∷ []) (r, tt)
allowed_by h w t n (Load v x) q r = led h w (event_by t n (Load v x)) q (10 ∷ 13 ∷ 15 ∷ 16 ∷ 18 ∷ []) (rw r.0.partner, (r.0.not_pending, (rw r.0.stored, (rw (r.0.written, r.0.after), (rw r.1, tt)))))
allowed_by h w t n (Store v x) q r = led h w (event_by t n (Store v x)) q (13 ∷ 14 ∷ 17 ∷ 18 ∷ 19 ∷ []) (r.0.not_pending, (rw r.0.fresh, (rw r.0.usable, (rw r.1, (r.0.room, tt)))))
allowed_by h w t n (Read v x) q r = led h w (event_by t n (Read v x)) q (18 ∷ 19 ∷ 23 ∷ []) (rw r.1, (rw r.0.room, (r.0.live, tt)))
allowed_by h w t n (Write v x) q r = led h w (event_by t n (Write v x)) q (10 ∷ 18 ∷ []) (rw r.0, (rw r.1, tt))
allowed_by h w t n (Lock l) q r = led h w (event_by t n (Lock l)) q (11 ∷ 13 ∷ []) (r.free, (rw r.not_pending, tt))
allowed_by h w t n (Unlock l) q r = led h w (event_by t n (Unlock l)) q (12 ∷ 15 ∷ 16 ∷ []) (rw r.held, (r.stored, (r.written, tt)))
allowed_by h w t n (Wait l) q r = led h w (event_by t n (Wait l)) q (12 ∷ 15 ∷ 16 ∷ []) (rw r.held, (r.stored, (r.written, tt)))
allowed_by h w t n (Notify l i) q r = led h w (event_by t n (Notify l i)) q (12 ∷ []) (rw r, tt)
allowed_by h w t n (Resume l) q r = led h w (event_by t n (Resume l)) q (11 ∷ 13 ∷ []) (r.free, (rw r.not_pending, tt))
allowed_by h w t n (PrescientStore v x) q r = led h w (event_by t n (PrescientStore v x)) q (13 ∷ 19 ∷ 23 ∷ []) (r.not_pending, (r.room, (r.live, tt)))
allowed_by h w t n (PrescientAssign v x) q r = led h w (event_by t n (PrescientAssign v x)) q (10 ∷ 18 ∷ []) (rw r.0, (rw r.1, tt))
