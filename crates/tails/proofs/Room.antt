-- How long a tail can be: as many events as there are before it, and two for each thread and variable.
use Prim.Native.Nat.{ℕ, suc, ◌+◌, ◌*◌, ◌≤◌, ◌<◌}
use native.Mathlib.Omega.{arith}
use native.Mathlib.Nat.{mul-le-mul, mul-le-mul_right}
use mathlib.Core.Path.{◌≡◌, refl, sym, subst}
use mathlib.Core.Bool.{Bool, true, false, cond}
use mathlib.Core.List.{List, [], ◌∷◌, map}
use mathlib.Core.Option.{some as found}
use lib.Dec.{T}
use lib.ListN.{length, length-append}
use Rattle.rules.specs.declared.Kind.{Kind}
use Rattle.rules.specs.declared.Kind.TheVariants.{Assign, Load, Store, Read, Write, PrescientStore, PrescientAssign, Lock, Unlock, Resume, Wait, Notify, Use}
use Rattle.rules.specs.declared.Event.{Event}
use Rattle.rules.specs.declared.Slot.{Slot}
use Rattle.rules.specs.declared.Counts.{Counts}
use Rattle.rules.specs.Events.{place, is, on_lock}
use Rattle.rules.specs.Limits.{Limits, UpToFull, allowed}
use Rattle.rules.specs.Words.{latest, letter_in, count, in_order, reads, stores, fresh, pending, grip, depth}
use Rattle.rules.specs.Rules.{Words, words_of, legal, Accepted}
use Rattle.rules.specs.Ten.{AllTen}
use Rattle.rules.proofs.Bounds.{declares}
use Rattle.rules.proofs.Laws.{legal_row, legal_before, accepted_legal, few}
use Rattle.rules.proofs.Next.{others, next}
use Rattle.rules.proofs.Simulation.{legal_next}
use Rattle.rules.proofs.Cells.{event_by, cell_of, slot_at, changed, changing}
use Rattle.rules.proofs.Rows.{Kept, row_of}
use Rattle.tails.specs.Tails.{tail_after}
use Rattle.rules.proofs.Sums.{total_most}
use Rattle.tails.proofs.Totals.{sums, sums_near, sums_none}
use Rattle.tails.proofs.Parts.{Part, part_with, part_of, part_near, depth_near}
use Rattle.tails.proofs.Left.{assigns, due_of, left}
use Rattle.tails.proofs.Tails.{tail_length}

-- ---- what each event adds one to at most: reads and stores outstanding, assigns fresh and not owed, holds

unfoldable base_of : Part → ℕ
base_of p = length p.reads + length p.stores + cond p.pending 0 (cond p.fresh 1 0)

others_fewer : (ss : List Slot) → length (others ss) ≤ length ss
others_fewer [] = omega arith
others_fewer (s ∷ ss) = omega arith

base_own : (h : Counts) (w : Words) (t n : ℕ) (k : Kind) → T (is changing (event_by t n k)) → Kept h w t k
    → base_of (part_with (changed (suc w.events) k (cell_of w t (place k))) ((next w (event_by t n k)).usable t (place k)) ((next w (event_by t n k)).copy t (place k))) ≤ 1 + base_of (part_of w t (place k))
unfolding base_of cell_of is
base_own h w t n (Use _ _) o r = elim o [ ]
base_own h w t n (Lock _) o r = elim o [ ]
base_own h w t n (Unlock _) o r = elim o [ ]
base_own h w t n (Wait _) o r = elim o [ ]
base_own h w t n (Notify _ _) o r = elim o [ ]
base_own h w t n (Resume _) o r = elim o [ ]
base_own h w t n (Assign v x) o r = go (length (w.reads t v) + length (w.stores t v)) (w.pending t v) (w.fresh t v)
  where
    go : (n : ℕ) (p f : Bool) → n + cond p 0 1 ≤ 1 + (n + cond p 0 (cond f 1 0))
    go n true f = omega arith
    go n false true = omega arith
    go n false false = omega arith
base_own h w t n (Load v x) o r = omega (arith, others_fewer (w.reads t v))
base_own h w t n (Store v x) o r = rw (r.0.not_pending, r.0.fresh, length-append (w.stores t v) (slot_at (w.last_assign t v) x ∷ [])) (omega arith)
base_own h w t n (Read v x) o r = rw (length-append (w.reads t v) (slot_at (suc w.events) x ∷ [])) (omega arith)
base_own h w t n (Write v x) o r = omega (arith, others_fewer (w.stores t v))
base_own h w t n (PrescientStore v x) o r = rw (length-append (w.stores t v) (slot_at (suc w.events) x ∷ [])) (omega arith)
base_own h w t n (PrescientAssign v x) o r = omega arith

unfoldable base : Counts → Words → ℕ
base h w = sums h (λ t v. base_of (part_of w t v)) w.depth

base_rises : (h : Counts) (es : List Event) → AllTen (map found es) → T (legal h es) → base h (words_of es) ≤ length es
unfolding base base_of
base_rises h [] o l = omega (arith, sums_none h (λ t v. base_of (part_of (words_of []) t v)) (words_of []).depth (λ t v a b. unfold cell_of words_of reads stores fresh pending count in_order latest letter_in in refl) (λ t v a b. unfold words_of depth grip in refl))
base_rises h (e ∷ es) o l =
    let w = words_of es in
    let c = legal_before h e es l in
    let p = row_of h w e.thread e.line e.kind (legal_row h e es l) in
    subst (λ w. base h w ≤ suc (length es)) (sym (legal_next h e es c))
    (one (on_lock e) (sums_near h e.thread (place e.kind) (cond (on_lock e) 0 1) (cond (on_lock e) 1 0) (λ t v. base_of (part_of (next w e) t v)) (λ t v. base_of (part_of w t v)) (next w e).depth w.depth
    (part_near w e (λ x a b. base_of b ≤ x + base_of a) (λ k. base_own h w e.thread e.line e.kind k p) (λ x c a b y. omega arith))
    (λ t l. (depth_near w e (subst T (sym o.0) tt) t l).1)) (base_rises h es o.1 c))
  where
    one : (b : Bool) {i j : ℕ} → i ≤ cond b 0 1 + cond b 1 0 + j → j ≤ length es → i ≤ suc (length es)
    one true p q = omega arith
    one false p q = omega arith

-- ---- a thread and variable needs two events more at most

due_base : (p : Part) → due_of p ≤ base_of p + 2
unfolding due_of base_of
due_base p = go (length p.reads + length p.stores) p.pending p.fresh p.usable
  where
    go : (n : ℕ) (p f u : Bool) → n + assigns p f u ≤ n + cond p 0 (cond f 1 0) + 2
    go n true f u = omega arith
    go n false true true = omega arith
    go n false true false = omega arith
    go n false false u = omega arith

left_base : (h : Counts) (w : Words) → left h w ≤ base h w + h.threads * (h.variables * 2)
unfolding left base sums
left_base h w = total_most h.threads (h.variables * 2) _ _ (λ t q. omega (arith, total_most h.variables 2 (λ v. due_of (part_of w t v)) (λ v. base_of (part_of w t v)) (λ v r. due_base (part_of w t v))))

-- A tail has at most as many events as there are before it, and two for each thread and variable.
pub tail_most : (h : Counts) (es : List Event) → AllTen (map found es) → T (legal h es) → length (tail_after h es) ≤ length es + h.threads * (h.variables * 2)
tail_most h es o l = omega (arith, tail_length h es, left_base h (words_of es), base_rises h es o l)

-- the same of accepted papers, by the limits of the course
pub tail_within : (m : Limits) (h : Counts) (es : List Event) → 0 < m.excess → allowed m h ≡ true → AllTen (map found es) → T (Accepted m h es) → length (tail_after h es) ≤ m.events + m.threads * (m.variables * 2)
tail_within m h es x a o p =
    let d = declares m h a in
    omega (arith, tail_most h es o (accepted_legal m h es x p), few m h es x p, mul-le-mul {n₁ = h.threads} {n₂ = m.threads} d.threads (mul-le-mul_right 2 d.variables))

-- The tail of an accepted paper has at most 2,256 events.
pub tail_room : (m : Limits) (h : Counts) (es : List Event) → UpToFull m → allowed m h ≡ true → AllTen (map found es) → T (Accepted m h es) → length (tail_after h es) ≤ 2256
tail_room m h es u a o p = omega (arith, tail_within m h es u.excess a o p, u.events, mul-le-mul {n₁ = m.threads} {n₂ = 8} u.threads (mul-le-mul_right 2 u.variables))
