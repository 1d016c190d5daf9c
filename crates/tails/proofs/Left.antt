-- How many events are left at least to finish: each legal event takes one off at most, and none are left where all is finished.
use Prim.Native.Nat.{ℕ, suc, ◌+◌, ◌≤◌, ◌<◌}
use native.Mathlib.Omega.{arith}
use mathlib.Core.Path.{◌≡◌, refl, ◌∙◌}
use mathlib.Core.Bool.{Bool, true, false, not, cond, ◌&&◌, ◌||◌, false≢true}
use mathlib.Core.List.{List, [], ◌∷◌, ◌++◌, map}
use lib.Dec.{T}
use lib.IntN.{ℤ}
use lib.ListN.{length, length-append, length-map, length-replicate}
use borrow.Author.Tests.{not-true, not-false, ltb-false, eq-eqb}
use Rattle.rules.specs.declared.Kind.{Kind}
use Rattle.rules.specs.declared.Kind.TheVariants.{Assign, Load, Store, Read, Write, Unlock, PrescientStore, PrescientAssign, Lock, Resume, Wait, Notify, Use}
use Rattle.rules.specs.declared.Event.{Event}
use Rattle.rules.specs.declared.Slot.{Slot}
use Rattle.rules.specs.declared.Counts.{Counts}
use Rattle.rules.specs.Events.{place, is, of, on, on_lock, locks}
use Rattle.rules.specs.Words.{by, locks_by}
use Rattle.rules.specs.Rules.{Words, some, none?, held, judge}
use Rattle.rules.specs.Memories.{below, each}
use Rattle.rules.specs.Ten.{is_ten}
use Rattle.rules.proofs.Laws.{or_false_left, or_false_right, some_none}
use Rattle.rules.proofs.Next.{others, next}
use Rattle.rules.proofs.Cells.{event_by, Cell, cell_of, slot_at, changed, changing}
use Rattle.rules.proofs.Rows.{Kept, row_of}
use Rattle.tails.specs.Tails.{unsettled, finished, move, write, load, closes, settles, frees, moves_of}
use Rattle.rules.proofs.Sums.{total}
use Rattle.tails.proofs.Totals.{sums, sums_near, sums_none, each_length}
use Rattle.tails.proofs.Parts.{Part, part_with, part_of, closing, part_near, depth_near}

-- ---- one thread and variable

-- what its assign asks for: B where it is owed; S and W where it is fresh, and A before them where the copy is not usable
abbrev pub assigns : Bool → Bool → Bool → ℕ
assigns pending fresh usable = cond pending 1 (cond fresh (cond usable 2 3) 0)

-- with a load for each outstanding read and a write for each outstanding store
unfoldable pub due_of : Part → ℕ
due_of p = length p.reads + length p.stores + assigns p.pending p.fresh p.usable

others_length : (ss : List Slot) → length ss ≤ suc (length (others ss))
others_length [] = omega arith
others_length (s ∷ ss) = omega arith

-- a copy that is spoiled takes nothing off
due_spoiled : (x : ℕ) (c : Cell) (a b : Bool) (y : ℤ) → due_of (part_with c b y) ≤ x + due_of (part_with c (a && b) y)
unfolding due_of
due_spoiled x c a b y = go c.pending c.fresh a b
  where
    go : (p f a b : Bool) → length c.reads + length c.stores + assigns p f b ≤ x + (length c.reads + length c.stores + assigns p f (a && b))
    go true f a b = omega arith
    go false true true b = omega arith
    go false true false true = omega arith
    go false true false false = omega arith
    go false false a b = omega arith

-- an event on V takes one off at most
due_own : (h : Counts) (w : Words) (t n : ℕ) (k : Kind) → T (is changing (event_by t n k)) → Kept h w t k
    → due_of (part_of w t (place k)) ≤ 1 + due_of (part_with (changed (suc w.events) k (cell_of w t (place k))) ((next w (event_by t n k)).usable t (place k)) ((next w (event_by t n k)).copy t (place k)))
unfolding due_of cell_of next by is of on locks_by locks
due_own h w t n (Use _ _) o r = elim o [ ]
due_own h w t n (Lock _) o r = elim o [ ]
due_own h w t n (Unlock _) o r = elim o [ ]
due_own h w t n (Wait _) o r = elim o [ ]
due_own h w t n (Notify _ _) o r = elim o [ ]
due_own h w t n (Resume _) o r = elim o [ ]
due_own h w t n (Assign v x) o r = rw (eq-eqb t t refl, eq-eqb v v refl) (go (length (w.reads t v) + length (w.stores t v)) (w.pending t v) (w.fresh t v) (w.usable t v))
  where
    go : (n : ℕ) (p f u : Bool) → n + assigns p f u ≤ 1 + (n + assigns p true true)
    go n true f u = omega arith
    go n false true true = omega arith
    go n false true false = omega arith
    go n false false u = omega arith
due_own h w t n (Load v x) o r = rw (r.0.not_pending, r.0.stored) (omega (arith, others_length (w.reads t v)))
due_own h w t n (Store v x) o r = rw (r.0.not_pending, r.0.fresh, r.0.usable, length-append (w.stores t v) (slot_at (w.last_assign t v) x ∷ [])) (omega arith)
due_own h w t n (Read v x) o r = rw (length-append (w.reads t v) (slot_at (suc w.events) x ∷ [])) (omega arith)
due_own h w t n (Write v x) o r = omega (arith, others_length (w.stores t v))
due_own h w t n (PrescientStore v x) o r = rw (r.not_pending, length-append (w.stores t v) (slot_at (suc w.events) x ∷ [])) (go (w.fresh t v) (w.usable t v))
  where
    go : (f u : Bool) → length (w.reads t v) + length (w.stores t v) + assigns false f u ≤ 1 + (length (w.reads t v) + (length (w.stores t v) + 1) + 1)
    go true true = omega arith
    go true false = omega arith
    go false u = omega arith
due_own h w t n (PrescientAssign v x) o r = rw r.0 (omega arith)

-- ---- all threads and variables, and the holds

-- an unlock for each hold
unfoldable pub left : Counts → Words → ℕ
left h w = sums h (λ t v. due_of (part_of w t v)) w.depth

-- a legal event of the ten kinds takes one off at most. (A Y gives up all holds at once.)
pub left_falls : (h : Counts) (w : Words) (e : Event) → T (is_ten e) → judge h w e ≡ 0 → left h w ≤ suc (left h (next w e))
unfolding left
left_falls h w e o p =
    one (on_lock e) (sums_near h e.thread (place e.kind) (cond (on_lock e) 0 1) (cond (on_lock e) 1 0) (λ t v. due_of (part_of w t v)) (λ t v. due_of (part_of (next w e) t v)) w.depth (next w e).depth
    (part_near w e (λ x a b. due_of a ≤ x + due_of b) (λ c. due_own h w e.thread e.line e.kind c (row_of h w e.thread e.line e.kind p)) due_spoiled)
    (λ t l. (depth_near w e o t l).0))
  where
    one : (b : Bool) {i j : ℕ} → i ≤ cond b 0 1 + cond b 1 0 + j → i ≤ suc j
    one true q = omega arith
    one false q = omega arith

-- ---- nothing is left where all is finished

none_length : (ss : List Slot) → none? ss ≡ true → length ss ≡ 0
none_length [] q = refl
none_length (s ∷ ss) q = absurd (false≢true q)

settled_due : (w : Words) (t v : ℕ) → unsettled w t v ≡ false → due_of (part_of w t v) ≡ 0
unfolding unsettled due_of cell_of
settled_due w t v q =
    let a = or_false_right (not (none? (w.reads t v))) (not (none? (w.stores t v)) || (w.fresh t v || w.pending t v)) q in
    let b = or_false_right (not (none? (w.stores t v))) (w.fresh t v || w.pending t v) a in
    rw (
      none_length (w.reads t v) (not-false (none? (w.reads t v)) (or_false_left (not (none? (w.reads t v))) (not (none? (w.stores t v)) || (w.fresh t v || w.pending t v)) q)),
      none_length (w.stores t v) (not-false (none? (w.stores t v)) (or_false_left (not (none? (w.stores t v))) (w.fresh t v || w.pending t v) a)),
      or_false_right (w.fresh t v) (w.pending t v) b,
      or_false_left (w.fresh t v) (w.pending t v) b,
    )

pub finished_left : (h : Counts) (w : Words) → finished h w ≡ true → left h w ≡ 0
unfolding finished left
finished_left h w q = sums_none h (λ t v. due_of (part_of w t v)) w.depth
    (λ t v a b. settled_due w t v (some_none h.variables (unsettled w t) (or_false_left (some h.variables (unsettled w t)) (some h.locks (held w t)) (thread t a)) v b))
    (λ t l a b. let z = ltb-false 0 (w.depth t l) (some_none h.locks (held w t) (or_false_right (some h.variables (unsettled w t)) (some h.locks (held w t)) (thread t a)) l b) in omega (arith, z))
  where
    thread : (t : ℕ) → t < h.threads → (some h.variables (unsettled w t) || some h.locks (held w t)) ≡ false
    thread t a = some_none h.threads (λ t. some h.variables (unsettled w t) || some h.locks (held w t)) (not-true _ q) t a

-- ---- the moves are as many as are left

closes_length : (w : Words) (t v : ℕ) → length (closes w t v) ≡ assigns (w.pending t v) (w.fresh t v) (w.usable t v)
unfolding closes
closes_length w t v = go (w.pending t v) (w.fresh t v) (w.usable t v)
  where
    go : (p f u : Bool) → length (closing t v p f u (w.copy t v) (w.announced t v)) ≡ assigns p f u
    go true f u = refl
    go false true true = refl
    go false true false = refl
    go false false u = refl

settles_length : (w : Words) (t v : ℕ) → length (settles w t v) ≡ due_of (part_of w t v)
unfolding settles due_of cell_of
settles_length w t v =
    omega (
      arith,
      length-append (map (write t v) (w.stores t v)) (closes w t v ++ map (load t v) (w.reads t v)),
      length-append (closes w t v) (map (load t v) (w.reads t v)),
      closes_length w t v,
      length-map (w.stores t v) (write t v),
      length-map (w.reads t v) (load t v),
    )

pub moves_length : (h : Counts) (w : Words) → length (moves_of h w) ≡ left h w
unfolding moves_of left sums
moves_length h w = each_length (λ t. each (settles w t) (below h.variables) ++ each (frees w t) (below h.locks)) (λ t. total h.variables (λ v. due_of (part_of w t v)) + total h.locks (w.depth t))
    (λ t. length-append (each (settles w t) (below h.variables)) (each (frees w t) (below h.locks))
    ∙ omega (arith, each_length (settles w t) (λ v. due_of (part_of w t v)) (settles_length w t) h.variables, each_length (frees w t) (w.depth t) (λ l. unfold frees in length-replicate (w.depth t l) (move t (Unlock l))) h.locks))
    h.threads
