-- Document 02 (c): a tail that finishes the paper. A tail for a paper with a `V` line, or with Y, F or C, is refused with 24: what is proved here is of
-- papers without them, and a tail has none of them.
use Rattle.std.specs.Prelude.{ℕ, suc, ◌≤◌, ◌≡◌, Bool, true, not, cond, ◌||◌, T, length, replicate}
use mathlib.Core.List.{List, [], ◌∷◌, ◌++◌, map, reverse_aux}
use Rattle.std.proofs.Math.Option.{some as found}
use Rattle.rules.specs.declared.Kind.{Kind}
use Rattle.rules.specs.declared.Kind.TheVariants.{Assign, Load, Store, Write, Unlock, PrescientAssign}
use Rattle.rules.specs.declared.Event.{Event}
use Rattle.rules.specs.declared.Slot.{Slot}
use Rattle.rules.specs.declared.Counts.{Counts}
use Rattle.rules.specs.Limits.{some, line_after}
use Rattle.rules.specs.Rules.{Words, words_of, none?, held, legal}
use Rattle.rules.specs.Memories.{below, each, from}
use Rattle.rules.specs.Ten.{AllTen}

-- T has something outstanding, fresh or owed on V
unfoldable pub unsettled : Words → ℕ → ℕ → Bool
unsettled w t v = not (none? (w.reads t v)) || (not (none? (w.stores t v)) || (w.fresh t v || w.pending t v))

-- Nothing is outstanding, fresh, owed or held.
unfoldable pub finished : Counts → Words → Bool
finished h w = not (some h.threads (λ t. some h.variables (λ v. unsettled w t v) || some h.locks (λ l. held w t l)))

-- an event without its line
pub record Move : Type 0 where
  pub thread : ℕ
  pub kind : Kind

abbrev pub move : ℕ → Kind → Move
move t k = record { thread = t; kind = k }

-- its event, on line n
abbrev pub on_line : ℕ → Move → Event
on_line n m = record { thread = m.thread; line = n; kind = m.kind }

-- the events of these moves, one on each line from n
unfoldable pub numbered : ℕ → List Move → List Event
numbered n [] = []
numbered n (m ∷ ms) = on_line n m ∷ numbered (suc n) ms

-- the write of an outstanding store, and the load of an outstanding read, of T on V
abbrev pub write : ℕ → ℕ → Slot → Move
write t v s = move t (Write v s.value)

abbrev pub load : ℕ → ℕ → Slot → Move
load t v s = move t (Load v s.value)

-- T's assign on V: an owed one is made; a fresh one is stored and written, and before that assigned again where the copy is not usable
unfoldable pub closes : Words → ℕ → ℕ → List Move
closes w t v =
    cond (w.pending t v) (move t (PrescientAssign v (w.announced t v)) ∷ [])
    (cond (w.fresh t v) (cond (w.usable t v) [] (move t (Assign v (w.copy t v)) ∷ []) ++ (move t (Store v (w.copy t v)) ∷ move t (Write v (w.copy t v)) ∷ [])) [])

-- V for T: the outstanding stores are written, the assign is closed, the outstanding reads are loaded; the oldest first
unfoldable pub settles : Words → ℕ → ℕ → List Move
settles w t v = map (write t v) (w.stores t v) ++ (closes w t v ++ map (load t v) (w.reads t v))

-- T gives up each hold on the lock l
unfoldable pub frees : Words → ℕ → ℕ → List Move
frees w t l = replicate (w.depth t l) (move t (Unlock l))

-- Give events after which nothing is outstanding, fresh, owed or held: thread by thread, its variables and then its locks, all rising.
unfoldable pub moves_of : Counts → Words → List Move
moves_of h w = each (λ t. each (settles w t) (below h.variables) ++ each (frees w t) (below h.locks)) (below h.threads)

-- A record we give has the line its event would have in a paper.
unfoldable pub tail_after : Counts → List Event → List Event
tail_after h es = numbered (line_after h (length es)) (moves_of h (words_of es))

-- The tail is of the ten kinds (a Y would give up all holds at once, and leave its thread waiting), legal behind the events es, the latest first, and
-- leaves nothing outstanding, fresh, owed or held.
pub record Finishes (h : Counts) (es tail : List Event) : Type 0 where
  pub ten : AllTen (map found tail)
  pub follows : T (legal h (reverse_aux tail es))
  pub done : finished h (words_of (reverse_aux tail es)) ≡ true

-- Which of the shortest it is may differ; each is legal, leaves nothing outstanding, fresh, owed or held, and no such tail has fewer events. A record we
-- give has the line its event would have in a paper.
pub record Shortest (h : Counts) (es tail : List Event) : Type 0 where
  pub finishes : Finishes h es tail
  pub least : (other : List Event) → Finishes h es other → length tail ≤ length other
  pub lines : map (λ (e : Event). e.line) tail ≡ from (λ n. n) (line_after h (length es)) (length tail)
