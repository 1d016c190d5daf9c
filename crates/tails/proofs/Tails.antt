-- Document 02 (c): the tail is legal, finishes the paper, and no tail that does has fewer events.
use Prim.Native.Nat.{ℕ, suc, ◌+◌, ◌≤◌, ◌<◌}
use native.Mathlib.Omega.{arith}
use mathlib.Core.Path.{◌≡◌, refl, sym, ap, ◌∙◌, subst}
use mathlib.Core.Bool.{false}
use mathlib.Core.List.{List, [], ◌∷◌, map, reverse_aux}
use mathlib.Core.Option.{some as found}
use lib.Dec.{T}
use lib.ListN.{length}
use Rattle.rules.specs.declared.Event.{Event}
use Rattle.rules.specs.declared.Counts.{Counts}
use Rattle.rules.specs.Memories.{from}
use Rattle.rules.specs.Limits.{Limits, full, any_volatile, line_after}
use Rattle.rules.specs.Rules.{words_of, legal, Accepted}
use Rattle.rules.specs.Ten.{AllTen}
use Rattle.rules.proofs.Laws.{legal_row, legal_before, accepted_legal, legal_accepted}
use Rattle.rules.proofs.Simulation.{legal_next}
use Rattle.tails.specs.Tails.{Move, numbered, moves_of, tail_after, Finishes, Shortest}
use Rattle.tails.proofs.Left.{left, left_falls, finished_left, moves_length}
use Rattle.tails.proofs.Runs.{all_plain}
use Rattle.tails.proofs.Settling.{moves_finish}

-- ---- no tail that finishes has fewer events than are left

-- the events before a legal tail are legal
pub legal_start : (h : Counts) (tail es : List Event) → T (legal h (reverse_aux tail es)) → T (legal h es)
legal_start h [] es l = l
legal_start h (e ∷ tail) es l = legal_before h e es (legal_start h tail (e ∷ es) l)

-- a tail takes off at most as many as it has events
tail_left : (h : Counts) (tail es : List Event) → AllTen (map found tail) → T (legal h (reverse_aux tail es)) → left h (words_of es) ≤ length tail + left h (words_of (reverse_aux tail es))
tail_left h [] es o l = omega arith
tail_left h (e ∷ tail) es o l =
    let s = legal_start h tail (e ∷ es) l in
    omega (arith, left_falls h (words_of es) e (subst T (sym o.0) tt) (legal_row h e es s), ap (left h) (legal_next h e es (legal_before h e es s)), tail_left h tail (e ∷ es) o.1 l)

pub least_left : (h : Counts) (es other : List Event) → Finishes h es other → left h (words_of es) ≤ length other
least_left h es other f = omega (arith, finished_left h (words_of (reverse_aux other es)) f.done, tail_left h other es f.ten f.follows)

-- ---- the tail

pub numbered_length : (n : ℕ) (ms : List Move) → length (numbered n ms) ≡ length ms
unfolding numbered
numbered_length n [] = refl
numbered_length n (m ∷ ms) = ap suc (numbered_length (suc n) ms)

numbered_lines : (n : ℕ) (ms : List Move) → map (λ (e : Event). e.line) (numbered n ms) ≡ from (λ i. i) n (length (numbered n ms))
unfolding numbered from
numbered_lines n [] = refl
numbered_lines n (m ∷ ms) = ap (λ l. n ∷ l) (numbered_lines (suc n) ms)

-- it has as many events as are left
pub tail_length : (h : Counts) (es : List Event) → length (tail_after h es) ≡ left h (words_of es)
unfolding tail_after
tail_length h es = numbered_length _ (moves_of h (words_of es)) ∙ moves_length h (words_of es)

-- a tail of a list of the ten kinds is of them
ten_tail : (tail es : List Event) → AllTen (map found (reverse_aux tail es)) → AllTen (map found tail) × AllTen (map found es)
ten_tail [] es a = (tt, a)
ten_tail (e ∷ tail) es a = let r = ten_tail tail (e ∷ es) a in ((r.1.0, r.0), r.1.1)

-- One always exists, the 2,000 limit set aside for it.
pub tail_finishes : (h : Counts) (es : List Event) → h.variables ≤ full.variables → any_volatile h ≡ false → AllTen (map found es) → T (legal h es) → Finishes h es (tail_after h es)
unfolding tail_after
tail_finishes h es b p o l =
    let g = moves_finish h (all_plain h b p) _ es (record { goes = l; ten = o }) in
    record { ten = (ten_tail (tail_after h es) es g.0.ten).0; follows = g.0.goes; done = g.1 }

-- The tail of legal events of the ten kinds, with no volatile variable, is one of the shortest,
pub tail_shortest : (h : Counts) (es : List Event) → h.variables ≤ full.variables → any_volatile h ≡ false → AllTen (map found es) → T (legal h es) → Shortest h es (tail_after h es)
tail_shortest h es b p o l = record {
  finishes = tail_finishes h es b p o l;
  least = λ other f. rw (tail_length h es) (least_left h es other f);
  lines = unfold tail_after in numbered_lines (line_after h (length es)) (moves_of h (words_of es));
}

-- and so that of an accepted paper.
pub accepted_shortest : (m : Limits) (h : Counts) (es : List Event) → 0 < m.excess → h.variables ≤ full.variables → any_volatile h ≡ false → AllTen (map found es) → T (Accepted m h es) → Shortest h es (tail_after h es)
accepted_shortest m h es x b p o a = tail_shortest h es b p o (accepted_legal m h es x a)

-- Within the limit a paper with its tail is accepted.
pub tail_accepted : (m : Limits) (h : Counts) (es tail : List Event) → Finishes h es tail → length (reverse_aux tail es) ≤ m.events → T (Accepted m h (reverse_aux tail es))
tail_accepted m h es tail f b = legal_accepted m h (reverse_aux tail es) f.follows b
