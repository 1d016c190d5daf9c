-- Moves that go on from legal events of the ten kinds, each by the rules.
use Prim.Native.Nat.{ℕ, zero, suc, ◌+◌, ◌≤◌, ◌<◌}
use native.Mathlib.Omega.{arith}
use mathlib.Core.Path.{◌≡◌, refl, ap, ◌∙◌, subst}
use mathlib.Core.Bool.{true, false, not, ◌&&◌, and-false}
use mathlib.Core.List.{List, [], ◌∷◌, ◌++◌, map, reverse_aux}
use mathlib.Core.Option.{some as found}
use lib.Dec.{T, ltb}
use lib.ListN.{length}
use Rattle.rules.specs.declared.Kind.{Kind}
use Rattle.rules.specs.declared.Event.{Event}
use Rattle.rules.specs.declared.Counts.{Counts}
use Rattle.rules.specs.Events.{C, F, place, on_lock}
use Rattle.rules.specs.Limits.{full, volatile, any_volatile, declared}
use Rattle.rules.specs.Rules.{words_of, waits, of_waiting, not_notified, legal}
use Rattle.rules.specs.Memories.{below, each}
use Rattle.rules.specs.Ten.{ten_letters, is_ten, AllTen, ten_words_of}
use Rattle.rules.proofs.Laws.{is_true, is_apart, some_none, none_some, legal_cons}
use Rattle.rules.proofs.Cells.{event_by}
use Rattle.rules.proofs.Rows.{Kept, allowed_by}
use Rattle.rules.proofs.Ten.{ten_words}
use Rattle.tails.specs.Tails.{Move, on_line, numbered}
use Rattle.rules.proofs.From.{each_suc}

-- ---- moves behind events

-- the events of these moves, on lines from n, behind the events es, the latest first
abbrev pub after : ℕ → List Move → List Event → List Event
after n ms es = reverse_aux (numbered n ms) es

pub after_append : (n : ℕ) (ms ns : List Move) (es : List Event) → after n (ms ++ ns) es ≡ after (n + length ms) ns (after n ms es)
unfolding numbered
after_append n [] ns es = ap (λ (k : ℕ). after k ns es) {x = n} {y = n + 0} (omega arith)
after_append n (m ∷ ms) ns es = after_append (suc n) ms ns (on_line n m ∷ es) ∙ ap (λ (k : ℕ). after k ns (after (suc n) ms (on_line n m ∷ es))) {x = suc n + length ms} {y = n + suc (length ms)} (omega arith)

-- what holds after the moves for the numbers below j, one after the other
pub after_each : (f : ℕ → List Move) (P : ℕ → List Event → Type 0) (j : ℕ) → ((i : ℕ) → i < j → (n : ℕ) (es : List Event) → P i es → P (suc i) (after n (f i) es))
    → (n : ℕ) (es : List Event) → P 0 es → P j (after n (each f (below j)) es)
after_each f P zero s n es p = unfold each below numbered in p
after_each f P (suc j) s n es p =
    rw (each_suc f j, after_append n (each f (below j)) (f j) es)
    (s j (omega arith) (n + length (each f (below j))) (after n (each f (below j)) es) (after_each f P j (λ i b. s i (omega arith)) n es p))

-- ---- lists from which the moves go on: legal, and of the ten kinds, so nobody waits

pub record Fit (h : Counts) (es : List Event) : Type 0 where
  pub goes : T (legal h es)
  pub ten : AllTen (map found es)

awake : (h : Counts) (t : ℕ) (es : List Event) → AllTen (map found es) → waits h (words_of es) t ≡ false
unfolding waits ten_words_of
awake h t es a = subst (λ w. waits h w t ≡ false) (ten_words es a) (none_some h.locks (λ l. ltb 0 0) (λ l b. refl))

-- no declared variable is volatile
abbrev pub AllPlain : Counts → Type 0
AllPlain h = (v : ℕ) → v < h.variables → volatile h v ≡ false

-- without a `V` line
pub all_plain : (h : Counts) → h.variables ≤ full.variables → any_volatile h ≡ false → AllPlain h
unfolding any_volatile
all_plain h b p v q = some_none full.variables (volatile h) p v (omega (arith, b, q))

-- one event more, which its row allows
pub fit_next : (h : Counts) (es : List Event) (t n : ℕ) (k : Kind) → T (is_ten (event_by t n k)) → declared h (event_by t n k) ≡ true → (not (on_lock (event_by t n k)) && volatile h (place k)) ≡ false
    → Fit h es → Kept h (words_of es) t k → Fit h (event_by t n k ∷ es)
unfolding of_waiting not_notified
fit_next h es t n k o d p f r = record {
  goes = legal_cons h (event_by t n k) es d (allowed_by h (words_of es) t n k (record {
    idle = simp (awake h t es f.ten, and-false);
    told = rw (is_apart ten_letters (F ∷ []) (event_by t n k) tt o, is_apart ten_letters (C ∷ []) (event_by t n k) tt o);
    plain = p;
  }) r) f.goes;
  ten = (is_true o, f.ten);
}
