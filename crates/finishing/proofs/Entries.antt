-- The entries that are put for the rows of an accepted trace are the records of the moves of its tail.
use Prim.Native.Nat.{ℕ, zero, suc, ◌+◌, ◌*◌, ◌/◌, ◌%◌, ◌≤◌, ◌<◌}
use native.Mathlib.Omega.{arith}
use mathlib.Core.Path.{◌≡◌, refl, sym, ap, ap₂, ◌∙◌}
use mathlib.Core.Bool.{Bool, true, false, cond}
use mathlib.Core.List.{List, [], ◌∷◌, ◌++◌, map, map-append, reverse}
use mathlib.Core.Option.{some}
use lib.IntN.{pos}
use Rattle.std.proofs.lemmas.Simd.{map-map}
use lib.ListN.{get_or, replicate}
use Rattle.rules.specs.declared.Cached.{Cached}
use Rattle.rules.specs.declared.Counts.{Counts}
use Rattle.rules.specs.declared.Event.{Event}
use Rattle.rules.specs.declared.Kind.TheVariants.{Assign, Store, Write, Unlock, PrescientAssign}
use Rattle.rules.specs.Events.{A, B, L, N, S, W, letter, place, value}
use Rattle.rules.specs.Limits.{cell_number}
use Rattle.rules.specs.Memories.{below, each, cached_in, memories_of}
use Rattle.rules.specs.Rules.{Words, words_of}
use Rattle.rules.specs.Ten.{AllTen, ten_words_of}
use Rattle.rules.specs.Words.{stores, reads, pending, fresh, announced}
use Rattle.rules.proofs.From.{from_at, each_same}
use Rattle.rules.proofs.Ten.{ten_words}
use Rattle.records.specs.Records.{packed}
use Rattle.records.proofs.RowLaws.{Small}
use Rattle.tails.specs.Tails.{Move, move, numbered, write, load, closes, settles, frees, moves_of}
use Rattle.finishing.specs.declared.Entry.{Entry}
use Rattle.finishing.specs.declared.Facts.{Facts}
use Rattle.finishing.specs.Computed.Parts.{entry_of, rest_in, storing, assigning, closing, cell_entries, no_copy, cells_entries, lock_entries, thread_entries, tail_entries}
use Rattle.finishing.proofs.EventScans.{pairs, pairs_whats, facts_of, facts_are, depth_is}
use Rattle.finishing.proofs.EventRests.{value_at, stores_are, reads_are}

-- the record of a move
abbrev pub record_of : Move → Entry
record_of m = entry_of (letter m.kind) m.thread (place m.kind) (value m.kind)

map_each : {A B : Type 0} (f : A → B) (g : ℕ → List A) (ns : List ℕ) → map f (each g ns) ≡ each (λ n. map f (g n)) ns
unfolding each
map_each f g [] = refl
map_each f g (n ∷ ns) = map-append f (g n) (each g ns) ∙ ap (λ (l : List _). map f (g n) ++ l) (map_each f g ns)

map_replicate : {A B : Type 0} (f : A → B) (n : ℕ) (x : A) → map f (replicate n x) ≡ replicate n (f x)
map_replicate f zero x = refl
map_replicate f (suc n) x = ap (λ (l : List _). f x ∷ l) (map_replicate f n x)

-- ---- one thread and variable, one thread and lock

module _ (es : List Event) (s : Small es) (t v : ℕ) where
  abbrev past : List Event
  past = reverse es

  abbrev w : Words
  w = words_of (reverse es)

  abbrev copy_of : Cached
  copy_of = record { value = w.copy t v; usable = w.usable t v }

  closing_is : closing (facts_of t v past) copy_of t v ≡ map record_of (closes w t v)
  unfolding closing assigning storing closes words_of
  closing_is = go (pending t v past) (fresh t v past) (w.usable t v)
    where
      go : (p f u : Bool) → cond p (entry_of B t v (announced t v past) ∷ []) (cond f (cond u [] (entry_of A t v (w.copy t v) ∷ []) ++ (entry_of S t v (w.copy t v) ∷ entry_of W t v (w.copy t v) ∷ [])) [])
          ≡ map record_of (cond p (move t (PrescientAssign v (announced t v past)) ∷ []) (cond f (cond u [] (move t (Assign v (w.copy t v)) ∷ []) ++ (move t (Store v (w.copy t v)) ∷ move t (Write v (w.copy t v)) ∷ [])) []))
      go true f u = refl
      go false true true = refl
      go false true false = refl
      go false false u = refl

  cell_is : cell_entries copy_of t v (pairs es) ≡ map record_of (settles w t v)
  unfolding cell_entries settles words_of
  cell_is =
      ap made (facts_are es s t v)
      ∙ (λ i. map (entry_of W t v) (stores_are es s t v i) ++ (closing_is i ++ map (entry_of L t v) (reads_are es s t v i)))
      ∙ (λ i. map-map (entry_of W t v) value_at (stores t v past) i ++ (map record_of (closes w t v) ++ map-map (entry_of L t v) value_at (reads t v past) i))
      ∙ sym (λ i. map-map record_of (write t v) (stores t v past) i ++ (map record_of (closes w t v) ++ map-map record_of (load t v) (reads t v past) i))
      ∙ ap (λ (l : List Entry). map record_of (map (write t v) (stores t v past)) ++ l) (sym (map-append record_of (closes w t v) (map (load t v) (reads t v past))))
      ∙ sym (map-append record_of (map (write t v) (stores t v past)) (closes w t v ++ map (load t v) (reads t v past)))
    where
      made : Facts → List Entry
      made f = map (entry_of W t v) (rest_in W t v f.writes (pairs es)) ++ (closing f copy_of t v ++ map (entry_of L t v) (rest_in L t v f.loads (pairs es)))

  lock_is : AllTen (map some past) → lock_entries t (map packed es) v ≡ map record_of (frees w t v)
  unfolding lock_entries frees words_of ten_words_of
  lock_is a =
      ap (λ (d : ℕ). replicate d (entry_of N t v (pos 0))) (depth_is es s t v ∙ ap (λ (x : Words). x.depth t v) (ten_words past a))
      ∙ sym (map_replicate record_of (w.depth t v) (move t (Unlock v)))

-- ---- all of them

module _ (h : Counts) (es : List Event) (s : Small es) (a : AllTen (map some (reverse es))) (bt : h.threads ≤ 8) (bv : h.variables ≤ 16) where
  abbrev words : Words
  words = words_of (reverse es)

  copy_at : (t v : ℕ) → t < 8 → v < 16 → get_or (memories_of words).copies (cell_number t v) no_copy ≡ record { value = words.copy t v; usable = words.usable t v }
  unfolding memories_of
  copy_at t v i j =
      let z : 0 + (16 * t + v) ≡ 16 * t + v = omega arith in
      let p : (16 * t + v) / 16 ≡ t = omega arith in
      let q : (16 * t + v) % 16 ≡ v = omega arith in
      from_at (cached_in words) no_copy 0 128 (16 * t + v) (omega arith) ∙ ap (cached_in words) z ∙ (λ k. record { value = words.copy (p k) (q k); usable = words.usable (p k) (q k) })

  thread_is : (t : ℕ) → t < h.threads → thread_entries h (memories_of words).copies (pairs es) t ≡ map record_of (each (settles words t) (below h.variables) ++ each (frees words t) (below h.locks))
  unfolding thread_entries cells_entries
  thread_is t i =
      ap₂ (λ (x y : List Entry). x ++ y)
      (each_same _ (λ v. map record_of (settles words t v)) h.variables (λ v j. ap (λ (c : Cached). cell_entries c t v (pairs es)) (copy_at t v (omega arith) (omega arith)) ∙ cell_is es s t v)
      ∙ sym (map_each record_of (settles words t) (below h.variables)))
      (ap (λ (ws : List ℕ). each (lock_entries t ws) (below h.locks)) (pairs_whats es) ∙ each_same _ (λ l. map record_of (frees words t l)) h.locks (λ l j. lock_is es s t l a) ∙ sym (map_each record_of (frees words t) (below h.locks)))
      ∙ sym (map-append record_of (each (settles words t) (below h.variables)) (each (frees words t) (below h.locks)))

  pub entries_are : tail_entries h (memories_of words).copies (pairs es) ≡ map record_of (moves_of h words)
  unfolding tail_entries moves_of
  entries_are =
      each_same _ (λ t. map record_of (each (settles words t) (below h.variables) ++ each (frees words t) (below h.locks))) h.threads thread_is
      ∙ sym (map_each record_of (λ t. each (settles words t) (below h.variables) ++ each (frees words t) (below h.locks)) (below h.threads))

-- ---- with their lines

module _ {X : Type 0} (f : Entry → X) (g : Event → X) (same : (n : ℕ) (m : Move) → f (record_of m) ≡ g (record { thread = m.thread; line = n; kind = m.kind })) where
  pub numbered_are : (n : ℕ) (ms : List Move) → map f (map record_of ms) ≡ map g (numbered n ms)
  unfolding numbered
  numbered_are n [] = refl
  numbered_are n (m ∷ ms) = ap₂ (λ (y : X) (ys : List X). y ∷ ys) (same n m) (numbered_are (suc n) ms)
