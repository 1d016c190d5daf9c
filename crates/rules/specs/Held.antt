-- What a thread has of a lock after legal events, counted. proofs/Held.antt proves it (`balanced`).
use Rattle.std.specs.Prelude.{ℕ, suc, ◌+◌, ◌<◌, ◌≡◌, cond, List, [], ◌∷◌, ltb}
use Rattle.rules.specs.declared.Event.{Event}
use Rattle.rules.specs.Events.{C, K, N, Y}
use Rattle.rules.specs.Words.{count, by, depth, remembered}

-- k, n, y, c: how many K, N, Y and C of T on the lock; h, a: the holds, and those given up
pub record Balance (k n y c h a : ℕ) : Type 0 where
  -- each K is held, given up, or undone by an N
  pub holds : k ≡ h + a + n
  -- each Y but the last has its C
  pub waited : y ≡ cond (ltb 0 a) (suc c) c
  -- who waits on the lock does not hold it
  pub apart : 0 < a → h ≡ 0

abbrev pub Balanced : ℕ → ℕ → List Event → Type 0
Balanced t l es = Balance (count (by (K ∷ []) t l) es) (count (by (N ∷ []) t l) es) (count (by (Y ∷ []) t l) es) (count (by (C ∷ []) t l) es) (depth t l es) (remembered t l es)
