-- The memories after the last event, from the words.
use Rattle.std.specs.Prelude.{ℕ, zero, suc, ◌/◌, ◌%◌, cond, List, [], ◌∷◌, ◌++◌, ℤ}
use Rattle.rules.specs.declared.Cached.{Cached}
use Rattle.rules.specs.declared.Counts.{Counts}
use Rattle.rules.specs.declared.Main.{Main}
use Rattle.rules.specs.declared.Memories.{Memories}
use Rattle.rules.specs.Limits.{full, cell_count}
use Rattle.rules.specs.Rules.{Words}

-- the numbers below n, rising
unfoldable pub below : ℕ → List ℕ
below zero = []
below (suc n) = below n ++ (n ∷ [])

-- what f gives for each of these numbers, one after the other
unfoldable pub each : {A : Type 0} → (ℕ → List A) → List ℕ → List A
each f [] = []
each f (n ∷ ns) = f n ++ each f ns

-- each declared variable, rising, and its value in main memory
unfoldable pub memory : Counts → Words → List ℤ
memory h w = each (λ v. w.main v ∷ []) (below h.variables)

pub record Copy : Type 0 where
  pub thread : ℕ
  pub variable : ℕ
  pub value : ℤ

-- thread, variable and value of each usable copy, by thread then variable
unfoldable pub copies : Counts → Words → List Copy
copies h w = each (λ t. each (λ v. cond (w.usable t v) (record { thread = t; variable = v; value = w.copy t v } ∷ []) []) (below h.variables)) (below h.threads)

-- ---- the same as the code hands them on

-- what f gives for n numbers from i on
unfoldable pub from : {X : Type 0} → (ℕ → X) → ℕ → ℕ → List X
from f i zero = []
from f i (suc n) = f i ∷ from f (suc i) n

abbrev pub main_in : Words → ℕ → Main
main_in w v = record { value = w.main v }

-- the copy of cell i
abbrev pub cached_in : Words → ℕ → Cached
cached_in w i = let t = i / full.variables in let v = i % full.variables in record { value = w.copy t v; usable = w.usable t v }

unfoldable pub memories_of : Words → Memories
memories_of w = record { main = from (main_in w) 0 full.variables; copies = from (cached_in w) 0 cell_count }
