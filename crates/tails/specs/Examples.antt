-- Short papers and their tails: two threads, variables and locks. proofs/Examples.antt proves the table.
use Rattle.std.specs.Prelude.{List, [], ◌∷◌, map}
use Rattle.rules.specs.declared.Event.{Event}
use Rattle.rules.specs.Traces.{A, B, K, L, N, P, R, S, W}
use Rattle.tails.specs.Tails.{Move, move}

-- the events of a paper, and the moves of its tail
pub record Example : Type 0 where
  pub events : List Event
  pub moves : List Move

-- the tail is written with the letters of its events
unfoldable pub example : List Event → List Event → Example
example es tail = record { events = es; moves = map (λ e. move e.thread e.kind) tail }

unfoldable pub examples : List Example
examples =
    example [] []
    -- the reads are loaded; an owed assign is made before them, and its store is written first
    ∷ example (R 0 0 0 ∷ R 0 1 0 ∷ []) (L 0 0 0 ∷ L 0 1 0 ∷ [])
    ∷ example (P 0 0 5 ∷ []) (W 0 0 5 ∷ B 0 0 5 ∷ [])
    ∷ example (P 0 0 5 ∷ W 0 0 5 ∷ R 0 0 5 ∷ A 0 0 6 ∷ []) (B 0 0 5 ∷ L 0 0 5 ∷ [])
    -- a fresh copy is stored and written; a lock has spoiled the second, which is assigned again
    ∷ example (A 1 0 5 ∷ []) (S 1 0 5 ∷ W 1 0 5 ∷ [])
    ∷ example (A 1 0 5 ∷ K 1 1 ∷ []) (A 1 0 5 ∷ S 1 0 5 ∷ W 1 0 5 ∷ N 1 1 ∷ [])
    -- the oldest store is written first
    ∷ example (A 0 1 5 ∷ S 0 1 5 ∷ A 0 1 6 ∷ S 0 1 6 ∷ A 0 1 7 ∷ []) (W 0 1 5 ∷ W 0 1 6 ∷ S 0 1 7 ∷ W 0 1 7 ∷ [])
    -- each hold is given up
    ∷ example (K 0 1 ∷ K 0 1 ∷ K 1 0 ∷ []) (N 0 1 ∷ N 0 1 ∷ N 1 0 ∷ [])
    ∷ []
