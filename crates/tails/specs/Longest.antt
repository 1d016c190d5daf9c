-- Events with the longest tail. proofs/Longest.antt proves that this tail has 2,256 events.
use Rattle.std.specs.Prelude.{ℕ, ◌≡◌, true, false, List, [], ◌∷◌, ◌++◌, map, T, pos, length, replicate}
use Rattle.std.proofs.Math.Option.{some as found}
use Rattle.rules.specs.declared.Kind.TheVariants.{Assign, Lock}
use Rattle.rules.specs.declared.Event.{Event}
use Rattle.rules.specs.declared.Counts.{Counts}
use Rattle.rules.specs.Limits.{full, most_counts, any_volatile, line_after, allowed}
use Rattle.rules.specs.Rules.{Accepted}
use Rattle.rules.specs.Memories.{below, each}
use Rattle.rules.specs.Ten.{AllTen}
use Rattle.tails.specs.Tails.{Move, move, numbered, tail_after}

-- thread t assigns each variable
abbrev pub assigns_of : Counts → ℕ → List Move
assigns_of h t = each (λ v. move t (Assign v (pos 0)) ∷ []) (below h.variables)

-- and so does each thread
unfoldable pub assigns_all : Counts → List Move
assigns_all h = each (assigns_of h) (below h.threads)

-- each thread locks the lock with its own number k times
unfoldable pub locks_all : Counts → ℕ → List Move
locks_all h k = each (λ t. replicate k (move t (Lock t))) (below h.threads)

-- 8 × 16 assigns, then 8 × 234 locks, which make the copies unusable
unfoldable pub longest : List Event
longest = numbered (line_after (most_counts full) 0) (assigns_all (most_counts full) ++ locks_all (most_counts full) 234)

-- The full course accepts these events, the latest first, with no `V` line and of the ten kinds, and their tail has n events.
pub record Reaches (h : Counts) (es : List Event) (n : ℕ) : Type 0 where
  pub head : allowed full h ≡ true
  pub plain : any_volatile h ≡ false
  pub ten : AllTen (map found es)
  pub accepted : T (Accepted full h es)
  pub long : length (tail_after h es) ≡ n
