-- The table of short papers and their tails is what the definitions give: by computation.
use mathlib.Core.Path.{◌≡◌, refl}
use mathlib.Core.List.{map, reverse}
use Rattle.rules.specs.Events.{is, of, on, locks}
use Rattle.rules.specs.Words.{latest, value_in, letter_in, last_at, count, in_order, by, locks_by, reads, stores, copy, fresh, pending, announced, last_lock, usable, grip_after, grip, depth, last_assign}
use Rattle.rules.specs.Rules.{words_of}
use Rattle.rules.specs.Memories.{below, each}
use Rattle.rules.specs.Traces.{ev, A, B, K, L, N, P, R, S, W, two}
use Rattle.tails.specs.Tails.{closes, settles, frees, moves_of}
use Rattle.tails.specs.Examples.{Example, example, examples}

pub examples_computed : map (λ (x : Example). moves_of two (words_of (reverse x.events))) examples ≡ map (λ (x : Example). x.moves) examples
unfolding ev A B K L N P R S W is of on locks latest value_in letter_in last_at count in_order by locks_by reads stores copy fresh pending announced last_lock usable grip_after grip depth last_assign words_of below each closes settles frees moves_of example examples
examples_computed = refl
