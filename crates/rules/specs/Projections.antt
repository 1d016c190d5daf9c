-- Parts of a list of earlier events, the latest first. Each word depends on one of them alone: proofs/Projections.antt.
use Rattle.std.specs.Prelude.{ℕ, Bool, not, cond, ◌&&◌, List, [], ◌∷◌}
use Rattle.rules.specs.declared.Event.{Event}
use Rattle.rules.specs.Events.{R, W, is, of, on, on_lock}

-- the events that pass the test
unfoldable pub keep : (Event → Bool) → List Event → List Event
keep q [] = []
keep q (e ∷ es) = cond (q e) (e ∷ keep q es) (keep q es)

-- T's own events, R and W on its behalf included
unfoldable pub own : ℕ → List Event → List Event
own t es = keep (of t) es

-- T's events on variable V
unfoldable pub own_on : ℕ → ℕ → List Event → List Event
own_on t v es = keep (λ e. of t e && (not (on_lock e) && on v e)) es

-- the R and W on V, by any thread
unfoldable pub memory_on : ℕ → List Event → List Event
memory_on v es = keep (λ e. is (R ∷ W ∷ []) e && on v e) es

-- the lock events on lock l, by any thread
unfoldable pub lock_on : ℕ → List Event → List Event
lock_on l es = keep (λ e. on_lock e && on l e) es
