-- `state::in_range` meets its contract.
use Prim.Native.Nat.{ℕ}
use Rattle.std.proofs.Common.{rules}
use mathlib.Core.Path.{◌≡◌, sym, ◌∙◌}
use Rattle.std.proofs.Math.Bool.{and_assoc}
use mathlib.Core.Bool.{Bool, ◌&&◌}
use lib.Dec.{leb}
use Rattle.rules.specs.Limits.{Limits, limits_of, allowed}
use Rattle.state.specs.declared.State.{State}
use Rattle.state.specs.Range.{holds_ok, threads_ok, cells_ok, queues_ok, in_range}
use Rattle.state.proofs.in_range.Goals as goal

-- what is asked, one after the other
asked : (m : Limits) (s : State) {a : Bool} {n : ℕ} {b w c d : Bool} → a ≡ allowed m s.counts → n ≡ m.events → b ≡ holds_ok s → w ≡ threads_ok s → c ≡ cells_ok s
    → d ≡ (queues_ok s.events s.cells s.reads (λ x. x.reads) && queues_ok s.events s.cells s.stores (λ x. x.stores))
    → (a && leb s.events n && b && w && c && d) ≡ in_range m s
unfolding in_range
asked m s ea en eb ew ec ed =
    (λ i. ea i && leb s.events (en i) && eb i && ew i && ec i && ed i)
    ∙ sym (and_assoc (allowed m s.counts && leb s.events m.events && holds_ok s && threads_ok s && cells_ok s) _ _)

pub returns : goal.returns
returns c =
    let a = c.args in (
      asked (limits_of a.course) a.s c.is_allowed.ensures c.most_events.ensures
          c.holds_ok.ensures c.threads_ok.ensures c.cells_ok.ensures c.queues_ok.ensures,
      record { cells = search rules; reads = search rules; stores = search rules; locked = search rules; holds = search rules; memory = search rules; waits = search rules },
    )
