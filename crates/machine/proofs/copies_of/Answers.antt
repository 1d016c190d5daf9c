-- `machine::copies_of` meets its contract. Assumes nothing.
use Prim.Native.Nat.{ℕ, ◌/◌}
use Rattle.std.proofs.Common.{rules, tests, refl, ◌∙◌, get_or, ltb, []}
use Rattle.rules.specs.declared.Cached.{Cached}
use Rattle.state.specs.declared.State.{State}
use Rattle.state.specs.State.{blank}
use Rattle.machine.specs.Computed.Walk.{state_of}
use Rattle.machine.proofs.Copies.{no_copy, copy_at, copies_all, made}
use Rattle.machine.proofs.copies_of.Goals as goal

pub returns : goal.returns
returns c =
    let r = c.from_fn.ensures.items in
    let a = c.args in
    let s : State = state_of a.cells.now a.locked.now [] in
    let copy : ℕ → Cached = λ i. record { value = (get_or a.cells.now i blank).copy; usable = ltb (get_or a.locked.now (i / 16) 0) (get_or a.cells.now i blank).source } in
    copies_all s c.from_fn.result r.long (λ i h. made _ _ copy no_copy (λ x y q k. search (rules, tests)) c.from_fn.result 128 r i h ∙ copy_at s i h refl refl)
