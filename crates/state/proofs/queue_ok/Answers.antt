-- `state::queue_ok` meets its contract.
use Rattle.std.proofs.Common.{rules, tests, arith, ◌∙◌, ap, refl, ℕ, get_or}
use Rattle.std.specs.Prelude.{◌||◌, leb}
use Rattle.std.proofs.lemmas.Iterator.{YieldsList-from_range}
use Rattle.std.proofs.lemmas.Iterator.Search.{all_from_yields_List}
use borrow.Author.Tests.{le-leb, lt-leb}
use Rattle.state.specs.Range.{slots_in, queue_ok}
use Rattle.state.specs.State.{no_slot}
use Rattle.state.specs.Computed.Places.{slot_place}
use Rattle.state.proofs.LeafLaws.{every_range, every_ext, slot_is}
use Rattle.state.proofs.queue_ok.Goals as goal

pub returns-then-q-le8 : goal.returns-then-q-le8
unfolding queue_ok
returns-then-q-le8 c =
    let a = c.args in
    let f = λ (j : ℕ). leb (get_or a.slots.now (slot_place a.i a.q j) no_slot).position a.n in
    rw (le-leb a.q.len 8 c.if-q-le8.true)
    (all_from_yields_List f _ _ c.all.result c.all.ensures.ran (YieldsList-from_range 0 a.q.len a.q.len refl (omega arith)) (λ x b q k. search (rules, tests))
    ∙ every_range a.q.len f 8 c.if-q-le8.true
    ∙ every_ext 8 (λ j. leb a.q.len j || f j) (slots_in a.n a.slots.now a.i a.q)
    (λ j h. ap (λ (m : ℕ). leb a.q.len j || leb (get_or a.slots.now m no_slot).position a.n) (slot_is a.i a.q j c.requires refl)))

pub returns-else-q-le8 : goal.returns-else-q-le8
unfolding queue_ok
returns-else-q-le8 c = rw (lt-leb _ _ c.if-q-le8.false)
