-- `machine::take_turn` meets its contract.
use native.Mathlib.Omega.{arith}
use Prim.Native.Nat.{◌<◌}
use mathlib.Core.Path.{◌≡◌, refl, sym, ap, ◌∙◌}
use mir.Val.{of_z, to_z}
use mir.ValLaws.{to_z-of_z}
use Rattle.std.proofs.lemmas.Result.{err_from_is_err_and}
use Rattle.rules.specs.Events.{value}
use Rattle.rules.specs.Limits.{value_width}
use Rattle.rules.specs.Rules.{judge}
use Rattle.state.specs.State.{words_in}
use Rattle.state.specs.Step.{var_of, lock_of}
use Rattle.std.specs.Option.{option_or}
use Rattle.judging.proofs.Rows.{found}
use Rattle.machine.proofs.Tallies.{some_is}
use Rattle.machine.proofs.OneStep.{var_asked, lock_asked, bounds, turn_rule, turn_put, turn_stops, turn_goes}
use Rattle.machine.proofs.take_turn.Goals as goal
use Rattle.machine.proofs.take_turn.Goals.{After-subject_of-u, then-on_lock, else-on_lock, then-on_lock-2, else-on_lock-2}

-- the event's letter, variable, lock and subject are found
abbrev Found : Type 0
Found = After-subject_of-u

variable : (c : Found) → c.if-on_lock.v ≡ var_of c.args.e.kind
variable c = var_asked c.args.e.kind c.letter_of-k.ensures c.place_of-place.ensures c.is_lock_letter-on_lock.ensures (elim c.if-on_lock.branch [
  | then-on_lock w ↦ w.v-is ∙ sym (rw w.if-on_lock.true refl)
  | else-on_lock w ↦ w.v-is ∙ sym (rw w.if-on_lock.false refl)
])

lock : (c : Found) → c.if-on_lock-2.l ≡ lock_of c.args.e.kind
lock c = lock_asked c.args.e.kind c.letter_of-k.ensures c.place_of-place.ensures c.is_lock_letter-on_lock.ensures (elim c.if-on_lock-2.branch [
  | then-on_lock-2 w ↦ w.l-is ∙ sym (rw w.if-on_lock-2.true refl)
  | else-on_lock-2 w ↦ w.l-is ∙ sym (rw w.if-on_lock-2.false refl)
])

variable_low : (c : Found) → c.if-on_lock.v < 16
variable_low c = omega (arith, variable c, c.requires.within.variable)

lock_low : (c : Found) → c.if-on_lock-2.l < 8
lock_low c = omega (arith, lock c, c.requires.within.lock)

-- its value, as it is handed on
valued : (c : Found) → to_z value_width (of_z value_width c.value_of-x.result) ≡ value c.args.e.kind
valued c = let v = c.value_of-x in to_z-of_z value_width v.result (record { sfits = v.type_inv }) ∙ v.ensures

pub parts_of-parts-requires-clause-variable : goal.parts_of-parts-requires-clause-variable
parts_of-parts-requires-clause-variable c = variable_low c

pub parts_of-parts-requires-clause-lock : goal.parts_of-parts-requires-clause-lock
parts_of-parts-requires-clause-lock c = lock_low c

pub tally_of-requires-clause-variables : goal.tally_of-requires-clause-variables
tally_of-requires-clause-variables c = (bounds c.args.s.now c.args.e c.requires).1

pub returns-in_err-refuse_if : goal.returns-in_err-refuse_if
returns-in_err-refuse_if c =
    let f = (goal.at.returns-in_err-refuse_if c).After-subject_of-u in
    let p = err_from_is_err_and c.from_residual.result c.from_residual.ensures.1 in
    let r : c.or-2.result ≡ found (judge c.args.s.now.counts (words_in c.args.s.now) c.args.e) = turn_rule c.args.s.now c.args.e c.requires c.letter_of-k.ensures (variable f) (lock f) (valued f) c.subject_of-u.ensures c.parts_of-parts.ensures (some_is c.args.s.now _ _ _ c.tally_of.ensures c.some_in-any.ensures) c.any_turn-turn.ensures c.ahead_rule-ahead.ensures c.lead_of-lead.ensures (c.or-2.ensures ∙ ap (option_or c.ahead_rule-ahead.result) c.or.ensures) in
    rw (p.1, p.2) (turn_stops c.args.s.now c.args.e _ _ r c.in_err-refuse_if.ensures)

pub offset_bounds-next-l : goal.offset_bounds-next-l
offset_bounds-next-l c = omega (arith, lock_low (goal.at.offset_bounds-next-l c).After-subject_of-u)

pub bounds-next-l : goal.bounds-next-l
bounds-next-l c = lock_low (goal.at.bounds-next-l c).After-subject_of-u

pub offset_bounds-next-v : goal.offset_bounds-next-v
offset_bounds-next-v c = omega (arith, variable_low (goal.at.offset_bounds-next-v c).After-subject_of-u)

pub bounds-next-v : goal.bounds-next-v
bounds-next-v c = variable_low (goal.at.bounds-next-v c).After-subject_of-u

pub returns : goal.returns
returns c =
    let f = (goal.at.returns c).After-subject_of-u in
    let r : c.or-2.result ≡ found (judge c.args.s.now.counts (words_in c.args.s.now) c.args.e) = turn_rule c.args.s.now c.args.e c.requires c.letter_of-k.ensures (variable f) (lock f) (valued f) c.subject_of-u.ensures c.parts_of-parts.ensures (some_is c.args.s.now _ _ _ c.tally_of.ensures c.some_in-any.ensures) c.any_turn-turn.ensures c.ahead_rule-ahead.ensures c.lead_of-lead.ensures (c.or-2.ensures ∙ ap (option_or c.ahead_rule-ahead.result) c.or.ensures) in
    turn_goes c.args.s.now c.args.e _ _ r c.in_ok-refuse_if.ensures (turn_put c.args.s.now c.args.e c.requires c.letter_of-k.ensures (variable f) (lock f) (valued f) c.subject_of-u.ensures c.parts_of-parts.ensures (some_is c.args.s.now _ _ _ c.tally_of.ensures c.some_in-any.ensures) c.any_turn-turn.ensures c.ahead_rule-ahead.ensures c.lead_of-lead.ensures (c.or-2.ensures ∙ ap (option_or c.ahead_rule-ahead.result) c.or.ensures) c.cell_place-at.ensures.0 c.slot_place.ensures.0 c.slot_place-2.ensures.0)
