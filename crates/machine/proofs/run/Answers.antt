-- `machine::run` meets its contract: `Running` holds at each record. Assumes nothing.
use mathlib.Core.Path.{◌≡◌, refl, sym, ap, ◌∙◌}
use mathlib.Core.Bool.{true, false}
use borrow.Author.Rules.{rules}
use lib.IntN.{ℤ, pos}
use Prim.Native.Nat.{ℕ}
use mathlib.Core.List.{List}
use Rattle.machine.specs.declared.Tally.{Tally}
use Rattle.state.specs.declared.State.{State}
use lib.ListN.{get_or}
use mir.Val.{of_z, to_z}
use mir.ValLaws.{to_z-of_z}
use Rattle.rules.specs.Events.{subject_of}
use Rattle.rules.specs.Limits.{value_width}
use Rattle.state.specs.State.{words_in}
use Rattle.judging.proofs.Rows.{leading}
use Rattle.machine.specs.Computed.Walk.{outcome_of}
use Rattle.machine.proofs.OneStep.{none_broken}
use Rattle.machine.proofs.Copies.{memories_of_law, memories_in}
use Rattle.machine.proofs.Running.{running_start, running_end, Turn, turn_none, turn_limit, turn_thread, turn_subject, turn_place, here, hold_arm, wait_arm, reads_arm, stores_arm, cell_arm}
use Rattle.machine.proofs.Arms.{refused_at, refused_by, hold_barred, hold_broken, hold_kept, wait_barred, wait_broken, wait_kept, variable_barred, lead_broken, lead_kept, lead_free, use_broken, unused, used_kept, reads_broken, reads_kept, tally_small, stores_broken, stores_kept, cell_broken, cell_kept}
use Rattle.std.proofs.lemmas.Result.{err_from_is_err_and}
use Rattle.machine.proofs.run.Goals as goal
use Rattle.machine.proofs.run.Goals.{After-place_in-v, then-is_lock_letter+else-s-v+then-k+in_ok-refuse_if+in_ok-refuse_if-2, then-is_lock_letter+else-s-v+else-k+else-s-subject+in_ok-refuse_if-3+in_ok-refuse_if-4, else-is_lock_letter+else-s-v-2+in_ok-refuse_if-5+then-k-eq85+in_ok-refuse_if-7+then-not-is_used, then-declared-v+in_ok-refuse_if-6, else-declared-v, else-is_lock_letter+else-s-v-2+in_ok-refuse_if-5+then-k-eq85+in_ok-refuse_if-7+else-not-is_used, else-is_lock_letter+else-s-v-2+in_ok-refuse_if-5+else-k-eq85+then-k-2+in_ok-refuse_if-8, else-is_lock_letter+else-s-v-2+in_ok-refuse_if-5+else-k-eq85+else-k-2+then-k-3+in_ok-refuse_if-9, else-is_lock_letter+else-s-v-2+in_ok-refuse_if-5+else-k-eq85+else-k-2+else-k-3+in_ok-refuse_if-10}

-- the record at i, taken apart
abbrev Head : Type 0
Head = After-place_in-v

turn : (c : Head) → Turn c.args.s c.args.what.now c.args.value.now c.loop-i.s c.loop-i.tallies c.loop-i.i c.letter_in-k.result c.thread_in-t.result c.place_in-v.result
turn c = record { running = c.loop-i.invariant; more = c.loop-i-test.true; letter = c.letter_in-k.ensures; thread = c.thread_in-t.ensures; place = c.place_in-v.ensures }

-- nothing is broken that leads its row
abbrev Led : {s₀ : State} {ws : List ℕ} {xs : List ℤ} {s : State} {ts : List Tally} {i k t v : ℕ} → Turn s₀ ws xs s ts i k t v → Type 0
Led {s = s} u = leading s.counts (words_in s) (here u) ≡ 0

-- its value, as it is handed on
valued : (c : Head) → to_z value_width (of_z value_width (get_or c.args.value.now c.loop-i.i (pos 0))) ≡ get_or c.args.value.now c.loop-i.i (pos 0)
valued c = to_z-of_z value_width _ (search rules)

pub loop-i-init : goal.loop-i-init
loop-i-init c = running_start c.args.s _ c.args.what.now c.args.value.now c.requires.ready

pub returns-then-not-is_letter : goal.returns-then-not-is_letter
returns-then-not-is_letter c =
    let u = turn (goal.at.returns-then-not-is_letter c).After-place_in-v in
    refused_at u c.refusal_after.ensures (turn_none u (sym c.is_letter.ensures ∙ c.if-not-is_letter.true))

pub returns-then-n-ge2000 : goal.returns-then-n-ge2000
returns-then-n-ge2000 c =
    let u = turn (goal.at.returns-then-n-ge2000 c).After-place_in-v in
    refused_at u c.refusal_after-then-n-ge2000.ensures (turn_limit u (sym c.is_letter.ensures ∙ c.if-not-is_letter.false) c.if-n-ge2000.true)

pub returns-then-s-t : goal.returns-then-s-t
returns-then-s-t c =
    let u = turn (goal.at.returns-then-s-t c).After-place_in-v in
    refused_at u c.refusal_after-then-s-t.ensures (turn_thread u (sym c.is_letter.ensures ∙ c.if-not-is_letter.false) _ refl c.if-n-ge2000.false c.if-s-t.true)

pub returns-then-s-v : goal.returns-then-s-v
returns-then-s-v c =
    let u = turn (goal.at.returns-then-s-v c).After-place_in-v in
    refused_at u c.refusal_after-then-s-v.ensures (turn_place u (sym c.is_letter.ensures ∙ c.if-not-is_letter.false) true (sym c.is_lock_letter.ensures ∙ c.if-is_lock_letter.true) c.if-n-ge2000.false c.if-s-v.true)

pub returns-in_err-refuse_if : goal.returns-in_err-refuse_if
returns-in_err-refuse_if c =
    let u = turn (goal.at.returns-in_err-refuse_if c).After-place_in-v in
    let p = err_from_is_err_and c.from_residual.result c.from_residual.ensures.1 in
    rw (p.1, p.2) (refused_by u _ c.in_err-refuse_if.ensures (hold_barred u (sym c.is_letter.ensures ∙ c.if-not-is_letter.false) c.if-n-ge2000.false c.if-s-t.false (sym c.is_lock_letter.ensures ∙ c.if-is_lock_letter.true) c.if-s-v.false c.some_in-any.ensures (hold_arm c.letter_in-k.result c.if-k.true) c.barred_rule.ensures))

pub returns-in_err-refuse_if-2 : goal.returns-in_err-refuse_if-2
returns-in_err-refuse_if-2 c =
    let u = turn (goal.at.returns-in_err-refuse_if-2 c).After-place_in-v in
    let p = err_from_is_err_and c.from_residual-in_err-refuse_if-2.result c.from_residual-in_err-refuse_if-2.ensures.1 in
    rw (p.1, p.2) (refused_by u _ c.in_err-refuse_if-2.ensures (hold_broken u (sym c.is_letter.ensures ∙ c.if-not-is_letter.false) c.if-n-ge2000.false c.if-s-t.false (sym c.is_lock_letter.ensures ∙ c.if-is_lock_letter.true) c.if-s-v.false c.some_in-any.ensures (hold_arm c.letter_in-k.result c.if-k.true) c.barred_rule.ensures (none_broken _ _ c.in_ok-refuse_if.ensures) c.lock_turn-turn.ensures))

pub returns-then-s-subject : goal.returns-then-s-subject
returns-then-s-subject c =
    let u = turn (goal.at.returns-then-s-subject c).After-place_in-v in
    refused_at u c.refusal_after-then-s-subject.ensures (turn_subject u (sym c.is_letter.ensures ∙ c.if-not-is_letter.false) true (sym c.is_lock_letter.ensures ∙ c.if-is_lock_letter.true) c.if-n-ge2000.false (c.subject_of-subject.ensures ∙ ap (subject_of _ _) (valued (goal.at.returns-then-s-subject c).After-place_in-v)) c.if-s-subject.true)

pub returns-in_err-refuse_if-3 : goal.returns-in_err-refuse_if-3
returns-in_err-refuse_if-3 c =
    let u = turn (goal.at.returns-in_err-refuse_if-3 c).After-place_in-v in
    let p = err_from_is_err_and c.from_residual-in_err-refuse_if-3.result c.from_residual-in_err-refuse_if-3.ensures.1 in
    rw (p.1, p.2) (refused_by u _ c.in_err-refuse_if-3.ensures (wait_barred u (sym c.is_letter.ensures ∙ c.if-not-is_letter.false) c.if-n-ge2000.false c.if-s-t.false (sym c.is_lock_letter.ensures ∙ c.if-is_lock_letter.true) c.if-s-v.false c.some_in-any.ensures (wait_arm c.letter_in-k.result (sym c.is_lock_letter.ensures ∙ c.if-is_lock_letter.true) c.if-k.false) (c.subject_of-subject.ensures ∙ ap (subject_of _ _) (valued (goal.at.returns-in_err-refuse_if-3 c).After-place_in-v)) c.if-s-subject.false c.ahead_rule-ahead.ensures))

pub returns-in_err-refuse_if-4 : goal.returns-in_err-refuse_if-4
returns-in_err-refuse_if-4 c =
    let u = turn (goal.at.returns-in_err-refuse_if-4 c).After-place_in-v in
    let p = err_from_is_err_and c.from_residual-in_err-refuse_if-4.result c.from_residual-in_err-refuse_if-4.ensures.1 in
    rw (p.1, p.2) (refused_by u _ c.in_err-refuse_if-4.ensures (wait_broken u (sym c.is_letter.ensures ∙ c.if-not-is_letter.false) c.if-n-ge2000.false c.if-s-t.false (sym c.is_lock_letter.ensures ∙ c.if-is_lock_letter.true) c.if-s-v.false c.some_in-any.ensures (wait_arm c.letter_in-k.result (sym c.is_lock_letter.ensures ∙ c.if-is_lock_letter.true) c.if-k.false) (c.subject_of-subject.ensures ∙ ap (subject_of _ _) (valued (goal.at.returns-in_err-refuse_if-4 c).After-place_in-v)) c.if-s-subject.false c.ahead_rule-ahead.ensures (none_broken _ _ c.in_ok-refuse_if-3.ensures) c.wait_turn-turn.ensures))

pub returns-then-s-v-2 : goal.returns-then-s-v-2
returns-then-s-v-2 c =
    let u = turn (goal.at.returns-then-s-v-2 c).After-place_in-v in
    refused_at u c.refusal_after-then-s-v-2.ensures (turn_place u (sym c.is_letter.ensures ∙ c.if-not-is_letter.false) false (sym c.is_lock_letter.ensures ∙ c.if-is_lock_letter.false) c.if-n-ge2000.false c.if-s-v-2.true)

pub returns-in_err-refuse_if-5 : goal.returns-in_err-refuse_if-5
returns-in_err-refuse_if-5 c =
    let u = turn (goal.at.returns-in_err-refuse_if-5 c).After-place_in-v in
    let p = err_from_is_err_and c.from_residual-in_err-refuse_if-5.result c.from_residual-in_err-refuse_if-5.ensures.1 in
    rw (p.1, p.2) (refused_by u _ c.in_err-refuse_if-5.ensures (variable_barred u (sym c.is_letter.ensures ∙ c.if-not-is_letter.false) c.if-n-ge2000.false c.if-s-t.false (sym c.is_lock_letter.ensures ∙ c.if-is_lock_letter.false) c.if-s-v-2.false c.barred_rule-else-is_lock_letter.ensures))

pub returns-in_err-refuse_if-6 : goal.returns-in_err-refuse_if-6
returns-in_err-refuse_if-6 c =
    let u = turn (goal.at.returns-in_err-refuse_if-6 c).After-place_in-v in
    let p = err_from_is_err_and c.from_residual-in_err-refuse_if-6.result c.from_residual-in_err-refuse_if-6.ensures.1 in
    rw (p.1, p.2) (refused_by u _ c.in_err-refuse_if-6.ensures (lead_broken u (sym c.is_letter.ensures ∙ c.if-not-is_letter.false) c.if-n-ge2000.false c.if-s-t.false (sym c.is_lock_letter.ensures ∙ c.if-is_lock_letter.false) c.if-s-v-2.false c.barred_rule-else-is_lock_letter.ensures (none_broken _ _ c.in_ok-refuse_if-5.ensures) c.cell_place-at.ensures.0 c.lead_of-lead.ensures))

pub returns-in_err-refuse_if-7 : goal.returns-in_err-refuse_if-7
returns-in_err-refuse_if-7 c =
    let u = turn (goal.at.returns-in_err-refuse_if-7 c).After-place_in-v in
    let p = err_from_is_err_and c.from_residual-in_err-refuse_if-7.result c.from_residual-in_err-refuse_if-7.ensures.1 in
    let o : Led u = (elim c.if-declared-v.branch [
      | then-declared-v+in_ok-refuse_if-6 z ↦ lead_kept u (sym c.is_letter.ensures ∙ c.if-not-is_letter.false) c.if-n-ge2000.false c.if-s-t.false (sym c.is_lock_letter.ensures ∙ c.if-is_lock_letter.false) c.if-s-v-2.false c.barred_rule-else-is_lock_letter.ensures (none_broken _ _ c.in_ok-refuse_if-5.ensures) c.cell_place-at.ensures.0 z.lead_of-lead.ensures (none_broken _ _ z.in_ok-refuse_if-6.ensures)
      | else-declared-v z ↦ lead_free u (sym c.is_letter.ensures ∙ c.if-not-is_letter.false) c.if-n-ge2000.false c.if-s-t.false (sym c.is_lock_letter.ensures ∙ c.if-is_lock_letter.false) c.if-s-v-2.false c.barred_rule-else-is_lock_letter.ensures (none_broken _ _ c.in_ok-refuse_if-5.ensures) c.cell_place-at.ensures.0 z.if-declared-v.false
    ]) in
    rw (p.1, p.2) (refused_by u _ c.in_err-refuse_if-7.ensures (use_broken u (sym c.is_letter.ensures ∙ c.if-not-is_letter.false) c.if-n-ge2000.false c.if-s-t.false (sym c.is_lock_letter.ensures ∙ c.if-is_lock_letter.false) c.if-s-v-2.false c.barred_rule-else-is_lock_letter.ensures (none_broken _ _ c.in_ok-refuse_if-5.ensures) c.cell_place-at.ensures.0 o (valued (goal.at.returns-in_err-refuse_if-7 c).After-place_in-v) c.if-k-eq85.true c.use_rule.ensures))

pub returns-in_err-refuse_if-8 : goal.returns-in_err-refuse_if-8
returns-in_err-refuse_if-8 c =
    let u = turn (goal.at.returns-in_err-refuse_if-8 c).After-place_in-v in
    let p = err_from_is_err_and c.from_residual-in_err-refuse_if-8.result c.from_residual-in_err-refuse_if-8.ensures.1 in
    let o : Led u = (elim c.if-declared-v.branch [
      | then-declared-v+in_ok-refuse_if-6 z ↦ lead_kept u (sym c.is_letter.ensures ∙ c.if-not-is_letter.false) c.if-n-ge2000.false c.if-s-t.false (sym c.is_lock_letter.ensures ∙ c.if-is_lock_letter.false) c.if-s-v-2.false c.barred_rule-else-is_lock_letter.ensures (none_broken _ _ c.in_ok-refuse_if-5.ensures) c.cell_place-at.ensures.0 z.lead_of-lead.ensures (none_broken _ _ z.in_ok-refuse_if-6.ensures)
      | else-declared-v z ↦ lead_free u (sym c.is_letter.ensures ∙ c.if-not-is_letter.false) c.if-n-ge2000.false c.if-s-t.false (sym c.is_lock_letter.ensures ∙ c.if-is_lock_letter.false) c.if-s-v-2.false c.barred_rule-else-is_lock_letter.ensures (none_broken _ _ c.in_ok-refuse_if-5.ensures) c.cell_place-at.ensures.0 z.if-declared-v.false
    ]) in
    rw (p.1, p.2) (refused_by u _ c.in_err-refuse_if-8.ensures (reads_broken u (sym c.is_letter.ensures ∙ c.if-not-is_letter.false) c.if-n-ge2000.false c.if-s-t.false (sym c.is_lock_letter.ensures ∙ c.if-is_lock_letter.false) c.if-s-v-2.false c.barred_rule-else-is_lock_letter.ensures (none_broken _ _ c.in_ok-refuse_if-5.ensures) c.cell_place-at.ensures.0 o (valued (goal.at.returns-in_err-refuse_if-8 c).After-place_in-v) (reads_arm c.letter_in-k.result c.if-k-2.true) c.slot_place.ensures.0 c.slot_place-end.ensures.0 c.reads_turn-turn.ensures))

pub returns-in_err-refuse_if-9 : goal.returns-in_err-refuse_if-9
returns-in_err-refuse_if-9 c =
    let u = turn (goal.at.returns-in_err-refuse_if-9 c).After-place_in-v in
    let p = err_from_is_err_and c.from_residual-in_err-refuse_if-9.result c.from_residual-in_err-refuse_if-9.ensures.1 in
    let o : Led u = (elim c.if-declared-v.branch [
      | then-declared-v+in_ok-refuse_if-6 z ↦ lead_kept u (sym c.is_letter.ensures ∙ c.if-not-is_letter.false) c.if-n-ge2000.false c.if-s-t.false (sym c.is_lock_letter.ensures ∙ c.if-is_lock_letter.false) c.if-s-v-2.false c.barred_rule-else-is_lock_letter.ensures (none_broken _ _ c.in_ok-refuse_if-5.ensures) c.cell_place-at.ensures.0 z.lead_of-lead.ensures (none_broken _ _ z.in_ok-refuse_if-6.ensures)
      | else-declared-v z ↦ lead_free u (sym c.is_letter.ensures ∙ c.if-not-is_letter.false) c.if-n-ge2000.false c.if-s-t.false (sym c.is_lock_letter.ensures ∙ c.if-is_lock_letter.false) c.if-s-v-2.false c.barred_rule-else-is_lock_letter.ensures (none_broken _ _ c.in_ok-refuse_if-5.ensures) c.cell_place-at.ensures.0 z.if-declared-v.false
    ]) in
    rw (p.1, p.2) (refused_by u _ c.in_err-refuse_if-9.ensures (stores_broken u (sym c.is_letter.ensures ∙ c.if-not-is_letter.false) c.if-n-ge2000.false c.if-s-t.false (sym c.is_lock_letter.ensures ∙ c.if-is_lock_letter.false) c.if-s-v-2.false c.barred_rule-else-is_lock_letter.ensures (none_broken _ _ c.in_ok-refuse_if-5.ensures) c.cell_place-at.ensures.0 o (valued (goal.at.returns-in_err-refuse_if-9 c).After-place_in-v) (stores_arm c.letter_in-k.result c.if-k-3.true) c.slot_place-then-k-3.ensures.0 c.slot_place-end-then-k-3.ensures.0 c.stores_turn-turn.ensures))

pub tally_after-requires : goal.tally_after-requires
tally_after-requires c =
    let u = turn (goal.at.tally_after-requires c).After-place_in-v in
    tally_small u (sym c.is_letter.ensures ∙ c.if-not-is_letter.false) c.if-n-ge2000.false c.if-s-t.false

pub returns-in_err-refuse_if-10 : goal.returns-in_err-refuse_if-10
returns-in_err-refuse_if-10 c =
    let u = turn (goal.at.returns-in_err-refuse_if-10 c).After-place_in-v in
    let p = err_from_is_err_and c.from_residual-in_err-refuse_if-10.result c.from_residual-in_err-refuse_if-10.ensures.1 in
    let o : Led u = (elim c.if-declared-v.branch [
      | then-declared-v+in_ok-refuse_if-6 z ↦ lead_kept u (sym c.is_letter.ensures ∙ c.if-not-is_letter.false) c.if-n-ge2000.false c.if-s-t.false (sym c.is_lock_letter.ensures ∙ c.if-is_lock_letter.false) c.if-s-v-2.false c.barred_rule-else-is_lock_letter.ensures (none_broken _ _ c.in_ok-refuse_if-5.ensures) c.cell_place-at.ensures.0 z.lead_of-lead.ensures (none_broken _ _ z.in_ok-refuse_if-6.ensures)
      | else-declared-v z ↦ lead_free u (sym c.is_letter.ensures ∙ c.if-not-is_letter.false) c.if-n-ge2000.false c.if-s-t.false (sym c.is_lock_letter.ensures ∙ c.if-is_lock_letter.false) c.if-s-v-2.false c.barred_rule-else-is_lock_letter.ensures (none_broken _ _ c.in_ok-refuse_if-5.ensures) c.cell_place-at.ensures.0 z.if-declared-v.false
    ]) in
    rw (p.1, p.2) (refused_by u _ c.in_err-refuse_if-10.ensures (cell_broken u (sym c.is_letter.ensures ∙ c.if-not-is_letter.false) c.if-n-ge2000.false c.if-s-t.false (sym c.is_lock_letter.ensures ∙ c.if-is_lock_letter.false) c.if-s-v-2.false c.barred_rule-else-is_lock_letter.ensures (none_broken _ _ c.in_ok-refuse_if-5.ensures) c.cell_place-at.ensures.0 o (valued (goal.at.returns-in_err-refuse_if-10 c).After-place_in-v) (cell_arm c.letter_in-k.result (sym c.is_letter.ensures ∙ c.if-not-is_letter.false) (sym c.is_lock_letter.ensures ∙ c.if-is_lock_letter.false) c.if-k-2.false c.if-k-3.false) c.cell_turn-turn.ensures))

pub tally_after-requires-else-k-3 : goal.tally_after-requires-else-k-3
tally_after-requires-else-k-3 c =
    let u = turn (goal.at.tally_after-requires-else-k-3 c).After-place_in-v in
    tally_small u (sym c.is_letter.ensures ∙ c.if-not-is_letter.false) c.if-n-ge2000.false c.if-s-t.false

pub loop-i-preserved : goal.loop-i-preserved
loop-i-preserved c =
    let u = turn (goal.at.loop-i-preserved c).After-place_in-v in
    elim c.if-is_lock_letter.branch [
      | then-is_lock_letter+else-s-v+then-k+in_ok-refuse_if+in_ok-refuse_if-2 w ↦ hold_kept u (sym c.is_letter.ensures ∙ c.if-not-is_letter.false) c.if-n-ge2000.false c.if-s-t.false (sym c.is_lock_letter.ensures ∙ w.if-is_lock_letter.true) w.if-s-v.false w.some_in-any.ensures (hold_arm c.letter_in-k.result w.if-k.true) w.barred_rule.ensures (none_broken _ _ w.in_ok-refuse_if.ensures) w.lock_turn-turn.ensures (none_broken _ _ w.in_ok-refuse_if-2.ensures) w.s-is w.tallies-is
      | then-is_lock_letter+else-s-v+else-k+else-s-subject+in_ok-refuse_if-3+in_ok-refuse_if-4 w ↦ wait_kept u (sym c.is_letter.ensures ∙ c.if-not-is_letter.false) c.if-n-ge2000.false c.if-s-t.false (sym c.is_lock_letter.ensures ∙ w.if-is_lock_letter.true) w.if-s-v.false w.some_in-any.ensures (wait_arm c.letter_in-k.result (sym c.is_lock_letter.ensures ∙ w.if-is_lock_letter.true) w.if-k.false) (w.subject_of-subject.ensures ∙ ap (subject_of _ _) (valued (goal.at.loop-i-preserved c).After-place_in-v)) w.if-s-subject.false w.ahead_rule-ahead.ensures (none_broken _ _ w.in_ok-refuse_if-3.ensures) w.wait_turn-turn.ensures (none_broken _ _ w.in_ok-refuse_if-4.ensures) w.s-is w.tallies-is
      | else-is_lock_letter+else-s-v-2+in_ok-refuse_if-5+then-k-eq85+in_ok-refuse_if-7+then-not-is_used w ↦ (let o : Led u = (elim w.if-declared-v.branch [
        | then-declared-v+in_ok-refuse_if-6 z ↦ lead_kept u (sym c.is_letter.ensures ∙ c.if-not-is_letter.false) c.if-n-ge2000.false c.if-s-t.false (sym c.is_lock_letter.ensures ∙ w.if-is_lock_letter.false) w.if-s-v-2.false w.barred_rule-else-is_lock_letter.ensures (none_broken _ _ w.in_ok-refuse_if-5.ensures) w.cell_place-at.ensures.0 z.lead_of-lead.ensures (none_broken _ _ z.in_ok-refuse_if-6.ensures)
        | else-declared-v z ↦ lead_free u (sym c.is_letter.ensures ∙ c.if-not-is_letter.false) c.if-n-ge2000.false c.if-s-t.false (sym c.is_lock_letter.ensures ∙ w.if-is_lock_letter.false) w.if-s-v-2.false w.barred_rule-else-is_lock_letter.ensures (none_broken _ _ w.in_ok-refuse_if-5.ensures) w.cell_place-at.ensures.0 z.if-declared-v.false
      ]) in used_kept u (sym c.is_letter.ensures ∙ c.if-not-is_letter.false) c.if-n-ge2000.false c.if-s-t.false (sym c.is_lock_letter.ensures ∙ w.if-is_lock_letter.false) w.if-s-v-2.false w.barred_rule-else-is_lock_letter.ensures (none_broken _ _ w.in_ok-refuse_if-5.ensures) w.cell_place-at.ensures.0 o (valued (goal.at.loop-i-preserved c).After-place_in-v) w.if-k-eq85.true w.use_rule.ensures (none_broken _ _ w.in_ok-refuse_if-7.ensures) w.tallies-is w.used.ensures w.s-is)
      | else-is_lock_letter+else-s-v-2+in_ok-refuse_if-5+then-k-eq85+in_ok-refuse_if-7+else-not-is_used w ↦ (let o : Led u = (elim w.if-declared-v.branch [
        | then-declared-v+in_ok-refuse_if-6 z ↦ lead_kept u (sym c.is_letter.ensures ∙ c.if-not-is_letter.false) c.if-n-ge2000.false c.if-s-t.false (sym c.is_lock_letter.ensures ∙ w.if-is_lock_letter.false) w.if-s-v-2.false w.barred_rule-else-is_lock_letter.ensures (none_broken _ _ w.in_ok-refuse_if-5.ensures) w.cell_place-at.ensures.0 z.lead_of-lead.ensures (none_broken _ _ z.in_ok-refuse_if-6.ensures)
        | else-declared-v z ↦ lead_free u (sym c.is_letter.ensures ∙ c.if-not-is_letter.false) c.if-n-ge2000.false c.if-s-t.false (sym c.is_lock_letter.ensures ∙ w.if-is_lock_letter.false) w.if-s-v-2.false w.barred_rule-else-is_lock_letter.ensures (none_broken _ _ w.in_ok-refuse_if-5.ensures) w.cell_place-at.ensures.0 z.if-declared-v.false
      ]) in unused u (sym c.is_letter.ensures ∙ c.if-not-is_letter.false) c.if-n-ge2000.false c.if-s-t.false (sym c.is_lock_letter.ensures ∙ w.if-is_lock_letter.false) w.if-s-v-2.false w.barred_rule-else-is_lock_letter.ensures (none_broken _ _ w.in_ok-refuse_if-5.ensures) w.cell_place-at.ensures.0 o (valued (goal.at.loop-i-preserved c).After-place_in-v) w.if-k-eq85.true w.use_rule.ensures (none_broken _ _ w.in_ok-refuse_if-7.ensures) w.tallies-is (sym w.is_used.ensures ∙ w.if-not-is_used.false) w.s-is)
      | else-is_lock_letter+else-s-v-2+in_ok-refuse_if-5+else-k-eq85+then-k-2+in_ok-refuse_if-8 w ↦ (let o : Led u = (elim w.if-declared-v.branch [
        | then-declared-v+in_ok-refuse_if-6 z ↦ lead_kept u (sym c.is_letter.ensures ∙ c.if-not-is_letter.false) c.if-n-ge2000.false c.if-s-t.false (sym c.is_lock_letter.ensures ∙ w.if-is_lock_letter.false) w.if-s-v-2.false w.barred_rule-else-is_lock_letter.ensures (none_broken _ _ w.in_ok-refuse_if-5.ensures) w.cell_place-at.ensures.0 z.lead_of-lead.ensures (none_broken _ _ z.in_ok-refuse_if-6.ensures)
        | else-declared-v z ↦ lead_free u (sym c.is_letter.ensures ∙ c.if-not-is_letter.false) c.if-n-ge2000.false c.if-s-t.false (sym c.is_lock_letter.ensures ∙ w.if-is_lock_letter.false) w.if-s-v-2.false w.barred_rule-else-is_lock_letter.ensures (none_broken _ _ w.in_ok-refuse_if-5.ensures) w.cell_place-at.ensures.0 z.if-declared-v.false
      ]) in reads_kept u (sym c.is_letter.ensures ∙ c.if-not-is_letter.false) c.if-n-ge2000.false c.if-s-t.false (sym c.is_lock_letter.ensures ∙ w.if-is_lock_letter.false) w.if-s-v-2.false w.barred_rule-else-is_lock_letter.ensures (none_broken _ _ w.in_ok-refuse_if-5.ensures) w.cell_place-at.ensures.0 o (valued (goal.at.loop-i-preserved c).After-place_in-v) (reads_arm c.letter_in-k.result w.if-k-2.true) w.slot_place.ensures.0 w.slot_place-end.ensures.0 w.reads_turn-turn.ensures (none_broken _ _ w.in_ok-refuse_if-8.ensures) w.s-is w.tallies-is)
      | else-is_lock_letter+else-s-v-2+in_ok-refuse_if-5+else-k-eq85+else-k-2+then-k-3+in_ok-refuse_if-9 w ↦ (let o : Led u = (elim w.if-declared-v.branch [
        | then-declared-v+in_ok-refuse_if-6 z ↦ lead_kept u (sym c.is_letter.ensures ∙ c.if-not-is_letter.false) c.if-n-ge2000.false c.if-s-t.false (sym c.is_lock_letter.ensures ∙ w.if-is_lock_letter.false) w.if-s-v-2.false w.barred_rule-else-is_lock_letter.ensures (none_broken _ _ w.in_ok-refuse_if-5.ensures) w.cell_place-at.ensures.0 z.lead_of-lead.ensures (none_broken _ _ z.in_ok-refuse_if-6.ensures)
        | else-declared-v z ↦ lead_free u (sym c.is_letter.ensures ∙ c.if-not-is_letter.false) c.if-n-ge2000.false c.if-s-t.false (sym c.is_lock_letter.ensures ∙ w.if-is_lock_letter.false) w.if-s-v-2.false w.barred_rule-else-is_lock_letter.ensures (none_broken _ _ w.in_ok-refuse_if-5.ensures) w.cell_place-at.ensures.0 z.if-declared-v.false
      ]) in stores_kept u (sym c.is_letter.ensures ∙ c.if-not-is_letter.false) c.if-n-ge2000.false c.if-s-t.false (sym c.is_lock_letter.ensures ∙ w.if-is_lock_letter.false) w.if-s-v-2.false w.barred_rule-else-is_lock_letter.ensures (none_broken _ _ w.in_ok-refuse_if-5.ensures) w.cell_place-at.ensures.0 o (valued (goal.at.loop-i-preserved c).After-place_in-v) (stores_arm c.letter_in-k.result w.if-k-3.true) w.slot_place-then-k-3.ensures.0 w.slot_place-end-then-k-3.ensures.0 w.stores_turn-turn.ensures (none_broken _ _ w.in_ok-refuse_if-9.ensures) w.s-is w.tally_after.ensures w.tallies-is)
      | else-is_lock_letter+else-s-v-2+in_ok-refuse_if-5+else-k-eq85+else-k-2+else-k-3+in_ok-refuse_if-10 w ↦ (let o : Led u = (elim w.if-declared-v.branch [
        | then-declared-v+in_ok-refuse_if-6 z ↦ lead_kept u (sym c.is_letter.ensures ∙ c.if-not-is_letter.false) c.if-n-ge2000.false c.if-s-t.false (sym c.is_lock_letter.ensures ∙ w.if-is_lock_letter.false) w.if-s-v-2.false w.barred_rule-else-is_lock_letter.ensures (none_broken _ _ w.in_ok-refuse_if-5.ensures) w.cell_place-at.ensures.0 z.lead_of-lead.ensures (none_broken _ _ z.in_ok-refuse_if-6.ensures)
        | else-declared-v z ↦ lead_free u (sym c.is_letter.ensures ∙ c.if-not-is_letter.false) c.if-n-ge2000.false c.if-s-t.false (sym c.is_lock_letter.ensures ∙ w.if-is_lock_letter.false) w.if-s-v-2.false w.barred_rule-else-is_lock_letter.ensures (none_broken _ _ w.in_ok-refuse_if-5.ensures) w.cell_place-at.ensures.0 z.if-declared-v.false
      ]) in cell_kept u (sym c.is_letter.ensures ∙ c.if-not-is_letter.false) c.if-n-ge2000.false c.if-s-t.false (sym c.is_lock_letter.ensures ∙ w.if-is_lock_letter.false) w.if-s-v-2.false w.barred_rule-else-is_lock_letter.ensures (none_broken _ _ w.in_ok-refuse_if-5.ensures) w.cell_place-at.ensures.0 o (valued (goal.at.loop-i-preserved c).After-place_in-v) (cell_arm c.letter_in-k.result (sym c.is_letter.ensures ∙ c.if-not-is_letter.false) (sym c.is_lock_letter.ensures ∙ w.if-is_lock_letter.false) w.if-k-2.false w.if-k-3.false) w.cell_turn-turn.ensures (none_broken _ _ w.in_ok-refuse_if-10.ensures) w.s-is w.tally_after-else-k-3.ensures w.tallies-is)
    ]

pub returns : goal.returns
returns c =
    let z = c.loop-i.s in
    let r = c.loop-i.invariant in
    memories_of_law z r.shape.memory c.copies_of.ensures ∙ memories_in z ∙ ap outcome_of (running_end r c.loop-i-test.false)
