-- One step: what each refusal of it says, and that a turn over the parts of a state gives the row's number and the state after the event.
use Prim.Native.Nat.{ℕ, zero, suc, ◌+◌, ◌≤◌, ◌<◌}
use native.Mathlib.Omega.{arith}
use mathlib.Core.Path.{◌≡◌, refl, sym, ap, ◌∙◌}
use mathlib.Core.Bool.{Bool, true, false, cond}
use lib.IntN.{ℤ}
use lib.ListN.{get_or, set}
use borrow.Author.Tests.{le-leb, lt-leb}
use Rattle.rules.specs.declared.Event.{Event}
use Rattle.rules.specs.declared.Kind.{Kind}
use Rattle.rules.specs.Events.{letter, place, value, among, subject_of, subject, lock_letters, is_lock_letter}
use Rattle.rules.specs.Limits.{Limits, UpToFull, full, line_after, declared}
use Rattle.rules.specs.declared.Refusal.{Refusal}
use Rattle.rules.specs.Rules.{judge, answer, refused, said, Verdict}
use Rattle.std.specs.Prelude.{Option, Some, None, Ok, Err}
use Rattle.std.specs.Option.{option_or}
use Rattle.rules.proofs.Letters.{lock_among}
use Rattle.rules.proofs.Bounds.{allowed_bounds}
use Rattle.state.specs.declared.State.{State}
use Rattle.state.specs.State.{no_hold, no_wait, words_in}
use Rattle.state.specs.Range.{in_range}
use Rattle.state.specs.Step.{var_of, lock_of, step_state}
use Rattle.state.specs.Computed.Places.{cell_place, slot_place}
use Rattle.state.proofs.Kept.{range, range_full, room, within}
use Rattle.judging.specs.declared.OnSome.{OnSome}
use Rattle.judging.specs.declared.Parts.{Parts}
use Rattle.judging.specs.declared.Turn.{Turn}
use Rattle.judging.specs.Computed.Leads.{ahead_rule, ahead_at, lead_with, lead_at}
use Rattle.judging.specs.Computed.Turns.{parts_at, turn_of, some_of}
use Rattle.judging.proofs.Rows.{found, found_none}
use Rattle.judging.proofs.AnyTurn.{at, cell_found, turn_in, any_rule, any_put}
use Rattle.machine.specs.Stepped.{unchanged, step_with, stepped}
use Rattle.machine.specs.Computed.Walk.{Turnable, answer_of, marked}
use Rattle.machine.proofs.Steps.{step_ranged}

-- a verdict that refuses nothing
pub none_broken : (o : Option ℕ) (line : ℕ) {u : Unit {0}} → ◌≡◌ {A = Verdict} (Ok u) (said (marked o line)) → o ≡ None
none_broken None line q = refl
none_broken (Some n) line q = cc

-- 8
pub step_out : (m : Limits) (s : State) (e : Event) → in_range m s ≡ false → unchanged s (refused 8 0) ≡ stepped m s e
unfolding stepped
step_out m s e r = rw r refl

-- a lock's depth is at most the number of events
pub shallow : (s : State) → in_range full s ≡ true → s.events < 2000 → (l : ℕ) → l < 8 → (get_or s.holds l no_hold).depth < 2000
shallow s r h l k = omega (arith, ((range full s r).hold l k).depth)

module _ (m : Limits) (s : State) (e : Event) (u : UpToFull m) (r : in_range m s ≡ true) where
  answered : (n : ℕ) → answer m s.counts (words_in s) e ≡ n → step_with s e n ≡ stepped m s e
  answered n a = sym (step_ranged m s e r ∙ ap (λ (k : ℕ). step_with s e k) a)

  -- 9, or 25 of the short course
  pub step_limit : (n : ℕ) → n ≡ m.excess → m.events ≤ s.events → unchanged s (refused n (line_after s.counts s.events)) ≡ stepped m s e
  step_limit zero x h = absurd (omega (arith, x, u.excess))
  step_limit (suc n) x h = answered (suc n) (unfold answer words_in in rw (le-leb m.events s.events h) (sym x))

  module _ (h : s.events < m.events) where
    -- 5
    pub step_undeclared : declared s.counts e ≡ false → unchanged s (refused 5 (line_after s.counts s.events)) ≡ stepped m s e
    step_undeclared d = answered 5 (unfold answer words_in in rw (lt-leb m.events s.events h, d) refl)

    module _ (d : declared s.counts e ≡ true) where
      pub turnable : Turnable s e
      turnable = record { ranged = range_full m s u r; room = omega (arith, h, u.events); within = within s.counts e (room m s.counts u (range m s r).counts) d }

      row : answer m s.counts (words_in s) e ≡ judge s.counts (words_in s) e
      row = unfold answer words_in in rw (lt-leb m.events s.events h, d) refl

      -- the row
      pub step_row : step_with s e (judge s.counts (words_in s) e) ≡ stepped m s e
      step_row = answered (judge s.counts (words_in s) e) row

-- ---- a turn

-- o is the number of the first rule of its row that e breaks, j the same number, or 0
module _ (s : State) (e : Event) (o : Option ℕ) (j : ℕ) (eo : o ≡ found j) where
  pub turn_stops : {a : Refusal} → ◌≡◌ {A = Verdict} (Err a) (said (marked o (line_after s.counts s.events))) → answer_of s (Err a) ≡ step_with s e j
  turn_stops = go j eo
    where
      go : (j : ℕ) → o ≡ found j → {a : Refusal} → ◌≡◌ {A = Verdict} (Err a) (said (marked o (line_after s.counts s.events))) → answer_of s (Err a) ≡ step_with s e j
      go zero eo q = cc
      go (suc n) eo {a} q = let p : a ≡ record { number = suc n; line = line_after s.counts s.events } = cc in ap (λ (z : Refusal). answer_of s (Err z)) p

  pub turn_goes : {u : Unit {0}} → ◌≡◌ {A = Verdict} (Ok u) (said (marked o (line_after s.counts s.events))) → {s' : State} → s' ≡ step_state s e → answer_of s (Ok s') ≡ step_with s e j
  turn_goes q p = ap (λ (z : State). answer_of s (Ok z)) p ∙ ap (step_with s e) (sym (found_none j (sym eo ∙ none_broken o (line_after s.counts s.events) q)))

-- the variable and the lock of an event
module _ (k : Kind) {c p : ℕ} {b : Bool} (ek : c ≡ letter k) (ep : p ≡ place k) (eb : b ≡ is_lock_letter c) where
  on_lock_law : b ≡ among lock_letters (letter k)
  on_lock_law = eb ∙ ap is_lock_letter ek ∙ lock_among (letter k)

  pub var_asked : {v : ℕ} → v ≡ cond b 0 p → v ≡ var_of k
  unfolding var_of
  var_asked e = e ∙ (λ j. cond (on_lock_law j) 0 (ep j))

  pub lock_asked : {l : ℕ} → l ≡ cond b p 0 → l ≡ lock_of k
  unfolding lock_of
  lock_asked e = e ∙ (λ j. cond (on_lock_law j) (ep j) 0)

pub bounds : (s : State) (e : Event) → Turnable s e → (s.counts.threads ≤ 8) × (s.counts.variables ≤ 16)
bounds s e u = let b = allowed_bounds s.counts (range full s u.ranged).counts in (b.0, b.1)

module _ (s : State) (e : Event) (u : Turnable s e) {k v l y : ℕ} {x : ℤ} (ek : k ≡ letter e.kind) (ev : v ≡ var_of e.kind) (el : l ≡ lock_of e.kind) (ex : x ≡ value e.kind) (ey : y ≡ subject_of k e.thread x) where
  abbrev t : ℕ
  t = e.thread

  subject_is : y ≡ subject e
  subject_is = ey ∙ (λ j. subject_of (ek j) t (ex j))

  module _ {a : Parts} {any : OnSome} {r : Turn} (ea : a ≡ parts_at s t v l y) (eo : any ≡ some_of s t s.counts.variables) (er : r ≡ turn_of a s.counts.threads any t l k x (s.events + 1))
      {d m n : Option ℕ} (ed : d ≡ ahead_rule (get_or s.waits t no_wait) a.wait s.counts.locks l k) (em : m ≡ lead_with s.counts a.cell s.cells s.stores t v k) (en : n ≡ option_or d (option_or m r.rule)) where
    parts_are : a ≡ parts_at s t (var_of e.kind) (lock_of e.kind) (subject e)
    parts_are = ea ∙ (λ j. parts_at s t (ev j) (el j) (subject_is j))

    turn_is : r ≡ turn_in s e
    turn_is = er ∙ (λ j. turn_of (parts_are j) s.counts.threads (eo j) t (el j) (ek j) (ex j) (s.events + 1))

    ahead_is : d ≡ ahead_at s t (lock_of e.kind) (letter e.kind) (value e.kind)
    ahead_is = ed ∙ (λ j. ahead_rule (get_or s.waits t no_wait) (parts_are j).wait s.counts.locks (el j) (ek j))

    rule_is : n ≡ option_or (ahead_at s t (lock_of e.kind) (letter e.kind) (value e.kind)) (option_or (lead_at s t (var_of e.kind) (letter e.kind)) (turn_in s e).rule)
    rule_is = en ∙ (λ j. option_or (ahead_is j) (option_or ((em ∙ (λ l. lead_with s.counts (parts_are l).cell s.cells s.stores t (ev l) (ek l))) j) (turn_is j).rule))

    -- the first rule of its row that the event breaks
    pub turn_rule : n ≡ found (judge s.counts (words_in s) e)
    turn_rule = rule_is ∙ any_rule s e u.within (bounds s e u).0 (bounds s e u).1

    module _ {i rb sb : ℕ} (ei : i ≡ cell_place t v) (erb : rb ≡ slot_place i a.cell.reads a.cell.reads.len) (esb : sb ≡ slot_place i a.cell.stores a.cell.stores.len) where
      place_is : i ≡ at s e
      place_is = ei ∙ ap (cell_place t) ev

      read_end : rb ≡ slot_place (at s e) (cell_found s e).reads (cell_found s e).reads.len
      read_end = erb ∙ (λ j. slot_place (place_is j) (parts_are j).cell.reads (parts_are j).cell.reads.len)

      store_end : sb ≡ slot_place (at s e) (cell_found s e).stores (cell_found s e).stores.len
      store_end = esb ∙ (λ j. slot_place (place_is j) (parts_are j).cell.stores (parts_are j).cell.stores.len)

      pub turn_put : record {
        counts = s.counts;
        events = s.events + 1;
        cells = set s.cells i r.cell;
        reads = set s.reads rb r.read;
        stores = set s.stores sb r.store;
        locked = set s.locked t r.locked;
        holds = set s.holds l r.hold;
        memory = set s.memory v r.main;
        waits = set s.waits y r.wait;
      } ≡ step_state s e
      turn_put = (λ j. record {
        counts = s.counts;
        events = s.events + 1;
        cells = set s.cells (place_is j) (turn_is j).cell;
        reads = set s.reads (read_end j) (turn_is j).read;
        stores = set s.stores (store_end j) (turn_is j).store;
        locked = set s.locked t (turn_is j).locked;
        holds = set s.holds (el j) (turn_is j).hold;
        memory = set s.memory (ev j) (turn_is j).main;
        waits = set s.waits (subject_is j) (turn_is j).wait;
      }) ∙ any_put s e u.within (shallow s u.ranged u.room (lock_of e.kind) u.within.lock)
