-- 29 and 30 from the waiting of threads: what `ahead_at` and `barred_rule` compute is 29 and 30 of the rules.
use Prim.Native.Nat.{ℕ, ◌+◌}
use mathlib.Core.Path.{◌≡◌, refl, sym, ap, ◌∙◌}
use mathlib.Core.Bool.{Bool, true, false, not, cond, ◌&&◌, ◌||◌, or-false}
use mathlib.Core.List.{[], ◌∷◌}
use lib.Dec.{eqb, ltb}
use lib.IntN.{ℤ}
use lib.ListN.{get_or}
use Rattle.std.specs.Prelude.{Option, Some, None}
use Rattle.rules.specs.declared.Event.{Event}
use Rattle.rules.specs.Events.{C, F, R, W, letter, place, value, among, is, subject_of, subject, lock_letters}
use Rattle.rules.specs.Rules.{waits, of_waiting, not_notified, breaks, first_broken}
use Rattle.rules.proofs.Laws.{or_false_left, or_false_right, cases, some_ext}
use Rattle.rules.proofs.Letters.{eqb_turn}
use Rattle.state.specs.declared.Waiting.{Waiting}
use Rattle.state.specs.declared.State.{State}
use Rattle.state.specs.State.{no_wait, remembered_of, words_in}
use Rattle.state.specs.Step.{lock_of}
use Rattle.judging.specs.Computed.Leads.{is_waiting, is_barred, is_untold, ahead_rule, barred_rule, ahead_at}
use Rattle.judging.proofs.Locks.{found_below}
use Rattle.judging.proofs.Rows.{found, found_cond, ahead}
use Rattle.judging.proofs.Turned.{By, no_lock_law}

-- a thread waits on the lock that its waiting names
pub waits_same : (s : State) (t : ℕ) → is_waiting (get_or s.waits t no_wait) s.counts.locks ≡ waits s.counts (words_in s) t
unfolding is_waiting waits words_in remembered_of
waits_same s t = sym (some_ext s.counts.locks (λ l. ltb 0 (remembered_of w l)) (λ l. eqb w.lock (l + 1) && ltb 0 w.depth) (λ l k. on (eqb w.lock (l + 1))) ∙ found_below w.lock (λ l. ltb 0 w.depth) s.counts.locks)
  where
    w : Waiting
    w = get_or s.waits t no_wait

    on : (b : Bool) → ltb 0 (cond b w.depth 0) ≡ (b && ltb 0 w.depth)
    on true = refl
    on false = refl

module _ (s : State) (e : Event) where
  abbrev k : ℕ
  k = letter e.kind

  barred_same : is_barred (get_or s.waits e.thread no_wait) s.counts.locks k ≡ of_waiting s.counts (words_in s) e
  unfolding is_barred of_waiting is
  barred_same = rw (waits_same s e.thread, eqb_turn k C, eqb_turn k R, eqb_turn k W) (ap (λ b. not b && waits s.counts (words_in s) e.thread) (right (eqb C k) (eqb R k) (eqb W k)))
    where
      right : (a b c : Bool) → (a || b || c) ≡ (a || (b || (c || false)))
      right true b c = refl
      right false true c = refl
      right false false true = refl
      right false false false = refl

  untold_same : is_untold (get_or s.waits (subject e) no_wait) (place e.kind) k ≡ not_notified (words_in s) e
  unfolding is_untold not_notified is words_in
  untold_same = rw (eqb_turn k F, eqb_turn k C, or-false (eqb F k), or-false (eqb C k)) refl

  ahead_same : ahead_rule (get_or s.waits e.thread no_wait) (get_or s.waits (subject e) no_wait) s.counts.locks (place e.kind) k ≡ found (ahead s.counts (words_in s) e)
  unfolding ahead_rule first_broken breaks
  ahead_same = (λ j. cond (barred_same j) (Some 29) (cond (untold_same j) (Some 30) None)) ∙ sym (simp found_cond)

-- an event that is neither F nor C does not break 30, whatever lock and subject it is asked of
barred_ahead : (a z : Waiting) (n l k : ℕ) → among (F ∷ C ∷ []) k ≡ false → barred_rule a n k ≡ ahead_rule a z n l k
unfolding barred_rule ahead_rule is_untold
barred_ahead a z n l k h = sym (rw (eqb_turn k F, eqb_turn k C, or_false_left (eqb F k) (eqb C k || false) h, or_false_left (eqb C k) false (or_false_right (eqb F k) (eqb C k || false) h)) refl)

-- nor does one on a variable
pub no_untold : (k : ℕ) → among lock_letters k ≡ false → among (F ∷ C ∷ []) k ≡ false
no_untold k h = let q = no_lock_law k h in rw (q.3, q.4) refl

pub ahead_is : (s : State) (e : Event) → ahead_at s e.thread (lock_of e.kind) (letter e.kind) (value e.kind) ≡ found (ahead s.counts (words_in s) e)
ahead_is s e =
    let own = get_or s.waits e.thread no_wait in
    let z = get_or s.waits (subject e) no_wait in
    let n = s.counts.locks in
    let k = letter e.kind in
    cases (among lock_letters k)
    (λ q. ap (λ (l : ℕ). ahead_rule own z n l k) (let p : lock_of e.kind ≡ place e.kind = unfold lock_of in rw q refl in p))
    (λ q. sym (barred_ahead own z n (lock_of e.kind) k (no_untold k q)) ∙ barred_ahead own z n (place e.kind) k (no_untold k q))
    ∙ ahead_same s e

-- an event by its numbers; u is its subject
module _ (s : State) (e : Event) {t v k : ℕ} {x : ℤ} (n : By e t v k x) where
  pub ahead_by : {u : ℕ} → u ≡ subject_of k t x → {r : Option ℕ} → r ≡ ahead_rule (get_or s.waits t no_wait) (get_or s.waits u no_wait) s.counts.locks v k → r ≡ found (ahead s.counts (words_in s) e)
  ahead_by eu er = er ∙ (λ j. ahead_rule (get_or s.waits t no_wait) (get_or s.waits (eu j) no_wait) s.counts.locks v k)
      ∙ (λ j. ahead_rule (get_or s.waits (n.thread j) no_wait) (get_or s.waits (subject_of (n.letter j) (n.thread j) (n.value j)) no_wait) s.counts.locks (n.place j) (n.letter j)) ∙ ahead_same s e

  -- neither F nor C
  pub barred_by : among (F ∷ C ∷ []) k ≡ false → {r : Option ℕ} → r ≡ barred_rule (get_or s.waits t no_wait) s.counts.locks k → r ≡ found (ahead s.counts (words_in s) e)
  barred_by q er = ahead_by refl (er ∙ barred_ahead (get_or s.waits t no_wait) (get_or s.waits (subject_of k t x) no_wait) s.counts.locks v k q)
