-- The denial names the first event that breaks 20 or 21, or 22 at the end, as these are read off the trace.
use Prim.Native.Nat.{ℕ, zero, suc, ◌+◌, ◌-◌, ◌≤◌, ◌<◌}
use native.Mathlib.Decide.{ℕ_discrete, dec_le, dec_lt}
use native.Mathlib.Omega.{arith}
use mathlib.Core.Path.{◌≡◌, refl, sym, ap, ◌∙◌, subst}
use mathlib.Core.Logic.{◌⊎◌, inl, inr}
use mathlib.Core.Bool.{Bool, true, false, not, cond, ◌&&◌, ◌||◌, and-false, or-true, true≢false, false≢true}
use mathlib.Core.List.{List, [], ◌∷◌, reverse}
use mathlib.Core.Option.{Option, none, some}
use lib.Dec.{T, eqb}
use lib.ListN.{length, drop, length-reverse}
use lib.Seq.{drop-length}
use borrow.Author.Tests.{eq-eqb, ne_eqb, eqb-true, not-true}
use Rattle.rules.specs.declared.Event.{Event}
use Rattle.rules.specs.declared.Counts.{Counts}
use Rattle.rules.specs.Events.{B, P, is, of, on, lock_letters, on_lock, locks}
use Rattle.rules.specs.Limits.{line_after}
use Rattle.rules.proofs.Bounds.{first_line_low}
use Rattle.rules.specs.Words.{by, locks_by, latest, letter_in, pending}
use Rattle.rules.specs.Rules as Rules
use Rattle.rules.specs.Rules.{loc, words_of, held, waits_on, waits}
use Rattle.rules.proofs.Laws.{is_true, cases, is_apart, some_has}
use Rattle.serial.specs.Lists.{All}
use Rattle.sections.specs.Refusals.{after_unlock, not_under, late_lock, unfinished, denial_from, denial}
use Rattle.sections.specs.Places.{position, at_position, so_far, event_at, up_to, uses_or_assigns, unlocks_by, passes, lock_at, holds_some}
use Rattle.sections.specs.Order.{line_of}
use Rattle.sections.specs.Denials.{Denial, fit, denied, Unguarded, LateLock, Unfinished, Clean, Orderly, Denies, unguarded, late}
use Rattle.sections.specs.Denials as D
use Rattle.sections.proofs.Valid.{Declared, variable_low}
use Rattle.sections.proofs.Whole.{from_held, holds_known, waits_known}
use Rattle.sections.proofs.Ordered.{some_witness, no_debt, all_turn}
use Rattle.sections.proofs.Places.{position_line, position_after, position_last, position_up, position_to, position_ahead, unlocks_at, holds_then, lock_line_law, unlock_line, holding_line, Here, at_place, nothing_past, so_far_all, length_so_far, lock_signal, unlock_signal, holds_more}

-- ---- Booleans

pub both_l : (a b : Bool) → (a && b) ≡ true → a ≡ true
both_l true b h = refl
both_l false b h = h

pub both_r : (a b : Bool) → (a && b) ≡ true → b ≡ true
both_r true b h = h
both_r false b h = absurd (false≢true h)

one_of : (a b : Bool) → (a || b) ≡ true → (a ≡ true) ⊎ (b ≡ true)
one_of true b h = inl refl
one_of false b h = inr h

some_same : (x y : Event) → ◌≡◌ {A = Option Event} (some x) (some y) → x ≡ y
some_same x y p = cc

pub some_none : (x : Event) → ◌≡◌ {A = Option Event} none (some x) → ⊥
some_none x p = let z : ◌≡◌ {A = ℕ} 0 1 = cc in omega arith

-- ---- the line after n events

pub event_after : (hd : Counts) (n : ℕ) (events : List Event) → event_at hd (line_after hd n) events ≡ at_position (suc n) events
unfolding event_at
event_after hd n events = rw (position_after hd n)

pub up_to_last : (hd : Counts) (n : ℕ) (events : List Event) → up_to hd (line_after hd n - 1) events ≡ so_far n events
unfolding up_to
up_to_last hd n events = rw (position_last hd n)

-- a line in which an event stands is one of the trace's
pub event_below : (hd : Counts) (n : ℕ) (events : List Event) (e : Event) → event_at hd n events ≡ some e → n < line_after hd (length events)
unfolding event_at
event_below hd n events e s = go (position hd n) refl s
  where
    go : (p : ℕ) → position hd n ≡ p → at_position p events ≡ some e → n < line_after hd (length events)
    go zero q s = unfold position in omega arith
    go (suc p) q s = see (dec_le (length events) p)
      where
        see : Dec (length events ≤ p) → n < line_after hd (length events)
        see (yes i) = absurd (some_none e (sym (nothing_past p events i) ∙ s))
        see (no i) = position_ahead hd n (line_after hd (length events)) (rw (q, position_after hd (length events)) (omega arith))

-- ---- 20

module _ (hd : Counts) (guard : ℕ → ℕ) (events : List Event) where
  to_20 : (n : ℕ) (e : Event) → at_position (suc n) events ≡ some e → Unguarded hd guard events (line_after hd n) → not_under guard (so_far n events) e ≡ true
  unfolding not_under
  to_20 n e s r =
      let q : r.event ≡ e = some_same r.event e (sym r.stands ∙ event_after hd n events ∙ s) in
      let b : held (words_of (so_far n events)) r.event.thread (guard (loc r.event)) ≡ false =
      subst (λ l. held (words_of l) r.event.thread (guard (loc r.event)) ≡ false) (up_to_last hd n events) r.not_under in
      subst (λ x. (uses_or_assigns x && not (held (words_of (so_far n events)) x.thread (guard (loc x)))) ≡ true) q (rw (r.used, b))

  from_20 : (n : ℕ) (e : Event) → at_position (suc n) events ≡ some e → not_under guard (so_far n events) e ≡ true → Unguarded hd guard events (line_after hd n)
  unfolding not_under
  from_20 n e s r = record {
    event = e;
    stands = event_after hd n events ∙ s;
    used = both_l (uses_or_assigns e) (not (held (words_of (so_far n events)) e.thread (guard (loc e)))) r;
    not_under = rw (up_to_last hd n events)
        (not-true (held (words_of (so_far n events)) e.thread (guard (loc e))) (both_r (uses_or_assigns e) (not (held (words_of (so_far n events)) e.thread (guard (loc e)))) r));
  }

-- ---- 21

-- t has done an N, and held something ever since, up to position n
record Shrinking (c : Counts) (t : ℕ) (events : List Event) (n : ℕ) : Type 0 where
  earlier : ℕ
  before : earlier ≤ n
  unlocks : unlocks_at t events earlier ≡ true
  same : (q : ℕ) → earlier ≤ q → q ≤ n → holds_then c t events q ≡ true

not_at_zero : (t q : ℕ) (events : List Event) → q ≤ 0 → unlocks_at t events q ≡ true → ⊥
unfolding unlocks_at at_position
not_at_zero t zero events i u = false≢true u
not_at_zero t (suc q) events i u = omega arith

module _ (c : Counts) (events : List Event) (d : All (Declared c) events) where
  at : (n : ℕ) → n < length events → Here (Declared c) events n
  at n h = at_place (Declared c) events n d h

  to_shrinking : (t n : ℕ) → n ≤ length events → after_unlock c t (so_far n events) ≡ true → Shrinking c t events n
  to_shrinking t zero h b = absurd (false≢true (unfold so_far after_unlock in b))
  to_shrinking t (suc n) h b = go (one_of (unlocks_by t e) (after_unlock c t (so_far n events)) (both_r (holds_some c t (e ∷ so_far n events)) (unlocks_by t e || after_unlock c t (so_far n events)) here)) (to_shrinking t n (omega arith))
    where
      w : Here (Declared c) events n
      w = at n (omega arith)

      e : Event
      e = w.event

      here : (holds_some c t (e ∷ so_far n events) && (unlocks_by t e || after_unlock c t (so_far n events))) ≡ true
      here = unfold after_unlock in subst (λ l. after_unlock c t l ≡ true) w.more b

      now : holds_then c t events (suc n) ≡ true
      now = holds_more c t (suc n) events (e ∷ so_far n events) w.more ∙ both_l (holds_some c t (e ∷ so_far n events)) (unlocks_by t e || after_unlock c t (so_far n events)) here

      only : (q : ℕ) → suc n ≤ q → q ≤ suc n → holds_then c t events q ≡ true
      only q i j = subst (λ p. holds_then c t events p ≡ true) (let r : suc n ≡ q = omega arith in r) now

      more : Shrinking c t events n → Shrinking c t events (suc n)
      more s = record { earlier = s.earlier; before = omega (arith, s.before); unlocks = s.unlocks; same = λ q i j. see q i j (ℕ_discrete q (suc n)) }
        where
          see : (q : ℕ) → s.earlier ≤ q → q ≤ suc n → Dec (q ≡ suc n) → holds_then c t events q ≡ true
          see q i j (yes p) = subst (λ p. holds_then c t events p ≡ true) (sym p) now
          see q i j (no p) = s.same q i (omega arith)

      go : ((unlocks_by t e) ≡ true) ⊎ (after_unlock c t (so_far n events) ≡ true) → (after_unlock c t (so_far n events) ≡ true → Shrinking c t events n) → Shrinking c t events (suc n)
      go (inl p) r = record { earlier = suc n; before = omega arith; unlocks = unlock_signal t (suc n) events e w.stands ∙ p; same = only }
      go (inr p) r = more (r p)

  from_shrinking : (t n : ℕ) → n ≤ length events → Shrinking c t events n → after_unlock c t (so_far n events) ≡ true
  from_shrinking t zero h s = absurd (not_at_zero t s.earlier events s.before s.unlocks)
  from_shrinking t (suc n) h s = subst (λ l. after_unlock c t l ≡ true) (sym w.more) (fold (go (ℕ_discrete s.earlier (suc n)) (from_shrinking t n (omega arith))))
    where
      w : Here (Declared c) events n
      w = at n (omega arith)

      e : Event
      e = w.event

      now : holds_some c t (e ∷ so_far n events) ≡ true
      now = sym (holds_more c t (suc n) events (e ∷ so_far n events) w.more) ∙ s.same (suc n) s.before (omega arith)

      fold : (unlocks_by t e || after_unlock c t (so_far n events)) ≡ true → after_unlock c t (e ∷ so_far n events) ≡ true
      fold p = unfold after_unlock in rw now p

      or_r : (a b : Bool) → b ≡ true → (a || b) ≡ true
      or_r a b p = rw p (or-true a)

      go : Dec (s.earlier ≡ suc n) → (Shrinking c t events n → after_unlock c t (so_far n events) ≡ true) → (unlocks_by t e || after_unlock c t (so_far n events)) ≡ true
      go (yes p) r = rw (sym (unlock_signal t (suc n) events e w.stands) ∙ subst (λ q. unlocks_at t events q ≡ true) p s.unlocks)
      go (no p) r = or_r (unlocks_by t e) (after_unlock c t (so_far n events))
          (r (record { earlier = s.earlier; before = omega (arith, s.before); unlocks = s.unlocks; same = λ q i j. s.same q i (omega arith) }))

  to_21 : (n : ℕ) (e : Event) → n < length events → at_position (suc n) events ≡ some e → LateLock c events (line_after c n) → late_lock c (so_far n events) e ≡ true
  unfolding late_lock locks_by of
  to_21 n e h q r =
      let k : (locks e && eqb e.thread r.thread) ≡ true = sym (lock_signal r.thread (suc n) events e q) ∙ sym (lock_line_law c r.thread events (line_after c n) (suc n) (position_after c n)) ∙ r.locks in
      let t : e.thread ≡ r.thread = eqb-true e.thread r.thread (both_r (locks e) (eqb e.thread r.thread) k) in
      rw (both_l (locks e) (eqb e.thread r.thread) k, t)
      (from_shrinking r.thread n (omega arith) (record { earlier = position c r.earlier; before = before; unlocks = sym (unlock_line c r.thread events r.earlier (position c r.earlier) refl) ∙ r.unlocks; same = same }))
    where
      before : position c r.earlier ≤ n
      before = let i : position c r.earlier < position c (line_after c n) = position_up c r.earlier (line_after c n) (rw (position_after c n) (omega arith)) r.before in omega (arith, i, position_after c n)

      same : (p : ℕ) → position c r.earlier ≤ p → p ≤ n → holds_then c r.thread events p ≡ true
      same p i j = sym (holding_line c r.thread events (line_of c p) p (position_line c p)) ∙ r.same (line_of c p) (unfold position in omega arith) (omega arith)

  from_21 : (n : ℕ) (e : Event) → n < length events → at_position (suc n) events ≡ some e → late_lock c (so_far n events) e ≡ true → LateLock c events (line_after c n)
  unfolding late_lock locks_by of
  from_21 n e h q r = record {
    thread = e.thread;
    locks = lock_line_law c e.thread events (line_after c n) (suc n) (position_after c n) ∙ lock_signal e.thread (suc n) events e q
        ∙ rw (both_l (locks e) (after_unlock c e.thread (so_far n events)) r, eq-eqb e.thread e.thread refl);
    earlier = line_of c s.earlier;
    before = omega (arith, s.before, first_line_low c);
    unlocks = unlock_line c e.thread events (line_of c s.earlier) s.earlier (position_line c s.earlier) ∙ s.unlocks;
    same = λ p i j. holding_line c e.thread events p (position c p) refl
        ∙ s.same (position c p) (rw (position_line c s.earlier) at (position_to c (line_of c s.earlier) p i)) (to_last p j);
  }
    where
      s : Shrinking c e.thread events n
      s = to_shrinking e.thread n (omega arith) (both_r (locks e) (after_unlock c e.thread (so_far n events)) r)

      to_last : (p : ℕ) → p < line_after c n → position c p ≤ n
      to_last p j = unfold position in omega arith

-- ---- 22

-- a variable that is not declared is not owed
no_debt_on : (h : Counts) (t v : ℕ) (es : List Event) → All (Declared h) es → h.variables ≤ v → pending t v es ≡ false
unfolding pending latest letter_in by on
no_debt_on h t v [] d q = refl
no_debt_on h t v (e ∷ es) d q = rw not_on (no_debt_on h t v es d.1 q)
  where
    not_on : (is (P ∷ B ∷ []) e && (of t e && on v e)) ≡ false
    not_on = cases (is (P ∷ B ∷ []) e)
        (λ p. let i = variable_low h e d.0 (unfold on_lock in is_apart (P ∷ B ∷ []) lock_letters e tt (subst T (sym p) tt)) in rw (ne_eqb (loc e) v (λ r. omega (arith, i, r, q)), and-false (of t e)) (and-false (is (P ∷ B ∷ []) e)))
        (λ p. rw p)

module _ (h : Counts) (events : List Event) (d : All (Declared h) events) where
  turned : All (Declared h) (reverse events)
  turned = all_turn (Declared h) events [] d tt

  or_left : (a b : Bool) → a ≡ true → (a || b) ≡ true
  or_left a b p = rw p

  or_right : (a b : Bool) → b ≡ true → (a || b) ≡ true
  or_right a b p = rw p (or-true a)

  owes : ℕ → Bool
  owes t = Rules.some h.variables (λ v. pending t v (reverse events))

  -- what 22 asks of one thread
  open? : ℕ → Bool
  open? t = holds_some h t (reverse events) || (owes t || waits h (words_of (reverse events)) t)

  pub to_22 : Unfinished events → unfinished h (reverse events) ≡ true
  unfolding unfinished owes open?
  to_22 (inl r) =
      some_has h.threads open? r.thread who.0
      (or_left (holds_some h r.thread (reverse events)) (owes r.thread || waits h (words_of (reverse events)) r.thread)
      (unfold holds_some in some_has h.locks (λ l. held (words_of (reverse events)) r.thread l) r.lock who.1 r.held))
    where
      who : (r.thread < h.threads) × (r.lock < h.locks)
      who = holds_known h r.thread r.lock (reverse events) turned (from_held r.thread r.lock (reverse events) r.held)
  to_22 (inr (inl r)) =
      some_has h.threads open? r.thread (declared (dec_lt r.thread h.threads))
      (or_right (holds_some h r.thread (reverse events)) (owes r.thread || waits h (words_of (reverse events)) r.thread)
      (or_left (owes r.thread) (waits h (words_of (reverse events)) r.thread)
      (some_has h.variables (λ v. pending r.thread v (reverse events)) r.variable (named (dec_lt r.variable h.variables)) r.pending)))
    where
      declared : Dec (r.thread < h.threads) → r.thread < h.threads
      declared (yes i) = i
      declared (no i) = absurd (true≢false (sym r.pending ∙ no_debt h r.thread r.variable (reverse events) turned (omega arith)))

      named : Dec (r.variable < h.variables) → r.variable < h.variables
      named (yes i) = i
      named (no i) = absurd (true≢false (sym r.pending ∙ no_debt_on h r.thread r.variable (reverse events) turned (omega arith)))
  to_22 (inr (inr r)) =
      some_has h.threads open? r.thread who.0
      (or_right (holds_some h r.thread (reverse events)) (owes r.thread || waits h (words_of (reverse events)) r.thread)
      (or_right (owes r.thread) (waits h (words_of (reverse events)) r.thread)
      (unfold waits in some_has h.locks (λ l. waits_on (words_of (reverse events)) r.thread l) r.lock who.1 r.waiting)))
    where
      who : (r.thread < h.threads) × (r.lock < h.locks)
      who = waits_known h r.thread r.lock (reverse events) turned r.waiting

  pub from_22 : unfinished h (reverse events) ≡ true → Unfinished events
  unfolding unfinished holds_some owes open? waits
  from_22 b = go (one_of (holds_some h t (reverse events)) (owes t || waits h (words_of (reverse events)) t) (is_true w.1))
    where
      w : (t : ℕ) × T (holds_some h t (reverse events) || (owes t || waits h (words_of (reverse events)) t))
      w = some_witness h.threads open? (subst T (sym b) tt)

      t : ℕ
      t = w.0

      late : (owes t ≡ true) ⊎ (waits h (words_of (reverse events)) t ≡ true) → Unfinished events
      late (inl p) =
          let v : (v : ℕ) × T (pending t v (reverse events)) = some_witness h.variables (λ v. pending t v (reverse events)) (subst T (sym p) tt) in
          inr (inl (record { thread = t; variable = v.0; pending = is_true v.1 }))
      late (inr p) =
          let l : (l : ℕ) × T (waits_on (words_of (reverse events)) t l) = some_witness h.locks (λ l. waits_on (words_of (reverse events)) t l) (subst T (sym p) tt) in
          inr (inr (record { thread = t; lock = l.0; waiting = is_true l.1 }))

      go : (holds_some h t (reverse events) ≡ true) ⊎ ((owes t || waits h (words_of (reverse events)) t) ≡ true) → Unfinished events
      go (inl p) =
          let l : (l : ℕ) × T (held (words_of (reverse events)) t l) = some_witness h.locks (λ l. held (words_of (reverse events)) t l) (subst T (sym p) tt) in
          inl (record { thread = t; lock = l.0; held = is_true l.1 })
      go (inr p) = late (one_of (owes t) (waits h (words_of (reverse events)) t) p)

-- nothing stands past the end
pub unguarded_below : (hd : Counts) (guard : ℕ → ℕ) (events : List Event) (n : ℕ) → Unguarded hd guard events n → n < line_after hd (length events)
unguarded_below hd guard events n r = event_below hd n events r.event r.stands

pub late_below : (h : Counts) (events : List Event) (n : ℕ) → LateLock h events n → n < line_after h (length events)
unfolding lock_at
late_below h events n r = go (event_at h n events) refl r.locks
  where
    go : (o : Option Event) → event_at h n events ≡ o → passes (locks_by r.thread) o ≡ true → n < line_after h (length events)
    go none q k = absurd (false≢true k)
    go (some e) q k = event_below h n events e q

-- ---- the whole

-- what an answer says of the trace
abbrev pub Says : Counts → (ℕ → ℕ) → List Event → Denial → Type 0
Says h guard events fit = Orderly h guard events
Says h guard events (denied number line) = Denies h guard events number line

module _ (h : Counts) (guard : ℕ → ℕ) (events : List Event) (d : All (Declared h) events) where
  walk : (k n : ℕ) → n + k ≡ length events → Clean h guard events (line_after h n) → Says h guard events (denial_from h guard (so_far n events) (drop n events))
  unfolding denial_from
  walk zero n l c = subst (λ i. Says h guard events (denial_from h guard (so_far i events) (drop i events))) (sym whole) (rw (drop-length events, so_far_all events) (go (unfinished h (reverse events)) refl))
    where
      whole : n ≡ length events
      whole = omega arith

      clean : Clean h guard events (line_after h (length events))
      clean = subst (λ i. Clean h guard events (line_after h i)) whole c

      go : (b : Bool) → unfinished h (reverse events) ≡ b → Says h guard events (cond b (denied 22 (line_after h (length (reverse events)))) fit)
      go true q = rw (length-reverse events) (D.unfinished refl refl clean (from_22 h events d q))
      go false q = record {
        guarded = λ p r. clean.guarded p (unguarded_below h guard events p r) r;
        two_phase = λ p r. clean.two_phase p (late_below h events p r) r;
        finished = λ r. true≢false (sym (to_22 h events d r) ∙ q);
      }
  walk (suc k) n l c = rw w.rest (go (not_under guard es e) refl (late_lock h es e) refl (walk k (suc n) (omega arith)))
    where
      w : Here (Declared h) events n
      w = at_place (Declared h) events n d (omega arith)

      e : Event
      e = w.event

      es : List Event
      es = so_far n events

      line : line_after h n ≡ line_after h (length es)
      line = ap (line_after h) (sym (length_so_far n events (omega arith)))

      more : not_under guard es e ≡ false → late_lock h es e ≡ false → Clean h guard events (line_after h (suc n))
      more p q = record { guarded = λ i j. see i j (ℕ_discrete i (line_after h n)); two_phase = λ i j. sees i j (ℕ_discrete i (line_after h n)) }
        where
          see : (i : ℕ) → i < line_after h (suc n) → Dec (i ≡ line_after h n) → Unguarded h guard events i → ⊥
          see i j (yes x) r = true≢false (sym (to_20 h guard events n e w.stands (subst (λ i. Unguarded h guard events i) x r)) ∙ p)
          see i j (no x) r = c.guarded i (omega arith) r

          sees : (i : ℕ) → i < line_after h (suc n) → Dec (i ≡ line_after h n) → LateLock h events i → ⊥
          sees i j (yes x) r = true≢false (sym (to_21 h events d n e (omega arith) w.stands (subst (λ i. LateLock h events i) x r)) ∙ q)
          sees i j (no x) r = c.two_phase i (omega arith) r

      go : (b : Bool) → not_under guard es e ≡ b → (b' : Bool) → late_lock h es e ≡ b' → (Clean h guard events (line_after h (suc n)) → Says h guard events (denial_from h guard (so_far (suc n) events) (drop (suc n) events)))
          → Says h guard events (cond b (denied 20 (line_after h (length es))) (cond b' (denied 21 (line_after h (length es))) (denial_from h guard (e ∷ es) (drop (suc n) events))))
      go true p b' q r = subst (λ i. Denies h guard events 20 i) line (unguarded refl c (from_20 h guard events n e w.stands p))
      go false p true q r = subst (λ i. Denies h guard events 21 i) line (late refl c (from_21 h events d n e (omega arith) w.stands q))
      go false p false q r = subst (λ l. Says h guard events (denial_from h guard l (drop (suc n) events))) w.more (r (more p q))

  -- nothing stands before the first event line
  start : Clean h guard events (line_after h 0)
  start = record { guarded = λ q i r. nothing q i r.event r.stands; two_phase = λ q i r. late_none q i r.thread r.locks }
    where
      early : (q : ℕ) → q < line_after h 0 → position h q ≡ 0
      early q i = unfold position in omega arith

      nothing : (q : ℕ) → q < line_after h 0 → (e : Event) → event_at h q events ≡ some e → ⊥
      nothing q i e s = some_none e (unfold event_at at_position in rw (early q i) at s)

      late_none : (q : ℕ) → q < line_after h 0 → (t : ℕ) → lock_at h t events q ≡ true → ⊥
      late_none q i t k = false≢true (unfold lock_at event_at at_position in rw (early q i) at k)

  pub says : Says h guard events (denial h guard events)
  unfolding denial
  says = unfold so_far in walk (length events) 0 (omega arith) start

  pub orderly_fit : Orderly h guard events → denial h guard events ≡ fit
  orderly_fit o = go (denial h guard events) says
    where
      go : (x : Denial) → Says h guard events x → x ≡ fit
      go fit s = refl
      go (denied number line) (unguarded a c r) = absurd (o.guarded line r)
      go (denied number line) (late a c r) = absurd (o.two_phase line r)
      go (denied number line) (D.unfinished a b c r) = absurd (o.finished r)
