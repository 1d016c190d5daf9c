-- One turn of the loop over a row: the steps from here are those of the whole row, and the state is in range, with its tallies.
use Prim.Native.Nat.{ℕ, zero, suc, ◌+◌, ◌-◌, ◌≤◌, ◌<◌}
use native.Mathlib.Omega.{arith}
use native.Mathlib.Numerals.{add-one}
use mathlib.Core.Path.{◌≡◌, refl, sym, ap, ◌∙◌, subst}
use mathlib.Core.Bool.{Bool, true, false, cond, ◌&&◌, ◌||◌, and-false, or-false, or_assoc}
use mathlib.Core.List.{List, [], ◌∷◌}
use mathlib.Core.Option as option
use Rattle.std.specs.Prelude.{Option, Some, None}
use lib.Dec.{T, eqb, ltb}
use lib.IntN.{ℤ, pos}
use lib.ListN.{length, get_or}
use borrow.Author.Tests.{lt-ltb, le-ltb, le-leb, lt-leb}
use Rattle.rules.specs.declared.Course.TheVariants.{Full}
use Rattle.rules.specs.declared.Event.{Event}
use Rattle.rules.specs.Events.{A, B, C, F, K, L, N, P, R, S, U, W, Y, value, among, lock_letters, is_letter, is_lock_letter, subject_of, subject}
use Rattle.rules.specs.Limits.{full, line_after, declared}
use Rattle.rules.specs.Rules.{judge, answer, accepted, refused}
use Rattle.rules.specs.Memories.{from}
use Rattle.rules.proofs.From.{from_step, from_end}
use Rattle.rules.proofs.Laws.{or_false_left, or_false_right}
use Rattle.rules.proofs.Letters.{eqb_turn, lock_among, declared_by}
use Rattle.rules.proofs.Bounds.{allowed_bounds, up_to_full}
use Rattle.records.specs.Records.{letter_in, thread_in, place_in, record_at, row_lines, unpacked, event_at}
use Rattle.records.proofs.RecordLaws.{event_some, event_none, letter_is, place_is, value_is, subject_is}
use Rattle.state.specs.declared.State.{State}
use Rattle.state.specs.State.{words_in}
use Rattle.state.specs.Range.{in_range}
use Rattle.state.specs.Step.{Within, step_state}
use Rattle.state.specs.Computed.Places.{Shape}
use Rattle.state.proofs.StepWords.{step_shape}
use Rattle.state.proofs.Kept.{range, room, within}
use Rattle.judging.proofs.Rows.{found, found_none, found_some}
use Rattle.judging.proofs.Turned.{By}
use Rattle.machine.specs.declared.Answer.{Answer}
use Rattle.machine.specs.declared.Tally.{Tally}
use Rattle.machine.specs.Stepped.{unchanged, step_with, onwards}
use Rattle.machine.specs.Computed.Walk.{walk}
use Rattle.machine.specs.Computed.Tallies.{Ready}
use Rattle.machine.proofs.Steps.{step_ranged, step_in_range}
use Rattle.machine.proofs.Tallies.{Tallied, tallied_from}

pub record Running (s₀ : State) (ws : List ℕ) (xs : List ℤ) (s : State) (ts : List Tally) (i : ℕ) : Type 0 where
  pub counts : s.counts ≡ s₀.counts
  pub threads : s.counts.threads ≤ 8
  pub variables : s.counts.variables ≤ 16
  pub locks : s.counts.locks ≤ 8
  pub shape : Shape s
  pub ranged : in_range full s ≡ true
  pub tallied : Tallied s ts
  pub same : walk full s (from (record_at s₀.counts ws xs) i (length ws - i)) ≡ walk full s₀ (row_lines s₀.counts ws xs)

pub running_start : (s : State) (ts : List Tally) (ws : List ℕ) (xs : List ℤ) → Ready s ts → Running s ws xs s ts 0
unfolding row_lines
running_start s ts ws xs r =
    let b = allowed_bounds s.counts (range full s r.ranged).counts in
    record {
      counts = refl;
      threads = b.0;
      variables = b.1;
      locks = b.2;
      shape = r.shape;
      ranged = r.ranged;
      tallied = tallied_from s ts r.counted;
      same = let z : length ws - 0 ≡ length ws = omega arith in ap (λ (n : ℕ). walk full s (from (record_at s.counts ws xs) 0 n)) z;
    }

-- behind the last record
pub running_end : {s₀ : State} {ws : List ℕ} {xs : List ℤ} {s : State} {ts : List Tally} {i : ℕ} → Running s₀ ws xs s ts i → length ws ≤ i → unchanged s accepted ≡ walk full s₀ (row_lines s₀.counts ws xs)
unfolding walk
running_end {s₀} {ws} {xs} {s} {ts} {i} r h = ap (λ (l : List (option.Option Event)). walk full s l) (sym (from_end (record_at s₀.counts ws xs) i (length ws) h)) ∙ r.same

-- a turn: the record at i has this letter, thread, and variable or lock
pub record Turn (s₀ : State) (ws : List ℕ) (xs : List ℤ) (s : State) (ts : List Tally) (i k t v : ℕ) : Type 0 where
  pub running : Running s₀ ws xs s ts i
  pub more : i < length ws
  pub letter : k ≡ letter_in (get_or ws i 0)
  pub thread : t ≡ thread_in (get_or ws i 0)
  pub place : v ≡ place_in (get_or ws i 0)

module _ {s₀ : State} {ws : List ℕ} {xs : List ℤ} {s : State} {ts : List Tally} {i k t v : ℕ} (u : Turn s₀ ws xs s ts i k t v) where
  abbrev r : Running s₀ ws xs s ts i
  r = u.running

  abbrev whole : Answer
  whole = walk full s₀ (row_lines s₀.counts ws xs)

  abbrev line : ℕ
  line = line_after s.counts s.events

  abbrev w : ℕ
  w = get_or ws i 0

  abbrev x : ℤ
  x = get_or xs i (pos 0)

  abbrev rest : List (option.Option Event)
  rest = from (record_at s₀.counts ws xs) (suc i) (length ws - suc i)

  abbrev pub here : Event
  here = event_at s₀.counts ws xs i

  opened : walk full s (record_at s₀.counts ws xs i ∷ rest) ≡ whole
  opened = ap (λ (l : List (option.Option Event)). walk full s l) (sym (from_step (record_at s₀.counts ws xs) i (length ws) u.more)) ∙ r.same

  -- 4: the number is no letter
  pub turn_none : is_letter k ≡ false → unchanged s (refused 4 line) ≡ whole
  unfolding record_at walk
  turn_none l = ap (λ (y : option.Option Event). walk full s (y ∷ rest)) (sym (event_none (line_after s₀.counts i) w x (ap is_letter (sym u.letter) ∙ l))) ∙ opened

  module _ (l : is_letter k ≡ true) where
    named : is_letter (letter_in w) ≡ true
    named = ap is_letter (sym u.letter) ∙ l

    stepping : onwards (step_with s here (answer full s.counts (words_in s) here)) (λ z. walk full z rest) ≡ whole
    unfolding record_at event_at walk
    stepping =
        ap (λ (a : Answer). onwards a (λ z. walk full z rest)) (sym (step_ranged full s here r.ranged))
        ∙ ap (λ (y : option.Option Event). walk full s (y ∷ rest)) (sym (event_some (line_after s₀.counts i) w x named)) ∙ opened

    -- the event is refused with this number
    stop : (n : ℕ) → answer full s.counts (words_in s) here ≡ n → (n ≡ 0 → ⊥) → unchanged s (refused n line) ≡ whole
    stop zero a z = absurd (z refl)
    stop (suc n) a z = ap (λ (j : ℕ). onwards (step_with s here j) (λ y. walk full y rest)) (sym a) ∙ stepping

    -- the event by its numbers
    pub numbers : By here t v k (value here.kind)
    unfolding event_at
    numbers = record {
      thread = u.thread ∙ unfold unpacked in refl;
      place = u.place ∙ sym (place_is (line_after s₀.counts i) w x named);
      letter = u.letter ∙ sym (letter_is (line_after s₀.counts i) w x named);
      value = refl;
    }

    -- an event that is not on a lock has the value in the row
    value_here : is_lock_letter k ≡ false → x ≡ value here.kind
    unfolding event_at
    value_here n = sym (value_is (line_after s₀.counts i) w x named (ap is_lock_letter (sym u.letter) ∙ n))

    pub numbers_valued : is_lock_letter k ≡ false → {y : ℤ} → y ≡ x → By here t v k y
    numbers_valued n e = record { thread = numbers.thread; place = numbers.place; letter = numbers.letter; value = e ∙ value_here n }

    -- the thread whose waiting it is about
    pub subject_here : subject_of k t x ≡ subject here
    unfolding event_at
    subject_here = (λ j. subject_of (u.letter j) (u.thread j) x) ∙ sym (subject_is (line_after s₀.counts i) w x named)

    pub subject_numbers : {y : ℕ} → y ≡ subject_of k t x → y ≡ subject_of k t (value here.kind)
    subject_numbers q = q ∙ subject_here ∙ sym (λ j. subject_of (numbers.letter j) (numbers.thread j) (value here.kind))

    -- ---- 9 and 5

    pub turn_limit : 2000 ≤ s.events → unchanged s (refused 9 line) ≡ whole
    turn_limit h = stop 9 (unfold answer words_in in rw (le-leb 2000 s.events h) refl) (λ z. omega arith)

    undeclared : s.events < 2000 → declared s.counts here ≡ false → unchanged s (refused 5 line) ≡ whole
    undeclared h d = stop 5 (unfold answer words_in in rw (lt-leb 2000 s.events h, d) refl) (λ z. omega arith)

    module _ (b : Bool) (e : is_lock_letter k ≡ b) where
      abbrev most : ℕ
      most = cond b s.counts.locks s.counts.variables

      declared_here : ltb t s.counts.threads && (ltb (subject here) s.counts.threads && ltb v most) ≡ declared s.counts here
      declared_here = ap (λ (j : ℕ). ltb j s.counts.threads && (ltb (subject here) s.counts.threads && ltb v most)) numbers.thread ∙ declared_by s.counts here k v (subject here) b numbers.place numbers.letter refl e

      pub turn_thread : s.events < 2000 → s.counts.threads ≤ t → unchanged s (refused 5 line) ≡ whole
      turn_thread h o = undeclared h (sym declared_here ∙ rw (le-ltb t s.counts.threads o) refl)

      pub turn_subject : s.events < 2000 → {y : ℕ} → y ≡ subject_of k t x → s.counts.threads ≤ y → unchanged s (refused 5 line) ≡ whole
      turn_subject h {y} q o = undeclared h (sym declared_here ∙ rw (← (q ∙ subject_here), le-ltb y s.counts.threads o) (and-false (ltb t s.counts.threads)))

      pub turn_place : s.events < 2000 → most ≤ v → unchanged s (refused 5 line) ≡ whole
      turn_place h o = undeclared h (sym declared_here ∙ rw (le-ltb v most o) (none (ltb t s.counts.threads) (ltb (subject here) s.counts.threads)))
        where
          none : (a b : Bool) → a && (b && false) ≡ false
          none true true = refl
          none true false = refl
          none false b = refl

    -- ---- the row

    pub record Known : Type 0 where
      pub room : s.events < 2000
      pub declared : declared s.counts here ≡ true
      pub within : Within here.thread here.kind

    pub known : (b : Bool) → is_lock_letter k ≡ b → s.events < 2000 → t < s.counts.threads → {y : ℕ} → y ≡ subject_of k t x → y < s.counts.threads → v < cond b s.counts.locks s.counts.variables → Known
    known b e h p {y} f o q =
        let d : declared s.counts here ≡ true = sym (declared_here b e) ∙ rw (lt-ltb t s.counts.threads p, ← (f ∙ subject_here), lt-ltb y s.counts.threads o, lt-ltb v (cond b s.counts.locks s.counts.variables) q) refl in
        record { room = h; declared = d; within = within s.counts here (room full s.counts (up_to_full Full) (range full s r.ranged).counts) d }

    module _ (o : Known) where
      row_answer : answer full s.counts (words_in s) here ≡ judge s.counts (words_in s) here
      unfolding answer words_in
      row_answer = rw (lt-leb 2000 s.events o.room, o.declared) refl

      pub turn_broken : {rule : Option ℕ} → rule ≡ found (judge s.counts (words_in s) here) → {n : ℕ} → rule ≡ Some n → unchanged s (refused n line) ≡ whole
      turn_broken e {n} z = let p = found_some (judge s.counts (words_in s) here) (sym e ∙ z) in stop n (row_answer ∙ sym p.0) p.1

      pub turn_more : {rule : Option ℕ} → rule ≡ found (judge s.counts (words_in s) here) → rule ≡ None → (s' : State) → s' ≡ step_state s here → (ts' : List Tally) → Tallied s' ts' → Running s₀ ws xs s' ts' (i + 1)
      turn_more e z s' q ts' t' =
          let a : answer full s.counts (words_in s) here ≡ 0 = row_answer ∙ found_none (judge s.counts (words_in s) here) (sym e ∙ z) in
          subst (λ (y : State). Tallied y ts' → Running s₀ ws xs y ts' (i + 1)) (sym q) (λ f. record {
            counts = unfold step_state in r.counts;
            threads = unfold step_state in r.threads;
            variables = unfold step_state in r.variables;
            locks = unfold step_state in r.locks;
            shape = step_shape s here r.shape;
            ranged = step_in_range full s here (up_to_full Full) r.shape r.ranged a;
            tallied = f;
            same = rw (add-one i) (ap (λ (j : ℕ). onwards (step_with s here j) (λ y. walk full y rest)) (sym a) ∙ stepping);
          }) t'

-- ---- the letters of the arms

pub lock_arm : (k : ℕ) → is_lock_letter k ≡ true → T (among lock_letters k)
lock_arm k e = subst T (sym (sym (lock_among k) ∙ e)) tt

-- a letter that is not F
pub own_subject : (k t : ℕ) (x : ℤ) → among (F ∷ C ∷ []) k ≡ false → subject_of k t x ≡ t
unfolding subject_of
own_subject k t x e = rw (eqb_turn k F, or_false_left (eqb F k) (eqb C k || false) e) refl

pub hold_arm : (k : ℕ) → (eqb k K || eqb k N) ≡ true → T (among (K ∷ N ∷ []) k)
hold_arm k e = let z : among (K ∷ N ∷ []) k ≡ true = rw (eqb_turn K k, eqb_turn N k, or-false) e in subst T (sym z) tt

-- a letter of the locks that is neither
pub wait_arm : (k : ℕ) → is_lock_letter k ≡ true → (eqb k K || eqb k N) ≡ false → T (among (Y ∷ F ∷ C ∷ []) k)
unfolding is_lock_letter
wait_arm k l e = let z : among (Y ∷ F ∷ C ∷ []) k ≡ true = rw (eqb_turn Y k, eqb_turn F k, eqb_turn C k, or-false) (simp (or_false_left (eqb k K) (eqb k N) e, or_false_right (eqb k K) (eqb k N) e, or_assoc) at l) in subst T (sym z) tt

pub use_arm : (k : ℕ) → k ≡ U → T (among (U ∷ R ∷ L ∷ []) k)
use_arm k e = subst (λ (m : ℕ). T (among (U ∷ R ∷ L ∷ []) m)) (sym e) tt

pub reads_arm : (k : ℕ) → (eqb k R || eqb k L) ≡ true → T (among (R ∷ L ∷ []) k)
reads_arm k e = let z : among (R ∷ L ∷ []) k ≡ true = rw (eqb_turn R k, eqb_turn L k, or-false) e in subst T (sym z) tt

pub stores_arm : (k : ℕ) → (eqb k S || (eqb k P || eqb k W)) ≡ true → T (among (S ∷ P ∷ W ∷ []) k)
stores_arm k e = let z : among (S ∷ P ∷ W ∷ []) k ≡ true = rw (eqb_turn S k, eqb_turn P k, eqb_turn W k, or-false) e in subst T (sym z) tt

-- a letter of none of the others
pub cell_arm : (k : ℕ) → is_letter k ≡ true → is_lock_letter k ≡ false → (eqb k R || eqb k L) ≡ false → (eqb k S || (eqb k P || eqb k W)) ≡ false → T (among (U ∷ A ∷ B ∷ []) k)
unfolding is_letter is_lock_letter
cell_arm k l o q p =
    let oc = or_false_left (eqb k K || eqb k N || eqb k Y || eqb k F) (eqb k C) o in
    let of = or_false_left (eqb k K || eqb k N || eqb k Y) (eqb k F) oc in
    let oy = or_false_left (eqb k K || eqb k N) (eqb k Y) of in
    let kk = or_false_left (eqb k K) (eqb k N) oy in
    let kn = or_false_right (eqb k K) (eqb k N) oy in
    let ky = or_false_right (eqb k K || eqb k N) (eqb k Y) of in
    let kf = or_false_right (eqb k K || eqb k N || eqb k Y) (eqb k F) oc in
    let kc = or_false_right (eqb k K || eqb k N || eqb k Y || eqb k F) (eqb k C) o in
    let kr = or_false_left (eqb k R) (eqb k L) q in
    let kl = or_false_right (eqb k R) (eqb k L) q in
    let ks = or_false_left (eqb k S) (eqb k P || eqb k W) p in
    let kp = or_false_left (eqb k P) (eqb k W) (or_false_right (eqb k S) (eqb k P || eqb k W) p) in
    let kw = or_false_right (eqb k P) (eqb k W) (or_false_right (eqb k S) (eqb k P || eqb k W) p) in
    let z : among (U ∷ A ∷ B ∷ []) k ≡ true = rw (eqb_turn U k, eqb_turn A k, eqb_turn B k, or-false) (simp (kk, kn, ky, kf, kc, kr, kl, ks, kp, kw, or-false, or_assoc) at l) in
    subst T (sym z) tt
