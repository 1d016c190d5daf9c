-- Lines without Y, F and C are marked as before waiting and notification; others so too, or by the first of these behind accepted events, which was 4.
use Prim.Native.Nat.{ℕ, suc, pred}
use mathlib.Core.Path.{◌≡◌, refl, sym, ap, subst, ◌∙◌}
use mathlib.Core.Bool.{true, false, not, cond, ◌||◌, and-false, or_assoc, or-false}
use mathlib.Core.List.{List, [], ◌∷◌, map}
use mathlib.Core.Logic.{◌⊎◌}
use mathlib.Core.Option.{Option, some}
use lib.Dec.{T, ltb}
use lib.ListN.{length}
use Rattle.rules.specs.declared.Event.{Event}
use Rattle.rules.specs.declared.Counts.{Counts}
use Rattle.rules.specs.Events.{A, B, C, F, K, L, N, P, R, S, U, W, Y, among, is_letter, is, locks}
use Rattle.rules.specs.Limits.{Limits}
use Rattle.rules.specs.Words.{latest, letter_in, last_at, by, locks_by, grip_after, grip, tells}
use Rattle.rules.specs.Words as Earlier
use Rattle.rules.specs.Rules.{words_of, waits, of_waiting, not_notified, breaks, rows, first_broken, judge, answer, verdict, Accepted, mark_read, past_read}
use Rattle.rules.specs.Ten.{ten_letters, is_ten, ten_line, AllTen, ten_depth, ten_locks, ten_last_lock, ten_usable, ten_words_of, ten_judge, ten_verdict, mark_ten, past_ten}
use Rattle.rules.proofs.Letters.{eqb_turn}
use Rattle.rules.proofs.Laws.{all_of, is_apart, none_some}
use Rattle.rules.proofs.Plain.{row_led}
use Rattle.rules.proofs.Fewer.{all_pass, fewer_marked, pass_same, past_pass, only_pass}
use Rattle.rules.proofs.Readings.{past_accepted}
use Rattle.rules.proofs.Fewer as Fewer

-- the thirteen letters are the ten and Y, F and C
pub ten_letters_law : (k : ℕ) → is_letter k ≡ (among ten_letters k || among (Y ∷ F ∷ C ∷ []) k)
unfolding is_letter
ten_letters_law k =
    rw (eqb_turn k U, eqb_turn k A, eqb_turn k L, eqb_turn k S, eqb_turn k R, eqb_turn k W, eqb_turn k K, eqb_turn k N, eqb_turn k P, eqb_turn k B, eqb_turn k Y, eqb_turn k F, eqb_turn k C) (simp (or_assoc, or-false) refl)

-- ---- one event of the ten kinds

module _ (e : Event) (o : is_ten e ≡ true) where
  -- is none of the others
  apart : (ks : List ℕ) → T (all_of (λ n. not (among ks n)) ten_letters) → is ks e ≡ false
  apart ks a = is_apart ten_letters ks e a (subst T (sym o) tt)

  ten_locks_law : (t : ℕ) → locks_by t e ≡ ten_locks t e
  unfolding locks_by ten_locks locks is
  ten_locks_law t = rw (apart (C ∷ []) tt)

  -- a grip with nothing remembered
  ten_grip_next : (t l d : ℕ) → grip_after t l e (record { held = d; remembered = 0 }) ≡ record { held = cond (by (K ∷ []) t l e) (suc d) (cond (by (N ∷ []) t l e) (pred d) d); remembered = 0 }
  unfolding grip_after by
  ten_grip_next t l d = rw (apart (Y ∷ []) tt, apart (C ∷ []) tt)

  ten_tells : (t l : ℕ) → tells t l e ≡ false
  unfolding tells
  ten_tells t l = rw (apart (Y ∷ F ∷ C ∷ []) tt)

-- ---- the words of lists of these

ten_last_lock_law : (t : ℕ) (es : List Event) → AllTen (map some es) → ten_last_lock t es ≡ Earlier.last_lock t es
unfolding ten_last_lock Earlier.last_lock last_at
ten_last_lock_law t [] a = refl
ten_last_lock_law t (e ∷ es) a = rw (ten_locks_law e a.0 t, ten_last_lock_law t es a.1)

ten_usable_law : (t v : ℕ) (es : List Event) → AllTen (map some es) → ten_usable t v es ≡ Earlier.usable t v es
unfolding ten_usable Earlier.usable
ten_usable_law t v [] a = refl
ten_usable_law t v (e ∷ es) a = rw (ten_locks_law e a.0 t, ten_last_lock_law t es a.1, ten_usable_law t v es a.1)

ten_grip : (t l : ℕ) (es : List Event) → AllTen (map some es) → grip t l es ≡ record { held = ten_depth t l es; remembered = 0 }
unfolding grip ten_depth
ten_grip t l [] a = refl
ten_grip t l (e ∷ es) a = rw (ten_grip t l es a.1) (ten_grip_next e a.0 t l (ten_depth t l es))

ten_latest : (t l : ℕ) (es : List Event) → AllTen (map some es) → Earlier.notified t l es ≡ false
unfolding Earlier.notified latest letter_in
ten_latest t l [] a = refl
ten_latest t l (e ∷ es) a = rw (ten_tells e a.0 t l) (ten_latest t l es a.1)

pub ten_words : (es : List Event) → AllTen (map some es) → ten_words_of es ≡ words_of es
unfolding ten_words_of words_of Earlier.depth Earlier.remembered
ten_words es a = λ i. record {
  events = length es;
  copy = λ t v. Earlier.copy t v es;
  fresh = λ t v. Earlier.fresh t v es;
  pending = λ t v. Earlier.pending t v es;
  announced = λ t v. Earlier.announced t v es;
  usable = λ t v. ten_usable_law t v es a i;
  reads = λ t v. Earlier.reads t v es;
  stores = λ t v. Earlier.stores t v es;
  last_write = λ t v. Earlier.last_write t v es;
  last_lock = λ t. ten_last_lock_law t es a i;
  depth = λ t l. (sym (ten_grip t l es a) i).held;
  remembered = λ t l. (sym (ten_grip t l es a) i).remembered;
  notified = λ t l. sym (ten_latest t l es a) i;
  main = λ v. Earlier.main v es;
  after_load = λ t v. Earlier.after_load t v es;
  after_assign = λ t v. Earlier.after_assign t v es;
  loaded_read = λ t v. Earlier.loaded_read t v es;
  used_read = λ t v. Earlier.used_read t v es;
  last_assign = λ t v. Earlier.last_assign t v es;
}

-- ---- the rows

module _ (h : Counts) (es : List Event) (e : Event) (o : is_ten e ≡ true) where
  -- nobody waits
  ten_29 : of_waiting h (ten_words_of es) e ≡ false
  unfolding of_waiting waits ten_words_of
  ten_29 = simp (none_some h.locks (λ l. ltb 0 0) (λ l b. refl), and-false)

  -- and e is no F or C
  ten_30 : not_notified (ten_words_of es) e ≡ false
  unfolding not_notified
  ten_30 = rw (apart e o (F ∷ []) tt, apart e o (C ∷ []) tt)

  ten_judge_law : ten_judge h (ten_words_of es) e ≡ judge h (ten_words_of es) e
  unfolding ten_judge judge rows first_broken breaks
  ten_judge_law = rw (row_led (29 ∷ 30 ∷ 26 ∷ 27 ∷ 28 ∷ []) e.kind, row_led (26 ∷ 27 ∷ 28 ∷ []) e.kind, ten_29, ten_30)

ten_verdict_law : (m : Limits) (h : Counts) (es : List Event) (e : Event) → AllTen (map some es) → is_ten e ≡ true → ten_verdict m h es e ≡ verdict m h es e
unfolding ten_verdict verdict answer
ten_verdict_law m h es e a o = rw (ten_judge_law h es e o, ten_words es a)

-- ---- the marking

-- lines without Y, F and C are the same
pub ten_line_same : (rs : List (Option Event)) → AllTen rs → map ten_line rs ≡ rs
ten_line_same = all_pass is_ten

-- The lines that are marked, up to the one that is refused, are without Y, F and C, and they are marked the same after the same events.
abbrev pub SameTen : Limits → Counts → List (Option Event) → Type 0
SameTen m h rs = Fewer.Same is_ten (ten_verdict m h) (verdict m h) h [] rs

-- After accepted events comes the first Y, F or C: there 4 was said, and the marking goes on with it.
abbrev pub FirstNew : Limits → Counts → List (Option Event) → Type 0
FirstNew m h rs = Fewer.Wider is_ten (ten_verdict m h) (verdict m h) h [] rs

module _ (m : Limits) (h : Counts) (rs : List (Option Event)) where
  -- Lines are marked as before, number and line, and after the same events; or they were refused with 4 at the first Y, F or C behind accepted events.
  pub ten_or_more : SameTen m h rs ⊎ FirstNew m h rs
  ten_or_more = fewer_marked is_ten (ten_verdict m h) (verdict m h) h (λ es. AllTen (map some es)) (λ e es q a. (q, a)) (ten_verdict_law m h) [] rs tt

  ten_same : AllTen rs → SameTen m h rs
  ten_same a = pass_same is_ten (ten_verdict m h) (verdict m h) h (λ es. AllTen (map some es)) (λ e es q a. (q, a)) (ten_verdict_law m h) [] rs tt a

  -- Lines without Y, F and C are marked as before, number and line;
  pub ten_marked : AllTen rs → mark_ten m h [] (map ten_line rs) ≡ mark_read m h [] rs
  unfolding mark_ten mark_read
  ten_marked a = (ten_same a).narrow_marked

  -- and after the same events.
  pub ten_past : AllTen rs → past_ten m h [] (map ten_line rs) ≡ past_read m h [] rs
  unfolding past_ten past_read
  ten_past a = (ten_same a).narrow_past

module _ (m : Limits) (h : Counts) (rs : List (Option Event)) where
  -- the events before the first refusal were without Y, F and C
  pub past_ten_law : AllTen (map some (past_ten m h [] (map ten_line rs)))
  unfolding past_ten
  past_ten_law = past_pass is_ten (ten_verdict m h) [] rs tt

  -- and are accepted
  pub ten_accepted : T (Accepted m h (past_ten m h [] (map ten_line rs)))
  unfolding Accepted
  ten_accepted =
      let a = only_pass is_ten rs in
      subst (λ es. T (Accepted m h es)) (sym (ten_past m h (map ten_line rs) a) ∙ ap (past_ten m h []) (ten_line_same (map ten_line rs) a)) (past_accepted m h [] (map ten_line rs) tt)
