-- A list of events without Y, F and C is denied an order as before waiting and notification, number and line, and has the order that it had.
use Prim.Native.Nat.{ℕ}
use mathlib.Core.Path.{◌≡◌, refl, sym, ap, subst}
use mathlib.Core.Bool.{true, false, ◌||◌, or-false}
use mathlib.Core.List.{List, [], ◌∷◌, map, reverse, reverse_aux}
use mathlib.Core.Option.{some}
use lib.Dec.{T, ltb}
use Rattle.rules.specs.declared.Event.{Event}
use Rattle.rules.specs.declared.Counts.{Counts}
use Rattle.rules.specs.Events.{C, K, N, Y, is, locks, unlocks}
use Rattle.rules.specs.Words.{pending}
use Rattle.rules.specs.Rules as Rules
use Rattle.rules.specs.Rules.{words_of, held, waits}
use Rattle.rules.specs.Ten.{ten_letters, is_ten, AllTen, ten_words_of}
use Rattle.rules.proofs.Laws.{is_apart, none_some}
use Rattle.rules.proofs.Ten.{ten_words}
use Rattle.sections.specs.Places.{unlocks_by, holds_some}
use Rattle.sections.specs.Refusals.{after_unlock, not_under, late_lock, unfinished, denial_from, denial}
use Rattle.sections.specs.Order.{sections, entry, order}
use Rattle.sections.specs.Ten.{ten_holds_some, ten_after_unlock, ten_not_under, ten_late_lock, ten_unfinished, ten_denial_from, ten_denial, ten_sections, ten_order}

-- ---- one event of the ten kinds

module _ (e : Event) (o : is_ten e ≡ true) where
  -- locks where it is a K, and unlocks where it is an N
  ten_locks_law : is (K ∷ []) e ≡ locks e
  unfolding locks is
  ten_locks_law = rw (is_apart ten_letters (C ∷ []) e tt (subst T (sym o) tt))

  ten_unlocks : is (N ∷ []) e ≡ unlocks e
  unfolding unlocks is
  ten_unlocks = rw (is_apart ten_letters (Y ∷ []) e tt (subst T (sym o) tt))

-- ---- lists of these

module _ (h : Counts) where
  ten_holds : (t : ℕ) (es : List Event) → AllTen (map some es) → ten_holds_some h t es ≡ holds_some h t es
  unfolding ten_holds_some holds_some
  ten_holds t es a = ap (λ w. Rules.some h.locks (λ l. held w t l)) (ten_words es a)

  ten_after : (t : ℕ) (es : List Event) → AllTen (map some es) → ten_after_unlock h t es ≡ after_unlock h t es
  unfolding ten_after_unlock after_unlock unlocks_by
  ten_after t [] a = refl
  ten_after t (e ∷ es) a = rw (ten_holds t (e ∷ es) a, ten_unlocks e a.0, ten_after t es a.1)

  ten_late : (es : List Event) (e : Event) → AllTen (map some es) → is_ten e ≡ true → ten_late_lock h es e ≡ late_lock h es e
  unfolding ten_late_lock late_lock
  ten_late es e a o = rw (ten_locks_law e o, ten_after e.thread es a)

  -- nobody waits
  awake : (t : ℕ) (es : List Event) → AllTen (map some es) → waits h (words_of es) t ≡ false
  awake t es a = subst (λ w. waits h w t ≡ false) (ten_words es a) (unfold waits ten_words_of in none_some h.locks (λ l. ltb 0 0) (λ l b. refl))

  ten_unfinished_law : (es : List Event) → AllTen (map some es) → ten_unfinished h es ≡ unfinished h es
  unfolding ten_unfinished unfinished
  ten_unfinished_law es a = λ i. Rules.some h.threads (λ t. one t i)
    where
      one : (t : ℕ) → (ten_holds_some h t es || Rules.some h.variables (λ v. pending t v es)) ≡ (holds_some h t es || (Rules.some h.variables (λ v. pending t v es) || waits h (words_of es) t))
      one t = rw (ten_holds t es a, awake t es a, or-false (Rules.some h.variables (λ v. pending t v es)))

  ten_sections_law : (es : List Event) → AllTen (map some es) → ten_sections h es ≡ sections h es
  unfolding ten_sections sections
  ten_sections_law [] a = refl
  ten_sections_law (e ∷ es) a = rw (ten_holds e.thread es a.1, ten_sections_law es a.1)

ten_under : (guard : ℕ → ℕ) (es : List Event) (e : Event) → AllTen (map some es) → ten_not_under guard es e ≡ not_under guard es e
unfolding ten_not_under not_under
ten_under guard es e a = rw (ten_words es a)

-- ---- whole lists, in their own order

ten_denial_from_law : (h : Counts) (guard : ℕ → ℕ) (es rest : List Event) → AllTen (map some es) → AllTen (map some rest) → ten_denial_from h guard es rest ≡ denial_from h guard es rest
unfolding ten_denial_from denial_from
ten_denial_from_law h guard es [] a b = rw (ten_unfinished_law h es a)
ten_denial_from_law h guard es (e ∷ rest) a b = rw (ten_under guard es e a, ten_late h es e a b.0, ten_denial_from_law h guard (e ∷ es) rest (b.0, a) b.1)

pub ten_denial_law : (h : Counts) (guard : ℕ → ℕ) (events : List Event) → AllTen (map some events) → ten_denial h guard events ≡ denial h guard events
unfolding ten_denial denial
ten_denial_law h guard events a = ten_denial_from_law h guard [] events tt a

turned : (rest es : List Event) → AllTen (map some rest) → AllTen (map some es) → AllTen (map some (reverse_aux rest es))
turned [] es b a = a
turned (e ∷ rest) es b a = turned rest (e ∷ es) b.1 (b.0, a)

pub ten_order_law : (h : Counts) (events : List Event) → AllTen (map some events) → ten_order h events ≡ order h events
unfolding ten_order order
ten_order_law h events a = ap (λ ss. map (entry h) (reverse ss)) (ten_sections_law h (reverse events) (turned events [] a tt))
