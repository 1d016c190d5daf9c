-- The statement leaves nothing free: one answer, and one list, meets it.
use Prim.Native.Nat.{ℕ, ◌<◌}
use native.Mathlib.Omega.{arith}
use mathlib.Core.Path.{◌≡◌, refl, sym, ap, ap₂, ◌∙◌, subst}
use mathlib.Core.Logic.{inl, inr}
use mathlib.Core.Bool.{false≢true}
use mathlib.Core.List.{List, [], ◌∷◌, map}
use lib.Dec.{T}
use lib.ListN.{length}
use Rattle.rules.specs.declared.Event.{Event}
use Rattle.rules.specs.declared.Counts.{Counts}
use Rattle.rules.specs.Events.{A, B, C, K, U, locks}
use Rattle.rules.specs.Limits.{line_after}
use Rattle.rules.specs.Words.{locks_by}
use Rattle.rules.proofs.Laws.{is_apart}
use Rattle.serial.specs.Lists.{All}
use Rattle.sections.specs.CriticalSections.{Entry, CriticalSection, lock_point, Member, Rising, SerialOrder}
use Rattle.sections.specs.Places.{uses_or_assigns, lock_at}
use Rattle.sections.specs.Denials.{Denial, fit, denied, Unguarded, LateLock, Clean, Denies, unguarded, late}
use Rattle.sections.specs.Denials as D
use Rattle.sections.specs.Demand3.{Demand3}
use Rattle.sections.proofs.Denied.{unguarded_below, late_below}
use Rattle.sections.proofs.Every.{all_members}

-- ---- the list

module _ (f : Entry → ℕ) where
  above : (n : ℕ) (x : Entry) (l : List Entry) → All (λ m. n < m) (map f l) → Member x l → n < f x
  above n x [] a h = absurd h
  above n x (y ∷ l) a (inl p) = subst (λ z. n < f z) p a.0
  above n x (y ∷ l) a (inr h) = above n x l a.1 h

  -- a list that rises is known from its members
  same_list : (l k : List Entry) → Rising (map f l) → Rising (map f k) → ((x : Entry) → Member x l → Member x k) → ((x : Entry) → Member x k → Member x l) → l ≡ k
  same_list [] [] r s i j = refl
  same_list [] (y ∷ k) r s i j = absurd (j y (inl refl))
  same_list (x ∷ l) [] r s i j = absurd (i x (inl refl))
  same_list (x ∷ l) (y ∷ k) r s i j = ap₂ (λ a b. a ∷ b) heads (same_list l k r.1 s.1 (λ z m. tail l k x y (sym heads) r.0 z m (i z (inr m))) (λ z m. tail k l y x heads s.0 z m (j z (inr m))))
    where
      meet : Member x (y ∷ k) → Member y (x ∷ l) → x ≡ y
      meet (inl p) q = sym p
      meet (inr p) (inl q) = q
      meet (inr p) (inr q) = absurd (let a : f y < f x = above (f y) x k s.0 p in let b : f x < f y = above (f x) y l r.0 q in omega arith)

      heads : x ≡ y
      heads = meet (i x (inl refl)) (j y (inl refl))

      tail : (l k : List Entry) (x y : Entry) → y ≡ x → All (λ m. f x < m) (map f l) → (z : Entry) → Member z l → Member z (y ∷ k) → Member z k
      tail l k x y q a z m (inl p) = absurd (let b : f x < f z = above (f x) z l a m in let c : f x ≡ f z = ap f (sym q ∙ p) in omega arith)
      tail l k x y q a z m (inr n) = n

pub one_order : (h : Counts) (events : List Event) (l k : List Entry) → SerialOrder h events l → SerialOrder h events k → l ≡ k
one_order h events l k s r =
    same_list (lock_point h events) l k s.by_lock_point r.by_lock_point
    (λ x m. r.complete x (all_members (CriticalSection h events) l s.sound x m))
    (λ x m. s.complete x (all_members (CriticalSection h events) k r.sound x m))

-- ---- the answer

-- neither of two places comes before the other
meet : (p q : ℕ) → (p < q → ⊥) → (q < p → ⊥) → p ≡ q
meet p q a b = omega arith

module _ (h : Counts) (guard : ℕ → ℕ) (events : List Event) where
  -- no line breaks both 20 and 21
  apart : (n : ℕ) → Unguarded h guard events n → LateLock h events n → ⊥
  unfolding lock_at uses_or_assigns locks_by locks
  apart n r s = false≢true (rw (r.stands, is_apart (U ∷ A ∷ B ∷ []) (K ∷ C ∷ []) r.event tt (subst T (sym r.used) tt)) at s.locks)

  -- a first line that breaks 20 is not a first one that breaks 21
  cross : (p q : ℕ) → Clean h guard events p → Unguarded h guard events p → Clean h guard events q → LateLock h events q → ⊥
  cross p q c r d s = apart q (subst (λ i. Unguarded h guard events i) (meet p q (λ i. d.guarded p i r) (λ i. c.two_phase q i s)) r) s

  end_20 : (p q : ℕ) → q ≡ line_after h (length events) → Unguarded h guard events p → Clean h guard events q → ⊥
  end_20 p q l r c = c.guarded p (rw l (unguarded_below h guard events p r)) r

  end_21 : (p q : ℕ) → q ≡ line_after h (length events) → LateLock h events p → Clean h guard events q → ⊥
  end_21 p q l r c = c.two_phase p (rw l (late_below h events p r)) r

  one_denial : (n l m k : ℕ) → Denies h guard events n l → Denies h guard events m k → denied n l ≡ denied m k
  one_denial n l m k (unguarded a c r) (unguarded a' c' r') = ap₂ denied (a ∙ sym a') (meet l k (λ i. c'.guarded l i r) (λ i. c.guarded k i r'))
  one_denial n l m k (unguarded a c r) (late a' c' r') = absurd (cross l k c r c' r')
  one_denial n l m k (unguarded a c r) (D.unfinished a' b' c' r') = absurd (end_20 l k b' r c')
  one_denial n l m k (late a c r) (unguarded a' c' r') = absurd (cross k l c' r' c r)
  one_denial n l m k (late a c r) (late a' c' r') = ap₂ denied (a ∙ sym a') (meet l k (λ i. c'.two_phase l i r) (λ i. c.two_phase k i r'))
  one_denial n l m k (late a c r) (D.unfinished a' b' c' r') = absurd (end_21 l k b' r c')
  one_denial n l m k (D.unfinished a b c r) (unguarded a' c' r') = absurd (end_20 k l b r' c)
  one_denial n l m k (D.unfinished a b c r) (late a' c' r') = absurd (end_21 k l b r' c)
  one_denial n l m k (D.unfinished a b c r) (D.unfinished a' b' c' r') = ap₂ denied (a ∙ sym a') (b ∙ sym b')

-- two answers that meet the statement are one
pub one_answer : (h : Counts) (guard : ℕ → ℕ) (events : List Event) (x y : Denial) (l k : List Entry) → Demand3 h guard events x l → Demand3 h guard events y k → x ≡ y
one_answer h guard events fit fit l k d e = refl
one_answer h guard events fit (denied m j) l k d e = sym (e.when (d.only_when refl))
one_answer h guard events (denied n i) fit l k d e = d.when (e.only_when refl)
one_answer h guard events (denied n i) (denied m j) l k d e = one_denial h guard events n i m j (d.otherwise n i refl) (e.otherwise m j refl)

-- and so are two lists that are given with `fit`
pub one_list : (h : Counts) (guard : ℕ → ℕ) (events : List Event) (l k : List Entry) → Demand3 h guard events fit l → Demand3 h guard events fit k → l ≡ k
one_list h guard events l k d e = one_order h events l k (d.listed refl) (e.listed refl)
