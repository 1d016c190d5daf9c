-- `some` over the flags of a list is a search of the list; and the letters that name a kind.
use Prim.Native.Nat.{ℕ, zero, suc, ◌+◌, ◌≤◌, ◌<◌}
use native.Mathlib.Omega.{arith}
use native.Mathlib.Numerals.{add-one}
use mathlib.Core.Path.{◌≡◌, refl, sym, ap, ◌∙◌}
use mathlib.Core.Bool.{Bool, true, false, cond, ◌&&◌, ◌||◌, or-false, or_assoc}
use mathlib.Core.List.{List, [], ◌∷◌, ◌++◌}
use lib.Dec.{eqb, leb}
use lib.IntN.{ℤ}
use lib.ListN.{length, get_or, take, drop, length-take}
use Rattle.std.specs.Prelude.{Option, Some, None, is_some}
use Rattle.std.specs.List.{list_any, range_with_len}
use Rattle.std.proofs.Math.Bool.{or_comm}
use Rattle.std.proofs.Math.ListN.{drop_of_length-le}
use Rattle.std.proofs.lemmas.List.{take_more, drop-append-le}
use Rattle.std.proofs.lemmas.List.Folds.{list_any-append}
use borrow.Author.Tests.{leb-true, leb-false}
use lib.Seq.{take_all}
use Rattle.rules.proofs.Laws.{cases}
use Rattle.rules.specs.declared.Kind.{Kind}
use Rattle.rules.specs.declared.Kind.TheVariants.{Use, Assign, Load, Store, Read, Write, Lock, Unlock, PrescientStore, PrescientAssign, Wait, Notify, Resume}
use Rattle.rules.specs.Events.{A, B, C, F, K, L, N, P, R, S, U, W, Y, thread_of, is_letter, kind_of}
use Rattle.rules.specs.Limits.{some}

-- a flag at k or later is set: the search of what lies from there on
abbrev set_from : ℕ → List Bool → ℕ → Bool
set_from k xs n = some n (λ i. leb k i && get_or xs i false)

any_within : (k : ℕ) (xs : List Bool) (n : ℕ) → n ≤ length xs → list_any (λ b. b) (drop k (take n xs)) ≡ set_from k xs n
unfolding some
any_within k xs zero h = ap (list_any (λ b. b)) (drop_of_length-le [] (omega arith))
any_within k xs (suc n) h = let before = any_within k xs n (omega arith) in cases (leb k n) (inside before) (outside before)
  where
    x : Bool
    x = get_or xs n false

    more : take (suc n) xs ≡ take n xs ++ x ∷ []
    more = rw (← add-one) (take_more xs n false (omega arith))

    Before : Type 0
    Before = list_any (λ b. b) (drop k (take n xs)) ≡ set_from k xs n

    inside : Before → leb k n ≡ true → list_any (λ b. b) (drop k (take (suc n) xs)) ≡ (leb k n && x || set_from k xs n)
    inside before e =
        let le : k ≤ length (take n xs) = omega (arith, leb-true k n e, length-take n xs) in
        rw (more, drop-append-le k (take n xs) (x ∷ []) le, list_any-append, before, e, or-false) (or_comm (set_from k xs n) x)

    none : (m : ℕ) → m ≤ k → drop k (take m xs) ≡ []
    none m le = drop_of_length-le (take m xs) (omega (arith, length-take m xs))

    outside : Before → leb k n ≡ false → list_any (λ b. b) (drop k (take (suc n) xs)) ≡ (leb k n && x || set_from k xs n)
    outside before e =
        let lt : n < k = leb-false k n e in
        rw (none (suc n) (omega arith), e) (rw (none n (omega arith)) at before)

pub any_from : (k : ℕ) (xs : List Bool) → list_any (λ b. b) (drop k xs) ≡ set_from k xs (length xs)
any_from k xs = ap (λ l. list_any (λ b. b) (drop k l)) (sym (take_all (length xs) xs (omega arith))) ∙ any_within k xs (length xs) (omega arith)

-- a search of the numbers from a on, and those below a beside it
any_on : (f : ℕ → Bool) (a n : ℕ) → (some a f || list_any f (range_with_len a n)) ≡ some (a + n) f
unfolding some
any_on f a zero = rw or-false (ap (λ (m : ℕ). some m f) (let z : a ≡ a + 0 = omega arith in z))
any_on f a (suc n) =
    let z : a + 1 + n ≡ a + suc n = omega arith in
    sym (or_assoc (some a f) (f a) (list_any f (range_with_len (a + 1) n)))
    ∙ ap (λ (b : Bool). b || list_any f (range_with_len (a + 1) n)) (or_comm (some a f) (f a) ∙ (let y : suc a ≡ a + 1 = omega arith in ap (λ (m : ℕ). some m f) y))
    ∙ any_on f (a + 1) n ∙ ap (λ (m : ℕ). some m f) z

-- a search of the numbers below n
pub any_below : (n : ℕ) (f : ℕ → Bool) → list_any f (range_with_len 0 n) ≡ some n f
unfolding some
any_below n f = any_on f 0 n ∙ ap (λ (m : ℕ). some m f) (let z : 0 + n ≡ n = omega arith in z)

-- ---- letters

-- the first kind whose test holds
abbrev first_kind : List (Bool × Kind) → Option Kind
first_kind [] = None
first_kind (e ∷ es) = cond e.0 (Some e.1) (first_kind es)

-- whether a test holds, where those before it come to b
abbrev some_test : Bool → List (Bool × Kind) → Bool
some_test b [] = b
some_test b (e ∷ es) = some_test (b || e.0) es

true_stays : (es : List (Bool × Kind)) → some_test true es ≡ true
true_stays [] = refl
true_stays (e ∷ es) = true_stays es

some_first : (b : Bool) (k : Kind) (es : List (Bool × Kind)) → is_some (cond b (Some k) (first_kind es)) ≡ some_test b es
some_first true k es = sym (true_stays es)
some_first false k [] = refl
some_first false k (e ∷ es) = some_first e.0 e.1 es

-- a byte names a kind just where it is a letter
pub named : (k p : ℕ) (x : ℤ) → is_some (kind_of k p x) ≡ is_letter k
unfolding kind_of is_letter
named k p x =
    some_first
    (eqb k U)
    (Use p x)
    ((eqb k A, Assign p x)
    ∷ (eqb k L, Load p x)
    ∷ (eqb k S, Store p x)
    ∷ (eqb k R, Read p x)
    ∷ (eqb k W, Write p x)
    ∷ (eqb k K, Lock p)
    ∷ (eqb k N, Unlock p)
    ∷ (eqb k P, PrescientStore p x)
    ∷ (eqb k B, PrescientAssign p x)
    ∷ (eqb k Y, Wait p)
    ∷ (eqb k F, Notify p (thread_of x))
    ∷ (eqb k C, Resume p)
    ∷ [])
