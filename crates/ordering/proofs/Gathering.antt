-- The numbers of a part that are not 0, written to the front of a list.
use Prim.Native.Nat.{ℕ, suc, ◌+◌, ◌≤◌, ◌<◌}
use native.Mathlib.Omega.{arith}
use native.Mathlib.Numerals.{add-one}
use mathlib.Core.Path.{◌≡◌, refl, sym, ap, ap₂, ◌∙◌}
use mathlib.Core.Bool.{cond}
use mathlib.Core.List.{List, [], ◌∷◌, ◌++◌, append_assoc, append-nil}
use lib.ListN.{length, get_or, set, take, drop, length-append, length-set, take-append-drop}
use lib.Seq.{take-suc, set_split, take-append_seam, drop-append-add, drop-drop, take-length}
use borrow.Author.Tests.{eq-eqb, ne_eqb}
use Rattle.ordering.specs.Computed.Parts.{unless_zero, nonzero, Put}

pub put_none : (list : List ℕ) (c x : ℕ) → x ≡ 0 → Put (unless_zero x) list c c list
unfolding unless_zero
put_none list c x z = rw (eq-eqb x 0 z) (record { count = omega arith; lists = sym (take-append-drop c list) })

pub one_room : (n c x : ℕ) → (x ≡ 0 → ⊥) → c + length (unless_zero x) ≤ n → c < n
unfolding unless_zero
one_room n c x z h = let h' : c + 1 ≤ n = rw (ne_eqb x 0 z) at h in omega (arith, h')

pub put_one : (list : List ℕ) (c x : ℕ) → (x ≡ 0 → ⊥) → c < length list → Put (unless_zero x) list c (c + 1) (set list c x)
unfolding unless_zero
put_one list c x z h = rw (ne_eqb x 0 z) (record { count = refl; lists = set_split list c x h ∙ ap (λ j. take c list ++ (x ∷ drop j list)) (sym (add-one c)) })

non_append : (xs ys : List ℕ) → nonzero (xs ++ ys) ≡ nonzero xs ++ nonzero ys
unfolding nonzero
non_append [] ys = refl
non_append (x ∷ xs) ys = ap (λ l. unless_zero x ++ l) (non_append xs ys) ∙ sym (append_assoc (unless_zero x) (nonzero xs) (nonzero ys))

-- one more
pub non_more : (xs : List ℕ) (i : ℕ) → i < length xs → nonzero (take (suc i) xs) ≡ nonzero (take i xs) ++ unless_zero (get_or xs i 0)
unfolding nonzero
non_more xs i h = ap nonzero (take-suc xs i 0 h) ∙ non_append (take i xs) (get_or xs i 0 ∷ []) ∙ ap (λ l. nonzero (take i xs) ++ l) (append-nil (unless_zero (get_or xs i 0)))

part_less : (xs : List ℕ) (i : ℕ) → length (nonzero (take i xs)) ≤ length (nonzero xs)
part_less xs i =
    let e : nonzero xs ≡ nonzero (take i xs) ++ nonzero (drop i xs) = ap nonzero (sym (take-append-drop i xs)) ∙ non_append (take i xs) (drop i xs) in
    let l : length (nonzero xs) ≡ length (nonzero (take i xs)) + length (nonzero (drop i xs)) = ap length e ∙ length-append (nonzero (take i xs)) (nonzero (drop i xs)) in
    omega (arith, l)

-- what the loop has done before index i of the part
pub record Gathered (part list₀ list : List ℕ) (c i : ℕ) : Type 0 where
  pub upto : i ≤ length part
  pub count : c ≡ length (nonzero (take i part))
  pub lists : list ≡ nonzero (take i part) ++ drop c list₀
  pub long : length list ≡ length list₀

pub gather_start : (part list : List ℕ) → Gathered part list list 0 0
unfolding nonzero
gather_start part list = record { upto = omega arith; count = refl; lists = refl; long = refl }

module _ {part list₀ list : List ℕ} {c i : ℕ} (room : length (nonzero part) ≤ length list₀) (g : Gathered part list₀ list c i) (h : i < length part) where
  abbrev x : ℕ
  x = get_or part i 0

  abbrev xs : List ℕ
  xs = nonzero (take i part)

  -- a 0 is passed over
  pub gather_none : x ≡ 0 → Gathered part list₀ list c (i + 1)
  unfolding unless_zero
  gather_none z = rw (add-one i) (record { upto = h; count = g.count ∙ ap length (sym e); lists = g.lists ∙ ap (λ l. l ++ drop c list₀) (sym e); long = g.long })
    where
      e : nonzero (take (suc i) part) ≡ xs
      e = non_more part i h ∙ ap (λ b. xs ++ cond b [] (x ∷ [])) (eq-eqb x 0 z) ∙ append-nil xs

  module _ (z : x ≡ 0 → ⊥) where
    more : nonzero (take (suc i) part) ≡ xs ++ (x ∷ [])
    unfolding unless_zero
    more = non_more part i h ∙ ap (λ b. xs ++ cond b [] (x ∷ [])) (ne_eqb x 0 z)

    count_more : length (nonzero (take (suc i) part)) ≡ c + 1
    count_more = ap length more ∙ length-append xs (x ∷ []) ∙ ap (λ n. n + 1) (sym g.count)

    -- another number has a place
    pub gather_in : c < length list
    gather_in = omega (arith, count_more, part_less part (suc i), room, g.long)

    -- and is put there
    pub gather_one : Gathered part list₀ (set list c x) (c + 1) (i + 1)
    gather_one = rw (add-one i) (record {
      upto = h;
      count = sym count_more;
      lists = set_split list c x gather_in ∙ ap₂ (λ a b. a ++ (x ∷ b)) seam past ∙ sym (append_assoc xs (x ∷ []) (drop (c + 1) list₀)) ∙ ap (λ l. l ++ drop (c + 1) list₀) (sym more);
      long = length-set list c x ∙ g.long;
    })
      where
        seam : take c list ≡ xs
        seam = ap₂ take g.count g.lists ∙ take-append_seam xs (drop c list₀)

        past : drop (suc c) list ≡ drop (c + 1) list₀
        past =
            let z : suc c ≡ length xs + 1 = omega (arith, g.count) in
            ap₂ drop z g.lists ∙ drop-append-add xs (drop c list₀) 1 ∙ drop-drop 1 c list₀

pub gather_end : (part list₀ list : List ℕ) (c i : ℕ) → Gathered part list₀ list c i → length part ≤ i → Put (nonzero part) list₀ 0 c list
gather_end part list₀ list c i g h =
    let e : i ≡ length part = omega (arith, g.upto) in
    let w : nonzero (take i part) ≡ nonzero part = ap nonzero (ap (λ j. take j part) e ∙ take-length part) in
    let n : c ≡ length (nonzero part) = g.count ∙ ap length w in
    record { count = omega (arith, n); lists = g.lists ∙ ap (λ l. l ++ drop c list₀) w }
