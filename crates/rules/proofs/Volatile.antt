-- Rules 4.1 and 4.2 of source document 001, section 3, on accepted events: which of T's own events on a volatile variable may follow which.
use Prim.Native.Nat.{ℕ, ◌<◌}
use mathlib.Core.Path.{◌≡◌, refl, sym, subst}
use mathlib.Core.Bool.{Bool, true, false, not, cond, ◌&&◌, ◌||◌}
use mathlib.Core.List.{List, [], ◌∷◌, map}
use lib.Dec.{T, eqb}
use Rattle.rules.specs.declared.Event.{Event}
use Rattle.rules.specs.declared.Counts.{Counts}
use Rattle.rules.specs.Events.{A, B, L, P, S, U, letter, among, is}
use Rattle.rules.specs.Limits.{Limits, volatile}
use Rattle.rules.specs.Words.{latest, letter_in, by, accesses, after_load, after_assign}
use Rattle.rules.specs.Rules.{words_of, differ, wrong_neighbour, prescient_volatile, judge, verdict, accepted, mark_from, mark}
use Rattle.rules.specs.Projections.{keep}
use Rattle.rules.specs.Volatile.{letters_on, beginning}
use Rattle.rules.proofs.Laws.{is_true, and_left, and_right, or_false_right, other_false, all_of, each_among, neighbour_kept, prescient_kept, passed}
use Rattle.rules.proofs.Marking.{walk_parts}
use Rattle.rules.proofs.Simulation.{letter_latest, by_is, by_thread, by_loc}

-- letter n may come: a says that the one before it is an L, b that it is an A
abbrev suits : Bool → Bool → ℕ → Bool
suits a b n = among accesses n && (not (differ (among (U ∷ []) n) a || differ (among (S ∷ []) n) b) && not (among (P ∷ B ∷ []) n))

-- each letter may come after the one before it
abbrev chain : Bool → Bool → List ℕ → Bool
chain a b [] = true
chain a b (n ∷ ns) = suits a b n && chain (among (L ∷ []) n) (among (A ∷ []) n) ns

module _ (c : Counts) (t v : ℕ) (q : volatile c v ≡ true) (es : List Event) (e : Event) (p : judge c (words_of es) e ≡ 0) (b : T (by accesses t v e)) where
  -- what 26 says of an accepted event
  beside : (differ (among (U ∷ []) (letter e.kind)) (after_load t v es) || differ (among (S ∷ []) (letter e.kind)) (after_assign t v es)) ≡ false
  unfolding wrong_neighbour words_of is
  beside = other_false (among accesses (letter e.kind)) _ (rw (by_thread accesses t v e b, by_loc accesses t v e b, q) at (neighbour_kept c (words_of es) e p)) (by_is accesses t v e b)

  suited : T (suits (after_load t v es) (after_assign t v es) (letter e.kind))
  unfolding prescient_volatile is
  suited = go (among accesses (letter e.kind)) _ (among (P ∷ B ∷ []) (letter e.kind)) (by_is accesses t v e b) beside (rw (by_loc accesses t v e b, q) at (prescient_kept c (words_of es) e p))
    where
      go : (a s r : Bool) → T a → s ≡ false → (r && true) ≡ false → T (a && (not s && not r))
      go true true r h n x = absurd (subst T n tt)
      go true false true h n x = absurd (subst T x tt)
      go true false false h n x = tt
      go false s r h n x = h

  -- after an assign it is a store
  pub stores_it : T (after_assign t v es) → T (is (S ∷ []) e)
  unfolding is
  stores_it = go (among (S ∷ []) (letter e.kind)) (after_assign t v es) (or_false_right (differ (among (U ∷ []) (letter e.kind)) (after_load t v es)) _ beside)
    where
      go : (s a : Bool) → differ s a ≡ false → T a → T s
      go true a n k = tt
      go false true n k = subst T n tt
      go false false n k = k

pub load_next : (t v : ℕ) (e : Event) (es : List Event) → after_load t v (e ∷ es) ≡ cond (by accesses t v e) (is (L ∷ []) e) (after_load t v es)
unfolding after_load
load_next t v e es = letter_latest (L ∷ []) (by accesses t v) e es

pub assign_next : (t v : ℕ) (e : Event) (es : List Event) → after_assign t v (e ∷ es) ≡ cond (by accesses t v e) (is (A ∷ []) e) (after_assign t v es)
unfolding after_assign
assign_next t v e es = letter_latest (A ∷ []) (by accesses t v) e es

chained : (m : Limits) (c : Counts) (t v : ℕ) → 0 < m.excess → volatile c v ≡ true → (rest es : List Event) → mark_from m c es rest ≡ accepted → T (chain (after_load t v es) (after_assign t v es) (letters_on t v rest))
unfolding letters_on keep verdict is
chained m c t v x q [] es p = tt
chained m c t v x q (e ∷ rest) es p =
    let w = walk_parts m c es e rest p in
    go (by accesses t v e) refl (passed m c (words_of es) e x w.0).row (rw (load_next t v e es, assign_next t v e es) at (chained m c t v x q rest (e ∷ es) w.1))
  where
    go : (b : Bool) → by accesses t v e ≡ b → judge c (words_of es) e ≡ 0
        → T (chain (cond (by accesses t v e) (is (L ∷ []) e) (after_load t v es)) (cond (by accesses t v e) (is (A ∷ []) e) (after_assign t v es)) (letters_on t v rest))
        → T (chain (after_load t v es) (after_assign t v es) (map (λ e. letter e.kind) (cond b (e ∷ keep (by accesses t v) rest) (keep (by accesses t v) rest))))
    go true h j k = rw (is_true {b = suits (after_load t v es) (after_assign t v es) (letter e.kind)} (suited c t v q es e j (subst T (sym h) tt))) (rw h at k)
    go false h j k = rw h at k

-- where neither an L nor an A comes before: one letter, and two
abbrev one : ℕ → Bool
one k = not (suits false false k) || (eqb k L || eqb k A)

abbrev pair : ℕ → ℕ → Bool
pair k n = eqb k L && eqb n U || eqb k A && eqb n S

abbrev two : ℕ → ℕ → Bool
two k n =
    not (suits false false k && suits (among (L ∷ []) k) (among (A ∷ []) k) n)
    || pair k n && (not (among (L ∷ []) n) && not (among (A ∷ []) n))

begins : (ns : List ℕ) → T (chain false false ns) → T (beginning ns)
begins [] h = tt
begins (k ∷ []) h = go (suits false false k) _ (each_among one accesses k tt (and_left (among accesses k) _ (and_left (suits false false k) true h))) h
  where
    go : (a b : Bool) → T (not a || b) → T (a && true) → T b
    go true b z h = z
    go false b z h = absurd h
begins (k ∷ n ∷ ns) h =
    let a = and_left (among accesses k) _ (and_left (suits false false k) _ h) in
    let b = and_left (among accesses n) _ (and_left (suits (among (L ∷ []) k) (among (A ∷ []) k) n) _ (and_right (suits false false k) _ h)) in
    go (suits false false k) (suits (among (L ∷ []) k) (among (A ∷ []) k) n) (pair k n) (among (L ∷ []) n) (among (A ∷ []) n) (each_among (two k) accesses n (each_among (λ k. all_of (two k) accesses) accesses k tt a) b) h (begins ns)
  where
    -- a pair, and then the rest begins anew
    go : (a b p x y : Bool) → T (not (a && b) || p && (not x && not y)) → T (a && (b && chain x y ns)) → (T (chain false false ns) → T (beginning ns)) → T (p && beginning ns)
    go true true true false false z h f = f h
    go true true true false true z h f = absurd z
    go true true true true y z h f = absurd z
    go true true false x y z h f = absurd z
    go true false p x y z h f = absurd h
    go false b p x y z h f = absurd h

-- Rules 4.1 and 4.2: T's own events on a volatile variable, R and W left aside, are a beginning of (L U | A S)*.
pub volatile_neighbours : (m : Limits) (c : Counts) (events : List Event) → 0 < m.excess → mark m c events ≡ accepted → (t v : ℕ) → volatile c v ≡ true → T (beginning (letters_on t v events))
unfolding mark after_load after_assign latest letter_in
volatile_neighbours m c events x p t v q = begins (letters_on t v events) (chained m c t v x q events [] p)
