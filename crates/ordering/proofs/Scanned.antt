-- An event by its letter, thread and place, and what is owed after one event more.
use Prim.Native.Nat.{ℕ, ◌+◌, ◌*◌, ◌<◌}
use native.Mathlib.Decide.{ℕ_discrete}
use native.Mathlib.Omega.{arith}
use mathlib.Core.Path.{◌≡◌, refl, sym, ◌∙◌, ap}
use mathlib.Core.Bool.{Bool, true, false, not, cond, ◌&&◌, ◌||◌, or-false, and-false, and-true}
use mathlib.Core.List.{List, [], ◌∷◌}
use mathlib.Core.Option as Option
use borrow.Author.Tests.{eq-eqb, ne_eqb}
use lib.Dec.{eqb}
use lib.ListN.{length, get_or, set, replicate, length-set, get_or-replicate}
use Rattle.rules.specs.declared.Event.{Event}
use Rattle.rules.specs.Events.{A, B, C, K, N, P, U, Y, letter, is, of, on, locks, unlocks}
use Rattle.rules.specs.Words.{by, pending, latest, letter_in}
use Rattle.rules.specs.Rules.{loc}
use Rattle.rules.proofs.Letters.{eqb_turn}
use Rattle.sections.specs.Places.{uses_or_assigns}
use Rattle.ordering.specs.Computed.Parts.{takes_hold, gives_hold, pending_after}
use Rattle.ordering.proofs.Arrays.{cell_set}

-- ---- an event by its letter k, thread t and place p

pub record Reads (k t p : ℕ) (e : Event) : Type 0 where
  pub letters : letter e.kind ≡ k
  pub whose : e.thread ≡ t
  pub places : loc e ≡ p
  pub letter_is : (c : ℕ) → is (c ∷ []) e ≡ eqb k c
  pub locking : locks e ≡ takes_hold k
  pub unlocking : unlocks e ≡ gives_hold k
  pub uses : uses_or_assigns e ≡ (eqb k U || (eqb k A || eqb k B))
  pub owing : is (P ∷ B ∷ []) e ≡ (eqb k P || eqb k B)
  pub thread_low : t < 8
  pub place_low : p < 16

pub reads : (k t p : ℕ) (e : Event) → letter e.kind ≡ k → e.thread ≡ t → loc e ≡ p → t < 8 → p < 16 → Reads k t p e
unfolding locks unlocks uses_or_assigns is
reads k t p e a b c ht hp = record {
  letters = a;
  whose = b;
  places = c;
  letter_is = λ c. rw (a, eqb_turn c k) (or-false (eqb k c));
  locking = two K C;
  unlocking = two N Y;
  uses = rw (a, eqb_turn U k, eqb_turn A k, eqb_turn B k, or-false (eqb k B));
  owing = two P B;
  thread_low = ht;
  place_low = hp;
}
  where
    two : (c d : ℕ) → (eqb c (letter e.kind) || (eqb d (letter e.kind) || false)) ≡ (eqb k c || eqb k d)
    two c d = rw (a, eqb_turn c k, eqb_turn d k, or-false (eqb k d))

pub apart : (u t p l : ℕ) → (u ≡ t → p ≡ l → ⊥) → (eqb u t && eqb p l) ≡ false
apart u t p l n = go (ℕ_discrete u t) (ℕ_discrete p l)
  where
    go : Dec (u ≡ t) → Dec (p ≡ l) → (eqb u t && eqb p l) ≡ false
    go (yes a) (yes b) = absurd (n a b)
    go (yes a) (no b) = ap (λ x. eqb u t && x) (ne_eqb p l b) ∙ and-false (eqb u t)
    go (no a) q = ap (λ x. x && eqb p l) (ne_eqb u t a)

-- ---- what is owed

pub record Owed (owed : List Bool) (es : List Event) : Type 0 where
  pub long : length owed ≡ 128
  pub owes : (t v : ℕ) → t < 8 → v < 16 → get_or owed (t * 16 + v) false ≡ pending t v es

pub owed_start : Owed (replicate 128 false) []
unfolding pending latest letter_in
owed_start = record { long = refl; owes = λ t l ht hl. get_or-replicate 128 (t * 16 + l) false false (omega arith) }

pending_one : (b : Bool) (k : ℕ) → pending_after b k ≡ cond (eqb k P || eqb k B) (eqb k P) b
unfolding pending_after
pending_one b k = go (eqb k P) (eqb k B) b
  where
    go : (x y b : Bool) → (x || (b && not y)) ≡ cond (x || y) x b
    go true y b = refl
    go false true true = refl
    go false true false = refl
    go false false true = refl
    go false false false = refl

module _ (owed : List Bool) (es : List Event) (O : Owed owed es) (k u p : ℕ) (e : Event) (r : Reads k u p e) where
  pending_next : (t v : ℕ) → pending t v (e ∷ es) ≡ cond ((eqb k P || eqb k B) && (eqb u t && eqb p v)) (eqb k P) (pending t v es)
  unfolding pending latest letter_in by of on
  pending_next t v = rw (← r.owing, ← r.letter_is P, ← r.whose, ← r.places) (go (is (P ∷ B ∷ []) e && (eqb e.thread t && eqb (loc e) v)))
    where
      go : (b : Bool) → letter_in (P ∷ []) (cond b (Option.some e) (latest (by (P ∷ B ∷ []) t v) es)) ≡ cond b (is (P ∷ []) e) (pending t v es)
      go true = refl
      go false = refl

  pub owed_after : {x : Bool} → x ≡ pending_after (get_or owed (u * 16 + p) false) k → Owed (set owed (u * 16 + p) x) (e ∷ es)
  owed_after {x} ex = record {
    long = length-set owed (u * 16 + p) x ∙ O.long;
    owes = cell_set false owed (λ t v. pending t v es) (λ t v. pending t v (e ∷ es)) O.long O.owes u p r.thread_low r.place_low
        (ex ∙ ap (λ b. pending_after b k) (O.owes u p r.thread_low r.place_low) ∙ own)
        (λ t v n. pending_next t v ∙ rw (apart u t p v n, and-false (eqb k P || eqb k B)));
  }
    where
      own : pending_after (pending u p es) k ≡ pending u p (e ∷ es)
      own = pending_one (pending u p es) k ∙ sym (pending_next u p ∙ rw (eq-eqb u u refl, eq-eqb p p refl, and-true (eqb k P || eqb k B)))
