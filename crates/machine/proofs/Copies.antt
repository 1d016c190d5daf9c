-- The memories that a state's contents give.
use Prim.Native.Nat.{ℕ, zero, suc, ◌+◌, ◌*◌, ◌/◌, ◌%◌, ◌<◌, ◌≤◌}
use native.Mathlib.Omega.{arith}
use borrow.Author.Tests.{eqb-true, eqb-false}
use denote.Param.Members.{Mut}
use Rattle.std.specs.Array.{IsFromFnResult, IsFromFnResultFrom}
use Rattle.std.specs.Fn.{Called}
use Rattle.rules.proofs.Laws.{cases}
use mathlib.Core.Path.{◌≡◌, refl, sym, ap, ◌∙◌, subst}
use mathlib.Core.Bool.{Bool, false}
use lib.Dec.{ltb, eqb}
use mathlib.Core.List.{List, []}
use lib.IntN.{ℤ, pos}
use lib.ListN.{length, get_or}
use Rattle.rules.specs.declared.Cached.{Cached}
use Rattle.rules.specs.Memories.{main_in, cached_in, memories_of}
use Rattle.rules.proofs.From.{filled}
use Rattle.state.specs.declared.Cell.{Cell}
use Rattle.state.specs.declared.State.{State}
use Rattle.state.specs.State.{blank, no_main, cell_at, words_in}
use Rattle.state.proofs.LeafLaws.{cell_same}
use Rattle.rules.specs.Rules.{accepted}
use Rattle.rules.specs.declared.Memories.{Memories}
use Rattle.rules.specs.declared.Refusal.{Refusal}
use Rattle.std.specs.Prelude.{Result, Ok}
use Rattle.machine.specs.Stepped.{unchanged}
use Rattle.machine.specs.Computed.Walk.{state_of, outcome_of}

abbrev pub no_copy : Cached
no_copy = record { value = pos 0; usable = false }

-- the copy in cell i
pub copy_at : (s : State) (i : ℕ) → i < 128 → {x : ℤ} {b : Bool} → x ≡ (get_or s.cells i blank).copy → b ≡ ltb (get_or s.locked (i / 16) 0) (get_or s.cells i blank).source
    → ◌≡◌ {A = Cached} (record { value = x; usable = b }) (cached_in (words_in s) i)
unfolding words_in
copy_at s i h p q =
    let c : cell_at s (i / 16) (i % 16) ≡ get_or s.cells i blank = cell_same s (i / 16) (i % 16) (omega arith) (omega arith) ∙ ap (λ (j : ℕ). get_or s.cells j blank) (let z : 16 * (i / 16) + i % 16 ≡ i = omega arith in z) in
    λ j. record { value = (p ∙ ap (λ (z : Cell). z.copy) (sym c)) j; usable = (q ∙ ap (λ (z : Cell). ltb (get_or s.locked (i / 16) 0) z.source) (sym c)) j }

-- the copies of all cells
pub copies_all : (s : State) (cs : List Cached) → length cs ≡ 128 → ((i : ℕ) → i < 128 → get_or cs i no_copy ≡ cached_in (words_in s) i) → cs ≡ (memories_of (words_in s)).copies
unfolding memories_of
copies_all s cs n each = filled (cached_in (words_in s)) no_copy cs 128 n each

-- main memory
pub mains_all : (s : State) → length s.memory ≡ 16 → s.memory ≡ (memories_of (words_in s)).main
unfolding memories_of words_in
mains_all s n = filled (main_in (words_in s)) no_main s.memory 16 n (λ j h. unfold words_in in refl)

-- main memory beside the copies
pub memories_of_law : (s : State) → length s.memory ≡ 16 → {cs : List Cached} → cs ≡ (memories_of (words_in (state_of s.cells s.locked []))).copies
    → ◌≡◌ {A = Result Memories Refusal} (Ok (record { main = s.memory; copies = cs })) (Ok (memories_of (words_in (state_of s.cells s.locked s.memory))))
unfolding memories_of words_in cell_at
memories_of_law s n b = λ i. Ok (record { main = mains_all (state_of s.cells s.locked s.memory) n i; copies = b i })

-- the memories hang on the cells, the last locks and main memory alone
pub memories_in : (s : State) → ◌≡◌ {A = Result Memories Refusal} (Ok (memories_of (words_in (state_of s.cells s.locked s.memory)))) (outcome_of (unchanged s accepted))
unfolding memories_of words_in cell_at
memories_in s = refl

-- ---- an array that a closure makes: where each call leaves the closure and gives `at` of its index

module _ {F B : Type 0} (g : Mut F (ℕ × Unit {0}) B) (f : F) (at : ℕ → B) (d : B) (calls : (x : ℕ) (y : B) (q : F) → Called g f (x, tt) y q → (q ≡ f) × (y ≡ at x)) where
  made_from : (ys : List B) (i n : ℕ) → IsFromFnResultFrom g f ys i n → (k : ℕ) → i ≤ k → k < i + n → get_or ys k d ≡ at k
  made_from ys i zero r k a b = absurd (omega arith)
  made_from ys i (suc n) r k a b =
      let e = calls i r.1 r.0 r.3 in
      cases (eqb k i) (λ p. ap (λ (j : ℕ). get_or ys j d) (eqb-true k i p) ∙ r.2.1 d ∙ e.1 ∙ ap at (sym (eqb-true k i p))) (λ p. let z : (k ≡ i → ⊥) = eqb-false k i p in made_from ys (i + 1) n (subst (λ (q : F). IsFromFnResultFrom g q ys (i + 1) n) e.0 r.4) k (omega arith) (omega arith))

  pub made : (ys : List B) (n : ℕ) → IsFromFnResult g f ys n → (k : ℕ) → k < n → get_or ys k d ≡ at k
  made ys n r k h = made_from ys 0 n r.each k (omega arith) (omega arith)
