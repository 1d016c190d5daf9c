-- What is late after one event more: a thread is after an N in the same section.
use Prim.Native.Nat.{ℕ, ◌<◌}
use mathlib.Core.Path.{◌≡◌, refl, sym, ◌∙◌, ap, ap₂}
use mathlib.Core.Bool.{Bool, false, ◌&&◌, ◌||◌, and-false, and-true}
use mathlib.Core.List.{List, [], ◌∷◌}
use borrow.Author.Tests.{eq-eqb, ne_eqb}
use lib.Dec.{eqb}
use lib.ListN.{length, get_or, set, replicate, length-set, get_or-replicate}
use Rattle.rules.specs.declared.Event.{Event}
use Rattle.rules.specs.declared.Counts.{Counts}
use Rattle.rules.specs.Events.{of}
use Rattle.sections.specs.Places.{unlocks_by, holds_some}
use Rattle.sections.specs.Refusals.{after_unlock}
use Rattle.sections.proofs.Holding.{after_same}
use Rattle.ordering.specs.Computed.Parts.{gives_hold, late_after}
use Rattle.ordering.proofs.Arrays.{thread_set}
use Rattle.ordering.proofs.Scanned.{Reads}

pub record Late (h : Counts) (late : List Bool) (es : List Event) : Type 0 where
  pub long : length late ≡ 8
  pub after : (t : ℕ) → t < 8 → get_or late t false ≡ after_unlock h t es

pub late_start : (h : Counts) → Late h (replicate 8 false) []
unfolding after_unlock
late_start h = record { long = refl; after = λ t ht. get_or-replicate 8 t false false ht }

module _ (h : Counts) (late : List Bool) (es : List Event) (M : Late h late es) (k u p : ℕ) (e : Event) (r : Reads k u p e) where
  unlocks_own : (t : ℕ) → unlocks_by t e ≡ (gives_hold k && eqb u t)
  unfolding unlocks_by of
  unlocks_own t = ap₂ (λ a b. a && b) r.unlocking (ap (λ u. eqb u t) r.whose)

  module _ {any x : Bool} (f : any ≡ holds_some h u (e ∷ es)) (ex : x ≡ late_after (get_or late u false) k any) where
    own : x ≡ after_unlock h u (e ∷ es)
    unfolding late_after after_unlock
    own = ex ∙ ap₂ (λ a b. a && b) f (ap₂ (λ a b. a || b) (sym (unlocks_own u ∙ ap (λ b. gives_hold k && b) (eq-eqb u u refl) ∙ and-true (gives_hold k))) (M.after u r.thread_low))

    pub late_after_law : Late h (set late u x) (e ∷ es)
    late_after_law = record {
      long = length-set late u x ∙ M.long;
      after = thread_set false late (λ t. after_unlock h t es) (λ t. after_unlock h t (e ∷ es)) M.long M.after u r.thread_low own
          (λ t n. after_same h t e es (unlocks_own t ∙ ap (λ b. gives_hold k && b) (ne_eqb u t n) ∙ and-false (gives_hold k)));
    }
