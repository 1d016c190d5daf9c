-- `rules::is_declared` meets its contract. Assumes nothing.
use Prim.Native.Nat.{ℕ}
use mathlib.Core.Path.{◌≡◌, refl, sym, ap, ap₂, ◌∙◌}
use mathlib.Core.Bool.{cond, ◌&&◌}
use lib.Dec.{ltb}
use lib.IntN.{ℤ}
use borrow.Author.Rules.{rules}
use Rattle.rules.specs.Events.{subject_of}
use Rattle.rules.proofs.Letters.{declared_by}
use Rattle.rules.proofs.is_declared.Goals as goal
use Rattle.rules.proofs.is_declared.Goals.{then-is_lock_letter, else-is_lock_letter}

pub returns : goal.returns
returns c =
    let a = c.args in
    let p : c.if-is_lock_letter.places ≡ cond c.is_lock_letter.result a.h.locks a.h.variables = elim c.if-is_lock_letter.branch [
      | then-is_lock_letter w ↦ w.places-is ∙ sym (rw w.if-is_lock_letter.true refl)
      | else-is_lock_letter w ↦ w.places-is ∙ sym (rw w.if-is_lock_letter.false refl)
    ] in
    let s = c.subject_of-subject.ensures ∙ ap₂ (λ (k : ℕ) (x : ℤ). subject_of k a.e.thread x) c.letter_of-k.ensures (search rules ∙ c.value_of.ensures) in
    ap (λ (n : ℕ). ltb a.e.thread a.h.threads && (ltb c.subject_of-subject.result a.h.threads && ltb c.place_of.result n)) p
    ∙ declared_by a.h a.e c.letter_of-k.result c.place_of.result c.subject_of-subject.result c.is_lock_letter.result c.place_of.ensures c.letter_of-k.ensures s (sym c.is_lock_letter.ensures)
