use Rattle.std.proofs.Common.{◌≡◌, sym, ap, ◌∙◌, arith, Bool, true, false, ℕ, inl, inr, SFits, [], ◌∷◌}
use mathlib.Core.Logic.{◌⊎◌}
use borrow.Author.Tests.{eq-eqb, ne_eqb}
use mir.ValLaws.{to_z-of_z}
use Rattle.rules.specs.Events.{F, is_lock_letter}
use Rattle.rules.specs.Limits.{value_width}
use Rattle.decimal.specs.Text.{word_row, word_value, ended, room}
use Rattle.decimal.proofs.TextLaws.{wrote_line, wrote_same}
use Rattle.writer.specs.Text.{event_line}
use Rattle.writer.proofs.WriteLaws.{bare, lock_text, plain_text_law}
use borrow.Author.Rules.{rules}
use Rattle.writer.proofs.write_event.Goals as goal

-- a letter of a line with a third number
not_bare : (k : ℕ) (b : Bool) → b ≡ is_lock_letter k → ((b ≡ true) × (k ≡ F)) ⊎ (b ≡ false) → bare k ≡ false
not_bare k b e (inl h) = rw (sym e ∙ h.0, eq-eqb k F h.1)
not_bare k b e (inr h) = rw (sym e ∙ h)

pub returns-then-letter-ne70 : goal.returns-then-letter-ne70
returns-then-letter-ne70 c =
    let a = c.args in
    let k = c.letter_of-letter in
    let p = c.place_of in
    let l = sym c.is_lock_letter.ensures ∙ c.if-is_lock_letter.true in
    let n = ne_eqb k.result F c.if-letter-ne70.true in
    let b : bare k.result ≡ true = rw (l, n) in
    wrote_line 66 98 (ended (word_row (k.result ∷ []) (a.e.thread ∷ p.result ∷ []))) (ended (event_line a.e)) a.out.now _ _ (omega arith) (omega (arith, c.if-out-lt98.false))
    (lock_text a.e k.result p.result k.ensures p.ensures b) c.write_row_line.ensures

pub returns : goal.returns
returns c =
    let e = c.args.e in
    let k = c.letter_of-letter in
    let p = c.place_of in
    let x = c.value_of in
    let r : SFits value_width x.result = search rules in
    wrote_same (room 98 (ended (word_value (k.result ∷ []) (e.thread ∷ p.result ∷ []) x.result))) (room 98 (ended (event_line e))) _ _ _
    (ap (room 98) (plain_text_law e k.result p.result k.ensures p.ensures x.result x.ensures (not_bare k.result c.is_lock_letter.result c.is_lock_letter.ensures c.else-is_lock_letter.either)))
    (rw (to_z-of_z value_width x.result r) at c.write_value_line.ensures)
