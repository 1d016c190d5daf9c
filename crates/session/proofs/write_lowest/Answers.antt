-- `session::write_lowest` meets its contract: both are divided by their greatest common divisor.
use mathlib.Core.Path.{◌≡◌, refl, ap, sym, ◌∙◌}
use mathlib.Core.Bool.{cond}
use mathlib.Core.List.{List}
use Prim.Native.Nat.{ℕ, ◌/◌}
use native.Mathlib.Omega.{arith}
use borrow.Author.Tests.{eq-eqb, ne_eqb}
use lib.Dec.{eqb}
use Rattle.decimal.specs.Text.{ended, room}
use Rattle.decimal.proofs.TextLaws.{wrote_same}
use Rattle.listing.specs.Listing.{share_line, line_room}
use Rattle.session.specs.Session.{lowest_line}
use Rattle.session.proofs.Shares.{common_some}
use Rattle.session.proofs.SheetLines.{share_lowest}
use Rattle.session.proofs.write_lowest.Goals as goal
use Rattle.session.proofs.write_lowest.Goals.{then-a-eq0, else-a-eq0}

pub nonzero_div-beneath : goal.nonzero_div-beneath
nonzero_div-beneath c = let a = c.args in omega (arith, c.divisor-d.ensures, common_some a.a a.a a.n)

pub nonzero_div-a : goal.nonzero_div-a
nonzero_div-a c = let a = c.args in omega (arith, c.divisor-d.ensures, common_some a.a a.a a.n)

pub returns : goal.returns
returns c =
    let a = c.args in
    let d = c.divisor-d in
    let f : List ℕ → List ℕ → List ℕ = λ t. room line_room (ended t) in
    let b : c.if-a-eq0.beneath ≡ cond (eqb a.a 0) 1 (a.n / d.result)
    = elim c.if-a-eq0.branch [ then-a-eq0 w ↦ w.beneath-is ∙ sym (rw (eq-eqb a.a 0 w.if-a-eq0.true) refl) | else-a-eq0 w ↦ w.beneath-is ∙ sym (rw (ne_eqb a.a 0 w.if-a-eq0.false) refl) ] in
    wrote_same (f (share_line (a.a / d.result) c.if-a-eq0.beneath)) (f (lowest_line a.a a.n)) a.out.now _ _ (ap f (share_lowest a.a a.n d.result _ d.ensures b)) c.write_share.ensures
