-- `session::refuse` meets its contract: one line, which fits.
use mathlib.Core.Path.{ap, ◌∙◌}
use mathlib.Core.List.{List, [], ◌∷◌}
use Prim.Native.Nat.{ℕ}
use lib.ListN.{length}
use Rattle.rules.specs.Limits.{full}
use Rattle.decimal.specs.Text.{over}
use Rattle.listing.specs.Listing.{refused_line, write_all}
use Rattle.listing.proofs.LineLaws.{wrote_one}
use Rattle.session.specs.Sheet.{turned_away}
use Rattle.session.specs.Counting.{numbers_of, times}
use Rattle.session.specs.Computed.Tally.{refused_with}
use Rattle.session.proofs.SheetLines.{written_whole}
use Rattle.session.proofs.refuse.Goals as goal

pub returns : goal.returns
unfolding numbers_of times
returns c =
    let a = c.args in
    let w = wrote_one (refused_line 0 c.from.result) a.out.now _ _ c.write_refused-written.ensures in
    let e = ap (λ (n : ℕ). write_all (refused_line 0 n ∷ []) a.out.now) c.from.ensures ∙ written_whole full (turned_away a.number) a.out.now c.requires in
    (c.turned_away.ensures ∙ ap (refused_with a.number) (w.count ∙ ap length e), w.bytes ∙ ap (λ (t : List ℕ). over t a.out.now) e)
