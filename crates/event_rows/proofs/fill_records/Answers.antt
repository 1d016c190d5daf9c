-- `event_rows::fill_records` meets its contract: the records that are counted have places in all rows. Assumes nothing.
use Prim.Native.Nat.{ℕ, ◌≤◌}
use native.Mathlib.Omega.{arith}
use mathlib.Core.Path.{sym, ap, ◌∙◌}
use lib.ListN.{length, take}
use lib.Seq.{length-take-le}
use Rattle.rules.proofs.Bounds.{first_line_high}
use Rattle.event_rows.proofs.FillLaws.{lettered_few, front, front_lines, front_filled}
use Rattle.event_rows.proofs.fill_records.Goals as goal
use Rattle.event_rows.proofs.fill_records.Goals.{After-line_after-line}

-- so many have places in each row
few : (c : After-line_after-line) → let a = c.args in
    let m = c.count_of-m.result in
    (m ≤ length a.records.now) × (m ≤ length a.what.now) × (m ≤ length a.value.now)
few c =
    let a = c.args in
    let most = c.min-most.result in
    let fits : most ≤ length a.what.now = omega arith in
    let low : c.count_of-m.result ≤ most = omega (arith, c.count_of-m.ensures, lettered_few (take most a.what.now), length-take-le most a.what.now fits) in
    (omega arith, omega arith, omega arith)

pub slice_bounds-fill_lines-end : goal.slice_bounds-fill_lines-end
slice_bounds-fill_lines-end c = (few (goal.at.slice_bounds-fill_lines-end c).After-line_after-line).0

pub slice_bounds-fill_lines-end-2 : goal.slice_bounds-fill_lines-end-2
slice_bounds-fill_lines-end-2 c = sym (length-take-le _ _ (few (goal.at.slice_bounds-fill_lines-end-2 c).After-line_after-line).0)

pub slice_bounds-fill_lines-end-3 : goal.slice_bounds-fill_lines-end-3
slice_bounds-fill_lines-end-3 c = sym (length-take-le _ _ (few (goal.at.slice_bounds-fill_lines-end-3 c).After-line_after-line).1)

pub slice_bounds-fill_lines-end-4 : goal.slice_bounds-fill_lines-end-4
slice_bounds-fill_lines-end-4 c = sym (length-take-le _ _ (few (goal.at.slice_bounds-fill_lines-end-4 c).After-line_after-line).2)

pub fill_lines-requires : goal.fill_lines-requires
fill_lines-requires c =
    let f = few (goal.at.fill_lines-requires c).After-line_after-line in
    let n = sym (length-take-le c.count_of-m.result c.args.records.now f.0) in
    record {
      line_low = omega (arith, c.line_after-line.ensures, first_line_high c.args.h);
      whats = length-take-le _ _ f.1 ∙ n;
      values = length-take-le _ _ f.2 ∙ n;
    }

pub returns : goal.returns
returns c =
    let a = c.args in
    let f = few (goal.at.returns c).After-line_after-line in
    front_lines c.line_after-line.result a.what.now a.value.now a.records.now _ _ f.0 f.1 f.2 c.fill_lines.ensures
    ∙ ap (λ (k : ℕ). front k a.what.now a.value.now a.records.now c.count_of-m.result) c.line_after-line.ensures
    ∙ front_filled a.h a.what.now a.value.now a.records.now a.n c.min-most.result c.count_of-m.result (omega arith) c.count_of-m.ensures
