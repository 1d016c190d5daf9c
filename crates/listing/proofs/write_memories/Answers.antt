-- `listing::write_memories` meets its contract: the events, then main memory, then the copies. Assumes nothing.
use mathlib.Core.Path.{◌≡◌, sym, ◌∙◌}
use mathlib.Core.Bool.{true}
use mathlib.Core.List.{[]}
use Prim.Native.Nat.{◌≤◌, ◌+◌, ◌-◌}
use native.Mathlib.Omega.{arith}
use borrow.Rule.Slice.PartMut.{put_mid}
use lib.ListN.{length}
use Rattle.rules.specs.Limits.{full, allowed}
use Rattle.rules.proofs.Bounds.{allowed_bounds}
use Rattle.decimal.specs.Text.{Wrote}
use Rattle.listing.specs.Listing.{write_all}
use Rattle.listing.proofs.LineLaws.{wrote_one, wrote_nothing, wrote_as, wrote_all, all_place, all_length}
use Rattle.listing.proofs.ListLaws.{first_lines, head_lines, every_line, fit_first, fit_head, fit_all, all_lines, no_lines}
use Rattle.listing.proofs.write_memories.Goals as goal
use Rattle.listing.proofs.write_memories.Goals.{After-slice_known-2-1, After-slice_known-3-1, After-slice_known-4-1, After-write_accepted-arg-1}

-- a head may declare the counts
declares : (c : After-write_accepted-arg-1) → allowed full c.args.h ≡ true
declares c = sym c.is_allowed.ensures ∙ c.if-not-is_allowed.false

-- what is written by the first call, by the first two, and by all
first : (c : After-slice_known-2-1) → let a = c.args in
    let u = c.write_accepted-a in
    Wrote (write_all (first_lines a.n)) a.out.now u.result u.new.out
first c = wrote_one _ _ _ _ c.write_accepted-a.ensures

first_place : (c : After-slice_known-2-1) → let u = c.write_accepted-a in u.result ≤ length u.new.out
first_place c = all_place _ _ _ _ (fit_first c.args.n) (first c)

second : (c : After-slice_known-3-1) → let a = c.args in
    let u = c.write_accepted-a in
    let v = c.write_mains-b in
    Wrote (write_all (head_lines a.n a.h a.m)) a.out.now (u.result + v.result) (put_mid u.result (length u.new.out - u.result) u.new.out v.new.out)
second c = wrote_all _ _ _ _ _ _ _ (wrote_one _ _ _ _ c.write_accepted-a.ensures) c.write_mains-b.ensures

second_place : (c : After-slice_known-3-1) → let u = c.write_accepted-a in
    let v = c.write_mains-b in
    u.result + v.result ≤ length (put_mid u.result (length u.new.out - u.result) u.new.out v.new.out)
second_place c = let a = c.args in all_place _ _ _ _ (fit_head a.n a.h a.m) (second c)

second_length : (c : After-slice_known-3-1) → let u = c.write_accepted-a in
    length (put_mid u.result (length u.new.out - u.result) u.new.out c.write_mains-b.new.out) ≡ length c.args.out.now
second_length c = let a = c.args in all_length _ _ _ _ (fit_head a.n a.h a.m) (second c)

third : (c : After-slice_known-4-1) → let a = c.args in
    let u = c.write_accepted-a in
    let v = c.write_mains-b in
    let w = c.write_copies-c in
    let p = put_mid u.result (length u.new.out - u.result) u.new.out v.new.out in
    Wrote (write_all (every_line a.n a.h a.m)) a.out.now (u.result + v.result + w.result) (put_mid (u.result + v.result) (length p - (u.result + v.result)) p w.new.out)
third c = wrote_all _ _ _ _ _ _ _ (wrote_all _ _ _ _ _ _ _ (wrote_one _ _ _ _ c.write_accepted-a.ensures) c.write_mains-b.ensures) c.write_copies-c.ensures

pub returns-then-not-is_allowed : goal.returns-then-not-is_allowed
returns-then-not-is_allowed c =
    let a = c.args in
    wrote_as [] _ a.out.now a.out.now 0 (no_lines a.n a.h a.m (sym c.is_allowed.ensures ∙ c.if-not-is_allowed.true)) (wrote_nothing a.out.now)

pub slice_bounds-write_mains-count : goal.slice_bounds-write_mains-count
slice_bounds-write_mains-count c = first_place (goal.at.slice_bounds-write_mains-count c).After-slice_known-2-1

pub slice_bounds-write_mains-start : goal.slice_bounds-write_mains-start
slice_bounds-write_mains-start c = first_place (goal.at.slice_bounds-write_mains-start c).After-slice_known-2-1

pub write_mains-b-requires : goal.write_mains-b-requires
write_mains-b-requires c = (allowed_bounds c.args.h (declares (goal.at.write_mains-b-requires c).After-write_accepted-arg-1)).1

pub overflow_add-a : goal.overflow_add-a
overflow_add-a c = omega (arith, second_place (goal.at.overflow_add-a c).After-slice_known-3-1, second_length (goal.at.overflow_add-a c).After-slice_known-3-1)

pub slice_bounds-write_copies-count : goal.slice_bounds-write_copies-count
slice_bounds-write_copies-count c = second_place (goal.at.slice_bounds-write_copies-count c).After-slice_known-3-1

pub slice_bounds-write_copies-start : goal.slice_bounds-write_copies-start
slice_bounds-write_copies-start c = second_place (goal.at.slice_bounds-write_copies-start c).After-slice_known-3-1

pub write_copies-c-requires : goal.write_copies-c-requires
write_copies-c-requires c =
    let r = allowed_bounds c.args.h (declares (goal.at.write_copies-c-requires c).After-write_accepted-arg-1) in
    (r.1, r.0)

pub overflow_add-result : goal.overflow_add-result
overflow_add-result c = omega (arith, second_place (goal.at.overflow_add-result c).After-slice_known-3-1, second_length (goal.at.overflow_add-result c).After-slice_known-3-1)

pub overflow_add-result-2 : goal.overflow_add-result-2
overflow_add-result-2 c =
    let a = c.args in
    let f = fit_all a.n a.h a.m in
    omega (arith, all_place _ _ _ _ f (third (goal.at.overflow_add-result-2 c).After-slice_known-4-1), all_length _ _ _ _ f (third (goal.at.overflow_add-result-2 c).After-slice_known-4-1))

pub shape_of-out : goal.shape_of-out
shape_of-out c = let a = c.args in all_length _ _ _ _ (fit_all a.n a.h a.m) (third (goal.at.shape_of-out c).After-slice_known-4-1)

pub returns : goal.returns
returns c =
    let a = c.args in
    wrote_as (every_line a.n a.h a.m) _ a.out.now _ _ (all_lines a.n a.h a.m (declares (goal.at.returns c).After-write_accepted-arg-1)) (third (goal.at.returns c).After-slice_known-4-1)
