-- `print::list_trace` meets its contract: enough is lent but for the output.
use Prim.Native.Nat.{ℕ}
use mathlib.Core.Path.{◌≡◌, refl, ap, ◌∙◌}
use mathlib.Core.Bool.{Bool, true, false, cond, ◌||◌}
use mathlib.Core.List.{List}
use lib.Dec.{ltb}
use lib.ListN.{length, replicate}
use Rattle.rules.specs.Limits.{full, limits_of, lent_short, order_short}
use Rattle.rules.specs.declared.Course.{Course}
use Rattle.decimal.specs.Text.{over}
use Rattle.report.specs.Report.{listing_of, too_little}
use Rattle.report.proofs.Reported.{written_by}
use Rattle.print.proofs.list_trace.Goals as goal

-- 7 asks the output alone
asked : (m : Course) (out : List ℕ) → too_little (limits_of m) 2000 out (replicate 1000 0) (replicate 1000 0) ≡ ltb (length out) full.output
unfolding lent_short order_short
asked m out = or_false (ltb (length out) 32768)
  where
    or_false : (b : Bool) → (b || false) ≡ b
    or_false true = refl
    or_false false = refl

pub returns : goal.returns
returns c =
    let a = c.args in
    let m = c.mark_lent-r in
    let e = asked a.course a.out.now in
    let text = listing_of (limits_of a.course) a.s.now in
    (written_by a.course _ _ _ _ _ m.result _ _ _ m.ensures.reports ∙ ap (λ (b : Bool). cond b 0 (length text)) e, m.ensures.reports.prints ∙ ap (λ (b : Bool). cond b a.out.now (over text a.out.now)) e)
