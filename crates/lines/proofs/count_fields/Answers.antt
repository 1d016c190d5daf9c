-- `lines::count_fields` meets its contract.
use Rattle.std.proofs.Common.{◌≡◌, ◌+◌, ◌∙◌, ap, sym, nat_eq, ℕ, List}
use Rattle.std.specs.List.{count_by}
use lib.Seq.{take_all}
use Rattle.lines.proofs.StdLaws.{fields_are}
use Rattle.lines.proofs.count_fields.Goals as goal

pub returns : goal.returns
returns c =
    let s = c.args.s.now in
    let l = c.loop-b in
    l.invariant ∙ ap (λ (xs : List ℕ). count_by (λ x. nat_eq x 32) xs + 1) (take_all l.b-index s c.loop-b-test.false) ∙ sym (fields_are 32 s)
