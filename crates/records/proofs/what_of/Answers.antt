-- `records::what_of` meets its contract. Assumes nothing.
use Rattle.std.proofs.lemmas.Grind.{common_steps}
use native.Mathlib.Omega.{arith}
use Rattle.rules.proofs.Letters.{capped_low}
use Rattle.records.specs.Records.{what_of}
use Rattle.records.proofs.what_of.Goals as goal

pub overflow_mul-result-2 : goal.overflow_mul-result-2
overflow_mul-result-2 c =
    let t = capped_low c.args.thread in
    record { fits = omega (arith, c.cap.ensures) }

pub overflow_add-result : goal.overflow_add-result
overflow_add-result c =
    let t = capped_low c.args.thread in
    record { fits = omega (arith, c.cap.ensures) }

pub overflow_add-result-2 : goal.overflow_add-result-2
overflow_add-result-2 c =
    let t = capped_low c.args.thread in
    let p = capped_low c.args.place in
    record { fits = omega (arith, c.cap.ensures, c.cap-2.ensures) }

pub returns : goal.returns
unfolding what_of
returns c = grind (arith, common_steps)
