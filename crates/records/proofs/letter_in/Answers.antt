-- `records::letter_in` meets its contract. Assumes nothing.
use native.Mathlib.Omega.{arith}
use mathlib.Core.Bool.{cond}
use mathlib.Core.Path.{◌≡◌, ◌∙◌}
use Prim.Native.Nat.{ℕ, ◌<◌, ◌≤◌}
use lib.Dec.{ltb}
use borrow.Author.Tests.{lt-ltb, le-ltb}
use Rattle.std.specs.Prelude.{Result, Ok, Err}
use Rattle.std.specs.Result.{OkIff, result_unwrap_or}
use Rattle.records.specs.Records.{letter_in}
use Rattle.records.proofs.letter_in.Goals as goal

byte_or_0 : {E : Type 0} (k : ℕ) (r : Result ℕ E) → OkIff r (k < 256) k → result_unwrap_or r 0 ≡ cond (ltb k 256) k 0
byte_or_0 k (Ok y) h = rw (lt-ltb _ _ h.0) h.1
byte_or_0 k (Err e) h = let l : 256 ≤ k = omega arith in rw (le-ltb _ _ l)

pub returns : goal.returns
unfolding letter_in
returns c = c.unwrap_or.ensures ∙ byte_or_0 _ _ c.try_from.ensures
