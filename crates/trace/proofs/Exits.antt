-- What `o.ok_or(e)?` says of o, at its exit and behind it.
use Rattle.std.proofs.Common.{◌≡◌, refl, Option, Some, None, Result, Ok, Err}
use Rattle.std.specs.Option.{ok_or}

pub none_at_err : {A E : Type 0} (o : Option A) (e d : E) (r : Result A E) → r ≡ Err d → r ≡ ok_or o e → (o ≡ None) × (d ≡ e)
none_at_err None e d r p q = (refl, cc)
none_at_err (Some a) e d r p q = cc

pub some_at_ok : {A E : Type 0} (o : Option A) (e : E) (a : A) (r : Result A E) → r ≡ Ok a → r ≡ ok_or o e → o ≡ Some a
some_at_ok None e a r p q = cc
some_at_ok (Some b) e a r p q = cc
