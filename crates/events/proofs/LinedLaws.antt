-- The events that are read have the numbers of their lines.
use Prim.Native.Nat.{ℕ, zero, suc, ◌<◌, ◌+◌}
use native.Mathlib.Omega.{arith}
use native.Mathlib.Nat.{not-suc-le-zero}
use mathlib.Core.Path.{◌≡◌, refl, sym, ap, ◌∙◌}
use mathlib.Core.Bool.{Bool, true, false, cond}
use mathlib.Core.List.{List, [], ◌∷◌}
use mathlib.Core.Option.{Option, none, some}
use mir.Syntax.{Width}
use lib.Dec.{leb}
use lib.ListN.{length, get_or}
use Rattle.rules.specs.declared.Event.{Event}
use Rattle.rules.specs.declared.Kind.{Kind}
use Rattle.std.proofs.Common.{Some, None}
use Rattle.std.proofs.Common.{Option as Option'}
use Rattle.rules.specs.Events.{kind_of, event_with}
use Rattle.rules.specs.Limits.{Limits}
use Rattle.rules.specs.Reading.{read_from}
use Rattle.events.specs.Events.{Fields, wrong, right, line_of, event_in, event_of, readings}

pub event_line_law : (w : Width) (n : ℕ) (l : List ℕ) (e : Event) → event_of w n l ≡ some e → e.line ≡ n
unfolding event_of
event_line_law w n l e q = by (line_of w l) q
  where
    with_kind : (t : ℕ) (k : Option' Kind) → event_with n t k ≡ some e → e.line ≡ n
    with_kind t None q = cc
    with_kind t (Some k) q = let d : record { thread = t; line = n; kind = k } ≡ e = cc in ap (λ (x : Event). x.line) (sym d)

    by : (f : Fields) → event_in n f ≡ some e → e.line ≡ n
    by wrong q = cc
    by (right k t p x) q = with_kind t (kind_of k p x) q

-- events on the lines from the n-th on, one on each
abbrev pub Lined : ℕ → List Event → Type 0
Lined n [] = Unit {0}
Lined n (e ∷ es) = (e.line ≡ n) × Lined (suc n) es

pub read_lined : (m : Limits) (k n : ℕ) (ls : List (List ℕ)) → Lined n (read_from m k (readings m.width n ls))
unfolding read_from readings
read_lined m k n [] = tt
read_lined m k n (l ∷ ls) = by (event_of m.width n l) refl (read_lined m (suc k) (suc n) ls)
  where
    on : (e : Event) (b : Bool) → e.line ≡ n → Lined (suc n) (read_from m (suc k) (readings m.width (suc n) ls)) → Lined n (cond b [] (e ∷ read_from m (suc k) (readings m.width (suc n) ls)))
    on e true q r = tt
    on e false q r = (q, r)

    by : (o : Option Event) → event_of m.width n l ≡ o → Lined (suc n) (read_from m (suc k) (readings m.width (suc n) ls)) → Lined n (read_from m k (o ∷ readings m.width (suc n) ls))
    by none q r = tt
    by (some e) q r = on e (leb m.events k) (event_line_law m.width n l e q) r

lined_at : (n : ℕ) (es : List Event) (d : Event) → Lined n es → (i : ℕ) → i < length es → (get_or es i d).line ≡ i + n
lined_at n [] d w i h = absurd (not-suc-le-zero h)
lined_at n (e ∷ es) d w zero h = w.0 ∙ omega arith
lined_at n (e ∷ es) d w (suc i) h = lined_at (suc n) es d w.1 i (omega arith) ∙ omega arith
