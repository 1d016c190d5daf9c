-- Lines marked with values of a narrower width: the same, or 4 at the first line whose value lies outside it.
use Prim.Native.Nat.{ℕ, suc}
use mathlib.Core.Path.{◌≡◌, refl}
use mathlib.Core.Bool.{true}
use mathlib.Core.List.{List, map}
use mathlib.Core.Logic.{◌⊎◌}
use mathlib.Core.Option.{Option, none, some}
use lib.ListN.{get_or, take}
use mir.Syntax.{Width}
use Rattle.rules.specs.declared.Event.{Event}
use Rattle.rules.specs.declared.Counts.{Counts}
use Rattle.rules.specs.Limits.{Limits}
use Rattle.rules.specs.Rules.{verdict}
use Rattle.rules.specs.Widths.{within, narrowed, AllWithin}
use Rattle.rules.proofs.Fewer.{all_pass, pass_at, fewer_marked}
use Rattle.rules.proofs.Fewer as Fewer

-- lines whose values lie within the width are the same
pub all_within : (w : Width) (rs : List (Option Event)) → AllWithin w rs → map (narrowed w) rs ≡ rs
all_within w = all_pass (within w)

-- a line among the first k + 1, if it is an event, has its value within the width
pub within_at : (w : Width) (k : ℕ) (rs : List (Option Event)) (e : Event) → AllWithin w (take (suc k) rs) → get_or rs k none ≡ some e → within w e ≡ true
within_at w = pass_at (within w)

-- The values of the lines that are marked, up to the one that is refused, lie within the width, and they are marked the same after the same events.
abbrev pub Same : Limits → Width → Counts → List Event → List (Option Event) → Type 0
Same m w h = Fewer.Same (within w) (verdict m h) (verdict m h) h

-- After accepted events comes one whose value lies outside the width: the narrower marking ends there with 4, and the other goes on with it.
abbrev pub Wider : Limits → Width → Counts → List Event → List (Option Event) → Type 0
Wider m w h = Fewer.Wider (within w) (verdict m h) (verdict m h) h

pub narrowed_marked : (m : Limits) (w : Width) (h : Counts) (es : List Event) (rs : List (Option Event)) → Same m w h es rs ⊎ Wider m w h es rs
narrowed_marked m w h es rs = fewer_marked (within w) (verdict m h) (verdict m h) h (λ es. Unit {0}) (λ e es q c. tt) (λ es e c q. refl) es rs tt
