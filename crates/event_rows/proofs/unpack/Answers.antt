-- `event_rows::unpack` meets its contract. Assumes nothing.
use Prim.Native.Nat.{ℕ}
use mathlib.Core.Path.{◌≡◌, refl, ap, ◌∙◌}
use lib.IntN.{ℤ}
use mir.Val.{of_z, to_z}
use mir.ValLaws.{to_z-of_z}
use borrow.Author.Rules.{rules}
use Rattle.std.specs.Prelude.{Option, Some, None}
use Rattle.std.specs.Option.{unwrap_or}
use Rattle.rules.specs.declared.Event.{Event}
use Rattle.rules.specs.declared.Kind.{Kind}
use Rattle.rules.specs.declared.Kind.TheVariants.{Read}
use Rattle.rules.specs.Events.{kind_of}
use Rattle.rules.specs.Limits.{value_width}
use Rattle.records.specs.Records.{letter_in, thread_in, place_in, or_read, unpacked}
use Rattle.event_rows.proofs.unpack.Goals as goal

read_or : (n : Option Kind) (p : ℕ) (x : ℤ) → unwrap_or n (Read p x) ≡ or_read n p x
read_or None p x = refl
read_or (Some kind) p x = refl

-- the event, from its parts as they are read
event_is : (line w : ℕ) (x x' : ℤ) {t p k : ℕ} {n : Option Kind} {kind : Kind} → x' ≡ x → t ≡ thread_in w → p ≡ place_in w → k ≡ letter_in w → n ≡ kind_of k p x' → kind ≡ unwrap_or n (Read p x')
    → ◌≡◌ {A = Event} (record { thread = t; line = line; kind = kind }) (unpacked line w x)
unfolding unpacked
event_is line w x x' {t} {p} {k} {n} {kind} v a b c d e =
    let z : kind ≡ or_read (kind_of (letter_in w) (place_in w) x) (place_in w) x = e ∙ read_or n p x' ∙ ap (λ (n : Option Kind). or_read n p x') d ∙ (λ i. or_read (kind_of (c i) (b i) (v i)) (b i) (v i)) in
    λ i. record { thread = a i; line = line; kind = z i }

pub returns : goal.returns
returns c =
    let a = c.args in
    let same : to_z value_width (of_z value_width a.value) ≡ a.value = to_z-of_z value_width _ (search rules) in
    event_is a.line a.w a.value _ same c.thread_in.ensures c.place_in-place.ensures c.letter_in.ensures c.kind_of-named.ensures c.unwrap_or.ensures
