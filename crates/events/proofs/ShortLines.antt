-- Lines and the events that they are, or that they are none: document 01, "The paper", by computation.
use Prim.Native.Nat.{ℕ}
use mathlib.Core.Path.{◌≡◌, refl}
use mathlib.Core.List.{List, [], ◌∷◌, map}
use mathlib.Core.Option.{none, some}
use lib.IntN.{pos, negsuc}
use lib.ListN.{length, replicate}
use Rattle.rules.specs.declared.Kind.TheVariants.{Assign, Lock, Notify}
use Rattle.rules.specs.Events.{capped, is_letter, is_lock_letter, kind_of}
use Rattle.rules.specs.Limits.{value_width}
use Rattle.lines.specs.Lines.{split_on, letter}
use Rattle.decimal.specs.Decimal.{digits_from, natural_of, integer_of}
use Rattle.events.specs.Events.{line_of, event_of}

-- "Numbers are base ten, no leading zeros, no plus sign, no `-0`; only a value may have a minus"; "fields parted by one space"; "a lock event has no value"
abbrev pub wrong_lines : List (List ℕ)
wrong_lines =
    -- `A 0 0 -0`
    (65 ∷ 32 ∷ 48 ∷ 32 ∷ 48 ∷ 32 ∷ 45 ∷ 48 ∷ [])
    -- `A 0 0 00`
    ∷ (65 ∷ 32 ∷ 48 ∷ 32 ∷ 48 ∷ 32 ∷ 48 ∷ 48 ∷ [])
    -- `A 0 0 01`
    ∷ (65 ∷ 32 ∷ 48 ∷ 32 ∷ 48 ∷ 32 ∷ 48 ∷ 49 ∷ [])
    -- `A 0 0 +1`
    ∷ (65 ∷ 32 ∷ 48 ∷ 32 ∷ 48 ∷ 32 ∷ 43 ∷ 49 ∷ [])
    -- `A 0 0 -`
    ∷ (65 ∷ 32 ∷ 48 ∷ 32 ∷ 48 ∷ 32 ∷ 45 ∷ [])
    -- `A 0 0 `
    ∷ (65 ∷ 32 ∷ 48 ∷ 32 ∷ 48 ∷ 32 ∷ [])
    -- `A -1 0 1`
    ∷ (65 ∷ 32 ∷ 45 ∷ 49 ∷ 32 ∷ 48 ∷ 32 ∷ 49 ∷ [])
    -- `A 00 0 1`
    ∷ (65 ∷ 32 ∷ 48 ∷ 48 ∷ 32 ∷ 48 ∷ 32 ∷ 49 ∷ [])
    -- `A 0 0`
    ∷ (65 ∷ 32 ∷ 48 ∷ 32 ∷ 48 ∷ [])
    -- `A 0 0 1 1`
    ∷ (65 ∷ 32 ∷ 48 ∷ 32 ∷ 48 ∷ 32 ∷ 49 ∷ 32 ∷ 49 ∷ [])
    -- `A 0 0 1 `
    ∷ (65 ∷ 32 ∷ 48 ∷ 32 ∷ 48 ∷ 32 ∷ 49 ∷ 32 ∷ [])
    -- `A 0  0 1`
    ∷ (65 ∷ 32 ∷ 48 ∷ 32 ∷ 32 ∷ 48 ∷ 32 ∷ 49 ∷ [])
    -- ` A 0 0 1`
    ∷ (32 ∷ 65 ∷ 32 ∷ 48 ∷ 32 ∷ 48 ∷ 32 ∷ 49 ∷ [])
    -- `AA 0 0 1`
    ∷ (65 ∷ 65 ∷ 32 ∷ 48 ∷ 32 ∷ 48 ∷ 32 ∷ 49 ∷ [])
    -- `a 0 0 1`
    ∷ (97 ∷ 32 ∷ 48 ∷ 32 ∷ 48 ∷ 32 ∷ 49 ∷ [])
    -- `T 0 0 1`
    ∷ (84 ∷ 32 ∷ 48 ∷ 32 ∷ 48 ∷ 32 ∷ 49 ∷ [])
    -- `A 0 0 1\r`
    ∷ (65 ∷ 32 ∷ 48 ∷ 32 ∷ 48 ∷ 32 ∷ 49 ∷ 13 ∷ [])
    -- `A\t0 0 1`
    ∷ (65 ∷ 9 ∷ 48 ∷ 32 ∷ 48 ∷ 32 ∷ 49 ∷ [])
    -- `K 0 0 0`
    ∷ (75 ∷ 32 ∷ 48 ∷ 32 ∷ 48 ∷ 32 ∷ 48 ∷ [])
    -- `F 0 0`
    ∷ (70 ∷ 32 ∷ 48 ∷ 32 ∷ 48 ∷ [])
    -- `F 0 0 -1`
    ∷ (70 ∷ 32 ∷ 48 ∷ 32 ∷ 48 ∷ 32 ∷ 45 ∷ 49 ∷ [])
    -- `A 0 0 9223372036854775808`
    ∷ (65 ∷ 32 ∷ 48 ∷ 32 ∷ 48 ∷ 32 ∷ 57 ∷ 50 ∷ 50 ∷ 51 ∷ 51 ∷ 55 ∷ 50 ∷ 48 ∷ 51 ∷ 54 ∷ 56 ∷ 53 ∷ 52 ∷ 55 ∷ 55 ∷ 53 ∷ 56 ∷ 48 ∷ 56 ∷ [])
    -- `A 0 0 -9223372036854775809`
    ∷ (65 ∷ 32 ∷ 48 ∷ 32 ∷ 48 ∷ 32 ∷ 45 ∷ 57 ∷ 50 ∷ 50 ∷ 51 ∷ 51 ∷ 55 ∷ 50 ∷ 48 ∷ 51 ∷ 54 ∷ 56 ∷ 53 ∷ 52 ∷ 55 ∷ 55 ∷ 53 ∷ 56 ∷ 48 ∷ 57 ∷ [])
    -- ``
    ∷ ([])
    ∷ []

abbrev pub right_lines : List (List ℕ)
right_lines =
    (65 ∷ 32 ∷ 48 ∷ 32 ∷ 48 ∷ 32 ∷ 48 ∷ [])
    ∷ (65 ∷ 32 ∷ 55 ∷ 32 ∷ 49 ∷ 53 ∷ 32 ∷ 45 ∷ 57 ∷ 50 ∷ 50 ∷ 51 ∷ 51 ∷ 55 ∷ 50 ∷ 48 ∷ 51 ∷ 54 ∷ 56 ∷ 53 ∷ 52 ∷ 55 ∷ 55 ∷ 53 ∷ 56 ∷ 48 ∷ 56 ∷ [])
    ∷ (75 ∷ 32 ∷ 49 ∷ 32 ∷ 48 ∷ [])
    ∷ (70 ∷ 32 ∷ 48 ∷ 32 ∷ 49 ∷ 32 ∷ 50 ∷ [])
    ∷ []

pub wrong_lines_law : map (event_of value_width 3) wrong_lines ≡ replicate (length wrong_lines) none
unfolding event_of line_of split_on letter natural_of integer_of digits_from is_letter is_lock_letter kind_of capped
wrong_lines_law = refl

pub right_lines_law : map (event_of value_width 3) right_lines ≡
    some (record { thread = 0; line = 3; kind = Assign 0 (pos 0) })
    ∷ some (record { thread = 7; line = 3; kind = Assign 15 (negsuc 9223372036854775807) })
    ∷ some (record { thread = 1; line = 3; kind = Lock 0 })
    ∷ some (record { thread = 0; line = 3; kind = Notify 1 2 })
    ∷ []
unfolding event_of line_of split_on letter natural_of integer_of digits_from is_letter is_lock_letter kind_of capped
right_lines_law = refl
