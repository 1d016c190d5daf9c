-- How many records name a kind, before the first that names none.
use Rattle.std.specs.Prelude.{ℕ, List}
use Rattle.std.specs.List.{prefix_len}
use Rattle.rules.specs.Events.{is_letter}
use Rattle.records.specs.Records.{letter_in}

abbrev pub lettered : List ℕ → ℕ
lettered ws = prefix_len (λ w. is_letter (letter_in w)) ws
