-- "An empty sheet holds no papers and prints `papers 0`, `accepted 0`, `share 0/1`."
use mathlib.Core.Path.{◌≡◌, refl}
use mathlib.Core.List.{[], ◌∷◌}
use Rattle.rules.specs.Limits.{Limits}
use Rattle.rules.specs.Memories.{below, each}
use Rattle.decimal.specs.Text.{digits_in, natural_text, row_text, word_row}
use Rattle.listing.specs.Listing.{text_of}
use Rattle.session.specs.Sheet.{holds, find_from, sheet_of}
use Rattle.session.specs.Counting.{numbers_of, times, common, above, beneath}
use Rattle.session.specs.Session.{refused_lines, counted_lines, sheet_text}

pub empty_sheet : sheet_of [] ≡ holds []
unfolding sheet_of find_from
empty_sheet = refl

pub empty_text : (m : Limits) → sheet_text m []
    ≡ 112 ∷ 97 ∷ 112 ∷ 101 ∷ 114 ∷ 115 ∷ 32 ∷ 48 ∷ 10 ∷ 97 ∷ 99 ∷ 99 ∷ 101 ∷ 112 ∷ 116 ∷ 101 ∷ 100 ∷ 32 ∷ 48 ∷ 10 ∷ 115 ∷ 104 ∷ 97 ∷ 114 ∷ 101 ∷ 32 ∷ 48 ∷ 47 ∷ 49 ∷ 10 ∷ []
unfolding sheet_text sheet_of find_from counted_lines numbers_of times refused_lines each below above beneath common word_row row_text natural_text digits_in text_of
empty_text m = refl
