-- Document 01, "One paper whole", and document 02 (j): the lines that are printed for a trace and for a sheet.
use Rattle.std.specs.Prelude.{ℕ, suc, false, cond, List, [], ◌∷◌, ◌++◌, map, ℤ, pos, get_or}
use Rattle.rules.specs.declared.Cached.{Cached}
use Rattle.rules.specs.declared.Counts.{Counts}
use Rattle.rules.specs.declared.Main.{Main}
use Rattle.rules.specs.declared.Memories.{Memories}
use Rattle.rules.specs.Limits.{full, cell_number, allowed}
use Rattle.rules.specs.Memories.{Copy, below, each}
use Rattle.decimal.specs.Text.{natural_text, word_row, word_value, ended, room, and_then}
use Rattle.sections.specs.CriticalSections.{Entry}
use Rattle.sections.specs.Entries.{entry_in}

-- ---- lines, without their end

-- `accepted n`: events of a trace, accepted traces of a sheet
abbrev pub accepted_line : ℕ → List ℕ
accepted_line n = word_row (97 ∷ 99 ∷ 99 ∷ 101 ∷ 112 ∷ 116 ∷ 101 ∷ 100 ∷ []) (n ∷ [])

-- `main v x`: each declared variable and its value in main memory
abbrev pub main_line : ℕ → ℤ → List ℕ
main_line v x = word_value (109 ∷ 97 ∷ 105 ∷ 110 ∷ []) (v ∷ []) x

-- `copy t v x`: thread, variable and value of each usable copy
abbrev pub copy_line : Copy → List ℕ
copy_line c = word_value (99 ∷ 111 ∷ 112 ∷ 121 ∷ []) (c.thread ∷ c.variable ∷ []) c.value

-- `section t a b`: thread, first and last line of each section
abbrev pub section_line : Entry → List ℕ
section_line e = word_row (115 ∷ 101 ∷ 99 ∷ 116 ∷ 105 ∷ 111 ∷ 110 ∷ []) (e.thread ∷ e.first ∷ e.last ∷ [])

-- `refused line number`; of a sheet `refused k n`
abbrev pub refused_line : ℕ → ℕ → List ℕ
refused_line l n = word_row (114 ∷ 101 ∷ 102 ∷ 117 ∷ 115 ∷ 101 ∷ 100 ∷ []) (l ∷ n ∷ [])

-- `unordered line number`
abbrev pub unordered_line : ℕ → ℕ → List ℕ
unordered_line l n = word_row (117 ∷ 110 ∷ 111 ∷ 114 ∷ 100 ∷ 101 ∷ 114 ∷ 101 ∷ 100 ∷ []) (l ∷ n ∷ [])

-- `papers n`
abbrev pub papers_line : ℕ → List ℕ
papers_line n = word_row (112 ∷ 97 ∷ 112 ∷ 101 ∷ 114 ∷ 115 ∷ []) (n ∷ [])

-- `share a/b`
abbrev pub share_front : ℕ → List ℕ
share_front a = (115 ∷ 104 ∷ 97 ∷ 114 ∷ 101 ∷ []) ++ (32 ∷ natural_text a)

abbrev pub share_line : ℕ → ℕ → List ℕ
share_line a b = share_front a ++ (47 ∷ natural_text b)

-- ---- texts

-- each line ended by byte 10
unfoldable pub text_of : List (List ℕ) → List ℕ
text_of [] = []
text_of (l ∷ ls) = ended l ++ text_of ls

-- a line is written where so many bytes remain; no line is longer
abbrev pub line_room : ℕ
line_room = 128

-- Each line goes into what remains of the lent output.
unfoldable pub write_all : List (List ℕ) → List ℕ → List ℕ
write_all [] o = []
write_all (l ∷ ls) o = and_then (room line_room (ended l)) (write_all ls) o

-- ---- the lines of a trace

-- the variables from v on, rising
unfoldable pub main_lines_from : ℕ → List ℤ → List (List ℕ)
main_lines_from v [] = []
main_lines_from v (x ∷ xs) = main_line v x ∷ main_lines_from (suc v) xs

abbrev pub main_lines : List ℤ → List (List ℕ)
main_lines xs = main_lines_from 0 xs

unfoldable pub copy_lines : List Copy → List (List ℕ)
copy_lines cs = map copy_line cs

-- Events; each declared variable, rising, and its value in main memory; thread, variable and value of each usable copy, by thread then variable
unfoldable pub state_lines : ℕ → List ℤ → List Copy → List (List ℕ)
state_lines n xs cs = accepted_line n ∷ (main_lines xs ++ copy_lines cs)

-- thread, first and last line of each section
unfoldable pub section_lines : List Entry → List (List ℕ)
section_lines es = map section_line es

-- the same of entries that are lent as numbers
abbrev pub entry_lines : List ℕ → List (List ℕ)
entry_lines ws = section_lines (map entry_in ws)

-- ---- the lines of memories that are handed on

-- past the last place
abbrev pub no_main : Main
no_main = record { value = pos 0 }

abbrev pub no_cached : Cached
no_cached = record { value = pos 0; usable = false }

-- variable v and its value
abbrev pub main_at : List Main → ℕ → List ℤ
main_at ms v = (get_or ms v no_main).value ∷ []

-- each declared variable, rising, and its value in main memory
unfoldable pub mains_in : Memories → Counts → List ℤ
mains_in m h = each (main_at m.main) (below h.variables)

-- a copy of thread t and variable v, where it is usable
abbrev pub usable_copy : ℕ → ℕ → Cached → List Copy
usable_copy t v c = cond c.usable (record { thread = t; variable = v; value = c.value } ∷ []) []

-- the copy of thread t and variable v stands at 16 * t + v
abbrev pub copy_at : List Cached → ℕ → ℕ → List Copy
copy_at cs t v = usable_copy t v (get_or cs (cell_number t v) no_cached)

-- the usable copies of thread t, of the first n variables
abbrev pub copies_at : List Cached → ℕ → ℕ → List Copy
copies_at cs n t = each (copy_at cs t) (below n)

-- thread, variable and value of each usable copy, by thread then variable
unfoldable pub cached_copies : Memories → Counts → List Copy
cached_copies m h = each (copies_at m.copies h.variables) (below h.threads)

-- the lines after n events; none where no head may declare the counts
unfoldable pub lines_for : ℕ → Counts → Memories → List (List ℕ)
lines_for n h m = cond (allowed full h) (state_lines n (mains_in m h) (cached_copies m h)) []
