-- An output of 32,768 bytes has room for every listing: what is written into it is the whole text.
-- Assumes nothing.
use mathlib.Core.Path.{◌≡◌, refl, sym, ap, ◌∙◌}
use mathlib.Core.Bool.{Bool, true, false, cond}
use mathlib.Core.List.{List, [], ◌∷◌, ◌++◌, append_assoc, append-nil}
use mathlib.Core.Logic.{⊎_elim}
use Prim.Native.Nat.{ℕ, zero, suc, ◌≤◌, ◌<◌, ◌+◌, ◌*◌, ◌/◌, ◌^◌}
use native.Mathlib.Nat.{pow-suc, mul-suc}
use native.Mathlib.Omega.{arith}
use lib.IntN.{ℤ}
use lib.ListN.{length, length-append, length-map}
use Rattle.rules.specs.declared.Counts.{Counts}
use Rattle.rules.specs.Limits.{full, allowed}
use Rattle.rules.specs.Rules.{Words}
use Rattle.rules.specs.Memories.{Copy, below, each, memory, copies}
use Rattle.rules.proofs.Bounds.{allowed_bounds}
use Rattle.lines.proofs.PartLaws.{lt_or_le}
use Rattle.decimal.specs.Text.{natural_text, row_text, word_row, word_value, ended, Wrote, over}
use Rattle.decimal.proofs.TextLaws.{text_small, text_length_large, value_short}
use Rattle.decimal.proofs.RowLaws.{row_line_short}
use Rattle.serial.specs.Lists.{All}
use Rattle.sections.specs.CriticalSections.{Entry}
use Rattle.sections.proofs.Entries.{Small}
use Rattle.listing.specs.Listing.{accepted_line, main_line, copy_line, section_line, refused_line, unordered_line, text_of, write_all, main_lines_from, main_lines, copy_lines, state_lines, section_lines}
use Rattle.listing.proofs.LineLaws.{all_text}
use Rattle.rules.proofs.From.{each_suc}
use Rattle.listing.proofs.ListLaws.{both}

-- ---- the length of a line; the text of a value has at most 21 bytes, a minus and 20 digits (`value_short`)

-- a number below 10 to the k has at most k digits
digits_most : (k n : ℕ) → n < 10 ^ suc k → n < 2 ^ 64 → length (natural_text n) ≤ suc k
digits_most zero n h l = rw (text_small n h) (omega arith)
digits_most (suc k) n h l = ⊎_elim
    (λ d. rw (text_small n d) (omega arith))
    (λ d. omega (arith, text_length_large n d l, digits_most k (n / 10) (omega (arith, pow-suc 10 (suc k), h)) (omega arith)))
    (lt_or_le n 10)

-- n is below 10, 100, 10,000
pub one_digit : (n : ℕ) → n < 10 → length (natural_text n) ≤ 1
one_digit n h = digits_most 0 n h (omega arith)

pub two_digits : (n : ℕ) → n < 100 → length (natural_text n) ≤ 2
two_digits n h = digits_most 1 n h (omega arith)

four_digits : (n : ℕ) → n < 10000 → length (natural_text n) ≤ 4
four_digits n h = digits_most 3 n h (omega arith)

accepted_most : (n : ℕ) → n < 10000 → length (ended (accepted_line n)) ≤ 14
unfolding word_row row_text
accepted_most n h = simp length-append (omega (arith, four_digits n h))

main_most : (v : ℕ) (x : ℤ) → v < 100 → length (ended (main_line v x)) ≤ 30
unfolding word_value word_row row_text
main_most v x h = simp length-append (omega (arith, two_digits v h, value_short x))

copy_most : (c : Copy) → c.thread < 10 → c.variable < 100 → length (ended (copy_line c)) ≤ 32
unfolding word_value word_row row_text
copy_most c h k = simp length-append (omega (arith, one_digit c.thread h, two_digits c.variable k, value_short c.value))

section_most : (e : Entry) → e.thread < 10 → e.first < 10000 → e.last < 10000 → length (ended (section_line e)) ≤ 20
unfolding word_row row_text
section_most e h k l = simp length-append (omega (arith, one_digit e.thread h, four_digits e.first k, four_digits e.last l))

-- ---- the length of a text

text_append : (ls ms : List (List ℕ)) → text_of (ls ++ ms) ≡ text_of ls ++ text_of ms
unfolding text_of
text_append [] ms = refl
text_append (l ∷ ls) ms = ap (λ (t : List ℕ). ended l ++ t) (text_append ls ms) ∙ sym (append_assoc (ended l) (text_of ls) (text_of ms))

text_both : (ls ms : List (List ℕ)) → length (text_of (ls ++ ms)) ≡ length (text_of ls) + length (text_of ms)
text_both ls ms = ap length (text_append ls ms) ∙ length-append (text_of ls) (text_of ms)

-- lines of at most k bytes
pub text_most : (k : ℕ) (ls : List (List ℕ)) → All (λ l. length (ended l) ≤ k) ls → length (text_of ls) ≤ k * length ls
unfolding text_of
text_most k [] f = omega arith
text_most k (l ∷ ls) f = omega (arith, length-append (ended l) (text_of ls), f.0, text_most k ls f.1, mul-suc k (length ls))

mains_most : (v : ℕ) (xs : List ℤ) → v + length xs ≤ 16 → All (λ l. length (ended l) ≤ 30) (main_lines_from v xs)
unfolding main_lines_from
mains_most v [] h = tt
mains_most v (x ∷ xs) h = (main_most v x (omega arith), mains_most (suc v) xs (omega arith))

mains_count : (v : ℕ) (xs : List ℤ) → length (main_lines_from v xs) ≡ length xs
unfolding main_lines_from
mains_count v [] = refl
mains_count v (x ∷ xs) = ap suc (mains_count (suc v) xs)

-- ---- what the memories hold

-- what holds of all that f gives holds of the whole list
pub each_all : {A : Type 0} (P : A → Type 0) (f : ℕ → List A) (n : ℕ) → ((i : ℕ) → i < n → All P (f i)) → All P (each f (below n))
each_all P f zero g = unfold below each in tt
each_all P f (suc n) g = rw (each_suc f n) (both P (each f (below n)) (f n) (each_all P f n (λ i h. g i (omega arith))) (g n (omega arith)))

pub each_most : {A : Type 0} (k : ℕ) (f : ℕ → List A) (n : ℕ) → ((i : ℕ) → i < n → length (f i) ≤ k) → length (each f (below n)) ≤ k * n
each_most k f zero g = unfold below each in omega arith
each_most k f (suc n) g =
    rw (each_suc f n) (omega (arith, length-append (each f (below n)) (f n), each_most k f n (λ i h. g i (omega arith)), g n (omega arith), mul-suc k n))

-- a thread and a variable that may be declared
abbrev Known : Copy → Type 0
Known c = (c.thread < 8) × (c.variable < 16)

module _ (h : Counts) (w : Words) (a : allowed full h ≡ true) where
  threads : h.threads ≤ 8
  threads = (allowed_bounds h a).0

  variables : h.variables ≤ 16
  variables = (allowed_bounds h a).1

  memory_most : length (memory h w) ≤ 16
  unfolding memory
  memory_most = omega (arith, variables, each_most 1 (λ v. w.main v ∷ []) h.variables (λ i k. omega arith))

  -- what the copies list for a thread and a variable, and for a thread
  abbrev one : ℕ → ℕ → Bool → List Copy
  one t v b = cond b (record { thread = t; variable = v; value = w.copy t v } ∷ []) []

  abbrev row : ℕ → List Copy
  row t = each (λ v. one t v (w.usable t v)) (below h.variables)

  one_known : (t v : ℕ) → t < 8 → v < 16 → (b : Bool) → All Known (one t v b)
  one_known t v i j true = ((i, j), tt)
  one_known t v i j false = tt

  one_most : (t v : ℕ) (b : Bool) → length (one t v b) ≤ 1
  one_most t v true = omega arith
  one_most t v false = omega arith

  row_most : (t : ℕ) → length (row t) ≤ 16
  row_most t = omega (arith, variables, each_most 1 (λ v. one t v (w.usable t v)) h.variables (λ v j. one_most t v (w.usable t v)))

  copies_most : length (copies h w) ≤ 128
  unfolding copies
  copies_most = omega (arith, threads, each_most 16 row h.threads (λ t i. row_most t))

  copies_known : All Known (copies h w)
  unfolding copies
  copies_known = each_all Known row h.threads (λ t i. each_all Known (λ v. one t v (w.usable t v)) h.variables (λ v j. one_known t v (omega (arith, threads)) (omega (arith, variables)) (w.usable t v)))

copy_lines_most : (cs : List Copy) → All Known cs → All (λ l. length (ended l) ≤ 32) (copy_lines cs)
unfolding copy_lines
copy_lines_most [] f = tt
copy_lines_most (c ∷ cs) f = (copy_most c (omega (arith, f.0.0)) (omega (arith, f.0.1)), copy_lines_most cs f.1)

copy_lines_count : (cs : List Copy) → length (copy_lines cs) ≡ length cs
unfolding copy_lines
copy_lines_count cs = length-map cs copy_line

-- the lines of the memories: one of 14 bytes, 16 of 30 and 128 of 32
state_text : (n : ℕ) (h : Counts) (w : Words) → n ≤ full.events → allowed full h ≡ true → length (text_of (state_lines n (memory h w) (copies h w))) ≤ 4590
unfolding state_lines text_of
state_text n h w l a =
    let ms = main_lines (memory h w) in
    let cs = copy_lines (copies h w) in
    omega (
      arith,
      accepted_most n (omega arith),
      length-append (ended (accepted_line n)) (text_of (ms ++ cs)),
      text_both ms cs,
      text_most 30 ms (mains_most 0 (memory h w) (omega (arith, memory_most h w a))),
      mains_count 0 (memory h w),
      memory_most h w a,
      text_most 32 cs (copy_lines_most (copies h w) (copies_known h w a)),
      copy_lines_count (copies h w),
      copies_most h w a,
    )

-- ---- what comes behind them: at most 20,000 bytes

sections_most : (es : List Entry) → All Small es → All (λ l. length (ended l) ≤ 20) (section_lines es)
unfolding section_lines
sections_most [] f = tt
sections_most (e ∷ es) f = (section_most e (omega (arith, f.0.thread)) (omega (arith, f.0.first)) (omega (arith, f.0.last)), sections_most es f.1)

sections_count : (es : List Entry) → length (section_lines es) ≡ length es
unfolding section_lines
sections_count es = length-map es section_line

-- a word of at most 16 bytes and two numbers
row_text_law : (w : List ℕ) (l n : ℕ) → length w ≤ 16 → length (text_of (word_row w (l ∷ n ∷ []) ∷ [])) ≤ 81
unfolding text_of
row_text_law w l n h = rw (append-nil (ended (word_row w (l ∷ n ∷ [])))) (omega (arith, row_line_short w (l ∷ n ∷ [])))

-- the sections of an order, one line `unordered`, or nothing
pub data Behind : List (List ℕ) → Type 0 where
  sections : (es : List Entry) → length es ≤ full.entries → All Small es → Behind (section_lines es)
  unordered : (line number : ℕ) → Behind (unordered_line line number ∷ [])
  nothing : Behind []

behind_text : (ls : List (List ℕ)) → Behind ls → length (text_of ls) ≤ 20000
behind_text ls (sections es h f) = omega (arith, text_most 20 (section_lines es) (sections_most es f), sections_count es)
behind_text ls (unordered l n) = let t : length (text_of (unordered_line l n ∷ [])) ≤ 81 = row_text_law _ l n (omega arith) in omega arith
behind_text ls nothing = unfold text_of in omega arith

-- ---- 32,768 bytes are enough

-- the lines never need more, and all of them are written where there is so much
pub record Enough (ls : List (List ℕ)) : Type 0 where
  pub size : length (text_of ls) ≤ full.output
  pub whole : (o : List ℕ) → full.output ≤ length o → write_all ls o ≡ text_of ls

enough : (ls : List (List ℕ)) → length (text_of ls) ≤ 24590 → Enough ls
enough ls h = record { size = omega arith; whole = λ o k. all_text ls o (omega arith) }

-- the listing of an accepted trace: the lines of its memories, and what comes behind them
pub room_enough : (n : ℕ) (h : Counts) (w : Words) → n ≤ full.events → allowed full h ≡ true → (ends : List (List ℕ)) → Behind ends
    → Enough (state_lines n (memory h w) (copies h w) ++ ends)
room_enough n h w l a ends b =
    let ls = state_lines n (memory h w) (copies h w) in
    enough (ls ++ ends) (omega (arith, text_both ls ends, state_text n h w l a, behind_text ends b))

-- the one line of a refused trace
pub room_refused : (line number : ℕ) → Enough (refused_line line number ∷ [])
room_refused l n = let t : length (text_of (refused_line l n ∷ [])) ≤ 81 = row_text_law _ l n (omega arith) in enough (refused_line l n ∷ []) (omega arith)

-- the writer's contract then says that the whole text lies at the front of the output
pub wrote_whole : (ls : List (List ℕ)) (o p : List ℕ) (a : ℕ) → Enough ls → full.output ≤ length o → Wrote (write_all ls) o a p → (a ≡ length (text_of ls)) × (p ≡ over (text_of ls) o)
wrote_whole ls o p a e h v =
    let f = e.whole o h in
    (v.count ∙ ap length f, v.bytes ∙ ap (λ (t : List ℕ). over t o) f)
