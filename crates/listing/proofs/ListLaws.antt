-- Laws of the lists of lines of memories and of an order, one line more at a time.
-- Assumes nothing.
use mathlib.Core.Path.{◌≡◌, refl, sym, ap, ◌∙◌}
use mathlib.Core.Bool.{Bool, true, false, cond}
use mathlib.Core.List.{List, [], ◌∷◌, ◌++◌, map, map-append}
use Prim.Native.Nat.{ℕ, zero, suc, ◌<◌, ◌+◌, ◌*◌, ◌/◌, ◌%◌}
use native.Mathlib.Numerals.{add-one}
use native.Mathlib.Omega.{arith}
use lib.IntN.{ℤ}
use lib.ListN.{length, get_or, take, length-append}
use lib.Seq.{take-suc, take_all}
use Rattle.rules.specs.declared.Cached.{Cached}
use Rattle.rules.specs.declared.Counts.{Counts}
use Rattle.rules.specs.declared.Main.{Main}
use Rattle.rules.specs.declared.Memories.{Memories}
use Rattle.rules.specs.Limits.{full, allowed}
use Rattle.rules.specs.Rules.{Words}
use Rattle.rules.specs.Memories.{Copy, below, each, memory, copies, from, main_in, cached_in, memories_of}
use Rattle.rules.proofs.From.{each_suc, each_more, each_same, from_at}
use Rattle.rules.proofs.Bounds.{allowed_bounds}
use Rattle.serial.specs.Lists.{All}
use Rattle.sections.specs.CriticalSections.{Entry}
use Rattle.sections.specs.Entries.{entry_in}
use Rattle.listing.specs.Listing.{accepted_line, main_line, copy_line, section_line, main_lines_from, main_lines, copy_lines, state_lines, section_lines, entry_lines, no_main, no_cached, main_at, mains_in, usable_copy, copy_at, copies_at, cached_copies, lines_for}
use Rattle.listing.proofs.LineLaws.{Fits, row_fits, value_fits}

-- ---- one more

mains_append : (v : ℕ) (xs ys : List ℤ) → main_lines_from v (xs ++ ys) ≡ main_lines_from v xs ++ main_lines_from (v + length xs) ys
unfolding main_lines_from
mains_append v [] ys = let e : v ≡ v + 0 = omega arith in ap (λ (k : ℕ). main_lines_from k ys) e
mains_append v (x ∷ xs) ys =
    let e : suc v + length xs ≡ v + suc (length xs) = omega arith in
    ap (λ z. main_line v x ∷ z) (mains_append (suc v) xs ys ∙ ap (λ (k : ℕ). main_lines_from (suc v) xs ++ main_lines_from k ys) e)

-- what f gives, one value for each number
abbrev pub single : (ℕ → ℤ) → ℕ → List ℤ
single f v = f v ∷ []

values_length : (f : ℕ → ℤ) (n : ℕ) → length (each (single f) (below n)) ≡ n
values_length f zero = unfold below each in refl
values_length f (suc n) =
    ap length (each_suc (single f) n) ∙ length-append (each (single f) (below n)) (single f n) ∙ ap (λ (k : ℕ). k + 1) (values_length f n) ∙ add-one n

one_line : (v : ℕ) (x : ℤ) → main_line v x ∷ [] ≡ main_lines_from v (x ∷ [])
unfolding main_lines_from
one_line v x = refl

pub mains_none : (f : ℕ → ℤ) → main_lines (each (single f) (below 0)) ≡ []
unfolding below each main_lines_from
mains_none f = refl

pub mains_more : (f : ℕ → ℤ) (v : ℕ) → main_lines (each (single f) (below v)) ++ (main_line v (f v) ∷ []) ≡ main_lines (each (single f) (below (v + 1)))
mains_more f v =
    let xs = each (single f) (below v) in
    let e : v ≡ 0 + length xs = omega (arith, values_length f v) in
    let last : main_line v (f v) ∷ [] ≡ main_lines_from (0 + length xs) (f v ∷ []) = ap (λ (k : ℕ). main_line k (f v) ∷ []) e ∙ one_line (0 + length xs) (f v) in
    ap (λ z. main_lines xs ++ z) last ∙ sym (mains_append 0 xs (f v ∷ [])) ∙ ap main_lines (sym (each_more (single f) v))

-- a copy is listed where it is usable, and else not
pub copy_there : (t v : ℕ) (c : Cached) → c.usable ≡ true → copy_line (record { thread = t; variable = v; value = c.value }) ∷ [] ≡ copy_lines (usable_copy t v c)
unfolding copy_lines
copy_there t v c h = rw h refl

pub copy_not : (t v : ℕ) (c : Cached) → c.usable ≡ false → [] ≡ copy_lines (usable_copy t v c)
unfolding copy_lines
copy_not t v c h = rw h refl

-- the copies of one more variable, or of one more thread
pub copies_none : (f : ℕ → List Copy) → copy_lines (each f (below 0)) ≡ []
unfolding copy_lines below each
copies_none f = refl

pub copies_more : (f : ℕ → List Copy) (i : ℕ) → copy_lines (each f (below i)) ++ copy_lines (f i) ≡ copy_lines (each f (below (i + 1)))
unfolding copy_lines
copies_more f i = sym (map-append copy_line (each f (below i)) (f i)) ∙ ap (map copy_line) (sym (each_more f i))

pub entries_more : (ws : List ℕ) (i : ℕ) → i < length ws → entry_lines (take i ws) ++ (section_line (entry_in (get_or ws i 0)) ∷ []) ≡ entry_lines (take (i + 1) ws)
unfolding section_lines
entries_more ws i h =
    let w = get_or ws i 0 in
    sym (map-append section_line (map entry_in (take i ws)) (entry_in w ∷ [])) ∙ ap (map section_line) (sym (map-append entry_in (take i ws) (w ∷ [])))
    ∙ ap (λ z. map section_line (map entry_in z)) (sym (take-suc ws i 0 h) ∙ ap (λ (k : ℕ). take k ws) (sym (add-one i)))

pub entries_all : (ws : List ℕ) → entry_lines (take (length ws) ws) ≡ entry_lines ws
entries_all ws = ap entry_lines (take_all (length ws) ws (omega arith))

pub entries_none : (ws : List ℕ) → entry_lines (take 0 ws) ≡ []
unfolding section_lines
entries_none ws = refl

-- ---- the parts of the lines of memories

-- the lines as they are written: the events, with main memory, and with the copies
abbrev pub first_lines : ℕ → List (List ℕ)
first_lines n = accepted_line n ∷ []

abbrev pub head_lines : ℕ → Counts → Memories → List (List ℕ)
head_lines n h m = first_lines n ++ main_lines (each (main_at m.main) (below h.variables))

abbrev pub every_line : ℕ → Counts → Memories → List (List ℕ)
every_line n h m = head_lines n h m ++ copy_lines (each (copies_at m.copies h.variables) (below h.threads))

pub all_lines : (n : ℕ) (h : Counts) (m : Memories) → allowed full h ≡ true → every_line n h m ≡ lines_for n h m
unfolding lines_for state_lines mains_in cached_copies
all_lines n h m a = rw a refl

pub no_lines : (n : ℕ) (h : Counts) (m : Memories) → allowed full h ≡ false → [] ≡ lines_for n h m
unfolding lines_for
no_lines n h m a = rw a refl

-- ---- memories that are those of words

row_at : {X : Type 0} (f : ℕ → X) (n k : ℕ) (d : X) → k < n → get_or (from f 0 n) k d ≡ f k
row_at f n k d h = from_at f d 0 n k h ∙ ap f (omega arith)

module _ (h : Counts) (w : Words) (a : allowed full h ≡ true) where
  mains_are : mains_in (memories_of w) h ≡ memory h w
  unfolding mains_in memories_of memory
  mains_are = each_same (main_at (from (main_in w) 0 16)) (λ v. w.main v ∷ []) h.variables
      (λ v k. ap (λ (m : Main). m.value ∷ []) (row_at (main_in w) 16 v no_main (omega (arith, allowed_bounds h a))))

  -- the copy of thread t and variable v
  copy_is : (t v : ℕ) → t < 8 → v < 16 → copy_at (from (cached_in w) 0 128) t v ≡ cond (w.usable t v) (record { thread = t; variable = v; value = w.copy t v } ∷ []) []
  copy_is t v i j =
      let at : get_or (from (cached_in w) 0 128) (16 * t + v) no_cached ≡ cached_in w (16 * t + v) = row_at (cached_in w) 128 (16 * t + v) no_cached (omega arith) in
      let p : (16 * t + v) / 16 ≡ t = omega arith in
      let q : (16 * t + v) % 16 ≡ v = omega arith in
      ap (usable_copy t v) at ∙ ap (λ (u : ℕ). usable_copy t v (record { value = w.copy u ((16 * t + v) % 16); usable = w.usable u ((16 * t + v) % 16) })) p
      ∙ ap (λ (u : ℕ). usable_copy t v (record { value = w.copy t u; usable = w.usable t u })) q

  copies_are : cached_copies (memories_of w) h ≡ copies h w
  unfolding cached_copies memories_of copies
  copies_are = each_same _ _ h.threads (λ t i. each_same _ _ h.variables (λ v j. copy_is t v (omega (arith, allowed_bounds h a)) (omega (arith, allowed_bounds h a))))

-- the lines of the memories of words are those of the words
pub lines_are : (n : ℕ) (h : Counts) (w : Words) → allowed full h ≡ true → lines_for n h (memories_of w) ≡ state_lines n (memory h w) (copies h w)
unfolding lines_for
lines_are n h w a = rw a (ap (λ xs. state_lines n xs (cached_copies (memories_of w) h)) (mains_are h w a) ∙ ap (state_lines n (memory h w)) (copies_are h w a))

-- ---- every line fits its room

pub both : {A : Type 0} (P : A → Type 0) (xs ys : List A) → All P xs → All P ys → All P (xs ++ ys)
both P [] ys f g = g
both P (x ∷ xs) ys f g = (f.0, both P xs ys f.1 g)

pub fit_mains : (v : ℕ) (xs : List ℤ) → All Fits (main_lines_from v xs)
unfolding main_lines_from
fit_mains v [] = tt
fit_mains v (x ∷ xs) = (value_fits _ (v ∷ []) x (omega arith) (omega arith), fit_mains (suc v) xs)

pub fit_copies : (cs : List Copy) → All Fits (copy_lines cs)
unfolding copy_lines
fit_copies [] = tt
fit_copies (c ∷ cs) = (value_fits _ (c.thread ∷ c.variable ∷ []) c.value (omega arith) (omega arith), fit_copies cs)

pub fit_sections : (es : List Entry) → All Fits (section_lines es)
unfolding section_lines
fit_sections [] = tt
fit_sections (e ∷ es) = (row_fits _ (e.thread ∷ e.first ∷ e.last ∷ []) (omega arith) (omega arith), fit_sections es)

pub fit_state : (n : ℕ) (xs : List ℤ) (cs : List Copy) → All Fits (state_lines n xs cs)
unfolding state_lines
fit_state n xs cs = (row_fits _ (n ∷ []) (omega arith) (omega arith), both Fits (main_lines xs) (copy_lines cs) (fit_mains 0 xs) (fit_copies cs))

pub fit_lines : (n : ℕ) (h : Counts) (m : Memories) → All Fits (lines_for n h m)
unfolding lines_for
fit_lines n h m = by (allowed full h)
  where
    by : (b : Bool) → All Fits (cond b (state_lines n (mains_in m h) (cached_copies m h)) [])
    by true = fit_state _ _ _
    by false = tt

pub fit_first : (n : ℕ) → All Fits (first_lines n)
fit_first n = (row_fits _ (n ∷ []) (omega arith) (omega arith), tt)

pub fit_head : (n : ℕ) (h : Counts) (m : Memories) → All Fits (head_lines n h m)
fit_head n h m = both Fits (first_lines n) (main_lines (each (main_at m.main) (below h.variables))) (fit_first n) (fit_mains 0 _)

pub fit_all : (n : ℕ) (h : Counts) (m : Memories) → All Fits (every_line n h m)
fit_all n h m = both Fits (head_lines n h m) (copy_lines (each (copies_at m.copies h.variables) (below h.threads))) (fit_head n h m) (fit_copies _)
