-- Which numbers a trace may have, whatever its bytes are, and which a trace of a sheet may have.
use Prim.Native.Nat.{ℕ, zero, suc, ◌≤◌, ◌<◌}
use native.Mathlib.Omega.{arith}
use mathlib.Core.Path.{◌≡◌, refl, sym, subst}
use mathlib.Core.Bool.{Bool, true, false, cond}
use mathlib.Core.List.{List, [], ◌∷◌}
use mathlib.Core.Logic.{◌⊎◌, inl, inr}
use mathlib.Core.Option.{Option, none, some}
use lib.Dec.{T, ltb, leb}
use lib.ListN.{length, length-append}
use borrow.Author.Tests.{ltb-true}
use Rattle.rules.specs.declared.Counts.{Counts}
use Rattle.rules.specs.declared.Course.{Course}
use Rattle.rules.specs.declared.Course.TheVariants.{Full, Short}
use Rattle.rules.specs.declared.Event.{Event}
use Rattle.rules.specs.Events.{letter, among}
use Rattle.rules.specs.Limits.{limits_of, full, line_after, allowed, declared}
use Rattle.rules.specs.Rules.{Words, words_of, rows, row_in, judge, answer, verdict, Marked, accepted, refused, told, number_in, refused_or, unless, mark_read}
use Rattle.rules.proofs.Laws.{is_true, all_of, each_among, named_among, letters, lettered}
use Rattle.serial.specs.Lists.{All}
use Rattle.trace.specs.Trace.{last_line, trace_of, head_in}
use Rattle.trace.proofs.TraceLaws.{found_number, trailed_number}
use Rattle.marking.specs.Marking.{lines_in, marked_of}
use Rattle.session.specs.Sheet.{Ends, joined, holds, sheet_of}
use Rattle.session.specs.Counting.{numbers_of, known}
use Rattle.session.specs.Session.{greatest}
use Rattle.session.proofs.Found.{sheet_ends, sheet_fits}

-- ---- a test that the numbers of lines and rows pass

record Passes (f : ℕ → Bool) : Type 0 where
  lines : T (all_of f (0 ∷ 4 ∷ 5 ∷ 9 ∷ 25 ∷ []))
  table : T (all_of (λ k. all_of f (row_in rows k)) letters)

module _ (f : ℕ → Bool) (t : Passes f) where
  line_pass : (n : ℕ) → T (among (0 ∷ 4 ∷ 5 ∷ 9 ∷ 25 ∷ []) n) → T (f n)
  line_pass n h = each_among f (0 ∷ 4 ∷ 5 ∷ 9 ∷ 25 ∷ []) n t.lines h

  excess_pass : (c : Course) → T (f (limits_of c).excess)
  excess_pass Full = line_pass 9 tt
  excess_pass Short = line_pass 25 tt

  judge_pass : (h : Counts) (w : Words) (e : Event) → T (f (judge h w e))
  unfolding judge
  judge_pass h w e = by (judge h w e) refl
    where
      by : (n : ℕ) → judge h w e ≡ n → T (f n)
      by zero q = line_pass 0 tt
      by (suc n) q =
          let r = row_in rows (letter e.kind) in
          each_among f r (suc n) (each_among (λ k. all_of f (row_in rows k)) letters (letter e.kind) t.table (lettered e.kind)) (named_among r h w e n q)

  -- ---- line by line, and the whole, of a course

  module _ (c : Course) where
    verdict_pass : (h : Counts) (es : List Event) (e : Event) → T (f (verdict (limits_of c) h es e))
    unfolding verdict answer
    verdict_pass h es e = by (leb (limits_of c).events (words_of es).events) (declared h e)
      where
        by : (p q : Bool) → T (f (cond p (limits_of c).excess (cond q (judge h (words_of es) e) 5)))
        by true q = excess_pass c
        by false true = judge_pass h (words_of es) e
        by false false = line_pass 5 tt

    unless_pass : (k line : ℕ) (rest : Marked) → T (f k) → T (f (number_in rest)) → T (f (number_in (unless k line rest)))
    unless_pass zero line rest p r = r
    unless_pass (suc k) line rest p r = p

    lines_pass : (h : Counts) (es : List Event) (rs : List (Option Event)) → T (f (number_in (mark_read (limits_of c) h es rs)))
    unfolding mark_read
    lines_pass h es [] = line_pass 0 tt
    lines_pass h es (none ∷ rs) = line_pass 4 tt
    lines_pass h es (some e ∷ rs) = unless_pass (verdict (limits_of c) h es e) (line_after h (length es)) _ (verdict_pass h es e) (lines_pass h (e ∷ es) rs)

    -- where what finding refuses passes
    number_pass : (s : List ℕ) → ((n line : ℕ) → told (trace_of (limits_of c) s) ≡ refused n line → T (f n)) → T (f (number_in (marked_of (limits_of c) s)))
    unfolding marked_of
    number_pass s g = by (told (trace_of (limits_of c) s)) g
      where
        by : (v : Marked) → ((n line : ℕ) → v ≡ refused n line → T (f n)) → T (f (number_in (refused_or v (mark_read (limits_of c) (head_in (trace_of (limits_of c) s)) [] (lines_in (limits_of c) s)))))
        by accepted g = lines_pass (head_in (trace_of (limits_of c) s)) [] (lines_in (limits_of c) s)
        by (refused n line) g = g n line refl

    -- of finding 1, 2, 3 and 6
    any_pass : T (all_of f (1 ∷ 2 ∷ 3 ∷ 6 ∷ [])) → (s : List ℕ) → T (f (number_in (marked_of (limits_of c) s)))
    any_pass g s = number_pass s (λ n line q. by n (found_number (limits_of c) s n line q))
      where
        by : (n : ℕ) {line : ℕ} → T (among (1 ∷ 2 ∷ 3 ∷ 6 ∷ []) n) ⊎ ((h : Counts) × (allowed full h ≡ true) × (allowed (limits_of c) h ≡ false) × (n ≡ (limits_of c).excess) × (line ≡ 1)) → T (f n)
        by n (inl k) = each_among f (1 ∷ 2 ∷ 3 ∷ 6 ∷ []) n g k
        by n (inr k) = subst (λ (i : ℕ). T (f i)) (sym k.3) (excess_pass c)

    -- 3 and 6 alone of a trace of a sheet
    ends_pass : T (all_of f (3 ∷ 6 ∷ [])) → (s : List ℕ) → Ends s → length s ≤ full.bytes → T (f (number_in (marked_of (limits_of c) s)))
    ends_pass g s e h = number_pass s (λ n line q. by n (trailed_number (limits_of c) s n line (last_line s) e.trailed h q))
      where
        by : (n : ℕ) → T (among (3 ∷ 6 ∷ []) n) ⊎ (n ≡ (limits_of c).excess) → T (f n)
        by n (inl k) = each_among f (3 ∷ 6 ∷ []) n g k
        by n (inr k) = subst (λ (i : ℕ). T (f i)) (sym k) (excess_pass c)

-- ---- a number is at most 30

abbrev low : ℕ → Bool
low n = ltb n (suc greatest)

low_passes : Passes low
unfolding rows row_in
low_passes = record { lines = tt; table = tt }

pub number_low : (c : Course) (s : List ℕ) → number_in (marked_of (limits_of c) s) < suc greatest
number_low c s = ltb-true _ (suc greatest) (is_true (any_pass low low_passes c tt s))

pub numbers_low : (c : Course) (ts : List (List ℕ)) → All (λ n. n < suc greatest) (numbers_of (limits_of c) ts)
unfolding numbers_of
numbers_low c [] = tt
numbers_low c (t ∷ ts) = (number_low c t, numbers_low c ts)

-- ---- the numbers in a sheet: no trace of it is refused with 1 or 2, and none with 20 to 22

known_passes : Passes (among known)
unfolding rows row_in
known_passes = record { lines = tt; table = tt }

all_known : (c : Course) (ts : List (List ℕ)) → All Ends ts → length (joined ts) ≤ full.bytes → All (λ n. T (among known n)) (numbers_of (limits_of c) ts)
unfolding numbers_of joined
all_known c [] f h = tt
all_known c (t ∷ ts) f h =
    let n = length-append t (joined ts) in
    (ends_pass (among known) known_passes c tt t f.0 (omega (arith, n, h)), all_known c ts f.1 (omega (arith, n, h)))

pub sheet_numbers : (c : Course) (s : List ℕ) (ts : List (List ℕ)) → sheet_of s ≡ holds ts → All (λ n. T (among known n)) (numbers_of (limits_of c) ts)
sheet_numbers c s ts e =
    let w = sheet_ends s ts e in
    all_known c ts w.1 (subst (λ (u : List ℕ). length u ≤ full.bytes) (sym w.0) (sheet_fits s ts e))
