-- The lines of a sheet: each fits its room, and the output has room for all of them.
use Prim.Native.Nat.{ℕ, zero, suc, ◌≤◌, ◌<◌, ◌+◌, ◌-◌, ◌/◌}
use native.Mathlib.Omega.{arith}
use mathlib.Core.Path.{◌≡◌, refl, sym, ap, ◌∙◌}
use mathlib.Core.Bool.{Bool, true, false, cond}
use mathlib.Core.List.{List, [], ◌∷◌, ◌++◌}
use borrow.Author.Tests.{eq-eqb, ne_eqb}
use lib.Dec.{eqb}
use borrow.Rule.Slice.PartMut.{put_mid}
use lib.ListN.{length, take, drop, length-append}
use Rattle.decimal.specs.Text.{Wrote}
use Rattle.rules.specs.Limits.{Limits, full}
use Rattle.rules.specs.Memories.{below, each}
use Rattle.rules.proofs.From.{each_more, each_same}
use Rattle.serial.specs.Lists.{All}
use Rattle.listing.specs.Listing.{accepted_line, refused_line, papers_line, share_line, text_of, write_all}
use Rattle.listing.proofs.LineLaws.{Fits, Listed, row_fits, share_fits, all_text, listed_start, listed_step, listed_end}
use Rattle.listing.proofs.ListLaws.{both}
use Rattle.listing.proofs.RoomEnough.{text_most, each_all, each_most}
use Rattle.session.specs.Sheet.{Sheet, holds, turned_away, sheet_of}
use Rattle.session.specs.Counting.{numbers_of, times, common, above, beneath}
use Rattle.session.specs.Computed.Tally.{head_lines, end_lines}
use Rattle.session.specs.Session.{count_lines, refused_lines, lowest_line, greatest, counted_lines, sheet_lines, sheet_text}

-- ---- each line fits

count_fits : (k n : ℕ) → All Fits (count_lines k n)
count_fits k n = by (eqb n 0)
  where
    by : (t : Bool) → All Fits (cond t [] (refused_line k n ∷ []))
    by true = tt
    by false = (row_fits _ (k ∷ n ∷ []) (omega arith) (omega arith), tt)

pub refused_fit : (n : ℕ) (f : ℕ → ℕ) → All Fits (refused_lines n f)
unfolding refused_lines
refused_fit n f = each_all Fits (λ k. count_lines (suc k) (f (suc k))) n (λ k h. count_fits (suc k) (f (suc k)))

pub head_fit : (n a : ℕ) → All Fits (head_lines n a)
head_fit n a = (row_fits _ (n ∷ []) (omega arith) (omega arith), (row_fits _ (a ∷ []) (omega arith) (omega arith), tt))

pub end_fit : (n a : ℕ) (f : ℕ → ℕ) → All Fits (end_lines n a f)
end_fit n a f = both Fits (refused_lines greatest f) (lowest_line a n ∷ []) (refused_fit greatest f) (share_fits (above a n) (beneath a n), tt)

pub counted_fit : (n : ℕ) (f : ℕ → ℕ) → All Fits (head_lines n (f 0) ++ end_lines n (f 0) f)
counted_fit n f = both Fits (head_lines n (f 0)) (end_lines n (f 0) f) (head_fit n (f 0)) (end_fit n (f 0) f)

-- the lines in two parts
pub both_parts : (n : ℕ) (f : ℕ → ℕ) → head_lines n (f 0) ++ end_lines n (f 0) f ≡ counted_lines n f
unfolding counted_lines
both_parts n f = refl

-- ---- there are at most 33 lines

count_few : (k n : ℕ) → length (count_lines k n) ≤ 1
count_few k n = by (eqb n 0)
  where
    by : (t : Bool) → length (cond t [] (refused_line k n ∷ [])) ≤ 1
    by true = omega arith
    by false = omega arith

refused_few : (n : ℕ) (f : ℕ → ℕ) → length (refused_lines n f) ≤ n
unfolding refused_lines
refused_few n f = omega (arith, each_most 1 (λ k. count_lines (suc k) (f (suc k))) n (λ k h. count_few (suc k) (f (suc k))))

counted_few : (n : ℕ) (f : ℕ → ℕ) → length (counted_lines n f) ≤ 33
unfolding counted_lines
counted_few n f = omega (arith, refused_few greatest f, length-append (refused_lines greatest f) (lowest_line (f 0) n ∷ []))

sheet_few : (m : Limits) (q : Sheet) → length (sheet_lines m q) ≤ 33
sheet_few m (holds ts) = counted_few (length ts) (λ k. times k (numbers_of m ts))
sheet_few m (turned_away n) = omega arith

sheet_fit : (m : Limits) (q : Sheet) → All Fits (sheet_lines m q)
sheet_fit m (holds ts) = rw (← both_parts (length ts) (λ k. times k (numbers_of m ts))) (counted_fit (length ts) (λ k. times k (numbers_of m ts)))
sheet_fit m (turned_away n) = (row_fits _ (0 ∷ n ∷ []) (omega arith) (omega arith), tt)

-- 33 lines of at most 128 bytes
lines_room : (m : Limits) (q : Sheet) → length (text_of (sheet_lines m q)) ≤ 4224
lines_room m q = omega (arith, sheet_few m q, text_most 128 (sheet_lines m q) (sheet_fit m q))

-- The text of a sheet fits the output.
pub sheet_room : (m : Limits) (s : List ℕ) → length (sheet_text m s) ≤ full.output
unfolding sheet_text
sheet_room m s = omega (arith, lines_room m (sheet_of s))

-- where so much is lent, the lines are written whole
pub written_whole : (m : Limits) (q : Sheet) (o : List ℕ) → full.output ≤ length o → write_all (sheet_lines m q) o ≡ text_of (sheet_lines m q)
written_whole m q o h = all_text (sheet_lines m q) o (omega (arith, lines_room m q))

-- ---- one line more

pub refused_none : (f : ℕ → ℕ) → refused_lines 0 f ≡ []
unfolding refused_lines below each
refused_none f = refl

pub refused_more : (k : ℕ) (f : ℕ → ℕ) → refused_lines k f ++ count_lines (k + 1) (f (k + 1)) ≡ refused_lines (k + 1) f
unfolding refused_lines
refused_more k f =
    let e : k + 1 ≡ suc k = omega arith in
    ap (λ (i : ℕ). refused_lines k f ++ count_lines i (f i)) e ∙ sym (each_more (λ k. count_lines (suc k) (f (suc k))) k)

-- a number that occurs has a line, another has none
pub count_there : (k n : ℕ) → (n ≡ 0 → ⊥) → refused_line k n ∷ [] ≡ count_lines k n
count_there k n h = rw (ne_eqb n 0 h)

pub count_not : (k n : ℕ) → n ≡ 0 → [] ≡ count_lines k n
count_not k n h = rw (eq-eqb n 0 h)

-- ---- the share as it is divided by a greatest common divisor

pub share_lowest : (a n d b : ℕ) → d ≡ common a a n → b ≡ cond (eqb a 0) 1 (n / d) → share_line (a / d) b ≡ lowest_line a n
unfolding above beneath
share_lowest a n d b e f = (λ i. share_line (a / e i) (f i)) ∙ ap (λ (k : ℕ). share_line (a / common a a n) (cond (eqb a 0) 1 (n / k))) e

pub share_none : (a n d : ℕ) → d ≡ common a a n → a ≡ 0 → share_line (a / d) 1 ≡ lowest_line a n
share_none a n d e z = share_lowest a n d 1 e (rw (eq-eqb a 0 z) refl)

pub share_some : (a n d : ℕ) → d ≡ common a a n → (a ≡ 0 → ⊥) → share_line (a / d) (n / d) ≡ lowest_line a n
share_some a n d e z = share_lowest a n d (n / d) e (rw (ne_eqb a 0 z) refl)

-- ---- the same counts give the same lines

pub counted_same : (n : ℕ) (f g : ℕ → ℕ) → ((k : ℕ) → k < suc greatest → f k ≡ g k) → counted_lines n f ≡ counted_lines n g
unfolding counted_lines refused_lines
counted_same n f g h =
    let r = each_same (λ k. count_lines (suc k) (f (suc k))) (λ k. count_lines (suc k) (g (suc k))) greatest (λ k l. ap (count_lines (suc k)) (h (suc k) (omega arith))) in
    let e : f 0 ≡ g 0 = h 0 (omega arith) in
    (λ i. papers_line n ∷ accepted_line (e i) ∷ (r i ++ (lowest_line (e i) n ∷ [])))

-- ---- the loop over the numbers

-- the lines of the numbers below k stand at the front of p, the first `a` bytes of it
abbrev pub ListedBelow : (ℕ → ℕ) → List ℕ → ℕ → ℕ → List ℕ → Type 0
ListedBelow f o k a p = Listed (λ i. refused_lines (i - 1) f) (suc greatest) o k a p

pub below_start : (f : ℕ → ℕ) (o : List ℕ) → ListedBelow f o 1 0 o
below_start f o =
    let r = listed_start (λ i. refused_lines i f) greatest o (refused_fit 0 f) (refused_none f) in
    record { within = omega arith; fit = r.fit; wrote = r.wrote }

pub below_step : (f : ℕ → ℕ) (o : List ℕ) (k a : ℕ) (p : List ℕ) → ListedBelow f o k a p → 0 < k → k < suc greatest
    → (q : List ℕ) (b : ℕ) → Wrote (write_all (count_lines k (f k))) (take (length p - a) (drop a p)) b q → ListedBelow f o (k + 1) (a + b) (put_mid a (length p - a) p q)
below_step f o zero a p r h l q b w = absurd (omega arith)
below_step f o (suc k) a p r h l q b w = listed_step _ _ _ _ _ _ r l (count_lines (suc k) (f (suc k))) (same k) (refused_fit _ f) q b w
  where
    same : (k : ℕ) → refused_lines (suc k - 1) f ++ count_lines (suc k) (f (suc k)) ≡ refused_lines (suc k + 1 - 1) f
    same k =
        let x : suc k - 1 ≡ k = omega arith in
        let y : suc k ≡ k + 1 = omega arith in
        let z : k + 1 ≡ suc k + 1 - 1 = omega arith in
        (λ i. refused_lines (x i) f ++ count_lines (y i) (f (y i))) ∙ refused_more k f ∙ ap (λ (i : ℕ). refused_lines i f) z

pub below_end : (f : ℕ → ℕ) (o : List ℕ) (k a : ℕ) (p : List ℕ) → ListedBelow f o k a p → suc greatest ≤ k → Wrote (write_all (refused_lines greatest f)) o a p
below_end f o k a p r h = listed_end _ _ _ _ _ _ r h
