-- Traces joined end to end are found again exactly, and nothing else is found.
use mathlib.Core.Path.{◌≡◌, refl, sym, ap, ◌∙◌, subst}
use mathlib.Core.Bool.{Bool, true, false, cond, ◌&&◌}
use mathlib.Core.List.{List, [], ◌∷◌, ◌++◌, append_assoc, append-nil, reverse, reverse_aux, reverse-reverse}
use Prim.Native.Nat.{ℕ, zero, suc, ◌≤◌, ◌<◌, ◌+◌, ◌-◌}
use native.Mathlib.Omega.{arith}
use borrow.Author.Tests.{eq-eqb, ne_eqb, eqb-true, le-leb, leb-true, ltb-true, ltb-false, lt-ltb, le-ltb}
use lib.Dec.{eqb, leb, ltb}
use lib.ListN.{length, get_or, take, drop, length-append, length-drop, take-append-drop}
use lib.Seq.{take-append-add, drop-append-add, get_or-append-add, take-append_seam, drop-append_seam, get_or-take, get_or-drop}
use Rattle.std.specs.Prelude.{Option, Some, None}
use Rattle.serial.specs.Lists.{All}
use Rattle.lines.specs.Lines.{up_to, split_on, on_first, letter}
use Rattle.lines.proofs.PartLaws.{empty}
use Rattle.decimal.specs.Decimal.{natural_of}
use Rattle.trace.specs.Trace.{check_at, last_line, last_number, trailer_number, trailer_of}
use Rattle.trace.proofs.TraceLaws.{last_le, part_drop}
use Rattle.listing.proofs.ListLaws.{both}
use Rattle.rules.specs.Limits.{full}
use Rattle.session.specs.Session.{traces_in}
use Rattle.session.specs.Sheet.{pointed, start_of, Sheet, holds, turned_away, on_start, find_from, sheet_of, joined, Ends}

-- ---- the last line of what stands behind other bytes, and of a part up to the end

up_behind : (b : ℕ) (xs u : List ℕ) → 0 < up_to b u → up_to b (xs ++ u) ≡ length xs + up_to b u
unfolding up_to
up_behind b [] u h = omega arith
up_behind b (x ∷ xs) u h =
    let r : up_to b (xs ++ u) ≡ length xs + up_to b u = up_behind b xs u h in
    rw (ne_eqb (up_to b (xs ++ u)) 0 (λ z. omega arith)) (omega arith)

-- more than one byte up to the last b: the first is passed
up_more : (b a x : ℕ) (xs : List ℕ) → suc a < up_to b (x ∷ xs) → up_to b (x ∷ xs) ≡ suc (up_to b xs)
unfolding up_to
up_more b a x xs h = by (eqb (up_to b xs) 0) (eqb x b) h
  where
    by : (t u : Bool) → suc a < cond t (cond u 1 0) (suc (up_to b xs)) → cond t (cond u 1 0) (suc (up_to b xs)) ≡ suc (up_to b xs)
    by true true h = absurd (omega arith)
    by true false h = absurd (omega arith)
    by false u h = refl

up_nil : (b : ℕ) → up_to b [] ≡ 0
unfolding up_to
up_nil b = refl

up_drop : (b a : ℕ) (s : List ℕ) → a < up_to b s → up_to b (drop a s) ≡ up_to b s - a
up_drop b zero s h = omega arith
up_drop b (suc a) [] h = absurd (omega (arith, up_nil b, h))
up_drop b (suc a) (x ∷ xs) h =
    let e = up_more b a x xs h in
    omega (arith, e, h, up_drop b a xs (omega (arith, e, h)))

-- p behind other bytes
module _ (xs p : List ℕ) (more : 0 < last_line p) where
  end_behind : length (xs ++ p) - 1 ≡ length xs + (length p - 1)
  end_behind = omega (arith, length-append xs p, more, last_le p)

  last_behind : last_line (xs ++ p) ≡ length xs + last_line p
  unfolding last_line
  last_behind =
      ap (λ (k : ℕ). up_to 10 (take k (xs ++ p))) end_behind ∙ ap (up_to 10) (take-append-add xs p (length p - 1))
      ∙ up_behind 10 xs (take (length p - 1) p) more

  byte_behind : get_or (xs ++ p) (length (xs ++ p) - 1) 0 ≡ get_or p (length p - 1) 0
  byte_behind = ap (λ (k : ℕ). get_or (xs ++ p) k 0) end_behind ∙ get_or-append-add xs p (length p - 1) 0

  line_behind : take (length (xs ++ p) - 1 - last_line (xs ++ p)) (drop (last_line (xs ++ p)) (xs ++ p)) ≡ take (length p - 1 - last_line p) (drop (last_line p) p)
  line_behind =
      let n : length (xs ++ p) - 1 - last_line (xs ++ p) ≡ length p - 1 - last_line p = omega (arith, end_behind, last_behind) in
      let r : drop (last_line (xs ++ p)) (xs ++ p) ≡ drop (last_line p) p = ap (λ (k : ℕ). drop k (xs ++ p)) last_behind ∙ drop-append-add xs p (last_line p) in
      (λ i. take (n i) (r i))

  number_behind : last_number (xs ++ p) ≡ last_number p
  unfolding last_number
  number_behind = (λ i. cond (eqb (byte_behind i) 10) (trailer_number (split_on 32 (line_behind i))) None)

-- what is left from a on, where the last line starts behind a
last_drop : (a : ℕ) (s : List ℕ) → a < last_line s → last_line (drop a s) ≡ last_line s - a
unfolding last_line
last_drop a s h =
    let n : length (drop a s) - 1 ≡ length s - 1 - a = omega (arith, length-drop a s) in
    ap (λ (k : ℕ). up_to 10 (take k (drop a s))) n
    ∙ ap (up_to 10) (part_drop a (length s - 1) s (omega (arith, h, last_le s)) (omega arith))
    ∙ up_drop 10 a (take (length s - 1) s) h

-- ---- a trailer starts with `Z`, so that it is no head

letter_first : (s : List ℕ) → letter (get_or (split_on 32 s) 0 []) ≡ 90 → get_or s 0 0 ≡ 90
unfolding split_on letter
letter_first [] h = absurd (omega arith)
letter_first (x ∷ xs) h = by (eqb x 32) (split_on 32 xs) h
  where
    by : (t : Bool) (fs : List (List ℕ)) → letter (get_or (cond t ([] ∷ fs) (on_first x fs)) 0 []) ≡ 90 → x ≡ 90
    by true fs h = absurd (omega arith)
    by false [] h = h
    by false ([] ∷ fs) h = h
    by false ((y ∷ f) ∷ fs) h = absurd (omega arith)

number_letter : (fs : List (List ℕ)) (n : ℕ) → trailer_number fs ≡ Some n → letter (get_or fs 0 []) ≡ 90
unfolding trailer_number
number_letter fs n e = by (eqb (length fs) 2) (eqb (letter (get_or fs 0 [])) 90) refl e
  where
    by : (p q : Bool) → eqb (letter (get_or fs 0 [])) 90 ≡ q → cond p (cond q (natural_of (get_or fs 1 [])) None) None ≡ Some n
        → letter (get_or fs 0 []) ≡ 90
    by true true r e = eqb-true (letter (get_or fs 0 [])) 90 r
    by true false r e = absurd (let z : ◌≡◌ {A = ℕ} 0 1 = cc in omega arith)
    by false q r e = absurd (let z : ◌≡◌ {A = ℕ} 0 1 = cc in omega arith)

first_part : (m a b : ℕ) (s : List ℕ) → get_or (take m (drop a s)) 0 0 ≡ suc b → get_or s a 0 ≡ suc b
first_part zero a b s h = absurd (omega arith)
first_part (suc m) a b s h =
    let z : a ≡ a + 0 = omega arith in
    ap (λ (k : ℕ). get_or s k 0) z ∙ sym (get_or-drop a s 0 0) ∙ sym (get_or-take (suc m) (drop a s) 0 0 (omega arith)) ∙ h

last_z : (s : List ℕ) (n : ℕ) → last_number s ≡ Some n → get_or s (last_line s) 0 ≡ 90
unfolding last_number
last_z s n e = by (eqb (get_or s (length s - 1) 0) 10) e
  where
    by : (t : Bool) → cond t (trailer_number (split_on 32 (take (length s - 1 - last_line s) (drop (last_line s) s)))) None ≡ Some n → get_or s (last_line s) 0 ≡ 90
    by true e =
        let l = take (length s - 1 - last_line s) (drop (last_line s) s) in
        first_part (length s - 1 - last_line s) (last_line s) 89 s (letter_first l (number_letter (split_on 32 l) n e))
    by false e = absurd (let z : ◌≡◌ {A = ℕ} 0 1 = cc in omega arith)

-- ---- a right trailer has the number of bytes before it

right_number : (t : List ℕ) → trailer_of t ≡ Some (last_line t) → last_number t ≡ Some (last_line t)
unfolding trailer_of
right_number t h = by (last_number t) h
  where
    on : (n : ℕ) (q : Bool) → eqb n (last_line t) ≡ q → cond q (Some n) None ≡ Some (last_line t) → Some n ≡ Some (last_line t)
    on n true r h = h
    on n false r h = absurd (let z : ◌≡◌ {A = ℕ} 0 1 = cc in omega arith)

    by : (n : Option ℕ) → check_at (last_line t) n ≡ Some (last_line t) → n ≡ Some (last_line t)
    by None h = absurd (let z : ◌≡◌ {A = ℕ} 0 1 = cc in omega arith)
    by (Some n) h = on n (eqb n (last_line t)) refl h

number_trailed : (t : List ℕ) → last_number t ≡ Some (last_line t) → trailer_of t ≡ Some (last_line t)
unfolding trailer_of
number_trailed t e = ap (check_at (last_line t)) e ∙ rw (eq-eqb (last_line t) (last_line t) refl)

-- a trace has a line before its trailer
ends_more : (p : List ℕ) → Ends p → 0 < last_line p
ends_more p e = by (last_line p) (last_z p (last_line p) (right_number p e.trailed))
  where
    by : (l : ℕ) → get_or p l 0 ≡ 90 → 0 < l
    by zero z = absurd (omega (arith, z, e.begins))
    by (suc l) z = omega arith

-- ---- the start of the last trace

start_behind : (xs p : List ℕ) → Ends p → start_of (xs ++ p) ≡ Some (length xs)
unfolding start_of
start_behind xs p e =
    let m = ends_more p e in
    let n : last_number (xs ++ p) ≡ Some (last_line p) = number_behind xs p m ∙ right_number p e.trailed in
    let l = last_behind xs p m in
    let back : length xs + last_line p - last_line p ≡ length xs = omega arith in
    let z : length xs ≡ length xs + 0 = omega arith in
    let here : get_or (xs ++ p) (length xs) 0 ≡ 72 = ap (λ (k : ℕ). get_or (xs ++ p) k 0) z ∙ get_or-append-add xs p 0 0 ∙ e.begins in
    (λ i. pointed (xs ++ p) (l i) (n i))
    ∙ rw (le-leb (last_line p) (length xs + last_line p) (omega arith), back, eq-eqb (get_or (xs ++ p) (length xs) 0) 72 here)

-- the last trace of s starts at a
pub record Cut (s : List ℕ) (a : ℕ) : Type 0 where
  pub within : a < last_line s
  pub ends : Ends (drop a s)

-- a trailer at the end of s, with the number n, that points to an `H` at a
cut : (s : List ℕ) (a n : ℕ) → last_number s ≡ Some n → n ≤ last_line s → last_line s - n ≡ a → get_or s a 0 ≡ 72 → Cut s a
cut s a n r h d b = record { within = inside; ends = record { begins = first; trailed = number_trailed (drop a s) number } }
  where
    by : (t : Bool) → ltb a (last_line s) ≡ t → a < last_line s
    by true k = ltb-true a (last_line s) k
    by false k =
        let same : a ≡ last_line s = omega (arith, ltb-false a (last_line s) k, d) in
        let two : get_or s a 0 ≡ 90 = ap (λ (k : ℕ). get_or s k 0) same ∙ last_z s n r in
        absurd (omega (arith, two, b))

    inside : a < last_line s
    inside = by (ltb a (last_line s)) refl

    first : get_or (drop a s) 0 0 ≡ 72
    first = let z : a + 0 ≡ a = omega arith in get_or-drop a s 0 0 ∙ ap (λ (k : ℕ). get_or s k 0) z ∙ b

    number : last_number (drop a s) ≡ Some (last_line (drop a s))
    number =
        let l = last_drop a s inside in
        let e : n ≡ last_line (drop a s) = omega (arith, l, d, h) in
        sym (number_behind (take a s) (drop a s) (omega (arith, l, inside))) ∙ ap last_number (take-append-drop a s) ∙ r ∙ ap (λ (k : ℕ). Some k) e

start_cut : (s : List ℕ) (a : ℕ) → start_of s ≡ Some a → Cut s a
unfolding start_of
start_cut s a h = by (last_number s) refl h
  where
    on : (n : ℕ) → last_number s ≡ Some n → (p q : Bool) → leb n (last_line s) ≡ p → eqb (get_or s (last_line s - n) 0) 72 ≡ q
        → cond (p && q) (Some (last_line s - n)) None ≡ Some a → Cut s a
    on n r true true u v h =
        let d : last_line s - n ≡ a = cc in
        cut s a n r (leb-true n (last_line s) u) d (ap (λ (k : ℕ). get_or s k 0) (sym d) ∙ eqb-true (get_or s (last_line s - n) 0) 72 v)
    on n r true false u v h = absurd (let z : ◌≡◌ {A = ℕ} 0 1 = cc in omega arith)
    on n r false q u v h = absurd (let z : ◌≡◌ {A = ℕ} 0 1 = cc in omega arith)

    by : (n : Option ℕ) → last_number s ≡ n → pointed s (last_line s) n ≡ Some a → Cut s a
    by None r h = absurd (let z : ◌≡◌ {A = ℕ} 0 1 = cc in omega arith)
    by (Some n) r h = on n r (leb n (last_line s)) (eqb (get_or s (last_line s - n) 0) 72) refl refl h

-- each start is before the end
pub start_lt : (s : List ℕ) (a : ℕ) → start_of s ≡ Some a → a < length s
start_lt s a h = omega (arith, (start_cut s a h).within, last_le s)

-- ---- the rounds

pub find_round : (k : ℕ) (s : List ℕ) (ps : List (List ℕ)) (a : ℕ) → 0 < length s → start_of s ≡ Some a
    → find_from (suc k) s ps ≡ find_from k (take a s) (drop a s ∷ ps)
unfolding find_from
find_round k s ps a h e =
    rw (ne_eqb (length s) 0 (λ z. omega arith)) (ap (λ (q : Option ℕ). on_start q (turned_away 31) (λ a. find_from k (take a s) (drop a s ∷ ps))) e)

pub find_lost : (k : ℕ) (s : List ℕ) (ps : List (List ℕ)) → 0 < length s → start_of s ≡ None → find_from k s ps ≡ turned_away 31
unfolding find_from
find_lost zero s ps h e = rw (ne_eqb (length s) 0 (λ z. omega arith))
find_lost (suc k) s ps h e =
    rw (ne_eqb (length s) 0 (λ z. omega arith)) (ap (λ (q : Option ℕ). on_start q (turned_away 31) (λ a. find_from k (take a s) (drop a s ∷ ps))) e)

pub find_done : (k : ℕ) (s : List ℕ) (ps : List (List ℕ)) → length s ≡ 0 → find_from k s ps ≡ holds ps
unfolding find_from
find_done zero s ps h = rw (eq-eqb (length s) 0 h)
find_done (suc k) s ps h = rw (eq-eqb (length s) 0 h)

-- traces with the last in front, joined end to end
back : List (List ℕ) → List ℕ
back [] = []
back (p ∷ rs) = back rs ++ p

joined_back : (rs ps : List (List ℕ)) → joined (reverse_aux rs ps) ≡ back rs ++ joined ps
joined_back [] ps = unfold back in refl
joined_back (p ∷ rs) ps = joined_back rs (p ∷ ps) ∙ (unfold joined back in sym (append_assoc (back rs) p (joined ps)))

find_back : (k : ℕ) (rs ps : List (List ℕ)) → All Ends rs → length (back rs) ≤ k → find_from k (back rs) ps ≡ holds (reverse_aux rs ps)
unfolding back
find_back k [] ps f h = find_done k [] ps refl
find_back zero (p ∷ rs) ps f h = absurd (omega (arith, h, length-append (back rs) p, ends_more p f.0, last_le p))
find_back (suc k) (p ∷ rs) ps f h =
    let n = length-append (back rs) p in
    let m : 0 < length p = omega (arith, ends_more p f.0, last_le p) in
    find_round k (back rs ++ p) ps (length (back rs)) (omega (arith, n, m)) (start_behind (back rs) p f.0)
    ∙ (λ i. find_from k (take-append_seam (back rs) p i) (drop-append_seam (back rs) p i ∷ ps))
    ∙ find_back k rs (p ∷ ps) f.1 (omega (arith, n, m, h))

all_reverse : (rs ps : List (List ℕ)) → All Ends rs → All Ends ps → All Ends (reverse_aux rs ps)
all_reverse [] ps f g = g
all_reverse (p ∷ rs) ps f g = all_reverse rs (p ∷ ps) f.1 (f.0, g)

joined_reverse : (ps : List (List ℕ)) → joined ps ≡ back (reverse ps)
unfolding joined
joined_reverse ps = ap joined (sym (reverse-reverse ps)) ∙ joined_back (reverse ps) [] ∙ append-nil (back (reverse ps))

-- Traces joined end to end are found again exactly.
found_back : (ts : List (List ℕ)) → All Ends ts → find_from (length (joined ts)) (joined ts) [] ≡ holds ts
found_back ts f =
    ap (λ (s : List ℕ). find_from (length s) s []) (joined_reverse ts)
    ∙ find_back (length (back (reverse ts))) (reverse ts) [] (all_reverse ts [] f tt) (omega arith) ∙ ap holds (reverse-reverse ts)

pub sheet_found : (ts : List (List ℕ)) → All Ends ts → length (joined ts) ≤ full.bytes → sheet_of (joined ts) ≡ holds ts
unfolding sheet_of
sheet_found ts f h = rw (le-ltb full.bytes (length (joined ts)) h) (found_back ts f)

-- ---- and nothing else is found

abbrev Away : Sheet → Type 0
Away (holds ts) = ⊥
Away (turned_away n) = Unit {0}

-- s is cut into traces, in front of qs
record Whole (s : List ℕ) (qs ps : List (List ℕ)) : Type 0 where
  front : List (List ℕ)
  whole : joined front ≡ s
  ended : All Ends front
  order : ps ≡ front ++ qs

joined_one : (ps : List (List ℕ)) (p : List ℕ) → joined (ps ++ (p ∷ [])) ≡ joined ps ++ p
unfolding joined
joined_one [] p = append-nil p
joined_one (q ∷ ps) p = ap (λ (z : List ℕ). q ++ z) (joined_one ps p) ∙ sym (append_assoc q (joined ps) p)

-- one trace more at the end
whole_more : (s : List ℕ) (a : ℕ) (qs ps : List (List ℕ)) → Cut s a → Whole (take a s) (drop a s ∷ qs) ps → Whole s qs ps
whole_more s a qs ps c w = record {
  front = w.front ++ (drop a s ∷ []);
  whole = joined_one w.front (drop a s) ∙ ap (λ (z : List ℕ). z ++ drop a s) w.whole ∙ take-append-drop a s;
  ended = both Ends w.front (drop a s ∷ []) w.ended (c.ends, tt);
  order = w.order ∙ sym (append_assoc w.front (drop a s ∷ []) qs);
}

whole_none : (s : List ℕ) (qs ps : List (List ℕ)) → eqb (length s) 0 ≡ true → holds qs ≡ holds ps → Whole s qs ps
unfolding joined
whole_none s qs ps z e = record { front = []; whole = sym (empty s (eqb-true (length s) 0 z)); ended = tt; order = sym (ap traces_in e) }

find_whole : (k : ℕ) (s : List ℕ) (qs ps : List (List ℕ)) → find_from k s qs ≡ holds ps → Whole s qs ps
unfolding find_from
find_whole zero s qs ps e = by (eqb (length s) 0) refl e
  where
    by : (t : Bool) → eqb (length s) 0 ≡ t → cond t (holds qs) (turned_away 31) ≡ holds ps → Whole s qs ps
    by true z e = whole_none s qs ps z e
    by false z e = absurd (subst Away e tt)
find_whole (suc k) s qs ps e = by (eqb (length s) 0) refl (start_of s) refl e (λ a. find_whole k (take a s) (drop a s ∷ qs) ps)
  where
    by : (t : Bool) → eqb (length s) 0 ≡ t → (q : Option ℕ) → start_of s ≡ q
        → cond t (holds qs) (on_start q (turned_away 31) (λ a. find_from k (take a s) (drop a s ∷ qs))) ≡ holds ps
        → ((a : ℕ) → find_from k (take a s) (drop a s ∷ qs) ≡ holds ps → Whole (take a s) (drop a s ∷ qs) ps) → Whole s qs ps
    by true z q r e f = whole_none s qs ps z e
    by false z None r e f = absurd (subst Away e tt)
    by false z (Some a) r e f = whole_more s a qs ps (start_cut s a r) (f a e)

-- What is found is the sheet, and each trace begins with `H` and has a right trailer.
found_ends : (s : List ℕ) (ts : List (List ℕ)) → find_from (length s) s [] ≡ holds ts → (joined ts ≡ s) × All Ends ts
found_ends s ts e =
    let w = find_whole (length s) s [] ts e in
    let o : w.front ≡ ts = sym (w.order ∙ append-nil w.front) in
    (ap joined (sym o) ∙ w.whole, subst (All Ends) o w.ended)

-- ---- what is turned away

abbrev away_with : Sheet → ℕ
away_with (holds ts) = 31
away_with (turned_away n) = n

-- finding has one number
away_number : (k : ℕ) (s : List ℕ) (ts : List (List ℕ)) → away_with (find_from k s ts) ≡ 31
unfolding find_from
away_number zero s ts = by (eqb (length s) 0)
  where
    by : (b : Bool) → away_with (cond b (holds ts) (turned_away 31)) ≡ 31
    by true = refl
    by false = refl
away_number (suc k) s ts = by (eqb (length s) 0) (start_of s) (λ a. away_number k (take a s) (drop a s ∷ ts))
  where
    by : (b : Bool) (q : Option ℕ) → ((a : ℕ) → away_with (find_from k (take a s) (drop a s ∷ ts)) ≡ 31)
        → away_with (cond b (holds ts) (on_start q (turned_away 31) (λ a. find_from k (take a s) (drop a s ∷ ts)))) ≡ 31
    by true q f = refl
    by false None f = refl
    by false (Some a) f = f a

pub find_away : (k : ℕ) (s : List ℕ) (ts : List (List ℕ)) (n : ℕ) → find_from k s ts ≡ turned_away n → n ≡ 31
find_away k s ts n e = ap away_with (sym e) ∙ away_number k s ts

-- a sheet of no more bytes than it may have
abbrev Within : List ℕ → Sheet → Type 0
Within s q = (length s ≤ full.bytes) × (find_from (length s) s [] ≡ q)

within : (s : List ℕ) (q : Sheet) → (turned_away 1 ≡ q → ⊥) → sheet_of s ≡ q → Within s q
unfolding sheet_of
within s q z e = by (ltb full.bytes (length s)) refl e
  where
    by : (b : Bool) → ltb full.bytes (length s) ≡ b → cond b (turned_away 1) (find_from (length s) s []) ≡ q → Within s q
    by true r e = absurd (z e)
    by false r e = (ltb-false full.bytes (length s) r, e)

holds_within : (s : List ℕ) (ts : List (List ℕ)) → sheet_of s ≡ holds ts → Within s (holds ts)
holds_within s ts e = within s (holds ts) (λ z. subst Away z tt) e

pub sheet_ends : (s : List ℕ) (ts : List (List ℕ)) → sheet_of s ≡ holds ts → (joined ts ≡ s) × All Ends ts
sheet_ends s ts e = found_ends s ts (holds_within s ts e).1

pub sheet_fits : (s : List ℕ) (ts : List (List ℕ)) → sheet_of s ≡ holds ts → length s ≤ full.bytes
sheet_fits s ts e = (holds_within s ts e).0

-- No other split is possible.
pub one_split : (ts us : List (List ℕ)) → All Ends ts → All Ends us → joined ts ≡ joined us → ts ≡ us
one_split ts us f g e = ap traces_in (sym (found_back ts f) ∙ ap (λ (s : List ℕ). find_from (length s) s []) e ∙ found_back us g)

-- 1 is said exactly where there are too many bytes,
pub long_away : (s : List ℕ) → full.bytes < length s → sheet_of s ≡ turned_away 1
unfolding sheet_of
long_away s h = rw (lt-ltb full.bytes (length s) h) refl

pub away_long : (s : List ℕ) → sheet_of s ≡ turned_away 1 → full.bytes < length s
unfolding sheet_of
away_long s e = by (ltb full.bytes (length s)) refl e
  where
    by : (b : Bool) → ltb full.bytes (length s) ≡ b → cond b (turned_away 1) (find_from (length s) s []) ≡ turned_away 1 → full.bytes < length s
    by true r e = ltb-true full.bytes (length s) r
    by false r e = absurd (omega (arith, find_away (length s) s [] 1 e))

-- and 31 exactly where there are not, and no split is possible.
pub away_none : (s : List ℕ) → sheet_of s ≡ turned_away 31 → (length s ≤ full.bytes) × ((ts : List (List ℕ)) → All Ends ts → joined ts ≡ s → ⊥)
away_none s e =
    let w = within s (turned_away 31) (λ z. let y : ◌≡◌ {A = ℕ} 0 1 = cc in omega arith) e in
    (w.0, λ ts f j. subst Away (sym w.1 ∙ ap (λ (s : List ℕ). find_from (length s) s []) (sym j) ∙ found_back ts f) tt)

pub none_away : (s : List ℕ) → length s ≤ full.bytes → ((ts : List (List ℕ)) → All Ends ts → joined ts ≡ s → ⊥) → sheet_of s ≡ turned_away 31
unfolding sheet_of
none_away s h f = rw (le-ltb full.bytes (length s) h) (by (find_from (length s) s []) refl)
  where
    by : (q : Sheet) → find_from (length s) s [] ≡ q → q ≡ turned_away 31
    by (holds ts) e = absurd (f ts (found_ends s ts e).1 (found_ends s ts e).0)
    by (turned_away n) e = ap (λ (k : ℕ). turned_away k) (find_away (length s) s [] n e)
