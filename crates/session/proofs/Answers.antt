-- What is said of a sheet and printed for it, in each case.
use Prim.Native.Nat.{ℕ, ◌≤◌, ◌<◌}
use native.Mathlib.Omega.{arith}
use mathlib.Core.Path.{◌≡◌, refl, sym, ap, ◌∙◌}
use mathlib.Core.Bool.{Bool, true, false, cond}
use mathlib.Core.List.{List, [], ◌∷◌}
use borrow.Author.Tests.{lt-ltb, le-ltb, ltb-false}
use lib.Dec.{ltb}
use lib.ListN.{length}
use Rattle.std.specs.Prelude.{Some, None}
use Rattle.rules.specs.Limits.{Limits, full}
use Rattle.rules.specs.Rules.{accepted, told, said}
use Rattle.decimal.specs.Text.{over, Wrote}
use Rattle.decimal.proofs.TextLaws.{over_length}
use Rattle.listing.specs.Listing.{refused_line, text_of, write_all}
use Rattle.session.specs.declared.Tally.{Tally}
use Rattle.session.specs.declared.Session.{Session}
use Rattle.session.specs.Sheet.{Sheet, holds, turned_away, find_from, sheet_of}
use Rattle.session.specs.Counting.{numbers_of, times}
use Rattle.session.specs.Session.{counted_lines, sheet_lines, sheet_text, sheet_verdict, session_with, too_little, Sessions}
use Rattle.session.specs.Computed.Tally.{counts_of, count_in, tally_of}
use Rattle.session.proofs.Found.{find_away}
use Rattle.session.proofs.Adding.{counts_are}
use Rattle.session.proofs.SheetLines.{sheet_room, written_whole, counted_same}

-- the lines of the traces, from the row of counts
counted_lines_law : (m : Limits) (ts : List (List ℕ)) → counted_lines (length ts) (count_in (counts_of (numbers_of m ts))) ≡ sheet_lines m (holds ts)
counted_lines_law m ts = counted_same (length ts) (count_in (counts_of (numbers_of m ts))) (λ k. times k (numbers_of m ts)) (λ k h. counts_are (numbers_of m ts) k h)

sheet_told : (q : Sheet) → told (said (sheet_verdict q)) ≡ sheet_verdict q
sheet_told (holds ts) = refl
sheet_told (turned_away n) = refl

module _ (m : Limits) (s out : List ℕ) where
  -- 7
  pub short_answer : length out < full.output → (r : Session) → r ≡ too_little → Sessions m s out r out
  short_answer h r a =
      let e = lt-ltb (length out) full.output h in
      record { told_is = ap (λ (x : Session). told x.verdict) a ∙ sym (rw e refl); says = a ∙ sym (rw e refl); prints = sym (rw e refl) }

  module _ (lent : full.output ≤ length out) where
    answer : (q : Sheet) (r : Session) (out' : List ℕ) → sheet_of s ≡ q → r ≡ session_with m q → out' ≡ over (text_of (sheet_lines m q)) out → Sessions m s out r out'
    unfolding sheet_text
    answer q r out' e a p =
        let l = le-ltb (length out) full.output lent in
        let n : r ≡ session_with m (sheet_of s) = a ∙ ap (session_with m) (sym e) in
        record {
          told_is = ap (λ (x : Session). told x.verdict) n ∙ sheet_told (sheet_of s) ∙ sym (rw l refl);
          says = n ∙ sym (rw l refl);
          prints = p ∙ ap (λ (x : Sheet). over (text_of (sheet_lines m x)) out) (sym e) ∙ sym (rw l refl);
        }

    -- 1
    pub long_answer : full.bytes < length s → (r : Session) (out' : List ℕ) → r ≡ session_with full (turned_away 1) → out' ≡ over (text_of (refused_line 0 1 ∷ [])) out
        → Sessions m s out r out'
    unfolding sheet_of numbers_of
    long_answer h r out' a p = answer (turned_away 1) r out' (rw (lt-ltb full.bytes (length s) h) refl) a p

    module _ (fits : length s ≤ full.bytes) where
      sheet_is : sheet_of s ≡ find_from (length s) s []
      unfolding sheet_of
      sheet_is = rw (le-ltb full.bytes (length s) fits) refl

      -- 31
      pub lost_answer : None ≡ tally_of m (find_from (length s) s []) → (r : Session) (out' : List ℕ) → r ≡ session_with full (turned_away 31)
          → out' ≡ over (text_of (refused_line 0 31 ∷ [])) out → Sessions m s out r out'
      unfolding numbers_of
      lost_answer e r out' a p = by (find_from (length s) s []) refl e
        where
          by : (q : Sheet) → find_from (length s) s [] ≡ q → None ≡ tally_of m q → Sessions m s out r out'
          by (holds ts) d g = cc
          by (turned_away n) d g =
              let k : n ≡ 31 = find_away (length s) s [] n d in
              answer (turned_away 31) r out' (sheet_is ∙ d ∙ ap (λ (i : ℕ). turned_away i) k) a p

      -- the counts
      pub counted_answer : (t : Tally) → Some t ≡ tally_of m (find_from (length s) s []) → (written : ℕ) (out' : List ℕ) → Wrote (write_all (counted_lines t.count (count_in t.counts))) out written out'
          → Sessions m s out (record { verdict = said accepted; traces = t.count; accepted = count_in t.counts 0; written = written }) out'
      counted_answer t e written out' w = by (find_from (length s) s []) refl e
        where
          by : (q : Sheet) → find_from (length s) s [] ≡ q → Some t ≡ tally_of m q
              → Sessions m s out (record { verdict = said accepted; traces = t.count; accepted = count_in t.counts 0; written = written }) out'
          by (turned_away n) d g = cc
          by (holds ts) d h =
              let g : t ≡ record { count = length ts; counts = counts_of (numbers_of m ts) } = cc in
              let ls = counted_lines t.count (count_in t.counts) in
              let same : ls ≡ sheet_lines m (holds ts) = ap (λ (x : Tally). counted_lines x.count (count_in x.counts)) g ∙ counted_lines_law m ts in
              let text : write_all ls out ≡ text_of (sheet_lines m (holds ts)) = ap (λ (z : List (List ℕ)). write_all z out) same ∙ written_whole m (holds ts) out lent in
              let count : t.count ≡ length ts = ap (λ (x : Tally). x.count) g in
              let zero_is : count_in t.counts 0 ≡ times 0 (numbers_of m ts) = ap (λ (x : Tally). count_in x.counts 0) g ∙ counts_are (numbers_of m ts) 0 (omega arith) in
              let long : written ≡ length (text_of (sheet_lines m (holds ts))) = w.count ∙ ap length text in
              answer (holds ts) _ out' (sheet_is ∙ d)
              (λ i. record { verdict = said accepted; traces = count i; accepted = zero_is i; written = long i })
              (w.bytes ∙ ap (λ (z : List ℕ). over z out) text)

-- ---- the length of what is printed

pub written_by : (m : Limits) (s out : List ℕ) (r : Session) (out' : List ℕ) → Sessions m s out r out'
    → r.written ≡ cond (ltb (length out) full.output) 0 (length (sheet_text m s))
unfolding sheet_text
written_by m s out r out' w = by (ltb (length out) full.output) w.says
  where
    by : (b : Bool) → r ≡ cond b too_little (session_with m (sheet_of s)) → r.written ≡ cond b 0 (length (text_of (sheet_lines m (sheet_of s))))
    by true e = ap (λ (x : Session). x.written) e
    by false e = ap (λ (x : Session). x.written) e

pub written_is : (m : Limits) (s out : List ℕ) (r : Session) (out' : List ℕ) → Sessions m s out r out' → full.output ≤ length out → r.written ≡ length (sheet_text m s)
unfolding sheet_text
written_is m s out r out' w h =
    let e : r ≡ session_with m (sheet_of s) = w.says ∙ rw (le-ltb (length out) full.output h) refl in
    ap (λ (x : Session). x.written) e

-- the text lies in the output
pub written_in : (m : Limits) (s out : List ℕ) (r : Session) (out' : List ℕ) → Sessions m s out r out' → r.written ≤ length out'
unfolding sheet_text
written_in m s out r out' w = by (ltb (length out) full.output) refl w.says w.prints
  where
    by : (b : Bool) → ltb (length out) full.output ≡ b → r ≡ cond b too_little (session_with m (sheet_of s)) → out' ≡ cond b out (over (sheet_text m s) out) → r.written ≤ length out'
    by true q e f = omega (arith, ap (λ (x : Session). x.written) e)
    by false q e f =
        let room : length (sheet_text m s) ≤ length out = omega (arith, sheet_room m s, ltb-false (length out) full.output q) in
        omega (arith, ap (λ (x : Session). x.written) e, ap length f, over_length (sheet_text m s) out room, room)
