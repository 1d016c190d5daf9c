-- The loops: one trace found and counted more, and one divisor less.
use Prim.Native.Nat.{ℕ, zero, suc, ◌≤◌, ◌<◌, ◌+◌, ◌-◌}
use native.Mathlib.Omega.{arith}
use mathlib.Core.Path.{◌≡◌, refl, sym, ap, ◌∙◌}
use mathlib.Core.Bool.{true, false}
use mathlib.Core.List.{List, [], ◌∷◌}
use lib.ListN.{length, take, drop, set, replicate}
use lib.Seq.{length-take-le}
use Rattle.std.specs.Prelude.{Some, None}
use Rattle.rules.specs.declared.Course.{Course}
use Rattle.rules.specs.Limits.{limits_of}
use Rattle.rules.specs.Rules.{number_in}
use Rattle.marking.specs.Marking.{marked_of}
use Rattle.session.specs.Sheet.{start_of, find_from}
use Rattle.session.specs.Counting.{numbers_of, times, divides_both, common}
use Rattle.session.specs.Session.{greatest}
use Rattle.session.specs.Computed.Tally.{counts_of, count_in, tally_of}
use Rattle.session.proofs.Found.{start_lt, find_round, find_lost, find_done}
use Rattle.session.proofs.Adding.{times_most, numbers_length, counts_are}

module _ (c : Course) (s : List ℕ) where
  -- The bytes behind `left` are n traces, whose numbers are counted, and `left` is not yet looked at.
  pub record Counting (counts : List ℕ) (n : ℕ) (left : List ℕ) : Type 0 where
    pub fuel : ℕ
    pub done : List (List ℕ)
    pub enough : length left ≤ fuel
    pub few : n + length left ≤ length s
    pub rest : find_from fuel left done ≡ find_from (length s) s []
    pub count : n ≡ length done
    pub counted : counts ≡ counts_of (numbers_of (limits_of c) done)

  pub counting_start : Counting (replicate (suc greatest) 0) 0 s
  unfolding counts_of numbers_of
  counting_start = record {
    fuel = length s;
    done = [];
    enough = omega arith;
    few = omega arith;
    rest = refl;
    count = refl;
    counted = refl;
  }

  module _ (counts : List ℕ) (n : ℕ) (left : List ℕ) (w : Counting counts n left) where
    -- a count is at most n
    pub count_low : (k : ℕ) → k < suc greatest → count_in counts k ≤ n
    count_low k h =
        let ns = numbers_of (limits_of c) w.done in
        let e : count_in counts k ≡ times k ns = ap (λ (cs : List ℕ). count_in cs k) w.counted ∙ counts_are ns k h in
        omega (arith, e, times_most k ns, numbers_length (limits_of c) w.done, w.count)

    module _ (more : 0 < length left) where
      pub counting_lost : start_of left ≡ None → None ≡ tally_of (limits_of c) (find_from (length s) s [])
      counting_lost e = ap (tally_of (limits_of c)) (sym (find_lost w.fuel left w.done more e) ∙ w.rest)

      pub start_before : (a : ℕ) → Some a ≡ start_of left → a < length left
      start_before a e = start_lt left a (sym e)

      pub counting_next : (a k : ℕ) → start_of left ≡ Some a → k ≡ number_in (marked_of (limits_of c) (drop a left))
          → Counting (set counts k (count_in counts k + 1)) (n + 1) (take a left)
      counting_next a k e f = go w.fuel w.enough w.rest
        where
          row : set counts k (count_in counts k + 1) ≡ counts_of (numbers_of (limits_of c) (drop a left ∷ w.done))
          row = (λ i. set (w.counted i) (f i) (count_in (w.counted i) (f i) + 1)) ∙ (unfold counts_of numbers_of in refl)

          size : length (take a left) ≡ a
          size = length-take-le a left (omega (arith, start_before a (sym e)))

          go : (m : ℕ) → length left ≤ m → find_from m left w.done ≡ find_from (length s) s [] → Counting (set counts k (count_in counts k + 1)) (n + 1) (take a left)
          go zero h r = absurd (omega (arith, h, more))
          go (suc m) h r = record {
            fuel = m;
            done = drop a left ∷ w.done;
            enough = omega (arith, h, size, start_before a (sym e));
            few = omega (arith, w.few, size, start_before a (sym e));
            rest = sym (find_round m left w.done a more e) ∙ r;
            count = omega (arith, w.count);
            counted = row;
          }

    pub counting_end : length left ≡ 0 → Some (record { count = n; counts = counts }) ≡ tally_of (limits_of c) (find_from (length s) s [])
    counting_end z =
        (λ i. Some (record { count = w.count i; counts = w.counted i }))
        ∙ ap (tally_of (limits_of c)) (sym (find_done w.fuel left w.done z) ∙ w.rest)

-- ---- one divisor less

pub common_here : (d a n : ℕ) → 0 < d → divides_both d a n ≡ true → d ≡ common d a n
unfolding common
common_here zero a n h e = absurd (omega arith)
common_here (suc d) a n h e = rw e refl

pub common_next : (d a n : ℕ) → 0 < d → divides_both d a n ≡ false → common (d - 1) a n ≡ common d a n
unfolding common
common_next zero a n h e = absurd (omega arith)
common_next (suc d) a n h e = let k : suc d - 1 ≡ d = omega arith in rw e (ap (λ (i : ℕ). common i a n) k)

pub common_end : (d a n : ℕ) → d ≤ 0 → 1 ≡ common d a n
unfolding common
common_end zero a n h = refl
common_end (suc d) a n h = absurd (omega arith)
