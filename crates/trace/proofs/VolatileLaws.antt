-- Laws of the `V` line: the walk along its numbers, what a right one names, and counts with these volatile variables.
use mathlib.Core.Path.{◌≡◌, refl, sym, ap, ◌∙◌, subst}
use mathlib.Core.Bool.{Bool, true, false, not, cond, ◌&&◌}
use mathlib.Core.List.{List, [], ◌∷◌}
use mathlib.Core.Logic.{⊎_elim}
use Prim.Native.Nat.{ℕ, zero, suc, ◌≤◌, ◌<◌, ◌+◌}
use native.Mathlib.Omega.{arith}
use borrow.Author.Tests.{le-leb, leb-true, ltb-true}
use lib.Dec.{eqb, ltb, leb}
use lib.ListN.{length, get_or, drop, set, length-set, length-drop, get_or-replicate, get_or-eq_default}
use lib.Seq.{get_or-set_same, get_or-set_other}
use Rattle.std.proofs.Common.{Option, Some, None}
use Rattle.rules.specs.declared.Counts.{Counts}
use Rattle.rules.specs.Limits.{Limits, full, no_volatiles, with_flags, volatile, any_volatile, stray_volatile, allowed}
use Rattle.rules.proofs.Laws.{some_has, some_none, none_some}
use Rattle.rules.proofs.Bounds.{declares}
use Rattle.lines.specs.Lines.{split_on, letter}
use Rattle.lines.proofs.PartLaws.{lt_or_le}
use Rattle.lines.proofs.FieldLaws.{Along, along_more, split_some}
use Rattle.decimal.specs.Decimal.{natural_of}
use Rattle.trace.specs.Trace.{number_within, with_number, volatiles_from, volatiles_of}

-- a walk along the fields is at one of them, and at the last where it is at the end
pub along_at : (s : List ℕ) (i e : ℕ) → Along s i e → i < length (split_on 32 s)
along_at s i e w =
    let f = split_some 32 (drop w.start s) in
    omega (arith, ap length (w.fields ∙ f.2), length-drop i (split_on 32 s))

pub along_last : (s : List ℕ) (i e : ℕ) → Along s i e → length s ≤ e → length (split_on 32 s) ≤ i + 1
along_last s i e w h = ⊎_elim (λ l. let k = along_more s i e w l in absurd (omega arith)) (λ l. l) (lt_or_le (i + 1) (length (split_on 32 s)))

-- a number that is taken is one of its kind
pub number_below : (low high : ℕ) (x : Option ℕ) (n : ℕ) → number_within low high x ≡ Some n → n < high
number_below low high None n h = cc
number_below low high (Some k) n h = by (leb low k) (ltb k high) refl h
  where
    by : (p q : Bool) → ltb k high ≡ q → cond (p && q) (Some k) None ≡ Some n → n < high
    by true true e h = let z : k ≡ n = cc in omega (arith, z, ltb-true k high e)
    by true false e h = cc
    by false q e h = cc

-- a number of the line is a declared variable
pub rising_below : (v low : ℕ) (x : Option ℕ) (n : ℕ) → number_within low v x ≡ Some n → n < v
rising_below v low x n h = number_below low v x n h

-- ---- the flags: one for each variable that a trace may have, none of them for one that is not declared

pub record Flags (v : ℕ) (g : List Bool) : Type 0 where
  pub size : length g ≡ full.variables
  pub stray : (i : ℕ) → v ≤ i → get_or g i false ≡ false

pub flag_none : (i : ℕ) → get_or no_volatiles i false ≡ false
flag_none i = ⊎_elim (get_or-replicate full.variables i false false) (λ h. get_or-eq_default no_volatiles false {n = i} h) (lt_or_le i full.variables)

pub flags_none : (v : ℕ) → Flags v no_volatiles
flags_none v = record { size = refl; stray = λ i h. flag_none i }

flags_set : (v n : ℕ) (g : List Bool) → n < v → Flags v g → Flags v (set g n true)
flags_set v n g h w = record {
  size = length-set g n true ∙ w.size;
  stray = λ i k. get_or-set_other g n i true false (λ e. omega arith) ∙ w.stray i k;
}

flags_from : (v low : ℕ) (g : List Bool) (fs : List (List ℕ)) → Flags v g → (r : List Bool) → volatiles_from v low g fs ≡ Some r → Flags v r
unfolding volatiles_from
flags_from v low g [] w r e = let q : g ≡ r = cc in subst (Flags v) q w
flags_from v low g (f ∷ fs) w r e =
    by (number_within low v (natural_of f)) (rising_below v low (natural_of f)) (λ n h. flags_from v (n + 1) (set g n true) fs (flags_set v n g h w) r) e
  where
    by : (x : Option ℕ) → ((n : ℕ) → x ≡ Some n → n < v) → ((n : ℕ) → n < v → volatiles_from v (n + 1) (set g n true) fs ≡ Some r → Flags v r)
        → with_number x (λ n. volatiles_from v (n + 1) (set g n true) fs) ≡ Some r → Flags v r
    by None b k e = cc
    by (Some n) b k e = k n (b n refl) e

-- the flags of a right line
pub volatiles_flags : (v : ℕ) (fs : List (List ℕ)) (r : List Bool) → volatiles_of v fs ≡ Some r → Flags v r
unfolding volatiles_of
volatiles_flags v fs r e = by (eqb (letter (get_or fs 0 [])) 86) (ltb 1 (length fs)) e
  where
    by : (p q : Bool) → cond p (cond q (volatiles_from v 0 no_volatiles (drop 1 fs)) None) None ≡ Some r → Flags v r
    by true true e = flags_from v 0 no_volatiles (drop 1 fs) (flags_none v) r e
    by true false e = cc
    by false q e = cc

-- ---- a right line names a variable

abbrev pub Named : List Bool → Type 0
Named r = (k : ℕ) × (k < full.variables) × (get_or r k false ≡ true)

-- a flag that is set stays set
set_kept : (g : List Bool) (n k : ℕ) → get_or g k false ≡ true → get_or (set g n true) k false ≡ true
set_kept [] n k h = h
set_kept (b ∷ bs) zero zero h = refl
set_kept (b ∷ bs) zero (suc k) h = h
set_kept (b ∷ bs) (suc n) zero h = h
set_kept (b ∷ bs) (suc n) (suc k) h = set_kept bs n k h

named_from : (v low k : ℕ) (g : List Bool) (fs : List (List ℕ)) → k < full.variables → get_or g k false ≡ true → (r : List Bool) → volatiles_from v low g fs ≡ Some r → Named r
unfolding volatiles_from
named_from v low k g [] h t r e = let q : g ≡ r = cc in subst Named q (k, h, t)
named_from v low k g (f ∷ fs) h t r e = by (number_within low v (natural_of f)) (λ n. named_from v (n + 1) k (set g n true) fs h (set_kept g n k t) r) e
  where
    by : (x : Option ℕ) → ((n : ℕ) → volatiles_from v (n + 1) (set g n true) fs ≡ Some r → Named r) → with_number x (λ n. volatiles_from v (n + 1) (set g n true) fs) ≡ Some r → Named r
    by None k e = cc
    by (Some n) k e = k n e

named_some : (v : ℕ) → v ≤ full.variables → (fs : List (List ℕ)) → 1 < length fs → (r : List Bool) → volatiles_from v 0 no_volatiles (drop 1 fs) ≡ Some r → Named r
unfolding volatiles_from
named_some v l [] h r e = absurd (omega arith)
named_some v l (f ∷ []) h r e = absurd (omega arith)
named_some v l (f ∷ f' ∷ fs) h r e = by (number_within 0 v (natural_of f')) (rising_below v 0 (natural_of f')) e
  where
    by : (x : Option ℕ) → ((n : ℕ) → x ≡ Some n → n < v) → with_number x (λ n. volatiles_from v (n + 1) (set no_volatiles n true) fs) ≡ Some r → Named r
    by None b e = cc
    by (Some n) b e =
        let k : n < full.variables = omega (arith, b n refl) in
        named_from v (n + 1) n (set no_volatiles n true) fs k (get_or-set_same no_volatiles n true false k) r e

pub volatiles_named : (v : ℕ) → v ≤ full.variables → (fs : List (List ℕ)) (r : List Bool) → volatiles_of v fs ≡ Some r → Named r
unfolding volatiles_of
volatiles_named v l fs r e = by (eqb (letter (get_or fs 0 [])) 86) (ltb 1 (length fs)) refl e
  where
    by : (p q : Bool) → ltb 1 (length fs) ≡ q → cond p (cond q (volatiles_from v 0 no_volatiles (drop 1 fs)) None) None ≡ Some r → Named r
    by true true z e = named_some v l fs (ltb-true 1 (length fs) z) r e
    by true false z e = cc
    by false q z e = cc

-- ---- counts with these flags

pub any_some : (h : Counts) (k : ℕ) → k < full.variables → get_or h.volatiles k false ≡ true → any_volatile h ≡ true
unfolding any_volatile volatile
any_some h k l t = some_has full.variables (volatile h) k l t

pub any_none : (h : Counts) → h.volatiles ≡ no_volatiles → any_volatile h ≡ false
unfolding any_volatile volatile
any_none h q = none_some full.variables (volatile h) (λ u k. ap (λ (g : List Bool). get_or g u false) q ∙ flag_none u)

-- where none of the declared sixteen is volatile, no variable is
pub none_volatile : (h : Counts) → length h.volatiles ≡ full.variables → any_volatile h ≡ false → (v : ℕ) → volatile h v ≡ false
unfolding any_volatile volatile
none_volatile h n q v = ⊎_elim (some_none full.variables (volatile h) q v) (λ l. get_or-eq_default h.volatiles false {n = v} (omega arith)) (lt_or_le v full.variables)

-- the flags of counts that are allowed
pub allowed_flags : (m : Limits) (h : Counts) → length h.volatiles ≡ full.variables → allowed m h ≡ true → Flags h.variables h.volatiles
unfolding stray_volatile volatile
allowed_flags m h n a = record {
  size = n;
  stray = λ i l. ⊎_elim
      (λ k. sym (ap (λ (b : Bool). b && get_or h.volatiles i false) (le-leb h.variables i l)) ∙ some_none full.variables (λ v. leb h.variables v && volatile h v) none i k)
      (λ k. get_or-eq_default h.volatiles false {n = i} (omega arith))
      (lt_or_le i full.variables);
}
  where
    not_true : (b : Bool) → not b ≡ true → b ≡ false
    not_true true q = sym q
    not_true false q = refl

    none : stray_volatile h ≡ false
    none = not_true (stray_volatile h) (declares m h a).volatiles

-- counts that are allowed stay so with flags of declared variables
module _ (m : Limits) (h : Counts) (g : List Bool) (w : Flags h.variables g) where
  no_stray : stray_volatile (with_flags h g) ≡ false
  unfolding stray_volatile volatile
  no_stray = none_some full.variables (λ v. leb h.variables v && get_or g v false) (λ u k. by u (leb h.variables u) refl)
    where
      by : (u : ℕ) (b : Bool) → leb h.variables u ≡ b → b && get_or g u false ≡ false
      by u true e = w.stray u (leb-true h.variables u e)
      by u false e = refl

  pub allowed_with : allowed m h ≡ true → allowed m (with_flags h g) ≡ true
  unfolding allowed
  allowed_with a =
      let d = declares m h a in
      rw (le-leb 1 h.threads d.some_threads, le-leb h.threads m.threads d.threads, le-leb 1 h.variables d.some_variables, le-leb h.variables m.variables d.variables, le-leb h.locks m.locks d.locks, no_stray)
