-- What is declared is within the limits.
use Prim.Native.Nat.{ℕ, ◌≤◌, ◌<◌}
use native.Mathlib.Omega.{arith}
use mathlib.Core.Path.{◌≡◌, refl}
use mathlib.Core.Bool.{Bool, true, false, not, cond, ◌&&◌}
use lib.Dec.{ltb, leb}
use borrow.Author.Tests.{ltb-true, leb-true, le-leb}
use Rattle.rules.specs.declared.Event.{Event}
use Rattle.rules.specs.declared.Counts.{Counts}
use Rattle.rules.specs.declared.Course.{Course}
use Rattle.rules.specs.declared.Course.TheVariants.{Full, Short}
use Rattle.rules.specs.Events.{place, subject, on_lock}
use Rattle.rules.specs.Limits.{Limits, UpToFull, full, limits_of, any_volatile, stray_volatile, first_line, allowed, declared}

false_true : false ≡ true → ⊥
false_true e = let z : ◌≡◌ {A = ℕ} 0 1 = cc in omega arith

-- what an allowed head declares
pub record Declares (m : Limits) (h : Counts) : Type 0 where
  pub some_threads : 1 ≤ h.threads
  pub threads : h.threads ≤ m.threads
  pub some_variables : 1 ≤ h.variables
  pub variables : h.variables ≤ m.variables
  pub locks : h.locks ≤ m.locks
  pub volatiles : not (stray_volatile h) ≡ true

pub declares : (m : Limits) (h : Counts) → allowed m h ≡ true → Declares m h
unfolding allowed
declares m h e =
    by (leb 1 h.threads) refl (leb h.threads m.threads) refl (leb 1 h.variables) refl (leb h.variables m.variables) refl (leb h.locks m.locks) refl (not (stray_volatile h)) refl e
  where
    by : (p : Bool) → leb 1 h.threads ≡ p → (q : Bool) → leb h.threads m.threads ≡ q → (r : Bool) → leb 1 h.variables ≡ r → (s : Bool) → leb h.variables m.variables ≡ s
        → (t : Bool) → leb h.locks m.locks ≡ t → (u : Bool) → not (stray_volatile h) ≡ u → p && q && r && s && t && u ≡ true → Declares m h
    by true a true b true c true d true f true g e = record {
      some_threads = leb-true 1 h.threads a;
      threads = leb-true h.threads m.threads b;
      some_variables = leb-true 1 h.variables c;
      variables = leb-true h.variables m.variables d;
      locks = leb-true h.locks m.locks f;
      volatiles = g;
    }
    by true a true b true c true d true f false g e = absurd (false_true e)
    by true a true b true c true d false f u g e = absurd (false_true e)
    by true a true b true c false d t f u g e = absurd (false_true e)
    by true a true b false c s d t f u g e = absurd (false_true e)
    by true a false b r c s d t f u g e = absurd (false_true e)
    by false a q b r c s d t f u g e = absurd (false_true e)

-- what limits allow, wider ones allow
pub allowed_full : (m : Limits) (h : Counts) → UpToFull m → allowed m h ≡ true → allowed full h ≡ true
unfolding allowed
allowed_full m h u e =
    let d = declares m h e in
    rw (le-leb 1 h.threads d.some_threads, le-leb h.threads 8 (omega (arith, d.threads, u.threads)), le-leb 1 h.variables d.some_variables, le-leb h.variables 16 (omega (arith, d.variables, u.variables)), le-leb h.locks 8 (omega (arith, d.locks, u.locks)), d.volatiles)

pub allowed_bounds : (h : Counts) → allowed full h ≡ true → (h.threads ≤ 8) × (h.variables ≤ 16) × (h.locks ≤ 8)
allowed_bounds h e = let d = declares full h e in (d.threads, d.variables, d.locks)

-- the limits of each course are up to the full ones
pub up_to_full : (c : Course) → UpToFull (limits_of c)
up_to_full Full = record { threads = omega arith; variables = omega arith; locks = omega arith; events = omega arith; excess = omega arith }
up_to_full Short = record { threads = omega arith; variables = omega arith; locks = omega arith; events = omega arith; excess = omega arith }

-- thread, and variable or lock, of a declared event
pub declared_bounds : (h : Counts) (e : Event) → allowed full h ≡ true → declared h e ≡ true → (e.thread < 8) × (place e.kind < 16)
unfolding declared
declared_bounds h e a d = by (ltb e.thread h.threads) refl (ltb (subject e) h.threads) (on_lock e) d
  where
    by : (p : Bool) → ltb e.thread h.threads ≡ p → (f o : Bool) → p && (f && ltb (place e.kind) (cond o h.locks h.variables)) ≡ true
        → (e.thread < 8) × (place e.kind < 16)
    by true r true true d = (omega (arith, ltb-true e.thread h.threads r, allowed_bounds h a), omega (arith, ltb-true (place e.kind) h.locks d, allowed_bounds h a))
    by true r true false d = (omega (arith, ltb-true e.thread h.threads r, allowed_bounds h a), omega (arith, ltb-true (place e.kind) h.variables d, allowed_bounds h a))
    by true r false o d = absurd (false_true d)
    by false r f o d = absurd (false_true d)

-- the thread whose waiting a declared event is about
pub subject_bound : (h : Counts) (e : Event) → declared h e ≡ true → subject e < h.threads
unfolding declared
subject_bound h e d = ltb-true (subject e) h.threads (by (ltb e.thread h.threads) (ltb (subject e) h.threads) _ d)
  where
    by : (p q r : Bool) → p && (q && r) ≡ true → q ≡ true
    by true true r d = refl
    by true false r d = d
    by false q r d = absurd (false_true d)

-- events start behind the head and the guards
pub first_line_low : (h : Counts) → 3 ≤ first_line h
unfolding first_line
first_line_low h = go (any_volatile h)
  where
    go : (b : Bool) → 3 ≤ cond b 4 3
    go true = omega arith
    go false = omega arith

pub first_line_high : (h : Counts) → first_line h ≤ 4
unfolding first_line
first_line_high h = go (any_volatile h)
  where
    go : (b : Bool) → cond b 4 3 ≤ 4
    go true = omega arith
    go false = omega arith
