-- `ordering::Holds::hold` meets its contract. Assumes nothing.
use Prim.Native.Nat.{ℕ, suc, pred, ◌+◌, ◌-◌, ◌*◌, ◌<◌, ◌≤◌}
use native.Mathlib.Omega.{arith}
use mathlib.Core.Path.{◌≡◌, refl, sym, ◌∙◌, ap}
use mathlib.Core.Bool.{Bool, true, false, cond}
use lib.Dec.{eqb}
use mir.Val.{bool_byte}
use lib.ListN.{get_or, set}
use lib.Seq.{set-get_or}
use borrow.Author.Tests.{eqb-true}
use Rattle.rules.specs.Events.{K, N}
use Rattle.ordering.specs.declared.Holds.{Holds}
use Rattle.ordering.specs.Computed.Parts.{exchanges, level_after, Held}
use Rattle.ordering.proofs.Holds.hold.Goals as goal

-- ---- one more with a K, one less with an N
low : (b : Bool) {r : ℕ} → r ≡ bool_byte b → r ≤ 1
low true q = omega (arith, q)
low false q = omega (arith, q)

module _ (x k : ℕ) {more less : ℕ} (a : more ≡ bool_byte (eqb k K)) (b : less ≡ bool_byte (eqb k N)) where
  there : (k ≡ N → 0 < x) → less ≤ x + more
  there f = by (eqb k N) refl b
    where
      by : (c : Bool) → eqb k N ≡ c → less ≡ bool_byte c → less ≤ x + more
      by true p q = omega (arith, q, f (eqb-true k N p))
      by false p q = omega (arith, q)

  after : x + more - less ≡ level_after x k
  unfolding level_after
  after = by (eqb k K) refl (eqb k N) refl a b
    where
      one : (x : ℕ) → x - 1 ≡ pred x
      one x = omega arith

      by : (c : Bool) → eqb k K ≡ c → (d : Bool) → eqb k N ≡ d → more ≡ bool_byte c → less ≡ bool_byte d → x + more - less ≡ cond c (suc x) (cond d (pred x) x)
      by true p true q m l = absurd (let z : ◌≡◌ {A = ℕ} K N = sym (eqb-true k K p) ∙ eqb-true k N q in omega (arith, z))
      by true p false q m l = omega (arith, m, l)
      by false p true q m l = rw (← one x) (omega (arith, m, l))
      by false p false q m l = omega (arith, m, l)

-- ---- the arms
module _ {s : Holds} {t p k : ℕ} where
  exchanged : exchanges k ≡ true
      → Held s t p k (get_or s.depths t 0 - get_or s.levels (t * 16 + p) 0 + get_or s.remembered t 0) (record { levels = set s.levels (t * 16 + p) (get_or s.remembered t 0); depths = set s.depths t (get_or s.depths t 0 - get_or s.levels (t * 16 + p) 0 + get_or s.remembered t 0); remembered = set s.remembered t (get_or s.levels (t * 16 + p) 0) })
  exchanged q = record { depth_is = rw q refl; levels_are = rw q refl; depths_are = refl; remembered_are = rw q refl }

  moved : exchanges k ≡ false → {d x : ℕ} → d ≡ level_after (get_or s.depths t 0) k → x ≡ level_after (get_or s.levels (t * 16 + p) 0) k
      → Held s t p k d (record { levels = set s.levels (t * 16 + p) x; depths = set s.depths t d; remembered = s.remembered })
  moved q ed ex = record { depth_is = rw q ed; levels_are = rw q (ap (set s.levels (t * 16 + p)) ex); depths_are = refl; remembered_are = rw q (sym (set-get_or s.remembered t 0)) }

pub overflow_sub-depth : goal.overflow_sub-depth
overflow_sub-depth c = c.requires.part c.if-k.true

pub returns-then-k : goal.returns-then-k
returns-then-k c = exchanged c.if-k.true

pub overflow_add-depth-2 : goal.overflow_add-depth-2
overflow_add-depth-2 c = omega (arith, low (eqb c.args.a.letter K) c.from-more.ensures, c.requires.depth_low)

pub overflow_sub-depth-2 : goal.overflow_sub-depth-2
overflow_sub-depth-2 c = there _ _ c.from-more.ensures c.from-less.ensures (λ q. let h = c.requires.held q in omega (arith, h.0, h.1))

pub overflow_add-self : goal.overflow_add-self
overflow_add-self c = omega (arith, low (eqb c.args.a.letter K) c.from-more.ensures, c.requires.level_low)

pub overflow_sub-self : goal.overflow_sub-self
overflow_sub-self c = there _ _ c.from-more.ensures c.from-less.ensures (λ q. (c.requires.held q).0)

pub returns : goal.returns
returns c = moved c.if-k.false (after _ _ c.from-more.ensures c.from-less.ensures) (after _ _ c.from-more.ensures c.from-less.ensures)
