-- Letters, kinds, and the events that they make.
use Prim.Native.Nat.{ℕ, ◌≤◌, ◌<◌}
use native.Mathlib.Decide.{ℕ_discrete, dec_lt}
use native.Mathlib.Omega.{arith}
use mathlib.Core.Path.{◌≡◌, refl, sym, ap, ◌∙◌}
use mathlib.Core.Bool.{Bool, true, false, cond, ◌&&◌, ◌||◌}
use lib.Dec.{eqb, ltb}
use lib.IntN.{ℤ, pos, negsuc}
use borrow.Author.Tests.{eq-eqb, ne_eqb, lt-ltb, le-ltb}
use Rattle.rules.specs.declared.Event.{Event}
use Rattle.rules.specs.declared.Counts.{Counts}
use Rattle.rules.specs.Limits.{declared}
use Rattle.rules.specs.Events.{C, F, K, N, Y, letter, place, among, capped, thread_of, subject, is, lock_letters, on_lock, is_lock_letter}

pub eqb_turn : (a b : ℕ) → eqb a b ≡ eqb b a
eqb_turn a b = go (ℕ_discrete a b)
  where
    go : Dec (a ≡ b) → eqb a b ≡ eqb b a
    go (yes q) = eq-eqb a b q ∙ sym (eq-eqb b a (sym q))
    go (no q) = ne_eqb a b q ∙ sym (ne_eqb b a (λ r. q (sym r)))

-- the letter of a lock event
pub lock_among : (k : ℕ) → is_lock_letter k ≡ among lock_letters k
unfolding is_lock_letter
lock_among k = rw (eqb_turn k K, eqb_turn k N, eqb_turn k Y, eqb_turn k F, eqb_turn k C) (right (eqb K k) (eqb N k) (eqb Y k) (eqb F k) (eqb C k))
  where
    right : (a b c d e : Bool) → a || b || c || d || e ≡ a || (b || (c || (d || (e || false))))
    right true b c d e = refl
    right false true c d e = refl
    right false false true d e = refl
    right false false false true e = refl
    right false false false false true = refl
    right false false false false false = refl

-- an event is on a lock exactly where its letter is that of a lock event
pub lock_letter_law : (e : Event) → is_lock_letter (letter e.kind) ≡ on_lock e
unfolding on_lock is
lock_letter_law e = lock_among (letter e.kind)

-- what is declared, by letter, place and subject
pub declared_by : (h : Counts) (e : Event) (k p s : ℕ) (b : Bool) → p ≡ place e.kind → k ≡ letter e.kind → s ≡ subject e → is_lock_letter k ≡ b
    → ltb e.thread h.threads && (ltb s h.threads && ltb p (cond b h.locks h.variables)) ≡ declared h e
unfolding declared
declared_by h e k p s b q r j z = rw (q, ← z, r, j, lock_letter_law e)

-- ---- numbers held at 255

pub capped_same : (n : ℕ) → n < 255 → capped n ≡ n
unfolding capped
capped_same n h = rw (lt-ltb n 255 h)

pub capped_over : (n : ℕ) → 255 ≤ n → capped n ≡ 255
unfolding capped
capped_over n h = rw (le-ltb n 255 h)

pub capped_low : (n : ℕ) → capped n < 256
capped_low n = go (dec_lt n 255)
  where
    go : Dec (n < 255) → capped n < 256
    go (yes q) = omega (arith, capped_same n q)
    go (no q) = let z : 255 ≤ n = omega (arith, q) in omega (arith, capped_over n z)

pub capped_twice : (n : ℕ) → capped (capped n) ≡ capped n
capped_twice n = go (dec_lt n 255)
  where
    go : Dec (n < 255) → capped (capped n) ≡ capped n
    go (yes q) = ap capped (capped_same n q)
    go (no q) = let z : 255 ≤ n = omega (arith, q) in ap capped (capped_over n z) ∙ capped_over 255 (omega arith) ∙ sym (capped_over n z)

-- the thread that a thread held at 255 names
pub thread_named : (x : ℤ) → thread_of (pos (capped (thread_of x))) ≡ thread_of x
thread_named (pos n) = capped_twice (capped n) ∙ capped_twice n
thread_named (negsuc n) = capped_twice 255 ∙ capped_over 255 (omega arith)
