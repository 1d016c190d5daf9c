-- Document 01, "Sections": the critical sections of a trace and their serial order, read off its lines. Document 02 (i): where a K is meant C counts too, and
-- where an N is meant Y.
use Rattle.std.specs.Prelude.{ℕ, zero, suc, ◌-◌, ◌≤◌, ◌<◌, ◌≡◌, ◌⊎◌, Bool, true, false, cond, ◌&&◌, List, [], ◌∷◌, map, leb}
use Rattle.rules.specs.declared.Event.{Event}
use Rattle.rules.specs.declared.Counts.{Counts}
use Rattle.serial.specs.Lists.{All}
use Rattle.sections.specs.Places.{lock_at, unlock_at, holding}

-- an entry of the order: thread, first and last line of a section
pub record Entry : Type 0 where
  pub thread : ℕ
  pub first : ℕ
  pub last : ℕ

-- A section runs from a K by a thread holding nothing to the N after which it holds nothing.
pub record CriticalSection (h : Counts) (events : List Event) (s : Entry) : Type 0 where
  pub rises : s.first < s.last
  -- from a K by a thread
  pub opens : lock_at h s.thread events s.first ≡ true
  -- holding nothing
  pub idle : holding h s.thread events (s.first - 1) ≡ false
  -- to the N
  pub closes : unlock_at h s.thread events s.last ≡ true
  -- after which it holds nothing,
  pub free : holding h s.thread events s.last ≡ false
  -- which it does not before
  pub inside : (n : ℕ) → s.first ≤ n → n < s.last → holding h s.thread events n ≡ true

-- the greatest number from 1 to n that passes the test; 0 where none does
unfoldable pub greatest : (ℕ → Bool) → ℕ → ℕ
greatest f zero = 0
greatest f (suc n) = cond (f (suc n)) (suc n) (greatest f n)

-- a section's last K, its lock point: the last of its lines with a K of its thread
unfoldable pub lock_point : Counts → List Event → Entry → ℕ
lock_point h events s = greatest (λ n. leb s.first n && lock_at h s.thread events n) s.last

-- s is in the list
abbrev pub Member : Entry → List Entry → Type 0
Member s [] = ⊥
Member s (r ∷ rs) = (r ≡ s) ⊎ Member s rs

-- no entry comes twice
abbrev pub Distinct : List Entry → Type 0
Distinct [] = Unit {0}
Distinct (s ∷ ss) = (Member s ss → ⊥) × Distinct ss

-- each number is below all after it
abbrev pub Rising : List ℕ → Type 0
Rising [] = Unit {0}
Rising (n ∷ ns) = All (λ m. n < m) ns × Rising ns

-- The list is in order of each section's last K, one entry for each section.
pub record SerialOrder (h : Counts) (events : List Event) (order : List Entry) : Type 0 where
  -- an entry is a section,
  pub sound : All (CriticalSection h events) order
  -- a section has an entry,
  pub complete : (s : Entry) → CriticalSection h events s → Member s order
  -- one,
  pub once : Distinct order
  -- in order of each section's last K
  pub by_lock_point : Rising (map (lock_point h events) order)
