-- The events of a trace, as the theory of serial orders reads them. X is the type of the values.
-- Lists of events here are the latest first: the tail of a list holds the events before its head.
use Rattle.std.specs.Prelude.{ℕ}

pub data Kind : Type 0 where
  Use Assign Load Store Read Write PrescientStore PrescientAssign : Kind

-- The first number of a lock and of an unlock tells 0, a K or N of one hold, from 1, a C or Y of all holds at once: what it is to hold a
-- lock reads it (proofs/Counted.antt), the theory does not. An idle event does nothing.
pub data Event (X : Type 0) : Type 0 where
  lock : ℕ → ℕ → ℕ → Event X
  unlock : ℕ → ℕ → ℕ → Event X
  idle : ℕ → Event X
  mem : Kind → ℕ → ℕ → X → Event X

module _ {X : Type 0} where
  abbrev pub thread : Event X → ℕ
  thread (lock j t l) = t
  thread (unlock j t l) = t
  thread (idle t) = t
  thread (mem k t v x) = t
