-- The refusals 20 to 22, read off the lines of a trace.
use Rattle.std.specs.Prelude.{ℕ, ◌-◌, ◌≤◌, ◌<◌, ◌≡◌, ◌⊎◌, true, false, List, reverse, length}
use Rattle.std.proofs.Math.Option.{some}
use Rattle.rules.specs.declared.Event.{Event}
use Rattle.rules.specs.declared.Counts.{Counts}
use Rattle.rules.specs.Limits.{line_after}
use Rattle.rules.specs.Words as Earlier
use Rattle.rules.specs.Rules as Rules
use Rattle.rules.specs.Rules.{loc, words_of}
use Rattle.sections.specs.Places.{event_at, up_to, uses_or_assigns, lock_at, unlock_at, holding}

-- the answer: an order is given, or it is denied with a number of 20 to 22 and a line
pub data Denial : Type 0 where
  fit : Denial
  denied : ℕ → ℕ → Denial

-- 20. Use or assign (U, A, B) not under its variable's guard: one stands in this line.
pub record Unguarded (h : Counts) (guard : ℕ → ℕ) (events : List Event) (line : ℕ) : Type 0 where
  pub event : Event
  pub stands : event_at h line events ≡ some event
  pub used : uses_or_assigns event ≡ true
  -- Under V's guard: T holds the lock that the G line names for V.
  pub not_under : Rules.held (words_of (up_to h (line - 1) events)) event.thread (guard (loc event)) ≡ false

-- 21. K by a thread after an N in the same section: one stands in this line. The thread holds something all the time from
-- that N, or Y, to this K, or C.
pub record LateLock (h : Counts) (events : List Event) (line : ℕ) : Type 0 where
  pub thread : ℕ
  pub locks : lock_at h thread events line ≡ true
  pub earlier : ℕ
  pub before : earlier < line
  pub unlocks : unlock_at h thread events earlier ≡ true
  pub same : (n : ℕ) → earlier ≤ n → n < line → holding h thread events n ≡ true

-- 22. At the end a lock is held or an assign owed. Document 02 (i): "a thread still waiting makes 22".
pub record HeldAtEnd (events : List Event) : Type 0 where
  pub thread : ℕ
  pub lock : ℕ
  pub held : Rules.held (words_of (reverse events)) thread lock ≡ true

pub record PendingAtEnd (events : List Event) : Type 0 where
  pub thread : ℕ
  pub variable : ℕ
  pub pending : Earlier.pending thread variable (reverse events) ≡ true

pub record WaitingAtEnd (events : List Event) : Type 0 where
  pub thread : ℕ
  pub lock : ℕ
  pub waiting : Rules.waits_on (words_of (reverse events)) thread lock ≡ true

abbrev pub Unfinished : List Event → Type 0
Unfinished events = HeldAtEnd events ⊎ (PendingAtEnd events ⊎ WaitingAtEnd events)

-- no line before this one breaks 20 or 21
pub record Clean (h : Counts) (guard : ℕ → ℕ) (events : List Event) (line : ℕ) : Type 0 where
  pub guarded : (n : ℕ) → n < line → Unguarded h guard events n → ⊥
  pub two_phase : (n : ℕ) → n < line → LateLock h events n → ⊥

-- nothing denies an order: no line breaks 20 or 21, and the end does not break 22
pub record Orderly (h : Counts) (guard : ℕ → ℕ) (events : List Event) : Type 0 where
  pub guarded : (n : ℕ) → Unguarded h guard events n → ⊥
  pub two_phase : (n : ℕ) → LateLock h events n → ⊥
  pub finished : Unfinished events → ⊥

-- what denies it: 20 and 21 event by event, 22 last, with number and line
pub data Denies (h : Counts) (guard : ℕ → ℕ) (events : List Event) (number line : ℕ) : Type 0 where
  -- this line is the first to break 20 or 21, and breaks 20
  unguarded : number ≡ 20 → Clean h guard events line → Unguarded h guard events line → Denies h guard events number line
  -- this line is the first to break 20 or 21, and breaks 21
  late : number ≡ 21 → Clean h guard events line → LateLock h events line → Denies h guard events number line
  -- no line breaks 20 or 21, and at the end 22 is broken (trailer line)
  unfinished : number ≡ 22 → line ≡ line_after h (length events) → Clean h guard events line → Unfinished events → Denies h guard events number line
