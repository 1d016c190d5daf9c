-- What the parts of the two passes compute. A level is how often a thread holds a lock, at 16 * thread + lock; a depth is how
-- often it holds on all locks. What is remembered are the holds that a waiting thread gave up; it waits on one lock. Where a K is meant C counts too, and where
-- an N is meant Y, but in `level_after`.
use Rattle.std.specs.Prelude.{ℕ, zero, suc, pred, ◌+◌, ◌-◌, ◌*◌, ◌≤◌, ◌<◌, ◌≡◌, Bool, true, false, not, cond, ◌&&◌, ◌||◌, List, [], ◌∷◌, ◌++◌, eqb, ltb, ℤ, length, get_or, set, take, drop, replicate, Ok, Err}
use Rattle.rules.specs.declared.Event.{Event}
use Rattle.rules.specs.declared.Counts.{Counts}
use Rattle.rules.specs.Events.{B, C, K, N, P, Y, is_letter, locks}
use Rattle.rules.specs.Limits.{full}
use Rattle.rules.specs.Words.{count}
use Rattle.rules.specs.Rules.{Verdict, some}
use Rattle.decimal.specs.Text.{over}
use Rattle.records.specs.Records.{letter_in, event_at, row_events}
use Rattle.serial.specs.Sections.{Section}
use Rattle.sections.specs.Demand3.{AcceptedTrace}
use Rattle.sections.specs.Refusals.{unfinished}
use Rattle.sections.specs.Denials.{Denial, fit, denied}
use Rattle.sections.specs.Order.{sections, entry}
use Rattle.sections.specs.Entries.{entry_code}
use Rattle.ordering.specs.declared.Holds.{Holds}
use Rattle.ordering.specs.declared.Begun.{Begun}
use Rattle.ordering.specs.Answer.{entries_for}

-- two rows that both passes may take: each record names an event, and the trace of these is accepted
pub record Fits (h : Counts) (what : List ℕ) (value : List ℤ) : Type 0 where
  pub lettered : (i : ℕ) → i < length what → is_letter (letter_in (get_or what i 0)) ≡ true
  pub accepted : AcceptedTrace full h (row_events h what value)

-- the first i events, the latest first
unfoldable pub past : (ℕ → Event) → ℕ → List Event
past events zero = []
past events (suc i) = events i ∷ past events i

-- ---- by letter, k

abbrev pub takes_hold : ℕ → Bool
takes_hold k = eqb k K || eqb k C

abbrev pub gives_hold : ℕ → Bool
gives_hold k = eqb k N || eqb k Y

-- with a Y or C the level and what is remembered change places, for one of them is 0
abbrev pub exchanges : ℕ → Bool
exchanges k = eqb k Y || eqb k C

-- one hold more with a K, one less with an N
unfoldable pub level_after : ℕ → ℕ → ℕ
level_after x k = cond (eqb k K) (suc x) (cond (eqb k N) (pred x) x)

unfoldable pub pending_after : Bool → ℕ → Bool
pending_after b k = eqb k P || (b && not (eqb k B))

unfoldable pub late_after : Bool → ℕ → Bool → Bool
late_after b k any = any && (gives_hold k || b)

-- ---- over the arrays

-- before the first event
unfoldable pub no_holds : Holds
no_holds = record { levels = replicate 128 0; depths = replicate 8 0; remembered = replicate 8 0 }

-- what is held before an event of thread t on p
pub record Holdable (s : Holds) (t p k : ℕ) : Type 0 where
  pub thread_low : t < 8
  pub place_low : p < 16
  pub level_low : get_or s.levels (t * 16 + p) 0 < 65536
  pub depth_low : get_or s.depths t 0 < 65536
  pub remembered_low : get_or s.remembered t 0 < 65536
  pub held : k ≡ N → (0 < get_or s.levels (t * 16 + p) 0) × (get_or s.levels (t * 16 + p) 0 ≤ get_or s.depths t 0)
  pub part : exchanges k ≡ true → get_or s.levels (t * 16 + p) 0 ≤ get_or s.depths t 0

-- and after it; r is t's depth then
pub record Held (s : Holds) (t p k r : ℕ) (s' : Holds) : Type 0 where
  pub depth_is : r ≡ cond (exchanges k) (get_or s.depths t 0 - get_or s.levels (t * 16 + p) 0 + get_or s.remembered t 0) (level_after (get_or s.depths t 0) k)
  pub levels_are : s'.levels ≡ set s.levels (t * 16 + p) (cond (exchanges k) (get_or s.remembered t 0) (level_after (get_or s.levels (t * 16 + p) 0) k))
  pub depths_are : s'.depths ≡ set s.depths t r
  pub remembered_are : s'.remembered ≡ set s.remembered t (cond (exchanges k) (get_or s.levels (t * 16 + p) 0) (get_or s.remembered t 0))

-- thread t holds its variable's guard g
unfoldable pub under_in : Holds → ℕ → ℕ → Bool
under_in s t g = ltb g 16 && ltb 0 (get_or s.levels (t * 16 + g) 0)

unfoldable pub pending_in : List Bool → ℕ → ℕ → Bool
pending_in pending t v = get_or pending (t * 16 + v) false

unfoldable pub unfinished_in : Counts → Holds → List Bool → Bool
unfinished_in h s pending = some h.threads (λ t. ltb 0 (get_or s.depths t 0) || (some h.variables (pending_in pending t) || ltb 0 (get_or s.remembered t 0)))

-- a denial as the first pass answers it
unfoldable pub told_as : Denial → Verdict
told_as fit = Ok tt
told_as (denied number line) = Err (record { number = number; line = line })

-- ---- the second pass

-- the section of thread t from line a to line b
abbrev pub code_of : ℕ → ℕ → ℕ → ℕ
code_of t a b = entry_code (record { thread = t; first = a; last = b })

-- the section that thread t is in
abbrev pub begun_at : List Begun → ℕ → Begun
begun_at begun t = get_or begun t (record { first = 0; top = 0 })

-- y where a thread holds nothing, else x
unfoldable pub idle_or : ℕ → ℕ → ℕ → ℕ
idle_or depth x y = cond (eqb depth 0) y x

-- the number of the section whose last K has this position; 0 where there is none
unfoldable pub bucket : Counts → List (Section ℤ) → ℕ → ℕ
bucket h [] q = 0
bucket h (s ∷ ss) q = cond (eqb s.top q) (entry_code (entry h s)) (bucket h ss q)

-- how many K there are before the event at index i
unfoldable pub rank : (ℕ → Event) → ℕ → ℕ
rank events i = count locks (past events i)

-- what the scratch holds for the event at index p: the number at its rank for a K, 0 for another event
unfoldable pub scratch_at : (ℕ → Event) → List ℕ → ℕ → ℕ
scratch_at events scratch p = cond (locks (events p)) (get_or scratch (rank events p) 0) 0

-- n is the number of K, and for each event the scratch holds the number of the section whose last K it is, 0 where there is none
pub record Filled (h : Counts) (what : List ℕ) (value : List ℤ) (n : ℕ) (scratch : List ℕ) : Type 0 where
  pub count : n ≡ rank (event_at h what value) (length what)
  pub buckets : (p : ℕ) → p < length what → scratch_at (event_at h what value) scratch p ≡ bucket h (sections h (past (event_at h what value) (length what))) (suc p)

-- ---- gathering

-- x, unless it is 0
unfoldable pub unless_zero : ℕ → List ℕ
unless_zero x = cond (eqb x 0) [] (x ∷ [])

unfoldable pub nonzero : List ℕ → List ℕ
nonzero [] = []
nonzero (x ∷ xs) = unless_zero x ++ nonzero xs

-- a list written at place c, and the place after it
pub record Put (xs list : List ℕ) (c r : ℕ) (list' : List ℕ) : Type 0 where
  pub count : r ≡ c + length xs
  pub lists : list' ≡ take c list ++ (xs ++ drop r list)

-- two rows at whose end nothing is held or owed, with room for their order
pub record Orders (h : Counts) (what : List ℕ) (value : List ℤ) (list scratch : List ℕ) : Type 0 where
  pub fits : Fits h what value
  pub ended : unfinished h (past (event_at h what value) (length what)) ≡ false
  pub room : length (entries_for h (row_events h what value)) ≤ length list
  pub places : full.scratch ≤ length scratch

-- the order written out
pub record Written (xs list scratch : List ℕ) (r : ℕ) (list' scratch' : List ℕ) : Type 0 where
  pub count : r ≡ length xs
  pub lists : list' ≡ over xs list
  pub zeros : scratch' ≡ replicate (length scratch) 0
