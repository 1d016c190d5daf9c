-- The limits of documents 01 and 02, each named once.
use Rattle.std.specs.Prelude.{ℕ, zero, suc, ◌+◌, ◌*◌, ◌^◌, ◌≤◌, ◌<◌, Bool, true, false, not, cond, ◌&&◌, ◌||◌, List, ltb, leb, get_or, replicate}
use Rattle.std.specs.Int.{Width, w64}
use mir.Val.{hbits}
use Rattle.rules.specs.declared.Event.{Event}
use Rattle.rules.specs.declared.Counts.{Counts}
use Rattle.rules.specs.declared.Course.{Course}
use Rattle.rules.specs.declared.Course.TheVariants.{Full, Short}
use Rattle.rules.specs.Events.{place, subject, on_lock}

-- A value is a signed number of 64 bits.
abbrev pub value_width : Width
value_width = w64

-- a value of width w is from -limit w to limit w - 1
abbrev pub limit : Width → ℕ
limit w = 2 ^ hbits w

-- the most threads, variables, locks and events of a course, and the number of the refusal of one event more, and of a head that declares more than the
-- course has; the most bytes of a paper; the least that is lent for records, output, order list and scratch; the width of the values that lines have; whether
-- line 3 may be a `V` line
pub record Limits : Type 0 where
  pub threads : ℕ
  pub variables : ℕ
  pub locks : ℕ
  pub events : ℕ
  pub excess : ℕ
  pub bytes : ℕ
  pub records : ℕ
  pub output : ℕ
  pub entries : ℕ
  pub scratch : ℕ
  pub width : Width
  pub volatiles : Bool

-- a number of each course
abbrev pub by_course : Course → ℕ → ℕ → ℕ
by_course Full a b = a
by_course Short a b = b

-- `H t v l`: threads 1 to 8, variables 1 to 16, locks 0 to 8. 9. 2,000 events are already in. The short course, document 02 (e): at most 2 threads,
-- 4 variables, 2 locks and 200 events; 25 in place of 9.
-- 1. Paper over 65,536 bytes. 7. Records under 2,000 places, output under 32,768 bytes; where an order is wanted, order list under 1,000 places or
-- scratch under 1,000 (document 02 (k)). Document 02 (g): a value outside 64 bits is 4.
abbrev pub limits_of : Course → Limits
limits_of c = record {
  threads = by_course c 8 2;
  variables = by_course c 16 4;
  locks = by_course c 8 2;
  events = by_course c 2000 200;
  excess = by_course c 9 25;
  bytes = 65536;
  records = 2000;
  output = 32768;
  entries = 1000;
  scratch = 1000;
  width = value_width;
  volatiles = true;
}

abbrev pub full : Limits
full = limits_of Full

abbrev pub short : Limits
short = limits_of Short

-- no variable is volatile: there is no `V` line
abbrev pub no_volatiles : List Bool
no_volatiles = replicate full.variables false

-- counts with these volatile variables
abbrev pub with_flags : Counts → List Bool → Counts
with_flags h g = record { threads = h.threads; variables = h.variables; locks = h.locks; volatiles = g }

-- the most that a head may declare
abbrev pub most_counts : Limits → Counts
most_counts m = record { threads = m.threads; variables = m.variables; locks = m.locks; volatiles = no_volatiles }

-- the full limits with another scratch and another width of values, and with a `V` line or without
abbrev pub full_with : ℕ → Width → Bool → Limits
full_with k w b = record {
  threads = full.threads;
  variables = full.variables;
  locks = full.locks;
  events = full.events;
  excess = full.excess;
  bytes = full.bytes;
  records = full.records;
  output = full.output;
  entries = full.entries;
  scratch = k;
  width = w;
  volatiles = b;
}

-- limits whose counts and events are nowhere above the full ones, and for which one event more has a number
pub record UpToFull (m : Limits) : Type 0 where
  pub threads : m.threads ≤ full.threads
  pub variables : m.variables ≤ full.variables
  pub locks : m.locks ≤ full.locks
  pub events : m.events ≤ full.events
  pub excess : 0 < m.excess

-- At most 8 outstanding reads and 8 outstanding stores for each thread and variable.
abbrev pub most : ℕ
most = 8

-- Document 02 (b): the cell of thread t and variable v is 16 × thread + variable.
abbrev pub cell_number : ℕ → ℕ → ℕ
cell_number t v = full.variables * t + v

-- how many cells there are
abbrev pub cell_count : ℕ
cell_count = full.threads * full.variables

-- f holds of a number below n
unfoldable pub some : ℕ → (ℕ → Bool) → Bool
some zero f = false
some (suc n) f = f n || some n f

-- An optional line `V` with rising variable numbers follows `G`: it names V.
unfoldable pub volatile : Counts → ℕ → Bool
volatile h v = get_or h.volatiles v false

-- there is a `V` line
unfoldable pub any_volatile : Counts → Bool
any_volatile h = some full.variables (volatile h)

-- a variable that the head does not declare is volatile: no trace has such counts
unfoldable pub stray_volatile : Counts → Bool
stray_volatile h = some full.variables (λ v. leb h.variables v && volatile h v)

-- Line 1 is the head, line 2 the guards; then the event lines. With a `V` line events start at line 4.
unfoldable pub first_line : Counts → ℕ
first_line h = cond (any_volatile h) 4 3

-- the line of the event that comes after n events
abbrev pub line_after : Counts → ℕ → ℕ
line_after h n = n + first_line h

-- `H t v l`: threads 1 to 8, variables 1 to 16, locks 0 to 8; what is volatile is declared.
unfoldable pub allowed : Limits → Counts → Bool
allowed m h =
    leb 1 h.threads && leb h.threads m.threads && leb 1 h.variables && leb h.variables m.variables && leb h.locks m.locks && not (stray_volatile h)

-- 5. Thread, variable or lock not declared; of an F also the thread that it notifies.
unfoldable pub declared : Counts → Event → Bool
declared h e = ltb e.thread h.threads && (ltb (subject e) h.threads && ltb (place e.kind) (cond (on_lock e) h.locks h.variables))

-- 7. Lent too little (line 0): records under 2,000 places, output under 32,768 bytes;
unfoldable pub lent_short : Limits → ℕ → ℕ → Bool
lent_short m records out = ltb records m.records || ltb out m.output

-- where an order is wanted, order list under 1,000 places or, document 02 (k), scratch under 1,000.
unfoldable pub order_short : Limits → ℕ → ℕ → Bool
order_short m list scratch = ltb list m.entries || ltb scratch m.scratch
