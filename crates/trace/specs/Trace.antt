-- A trace, which document 01 calls a paper: its trailer, head, guards and volatile variables, and the part that holds the events.
use Rattle.std.specs.Prelude.{ℕ, ◌+◌, ◌-◌, List, [], ◌∷◌, Bool, true, false, cond, ◌&&◌, eqb, ltb, leb, length, get_or, take, drop, set, replicate, Option, Some, None, Result, Ok, Err}
use Rattle.rules.specs.declared.Counts.{Counts}
use Rattle.rules.specs.declared.Refusal.{Refusal}
use Rattle.rules.specs.Limits.{Limits, full, no_volatiles, with_flags, allowed}
use Rattle.rules.specs.Rules.{Marked, told}
use Rattle.lines.specs.Lines.{before, up_to, split_on, letter}
use Rattle.decimal.specs.Decimal.{natural_of}
use Rattle.trace.specs.declared.LastLine.{LastLine}
use Rattle.trace.specs.declared.Trace.{Trace}

-- ---- what finding refuses

abbrev pub refusal : ℕ → ℕ → Refusal
refusal number line = record { number = number; line = line }

-- 1. Paper over 65,536 bytes (line 0).
abbrev pub too_long : Refusal
too_long = refusal 1 0

-- 2. Trailer missing or wrong (line 0).
abbrev pub wrong_trailer : Refusal
wrong_trailer = refusal 2 0

-- 3. Head wrong (line 1).
abbrev pub wrong_head : Refusal
wrong_head = refusal 3 1

-- 25, over the short course's limits, after 3 for the head (line 1). By the full limits 3 is said before.
abbrev pub over_limits : Limits → Refusal
over_limits m = refusal m.excess 1

-- 6. `G` line wrong: form, count, or undeclared lock (line 2).
abbrev pub wrong_guards : Refusal
wrong_guards = refusal 6 2

-- A wrong or empty `V` line is 6 at line 3.
abbrev pub wrong_volatiles : Refusal
wrong_volatiles = refusal 6 3

-- ---- the trailer

-- Last line, the trailer: `Z n`.
unfoldable pub trailer_number : List (List ℕ) → Option ℕ
trailer_number fs =
    cond (eqb (length fs) 2) (cond (eqb (letter (get_or fs 0 [])) 90) (natural_of (get_or fs 1 [])) None) None

-- n is the number of bytes before it: where the trailer starts.
abbrev pub check_at : ℕ → Option ℕ → Option ℕ
check_at at None = None
check_at at (Some n) = cond (eqb n at) (Some n) None

-- where the last line starts: behind the last byte 10 but the final byte
unfoldable pub last_line : List ℕ → ℕ
last_line s = up_to 10 (take (length s - 1) s)

-- the number of the last line where it is a trailer; each line is ended by byte 10
unfoldable pub last_number : List ℕ → Option ℕ
last_number s =
    cond (eqb (get_or s (length s - 1) 0) 10)
    (trailer_number (split_on 32 (take (length s - 1 - last_line s) (drop (last_line s) s))))
    None

-- where the last line starts, and its number
abbrev pub last_of : List ℕ → LastLine
last_of s = record { at = last_line s; number = last_number s }

-- where a right trailer starts
unfoldable pub trailer_of : List ℕ → Option ℕ
trailer_of s = check_at (last_line s) (last_number s)

-- ---- the head

abbrev pub no_counts : Counts
no_counts = record { threads = 0; variables = 0; locks = 0; volatiles = no_volatiles }

-- threads 1 to 8, variables 1 to 16, locks 0 to 8
abbrev pub check_counts : Counts → Option Counts
check_counts c = cond (allowed full c) (Some c) None

abbrev pub check_head : Option ℕ → Option ℕ → Option ℕ → Option Counts
check_head None v l = None
check_head (Some t) None l = None
check_head (Some t) (Some v) None = None
check_head (Some t) (Some v) (Some l) = check_counts (record { threads = t; variables = v; locks = l; volatiles = no_volatiles })

-- Line 1: `H t v l`.
unfoldable pub head_of : List (List ℕ) → Option Counts
head_of fs =
    cond (eqb (length fs) 4)
    (cond (eqb (letter (get_or fs 0 [])) 72)
    (check_head (natural_of (get_or fs 1 [])) (natural_of (get_or fs 2 [])) (natural_of (get_or fs 3 [])))
    None)
    None

-- ---- numbers of variables and locks

-- each kind is numbered from 0: a number of one is below `high`; and where the numbers rise, it is not below `low`
abbrev pub number_within : ℕ → ℕ → Option ℕ → Option ℕ
number_within low high None = None
number_within low high (Some n) = cond (leb low n && ltb n high) (Some n) None

-- on with this number, where there is one
abbrev pub with_number : {A : Type 0} → Option ℕ → (ℕ → Option A) → Option A
with_number None f = None
with_number (Some n) f = f n

-- ---- the guards

-- the lock of each variable, 0 past the last, where line 2 names locks
abbrev pub Guards : Type 0
Guards = Option (List ℕ)

-- one place for each variable that a trace may have
abbrev pub no_locks : List ℕ
no_locks = replicate full.variables 0

-- the lock of the i-th variable and of those after it, each one of l locks
unfoldable pub locks_from : ℕ → List ℕ → ℕ → List (List ℕ) → Option (List ℕ)
locks_from i g l [] = Some g
locks_from i g l (f ∷ fs) = with_number (number_within 0 l (natural_of f)) (λ n. locks_from (i + 1) (set g i n) l fs)

-- `G -` for no guards
abbrev pub is_dash : List (List ℕ) → Bool
is_dash fs = cond (eqb (length fs) 2) (eqb (letter (get_or fs 1 [])) 45) false

-- a line that names these locks
abbrev pub lock_line : Option (List ℕ) → Option Guards
lock_line None = None
lock_line (Some g) = Some (Some g)

-- Line 2: `G` and one lock number per variable, of v variables and l locks.
unfoldable pub guards_of : ℕ → ℕ → List (List ℕ) → Option Guards
guards_of v l fs =
    cond (eqb (letter (get_or fs 0 [])) 71)
    (cond (is_dash fs) (Some None)
    (cond (eqb (length fs) (v + 1)) (lock_line (locks_from 0 no_locks l (drop 1 fs))) None))
    None

-- ---- the volatile variables

-- rising variable numbers, from low on and below v
unfoldable pub volatiles_from : ℕ → ℕ → List Bool → List (List ℕ) → Option (List Bool)
volatiles_from v low g [] = Some g
volatiles_from v low g (f ∷ fs) = with_number (number_within low v (natural_of f)) (λ n. volatiles_from v (n + 1) (set g n true) fs)

-- A line `V` with rising variable numbers, of v variables; an empty one is wrong.
unfoldable pub volatiles_of : ℕ → List (List ℕ) → Option (List Bool)
volatiles_of v fs =
    cond (eqb (letter (get_or fs 0 [])) 86)
    (cond (ltb 1 (length fs)) (volatiles_from v 0 no_volatiles (drop 1 fs)) None)
    None

-- ---- the whole

-- the events stand from a on, up to the trailer at e
abbrev pub with_guards : ℕ → ℕ → Counts → Option Guards → Result Trace Refusal
with_guards a e h None = Err wrong_guards
with_guards a e h (Some g) = Ok (record { head = h; guards = g; from = a; to = e })

-- line 2, the first of s, which starts at `at`
unfoldable pub second_of : List ℕ → ℕ → ℕ → Counts → Result Trace Refusal
second_of s at e h =
    cond (ltb (before 10 s) (length s))
    (with_guards (at + before 10 s + 1) e h (guards_of h.variables h.locks (split_on 32 (take (before 10 s) s))))
    (Err wrong_guards)

-- what stands behind a right line 1, whose end is at a
abbrev pub behind_counts : Limits → List ℕ → ℕ → ℕ → Counts → Result Trace Refusal
behind_counts m s a e h = cond (allowed m h) (second_of (drop (a + 1) s) (a + 1) e h) (Err (over_limits m))

-- 3, then what stands behind a right head
abbrev pub behind_head : Limits → List ℕ → ℕ → ℕ → Option Counts → Result Trace Refusal
behind_head m s a e None = Err wrong_head
behind_head m s a e (Some h) = behind_counts m s a e h

-- line 1, the first of s, what stands before the trailer
unfoldable pub first_head : List ℕ → Option Counts
first_head s = cond (ltb (before 10 s) (length s)) (head_of (split_on 32 (take (before 10 s) s))) None

-- the trailer starts at e
unfoldable pub first_of : Limits → List ℕ → ℕ → Result Trace Refusal
first_of m s e = behind_head m s (before 10 s) e (first_head s)

-- 2, then what stands before a right trailer
abbrev pub behind_trailer : Limits → List ℕ → Option ℕ → Result Trace Refusal
behind_trailer m s None = Err wrong_trailer
behind_trailer m s (Some e) = first_of m (take e s) e

-- Whole paper: 1, 2, 3 (25), 6 at line 2, without a `V` line: what stands behind line 2 are the events.
unfoldable pub plain_trace_of : Limits → List ℕ → Result Trace Refusal
plain_trace_of m s = cond (ltb m.bytes (length s)) (Err too_long) (behind_trailer m s (trailer_of s))

-- The part of the lent bytes that holds the events. It is empty after 1, 2, 3, 25 or 6.
unfoldable pub events_of : List ℕ → Result Trace Refusal → List ℕ
events_of s (Ok t) = take (t.to - t.from) (drop t.from s)
events_of s (Err r) = []

-- A line 3 whose first byte is `V` is meant as one; u begins with line 3.
abbrev pub begins_with_v : List ℕ → Bool
begins_with_v u = eqb (get_or u 0 0) 86

-- the variables of a right `V` line are volatile, and the events stand n bytes further on
abbrev pub with_volatiles : ℕ → Trace → Option (List Bool) → Result Trace Refusal
with_volatiles n t None = Err wrong_volatiles
with_volatiles n t (Some g) = Ok (record { head = with_flags t.head g; guards = t.guards; from = t.from + n; to = t.to })

-- An optional line `V` follows `G`: it is the first of u, which stands behind the guards of t.
unfoldable pub third_of : List ℕ → Trace → Result Trace Refusal
third_of u t = cond (begins_with_v u) (with_volatiles (before 10 u + 1) t (volatiles_of t.head.variables (split_on 32 (take (before 10 u) u)))) (Ok t)

-- line 3 of a trace whose lines 1 and 2 are right
abbrev pub behind_guards : List ℕ → Result Trace Refusal → Result Trace Refusal
behind_guards s (Ok t) = third_of (events_of s (Ok t)) t
behind_guards s (Err r) = Err r

-- Whole paper: 1, 2, 3 (25), 6 at line 2, 6 at line 3. What stands behind the guards is empty after each of these but the last.
unfoldable pub trace_of : Limits → List ℕ → Result Trace Refusal
trace_of m s = cond m.volatiles (behind_guards s (plain_trace_of m s)) (plain_trace_of m s)

-- there is a line 3 that is meant as a `V` line
unfoldable pub meant_volatile : Limits → List ℕ → Bool
meant_volatile m s = m.volatiles && begins_with_v (events_of s (plain_trace_of m s))

-- the number and the line of each case; nothing is refused where a trace is found
abbrev pub found : Result Trace Refusal → Marked
found t = told t

-- the head of a trace that is found; all 0 after a refusal
abbrev pub head_in : Result Trace Refusal → Counts
head_in (Ok t) = t.head
head_in (Err r) = no_counts

-- its guards; none after a refusal
abbrev pub guards_in : Result Trace Refusal → Guards
guards_in (Ok t) = t.guards
guards_in (Err r) = None
