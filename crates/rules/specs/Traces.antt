-- Document 01, "Short traces": the rows marked as proved, one table, two of them with the verdict of document 02 (a) and one with that
-- of (d); more traces of both documents, the checks of the rows, volatile variables, waiting; and the 1-2-3 run. `proofs/ShortTraces.antt` proves each table by one theorem, and that the run is accepted.
use Rattle.std.specs.Prelude.{ℕ, pred, true, false, List, [], ◌∷◌, ◌++◌, ℤ, pos, negsuc, drop, replicate}
use Rattle.std.proofs.Math.Option.{Option, none, some}
use Rattle.rules.specs.declared.Kind.{Kind}
use Rattle.rules.specs.declared.Kind.TheVariants.{Use, Assign, Load, Store, Read, Write, Lock, Unlock, PrescientStore, PrescientAssign, Wait, Notify, Resume}
use Rattle.rules.specs.declared.Event.{Event}
use Rattle.rules.specs.declared.Counts.{Counts}
use Rattle.rules.specs.Limits.{no_volatiles, line_after}
use Rattle.rules.specs.Rules.{Marked, accepted, refused}

-- the line of an event plays no part in the rules
unfoldable pub ev : ℕ → Kind → Event
ev t k = record { thread = t; line = 0; kind = k }

unfoldable pub U : ℕ → ℕ → ℕ → Event
U t v x = ev t (Use v (pos x))

unfoldable pub A : ℕ → ℕ → ℕ → Event
A t v x = ev t (Assign v (pos x))

unfoldable pub L : ℕ → ℕ → ℕ → Event
L t v x = ev t (Load v (pos x))

unfoldable pub S : ℕ → ℕ → ℕ → Event
S t v x = ev t (Store v (pos x))

unfoldable pub R : ℕ → ℕ → ℕ → Event
R t v x = ev t (Read v (pos x))

unfoldable pub W : ℕ → ℕ → ℕ → Event
W t v x = ev t (Write v (pos x))

unfoldable pub P : ℕ → ℕ → ℕ → Event
P t v x = ev t (PrescientStore v (pos x))

unfoldable pub B : ℕ → ℕ → ℕ → Event
B t v x = ev t (PrescientAssign v (pos x))

unfoldable pub K : ℕ → ℕ → Event
K t l = ev t (Lock l)

unfoldable pub N : ℕ → ℕ → Event
N t l = ev t (Unlock l)

-- `Y t l` waits, `F t l u` notifies thread u, `C t l` comes back.
unfoldable pub Y : ℕ → ℕ → Event
Y t l = ev t (Wait l)

unfoldable pub F : ℕ → ℕ → ℕ → Event
F t l u = ev t (Notify l u)

unfoldable pub C : ℕ → ℕ → Event
C t l = ev t (Resume l)

-- Two threads, variables and locks.
abbrev pub two : Counts
two = record { threads = 2; variables = 2; locks = 2; volatiles = no_volatiles }

-- the refusal of event n, from 1, in a trace with these counts
abbrev pub bad_with : Counts → ℕ → ℕ → Marked
bad_with h number n = refused number (line_after h (pred n))

abbrev pub bad : ℕ → ℕ → Marked
bad = bad_with two

-- a row of the table: the events, the verdict, and main memory of variable 0 where the row says it
pub record Trace : Type 0 where
  pub events : List Event
  pub marked : Marked
  pub main0 : Option ℤ

unfoldable pub trace : List Event → Marked → Trace
trace es m = record { events = es; marked = m; main0 = none }

unfoldable pub with_main : List Event → Marked → ℤ → Trace
with_main es m x = record { events = es; marked = m; main0 = some x }

-- eight stores of thread 0 on variable 0
abbrev pub eight_stores : List Event
eight_stores = pair ++ pair ++ pair ++ pair ++ pair ++ pair ++ pair ++ pair
  where
    pair : List Event
    pair = A 0 0 1 ∷ S 0 0 1 ∷ []

unfoldable pub traces : List Trace
traces =
    trace [] accepted
    ∷ trace (U 0 0 0 ∷ []) (bad 17 1)
    ∷ trace (R 0 0 0 ∷ L 0 0 0 ∷ U 0 0 0 ∷ []) accepted
    ∷ trace (R 0 0 0 ∷ K 0 0 ∷ L 0 0 0 ∷ U 0 0 0 ∷ []) (bad 17 4)
    ∷ trace (R 0 0 0 ∷ A 0 0 5 ∷ L 0 0 0 ∷ []) (bad 23 2)
    ∷ trace (R 0 0 0 ∷ A 0 0 5 ∷ S 0 0 5 ∷ W 0 0 5 ∷ L 0 0 0 ∷ []) (bad 23 2)
    ∷ trace (A 0 0 5 ∷ S 0 0 5 ∷ S 0 0 5 ∷ []) (bad 14 3)
    ∷ trace (A 0 0 5 ∷ K 0 0 ∷ S 0 0 5 ∷ []) (bad 17 3)
    ∷ trace (K 0 0 ∷ A 0 0 5 ∷ S 0 0 5 ∷ N 0 0 ∷ []) (bad 16 4)
    ∷ with_main (P 0 0 5 ∷ W 0 0 5 ∷ B 0 0 5 ∷ []) accepted (pos 5)
    ∷ trace (P 0 0 5 ∷ K 0 0 ∷ []) (bad 13 2)
    ∷ trace (K 0 0 ∷ K 0 0 ∷ N 0 0 ∷ K 1 0 ∷ []) (bad 11 4)
    ∷ trace (K 0 0 ∷ P 0 0 5 ∷ N 0 0 ∷ []) accepted
    ∷ []

-- Document 01, "Where candidates and programmers slip": a lock spoils all of the thread's copies, and a copy is not fresh after B. (That
-- the read must follow the lock is a row of the table above.)
unfoldable pub slips : List Trace
slips =
    trace (A 0 1 5 ∷ K 0 0 ∷ U 0 1 5 ∷ []) (bad 17 3)
    ∷ trace (K 0 0 ∷ A 0 0 5 ∷ P 0 0 6 ∷ W 0 0 6 ∷ B 0 0 6 ∷ N 0 0 ∷ []) accepted
    ∷ []

-- Document 02 (a): the events that leave a read dead; a read that may yet be loaded, while V is owed and its store written; N, which still
-- meets 15. (An A with a read outstanding, and N with 16, are rows of the table above.)
unfoldable pub dead_reads : List Trace
dead_reads =
    trace (A 0 0 5 ∷ S 0 0 5 ∷ R 0 0 0 ∷ []) (bad 23 3)
    ∷ trace (P 0 0 5 ∷ R 0 0 0 ∷ []) (bad 23 2)
    ∷ trace (A 0 0 5 ∷ R 0 0 0 ∷ []) (bad 23 2)
    ∷ trace (R 0 0 0 ∷ P 0 0 5 ∷ []) (bad 23 2)
    ∷ trace (P 0 0 5 ∷ W 0 0 5 ∷ R 0 0 5 ∷ A 0 0 6 ∷ B 0 0 5 ∷ L 0 0 5 ∷ []) accepted
    ∷ trace (P 0 0 5 ∷ W 0 0 5 ∷ A 0 0 6 ∷ R 0 0 5 ∷ B 0 0 5 ∷ L 0 0 5 ∷ []) accepted
    ∷ trace (K 0 0 ∷ A 0 0 5 ∷ N 0 0 ∷ []) (bad 15 3)
    ∷ []

-- Document 02 (d): at N "a store whose assign is owed counts no longer". A store before it counts, and so does its own after the B; a fresh assign
-- is 15. (An N with the early store alone is a row of the table above.)
unfoldable pub prescient_stores : List Trace
prescient_stores =
    trace (K 0 0 ∷ A 0 0 5 ∷ S 0 0 5 ∷ P 0 0 6 ∷ N 0 0 ∷ []) (bad 16 5)
    ∷ trace (K 0 0 ∷ A 0 0 5 ∷ S 0 0 5 ∷ P 0 0 6 ∷ W 0 0 5 ∷ N 0 0 ∷ []) accepted
    ∷ trace (K 0 0 ∷ P 0 0 5 ∷ B 0 0 5 ∷ N 0 0 ∷ []) (bad 16 4)
    ∷ trace (K 0 0 ∷ P 0 0 5 ∷ B 0 0 5 ∷ P 0 0 6 ∷ N 0 0 ∷ []) (bad 16 5)
    ∷ trace (K 0 0 ∷ P 0 0 5 ∷ A 0 0 6 ∷ N 0 0 ∷ []) (bad 15 4)
    ∷ trace (K 0 0 ∷ P 0 0 5 ∷ A 0 1 5 ∷ S 0 1 5 ∷ N 0 0 ∷ []) (bad 16 5)
    ∷ with_main (K 0 0 ∷ P 0 0 5 ∷ N 0 0 ∷ W 0 0 5 ∷ B 0 0 5 ∷ []) accepted (pos 5)
    ∷ []

-- The ten rows of document 01: each check, on whichever variable, and the order of two that one event breaks.
unfoldable pub check_traces : List Trace
check_traces =
    -- U: 17, 18
    trace (U 0 0 5 ∷ []) (bad 17 1)
    ∷ trace (A 0 0 5 ∷ U 0 0 6 ∷ []) (bad 18 2)
    ∷ trace (A 0 0 4294967296 ∷ U 0 0 0 ∷ []) (bad 18 2)
    ∷ trace (ev 0 (Assign 0 (negsuc 0)) ∷ ev 0 (Use 0 (negsuc 1)) ∷ []) (bad 18 2)
    ∷ trace (P 0 0 5 ∷ W 0 0 5 ∷ B 0 0 5 ∷ U 0 0 5 ∷ []) accepted
    -- L: 10, 13, 18
    ∷ trace (P 0 0 5 ∷ L 0 0 0 ∷ []) (bad 10 2)
    ∷ trace (P 0 0 5 ∷ W 0 0 5 ∷ R 0 0 5 ∷ L 0 0 6 ∷ []) (bad 13 4)
    ∷ trace (R 0 0 0 ∷ L 0 0 1 ∷ []) (bad 18 2)
    -- S: 13, 14, 17, 18, 19
    ∷ trace (P 0 0 5 ∷ S 0 0 5 ∷ []) (bad 13 2)
    ∷ trace (P 0 0 5 ∷ A 0 0 6 ∷ S 0 0 6 ∷ []) (bad 13 3)
    ∷ trace (S 0 0 0 ∷ []) (bad 14 1)
    ∷ trace (A 0 0 5 ∷ K 0 0 ∷ S 0 0 6 ∷ []) (bad 17 3)
    ∷ trace (A 0 0 5 ∷ S 0 0 6 ∷ []) (bad 18 2)
    ∷ trace (eight_stores ++ (A 0 0 5 ∷ S 0 0 6 ∷ [])) (bad 18 18)
    ∷ trace (eight_stores ++ (A 0 0 5 ∷ S 0 0 5 ∷ [])) (bad 19 18)
    -- R: 18, 19
    ∷ trace (replicate 8 (R 0 0 0) ++ (R 0 0 1 ∷ [])) (bad 18 9)
    ∷ trace (replicate 8 (R 0 0 0) ++ (R 0 0 0 ∷ [])) (bad 19 9)
    ∷ trace (replicate 8 (R 0 0 0) ++ (R 0 1 0 ∷ R 1 0 0 ∷ [])) accepted
    -- W: 10, 18
    ∷ trace (W 0 0 1 ∷ []) (bad 10 1)
    ∷ trace (A 0 0 5 ∷ S 0 0 5 ∷ W 0 0 6 ∷ []) (bad 18 3)
    -- K: 11, 13
    ∷ trace (K 1 0 ∷ P 0 0 5 ∷ K 0 0 ∷ []) (bad 11 3)
    ∷ trace (P 0 1 5 ∷ K 0 0 ∷ []) (bad 13 2)
    -- N: 12, 15, 16
    ∷ trace (A 0 0 5 ∷ N 0 0 ∷ []) (bad 12 2)
    ∷ trace (K 0 0 ∷ A 0 0 5 ∷ S 0 0 5 ∷ A 0 1 6 ∷ N 0 0 ∷ []) (bad 15 5)
    ∷ trace (K 0 0 ∷ A 0 1 5 ∷ S 0 1 5 ∷ N 0 0 ∷ []) (bad 16 4)
    -- P: 13, 19
    ∷ trace (P 0 0 5 ∷ P 0 0 6 ∷ []) (bad 13 2)
    ∷ trace (drop 2 eight_stores ++ (P 0 0 5 ∷ P 0 0 5 ∷ [])) (bad 13 16)
    ∷ trace (eight_stores ++ (P 0 0 5 ∷ [])) (bad 19 17)
    -- B: 10, 18
    ∷ trace (B 0 0 5 ∷ []) (bad 10 1)
    ∷ trace (P 0 0 5 ∷ B 0 0 6 ∷ []) (bad 18 2)
    -- 5 before the row
    ∷ trace (U 2 0 0 ∷ []) (bad 5 1)
    ∷ trace (U 0 2 0 ∷ []) (bad 5 1)
    ∷ trace (N 0 2 ∷ []) (bad 5 1)
    ∷ []

-- Document 02 (f): two threads, variables and locks, and the line `V 0 1`.
abbrev pub two_volatile : Counts
two_volatile = record { threads = 2; variables = 2; locks = 2; volatiles = true ∷ true ∷ replicate 14 false }

abbrev pub bad_volatile : ℕ → ℕ → Marked
bad_volatile = bad_with two_volatile

unfoldable pub volatile_traces : List Trace
volatile_traces =
    -- load and use, assign and store
    trace (R 0 0 0 ∷ L 0 0 0 ∷ U 0 0 0 ∷ A 0 0 5 ∷ S 0 0 5 ∷ W 0 0 5 ∷ R 0 0 5 ∷ L 0 0 5 ∷ U 0 0 5 ∷ []) accepted
    -- 26: a use without its load, a second use, a load after a load, an assign after an assign, an early store after an assign
    ∷ trace (U 0 0 0 ∷ []) (bad_volatile 26 1)
    ∷ trace (R 0 0 0 ∷ L 0 0 0 ∷ U 0 0 0 ∷ U 0 0 0 ∷ []) (bad_volatile 26 4)
    ∷ trace (R 0 0 0 ∷ R 0 0 0 ∷ L 0 0 0 ∷ L 0 0 0 ∷ []) (bad_volatile 26 4)
    ∷ trace (A 0 0 5 ∷ A 0 0 6 ∷ []) (bad_volatile 26 2)
    ∷ trace (A 0 0 5 ∷ P 0 0 6 ∷ []) (bad_volatile 26 2)
    -- a lock between load and use is the plain 17
    ∷ trace (R 0 0 0 ∷ L 0 0 0 ∷ K 0 0 ∷ U 0 0 0 ∷ []) (bad_volatile 17 4)
    -- 27 at U: an assign is not written; it is, but behind the read; the read of an earlier use is behind it
    ∷ trace (R 0 0 0 ∷ A 0 1 5 ∷ L 0 0 0 ∷ U 0 0 0 ∷ []) (bad_volatile 27 4)
    ∷ trace (R 0 0 0 ∷ A 0 1 5 ∷ S 0 1 5 ∷ W 0 1 5 ∷ L 0 0 0 ∷ U 0 0 0 ∷ []) (bad_volatile 27 6)
    ∷ trace (R 0 0 0 ∷ R 0 1 0 ∷ L 0 1 0 ∷ U 0 1 0 ∷ L 0 0 0 ∷ U 0 0 0 ∷ []) (bad_volatile 27 6)
    -- 27 at W: an earlier assign is not stored; it is, later than the one that is written
    ∷ trace (A 0 0 5 ∷ A 0 1 6 ∷ S 0 1 6 ∷ W 0 1 6 ∷ []) (bad_volatile 27 4)
    ∷ trace (A 0 0 5 ∷ A 0 1 6 ∷ S 0 1 6 ∷ S 0 0 5 ∷ W 0 1 6 ∷ []) (bad_volatile 27 5)
    ∷ with_main (A 0 0 5 ∷ A 0 1 6 ∷ S 0 1 6 ∷ S 0 0 5 ∷ W 0 0 5 ∷ W 0 1 6 ∷ []) accepted (pos 5)
    -- 10 where no store is outstanding
    ∷ trace (A 0 0 5 ∷ W 0 1 6 ∷ []) (bad_volatile 10 2)
    -- 28
    ∷ trace (P 0 0 5 ∷ []) (bad_volatile 28 1)
    ∷ trace (B 0 0 5 ∷ []) (bad_volatile 28 1)
    -- another thread's assign stands in no way, at U and at W
    ∷ trace (R 0 0 0 ∷ A 1 1 5 ∷ L 0 0 0 ∷ U 0 0 0 ∷ []) accepted
    ∷ trace (A 0 0 5 ∷ A 0 1 6 ∷ A 1 0 7 ∷ S 0 0 5 ∷ S 0 1 6 ∷ W 0 1 6 ∷ []) (bad_volatile 27 6)
    -- a read between load and use is left aside
    ∷ trace (R 0 0 0 ∷ L 0 0 0 ∷ R 0 0 0 ∷ U 0 0 0 ∷ []) accepted
    ∷ []

-- Document 02 (i), waiting and notification.
unfoldable pub waiting_traces : List Trace
waiting_traces =
    -- Y gives up every hold, C takes all the holds again
    trace (K 0 0 ∷ K 0 0 ∷ Y 0 0 ∷ K 1 0 ∷ F 1 0 0 ∷ N 1 0 ∷ C 0 0 ∷ N 0 0 ∷ N 0 0 ∷ []) accepted
    ∷ trace (K 0 0 ∷ K 0 0 ∷ Y 0 0 ∷ K 1 0 ∷ F 1 0 0 ∷ N 1 0 ∷ C 0 0 ∷ N 0 0 ∷ N 0 0 ∷ N 0 0 ∷ []) (bad 12 10)
    -- on that lock alone
    ∷ trace (K 0 1 ∷ K 0 0 ∷ Y 0 0 ∷ K 1 1 ∷ []) (bad 11 4)
    -- Y is checked as N is
    ∷ trace (Y 0 0 ∷ []) (bad 12 1)
    ∷ trace (K 0 0 ∷ A 0 0 5 ∷ Y 0 0 ∷ []) (bad 15 3)
    ∷ trace (K 0 0 ∷ A 0 0 5 ∷ S 0 0 5 ∷ Y 0 0 ∷ []) (bad 16 4)
    -- F needs the lock held, else 12
    ∷ trace (K 0 0 ∷ Y 0 0 ∷ F 1 0 0 ∷ []) (bad 12 3)
    -- C is checked as K is, and spoils copies as K does
    ∷ trace (K 0 0 ∷ Y 0 0 ∷ K 1 0 ∷ F 1 0 0 ∷ C 0 0 ∷ []) (bad 11 5)
    ∷ trace (K 0 0 ∷ P 0 0 5 ∷ Y 0 0 ∷ K 1 0 ∷ F 1 0 0 ∷ N 1 0 ∷ C 0 0 ∷ []) (bad 13 7)
    ∷ trace (K 0 0 ∷ R 0 1 0 ∷ L 0 1 0 ∷ U 0 1 0 ∷ Y 0 0 ∷ K 1 0 ∷ F 1 0 0 ∷ N 1 0 ∷ C 0 0 ∷ U 0 1 0 ∷ []) (bad 17 10)
    -- 29: an early store may be written while its thread waits, its assign may not be made
    ∷ trace (K 0 0 ∷ P 0 0 5 ∷ Y 0 0 ∷ W 0 0 5 ∷ R 0 1 0 ∷ B 0 0 5 ∷ []) (bad 29 6)
    ∷ trace (K 0 0 ∷ Y 0 0 ∷ K 0 1 ∷ []) (bad 29 3)
    ∷ trace (K 0 0 ∷ Y 0 0 ∷ F 0 0 0 ∷ []) (bad 29 3)
    ∷ trace (K 0 0 ∷ Y 0 0 ∷ K 1 1 ∷ Y 1 1 ∷ F 0 0 1 ∷ []) (bad 29 5)
    -- 30: an F for a thread that does not wait, waits on another lock, or is notified; a C by one that does not wait, is not notified, or waits on
    -- another lock
    ∷ trace (F 0 0 1 ∷ []) (bad 30 1)
    ∷ trace (K 0 0 ∷ Y 0 0 ∷ K 1 1 ∷ F 1 1 0 ∷ []) (bad 30 4)
    ∷ trace (K 0 0 ∷ Y 0 0 ∷ K 1 0 ∷ F 1 0 0 ∷ F 1 0 0 ∷ []) (bad 30 5)
    ∷ trace (C 0 0 ∷ []) (bad 30 1)
    ∷ trace (K 0 0 ∷ Y 0 0 ∷ C 0 0 ∷ []) (bad 30 3)
    ∷ trace (K 0 0 ∷ Y 0 0 ∷ K 1 0 ∷ F 1 0 0 ∷ N 1 0 ∷ C 0 1 ∷ []) (bad 30 6)
    -- a second wait asks for a notification of its own
    ∷ trace (K 0 0 ∷ Y 0 0 ∷ K 1 0 ∷ F 1 0 0 ∷ N 1 0 ∷ C 0 0 ∷ Y 0 0 ∷ C 0 0 ∷ []) (bad 30 8)
    -- the thread that F notifies is not declared
    ∷ trace (K 0 0 ∷ F 0 0 2 ∷ []) (bad 5 2)
    ∷ []

-- ---- the 1-2-3 run of document 000, section 2.3
-- Thread 0 is its first thread, variable 0 is x, variable 1 is y, lock 0 is o. The locals a, b and c make no events: thread 0
-- uses 1, 2 and 3.

-- Two threads, two variables, one lock.
abbrev pub one_two_three_counts : Counts
one_two_three_counts = record { threads = 2; variables = 2; locks = 1; volatiles = no_volatiles }

unfoldable pub one_two_three : List Event
one_two_three =
    K 0 0
    ∷ A 0 1 2
    ∷ S 0 1 2
    ∷ W 0 1 2
    ∷ N 0 0
    ∷ K 1 0
    ∷ A 1 1 3
    ∷ S 1 1 3
    ∷ W 1 1 3
    -- the 3 that is used last is read here, before 100 is written
    ∷ R 0 1 3
    ∷ A 1 1 100
    ∷ S 1 1 100
    ∷ W 1 1 100
    ∷ N 1 0
    ∷ A 1 0 1
    ∷ S 1 0 1
    ∷ W 1 0 1
    ∷ R 0 0 1
    ∷ L 0 0 1
    ∷ U 0 0 1
    -- the assign of the first section; no load comes before it
    ∷ U 0 1 2
    ∷ L 0 1 3
    ∷ U 0 1 3
    ∷ []
