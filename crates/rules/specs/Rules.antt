-- Document 01, the refusals 5 and 9 to 19, and document 02, 16 at N, 23, 25 in place of 9, and 26 to 30; the table of rows, and the verdict over a list of events.
-- The rules speak of the words; `words_of` takes the words from a list of earlier events. A caller's state is read by the same rules, with its own
-- contents for the words.
use Rattle.std.specs.Prelude.{ℕ, zero, suc, ◌<◌, ◌≡◌, Bool, true, false, not, cond, ◌&&◌, ◌||◌, List, [], ◌∷◌, ◌++◌, reverse, T, eqb, ltb, leb, ℤ, length, Result, Ok, Err}
use Rattle.std.proofs.Math.Option.{Option, none, some as some'}
use Rattle.rules.specs.declared.Event.{Event}
use Rattle.rules.specs.declared.Slot.{Slot}
use Rattle.rules.specs.declared.Counts.{Counts}
use Rattle.rules.specs.declared.Refusal.{Refusal}
use Rattle.rules.specs.Events.{A, B, C, F, K, L, N, P, R, S, U, W, Y, letter, place, value, is, subject, locks, unlocks, eq_z}
use Rattle.rules.specs.Limits.{Limits, most, volatile, line_after, declared}
unfoldable pub use Rattle.rules.specs.Limits.{some}
use Rattle.rules.specs.Words.{first, accesses}
use Rattle.rules.specs.Words as Earlier

-- the words that the rules use, for each thread and variable (or lock); and the last lock, by which a copy is usable after a load
pub record Words : Type 0 where
  pub events : ℕ
  pub copy : ℕ → ℕ → ℤ
  pub fresh : ℕ → ℕ → Bool
  pub pending : ℕ → ℕ → Bool
  pub announced : ℕ → ℕ → ℤ
  pub usable : ℕ → ℕ → Bool
  pub reads : ℕ → ℕ → List Slot
  pub stores : ℕ → ℕ → List Slot
  pub last_write : ℕ → ℕ → ℕ
  pub last_lock : ℕ → ℕ
  pub depth : ℕ → ℕ → ℕ
  pub remembered : ℕ → ℕ → ℕ
  pub notified : ℕ → ℕ → Bool
  pub main : ℕ → ℤ
  pub after_load : ℕ → ℕ → Bool
  pub after_assign : ℕ → ℕ → Bool
  pub loaded_read : ℕ → ℕ → ℕ
  pub used_read : ℕ → ℕ → ℕ
  pub last_assign : ℕ → ℕ → ℕ

-- the words of a list of earlier events, of which f gives the outstanding stores
abbrev pub words_by : (ℕ → ℕ → List Event → List Slot) → List Event → Words
words_by f es = record {
  events = length es;
  copy = λ t v. Earlier.copy t v es;
  fresh = λ t v. Earlier.fresh t v es;
  pending = λ t v. Earlier.pending t v es;
  announced = λ t v. Earlier.announced t v es;
  usable = λ t v. Earlier.usable t v es;
  reads = λ t v. Earlier.reads t v es;
  stores = λ t v. f t v es;
  last_write = λ t v. Earlier.last_write t v es;
  last_lock = λ t. Earlier.last_lock t es;
  depth = λ t l. Earlier.depth t l es;
  remembered = λ t l. Earlier.remembered t l es;
  notified = λ t l. Earlier.notified t l es;
  main = λ v. Earlier.main v es;
  after_load = λ t v. Earlier.after_load t v es;
  after_assign = λ t v. Earlier.after_assign t v es;
  loaded_read = λ t v. Earlier.loaded_read t v es;
  used_read = λ t v. Earlier.used_read t v es;
  last_assign = λ t v. Earlier.last_assign t v es;
}

unfoldable pub words_of : List Event → Words
words_of es = words_by Earlier.stores es

abbrev pub none? : List Slot → Bool
none? [] = true
none? (s ∷ ss) = false

-- ---- the refusals 10 to 19 and 23, of event e after the words w. e's thread is T, `loc e` its variable V or its lock

abbrev pub loc : Event → ℕ
loc e = place e.kind

-- T has it on some variable: a declared one
abbrev pub on_some : Counts → (ℕ → ℕ → Bool) → Event → Bool
on_some h f e = some h.variables (λ v. f e.thread v)

-- Held by T: more K than N by T on that lock, a Y as an unlock of each hold given up and a C as a lock of each taken again.
abbrev pub held : Words → ℕ → ℕ → Bool
held w t l = ltb 0 (w.depth t l)

-- A thread waits from its Y to its C: on this lock,
abbrev pub waits_on : Words → ℕ → ℕ → Bool
waits_on w t l = ltb 0 (w.remembered t l)

-- on some lock: a declared one
unfoldable pub waits : Counts → Words → ℕ → Bool
waits h w t = some h.locks (λ l. waits_on w t l)

-- 10. No partner: L without an outstanding read, W without an outstanding store, B when nothing is owed.
unfoldable pub no_partner : Words → Event → Bool
no_partner w e =
    is (L ∷ []) e && none? (w.reads e.thread (loc e))
    || is (W ∷ []) e && none? (w.stores e.thread (loc e))
    || is (B ∷ []) e && not (w.pending e.thread (loc e))

-- 11. Lock held by another thread. "C is checked as K is".
unfoldable pub lock_taken : Counts → Words → Event → Bool
lock_taken h w e = locks e && some h.threads (λ t. not (eqb t e.thread) && held w t (loc e))

-- 12. Unlock of a lock that T does not hold. "Y is checked as N is", "F needs the lock held, else 12".
unfoldable pub not_held : Words → Event → Bool
not_held w e = is (N ∷ Y ∷ F ∷ []) e && not (held w e.thread (loc e))

-- 13. An owed assign bars it: K while T owes on some variable; L, S, P on V while T owes on V.
unfoldable pub pending_bars : Counts → Words → Event → Bool
pending_bars h w e =
    locks e && on_some h w.pending e
    || is (L ∷ S ∷ P ∷ []) e && w.pending e.thread (loc e)

-- 14. Store without a fresh assign.
unfoldable pub not_fresh : Words → Event → Bool
not_fresh w e = is (S ∷ []) e && not (w.fresh e.thread (loc e))

-- 15. Fresh assign not stored: L on V; N while T has a fresh assign on some variable.
unfoldable pub not_stored : Counts → Words → Event → Bool
not_stored h w e =
    is (L ∷ []) e && w.fresh e.thread (loc e)
    || unlocks e && on_some h w.fresh e

-- L's read, the oldest outstanding one, came before a write of T on V
unfoldable pub read_before_write : Words → ℕ → ℕ → Bool
read_before_write w t v = ltb (first (w.reads t v)).position (w.last_write t v)

-- N's test: T has an outstanding store on V. "A store whose assign is owed counts no longer": with V owed the latest is left aside
-- (`unwritten_exact` in proofs/PrescientStores.antt).
unfoldable pub unwritten : Words → ℕ → ℕ → Bool
unwritten w t v = ltb (cond (w.pending t v) 1 0) (length (w.stores t v))

-- 16. Store not written: L with an outstanding store of T on V, or whose read came before a write of T on V; N while T has an outstanding store
-- whose assign is not owed.
unfoldable pub not_written : Counts → Words → Event → Bool
not_written h w e =
    is (L ∷ []) e && (not (none? (w.stores e.thread (loc e))) || read_before_write w e.thread (loc e))
    || unlocks e && on_some h (unwritten w) e

-- 17. Copy not usable.
unfoldable pub not_usable : Words → Event → Bool
not_usable w e = is (U ∷ S ∷ []) e && not (w.usable e.thread (loc e))

-- 18. Value differs: U and S from the copy, L from its read, W from its store, R from main memory, B from the announced value.
unfoldable pub differs : Words → Event → Bool
differs w e =
    is (U ∷ S ∷ []) e && not (eq_z (value e.kind) (w.copy e.thread (loc e)))
    || is (L ∷ []) e && not (eq_z (value e.kind) (first (w.reads e.thread (loc e))).value)
    || is (W ∷ []) e && not (eq_z (value e.kind) (first (w.stores e.thread (loc e))).value)
    || is (R ∷ []) e && not (eq_z (value e.kind) (w.main (loc e)))
    || is (B ∷ []) e && not (eq_z (value e.kind) (w.announced e.thread (loc e)))

-- 19. Eight outstanding already: R, or S and P.
unfoldable pub eight_already : Words → Event → Bool
eight_already w e =
    is (R ∷ []) e && leb most (length (w.reads e.thread (loc e)))
    || is (S ∷ P ∷ []) e && leb most (length (w.stores e.thread (loc e)))

-- 23. Dead read: an R while T has an outstanding store on V, or a fresh assign with V not owed; an A with V not owed, or a P, while T has an
-- outstanding read of V.
unfoldable pub dead_read : Words → Event → Bool
dead_read w e =
    is (R ∷ []) e && (not (none? (w.stores e.thread (loc e))) || w.fresh e.thread (loc e) && not (w.pending e.thread (loc e)))
    || is (A ∷ []) e && (not (w.pending e.thread (loc e)) && not (none? (w.reads e.thread (loc e))))
    || is (P ∷ []) e && not (none? (w.reads e.thread (loc e)))

-- ---- the refusals 26 to 28: chapter 17's volatile rules

-- one is true and the other false
abbrev pub differ : Bool → Bool → Bool
differ true b = not b
differ false b = b

-- 26. Wrong neighbour: on a volatile variable, U must directly follow L and S directly follow A among that thread's own events on it, R and W left
-- aside, and after L or A nothing else may come.
unfoldable pub wrong_neighbour : Counts → Words → Event → Bool
wrong_neighbour h w e =
    is accesses e
    && (volatile h (loc e) && (differ (is (U ∷ []) e) (w.after_load e.thread (loc e)) || differ (is (S ∷ []) e) (w.after_assign e.thread (loc e))))

-- V stands in the way of T's use whose read is at r: an assign of V is not written, or its write or the read of a use is not before r. (0 stands for none,
-- and is before every read that events reach.)
unfoldable pub bars_use : Words → ℕ → ℕ → ℕ → Bool
bars_use w t r v = w.fresh t v || not (none? (w.stores t v)) || not (ltb (w.last_write t v) r) || not (ltb (w.used_read t v) r)

-- V stands in the way of T's write whose assign is at a: an assign of V before it is not written. (Of those that are stored the oldest outstanding one is
-- the first.)
unfoldable pub bars_write : Words → ℕ → ℕ → ℕ → Bool
bars_write w t a v = not (none? (w.stores t v)) && ltb (first (w.stores t v)).position a || w.fresh t v && ltb (w.last_assign t v) a

-- a volatile variable, a declared one, stands in the way
abbrev pub on_volatile : Counts → (ℕ → Bool) → Bool
on_volatile h f = some h.variables (λ v. volatile h v && f v)

-- At U, its read must follow the writes of all the thread's earlier volatile assigns and the reads of its earlier volatile uses.
unfoldable pub use_barred : Counts → Words → Event → Bool
use_barred h w e = is (U ∷ []) e && (volatile h (loc e) && on_volatile h (bars_use w e.thread (w.loaded_read e.thread (loc e))))

-- At W on a volatile variable with a store outstanding, no volatile assign of the thread before the one being written may be unwritten.
unfoldable pub write_barred : Counts → Words → Event → Bool
write_barred h w e =
    is (W ∷ []) e
    && (volatile h (loc e) && (not (none? (w.stores e.thread (loc e))) && on_volatile h (bars_write w e.thread (first (w.stores e.thread (loc e))).position)))

-- 27. Volatile order.
unfoldable pub volatile_order : Counts → Words → Event → Bool
volatile_order h w e = use_barred h w e || write_barred h w e

-- 28. Early store or its assign on a volatile.
unfoldable pub prescient_volatile : Counts → Event → Bool
prescient_volatile h e = is (P ∷ B ∷ []) e && volatile h (loc e)

-- ---- the refusals 29 and 30: waiting and notification

-- 29. Event other than C, R or W of a waiting thread.
unfoldable pub of_waiting : Counts → Words → Event → Bool
of_waiting h w e = not (is (C ∷ R ∷ W ∷ []) e) && waits h w e.thread

-- 30. F for a thread not waiting on that lock or already notified, C by one not notified on it. (The thread that an F is for, and C's own, is its
-- subject. Who is notified waits: `notified_waits` in proofs/Held.antt.)
unfoldable pub not_notified : Words → Event → Bool
not_notified w e =
    is (F ∷ []) e && (not (waits_on w (subject e) (loc e)) || w.notified (subject e) (loc e))
    || is (C ∷ []) e && not (waits_on w (subject e) (loc e) && w.notified (subject e) (loc e))

-- e breaks the rule with this number
unfoldable pub breaks : ℕ → Counts → Words → Event → Bool
breaks n h w e =
    cond (eqb n 10) (no_partner w e)
    (cond (eqb n 11) (lock_taken h w e)
    (cond (eqb n 12) (not_held w e)
    (cond (eqb n 13) (pending_bars h w e)
    (cond (eqb n 14) (not_fresh w e)
    (cond (eqb n 15) (not_stored h w e)
    (cond (eqb n 16) (not_written h w e)
    (cond (eqb n 17) (not_usable w e)
    (cond (eqb n 18) (differs w e)
    (cond (eqb n 19) (eight_already w e)
    (cond (eqb n 23) (dead_read w e)
    (cond (eqb n 26) (wrong_neighbour h w e)
    (cond (eqb n 27) (volatile_order h w e)
    (cond (eqb n 28) (prescient_volatile h e)
    (cond (eqb n 29) (of_waiting h w e)
    (cond (eqb n 30) (not_notified w e) false)))))))))))))))

-- ---- the rows

pub record Row : Type 0 where
  pub kind : ℕ
  pub checks : List ℕ

-- What is checked hangs on the kind, and the ten rows of this table are fixed. Document 02: 23, dead read, after 19 in the rows of R, A and P; Y is checked
-- as N is, F needs the lock held, C is checked as K is. These numbers lead each row.
abbrev pub rows_behind : List ℕ → List Row
rows_behind lead =
    row U (17 ∷ 18 ∷ [])
    ∷ row A (23 ∷ [])
    ∷ row L (10 ∷ 13 ∷ 15 ∷ 16 ∷ 18 ∷ [])
    ∷ row S (13 ∷ 14 ∷ 17 ∷ 18 ∷ 19 ∷ [])
    ∷ row R (18 ∷ 19 ∷ 23 ∷ [])
    ∷ row W (10 ∷ 18 ∷ [])
    ∷ row K (11 ∷ 13 ∷ [])
    ∷ row N (12 ∷ 15 ∷ 16 ∷ [])
    ∷ row P (13 ∷ 19 ∷ 23 ∷ [])
    ∷ row B (10 ∷ 18 ∷ [])
    ∷ row Y (12 ∷ 15 ∷ 16 ∷ [])
    ∷ row F (12 ∷ [])
    ∷ row C (11 ∷ 13 ∷ [])
    ∷ []
  where
    row : ℕ → List ℕ → Row
    row k ns = record { kind = k; checks = lead ++ ns }

-- 26, 27 and 28 lead each row, in that order; 29 and 30 are both ahead of 26.
unfoldable pub rows : List Row
rows = rows_behind (29 ∷ 30 ∷ 26 ∷ 27 ∷ 28 ∷ [])

-- the checks of the row of this letter
unfoldable pub row_in : List Row → ℕ → List ℕ
row_in [] k = []
row_in (r ∷ rs) k = cond (eqb r.kind k) r.checks (row_in rs k)

-- the first of these rules that e breaks; 0 where it breaks none
unfoldable pub first_broken : List ℕ → Counts → Words → Event → ℕ
first_broken [] h w e = 0
first_broken (n ∷ ns) h w e = cond (breaks n h w e) n (first_broken ns h w e)

-- the first rule of its row that e breaks; 0 where it breaks none
unfoldable pub judge : Counts → Words → Event → ℕ
judge h w e = first_broken (row_in rows (letter e.kind)) h w e

-- 9 (25 in the short course), 5, then n
abbrev pub answer_with : Limits → Counts → Words → Event → ℕ → ℕ
answer_with m h w e n = cond (leb m.events w.events) m.excess (cond (declared h e) n 5)

-- 9 (25), 5, then the row; 0: accepted. (4 comes before these, where a line is no event.)
unfoldable pub answer : Limits → Counts → Words → Event → ℕ
answer m h w e = answer_with m h w e (judge h w e)

-- ---- over a list of events

-- the refusal of e after these earlier events, the latest first; 0: accepted
unfoldable pub verdict : Limits → Counts → List Event → Event → ℕ
verdict m h es e = answer m h (words_of es) e

-- no event of the list, the latest first, is refused after those before it
unfoldable pub Accepted : Limits → Counts → List Event → Bool
Accepted m h [] = true
Accepted m h (e ∷ es) = eqb (verdict m h es e) 0 && Accepted m h es

-- each event is declared, and the judgement j finds nothing broken after those before it
unfoldable pub legal_by : (Counts → Words → Event → ℕ) → Counts → List Event → Bool
legal_by j h [] = true
legal_by j h (e ∷ es) = declared h e && (eqb (j h (words_of es) e) 0 && legal_by j h es)

-- Each event is declared and breaks no rule of its row after those before it: acceptance with the limit of events set aside.
abbrev pub legal : Counts → List Event → Bool
legal h es = legal_by judge h es

-- a whole trace, its events in their own order: accepted, or the refusal of the first bad event: number and line
pub data Marked : Type 0 where
  accepted : Marked
  refused : ℕ → ℕ → Marked

-- a verdict, as the code has it
abbrev pub Verdict : Type 0
Verdict = Result (Unit {0}) Refusal

-- the number and the line of a refusal; accepted where there is none
abbrev pub told : {A : Type 0} → Result A Refusal → Marked
told (Ok a) = accepted
told (Err r) = refused r.number r.line

-- what is found where nothing is refused. A refusal gives number and line and nothing else.
abbrev pub answered : {A : Type 0} → Marked → A → Result A Refusal
answered accepted a = Ok a
answered (refused number line) a = Err (record { number = number; line = line })

-- the verdict that says this
abbrev pub said : Marked → Verdict
said m = answered m tt

-- 0 stands for no refusal
abbrev pub number_in : Marked → ℕ
number_in accepted = 0
number_in (refused number line) = number

abbrev pub line_in : Marked → ℕ
line_in accepted = 0
line_in (refused number line) = line

-- a where a trace is accepted, b where it is refused
abbrev pub on_marked : {X : Type 0} → Marked → X → X → X
on_marked accepted a b = a
on_marked (refused number line) a b = b

-- the first of two refusals: what is said later counts where nothing is refused before
abbrev pub refused_or : Marked → Marked → Marked
refused_or accepted later = later
refused_or (refused number line) later = refused number line

-- refused with this number, unless it is 0
abbrev pub unless : ℕ → ℕ → Marked → Marked
unless zero line m = m
unless (suc n) line m = refused (suc n) line

-- the events es are earlier, the latest first
unfoldable pub mark_from : Limits → Counts → List Event → List Event → Marked
mark_from m h es [] = accepted
mark_from m h es (e ∷ rest) = let later = mark_from m h (e ∷ es) rest in unless (verdict m h es e) (line_after h (length es)) later

unfoldable pub mark : Limits → Counts → List Event → Marked
mark m h events = mark_from m h [] events

-- Line by line 4, then the refusal f of an event after those before it. Each line is an event or none, and the events es are earlier, the latest
-- first.
abbrev pub mark_by : (List Event → Event → ℕ) → Counts → List Event → List (Option Event) → Marked
mark_by f h es [] = accepted
mark_by f h es (none ∷ rest) = refused 4 (line_after h (length es))
mark_by f h es (some' e ∷ rest) = unless (f es e) (line_after h (length es)) (mark_by f h (e ∷ es) rest)

-- line by line 4, 9 (25), 5 and the row
unfoldable pub mark_read : Limits → Counts → List Event → List (Option Event) → Marked
mark_read m h es rs = mark_by (verdict m h) h es rs

-- on where the number is 0
abbrev pub passing : {X : Type 0} → ℕ → X → X → X
passing zero stop on = on
passing (suc n) stop on = stop

-- the events before the first refusal, the latest first
abbrev pub past_by : (List Event → Event → ℕ) → List Event → List (Option Event) → List Event
past_by f es [] = es
past_by f es (none ∷ rest) = es
past_by f es (some' e ∷ rest) = passing (f es e) es (past_by f (e ∷ es) rest)

unfoldable pub past_read : Limits → Counts → List Event → List (Option Event) → List Event
past_read m h es rs = past_by (verdict m h) es rs

-- the first bad event of a trace: it comes behind accepted events and is refused with this number and line
pub record FirstBad (m : Limits) (c : Counts) (events : List Event) (number line : ℕ) : Type 0 where
  pub before : List Event
  pub event : Event
  pub rest : List Event
  pub place : events ≡ before ++ (event ∷ rest)
  pub clean : T (Accepted m c (reverse before))
  pub number_is : verdict m c (reverse before) event ≡ number
  pub wrong : 0 < number
  pub line_is : line ≡ line_after c (length before)
