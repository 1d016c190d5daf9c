-- A trace that no refusal of 10 to 23 meets has a serial order.
use Prim.Native.Nat.{ℕ, zero, suc, ◌≤◌, ◌<◌}
use native.Mathlib.Decide.{ℕ_discrete, dec_lt}
use native.Mathlib.Omega.{arith}
use mathlib.Core.Path.{◌≡◌, refl, sym, ◌∙◌, subst}
use mathlib.Core.Logic.{◌⊎◌, inl, inr, ite}
use mathlib.Core.Bool.{Bool, true, false, not, cond, ◌&&◌, ◌||◌, or-true, true≢false, false≢true}
use mathlib.Core.List.{List, [], ◌∷◌, map, reverse, reverse_aux}
use mathlib.Core.Option.{some}
use lib.Dec.{T, eqb}
use lib.IntN.{ℤ, pos}
use lib.ListN.{length}
use Rattle.rules.specs.declared.Event.{Event}
use Rattle.rules.specs.declared.Kind.{Kind}
use Rattle.rules.specs.Events.{B, P, is, of, on, lock_letters, on_lock}
use Rattle.rules.specs.declared.Counts.{Counts}
use Rattle.rules.specs.Words.{by, pending, main, latest, letter_in}
use Rattle.rules.specs.Rules as Rules
use Rattle.rules.specs.Rules.{words_of, held, waits}
use Rattle.rules.specs.Limits.{line_after}
use Rattle.rules.proofs.Laws.{is_true, and_left, and_right, or_false_left, or_false_right, is_apart, some_has, some_none}
use Rattle.rules.proofs.Cells.{event_by}
use Rattle.serial.specs.Words as C
use Rattle.serial.specs.Events as E
use Rattle.serial.specs.Sections as Q
use Rattle.serial.proofs.Counted as H
use Rattle.serial.specs.Entry.{Entry as Span, entry as span}
use Rattle.serial.specs.Lists.{All}
use Rattle.serial.proofs.Serial.{Ended}
use Rattle.serial.proofs.Trace as Trace
use Rattle.sections.specs.View.{view}
use Rattle.sections.specs.Places.{uses_or_assigns, unlocks_by, holds_some}
use Rattle.sections.specs.Denials.{Denial, fit, denied}
use Rattle.sections.specs.Refusals.{after_unlock, not_under, late_lock, unfinished, denial_from, denial}
use Rattle.sections.specs.Order.{told, sections}
use Rattle.sections.proofs.Valid.{Valid, Declared, variable_low}
use Rattle.sections.proofs.Viewed.{Viewed, mem, lock, unlock, idle, on_variable, memory, facts, seen, whose, locking, unlocking}
use Rattle.sections.proofs.Cells.{cell_of, cells, mains, length_view, eqb_yes, eqb_no}
use Rattle.sections.proofs.Whole.{accepted, exclusive, to_held, from_held, holds_known, holds_below}

-- no event of the list breaks 20 or 21
unfoldable pub orderly : Counts → (ℕ → ℕ) → List Event → Bool
orderly h guard [] = true
orderly h guard (e ∷ es) = not (not_under guard es e) && (not (late_lock h es e) && orderly h guard es)

pub all_imp : {A : Type 0} (P R : A → Type 0) (l : List A) → ((a : A) → P a → R a) → All P l → All R l
all_imp P R [] f h = tt
all_imp P R (a ∷ l) f h = (f a h.0, all_imp P R l f h.1)

-- a lock that is held is declared
pub lock_below : (h : Counts) (t l : ℕ) (es : List Event) → All (Declared h) es → H.Holds t l (map view es) → l < h.locks
lock_below h t l es d b = (holds_known h t l es d b).1

pub busy_some : (h : Counts) (t l : ℕ) (es : List Event) → All (Declared h) es → H.Holds t l (map view es) → holds_some h t es ≡ true
unfolding holds_some
busy_some h t l es d b = some_has h.locks (λ l. held (words_of es) t l) l (lock_below h t l es d b) (to_held t l es b)

-- ---- 21

shrunk : (h : Counts) (t : ℕ) (es : List Event) → All (Declared h) es → Q.Shrunk H.counted t (map view es) → after_unlock h t es ≡ true
unfolding Q.Shrunk after_unlock unlocks_by of
shrunk h t [] d s = absurd s
shrunk h t (e ∷ es) d s = both (holds_some h t (e ∷ es)) (unlocks_by t e || after_unlock h t es) (busy_some h t s.0.0 (e ∷ es) d s.0.1) (go s.1 (shrunk h t es d.1))
  where
    both : (a b : Bool) → a ≡ true → b ≡ true → (a && b) ≡ true
    both a b p q = rw (p, q)

    go : ((l j : ℕ) × (view e ≡ E.unlock j t l)) ⊎ Q.Shrunk H.counted t (map view es) → (Q.Shrunk H.counted t (map view es) → after_unlock h t es ≡ true) → (unlocks_by t e || after_unlock h t es) ≡ true
    go (inl p) r = let q = unlocking e t p.0 p.1 p.2 in rw (q.0, eqb_yes e.thread t q.1)
    go (inr q) r = rw (r q) (or-true (unlocks_by t e))

not_true : (b : Bool) → T (not b) → b ≡ true → ⊥
not_true true h p = h
not_true false h p = false≢true p

pub two_phase_law : (h : Counts) (guard : ℕ → ℕ) (es : List Event) → All (Declared h) es → T (orderly h guard es) → Q.TwoPhase H.counted (map view es)
unfolding Q.TwoPhase orderly late_lock
two_phase_law h guard [] d o = tt
two_phase_law h guard (e ∷ es) d o = (here, two_phase_law h guard es d.1 (and_right (not (late_lock h es e)) (orderly h guard es) rest))
  where
    rest : T (not (late_lock h es e) && orderly h guard es)
    rest = and_right (not (not_under guard es e)) (not (late_lock h es e) && orderly h guard es) o

    here : (t l j : ℕ) → view e ≡ E.lock j t l → Q.Shrunk H.counted t (map view es) → ⊥
    here t l j p s =
        let q = locking e t l j p in
        not_true (late_lock h es e) (and_left (not (late_lock h es e)) (orderly h guard es) rest) (rw (q.0, q.1) (shrunk h t es d.1 s))

-- ---- 20

untrue : (b : Bool) → not b ≡ false → b ≡ true
untrue true p = refl
untrue false p = absurd (true≢false p)

false_of : (b : Bool) → T (not b) → b ≡ false
false_of true h = absurd h
false_of false h = refl

under_one : (guard : ℕ → ℕ) (v : ℕ) (es : List Event) (u ln : ℕ) {k : Kind} {x : E.Event ℤ} → Viewed u k x → not_under guard es (event_by u ln k) ≡ false → C.uses v x ≡ true → H.Holds u (guard v) (map view es)
unfolding not_under uses_or_assigns is
under_one guard v es u ln (mem κ w y) n p = see (ℕ_discrete w v) p
  where
    see : (d : Dec (w ≡ v)) → C.guarded_at (ite {C = C.Touch ℤ} d (C.at κ y) C.elsewhere) ≡ true → H.Holds u (guard v) (map view es)
    see (yes q) p = subst (λ i. H.Holds u (guard i) (map view es)) q (from_held u (guard w) es (untrue _ (rw (sym (facts κ w y).guarded ∙ p, (facts κ w y).places) at n)))
    see (no q) p = absurd (false≢true p)
under_one guard v es u ln (lock j a i) n p = absurd (false≢true p)
under_one guard v es u ln (unlock j a i) n p = absurd (false≢true p)
under_one guard v es u ln (idle a) n p = absurd (false≢true p)

pub under : (h : Counts) (guard : ℕ → ℕ) (v : ℕ) (es : List Event) → T (orderly h guard es) → Q.Under H.counted (C.uses v) (guard v) (map view es)
unfolding Q.Under orderly
under h guard v [] o = tt
under h guard v (e ∷ es) o = (
  here (under_one guard v es e.thread e.line (seen e.thread e.kind) (false_of (not_under guard es e) (and_left (not (not_under guard es e)) (not (late_lock h es e) && orderly h guard es) o))),
  under h guard v es (and_right (not (late_lock h es e)) (orderly h guard es) (and_right (not (not_under guard es e)) (not (late_lock h es e) && orderly h guard es) o)),
)
  where
    here : (C.uses v (view e) ≡ true → H.Holds e.thread (guard v) (map view es)) → C.uses v (view e) ≡ true → H.Holds (E.thread (view e)) (guard v) (map view es)
    here f p = subst (λ i. H.Holds i (guard v) (map view es)) (sym (whose e.kind e.thread)) (f p)

-- ---- 22

-- a thread that is not declared owes nothing
pub no_debt : (h : Counts) (t v : ℕ) (es : List Event) → All (Declared h) es → h.threads ≤ t → pending t v es ≡ false
unfolding pending latest letter_in by of
no_debt h t v [] d b = refl
no_debt h t v (e ∷ es) d b = step (eqb_no e.thread t (λ p. absurd (omega (arith, d.0.0)))) (no_debt h t v es d.1 b)
  where
    none_of : (a : Bool) (b : Bool) → b ≡ false → (a && (b && on v e)) ≡ false
    none_of true b p = rw p
    none_of false b p = refl

    step : eqb e.thread t ≡ false → letter_in (P ∷ []) (latest (by (P ∷ B ∷ []) t v) es) ≡ false → letter_in (P ∷ []) (cond (is (P ∷ B ∷ []) e && (eqb e.thread t && on v e)) (some e) (latest (by (P ∷ B ∷ []) t v) es)) ≡ false
    step p r = rw (none_of (is (P ∷ B ∷ []) e) (eqb e.thread t) p) r

-- t holds nothing, owes nothing on a declared variable, and waits on no declared lock
pub settled : (h : Counts) (es : List Event) → unfinished h es ≡ false → (t : ℕ) → t < h.threads
    → (holds_some h t es ≡ false) × (Rules.some h.variables (λ v. pending t v es) ≡ false) × (waits h (words_of es) t ≡ false)
unfolding unfinished
settled h es f t b = (or_false_left (holds_some h t es) (owes || waits h (words_of es) t) q, or_false_left owes (waits h (words_of es) t) r, or_false_right owes (waits h (words_of es) t) r)
  where
    owes : Bool
    owes = Rules.some h.variables (λ v. pending t v es)

    q : (holds_some h t es || (Rules.some h.variables (λ v. pending t v es) || waits h (words_of es) t)) ≡ false
    q = some_none h.threads (λ t. holds_some h t es || (Rules.some h.variables (λ v. pending t v es) || waits h (words_of es) t)) f t b

    r : (Rules.some h.variables (λ v. pending t v es) || waits h (words_of es) t) ≡ false
    r = or_false_right (holds_some h t es) (Rules.some h.variables (λ v. pending t v es) || waits h (words_of es) t) q

-- no lock is held
pub unheld : (h : Counts) (es : List Event) → All (Declared h) es → unfinished h es ≡ false → (t l : ℕ) → H.Holds t l (map view es) → ⊥
unheld h es d f t l b = true≢false (sym (busy_some h t l es d b) ∙ (settled h es f t (holds_below h t l es d b)).0)

pub ended : (h : Counts) (guard : ℕ → ℕ) (v : ℕ) (es : List Event) → v < h.variables → Valid h es → All (Declared h) es → unfinished h es ≡ false → Ended (pos 0) H.counted (guard v) v (map view es)
unfolding words_of cell_of
ended h guard v es hv a d f = record { unheld = λ t b. unheld h es d f t (guard v) b; paid = paid }
  where
    owes : (t : ℕ) → Dec (t < h.threads) → pending t v es ≡ false
    owes t (yes b) = some_none h.variables (λ v. pending t v es) (settled h es f t b).1 v hv
    owes t (no b) = no_debt h t v es d (omega arith)

    paid : (t : ℕ) → (C.cell (pos 0) t v (map view es)).pending ≡ false
    paid t = rw (cells h t v es a) (owes t (dec_lt t h.threads))

-- ---- the whole

pub turn_map : (l m : List Event) → reverse_aux (map view l) (map view m) ≡ map view (reverse_aux l m)
turn_map [] m = refl
turn_map (e ∷ l) m = turn_map l (e ∷ m)

pub all_turn : {A : Type 0} (P : A → Type 0) (l m : List A) → All P l → All P m → All P (reverse_aux l m)
all_turn P [] m h k = k
all_turn P (a ∷ l) m h k = all_turn P l (a ∷ m) h.1 (h.0, k)

names : (h : Counts) (es : List Event) → All (Declared h) es → All (Trace.Names h.variables) (map view es)
unfolding on_lock
names h [] d = tt
names h (e ∷ es) d = (one (seen e.thread e.kind) d.0, names h es d.1)
  where
    one : {k : Kind} {x : E.Event ℤ} → Viewed e.thread k x → Declared h (event_by e.thread e.line k) → Trace.Names h.variables x
    one (mem κ v y) m = let e = event_by e.thread e.line (on_variable κ v y) in rw (facts κ v y).places at (variable_low h e m (is_apart memory lock_letters e tt (unfold is in (facts κ v y).has)))
    one (lock j a i) m = tt
    one (unlock j a i) m = tt
    one (idle a) m = tt

-- ---- the order, by the rules' test of what a thread holds and by the theory's

agree : {A B : Type 0} (e : E.Event ℤ) (a : Dec A) (b : Dec B) (n : ℕ) (ss : List (Q.Section ℤ)) → (A → B) → (B → A) → Q.next e a n ss ≡ Q.next e b n ss
unfolding Q.next
agree e (yes a) (yes b) n ss f g = same e
  where
    same : (e : E.Event ℤ) → Q.next e (yes a) n ss ≡ Q.next e (yes b) n ss
    same (E.lock j t l) = refl
    same (E.unlock j t l) = refl
    same (E.idle t) = refl
    same (E.mem k t v x) = refl
agree e (yes a) (no b) n ss f g = absurd (b (f a))
agree e (no a) (yes b) n ss f g = absurd (a (g b))
agree e (no a) (no b) n ss f g = same e
  where
    same : (e : E.Event ℤ) → Q.next e (no a) n ss ≡ Q.next e (no b) n ss
    same (E.lock j t l) = refl
    same (E.unlock j t l) = refl
    same (E.idle t) = refl
    same (E.mem k t v x) = refl

pub some_witness : (n : ℕ) (f : ℕ → Bool) → T (Rules.some n f) → (i : ℕ) × T (f i)
unfolding Rules.some
some_witness zero f t = absurd t
some_witness (suc n) f t = go (f n) refl t (some_witness n f)
  where
    go : (b : Bool) → f n ≡ b → T (b || Rules.some n f) → (T (Rules.some n f) → (i : ℕ) × T (f i)) → (i : ℕ) × T (f i)
    go true p t r = (n, subst T (sym p) tt)
    go false p t r = r t

pub some_busy : (h : Counts) (t : ℕ) (es : List Event) → T (holds_some h t es) → (l : ℕ) × H.Holds t l (map view es)
unfolding holds_some
some_busy h t es b =
    let i : (l : ℕ) × T (held (words_of es) t l) = some_witness h.locks (λ l. held (words_of es) t l) b in
    (i.0, from_held t i.0 es (is_true i.1))

pub sections_same : (h : Counts) (es : List Event) → All (Declared h) es → sections h es ≡ Q.sections H.counted (map view es)
unfolding sections Q.sections
sections_same h [] d = refl
sections_same h (e ∷ es) d =
    rw (sections_same h es d.1, length_view es, whose e.kind e.thread)
    (agree (view e) (told (holds_some h e.thread es)) ((H.counted).busy? e.thread (map view es)) (suc (length es)) (Q.sections H.counted (map view es))
    (some_busy h e.thread es) (λ b. subst T (sym (busy_some h e.thread b.0 es d.1 b.1)) tt))

-- the sections of the theory, by positions, in the order of their last K
abbrev pub spans : Counts → List Event → List Span
spans h events = map span (reverse (sections h (reverse events)))

spans_same : (h : Counts) (events : List Event) → All (Declared h) events → spans h events ≡ Trace.order H.counted (map view events)
unfolding Trace.order
spans_same h events d = rw (turn_map events [], sections_same h (reverse events) (all_turn (Declared h) events [] d tt))

-- An accepted trace that 20 to 22 do not deny an order: run whole in its order on the sequential memory of zeros, the sections
-- give every use its value in the trace and leave every variable its value in main memory.
pub serial_run : (h : Counts) (guard : ℕ → ℕ) (events : List Event) → Valid h (reverse events) → All (Declared h) events → T (orderly h guard (reverse events)) → unfinished h (reverse events) ≡ false
    → (Trace.given (λ v. pos 0) (Trace.serially (map view events) (spans h events)) ≡ Trace.stated (Trace.serially (map view events) (spans h events)))
    × ((v : ℕ) → v < h.variables → Trace.after (Trace.serially (map view events) (spans h events)) (λ v. pos 0) v ≡ main v (reverse events))
unfolding words_of
serial_run h guard events a d o f =
    rw (spans_same h events d)
    (proved.uses_right, λ v k. proved.ends_right v k ∙ rw (turn_map events []) (mains h v (reverse events) a))
  where
    d' : All (Declared h) (reverse events)
    d' = all_turn (Declared h) events [] d tt

    proved : Trace.Serial (pos 0) H.counted h.variables (map view events)
    proved = Trace.demand_3 (pos 0) H.counted h.variables guard (map view events) (names h events d)
        (rw (turn_map events []) (exclusive h (reverse events) d' a))
        (rw (turn_map events []) (two_phase_law h guard (reverse events) d' o))
        (λ v k. rw (turn_map events []) (accepted h v k (reverse events) a))
        (λ v k. rw (turn_map events []) (under h guard v (reverse events) o))
        (λ v k. rw (turn_map events []) (ended h guard v (reverse events) k a d' f))

-- ---- a trace that nothing denies an order

fit_cond : (b : Bool) (n m : ℕ) (d : Denial) → cond b (denied n m) d ≡ fit → (b ≡ false) × (d ≡ fit)
fit_cond true n m d p = (cc, cc)
fit_cond false n m d p = (refl, p)

pub fit_from : (h : Counts) (guard : ℕ → ℕ) (es rest : List Event) → denial_from h guard es rest ≡ fit → T (orderly h guard es)
    → T (orderly h guard (reverse_aux rest es)) × (unfinished h (reverse_aux rest es) ≡ false)
unfolding denial_from orderly
fit_from h guard es [] p o = (o, (fit_cond (unfinished h es) 22 (line_after h (length es)) fit p).0)
fit_from h guard es (e ∷ rest) p o =
    let a : (not_under guard es e ≡ false) × (cond (late_lock h es e) (denied 21 (line_after h (length es))) (denial_from h guard (e ∷ es) rest) ≡ fit) = fit_cond (not_under guard es e) 20 (line_after h (length es)) _ p in
    let b : (late_lock h es e ≡ false) × (denial_from h guard (e ∷ es) rest ≡ fit) = fit_cond (late_lock h es e) 21 (line_after h (length es)) _ a.1 in
    fit_from h guard (e ∷ es) rest b.1 (rw (a.0, b.0) o)

-- Demand 3's run, for an accepted trace that 20 to 22 do not deny its order.
pub serial_order : (h : Counts) (guard : ℕ → ℕ) (events : List Event) → Valid h (reverse events) → All (Declared h) events → denial h guard events ≡ fit
    → (Trace.given (λ v. pos 0) (Trace.serially (map view events) (spans h events)) ≡ Trace.stated (Trace.serially (map view events) (spans h events)))
    × ((v : ℕ) → v < h.variables → Trace.after (Trace.serially (map view events) (spans h events)) (λ v. pos 0) v ≡ main v (reverse events))
unfolding denial orderly
serial_order h guard events a d p =
    let f : T (orderly h guard (reverse events)) × (unfinished h (reverse events) ≡ false) = fit_from h guard [] events p tt in
    serial_run h guard events a d f.0 f.1
