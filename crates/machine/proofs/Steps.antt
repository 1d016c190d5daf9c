-- Steps from the initial state report what the definitions over the list say: over lines, each an event or none, and over events.
use Prim.Native.Nat.{ℕ, zero, suc}
use mathlib.Core.Path.{◌≡◌, refl, sym, ap, ◌∙◌, subst}
use mathlib.Core.Bool.{true}
use mathlib.Core.List.{List, [], ◌∷◌, map, reverse}
use mathlib.Core.Option.{Option, none, some}
use lib.Dec.{T}
use lib.ListN.{length}
use Rattle.rules.specs.declared.Event.{Event}
use Rattle.rules.specs.declared.Counts.{Counts}
use Rattle.rules.specs.Limits.{Limits, UpToFull, line_after, allowed}
use Rattle.rules.specs.Rules.{Words, words_of, answer, verdict, Marked, accepted, refused, told, unless, mark_from, mark, mark_read, past_read, Accepted}
use Rattle.rules.specs.Memories.{memory, copies}
use Rattle.rules.proofs.Laws.{Passed, passed, accepted_cons}
use Rattle.rules.proofs.Marking.{mark_accepts, accepts_mark, mark_refuses, refuses_mark}
use Rattle.rules.proofs.Readings.{read_events, past_events}
use Rattle.state.specs.declared.State.{State}
use Rattle.state.specs.State.{words_in, start}
use Rattle.state.specs.Range.{in_range}
use Rattle.state.specs.Step.{step_state, state_after}
use Rattle.state.proofs.Kept.{in_range_law, range, kept}
use Rattle.state.specs.Computed.Places.{Shape}
use Rattle.state.proofs.Stands.{Stands, stands_start, stands_next, stands, events_same}
use Rattle.machine.specs.declared.Answer.{Answer}
use Rattle.machine.specs.Stepped.{step_with, stepped, onwards, steps}
use Rattle.machine.specs.Follows.{Follows}
use Rattle.machine.specs.Computed.Walk.{walk}

-- ---- one step

-- a state in range: 9 (25), 5 and the row
pub step_ranged : (m : Limits) (s : State) (e : Event) → in_range m s ≡ true → stepped m s e ≡ step_with s e (answer m s.counts (words_in s) e)
unfolding stepped
step_ranged m s e r = rw r refl

-- the verdict of a state that stands for a list, on any event, is the list's
pub step_stands : (m : Limits) (h : Counts) (es : List Event) (s : State) → Stands m h es s → (e : Event) → stepped m s e ≡ step_with s e (verdict m h es e)
unfolding verdict
step_stands m h es s st e = step_ranged m s e (in_range_law m s st.range) ∙ ap (λ (n : ℕ). step_with s e n) (λ i. answer m (st.counts i) (st.words i) e)

line_same : (m : Limits) (h : Counts) (es : List Event) (s : State) → Stands m h es s → line_after s.counts s.events ≡ line_after h (length es)
line_same m h es s st = λ i. line_after (st.counts i) (events_same m h es s st i)

-- (i) the state after an accepted list of events says exactly the list's words, is in range, and its verdict on any next event is
-- the list's
pub record Simulates (m : Limits) (h : Counts) (es : List Event) (s : State) : Type 0 where
  pub words : words_in s ≡ words_of es
  pub in_range_law : in_range m s ≡ true
  pub verdict : (e : Event) → told (stepped m s e).verdict ≡ unless (verdict m h es e) (line_after h (length es)) accepted

pub simulation : (m : Limits) (h : Counts) (es : List Event) → UpToFull m → allowed m h ≡ true → T (Accepted m h es) → Simulates m h es (state_after h es)
simulation m h es u ok a = record { words = st.words; in_range_law = in_range_law m s st.range; verdict = λ e. rw (step_stands m h es s st e) (go (verdict m h es e) e) }
  where
    s : State
    s = state_after h es

    st : Stands m h es s
    st = stands m h es u ok a

    go : (n : ℕ) (e : Event) → told (step_with s e n).verdict ≡ unless n (line_after h (length es)) accepted
    go zero e = refl
    go (suc n) e = ap (λ (l : ℕ). refused (suc n) l) (line_same m h es s st)

-- ---- a sequence of steps

abbrev Wrong : Marked → Type 0
Wrong accepted = ⊥
Wrong (refused n l) = Unit {0}

-- what the steps over lines report, and what is left where they accept
pub record Walked (m : Limits) (h : Counts) (es : List Event) (rs : List (Option Event)) (r : Answer) : Type 0 where
  pub marked : told r.verdict ≡ mark_read m h es rs
  pub stands : mark_read m h es rs ≡ accepted → Stands m h (past_read m h es rs) r.state

pub walked : (m : Limits) (h : Counts) (es : List Event) (rs : List (Option Event)) (s : State) → UpToFull m → T (Accepted m h es) → Stands m h es s → Walked m h es rs (walk m s rs)
unfolding walk mark_read past_read
walked m h es [] s u a st = record { marked = refl; stands = λ p. st }
walked m h es (none ∷ rs) s u a st = record { marked = ap (λ (l : ℕ). refused 4 l) (line_same m h es s st); stands = λ p. absurd (subst Wrong p tt) }
walked m h es (some e ∷ rs) s u a st = go (verdict m h es e) refl (step_stands m h es s st e) (λ v. walked m h (e ∷ es) rs (step_state s e) u (accepted_cons m h e es v a) (stands_next m h es s e u a v st))
  where
    go : (n : ℕ) → verdict m h es e ≡ n → stepped m s e ≡ step_with s e n → (verdict m h es e ≡ 0 → Walked m h (e ∷ es) rs (walk m (step_state s e) rs))
        → Walked m h es (some e ∷ rs) (onwards (stepped m s e) (λ z. walk m z rs))
    go zero v c more = rw c (record { marked = unfold mark_read in rw v (more v).marked; stands = unfold mark_read past_read in rw v (more v).stands })
    go (suc n) v c more = rw c (record { marked = unfold mark_read in rw v (ap (λ (l : ℕ). refused (suc n) l) (line_same m h es s st)); stands = unfold mark_read past_read in rw v (λ p. absurd (subst Wrong p tt)) })

pub steps_walk : (m : Limits) (s : State) (events : List Event) → steps m s events ≡ walk m s (map (λ (e : Event). some e) events)
unfolding steps walk
steps_walk m s [] = refl
steps_walk m s (e ∷ rest) = λ i. onwards (stepped m s e) (λ z. steps_walk m z rest i)

-- (ii) stepping from the initial state follows the definitions over the list
pub follows : (m : Limits) (h : Counts) (events : List Event) → UpToFull m → allowed m h ≡ true → Follows m h events
follows m h events u ok = record {
  accepts = λ p. mark_accepts m h events (sym same ∙ p);
  accepted_when = λ a. same ∙ accepts_mark m h events a;
  refuses = λ n l p. mark_refuses m h events n l (sym same ∙ p);
  refused_when = λ n l b. same ∙ refuses_mark m h events n l b;
  memory = λ a. ap (λ (x : Words). memory h x) (words a);
  copies = λ a. ap (λ (x : Words). copies h x) (words a);
}
  where
    w : Walked m h [] (map (λ (e : Event). some e) events) (walk m (start h) (map (λ (e : Event). some e) events))
    w = walked m h [] (map (λ (e : Event). some e) events) (start h) u (unfold Accepted in tt) (stands_start m h ok)

    same : told (steps m (start h) events).verdict ≡ mark m h events
    same = ap (λ (r : Answer). told r.verdict) (steps_walk m (start h) events) ∙ w.marked ∙ read_events m h [] events ∙ unfold mark in refl

    words : T (Accepted m h (reverse events)) → words_in (steps m (start h) events).state ≡ words_of (reverse events)
    words a =
        let q : mark_from m h [] events ≡ accepted = unfold mark in (accepts_mark m h events a) in
        ap (λ (r : Answer). words_in r.state) (steps_walk m (start h) events) ∙ (w.stands (read_events m h [] events ∙ q)).words ∙ ap (λ (es : List Event). words_of es) (past_events m h [] events q)

-- (iii) an accepted step leaves a state in range in range
pub step_in_range : (m : Limits) (s : State) (e : Event) → UpToFull m → Shape s → in_range m s ≡ true → answer m s.counts (words_in s) e ≡ 0 → in_range m (step_state s e) ≡ true
step_in_range m s e u sh r a =
    let ok : Passed m s.counts (words_in s) e = passed m s.counts (words_in s) e u.excess a in
    in_range_law m (step_state s e) (kept m s e u sh (range m s r) (unfold words_in in ok.room) ok.known ok.row)
