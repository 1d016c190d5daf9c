-- The state after an accepted list of events: its words are the list's, and it is in range.
use Prim.Native.Nat.{ℕ, zero, suc, ◌+◌, ◌*◌, zero-le}
use mathlib.Core.Path.{◌≡◌, refl, sym, ap, ◌∙◌}
use mathlib.Core.Logic.{inl}
use mathlib.Core.Bool.{true, false, ◌&&◌, and-false}
use mathlib.Core.List.{List, [], ◌∷◌}
use lib.Dec.{T, eqb, ltb, leb}
use lib.ListN.{length, get_or, replicate, length-replicate}
use Rattle.state.specs.Computed.Places.{Shape}
use Rattle.state.specs.declared.State.{State}
use Rattle.state.specs.State.{no_slot, no_hold, no_wait, no_main, blank, around, queued, cell_at, reads_at, stores_at, depth_of, remembered_of, notified_of, words_in, start}
use Rattle.state.specs.Step.{step_state, state_after}
use Rattle.state.proofs.Kept.{Range, room, within, bounded, kept}
use Rattle.state.proofs.LeafLaws.{cond_same}
use Rattle.state.proofs.StepWords.{step_shape, step_words}
use Rattle.rules.specs.declared.Event.{Event}
use Rattle.rules.specs.declared.Counts.{Counts}
use Rattle.rules.specs.Limits.{Limits, UpToFull, allowed, declared}
use Rattle.rules.specs.Words.{latest, value_in, letter_in, last_at, count, in_order, reads, stores, copy, fresh, pending, announced, last_lock, last_write, usable, grip, depth, remembered, notified, main, after_load, after_assign, loaded_read, used_read, last_assign}
use Rattle.rules.specs.Rules.{Words, words_of, judge, verdict, Accepted}
use Rattle.rules.proofs.Next.{next}
use Rattle.rules.proofs.Laws.{Passed, passed, accepted_last, accepted_before}
use Rattle.rules.proofs.Simulation.{words_next, paired}

-- ---- the initial state

same_all : {A : Type 0} (n i : ℕ) (a : A) → get_or (replicate n a) i a ≡ a
same_all zero i a = refl
same_all (suc n) zero a = refl
same_all (suc n) (suc i) a = same_all n i a

pub start_cell : (h : Counts) (t v : ℕ) → cell_at (start h) t v ≡ blank
unfolding cell_at start
start_cell h t v = rw (same_all 128 (16 * t + v) blank) (cond_same (ltb t 8 && ltb v 16) blank)

start_depth : (h : Counts) (t l : ℕ) → depth_of (get_or (start h).holds l no_hold) t ≡ 0
unfolding depth_of start
start_depth h t l = rw (same_all 8 l no_hold) (cond_same (ltb t 8 && eqb 0 (t + 1)) 0)

start_locked : (h : Counts) (t : ℕ) → get_or (start h).locked t 0 ≡ 0
unfolding start
start_locked h t = same_all 8 t 0

start_wait : (h : Counts) (t : ℕ) → get_or (start h).waits t no_wait ≡ no_wait
unfolding start
start_wait h t = same_all 8 t no_wait

start_remembered : (h : Counts) (t l : ℕ) → remembered_of (get_or (start h).waits t no_wait) l ≡ 0
start_remembered h t l = rw (start_wait h t) (unfold remembered_of in cond_same (eqb 0 (l + 1)) 0)

start_notified : (h : Counts) (t l : ℕ) → notified_of (get_or (start h).waits t no_wait) l ≡ false
start_notified h t l = rw (start_wait h t) (unfold notified_of in and-false (eqb 0 (l + 1)))

start_memory : (h : Counts) (v : ℕ) → get_or (start h).memory v no_main ≡ no_main
unfolding start
start_memory h v = same_all 16 v no_main

pub start_words : (h : Counts) → words_in (start h) ≡ words_of []
unfolding start words_in words_of reads_at stores_at queued around latest value_in letter_in last_at count in_order reads stores copy fresh pending announced last_lock last_write usable grip depth remembered notified main after_load after_assign loaded_read used_read last_assign
start_words h = λ i. record {
  events = 0;
  copy = λ t v. (start_cell h t v i).copy;
  fresh = λ t v. (start_cell h t v i).fresh;
  pending = λ t v. (start_cell h t v i).pending;
  announced = λ t v. (start_cell h t v i).announced;
  usable = λ t v. ltb (start_locked h t i) (start_cell h t v i).source;
  reads = λ t v. queued (replicate 1024 no_slot) (16 * t + v) (start_cell h t v i).reads;
  stores = λ t v. queued (replicate 1024 no_slot) (16 * t + v) (start_cell h t v i).stores;
  last_write = λ t v. (start_cell h t v i).written;
  last_lock = λ t. start_locked h t i;
  depth = λ t l. start_depth h t l i;
  remembered = λ t l. start_remembered h t l i;
  notified = λ t l. start_notified h t l i;
  main = λ v. (start_memory h v i).value;
  after_load = λ t v. (start_cell h t v i).after_load;
  after_assign = λ t v. (start_cell h t v i).after_assign;
  loaded_read = λ t v. (start_cell h t v i).loaded;
  used_read = λ t v. (start_cell h t v i).used;
  last_assign = λ t v. (start_cell h t v i).assigned;
}

pub start_shape : (h : Counts) → Shape (start h)
unfolding start
start_shape h = record {
  cells = length-replicate 128 blank;
  reads = length-replicate 1024 no_slot;
  stores = length-replicate 1024 no_slot;
  locked = length-replicate {A = ℕ} 8 0;
  holds = length-replicate 8 no_hold;
  memory = length-replicate 16 no_main;
  waits = length-replicate 8 no_wait;
}

pub start_range : (m : Limits) (h : Counts) → allowed m h ≡ true → Range m (start h)
unfolding start queued around
start_range m h a = record {
  counts = a;
  events = zero-le;
  hold = λ l k. rw (same_all 8 l no_hold) (record { holder = zero-le; depth = zero-le; none = λ e. refl; some = λ e. refl });
  locked = λ t k. rw (same_all {A = ℕ} 8 t 0) zero-le;
  wait = λ t k. rw (same_all 8 t no_wait) (inl refl);
  cell = λ i k. rw (same_all 128 i blank) (record { source = zero-le; written = zero-le; loaded = zero-le; used = zero-le; assigned = zero-le });
  reads = λ i k. rw (same_all 128 i blank) (zero-le, tt);
  stores = λ i k. rw (same_all 128 i blank) (zero-le, tt);
}

-- ---- a state that stands for a list of accepted events, the latest first

pub record Stands (m : Limits) (h : Counts) (es : List Event) (s : State) : Type 0 where
  pub counts : s.counts ≡ h
  pub words : words_in s ≡ words_of es
  pub shape : Shape s
  pub range : Range m s

pub stands_start : (m : Limits) (h : Counts) → allowed m h ≡ true → Stands m h [] (start h)
stands_start m h a = record { counts = unfold start in refl; words = start_words h; shape = start_shape h; range = start_range m h a }

-- the row of an event is judged by the state as by the list
pub judge_same : (m : Limits) (h : Counts) (es : List Event) (s : State) → Stands m h es s → (e : Event) → judge s.counts (words_in s) e ≡ judge h (words_of es) e
judge_same m h es s st e = ap (λ (c : Counts). judge c (words_in s) e) st.counts ∙ ap (λ (w : Words). judge h w e) st.words

pub events_same : (m : Limits) (h : Counts) (es : List Event) (s : State) → Stands m h es s → s.events ≡ length es
unfolding words_in words_of
events_same m h es s st = ap (λ (w : Words). w.events) st.words

-- an accepted event keeps this
pub stands_next : (m : Limits) (h : Counts) (es : List Event) (s : State) (e : Event) → UpToFull m → T (Accepted m h es) → verdict m h es e ≡ 0 → Stands m h es s → Stands m h (e ∷ es) (step_state s e)
unfolding verdict
stands_next m h es s e u a v st = record {
  counts = unfold step_state in st.counts;
  words = step_words s e st.shape (within s.counts e (room m s.counts u st.range.counts) known) (bounded m s st.shape st.range) row ∙ ap (λ (w : Words). next w e) st.words ∙ sym (words_next e es (paired m h es u.excess a));
  shape = step_shape s e st.shape;
  range = kept m s e u st.shape st.range below known row;
}
  where
    ok : Passed m h (words_of es) e
    ok = passed m h (words_of es) e u.excess v

    known : declared s.counts e ≡ true
    known = ap (λ (c : Counts). declared c e) st.counts ∙ ok.known

    row : judge s.counts (words_in s) e ≡ 0
    row = judge_same m h es s st e ∙ ok.row

    below : leb m.events s.events ≡ false
    below = ap (λ (n : ℕ). leb m.events n) (events_same m h es s st) ∙ unfold words_of in ok.room

-- (i) the state after an accepted list says exactly the list's words and is in range
pub stands : (m : Limits) (h : Counts) (es : List Event) → UpToFull m → allowed m h ≡ true → T (Accepted m h es) → Stands m h es (state_after h es)
unfolding state_after
stands m h [] u ok a = stands_start m h ok
stands m h (e ∷ es) u ok a = stands_next m h es (state_after h es) e u (accepted_before m h e es a) (accepted_last m h e es a) (stands m h es u ok (accepted_before m h e es a))
