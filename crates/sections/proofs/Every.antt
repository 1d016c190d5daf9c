-- Each U, A and B of an orderly trace is taken by one section of its order.
use Prim.Native.Nat.{ℕ, zero, suc, ◌+◌, ◌-◌, ◌≤◌, ◌<◌}
use native.Mathlib.Decide.{ℕ_discrete, dec_lt}
use native.Mathlib.Omega.{arith}
use mathlib.Core.Path.{◌≡◌, refl, sym, ap, ◌∙◌, subst}
use mathlib.Core.Logic.{◌⊎◌, inl, inr}
use mathlib.Core.Bool.{Bool, true, false, cond, ◌&&◌, true≢false}
use mathlib.Core.List.{List, [], ◌∷◌, reverse}
use mathlib.Core.Option.{some}
use lib.Dec.{eqb, leb}
use borrow.Author.Tests.{eq-eqb, eqb-true, le-leb, leb-true}
use lib.IntN.{ℤ}
use lib.ListN.{length}
use Rattle.rules.specs.declared.Event.{Event}
use Rattle.rules.specs.declared.Counts.{Counts}
use Rattle.rules.specs.Events.{of}
use Rattle.rules.specs.Limits.{line_after}
use Rattle.rules.specs.Rules.{loc, words_of, held}
use Rattle.serial.specs.Lists.{All}
use Rattle.serial.specs.Sections as Q
use Rattle.serial.proofs.Stacks.{own}
use Rattle.serial.proofs.Signals.{Runs, Step, Stack}
use Rattle.sections.specs.Places.{position, at_position, so_far, event_at, up_to, uses_or_assigns, lock_at, unlock_at, holding}
use Rattle.sections.specs.CriticalSections.{Entry, CriticalSection, Member, Distinct, SerialOrder}
use Rattle.sections.specs.Sequential.{takes, times}
use Rattle.sections.specs.Denials.{Unguarded, Orderly}
use Rattle.sections.specs.Order.{sections, line_of, order}
use Rattle.sections.proofs.Valid.{Valid, Declared}
use Rattle.sections.proofs.Whole.{from_held}
use Rattle.sections.proofs.Ordered.{busy_some}
use Rattle.sections.proofs.Places.{line_position, locks_at, unlocks_at, holds_then, nothing_past, all_so_far, holds_more}
use Rattle.sections.proofs.Steps.{steps, stack}
use Rattle.sections.proofs.Listed.{Span, in_lines, listed}
use Rattle.sections.proofs.Denied.{both_l, both_r, some_none, up_to_last}

module _ (locks unlocks busy : ℕ → Bool) where
  -- a section that goes on after position n ends, where nothing is held at the end
  ends_later : (k n a : ℕ) → ((i : ℕ) → i < n + k → Step locks unlocks busy i) → busy (n + k) ≡ false → a ≤ n → locks a ≡ true → busy (a - 1) ≡ false
      → ((p : ℕ) → a ≤ p → p ≤ n → busy p ≡ true) → (b : ℕ) × (n < b) × Runs locks unlocks busy a b
  ends_later zero n a f e h l i t = absurd (true≢false (sym (t n h (omega arith)) ∙ subst (λ j. busy j ≡ false) (let q : n + 0 ≡ n = omega arith in q) e))
  ends_later (suc k) n a f e h l i t = go (busy (suc n)) refl
      (λ q. ends_later k (suc n) a (λ j r. f j (omega arith)) (subst (λ j. busy j ≡ false) (let r : n + suc k ≡ suc n + k = omega arith in r) e) (omega arith) l i q)
    where
      more : busy (suc n) ≡ true → (p : ℕ) → a ≤ p → p ≤ suc n → busy p ≡ true
      more b p x y = see (ℕ_discrete p (suc n))
        where
          see : Dec (p ≡ suc n) → busy p ≡ true
          see (yes q) = subst (λ j. busy j ≡ true) (sym q) b
          see (no q) = t p x (omega arith)

      unlocked : busy (suc n) ≡ false → (b : Bool) → unlocks (suc n) ≡ b → b ≡ true
      unlocked g true q = refl
      unlocked g false q = absurd (true≢false (sym ((f n (omega arith)).busy_keeps (t n h (omega arith)) q) ∙ g))

      go : (b : Bool) → busy (suc n) ≡ b → (((p : ℕ) → a ≤ p → p ≤ suc n → busy p ≡ true) → (b : ℕ) × (suc n < b) × Runs locks unlocks busy a b) → (b : ℕ) × (n < b) × Runs locks unlocks busy a b
      go true g r = let s = r (more g) in (s.0, omega (arith, s.1), s.2)
      go false g r = (suc n, omega arith, record { rises = omega arith; opens = l; idle = i; closes = unlocked g (unlocks (suc n)) refl; free = g; inside = λ p x y. t p x (omega arith) })

-- two sections of one thread that share a line after which the thread holds something are one section
pub apart : (h : Counts) (events : List Event) (s r : Entry) (p : ℕ) → CriticalSection h events s → CriticalSection h events r → s.thread ≡ r.thread → s.first ≤ p → p < s.last → r.first ≤ p → p < r.last → s ≡ r
apart h events s r p c d q a b a' b' = λ i. record { thread = q i; first = firsts i; last = lasts i }
  where
    e : CriticalSection h events (record { thread = s.thread; first = r.first; last = r.last })
    e = subst (λ t. CriticalSection h events (record { thread = t; first = r.first; last = r.last })) (sym q) d

    firsts : s.first ≡ r.first
    firsts = go (dec_lt s.first r.first) (dec_lt r.first s.first)
      where
        go : Dec (s.first < r.first) → Dec (r.first < s.first) → s.first ≡ r.first
        go (yes i) x = absurd (true≢false (sym (c.inside (r.first - 1) (omega arith) (omega arith)) ∙ e.idle))
        go (no i) (yes j) = absurd (true≢false (sym (e.inside (s.first - 1) (omega arith) (omega arith)) ∙ c.idle))
        go (no i) (no j) = omega arith

    lasts : s.last ≡ r.last
    lasts = go (dec_lt s.last r.last) (dec_lt r.last s.last)
      where
        go : Dec (s.last < r.last) → Dec (r.last < s.last) → s.last ≡ r.last
        go (yes i) x = absurd (true≢false (sym (e.inside s.last (omega arith) i) ∙ c.free))
        go (no i) (yes j) = absurd (true≢false (sym (c.inside r.last (omega arith) j) ∙ e.free))
        go (no i) (no j) = omega arith

-- a line lies in at most one section of its thread: no event is run twice
pub in_one : (h : Counts) (events : List Event) (s r : Entry) (p : ℕ) → CriticalSection h events s → CriticalSection h events r → s.thread ≡ r.thread → s.first ≤ p → p ≤ s.last → r.first ≤ p → p ≤ r.last → s ≡ r
in_one h events s r p c d q a b a' b' = go (dec_lt p s.last) (dec_lt p r.last)
  where
    free_s : holding h r.thread events s.last ≡ false
    free_s = subst (λ t. holding h t events s.last ≡ false) q c.free

    free_r : holding h s.thread events r.last ≡ false
    free_r = subst (λ t. holding h t events r.last ≡ false) (sym q) d.free

    go : Dec (p < s.last) → Dec (p < r.last) → s ≡ r
    go (yes k) (yes i) = apart h events s r p c d q a k a' i
    go (yes k) (no i) = absurd (true≢false (sym (c.inside r.last (omega arith) (omega arith)) ∙ free_r))
    go (no k) (yes i) = absurd (true≢false (sym (d.inside s.last (omega arith) (omega arith)) ∙ free_s))
    go (no k) (no i) = apart h events s r (p - 1) c d q (omega (arith, c.rises)) (omega (arith, c.rises)) (omega (arith, d.rises)) (omega (arith, d.rises))

-- 21 by sections: in no section of an orderly trace does a K come after an N
pub two_phase_inside : (h : Counts) (guard : ℕ → ℕ) (events : List Event) (s : Entry) (q p : ℕ) → Orderly h guard events → CriticalSection h events s → s.first ≤ q → q < p → p ≤ s.last
    → unlock_at h s.thread events q ≡ true → lock_at h s.thread events p ≡ true → ⊥
two_phase_inside h guard events s q p o c a b d u l =
    o.two_phase p (record { thread = s.thread; locks = l; earlier = q; before = b; unlocks = u; same = λ i x y. c.inside i (omega arith) (omega arith) })

-- ---- how many sections take an event

no_taker : (n : ℕ) (e : Event) (l : List Entry) → ((r : Entry) → Member r l → takes r n e ≡ false) → times n e l ≡ 0
unfolding times
no_taker n e [] f = refl
no_taker n e (y ∷ l) f = rw (f y (inl refl)) (no_taker n e l (λ r m. f r (inr m)))

one_taker : (n : ℕ) (e : Event) (x : Entry) (l : List Entry) → Member x l → Distinct l → takes x n e ≡ true → ((r : Entry) → Member r l → takes r n e ≡ true → r ≡ x) → times n e l ≡ 1
unfolding times
one_taker n e x [] m d t f = absurd m
one_taker n e x (y ∷ l) (inl p) d t f = rw (subst (λ z. takes z n e ≡ true) (sym p) t) (ap suc (no_taker n e l none))
  where
    none : (r : Entry) → Member r l → takes r n e ≡ false
    none r m = go (takes r n e) refl
      where
        go : (b : Bool) → takes r n e ≡ b → b ≡ false
        go true q = absurd (d.0 (subst (λ z. Member z l) (f r (inr m) q ∙ sym p) m))
        go false q = refl
one_taker n e x (y ∷ l) (inr m) d t f = go (takes y n e) refl (one_taker n e x l m d.1 t (λ r k. f r (inr k)))
  where
    go : (b : Bool) → takes y n e ≡ b → times n e l ≡ 1 → cond b (suc (times n e l)) (times n e l) ≡ 1
    go true q r = absurd (d.0 (subst (λ z. Member z l) (sym (f y (inl refl) q)) m))
    go false q r = r

pub all_members : (P : Entry → Type 0) (l : List Entry) → All P l → (x : Entry) → Member x l → P x
all_members P [] a x m = absurd m
all_members P (y ∷ l) a x (inl p) = subst P p a.0
all_members P (y ∷ l) a x (inr m) = all_members P l a.1 x m

taken : (s : Entry) (n : ℕ) (e : Event) → s.thread ≡ e.thread → s.first ≤ n → n ≤ s.last → takes s n e ≡ true
unfolding takes of
taken s n e p a b = rw (eq-eqb e.thread s.thread (sym p), le-leb s.first n a, le-leb n s.last b)

module _ (s : Entry) (n : ℕ) (e : Event) (t : takes s n e ≡ true) where
  inner : (leb s.first n && leb n s.last) ≡ true
  unfolding takes
  inner = both_r (of s.thread e) (leb s.first n && leb n s.last) t

  taken_thread : e.thread ≡ s.thread
  unfolding takes of
  taken_thread = eqb-true e.thread s.thread (both_l (eqb e.thread s.thread) (leb s.first n && leb n s.last) t)

  taken_from : s.first ≤ n
  taken_from = leb-true s.first n (both_l (leb s.first n) (leb n s.last) inner)

  taken_to : n ≤ s.last
  taken_to = leb-true n s.last (both_r (leb s.first n) (leb n s.last) inner)

-- ---- the whole

module _ (c : Counts) (guard : ℕ → ℕ) (events : List Event) (d : All (Declared c) events) (a : Valid c (reverse events)) (o : Orderly c guard events)
    (free : (t : ℕ) → holds_then c t events (length events) ≡ false) where
  -- a thread that holds something after position n is in a section there
  inside_one : (t n : ℕ) → n ≤ length events → holds_then c t events n ≡ true → (x y : ℕ) × Span c events t x y × (x ≤ n) × (n < y)
  inside_one t n h b = go (own t (sections c (so_far n events))) (subst (λ z. Stack (locks_at t events) (unlocks_at t events) (holds_then c t events) z n (own t (sections c (so_far n events)))) b (stack c events d a t n h))
    where
      all : n + (length events - n) ≡ length events
      all = omega arith

      go : (ss : List (Q.Section ℤ)) → Stack (locks_at t events) (unlocks_at t events) (holds_then c t events) true n ss → (x y : ℕ) × Span c events t x y × (x ≤ n) × (n < y)
      go [] st = absurd st
      go (s ∷ ss) st =
          let r : (b : ℕ) × (n < b) × Runs (locks_at t events) (unlocks_at t events) (holds_then c t events) s.first b =
          ends_later (locks_at t events) (unlocks_at t events) (holds_then c t events) (length events - n) n s.first
          (λ i j. steps c events d a t i (omega arith)) (rw all (free t)) (omega (arith, st.0.point.from, st.0.point.to)) st.0.opens st.0.idle st.0.inside in
          (s.first, r.0, r.2, omega (arith, st.0.point.from, st.0.point.to), r.1)

  order_lists : SerialOrder c events (order c events)
  order_lists = listed c events d a free

  -- the event at position n + 1, in its line
  taken_once : (n line : ℕ) (e : Event) → line_of c (suc n) ≡ line → at_position (suc n) events ≡ some e → Unguarded c guard events line ⊎ (held (words_of (so_far n events)) e.thread (guard (loc e)) ≡ true) → times line e (order c events) ≡ 1
  taken_once n line e l s (inl r) = absurd (o.guarded line r)
  taken_once n line e l s (inr k) = go (dec_lt n (length events))
    where
      go : Dec (n < length events) → times line e (order c events) ≡ 1
      go (no h) = absurd (some_none e (sym (nothing_past n events (omega arith)) ∙ s))
      go (yes h) = one_taker line e x (order c events) (order_lists.complete x section) order_lists.once mine
          (λ r m t. in_one c events r x line (all_members (CriticalSection c events) (order c events) order_lists.sound r m) section (sym (taken_thread r line e t))
          (taken_from r line e t) (taken_to r line e t) low high)
        where
          busy : holds_then c e.thread events n ≡ true
          busy = holds_more c e.thread n events (so_far n events) refl
              ∙ busy_some c e.thread (guard (loc e)) (so_far n events) (all_so_far (Declared c) n events d) (from_held e.thread (guard (loc e)) (so_far n events) k)

          r : (x y : ℕ) × Span c events e.thread x y × (x ≤ n) × (n < y)
          r = inside_one e.thread n (omega arith) busy

          x : Entry
          x = record { thread = e.thread; first = line_of c r.0; last = line_of c r.1 }

          section : CriticalSection c events x
          section = in_lines c events e.thread r.0 r.1 r.2

          low : line_of c r.0 ≤ line
          low = omega (arith, r.3, l)

          high : line ≤ line_of c r.1
          high = omega (arith, r.4, l)

          mine : takes x line e ≡ true
          mine = taken x line e refl low high

  pub every : (line : ℕ) (e : Event) → event_at c line events ≡ some e → uses_or_assigns e ≡ true → times line e (order c events) ≡ 1
  unfolding event_at
  every line e s u = go (position c line) refl s
    where
      go : (p : ℕ) → position c line ≡ p → at_position p events ≡ some e → times line e (order c events) ≡ 1
      go zero q s = absurd (some_none e (unfold at_position in s))
      go (suc n) q s = taken_once n line e there s (under (held (words_of (so_far n events)) e.thread (guard (loc e))) refl)
        where
          there : line_of c (suc n) ≡ line
          there = ap (line_of c) (sym q) ∙ line_position c line (rw q (omega arith))

          before : up_to c (line - 1) events ≡ so_far n events
          before = subst (λ i. up_to c (i - 1) events ≡ so_far n events) there (subst (λ i. up_to c i events ≡ so_far n events) (let i : line_after c n - 1 ≡ line_of c (suc n) - 1 = omega arith in i) (up_to_last c n events))

          under : (b : Bool) → held (words_of (so_far n events)) e.thread (guard (loc e)) ≡ b → Unguarded c guard events line ⊎ (held (words_of (so_far n events)) e.thread (guard (loc e)) ≡ true)
          under true k = inr k
          under false k = inl (record { event = e; stands = rw q s; used = u; not_under = rw before k })
