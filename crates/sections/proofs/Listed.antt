-- Where nothing is held at the end, the scan's order lists the trace's critical sections, each once, by their lock points.
use Prim.Native.Nat.{ℕ, zero, suc, ◌-◌, ◌≤◌, ◌<◌}
use native.Mathlib.Decide.{ℕ_discrete, dec_le}
use native.Mathlib.Omega.{arith}
use mathlib.Core.Path.{◌≡◌, refl, sym, ap, ◌∙◌, subst}
use mathlib.Core.Logic.{◌⊎◌, inl, inr}
use mathlib.Core.Bool.{Bool, true, false, cond, ◌&&◌, and-false, false≢true}
use mathlib.Core.List.{List, [], ◌∷◌, map, reverse, reverse_aux}
use lib.Dec.{leb}
use lib.IntN.{ℤ}
use lib.ListN.{length}
use borrow.Author.Tests.{le-leb}
use Rattle.rules.specs.declared.Event.{Event}
use Rattle.rules.specs.declared.Counts.{Counts}
use Rattle.rules.proofs.Bounds.{first_line_low}
use Rattle.serial.specs.Lists.{All}
use Rattle.serial.specs.Sections as Q
use Rattle.serial.proofs.Counted as H
use Rattle.serial.proofs.Memory.{all_map}
use Rattle.serial.proofs.Lines.{Falling, traced}
use Rattle.sections.specs.View.{view}
use Rattle.sections.specs.Order.{sections, line_of, entry, order}
use Rattle.sections.specs.Places.{position, at_position, lock_at}
use Rattle.sections.specs.CriticalSections.{Entry, CriticalSection, greatest, lock_point, Member, Distinct, Rising, SerialOrder}
use Rattle.sections.proofs.Valid.{Valid, Declared}
use Rattle.sections.proofs.Ordered.{all_turn, sections_same}
use Rattle.sections.proofs.Places.{position_line, position_before, line_position, position_up, position_to, position_ahead, locks_at, unlocks_at, holds_then, lock_line_law, unlock_line, holding_line, nothing_past, so_far_all}
use Rattle.serial.proofs.Stacks.{own, own_mine, own_other}
use Rattle.serial.proofs.Signals.{Runs, Closed, Has, Ended, Stack}
use Rattle.sections.proofs.Steps.{stack}

abbrev Section : Type 0
Section = Q.Section ℤ

-- ---- from each thread's sections to all

own_tail : (P : Section → Type 0) (u : ℕ) (s : Section) (ss : List Section) → All P (own u (s ∷ ss)) → All P (own u ss)
own_tail P u s ss a = go (ℕ_discrete s.owner u)
  where
    go : Dec (s.owner ≡ u) → All P (own u ss)
    go (yes p) = (subst (λ l. All P l) (own_mine u s ss p) a).1
    go (no p) = subst (λ l. All P l) (own_other u s ss p) a

gather : (P : ℕ → Section → Type 0) (ss : List Section) → ((u : ℕ) → All (P u) (own u ss)) → All (λ (s : Section). P s.owner s) ss
gather P [] f = tt
gather P (s ∷ ss) f = ((subst (λ l. All (P s.owner) l) (own_mine s.owner s ss refl) (f s.owner)).0, gather P ss (λ u. own_tail (P u) u s ss (f u)))

all_under_law : {A B : Type 0} (P : B → Type 0) (f : A → B) (l : List A) → All (λ a. P (f a)) l → All P (map f l)
all_under_law P f [] h = tt
all_under_law P f (a ∷ l) h = (h.0, all_under_law P f l h.1)

-- ---- members

same_entry : (hd : Counts) (s : Section) (x : Entry) → s.owner ≡ x.thread → line_of hd s.first ≡ x.first → line_of hd s.last ≡ x.last → entry hd s ≡ x
same_entry hd s x p q r = λ i. record { thread = p i; first = q i; last = r i }

member : (hd : Counts) (x : Entry) (a b : ℕ) (ss : List Section) → line_of hd a ≡ x.first → line_of hd b ≡ x.last → Has a b (own x.thread ss) → Member x (map (entry hd) ss)
member hd x a b [] i j m = absurd (unfold own in m)
member hd x a b (s ∷ ss) i j m = go (ℕ_discrete s.owner x.thread) (member hd x a b ss i j)
  where
    here : s.owner ≡ x.thread → (Has a b (own x.thread ss) → Member x (map (entry hd) ss)) → Has a b (s ∷ own x.thread ss) → Member x (map (entry hd) (s ∷ ss))
    here p r (inl q) = inl (same_entry hd s x p (ap (line_of hd) q.0 ∙ i) (ap (line_of hd) q.1 ∙ j))
    here p r (inr q) = inr (r q)

    go : Dec (s.owner ≡ x.thread) → (Has a b (own x.thread ss) → Member x (map (entry hd) ss)) → Member x (map (entry hd) (s ∷ ss))
    go (yes p) r = here p r (subst (λ l. Has a b l) (own_mine x.thread s ss p) m)
    go (no p) r = inr (r (subst (λ l. Has a b l) (own_other x.thread s ss p) m))

turn_member : (hd : Counts) (x : Entry) (ss acc : List Section) → Member x (map (entry hd) ss) ⊎ Member x (map (entry hd) acc) → Member x (map (entry hd) (reverse_aux ss acc))
turn_member hd x [] acc (inl h) = absurd h
turn_member hd x [] acc (inr h) = h
turn_member hd x (s ∷ ss) acc (inl (inl h)) = turn_member hd x ss (s ∷ acc) (inr (inl h))
turn_member hd x (s ∷ ss) acc (inl (inr h)) = turn_member hd x ss (s ∷ acc) (inl h)
turn_member hd x (s ∷ ss) acc (inr h) = turn_member hd x ss (s ∷ acc) (inr (inr h))

-- ---- lock points

greatest_is : (f : ℕ → Bool) (n p : ℕ) → 0 < p → p ≤ n → f p ≡ true → ((q : ℕ) → p < q → q ≤ n → f q ≡ false) → greatest f n ≡ p
unfolding greatest
greatest_is f zero p l h y no_later = absurd (omega arith)
greatest_is f (suc n) p l h y no_later = go (ℕ_discrete p (suc n)) (greatest_is f n p l)
  where
    go : Dec (p ≡ suc n) → (p ≤ n → f p ≡ true → ((q : ℕ) → p < q → q ≤ n → f q ≡ false) → greatest f n ≡ p) → cond (f (suc n)) (suc n) (greatest f n) ≡ p
    go (yes e) r = rw (subst (λ i. f i ≡ true) e y) (sym e)
    go (no e) r = rw (no_later (suc n) (omega arith) (omega arith)) (r (omega arith) y (λ q i j. no_later q i (omega arith)))

-- a K does not stand at position 0, nor an N
pub lock_low : (t p : ℕ) (events : List Event) → locks_at t events p ≡ true → 0 < p
unfolding locks_at at_position
lock_low t zero events q = absurd (false≢true q)
lock_low t (suc p) events q = omega arith

unlock_low : (t p : ℕ) (events : List Event) → unlocks_at t events p ≡ true → 0 < p
unfolding unlocks_at at_position
unlock_low t zero events q = absurd (false≢true q)
unlock_low t (suc p) events q = omega arith

unlock_below : (t p : ℕ) (events : List Event) → unlocks_at t events p ≡ true → p ≤ length events
unfolding unlocks_at
unlock_below t zero events q = omega arith
unlock_below t (suc p) events q = go (dec_le (length events) p)
  where
    go : Dec (length events ≤ p) → suc p ≤ length events
    go (yes i) = absurd (false≢true (rw (nothing_past p events i) at q))
    go (no i) = omega arith

-- ---- by positions and by lines

module _ (h : Counts) (events : List Event) where
  -- from position a to position b, t is in a section
  abbrev pub Span : ℕ → ℕ → ℕ → Type 0
  Span t a b = Runs (locks_at t events) (unlocks_at t events) (holds_then h t events) a b

  pub in_lines : (t a b : ℕ) → Span t a b → CriticalSection h events (record { thread = t; first = line_of h a; last = line_of h b })
  in_lines t a b r = record {
    rises = omega (arith, r.rises, first_line_low h);
    opens = lock_line_law h t events (line_of h a) a (position_line h a) ∙ r.opens;
    idle = holding_line h t events (line_of h a - 1) (a - 1) (position_before h a) ∙ r.idle;
    closes = unlock_line h t events (line_of h b) b (position_line h b) ∙ r.closes;
    free = holding_line h t events (line_of h b) b (position_line h b) ∙ r.free;
    inside = λ n i j. holding_line h t events n (position h n) refl
        ∙ r.inside (position h n) (rw (position_line h a) at (position_to h (line_of h a) n i)) (rw (position_line h b) at (position_up h n (line_of h b) (rw (position_line h b) (unlock_low t b events r.closes)) j));
  }

  pub in_positions : (x : Entry) → CriticalSection h events x → Span x.thread (position h x.first) (position h x.last)
  in_positions x c = record {
    rises = position_up h x.first x.last high c.rises;
    opens = opens;
    idle = subst (λ p. holds_then h x.thread events p ≡ false) before (sym (holding_line h x.thread events (x.first - 1) (position h (x.first - 1)) refl) ∙ c.idle);
    closes = closes;
    free = sym (holding_line h x.thread events x.last (position h x.last) refl) ∙ c.free;
    inside = λ p i j. sym (holding_line h x.thread events (line_of h p) p (position_line h p))
        ∙ c.inside (line_of h p) (subst (λ n. n ≤ line_of h p) (line_position h x.first low) (omega arith)) (position_ahead h (line_of h p) x.last (rw (position_line h p) j));
  }
    where
      opens : locks_at x.thread events (position h x.first) ≡ true
      opens = sym (lock_line_law h x.thread events x.first (position h x.first) refl) ∙ c.opens

      closes : unlocks_at x.thread events (position h x.last) ≡ true
      closes = sym (unlock_line h x.thread events x.last (position h x.last) refl) ∙ c.closes

      low : 0 < position h x.first
      low = lock_low x.thread (position h x.first) events opens

      high : 0 < position h x.last
      high = unlock_low x.thread (position h x.last) events closes

      before : position h (x.first - 1) ≡ position h x.first - 1
      before = unfold position in omega (arith, first_line_low h)

  abbrev Good : Section → Type 0
  Good s = Closed (locks_at s.owner events) (unlocks_at s.owner events) (holds_then h s.owner events) (length events) s

  critical : (s : Section) → Good s → CriticalSection h events (entry h s)
  critical s c = in_lines s.owner s.first s.last c.whole

  point : (s : Section) → Good s → lock_point h events (entry h s) ≡ line_of h s.top
  unfolding lock_point
  point s c = greatest_is (λ n. leb (line_of h s.first) n && lock_at h s.owner events n) (line_of h s.last) (line_of h s.top)
      (omega (arith, first_line_low h, c.point.from))
      (omega (arith, c.point.to))
      (rw (le-leb (line_of h s.first) (line_of h s.top) (omega (arith, c.point.from))) (lock_line_law h s.owner events (line_of h s.top) s.top (position_line h s.top) ∙ c.point.here))
      (λ q i j. rw (later q i j) (and-false (leb (line_of h s.first) q)))
    where
      later : (q : ℕ) → line_of h s.top < q → q ≤ line_of h s.last → lock_at h s.owner events q ≡ false
      later q i j = lock_line_law h s.owner events q (position h q) refl
          ∙ c.point.later (position h q) (let k : s.top < position h q = unfold position in omega arith in k) (rw (position_line h s.last) at (position_to h q (line_of h s.last) j))

  -- all of these have a lock point above n
  abbrev Above : ℕ → List Section → Type 0
  Above n l = All (λ m. n < m) (map (lock_point h events) (map (entry h) l))

  rise : (ss acc : List Section) → All Good ss → Falling ss → All (λ (r : Section). Above (line_of h r.top) acc) ss → Rising (map (lock_point h events) (map (entry h) acc))
      → Rising (map (lock_point h events) (map (entry h) (reverse_aux ss acc)))
  unfolding Falling
  rise [] acc g f k r = r
  rise (s ∷ ss) acc g f k r =
      rise ss (s ∷ acc) g.1 f.1 (join ss f.0 k.1)
      (subst (λ n. Above n acc) (sym (point s g.0)) k.0, r)
    where
      join : (l : List Section) → All (λ (q : Section). q.top < s.top) l → All (λ (q : Section). Above (line_of h q.top) acc) l → All (λ (q : Section). Above (line_of h q.top) (s ∷ acc)) l
      join [] a b = tt
      join (q ∷ l) a b = ((omega (arith, a.0, point s g.0, first_line_low h), b.0), join l a.1 b.1)

  below_member : (n : ℕ) (x : Entry) (l : List Entry) → All (λ m. n < m) (map (lock_point h events) l) → Member x l → n < lock_point h events x
  below_member n x [] a k = absurd k
  below_member n x (y ∷ l) a (inl p) = subst (λ z. n < lock_point h events z) p a.0
  below_member n x (y ∷ l) a (inr k) = below_member n x l a.1 k

  distinct : (l : List Entry) → Rising (map (lock_point h events) l) → Distinct l
  distinct [] r = tt
  distinct (x ∷ l) r = (λ k. irrefl (lock_point h events x) (below_member (lock_point h events x) x l r.0 k), distinct l r.1)
    where
      irrefl : (n : ℕ) → n < n → ⊥
      irrefl n h = omega arith

  -- ---- the whole

  none_above : (l : List Section) → All (λ (r : Section). Above (line_of h r.top) []) l
  none_above [] = tt
  none_above (s ∷ l) = (tt, none_above l)

  pub listed : All (Declared h) events → Valid h (reverse events) → ((t : ℕ) → holds_then h t events (length events) ≡ false) → SerialOrder h events (order h events)
  unfolding order
  listed d a free = record {
    sound = all_under_law (CriticalSection h events) (entry h) (reverse ss)
        (all_turn (λ (s : Section). CriticalSection h events (entry h s)) ss [] (all_map Good (λ (s : Section). CriticalSection h events (entry h s)) ss good critical) tt);
    complete = complete;
    once = distinct (map (entry h) (reverse ss)) rising;
    by_lock_point = rising;
  }
    where
      ss : List Section
      ss = sections h (reverse events)

      ended : (u : ℕ) → Ended (locks_at u events) (unlocks_at u events) (holds_then h u events) (length events) (own u ss)
      ended u =
          subst (λ b. Stack (locks_at u events) (unlocks_at u events) (holds_then h u events) b (length events) (own u ss)) (free u)
          (subst (λ l. Stack (locks_at u events) (unlocks_at u events) (holds_then h u events) (holds_then h u events (length events)) (length events) (own u (sections h l))) (so_far_all events)
          (stack h events d a u (length events) (omega arith)))

      good : All Good ss
      good = gather (λ u s. Closed (locks_at u events) (unlocks_at u events) (holds_then h u events) (length events) s) ss (λ u. (ended u).sound)

      complete : (x : Entry) → CriticalSection h events x → Member x (map (entry h) (reverse ss))
      complete x c =
          let r : Span x.thread (position h x.first) (position h x.last) = in_positions x c in
          turn_member h x ss [] (inl (member h x (position h x.first) (position h x.last) ss
          (line_position h x.first (lock_low x.thread (position h x.first) events r.opens))
          (line_position h x.last (unlock_low x.thread (position h x.last) events r.closes))
          ((ended x.thread).complete (position h x.first) (position h x.last) (unlock_below x.thread (position h x.last) events r.closes) r)))

      falling : Falling ss
      falling = rw (sections_same h (reverse events) (all_turn (Declared h) events [] d tt)) (traced H.counted (map view (reverse events))).falling

      rising : Rising (map (lock_point h events) (map (entry h) (reverse ss)))
      rising = rise ss [] good falling (none_above ss) tt
