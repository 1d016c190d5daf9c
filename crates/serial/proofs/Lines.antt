-- The sections by their places in the trace: a section's events are its thread's, from the first line to the last, and
-- the list falls (the latest first) by the positions of the last K's.
use Prim.Native.Nat.{ℕ, suc, ◌≤◌, ◌<◌}
use native.Mathlib.Decide.{ℕ_discrete, dec_le}
use native.Mathlib.Omega.{arith}
use mathlib.Core.Path.{◌≡◌, refl, sym, ◌∙◌, ap, subst}
use mathlib.Core.Logic.{◌⊎◌, inl, inr, ite}
use mathlib.Core.List.{List, [], ◌∷◌}
use lib.ListN.{length}
use Rattle.serial.specs.Events.{Event, lock, unlock, idle, mem, thread}
use Rattle.serial.specs.Sections.{Section, opened, grown, raised, push, current, without, next, Locks, Busy, sections}
use Rattle.serial.specs.Lists.{All}
use Rattle.serial.proofs.Memory.{all_map}

abbrev pub either : {A : Type 0} → Dec A → Type 0 → Type 0 → Type 0
either (yes a) P Q = P
either (no n) P Q = Q

module _ {X : Type 0} where
  -- e joins the list where it is thread t's, at a position n from a to b
  abbrev pub join : {A B C : Type 0} → Dec A → Dec B → Dec C → Event X → List (Event X) → List (Event X)
  join (yes p) (yes q) (yes r) e l = e ∷ l
  join (yes p) (yes q) (no r) e l = l
  join (yes p) (no q) (yes r) e l = l
  join (yes p) (no q) (no r) e l = l
  join (no p) (yes q) (yes r) e l = l
  join (no p) (yes q) (no r) e l = l
  join (no p) (no q) (yes r) e l = l
  join (no p) (no q) (no r) e l = l

  -- the events of thread t at the positions from a to b, the latest first
  unfoldable pub taken : ℕ → ℕ → ℕ → List (Event X) → List (Event X)
  taken t a b [] = []
  taken t a b (e ∷ es) = join (ℕ_discrete (thread e) t) (dec_le a (suc (length es))) (dec_le (suc (length es)) b) e (taken t a b es)

  join_in : {A B C : Type 0} (p : Dec A) (q : Dec B) (r : Dec C) (e : Event X) (l : List (Event X)) → A → B → C → join p q r e l ≡ e ∷ l
  join_in (yes p) (yes q) (yes r) e l a b c = refl
  join_in (yes p) (yes q) (no r) e l a b c = absurd (r c)
  join_in (yes p) (no q) (yes r) e l a b c = absurd (q b)
  join_in (yes p) (no q) (no r) e l a b c = absurd (q b)
  join_in (no p) (yes q) (yes r) e l a b c = absurd (p a)
  join_in (no p) (yes q) (no r) e l a b c = absurd (p a)
  join_in (no p) (no q) (yes r) e l a b c = absurd (p a)
  join_in (no p) (no q) (no r) e l a b c = absurd (p a)

  join_out : {A B C : Type 0} (p : Dec A) (q : Dec B) (r : Dec C) (e : Event X) (l : List (Event X)) → (A → B → C → ⊥) → join p q r e l ≡ l
  join_out (yes p) (yes q) (yes r) e l n = absurd (n p q r)
  join_out (yes p) (yes q) (no r) e l n = refl
  join_out (yes p) (no q) (yes r) e l n = refl
  join_out (yes p) (no q) (no r) e l n = refl
  join_out (no p) (yes q) (yes r) e l n = refl
  join_out (no p) (yes q) (no r) e l n = refl
  join_out (no p) (no q) (yes r) e l n = refl
  join_out (no p) (no q) (no r) e l n = refl

  taken_in : (t a b : ℕ) (e : Event X) (es : List (Event X)) → thread e ≡ t → a ≤ suc (length es) → suc (length es) ≤ b → taken t a b (e ∷ es) ≡ e ∷ taken t a b es
  unfolding taken
  taken_in t a b e es p q r = join_in (ℕ_discrete (thread e) t) (dec_le a (suc (length es))) (dec_le (suc (length es)) b) e (taken t a b es) p q r

  taken_other : (t a b : ℕ) (e : Event X) (es : List (Event X)) → (thread e ≡ t → ⊥) → taken t a b (e ∷ es) ≡ taken t a b es
  unfolding taken
  taken_other t a b e es n = join_out (ℕ_discrete (thread e) t) (dec_le a (suc (length es))) (dec_le (suc (length es)) b) e (taken t a b es) (λ p q r. n p)

  taken_before : (t a b : ℕ) (e : Event X) (es : List (Event X)) → suc (length es) < a → taken t a b (e ∷ es) ≡ taken t a b es
  unfolding taken
  taken_before t a b e es n = join_out (ℕ_discrete (thread e) t) (dec_le a (suc (length es))) (dec_le (suc (length es)) b) e (taken t a b es) (λ p q r. omega arith)

  taken_after : (t a b : ℕ) (e : Event X) (es : List (Event X)) → b ≤ length es → taken t a b (e ∷ es) ≡ taken t a b es
  unfolding taken
  taken_after t a b e es n = join_out (ℕ_discrete (thread e) t) (dec_le a (suc (length es))) (dec_le (suc (length es)) b) e (taken t a b es) (λ p q r. omega arith)

  -- nothing stands at a position past the list
  taken_none : (t a b : ℕ) (es : List (Event X)) → length es < a → taken t a b es ≡ []
  taken_none t a b [] h = unfold taken in refl
  taken_none t a b (e ∷ es) h = taken_before t a b e es h ∙ taken_none t a b es (omega arith)

  -- an end past the list is as good as the list's
  taken_end : (t a b c : ℕ) (es : List (Event X)) → length es ≤ b → length es ≤ c → taken t a b es ≡ taken t a c es
  unfolding taken
  taken_end t a b c [] p q = refl
  taken_end t a b c (e ∷ es) p q = step (ℕ_discrete (thread e) t) (dec_le a (suc (length es))) (dec_le (suc (length es)) b) (dec_le (suc (length es)) c) (taken_end t a b c es (omega arith) (omega arith))
    where
      step : {A B : Type 0} (d : Dec A) (d' : Dec B) (r : Dec (suc (length es) ≤ b)) (s : Dec (suc (length es) ≤ c)) → taken t a b es ≡ taken t a c es
          → join d d' r e (taken t a b es) ≡ join d d' s e (taken t a c es)
      step (yes x) (yes y) (yes r) (yes s) h = ap (λ l. e ∷ l) h
      step (yes x) (yes y) (yes r) (no s) h = absurd (s q)
      step (yes x) (yes y) (no r) s h = absurd (r p)
      step (yes x) (no y) (yes r) (yes s) h = h
      step (yes x) (no y) (yes r) (no s) h = h
      step (yes x) (no y) (no r) s h = absurd (r p)
      step (no x) (yes y) (yes r) (yes s) h = h
      step (no x) (yes y) (yes r) (no s) h = h
      step (no x) (yes y) (no r) s h = absurd (r p)
      step (no x) (no y) (yes r) (yes s) h = h
      step (no x) (no y) (yes r) (no s) h = h
      step (no x) (no y) (no r) s h = absurd (r p)

  -- where a section stands in the trace
  pub record Placed (es : List (Event X)) (s : Section X) : Type 0 where
    pub listed : s.events ≡ taken s.owner s.first s.last es
    pub low : 0 < s.first
    pub rise : s.first ≤ s.top
    pub over : s.top ≤ s.last
    pub ends : s.last ≤ length es

  -- the section goes on: it has all of t's events since its first
  abbrev pub Open : ℕ → List (Event X) → Section X → Type 0
  Open t es s = s.events ≡ taken t s.first (length es) es

  -- t has a section, and its current one goes on
  unfoldable pub Now : ℕ → List (Event X) → List (Section X) → Type 0
  Now t es [] = ⊥
  Now t es (s ∷ ss) = either (ℕ_discrete s.owner t) (Open t es s) (Now t es ss)

  -- the positions of the last K's fall
  unfoldable pub Falling : List (Section X) → Type 0
  Falling [] = Unit {0}
  Falling (s ∷ ss) = All (λ (r : Section X). r.top < s.top) ss × Falling ss

  now_front : (t : ℕ) (es : List (Event X)) (s : Section X) (ss : List (Section X)) → s.owner ≡ t → Open t es s → Now t es (s ∷ ss)
  unfolding Now
  now_front t es s ss p o = step (ℕ_discrete s.owner t)
    where
      step : (d : Dec (s.owner ≡ t)) → either d (Open t es s) (Now t es ss)
      step (yes q) = o
      step (no q) = absurd (q p)

  now_behind : (t : ℕ) (es : List (Event X)) (s : Section X) (ss : List (Section X)) → (s.owner ≡ t → ⊥) → Now t es ss → Now t es (s ∷ ss)
  unfolding Now
  now_behind t es s ss p o = step (ℕ_discrete s.owner t)
    where
      step : (d : Dec (s.owner ≡ t)) → either d (Open t es s) (Now t es ss)
      step (yes q) = absurd (p q)
      step (no q) = o

  now_push_other : (t u n : ℕ) (e : Event X) (es : List (Event X)) (ss : List (Section X)) → (t ≡ u → ⊥) → Now u es ss → Now u es (push t n e ss)
  unfolding Now push
  now_push_other t u n e es [] o h = absurd h
  now_push_other t u n e es (s ∷ ss) o h = step (ℕ_discrete s.owner t) (ℕ_discrete s.owner u) refl h (now_push_other t u n e es ss o)
    where
      step : (d : Dec (s.owner ≡ t)) (d' : Dec (s.owner ≡ u)) → ℕ_discrete s.owner u ≡ d' → either d' (Open u es s) (Now u es ss) → (Now u es ss → Now u es (push t n e ss))
          → Now u es (ite {C = List (Section X)} d (grown n e s ∷ ss) (s ∷ push t n e ss))
      step (yes p) (yes p') q h r = absurd (o (sym p ∙ p'))
      step (yes p) (no p') q h r = rw q h
      step (no p) (yes p') q h r = rw q h
      step (no p) (no p') q h r = rw q (r h)

  now_without : (t u : ℕ) (es : List (Event X)) (ss : List (Section X)) → (t ≡ u → ⊥) → Now u es ss → Now u es (without t ss)
  unfolding Now without
  now_without t u es [] o h = absurd h
  now_without t u es (s ∷ ss) o h = step (ℕ_discrete s.owner t) (ℕ_discrete s.owner u) refl h (now_without t u es ss o)
    where
      step : (d : Dec (s.owner ≡ t)) (d' : Dec (s.owner ≡ u)) → ℕ_discrete s.owner u ≡ d' → either d' (Open u es s) (Now u es ss) → (Now u es ss → Now u es (without t ss))
          → Now u es (ite {C = List (Section X)} d ss (s ∷ without t ss))
      step (yes p) (yes p') q h r = absurd (o (sym p ∙ p'))
      step (yes p) (no p') q h r = h
      step (no p) (yes p') q h r = rw q h
      step (no p) (no p') q h r = rw q (r h)

  without_all : (P : Section X → Type 0) (t : ℕ) (ss : List (Section X)) → All P ss → All P (without t ss)
  unfolding without
  without_all P t [] h = tt
  without_all P t (s ∷ ss) h = step (ℕ_discrete s.owner t) (without_all P t ss h.1)
    where
      step : (d : Dec (s.owner ≡ t)) → All P (without t ss) → All P (ite {C = List (Section X)} d ss (s ∷ without t ss))
      step (yes p) r = h.1
      step (no p) r = (h.0, r)

  without_falling : (t : ℕ) (ss : List (Section X)) → Falling ss → Falling (without t ss)
  unfolding without Falling
  without_falling t [] h = tt
  without_falling t (s ∷ ss) h = step (ℕ_discrete s.owner t) (without_falling t ss h.1)
    where
      step : (d : Dec (s.owner ≡ t)) → Falling (without t ss) → Falling (ite {C = List (Section X)} d ss (s ∷ without t ss))
      step (yes p) r = h.1
      step (no p) r = (without_all (λ (q : Section X). q.top < s.top) t ss h.0, r)

  -- t's current section, where there is one
  pub current_is : (P : Section X → Type 0) (t n : ℕ) (es : List (Event X)) (ss : List (Section X)) → Now t es ss → All P ss
      → P (current t n ss) × ((current t n ss).owner ≡ t) × Open t es (current t n ss)
  unfolding Now current
  current_is P t n es [] h a = absurd h
  current_is P t n es (s ∷ ss) h a = step (ℕ_discrete s.owner t) h (λ k. current_is P t n es ss k a.1)
    where
      step : (d : Dec (s.owner ≡ t)) → either d (Open t es s) (Now t es ss)
          → (Now t es ss → P (current t n ss) × ((current t n ss).owner ≡ t) × Open t es (current t n ss))
          → P (ite {C = Section X} d s (current t n ss)) × ((ite {C = Section X} d s (current t n ss)).owner ≡ t) × Open t es (ite {C = Section X} d s (current t n ss))
      step (yes p) h r = (a.0, p, h)
      step (no p) h r = r h

  push_all : (P Q : Section X → Type 0) (t n : ℕ) (e : Event X) (es : List (Event X)) (ss : List (Section X)) → Now t es ss → All P ss
      → ((s : Section X) → P s → Q s) → ((s : Section X) → P s → s.owner ≡ t → Open t es s → Q (grown n e s)) → All Q (push t n e ss)
  unfolding Now push
  push_all P Q t n e es [] h a f g = absurd h
  push_all P Q t n e es (s ∷ ss) h a f g = step (ℕ_discrete s.owner t) h (λ k. push_all P Q t n e es ss k a.1 f g)
    where
      step : (d : Dec (s.owner ≡ t)) → either d (Open t es s) (Now t es ss) → (Now t es ss → All Q (push t n e ss))
          → All Q (ite {C = List (Section X)} d (grown n e s ∷ ss) (s ∷ push t n e ss))
      step (yes p) h r = (g s a.0 p h, all_map P Q ss a.1 f)
      step (no p) h r = (f s a.0, r h)

  push_falling : (t n : ℕ) (e : Event X) (es : List (Event X)) (ss : List (Section X)) → Now t es ss → Falling ss → Falling (push t n e ss)
  unfolding Now push Falling
  push_falling t n e es [] h a = absurd h
  push_falling t n e es (s ∷ ss) h a = step (ℕ_discrete s.owner t) h (λ k. push_falling t n e es ss k a.1)
    where
      low : Section X → Type 0
      low r = r.top < s.top

      step : (d : Dec (s.owner ≡ t)) → either d (Open t es s) (Now t es ss) → (Now t es ss → Falling (push t n e ss))
          → Falling (ite {C = List (Section X)} d (grown n e s ∷ ss) (s ∷ push t n e ss))
      step (yes p) h r = a
      step (no p) h r = (push_all low low t n e es ss h a.0 (λ q k. k) (λ q k o w. k), r h)

  module _ (e : Event X) (es : List (Event X)) where
    open_other : (u : ℕ) (s : Section X) → (thread e ≡ u → ⊥) → Open u es s → Open u (e ∷ es) s
    open_other u s o h = h ∙ taken_end u s.first (length es) (suc (length es)) es (omega arith) (omega arith) ∙ sym (taken_other u s.first (suc (length es)) e es o)

    now_later : (u : ℕ) (ss : List (Section X)) → (thread e ≡ u → ⊥) → Now u es ss → Now u (e ∷ es) ss
    unfolding Now
    now_later u [] o h = absurd h
    now_later u (s ∷ ss) o h = step (ℕ_discrete s.owner u) h (now_later u ss o)
      where
        step : (d : Dec (s.owner ≡ u)) → either d (Open u es s) (Now u es ss) → (Now u es ss → Now u (e ∷ es) ss) → either d (Open u (e ∷ es) s) (Now u (e ∷ es) ss)
        step (yes p) h r = open_other u s o h
        step (no p) h r = r h

    placed_later : (s : Section X) → Placed es s → Placed (e ∷ es) s
    placed_later s p = record {
      listed = p.listed ∙ sym (taken_after s.owner s.first s.last e es p.ends);
      low = p.low;
      rise = p.rise;
      over = p.over;
      ends = let o = p.ends in omega arith;
    }

    -- the events of a section that goes on, with e
    more : (s : Section X) → Placed es s → s.owner ≡ thread e → Open (thread e) es s → e ∷ s.events ≡ taken s.owner s.first (suc (length es)) (e ∷ es)
    more s p q o =
        ap (λ l. e ∷ l) (o ∙ taken_end (thread e) s.first (length es) (suc (length es)) es (omega arith) (omega arith) ∙ ap (λ t. taken t s.first (suc (length es)) es) (sym q))
        ∙ sym (taken_in s.owner s.first (suc (length es)) e es (sym q) (omega (arith, p.rise, p.over, p.ends)) (omega arith))

    placed_grown : (s : Section X) → Placed es s → s.owner ≡ thread e → Open (thread e) es s → Placed (e ∷ es) (grown (suc (length es)) e s)
    placed_grown s p q o = record { listed = more s p q o; low = p.low; rise = p.rise; over = omega (arith, p.over, p.ends); ends = omega arith }

    placed_raised : (s : Section X) → Placed es s → s.owner ≡ thread e → Open (thread e) es s → Placed (e ∷ es) (raised (thread e) (suc (length es)) e s)
    placed_raised s p q o = record { listed = more s p q o ∙ ap (λ t. taken t s.first (suc (length es)) (e ∷ es)) q; low = p.low; rise = omega (arith, p.rise, p.over, p.ends); over = omega arith; ends = omega arith }

    placed_opened : Placed (e ∷ es) (opened (thread e) (suc (length es)) e)
    placed_opened = record {
      listed = sym (taken_in (thread e) (suc (length es)) (suc (length es)) e es refl (omega arith) (omega arith) ∙ ap (λ l. e ∷ l) (taken_none (thread e) (suc (length es)) (suc (length es)) es (omega arith)));
      low = omega arith;
      rise = omega arith;
      over = omega arith;
      ends = omega arith;
    }

    now_push_own : (ss : List (Section X)) → All (Placed es) ss → Now (thread e) es ss → Now (thread e) (e ∷ es) (push (thread e) (suc (length es)) e ss)
    unfolding Now push
    now_push_own [] a h = absurd h
    now_push_own (s ∷ ss) a h = step (ℕ_discrete s.owner (thread e)) refl h (now_push_own ss a.1)
      where
        step : (d : Dec (s.owner ≡ thread e)) → ℕ_discrete s.owner (thread e) ≡ d → either d (Open (thread e) es s) (Now (thread e) es ss)
            → (Now (thread e) es ss → Now (thread e) (e ∷ es) (push (thread e) (suc (length es)) e ss))
            → Now (thread e) (e ∷ es) (ite {C = List (Section X)} d (grown (suc (length es)) e s ∷ ss) (s ∷ push (thread e) (suc (length es)) e ss))
        step (yes p) q h r = rw q (more s a.0 p h ∙ ap (λ t. taken t s.first (suc (length es)) (e ∷ es)) p)
        step (no p) q h r = rw q (r h)

module _ {X : Type 0} (𝓛 : Locks X) where
  -- the sections stand in the trace as they should, and fall by their last K's
  pub record Traced (es : List (Event X)) (ss : List (Section X)) : Type 0 where
    pub placed : All (Placed es) ss
    pub falling : Falling ss
    pub now : (t : ℕ) → Busy 𝓛 t es → Now t es ss

  pub busy_back : (t : ℕ) (e : Event X) (es : List (Event X)) → ((l j : ℕ) → e ≡ lock j t l → ⊥) → Busy 𝓛 t (e ∷ es) → Busy 𝓛 t es
  busy_back t e es n b = step (𝓛.held_back t b.0 e es b.1)
    where
      step : ((j : ℕ) × (e ≡ lock j t b.0)) ⊎ 𝓛.Held t b.0 es → Busy 𝓛 t es
      step (inl p) = absurd (n b.0 p.0 p.1)
      step (inr h) = (b.0, h)

  module _ (e : Event X) (es : List (Event X)) (ss : List (Section X)) (k : Traced es ss) where
    all_later : All (Placed (e ∷ es)) ss
    all_later = all_map (Placed es) (Placed (e ∷ es)) ss k.placed (placed_later e es)

    traced_out : ((t l j : ℕ) → e ≡ lock j t l → ⊥) → (Busy 𝓛 (thread e) es → ⊥) → Traced (e ∷ es) ss
    traced_out nl i = record { placed = all_later; falling = k.falling; now = now }
      where
        now : (t : ℕ) → Busy 𝓛 t (e ∷ es) → Now t (e ∷ es) ss
        now t b = step (ℕ_discrete (thread e) t) (busy_back t e es (nl t) b)
          where
            step : Dec (thread e ≡ t) → Busy 𝓛 t es → Now t (e ∷ es) ss
            step (yes p) b = absurd (i (subst (λ u. Busy 𝓛 u es) (sym p) b))
            step (no p) b = now_later e es t ss p (k.now t b)

    traced_push : ((t l j : ℕ) → e ≡ lock j t l → ⊥) → Busy 𝓛 (thread e) es → Traced (e ∷ es) (push (thread e) (suc (length es)) e ss)
    traced_push nl i = record {
      placed = push_all (Placed es) (Placed (e ∷ es)) (thread e) (suc (length es)) e es ss (k.now (thread e) i) k.placed (placed_later e es) (placed_grown e es);
      falling = push_falling (thread e) (suc (length es)) e es ss (k.now (thread e) i) k.falling;
      now = now;
    }
      where
        now : (t : ℕ) → Busy 𝓛 t (e ∷ es) → Now t (e ∷ es) (push (thread e) (suc (length es)) e ss)
        now t b = step (ℕ_discrete (thread e) t) (busy_back t e es (nl t) b)
          where
            step : Dec (thread e ≡ t) → Busy 𝓛 t es → Now t (e ∷ es) (push (thread e) (suc (length es)) e ss)
            step (yes p) b = subst (λ u. Now u (e ∷ es) (push (thread e) (suc (length es)) e ss)) p (now_push_own e es ss k.placed (k.now (thread e) i))
            step (no p) b = now_push_other (thread e) t (suc (length es)) e (e ∷ es) ss p (now_later e es t ss p (k.now t b))

    tops : All (λ (r : Section X). r.top < suc (length es)) ss
    tops = all_map (Placed es) (λ (r : Section X). r.top < suc (length es)) ss k.placed (λ s p. omega (arith, p.over, p.ends))

    other_busy : (t : ℕ) → (thread e ≡ t → ⊥) → Busy 𝓛 t (e ∷ es) → Busy 𝓛 t es
    other_busy t n b = busy_back t e es (λ l j p. n (ap thread p)) b

    traced_open : Traced (e ∷ es) (opened (thread e) (suc (length es)) e ∷ ss)
    unfolding Falling
    traced_open = record { placed = (placed_opened e es, all_later); falling = (tops, k.falling); now = now }
      where
        now : (t : ℕ) → Busy 𝓛 t (e ∷ es) → Now t (e ∷ es) (opened (thread e) (suc (length es)) e ∷ ss)
        now t b = step (ℕ_discrete (thread e) t)
          where
            step : Dec (thread e ≡ t) → Now t (e ∷ es) (opened (thread e) (suc (length es)) e ∷ ss)
            step (yes p) = now_front t (e ∷ es) (opened (thread e) (suc (length es)) e) ss p ((placed_opened e es).listed ∙ ap (λ u. taken u (suc (length es)) (suc (length es)) (e ∷ es)) p)
            step (no p) = now_behind t (e ∷ es) (opened (thread e) (suc (length es)) e) ss p (now_later e es t ss p (k.now t (other_busy t p b)))

    traced_raise : Busy 𝓛 (thread e) es → Traced (e ∷ es) (raised (thread e) (suc (length es)) e (current (thread e) (suc (length es)) ss) ∷ without (thread e) ss)
    unfolding Falling
    traced_raise i = record { placed = (here, without_all (Placed (e ∷ es)) (thread e) ss all_later); falling = (without_all (λ (r : Section X). r.top < suc (length es)) (thread e) ss tops, without_falling (thread e) ss k.falling); now = now }
      where
        was : Placed es (current (thread e) (suc (length es)) ss) × ((current (thread e) (suc (length es)) ss).owner ≡ thread e) × Open (thread e) es (current (thread e) (suc (length es)) ss)
        was = current_is (Placed es) (thread e) (suc (length es)) es ss (k.now (thread e) i) k.placed

        here : Placed (e ∷ es) (raised (thread e) (suc (length es)) e (current (thread e) (suc (length es)) ss))
        here = placed_raised e es (current (thread e) (suc (length es)) ss) was.0 was.1 was.2

        now : (t : ℕ) → Busy 𝓛 t (e ∷ es) → Now t (e ∷ es) (raised (thread e) (suc (length es)) e (current (thread e) (suc (length es)) ss) ∷ without (thread e) ss)
        now t b = step (ℕ_discrete (thread e) t)
          where
            top : Section X
            top = raised (thread e) (suc (length es)) e (current (thread e) (suc (length es)) ss)

            step : Dec (thread e ≡ t) → Now t (e ∷ es) (top ∷ without (thread e) ss)
            step (yes p) = now_front t (e ∷ es) top (without (thread e) ss) p (here.listed ∙ ap (λ u. taken u top.first (suc (length es)) (e ∷ es)) p)
            step (no p) = now_behind t (e ∷ es) top (without (thread e) ss) p (now_without (thread e) t (e ∷ es) ss p (now_later e es t ss p (k.now t (other_busy t p b))))

  pub traced : (es : List (Event X)) → Traced es (sections 𝓛 es)
  unfolding sections next Falling
  traced [] = record { placed = tt; falling = tt; now = λ t b. absurd (𝓛.held_none t b.0 b.1) }
  traced (lock j t l ∷ es) = step (𝓛.busy? t es) (traced es)
    where
      step : (d : Dec (Busy 𝓛 t es)) → Traced es (sections 𝓛 es) → Traced (lock j t l ∷ es) (next (lock j t l) d (suc (length es)) (sections 𝓛 es))
      step (yes b) k = traced_raise (lock j t l) es (sections 𝓛 es) k b
      step (no b) k = traced_open (lock j t l) es (sections 𝓛 es) k
  traced (unlock j t l ∷ es) = step (𝓛.busy? t es) (traced es)
    where
      nl : (u m i : ℕ) → ◌≡◌ {A = Event X} (unlock j t l) (lock i u m) → ⊥
      nl u m i p = let z : ◌≡◌ {A = ℕ} 0 1 = cc in omega arith

      step : (d : Dec (Busy 𝓛 t es)) → Traced es (sections 𝓛 es) → Traced (unlock j t l ∷ es) (next (unlock j t l) d (suc (length es)) (sections 𝓛 es))
      step (yes b) k = traced_push (unlock j t l) es (sections 𝓛 es) k nl b
      step (no b) k = traced_out (unlock j t l) es (sections 𝓛 es) k nl b
  traced (idle t ∷ es) = step (𝓛.busy? t es) (traced es)
    where
      nl : (u m i : ℕ) → ◌≡◌ {A = Event X} (idle t) (lock i u m) → ⊥
      nl u m i p = let z : ◌≡◌ {A = ℕ} 0 1 = cc in omega arith

      step : (d : Dec (Busy 𝓛 t es)) → Traced es (sections 𝓛 es) → Traced (idle t ∷ es) (next (idle t) d (suc (length es)) (sections 𝓛 es))
      step (yes b) k = traced_push (idle t) es (sections 𝓛 es) k nl b
      step (no b) k = traced_out (idle t) es (sections 𝓛 es) k nl b
  traced (mem κ t v x ∷ es) = step (𝓛.busy? t es) (traced es)
    where
      nl : (u m i : ℕ) → ◌≡◌ {A = Event X} (mem κ t v x) (lock i u m) → ⊥
      nl u m i p = let z : ◌≡◌ {A = ℕ} 0 1 = cc in omega arith

      step : (d : Dec (Busy 𝓛 t es)) → Traced es (sections 𝓛 es) → Traced (mem κ t v x ∷ es) (next (mem κ t v x) d (suc (length es)) (sections 𝓛 es))
      step (yes b) k = traced_push (mem κ t v x) es (sections 𝓛 es) k nl b
      step (no b) k = traced_out (mem κ t v x) es (sections 𝓛 es) k nl b
