-- Reordering by last K keeps each variable's events.
use Prim.Native.Nat.{ℕ, suc}
use native.Mathlib.Decide.{ℕ_discrete}
use mathlib.Core.Path.{◌≡◌, refl, sym, ◌∙◌, ap}
use mathlib.Core.Logic.{◌⊎◌, inl, inr, ite}
use mathlib.Core.Bool.{Bool, true, false}
use mathlib.Core.List.{List, [], ◌∷◌, ◌++◌, cons≢nil}
use native.Mathlib.Omega.{arith}
use lib.ListN.{length}
use Rattle.serial.specs.Events.{Event, lock, unlock, idle, mem, thread}
use Rattle.serial.specs.Sections.{Section, opened, grown, raised, push, current, without, next, flat, Locks, Busy, Shrunk, sections, Exclusive, TwoPhase, Under}

abbrev pub keep : {A : Type 0} → Bool → A → List A → List A
keep true a l = a ∷ l
keep false a l = l

abbrev pub unless : {A : Type 0} → Dec A → Type 0 → Type 0
unless (yes a) P = Unit {0}
unless (no n) P = P

module _ {X : Type 0} (hit : Event X → Bool) where
  -- the events of a list that pass the test
  unfoldable pub proj : List (Event X) → List (Event X)
  proj [] = []
  proj (e ∷ es) = keep (hit e) e (proj es)

  keep_append : (b : Bool) (e : Event X) (l m : List (Event X)) → keep b e l ++ m ≡ keep b e (l ++ m)
  keep_append true e l m = refl
  keep_append false e l m = refl

  pub proj_append : (a b : List (Event X)) → proj (a ++ b) ≡ proj a ++ proj b
  unfolding proj
  proj_append [] b = refl
  proj_append (e ∷ a) b = ap (keep (hit e) e) (proj_append a b) ∙ sym (keep_append (hit e) e (proj a) (proj b))

  -- no section in front of t's current one has an event that passes
  unfoldable pub Clear : ℕ → List (Section X) → Type 0
  Clear t [] = Unit {0}
  Clear t (s ∷ ss) = unless (ℕ_discrete s.owner t) ((proj s.events ≡ []) × Clear t ss)

  -- the events of t's current section
  unfoldable pub cur : ℕ → List (Section X) → List (Event X)
  cur t [] = []
  cur t (s ∷ ss) = ite {C = List (Event X)} (ℕ_discrete s.owner t) s.events (cur t ss)

  current_events : (t n : ℕ) (ss : List (Section X)) → (current t n ss).events ≡ cur t ss
  unfolding current cur
  current_events t n [] = refl
  current_events t n (s ∷ ss) = step (ℕ_discrete s.owner t) (current_events t n ss)
    where
      step : (d : Dec (s.owner ≡ t)) → (current t n ss).events ≡ cur t ss
          → (ite {C = Section X} d s (current t n ss)).events ≡ ite {C = List (Event X)} d s.events (cur t ss)
      step (yes p) h = refl
      step (no p) h = h

  -- ---- t's section grows

  -- by an event that does not pass
  push_miss : (t n : ℕ) (e : Event X) (ss : List (Section X)) → hit e ≡ false → proj (flat (push t n e ss)) ≡ proj (flat ss)
  unfolding push flat proj
  push_miss t n e [] m = rw m
  push_miss t n e (s ∷ ss) m = step (ℕ_discrete s.owner t) (push_miss t n e ss m)
    where
      step : (d : Dec (s.owner ≡ t)) → proj (flat (push t n e ss)) ≡ proj (flat ss)
          → proj (flat (ite {C = List (Section X)} d (grown n e s ∷ ss) (s ∷ push t n e ss))) ≡ proj (s.events ++ flat ss)
      step (yes p) h = rw m
      step (no p) h = rw (proj_append, proj_append s.events (flat ss), h)

  -- by an event that passes, where the sections in front have none
  push_hit : (t n : ℕ) (e : Event X) (ss : List (Section X)) → hit e ≡ true → Clear t ss → proj (flat (push t n e ss)) ≡ e ∷ proj (flat ss)
  unfolding push flat proj Clear
  push_hit t n e [] m c = rw m
  push_hit t n e (s ∷ ss) m c = step (ℕ_discrete s.owner t) (push_hit t n e ss m) c
    where
      step : (d : Dec (s.owner ≡ t)) → (Clear t ss → proj (flat (push t n e ss)) ≡ e ∷ proj (flat ss))
          → unless d ((proj s.events ≡ []) × Clear t ss)
          → proj (flat (ite {C = List (Section X)} d (grown n e s ∷ ss) (s ∷ push t n e ss))) ≡ e ∷ proj (s.events ++ flat ss)
      step (yes p) h c = rw m
      step (no p) h c = rw (proj_append, proj_append s.events (flat ss), c.0, h c.1)

  push_clear : (t n : ℕ) (e : Event X) (ss : List (Section X)) → Clear t ss → Clear t (push t n e ss)
  unfolding push Clear
  push_clear t n e [] c = step (ℕ_discrete t t)
    where
      step : (d : Dec (t ≡ t)) → unless d ((proj (e ∷ []) ≡ []) × Unit {0})
      step (yes p) = tt
      step (no p) = absurd (p refl)
  push_clear t n e (s ∷ ss) c = step (ℕ_discrete s.owner t) refl (push_clear t n e ss) c
    where
      step : (d : Dec (s.owner ≡ t)) → ℕ_discrete s.owner t ≡ d → (Clear t ss → Clear t (push t n e ss))
          → unless d ((proj s.events ≡ []) × Clear t ss)
          → Clear t (ite {C = List (Section X)} d (grown n e s ∷ ss) (s ∷ push t n e ss))
      step (yes p) q h c = rw q tt
      step (no p) q h c = rw q (c.0, h c.1)

  push_other_clear : (t u n : ℕ) (e : Event X) (ss : List (Section X)) → (u ≡ t → ⊥) → hit e ≡ false → Clear t ss → Clear t (push u n e ss)
  unfolding push Clear proj
  push_other_clear t u n e [] o m c = step (ℕ_discrete u t)
    where
      step : (d : Dec (u ≡ t)) → unless d ((proj (e ∷ []) ≡ []) × Unit {0})
      step (yes p) = tt
      step (no p) = (rw m, tt)
  push_other_clear t u n e (s ∷ ss) o m c = step (ℕ_discrete s.owner u) (ℕ_discrete s.owner t) refl (push_other_clear t u n e ss o m) c
    where
      step : (d : Dec (s.owner ≡ u)) (d' : Dec (s.owner ≡ t)) → ℕ_discrete s.owner t ≡ d' → (Clear t ss → Clear t (push u n e ss))
          → unless d' ((proj s.events ≡ []) × Clear t ss)
          → Clear t (ite {C = List (Section X)} d (grown n e s ∷ ss) (s ∷ push u n e ss))
      step (yes p) (yes p') q h c = rw q tt
      step (no p) (yes p') q h c = rw q tt
      step (yes p) (no p') q h c = rw q (rw m c.0, c.1)
      step (no p) (no p') q h c = rw q (c.0, h c.1)

  push_cur : (t n : ℕ) (e : Event X) (ss : List (Section X)) → cur t (push t n e ss) ≡ e ∷ cur t ss
  unfolding push cur
  push_cur t n e [] = step (ℕ_discrete t t)
    where
      step : (d : Dec (t ≡ t)) → ite {C = List (Event X)} d (e ∷ []) [] ≡ e ∷ []
      step (yes p) = refl
      step (no p) = absurd (p refl)
  push_cur t n e (s ∷ ss) = step (ℕ_discrete s.owner t) refl (push_cur t n e ss)
    where
      step : (d : Dec (s.owner ≡ t)) → ℕ_discrete s.owner t ≡ d → cur t (push t n e ss) ≡ e ∷ cur t ss
          → cur t (ite {C = List (Section X)} d (grown n e s ∷ ss) (s ∷ push t n e ss)) ≡ e ∷ ite {C = List (Event X)} d s.events (cur t ss)
      step (yes p) q h = rw q
      step (no p) q h = rw q h

  push_other_cur : (t u n : ℕ) (e : Event X) (ss : List (Section X)) → (u ≡ t → ⊥) → cur t (push u n e ss) ≡ cur t ss
  unfolding push cur
  push_other_cur t u n e [] o = step (ℕ_discrete u t)
    where
      step : (d : Dec (u ≡ t)) → ite {C = List (Event X)} d (e ∷ []) [] ≡ []
      step (yes p) = absurd (o p)
      step (no p) = refl
  push_other_cur t u n e (s ∷ ss) o = step (ℕ_discrete s.owner u) (ℕ_discrete s.owner t) refl (push_other_cur t u n e ss o)
    where
      step : (d : Dec (s.owner ≡ u)) (d' : Dec (s.owner ≡ t)) → ℕ_discrete s.owner t ≡ d' → cur t (push u n e ss) ≡ cur t ss
          → cur t (ite {C = List (Section X)} d (grown n e s ∷ ss) (s ∷ push u n e ss)) ≡ ite {C = List (Event X)} d' s.events (cur t ss)
      step (yes p) (yes p') q h = absurd (o (sym p ∙ p'))
      step (yes p) (no p') q h = rw q
      step (no p) (yes p') q h = rw q
      step (no p) (no p') q h = rw q h

  -- ---- t's section is put in front

  without_clear : (t : ℕ) (ss : List (Section X)) → Clear t ss → proj (cur t ss) ++ proj (flat (without t ss)) ≡ proj (flat ss)
  unfolding without flat proj Clear cur
  without_clear t [] c = refl
  without_clear t (s ∷ ss) c = step (ℕ_discrete s.owner t) (without_clear t ss) c
    where
      step : (d : Dec (s.owner ≡ t)) → (Clear t ss → proj (cur t ss) ++ proj (flat (without t ss)) ≡ proj (flat ss))
          → unless d ((proj s.events ≡ []) × Clear t ss)
          → proj (ite {C = List (Event X)} d s.events (cur t ss)) ++ proj (flat (ite {C = List (Section X)} d ss (s ∷ without t ss))) ≡ proj (s.events ++ flat ss)
      step (yes p) h c = sym (proj_append s.events (flat ss))
      step (no p) h c = rw (proj_append s.events (flat (without t ss)), proj_append s.events (flat ss), c.0) (h c.1)

  without_none : (t : ℕ) (ss : List (Section X)) → proj (cur t ss) ≡ [] → proj (flat (without t ss)) ≡ proj (flat ss)
  unfolding without flat proj cur
  without_none t [] c = refl
  without_none t (s ∷ ss) c = step (ℕ_discrete s.owner t) (without_none t ss) c
    where
      step : (d : Dec (s.owner ≡ t)) → (proj (cur t ss) ≡ [] → proj (flat (without t ss)) ≡ proj (flat ss))
          → proj (ite {C = List (Event X)} d s.events (cur t ss)) ≡ []
          → proj (flat (ite {C = List (Section X)} d ss (s ∷ without t ss))) ≡ proj (s.events ++ flat ss)
      step (yes p) h c = rw (proj_append s.events (flat ss), c)
      step (no p) h c = rw (proj_append s.events (flat (without t ss)), proj_append s.events (flat ss), h c)

  without_other_clear : (t u : ℕ) (ss : List (Section X)) → (u ≡ t → ⊥) → Clear t ss → Clear t (without u ss)
  unfolding without Clear
  without_other_clear t u [] o c = tt
  without_other_clear t u (s ∷ ss) o c = step (ℕ_discrete s.owner u) (ℕ_discrete s.owner t) refl (without_other_clear t u ss o) c
    where
      step : (d : Dec (s.owner ≡ u)) (d' : Dec (s.owner ≡ t)) → ℕ_discrete s.owner t ≡ d' → (Clear t ss → Clear t (without u ss))
          → unless d' ((proj s.events ≡ []) × Clear t ss)
          → Clear t (ite {C = List (Section X)} d ss (s ∷ without u ss))
      step (yes p) (yes p') q h c = absurd (o (sym p ∙ p'))
      step (yes p) (no p') q h c = c.1
      step (no p) (yes p') q h c = rw q tt
      step (no p) (no p') q h c = rw q (c.0, h c.1)

  without_other_cur : (t u : ℕ) (ss : List (Section X)) → (u ≡ t → ⊥) → cur t (without u ss) ≡ cur t ss
  unfolding without cur
  without_other_cur t u [] o = refl
  without_other_cur t u (s ∷ ss) o = step (ℕ_discrete s.owner u) (ℕ_discrete s.owner t) refl (without_other_cur t u ss o)
    where
      step : (d : Dec (s.owner ≡ u)) (d' : Dec (s.owner ≡ t)) → ℕ_discrete s.owner t ≡ d' → cur t (without u ss) ≡ cur t ss
          → cur t (ite {C = List (Section X)} d ss (s ∷ without u ss)) ≡ ite {C = List (Event X)} d' s.events (cur t ss)
      step (yes p) (yes p') q h = absurd (o (sym p ∙ p'))
      step (yes p) (no p') q h = refl
      step (no p) (yes p') q h = rw q
      step (no p) (no p') q h = rw q h

  front_clear : (t : ℕ) (s : Section X) (ss : List (Section X)) → s.owner ≡ t → Clear t (s ∷ ss)
  unfolding Clear
  front_clear t s ss p = step (ℕ_discrete s.owner t)
    where
      step : (d : Dec (s.owner ≡ t)) → unless d ((proj s.events ≡ []) × Clear t ss)
      step (yes q) = tt
      step (no q) = absurd (q p)

  behind_clear : (t : ℕ) (s : Section X) (ss : List (Section X)) → proj s.events ≡ [] → Clear t ss → Clear t (s ∷ ss)
  unfolding Clear
  behind_clear t s ss p c = step (ℕ_discrete s.owner t)
    where
      step : (d : Dec (s.owner ≡ t)) → unless d ((proj s.events ≡ []) × Clear t ss)
      step (yes q) = tt
      step (no q) = (p, c)

  front_cur : (t : ℕ) (s : Section X) (ss : List (Section X)) → s.owner ≡ t → cur t (s ∷ ss) ≡ s.events
  unfolding cur
  front_cur t s ss p = step (ℕ_discrete s.owner t)
    where
      step : (d : Dec (s.owner ≡ t)) → ite {C = List (Event X)} d s.events (cur t ss) ≡ s.events
      step (yes q) = refl
      step (no q) = absurd (q p)

  behind_cur : (t : ℕ) (s : Section X) (ss : List (Section X)) → (s.owner ≡ t → ⊥) → cur t (s ∷ ss) ≡ cur t ss
  unfolding cur
  behind_cur t s ss p = step (ℕ_discrete s.owner t)
    where
      step : (d : Dec (s.owner ≡ t)) → ite {C = List (Event X)} d s.events (cur t ss) ≡ cur t ss
      step (yes q) = absurd (p q)
      step (no q) = refl

module _ {X : Type 0} (𝓛 : Locks X) where
  -- one thread at a time holds a lock
  pub mutex : (es : List (Event X)) → Exclusive 𝓛 es → (t u l : ℕ) → 𝓛.Held t l es → 𝓛.Held u l es → t ≡ u
  unfolding Exclusive
  mutex [] ok t u l ht hu = absurd (𝓛.held_none t l ht)
  mutex (e ∷ es) ok t u l ht hu = step (𝓛.held_back t l e es ht) (𝓛.held_back u l e es hu) (mutex es ok.1 t u l)
    where
      step : ((j : ℕ) × (e ≡ lock j t l)) ⊎ 𝓛.Held t l es → ((j : ℕ) × (e ≡ lock j u l)) ⊎ 𝓛.Held u l es → (𝓛.Held t l es → 𝓛.Held u l es → t ≡ u) → t ≡ u
      step (inl p) (inl q) h = let a = p.1 in let b = q.1 in cc
      step (inl p) (inr b) h = sym (ok.0 t l p.0 p.1 u b)
      step (inr a) (inl q) h = ok.0 u l q.0 q.1 t a
      step (inr a) (inr b) h = h a b

module _ {X : Type 0} (𝓛 : Locks X) (hit : Event X → Bool) (g : ℕ) where
  -- what holds of the sections ss of the events es
  pub record Kept (ss : List (Section X)) (es : List (Event X)) : Type 0 where
    -- the sections' events that pass are the trace's, in the trace's order
    pub same : proj hit (flat ss) ≡ proj hit es
    -- no section in front of the section of the thread that holds g has any
    pub clear : (t : ℕ) → 𝓛.Held t g es → Clear hit t ss
    -- before its first N, a section that has some has its thread hold g
    pub keeps : (t : ℕ) → Busy 𝓛 t es → (Shrunk 𝓛 t es → ⊥) → (proj hit (cur hit t ss) ≡ [] → ⊥) → 𝓛.Held t g es

  -- a thread that is growing after e was so before, unless e is its K; and e is no N of its
  not_shrunk : (t : ℕ) (e : Event X) (es : List (Event X)) → Busy 𝓛 t (e ∷ es) → (Shrunk 𝓛 t (e ∷ es) → ⊥) → Shrunk 𝓛 t es → ⊥
  unfolding Shrunk
  not_shrunk t e es b n s = n (b, inr s)

  not_unlock : (t : ℕ) (e : Event X) (es : List (Event X)) → Busy 𝓛 t (e ∷ es) → (Shrunk 𝓛 t (e ∷ es) → ⊥) → (m j : ℕ) → e ≡ unlock j t m → ⊥
  unfolding Shrunk
  not_unlock t e es b n m j p = n (b, inl (m, j, p))

  back : (t l : ℕ) (e : Event X) (es : List (Event X)) → ((j : ℕ) → e ≡ lock j t l → ⊥) → 𝓛.Held t l (e ∷ es) → 𝓛.Held t l es
  back t l e es n h = step (𝓛.held_back t l e es h)
    where
      step : ((j : ℕ) × (e ≡ lock j t l)) ⊎ 𝓛.Held t l es → 𝓛.Held t l es
      step (inl p) = absurd (n p.0 p.1)
      step (inr a) = a

  tell : (b : Bool) → (b ≡ false) ⊎ (b ≡ true)
  tell true = inr refl
  tell false = inl refl

  empty : (l : List (Event X)) → (l ≡ []) ⊎ (l ≡ [] → ⊥)
  empty [] = inl refl
  empty (a ∷ l) = inr cons≢nil

  proj_nil : proj hit [] ≡ []
  unfolding proj
  proj_nil = refl

  proj_miss : (e : Event X) (l : List (Event X)) → hit e ≡ false → proj hit (e ∷ l) ≡ proj hit l
  unfolding proj
  proj_miss e l m = rw m

  proj_hit : (e : Event X) (l : List (Event X)) → hit e ≡ true → proj hit (e ∷ l) ≡ e ∷ proj hit l
  unfolding proj
  proj_hit e l m = rw m

  module _ (e : Event X) (es : List (Event X)) (ss : List (Section X)) (k : Kept ss es) (ex : Exclusive 𝓛 (e ∷ es)) (tw : TwoPhase 𝓛 (e ∷ es))
      (un : hit e ≡ true → 𝓛.Held (thread e) g es) where
    -- an event that is no K joins its thread's section
    joined : ((t l j : ℕ) → e ≡ lock j t l → ⊥) → (n : ℕ) → Kept (push (thread e) n e ss) (e ∷ es)
    unfolding Exclusive
    joined nl n = record { same = same (tell (hit e)); clear = clear; keeps = keeps }
      where
        same : (hit e ≡ false) ⊎ (hit e ≡ true) → proj hit (flat (push (thread e) n e ss)) ≡ proj hit (e ∷ es)
        same (inl m) = push_miss hit (thread e) n e ss m ∙ k.same ∙ sym (proj_miss e es m)
        same (inr m) = push_hit hit (thread e) n e ss m (k.clear (thread e) (un m)) ∙ ap (λ l. e ∷ l) k.same ∙ sym (proj_hit e es m)

        clear : (t : ℕ) → 𝓛.Held t g (e ∷ es) → Clear hit t (push (thread e) n e ss)
        clear t h = step (ℕ_discrete (thread e) t) (tell (hit e))
          where
            h' : 𝓛.Held t g es
            h' = back t g e es (nl t g) h

            step : Dec (thread e ≡ t) → (hit e ≡ false) ⊎ (hit e ≡ true) → Clear hit t (push (thread e) n e ss)
            step (yes p) d = rw p (push_clear hit t n e ss (k.clear t h'))
            step (no p) (inl m) = push_other_clear hit t (thread e) n e ss p m (k.clear t h')
            step (no p) (inr m) = absurd (p (mutex 𝓛 es ex.1 (thread e) t g (un m) h'))

        keeps : (t : ℕ) → Busy 𝓛 t (e ∷ es) → (Shrunk 𝓛 t (e ∷ es) → ⊥) → (proj hit (cur hit t (push (thread e) n e ss)) ≡ [] → ⊥) → 𝓛.Held t g (e ∷ es)
        keeps t b s c = 𝓛.held_keep t g e es (step (ℕ_discrete (thread e) t) (tell (hit e))) (not_unlock t e es b s)
          where
            b' : Busy 𝓛 t es
            b' = (b.0, back t b.0 e es (nl t b.0) b.1)

            s' : Shrunk 𝓛 t es → ⊥
            s' = not_shrunk t e es b s

            step : Dec (thread e ≡ t) → (hit e ≡ false) ⊎ (hit e ≡ true) → 𝓛.Held t g es
            step (yes p) (inr m) = rw p at (un m)
            step (yes p) (inl m) = k.keeps t b' s' (λ z. c (rw (p, push_cur hit t n e ss, proj_miss e (cur hit t ss) m) z))
            step (no p) d = k.keeps t b' s' (λ z. c (rw (push_other_cur hit t (thread e) n e ss p) z))

    -- an event of a thread that holds nothing, and that is no K, changes no section
    outside : ((t l j : ℕ) → e ≡ lock j t l → ⊥) → (Busy 𝓛 (thread e) es → ⊥) → Kept ss (e ∷ es)
    outside nl i = record {
      same = same (tell (hit e));
      clear = λ t h. k.clear t (back t g e es (nl t g) h);
      keeps = λ t b s c. 𝓛.held_keep t g e es
          (k.keeps t (b.0, back t b.0 e es (nl t b.0) b.1) (not_shrunk t e es b s) c)
          (not_unlock t e es b s);
    }
      where
        same : (hit e ≡ false) ⊎ (hit e ≡ true) → proj hit (flat ss) ≡ proj hit (e ∷ es)
        same (inl m) = k.same ∙ sym (proj_miss e es m)
        same (inr m) = absurd (i (g, un m))

    module _ (t l j : ℕ) (is : e ≡ lock j t l) (m : hit e ≡ false) where
      no_unlock : (u n i : ℕ) → e ≡ unlock i u n → ⊥
      no_unlock u n i p = let z : ◌≡◌ {A = ℕ} 0 1 = cc in omega arith

      other : (u : ℕ) → (t ≡ u → ⊥) → (n : ℕ) → 𝓛.Held u n (e ∷ es) → 𝓛.Held u n es
      other u o n h = back u n e es (λ i p. o (cc)) h

      -- a K by a thread that holds nothing opens a section
      opens : (n : ℕ) → Kept (opened t n e ∷ ss) (e ∷ es)
      unfolding flat
      opens n = record { same = proj_miss e (flat ss) m ∙ k.same ∙ sym (proj_miss e es m); clear = clear; keeps = keeps }
        where
          clear : (u : ℕ) → 𝓛.Held u g (e ∷ es) → Clear hit u (opened t n e ∷ ss)
          clear u h = step (ℕ_discrete t u)
            where
              step : Dec (t ≡ u) → Clear hit u (opened t n e ∷ ss)
              step (yes p) = front_clear hit u (opened t n e) ss p
              step (no p) = behind_clear hit u (opened t n e) ss (proj_miss e [] m ∙ proj_nil) (k.clear u (other u p g h))

          keeps : (u : ℕ) → Busy 𝓛 u (e ∷ es) → (Shrunk 𝓛 u (e ∷ es) → ⊥) → (proj hit (cur hit u (opened t n e ∷ ss)) ≡ [] → ⊥) → 𝓛.Held u g (e ∷ es)
          keeps u b s c = step (ℕ_discrete t u)
            where
              step : Dec (t ≡ u) → 𝓛.Held u g (e ∷ es)
              step (yes p) = absurd (c (rw (front_cur hit u (opened t n e) ss p, proj_miss e [] m) proj_nil))
              step (no p) = 𝓛.held_keep u g e es
                  (k.keeps u (b.0, other u p b.0 b.1) (not_shrunk u e es b s) (λ z. c (rw (behind_cur hit u (opened t n e) ss p) z)))
                  (no_unlock u)

      -- another K puts its thread's section in front
      raises : (n : ℕ) → Busy 𝓛 t es → Kept (raised t n e (current t n ss) ∷ without t ss) (e ∷ es)
      unfolding flat Exclusive TwoPhase
      raises n bt = record { same = same (empty (proj hit (cur hit t ss))); clear = clear; keeps = keeps }
        where
          top : Section X
          top = raised t n e (current t n ss)

          in_top : proj hit top.events ≡ proj hit (cur hit t ss)
          in_top = proj_miss e (current t n ss).events m ∙ ap (proj hit) (current_events hit t n ss)

          holds : (proj hit (cur hit t ss) ≡ [] → ⊥) → 𝓛.Held t g es
          holds c = k.keeps t bt (tw.0 t l j is) c

          same : (proj hit (cur hit t ss) ≡ []) ⊎ (proj hit (cur hit t ss) ≡ [] → ⊥) → proj hit (top.events ++ flat (without t ss)) ≡ proj hit (e ∷ es)
          same (inl z) = rw (proj_append hit top.events (flat (without t ss)), in_top, z, without_none hit t ss z, k.same, proj_miss e es m)
          same (inr c) = rw (proj_append hit top.events (flat (without t ss)), in_top, without_clear hit t ss (k.clear t (holds c)), k.same, proj_miss e es m)

          clear : (u : ℕ) → 𝓛.Held u g (e ∷ es) → Clear hit u (top ∷ without t ss)
          clear u h = step (ℕ_discrete t u) (empty (proj hit (cur hit t ss)))
            where
              step : Dec (t ≡ u) → (proj hit (cur hit t ss) ≡ []) ⊎ (proj hit (cur hit t ss) ≡ [] → ⊥) → Clear hit u (top ∷ without t ss)
              step (yes p) d = front_clear hit u top (without t ss) p
              step (no p) (inl z) = behind_clear hit u top (without t ss) (in_top ∙ z) (without_other_clear hit u t ss p (k.clear u (other u p g h)))
              step (no p) (inr c) = absurd (p (mutex 𝓛 es ex.1 t u g (holds c) (other u p g h)))

          keeps : (u : ℕ) → Busy 𝓛 u (e ∷ es) → (Shrunk 𝓛 u (e ∷ es) → ⊥) → (proj hit (cur hit u (top ∷ without t ss)) ≡ [] → ⊥) → 𝓛.Held u g (e ∷ es)
          keeps u b s c = 𝓛.held_keep u g e es (step (ℕ_discrete t u)) (no_unlock u)
            where
              step : Dec (t ≡ u) → 𝓛.Held u g es
              step (yes p) = rw p at (holds (λ z. c (rw (front_cur hit u top (without t ss) p, in_top) z)))
              step (no p) = k.keeps u (b.0, other u p b.0 b.1) (not_shrunk u e es b s)
                  (λ z. c (rw (behind_cur hit u top (without t ss) p, without_other_cur hit u t ss p) z))

  -- Reordering the sections by their last K keeps the events that pass as they stand in the trace.
  pub kept : ((t l j : ℕ) → hit (lock j t l) ≡ false) → (es : List (Event X)) → Exclusive 𝓛 es → TwoPhase 𝓛 es → Under 𝓛 hit g es → Kept (sections 𝓛 es) es
  unfolding sections flat Exclusive TwoPhase Under next
  kept hl [] ex tw un = record { same = refl; clear = λ t h. absurd (𝓛.held_none t g h); keeps = λ t b s c. absurd (𝓛.held_none t b.0 b.1) }
  kept hl (lock j t l ∷ es) ex tw un = step (𝓛.busy? t es) (kept hl es ex.1 tw.1 un.1)
    where
      step : (d : Dec (Busy 𝓛 t es)) → Kept (sections 𝓛 es) es → Kept (next (lock j t l) d (suc (length es)) (sections 𝓛 es)) (lock j t l ∷ es)
      step (yes b) k = raises (lock j t l) es (sections 𝓛 es) k ex tw un.0 t l j refl (hl t l j) (suc (length es)) b
      step (no b) k = opens (lock j t l) es (sections 𝓛 es) k ex tw un.0 t l j refl (hl t l j) (suc (length es))
  kept hl (unlock j t l ∷ es) ex tw un = step (𝓛.busy? t es) (kept hl es ex.1 tw.1 un.1)
    where
      nl : (u m i : ℕ) → ◌≡◌ {A = Event X} (unlock j t l) (lock i u m) → ⊥
      nl u m i p = let z : ◌≡◌ {A = ℕ} 0 1 = cc in omega arith

      step : (d : Dec (Busy 𝓛 t es)) → Kept (sections 𝓛 es) es → Kept (next (unlock j t l) d (suc (length es)) (sections 𝓛 es)) (unlock j t l ∷ es)
      step (yes b) k = joined (unlock j t l) es (sections 𝓛 es) k ex tw un.0 nl (suc (length es))
      step (no b) k = outside (unlock j t l) es (sections 𝓛 es) k ex tw un.0 nl b
  kept hl (idle t ∷ es) ex tw un = step (𝓛.busy? t es) (kept hl es ex.1 tw.1 un.1)
    where
      nl : (u m i : ℕ) → ◌≡◌ {A = Event X} (idle t) (lock i u m) → ⊥
      nl u m i p = let z : ◌≡◌ {A = ℕ} 0 1 = cc in omega arith

      step : (d : Dec (Busy 𝓛 t es)) → Kept (sections 𝓛 es) es → Kept (next (idle t) d (suc (length es)) (sections 𝓛 es)) (idle t ∷ es)
      step (yes b) k = joined (idle t) es (sections 𝓛 es) k ex tw un.0 nl (suc (length es))
      step (no b) k = outside (idle t) es (sections 𝓛 es) k ex tw un.0 nl b
  kept hl (mem κ t v x ∷ es) ex tw un = step (𝓛.busy? t es) (kept hl es ex.1 tw.1 un.1)
    where
      nl : (u m i : ℕ) → ◌≡◌ {A = Event X} (mem κ t v x) (lock i u m) → ⊥
      nl u m i p = let z : ◌≡◌ {A = ℕ} 0 1 = cc in omega arith

      step : (d : Dec (Busy 𝓛 t es)) → Kept (sections 𝓛 es) es → Kept (next (mem κ t v x) d (suc (length es)) (sections 𝓛 es)) (mem κ t v x ∷ es)
      step (yes b) k = joined (mem κ t v x) es (sections 𝓛 es) k ex tw un.0 nl (suc (length es))
      step (no b) k = outside (mem κ t v x) es (sections 𝓛 es) k ex tw un.0 nl b
