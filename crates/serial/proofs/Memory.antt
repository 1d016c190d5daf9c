-- The guard's promise: while a thread holds a variable's guard, main memory with what that thread has still to write is
-- the plain memory; while nobody holds it, main memory is the plain memory.
use Prim.Native.Nat.{ℕ, suc, ◌≤◌, ◌<◌}
use native.Mathlib.Omega.{arith}
use mathlib.Core.Path.{◌≡◌, refl, sym, ◌∙◌, subst}
use mathlib.Core.Logic.{◌⊎◌, inl, inr}
use mathlib.Core.Bool.{Bool, true, false, ◌||◌, true≢false, false≢true}
use mathlib.Core.List.{List, [], ◌∷◌, ◌++◌, tail, cons≢nil}
use lib.Dec.{T, ltb, ltb→lt}
use Rattle.serial.specs.Events.{Kind, Use, Assign, Load, Store, Read, Write, PrescientStore, PrescientAssign}
use Rattle.serial.specs.Lists.{All}
use Rattle.serial.specs.Words.{Slot, Cell, Act, own, other, locks, unlocks, nothing, oldest, change, written, assigned, Allowed}

pub all_snoc : {A : Type 0} (P : A → Type 0) (l : List A) (a : A) → All P l → P a → All P (l ++ (a ∷ []))
all_snoc P [] a h p = (p, tt)
all_snoc P (b ∷ l) a h p = (h.0, all_snoc P l a h.1 p)

pub all_map : {A : Type 0} (P Q : A → Type 0) (l : List A) → All P l → ((a : A) → P a → Q a) → All Q l
all_map P Q [] h f = tt
all_map P Q (a ∷ l) h f = (f a h.0, all_map P Q l h.1 f)

pub all_tail : {A : Type 0} (P : A → Type 0) (l : List A) → All P l → All P (tail l)
all_tail P [] h = tt
all_tail P (a ∷ l) h = h.1

abbrev pub asks : Kind → Bool
asks Use = true
asks Assign = true
asks Load = false
asks Store = false
asks Read = false
asks Write = false
asks PrescientStore = true
asks PrescientAssign = true

-- W, A and B change a memory
abbrev pub loud : Kind → Bool
loud Use = false
loud Assign = true
loud Load = false
loud Store = false
loud Read = false
loud Write = true
loud PrescientStore = false
loud PrescientAssign = true

module _ {X : Type 0} where
  -- main memory once the outstanding stores, the oldest first, are written
  abbrev pub settled : List X → X → X
  settled [] m = m
  settled (y ∷ ys) m = settled ys y

  settled_snoc : (ys : List X) (x m : X) → settled (ys ++ (x ∷ [])) m ≡ x
  settled_snoc [] x m = refl
  settled_snoc (y ∷ ys) x m = settled_snoc ys x y

  snoc≢nil : (ys : List X) (x : X) → ys ++ (x ∷ []) ≡ [] → ⊥
  snoc≢nil [] x p = cons≢nil p
  snoc≢nil (y ∷ ys) x p = cons≢nil p

  abbrev pub After : ℕ → List (Slot X) → Type 0
  After k rs = All (λ (r : Slot X). k < r.position) rs

  abbrev pub Until : ℕ → List (Slot X) → Type 0
  Until n rs = All (λ (r : Slot X). r.position ≤ n) rs

  abbrev pub Rising : List (Slot X) → Type 0
  Rising [] = Unit {0}
  Rising (r ∷ rs) = After r.position rs × Rising rs

  rising_tail : (rs : List (Slot X)) → Rising rs → Rising (tail rs)
  rising_tail [] h = tt
  rising_tail (r ∷ rs) h = h.1

  rising_snoc : (rs : List (Slot X)) (n : ℕ) (r : Slot X) → Rising rs → Until n rs → n < r.position → Rising (rs ++ (r ∷ []))
  rising_snoc [] n r h u p = (tt, tt)
  rising_snoc (q ∷ rs) n r h u p =
      (all_snoc (λ (s : Slot X). q.position < s.position) rs r h.0 (let o = u.0 in omega arith), rising_snoc rs n r h.1 u.1 p)

  -- a read since the thread's last K and its last write has the value of main memory
  abbrev pub Current : ℕ → ℕ → X → Slot X → Type 0
  Current k w m r = k < r.position → w ≤ r.position → r.value ≡ m

  -- What holds after n events of a thread's cell c of the variable, its main memory m and its plain memory d. H: the thread holds the guard
  pub record Good (H : Type 0) (n : ℕ) (c : Cell X) (m d : X) : Type 0 where
    pub idle : (H → ⊥) → (c.stores ≡ []) × (c.fresh ≡ false)
    pub owes : H → c.pending ≡ true → settled c.stores m ≡ c.announced
    pub even : H → c.pending ≡ false → c.fresh ≡ false → settled c.stores m ≡ d
    pub current : H → All (Current c.last_lock c.last_write m) c.reads
    pub right : H → c.usable ≡ true → c.copy ≡ d
    -- a usable copy that could be loaded over: only by a read since the last K
    pub since : c.usable ≡ true → c.fresh ≡ false → c.stores ≡ [] → (c.last_lock < c.last_write) ⊎ After c.last_lock c.reads
    pub early : c.pending ≡ true → c.stores ≡ [] → c.last_lock < c.last_write
    pub rising : Rising c.reads
    pub until : Until n c.reads
    pub locked : c.last_lock ≤ n

  -- what an act does to the holding of the guard: H before, H' after
  abbrev pub Facts : Act X → (H H' : Type 0) → X → X → Type 0
  Facts (own k x) H H' m d = (asks k ≡ true → H) × (H → H') × (H' → H)
  Facts (other k x) H H' m d = (loud k ≡ true → H' → ⊥) × (H → H') × (H' → H)
  Facts locks H H' m d = (H → H') × (H' → H ⊎ ((H → ⊥) × (m ≡ d)))
  Facts unlocks H H' m d = H' → H
  Facts nothing H H' m d = (H → H') × (H' → H)

  abbrev pub act_on : (Kind → X → X → X) → Act X → X → X
  act_on f (own k x) m = f k x m
  act_on f (other k x) m = f k x m
  act_on f locks m = m
  act_on f unlocks m = m
  act_on f nothing m = m

  module _ (H H' : Type 0) (n : ℕ) (c : Cell X) (m d : X) (G : Good H n c m d) where
    -- nothing changes but the number of events
    same : (H → H') → (H' → H) → Good H' (suc n) c m d
    same f b = record {
      idle = λ h. G.idle (λ a. h (f a));
      owes = λ h. G.owes (b h);
      even = λ h. G.even (b h);
      current = λ h. G.current (b h);
      right = λ h. G.right (b h);
      since = G.since;
      early = G.early;
      rising = G.rising;
      until = all_map (λ (r : Slot X). r.position ≤ n) (λ (r : Slot X). r.position ≤ suc n) c.reads G.until (λ r p. omega arith);
      locked = let o = G.locked in omega arith;
    }

    -- the guard is another's
    barred : (H → H') → (H' → ⊥) → (m' d' : X) → Good H' (suc n) c m' d'
    barred f b m' d' = record {
      idle = λ h. G.idle (λ a. h (f a));
      owes = λ h. absurd (b h);
      even = λ h. absurd (b h);
      current = λ h. absurd (b h);
      right = λ h. absurd (b h);
      since = G.since;
      early = G.early;
      rising = G.rising;
      until = all_map (λ (r : Slot X). r.position ≤ n) (λ (r : Slot X). r.position ≤ suc n) c.reads G.until (λ r p. omega arith);
      locked = let o = G.locked in omega arith;
    }

    later : Until (suc n) c.reads
    later = all_map (λ (r : Slot X). r.position ≤ n) (λ (r : Slot X). r.position ≤ suc n) c.reads G.until (λ r p. omega arith)

    locked' : c.last_lock ≤ suc n
    locked' = let o = G.locked in omega arith

    assign : (x : X) → H → (H → H') → Good H' (suc n) (change (suc n) (own Assign x) c) m x
    unfolding change
    assign x h f = record {
      idle = λ i. absurd (i (f h));
      owes = λ _. G.owes h;
      even = λ _ o p. absurd (true≢false p);
      current = λ _. G.current h;
      right = λ _ u. refl;
      since = λ u p. absurd (true≢false p);
      early = G.early;
      rising = G.rising;
      until = later;
      locked = locked';
    }

    announce : (x : X) → H → (H → H') → (c.pending ≡ true) → x ≡ c.announced → Good H' (suc n) (change (suc n) (own PrescientAssign x) c) m x
    unfolding change
    announce x h f o e = record {
      idle = λ i. absurd (i (f h));
      owes = λ _ p. absurd (false≢true p);
      even = λ _ _ _. G.owes h o ∙ sym e;
      current = λ _. G.current h;
      right = λ _ u. refl;
      since = λ u p s. inl (G.early o s);
      early = λ p. absurd (false≢true p);
      rising = G.rising;
      until = later;
      locked = locked';
    }

    store : (x : X) → (H → H') → (H' → H) → (c.pending ≡ false) → (c.fresh ≡ true) → (c.usable ≡ true) → x ≡ c.copy
        → Good H' (suc n) (change (suc n) (own Store x) c) m d
    unfolding change
    store x f b o fr us e = record {
      idle = λ i. absurd (true≢false (sym fr ∙ (G.idle (λ h. i (f h))).1));
      owes = λ _ p. absurd (true≢false (sym p ∙ o));
      even = λ h _ _. settled_snoc c.stores x m ∙ e ∙ G.right (b h) us;
      current = λ h. G.current (b h);
      right = λ h. G.right (b h);
      since = λ u p s. absurd (snoc≢nil c.stores x s);
      early = λ p s. absurd (snoc≢nil c.stores x s);
      rising = G.rising;
      until = later;
      locked = locked';
    }

    prescient_store_law : (x : X) → H → (H → H') → Good H' (suc n) (change (suc n) (own PrescientStore x) c) m d
    unfolding change
    prescient_store_law x h f = record {
      idle = λ i. absurd (i (f h));
      owes = λ _ p. settled_snoc c.stores x m;
      even = λ _ p. absurd (true≢false p);
      current = λ _. G.current h;
      right = λ _. G.right h;
      since = λ u p s. absurd (snoc≢nil c.stores x s);
      early = λ p s. absurd (snoc≢nil c.stores x s);
      rising = G.rising;
      until = later;
      locked = locked';
    }

    read : (x : X) → (H → H') → (H' → H) → x ≡ m → Good H' (suc n) (change (suc n) (own Read x) c) m d
    unfolding change
    read x f b e = record {
      idle = λ i. G.idle (λ h. i (f h));
      owes = λ h. G.owes (b h);
      even = λ h. G.even (b h);
      current = λ h. all_snoc (Current c.last_lock c.last_write m) c.reads (record { position = suc n; value = x }) (G.current (b h)) (λ _ _. e);
      right = λ h. G.right (b h);
      since = λ u p s. grows (G.since u p s);
      early = G.early;
      rising = rising_snoc c.reads n (record { position = suc n; value = x }) G.rising G.until (omega arith);
      until = all_snoc (λ (r : Slot X). r.position ≤ suc n) c.reads (record { position = suc n; value = x }) later (omega arith);
      locked = locked';
    }
      where
        grows : (c.last_lock < c.last_write) ⊎ After c.last_lock c.reads → (c.last_lock < c.last_write) ⊎ After c.last_lock (c.reads ++ (record { position = suc n; value = x } ∷ []))
        grows (inl p) = inl p
        grows (inr a) = inr (all_snoc (λ (r : Slot X). c.last_lock < r.position) c.reads (record { position = suc n; value = x }) a (let o = G.locked in omega arith))

    write : (x : X) → (H → H') → (H' → H) → (ys : List X) → c.stores ≡ x ∷ ys → Good H' (suc n) (change (suc n) (own Write x) c) x d
    unfolding change
    write x f b ys e = record {
      idle = λ i. absurd (cons≢nil (sym e ∙ (G.idle (λ h. i (f h))).0));
      owes = λ h o. rw e (rw e at (G.owes (b h) o));
      even = λ h o p. rw e (rw e at (G.even (b h) o p));
      current = λ h. all_map (λ (r : Slot X). r.position ≤ n) (Current c.last_lock (suc n) x) c.reads G.until (λ r p q w. absurd (omega arith));
      right = λ h. G.right (b h);
      since = λ u p s. inl (let o = G.locked in omega arith);
      early = λ p s. let o = G.locked in omega arith;
      rising = G.rising;
      until = later;
      locked = locked';
    }

    lock_taken_law : (H → H') → (H' → H ⊎ ((H → ⊥) × (m ≡ d))) → c.pending ≡ false → Good H' (suc n) (change (suc n) locks c) m d
    unfolding change
    lock_taken_law f b o = record {
      idle = λ i. G.idle (λ h. i (f h));
      owes = λ _ p. absurd (true≢false (sym p ∙ o));
      even = λ h _ p. gained (b h) p;
      current = λ h. all_map (λ (r : Slot X). r.position ≤ n) (Current (suc n) c.last_write m) c.reads G.until (λ r p q w. absurd (omega arith));
      right = λ _ p. absurd (false≢true p);
      since = λ p. absurd (false≢true p);
      early = λ p. absurd (true≢false (sym p ∙ o));
      rising = G.rising;
      until = later;
      locked = omega arith;
    }
      where
        gained : H ⊎ ((H → ⊥) × (m ≡ d)) → c.fresh ≡ false → settled c.stores m ≡ d
        gained (inl h) p = G.even h o p
        gained (inr i) p = rw (G.idle i.0).0 i.1

    unlocked : (H' → H) → (c.pending ≡ true → H') → c.fresh ≡ false → (c.pending ≡ false → c.stores ≡ []) → Good H' (suc n) (change (suc n) unlocks c) m d
    unfolding change
    unlocked b cv fr st = record {
      idle = λ i. (st (settles i c.pending refl), fr);
      owes = λ h. G.owes (b h);
      even = λ h. G.even (b h);
      current = λ h. G.current (b h);
      right = λ h. G.right (b h);
      since = G.since;
      early = G.early;
      rising = G.rising;
      until = later;
      locked = locked';
    }
      where
        settles : (H' → ⊥) → (b : Bool) → c.pending ≡ b → c.pending ≡ false
        settles i true p = absurd (i (cv p))
        settles i false p = p

    load : (x : X) → (H → H') → (H' → H) → (r : Slot X) (rs : List (Slot X)) → c.reads ≡ r ∷ rs → c.pending ≡ false → c.fresh ≡ false → c.stores ≡ [] → c.last_write ≤ r.position
        → x ≡ r.value → Good H' (suc n) (change (suc n) (own Load x) c) m d
    unfolding change
    load x f b r rs e ow fr st w v = record {
      idle = λ i. G.idle (λ h. i (f h));
      owes = λ h. G.owes (b h);
      even = λ h. G.even (b h);
      current = λ h. all_tail (Current c.last_lock c.last_write m) c.reads (G.current (b h));
      right = λ h u. v ∙ (rw e at (G.current (b h))).0 (recent u) w ∙ (rw st at (G.even (b h) ow fr));
      since = λ u p s. inr (rw e (rest u));
      early = G.early;
      rising = rising_tail c.reads G.rising;
      until = all_tail (λ (r : Slot X). r.position ≤ suc n) c.reads later;
      locked = locked';
    }
      where
        by_usable : (c.last_lock < c.last_write) ⊎ After c.last_lock c.reads → c.last_lock < r.position
        by_usable (inl p) = omega arith
        by_usable (inr a) = (rw e at a).0

        -- the read loaded came after the last K
        tested : (b : Bool) → ltb c.last_lock (oldest c.reads) ≡ b → (b || c.usable) ≡ true → c.last_lock < r.position
        tested true p q = ltb→lt c.last_lock r.position (subst T (sym (rw e at p)) tt)
        tested false p q = by_usable (G.since q fr st)

        recent : (ltb c.last_lock (oldest c.reads) || c.usable) ≡ true → c.last_lock < r.position
        recent u = tested (ltb c.last_lock (oldest c.reads)) refl u

        rest : (ltb c.last_lock (oldest c.reads) || c.usable) ≡ true → After c.last_lock rs
        rest u = let q = recent u in all_map (λ (s : Slot X). r.position < s.position) (λ (s : Slot X). c.last_lock < s.position) rs (rw e at G.rising).0 (λ s p. omega arith)

    -- one act more
    pub advance : (a : Act X) → Allowed a c m → Facts a H H' m d → ((change (suc n) a c).pending ≡ true → H') → Good H' (suc n) (change (suc n) a c) (act_on written a m) (act_on assigned a d)
    unfolding change
    advance (own Use x) r f cv = same f.1 f.2
    advance (own Assign x) r f cv = assign x (f.0 refl) f.1
    advance (own Load x) r f cv = load x f.1 f.2 r.0 r.1 r.2 r.3 r.4 r.5 r.6 r.7
    advance (own Store x) r f cv = store x f.1 f.2 r.0 r.1 r.2 r.3
    advance (own Read x) r f cv = read x f.1 f.2 r
    advance (own Write x) r f cv = write x f.1 f.2 r.0 r.1
    advance (own PrescientStore x) r f cv = prescient_store_law x (f.0 refl) f.1
    advance (own PrescientAssign x) r f cv = announce x (f.0 refl) f.1 r.0 r.1
    advance (other Use x) r f cv = same f.1 f.2
    advance (other Assign x) r f cv = barred f.1 (f.0 refl) m x
    advance (other Load x) r f cv = same f.1 f.2
    advance (other Store x) r f cv = same f.1 f.2
    advance (other Read x) r f cv = same f.1 f.2
    advance (other Write x) r f cv = barred f.1 (f.0 refl) x d
    advance (other PrescientStore x) r f cv = same f.1 f.2
    advance (other PrescientAssign x) r f cv = barred f.1 (f.0 refl) m x
    advance locks r f cv = lock_taken_law f.0 f.1 r
    advance unlocks r f cv = unlocked f cv r.0 r.1
    advance nothing r f cv = same f.0 f.1
