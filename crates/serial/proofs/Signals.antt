-- The sections of one thread, from three signals over the positions: here it locks, here it unlocks, after here it holds something.
use Prim.Native.Nat.{ℕ, suc, ◌-◌, ◌≤◌, ◌<◌}
use native.Mathlib.Decide.{ℕ_discrete, dec_lt}
use native.Mathlib.Omega.{arith}
use mathlib.Core.Path.{◌≡◌, refl, sym, ◌∙◌, subst}
use mathlib.Core.Logic.{◌⊎◌, inl, inr}
use mathlib.Core.Bool.{Bool, true, false, true≢false}
use mathlib.Core.List.{List, [], ◌∷◌}
use Rattle.serial.specs.Events.{Event}
use Rattle.serial.specs.Sections.{Section, opened, grown, raised}
use Rattle.serial.specs.Lists.{All}
use Rattle.serial.proofs.Memory.{all_map}
use Rattle.serial.proofs.Stacks.{grow, rest, front}

-- one of these sections is from a to b
abbrev pub Has : {X : Type 0} → ℕ → ℕ → List (Section X) → Type 0
Has a b [] = ⊥
Has a b (s ∷ ss) = ((s.first ≡ a) × (s.last ≡ b)) ⊎ Has a b ss

module _ (locks unlocks holds : ℕ → Bool) where
  -- from a K of a thread holding nothing to the N after which it holds nothing
  pub record Runs (a b : ℕ) : Type 0 where
    pub rises : a < b
    pub opens : locks a ≡ true
    pub idle : holds (a - 1) ≡ false
    pub closes : unlocks b ≡ true
    pub free : holds b ≡ false
    pub inside : (p : ℕ) → a ≤ p → p < b → holds p ≡ true

  -- p is the last K from a to b
  pub record LastLock (a b p : ℕ) : Type 0 where
    pub from : a ≤ p
    pub to : p ≤ b
    pub here : locks p ≡ true
    pub later : (q : ℕ) → p < q → q ≤ b → locks q ≡ false

  -- what the signals do at position n + 1
  pub record Step (n : ℕ) : Type 0 where
    pub lock_holds : locks (suc n) ≡ true → holds (suc n) ≡ true
    pub idle_keeps : holds n ≡ false → locks (suc n) ≡ false → holds (suc n) ≡ false
    pub busy_keeps : holds n ≡ true → unlocks (suc n) ≡ false → holds (suc n) ≡ true
    pub apart : locks (suc n) ≡ true → unlocks (suc n) ≡ false

  not_unlocked : (n : ℕ) → unlocks (suc n) ≡ false → (a : ℕ) → Runs a (suc n) → ⊥
  not_unlocked n h a r = true≢false (sym r.closes ∙ h)

  not_free : (n : ℕ) → holds (suc n) ≡ true → (a : ℕ) → Runs a (suc n) → ⊥
  not_free n h a r = true≢false (sym h ∙ r.free)

  was_idle : (n : ℕ) → holds n ≡ false → (a : ℕ) → Runs a (suc n) → ⊥
  was_idle n h a r = true≢false (sym (r.inside n (omega (arith, r.rises)) (omega arith)) ∙ h)

  last_on : (n a p : ℕ) → locks (suc n) ≡ false → LastLock a n p → LastLock a (suc n) p
  last_on n a p k l = record { from = l.from; to = omega (arith, l.to); here = l.here; later = λ q h i. go q h i (ℕ_discrete q (suc n)) }
    where
      go : (q : ℕ) → p < q → q ≤ suc n → Dec (q ≡ suc n) → locks q ≡ false
      go q h i (yes e) = subst (λ c. locks c ≡ false) (sym e) k
      go q h i (no e) = l.later q h (omega arith)

  inside_on : (n a : ℕ) → holds (suc n) ≡ true → ((p : ℕ) → a ≤ p → p ≤ n → holds p ≡ true) → (p : ℕ) → a ≤ p → p ≤ suc n → holds p ≡ true
  inside_on n a h f p i j = go (ℕ_discrete p (suc n))
    where
      go : Dec (p ≡ suc n) → holds p ≡ true
      go (yes e) = subst (λ c. holds c ≡ true) (sym e) h
      go (no e) = f p i (omega arith)

  module _ {X : Type 0} where
    -- a section that has ended by position n
    pub record Closed (n : ℕ) (s : Section X) : Type 0 where
      pub whole : Runs s.first s.last
      pub point : LastLock s.first s.last s.top
      pub ends : s.last ≤ n

    -- one that goes on at position n
    pub record Opened (n : ℕ) (s : Section X) : Type 0 where
      pub low : 0 < s.first
      pub opens : locks s.first ≡ true
      pub idle : holds (s.first - 1) ≡ false
      pub inside : (p : ℕ) → s.first ≤ p → p ≤ n → holds p ≡ true
      pub point : LastLock s.first n s.top

    -- those that have ended by position n are these
    pub record Ended (n : ℕ) (ss : List (Section X)) : Type 0 where
      pub sound : All (Closed n) ss
      pub complete : (a b : ℕ) → b ≤ n → Runs a b → Has a b ss

    -- the thread's sections, the latest first, at position n, where it holds something or nothing
    abbrev pub Stack : Bool → ℕ → List (Section X) → Type 0
    Stack true n [] = ⊥
    Stack true n (s ∷ ss) = Opened n s × Ended n ss
    Stack false n ss = Ended n ss

    pub none_yet : Ended 0 []
    none_yet = record { sound = tt; complete = λ a b h r. absurd (omega (arith, h, r.rises)) }

    closed_on : (n : ℕ) (ss : List (Section X)) → All (Closed n) ss → All (Closed (suc n)) ss
    closed_on n ss a = all_map (Closed n) (Closed (suc n)) ss a (λ s c. record { whole = c.whole; point = c.point; ends = omega (arith, c.ends) })

    -- no section ends at position n + 1
    ended_on : (n : ℕ) (ss : List (Section X)) → ((a : ℕ) → Runs a (suc n) → ⊥) → Ended n ss → Ended (suc n) ss
    ended_on n ss f e = record { sound = closed_on n ss e.sound; complete = λ a b h r. go a b h r (ℕ_discrete b (suc n)) }
      where
        go : (a b : ℕ) → b ≤ suc n → Runs a b → Dec (b ≡ suc n) → Has a b ss
        go a b h r (yes p) = absurd (f a (subst (λ c. Runs a c) p r))
        go a b h r (no p) = e.complete a b (omega arith) r

    -- a section that ends here is the one that went on
    same_first : (n a : ℕ) (s : Section X) → Opened n s → Runs a (suc n) → s.first ≡ a
    same_first n a s o r = go (dec_lt a s.first) (dec_lt s.first a)
      where
        go : Dec (a < s.first) → Dec (s.first < a) → s.first ≡ a
        go (yes h) d = absurd (true≢false (sym (r.inside (s.first - 1) (omega arith) (omega (arith, o.point.from, o.point.to))) ∙ o.idle))
        go (no h) (yes i) = absurd (true≢false (sym (o.inside (a - 1) (omega arith) (omega (arith, r.rises))) ∙ r.idle))
        go (no h) (no i) = omega arith

    module _ (n : ℕ) (f : Step n) where
      -- ---- an event of another thread

      pub other_busy : (ss : List (Section X)) → holds n ≡ true → locks (suc n) ≡ false → unlocks (suc n) ≡ false → Stack true n ss → Stack true (suc n) ss
      other_busy [] h k u st = absurd st
      other_busy (s ∷ ss) h k u st = (
        record {
          low = st.0.low;
          opens = st.0.opens;
          idle = st.0.idle;
          inside = inside_on n s.first (f.busy_keeps h u) st.0.inside;
          point = last_on n s.first s.top k st.0.point;
        },
        ended_on n ss (not_unlocked n u) st.1,
      )

      -- ---- an event outside all sections
      pub out : (ss : List (Section X)) → holds n ≡ false → Ended n ss → Ended (suc n) ss
      out ss h e = ended_on n ss (was_idle n h) e

      -- ---- its own K

      pub opening : (t : ℕ) (x : Event X) (ss : List (Section X)) → holds n ≡ false → locks (suc n) ≡ true → Ended n ss → Stack true (suc n) (opened t (suc n) x ∷ ss)
      opening t x ss h k e = (
        record {
          low = omega arith;
          opens = k;
          idle = subst (λ c. holds c ≡ false) (let q : n ≡ suc n - 1 = omega arith in q) h;
          inside = λ p i j. subst (λ c. holds c ≡ true) (let q : suc n ≡ p = omega arith in q) (f.lock_holds k);
          point = record { from = omega arith; to = omega arith; here = k; later = λ q i j. absurd (omega arith) };
        },
        ended_on n ss (not_unlocked n (f.apart k)) e,
      )

      pub raising : (t : ℕ) (x : Event X) (ss : List (Section X)) → locks (suc n) ≡ true → Stack true n ss → Stack true (suc n) (raised t (suc n) x (front t (suc n) ss) ∷ rest ss)
      raising t x [] k st = absurd st
      raising t x (s ∷ ss) k st = (
        record {
          low = st.0.low;
          opens = st.0.opens;
          idle = st.0.idle;
          inside = inside_on n s.first (f.lock_holds k) st.0.inside;
          point = record { from = omega (arith, st.0.point.from, st.0.point.to); to = omega arith; here = k; later = λ q i j. absurd (omega arith) };
        },
        ended_on n ss (not_unlocked n (f.apart k)) st.1,
      )

      -- ---- another of its own, in a section

      growing : (t : ℕ) (x : Event X) (ss : List (Section X)) → locks (suc n) ≡ false → holds (suc n) ≡ true → Stack true n ss → Stack true (suc n) (grow t (suc n) x ss)
      growing t x [] k h st = absurd st
      growing t x (s ∷ ss) k h st = (
        record {
          low = st.0.low;
          opens = st.0.opens;
          idle = st.0.idle;
          inside = inside_on n s.first h st.0.inside;
          point = last_on n s.first s.top k st.0.point;
        },
        ended_on n ss (not_free n h) st.1,
      )

      closing : (t : ℕ) (x : Event X) (ss : List (Section X)) → locks (suc n) ≡ false → holds n ≡ true → holds (suc n) ≡ false → Stack true n ss → Ended (suc n) (grow t (suc n) x ss)
      closing t x [] k h i st = absurd st
      closing t x (s ∷ ss) k h i st = record { sound = (now, closed_on n ss st.1.sound); complete = all }
        where
          unlocked : (b : Bool) → unlocks (suc n) ≡ b → b ≡ true
          unlocked true q = refl
          unlocked false q = absurd (true≢false (sym (f.busy_keeps h q) ∙ i))

          now : Closed (suc n) (grown (suc n) x s)
          now = record {
            whole = record {
              rises = omega (arith, st.0.point.from, st.0.point.to);
              opens = st.0.opens;
              idle = st.0.idle;
              closes = unlocked (unlocks (suc n)) refl;
              free = i;
              inside = λ p a b. st.0.inside p a (omega arith);
            };
            point = last_on n s.first s.top k st.0.point;
            ends = omega arith;
          }

          all : (a b : ℕ) → b ≤ suc n → Runs a b → Has a b (grown (suc n) x s ∷ ss)
          all a b j r = go (ℕ_discrete b (suc n))
            where
              go : Dec (b ≡ suc n) → Has a b (grown (suc n) x s ∷ ss)
              go (yes p) = inl (same_first n a s st.0 (subst (λ c. Runs a c) p r), sym p)
              go (no p) = inr (st.1.complete a b (omega arith) r)

      pub going : (t : ℕ) (x : Event X) (ss : List (Section X)) → locks (suc n) ≡ false → holds n ≡ true → Stack true n ss → Stack (holds (suc n)) (suc n) (grow t (suc n) x ss)
      going t x ss k h st = go (holds (suc n)) refl
        where
          go : (b : Bool) → holds (suc n) ≡ b → Stack b (suc n) (grow t (suc n) x ss)
          go true q = growing t x ss k q st
          go false q = closing t x ss k h q st
