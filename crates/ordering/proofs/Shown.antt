-- The sections that the second pass has written down: all but the current ones of threads that hold something.
use Prim.Native.Nat.{ℕ, suc, ◌≤◌}
use native.Mathlib.Decide.{ℕ_discrete}
use native.Mathlib.Omega.{arith}
use mathlib.Core.Path.{◌≡◌, refl, sym, ◌∙◌, ap, subst}
use mathlib.Core.Logic.{ite}
use mathlib.Core.Bool.{Bool, true, false, not, cond, ◌&&◌, and-false, and-true}
use mathlib.Core.List.{List, [], ◌∷◌}
use lib.Dec.{eqb}
use lib.IntN.{ℤ}
use borrow.Author.Tests.{eq-eqb, ne_eqb}
use Rattle.rules.specs.declared.Counts.{Counts}
use Rattle.serial.specs.Events as E
use Rattle.serial.specs.Sections.{Section, grown, push, without}
use Rattle.serial.proofs.Lines.{either, Falling}
use Rattle.sections.specs.Order.{line_of, entry}
use Rattle.sections.specs.Entries.{entry_code}
use Rattle.sections.proofs.Viewed.{shape}
use Rattle.ordering.specs.Computed.Parts.{code_of, bucket}
use Rattle.ordering.proofs.Buckets.{Below, Latest, latest_below}

-- b, but not of t
abbrev but : (ℕ → Bool) → ℕ → ℕ → Bool
but b t u = b u && not (eqb u t)

-- c tells the same as b of all but t
abbrev pub Off : ℕ → (ℕ → Bool) → (ℕ → Bool) → Type 0
Off t b c = (u : ℕ) → (u ≡ t → ⊥) → b u ≡ c u

-- the number of the section whose last K has this position, where it is not the current one of a thread that holds something, as b tells; 0
-- where there is none. A thread's current section is the first that it owns
unfoldable pub shown : Counts → (ℕ → Bool) → List (Section ℤ) → ℕ → ℕ
shown h b [] q = 0
shown h b (s ∷ ss) q = cond (b s.owner) (shown h (but b s.owner) ss q) (cond (eqb s.top q) (entry_code (entry h s)) (shown h b ss q))

-- ---- who holds something

but_own : (b : ℕ → Bool) (t : ℕ) → but b t t ≡ false
but_own b t = rw (eq-eqb t t refl) (and-false (b t))

but_other : (b : ℕ → Bool) (t u : ℕ) → (u ≡ t → ⊥) → but b t u ≡ b u
but_other b t u n = rw (ne_eqb u t n) (and-true (b u))

but_twice : (x y z : Bool) → (x && y) && z ≡ (x && z) && y
but_twice true true z = sym (and-true z)
but_twice true false z = sym (and-false z)
but_twice false y z = refl

-- b without t is c, which tells that t holds nothing
but_is : (t : ℕ) (b c : ℕ → Bool) → Off t b c → c t ≡ false → (u : ℕ) → but b t u ≡ c u
but_is t b c o z u = go (ℕ_discrete u t)
  where
    go : Dec (u ≡ t) → but b t u ≡ c u
    go (yes q) = subst (λ (v : ℕ). but b t v ≡ c v) (sym q) (but_own b t ∙ sym z)
    go (no q) = but_other b t u q ∙ o u q

same_as : (t : ℕ) (b c : ℕ → Bool) → Off t b c → b t ≡ c t → (u : ℕ) → b u ≡ c u
same_as t b c o e u = go (ℕ_discrete u t)
  where
    go : Dec (u ≡ t) → b u ≡ c u
    go (yes q) = subst (λ (v : ℕ). b v ≡ c v) (sym q) e
    go (no q) = o u q

module _ (h : Counts) (q : ℕ) where
  shown_as : (b c : ℕ → Bool) → ((u : ℕ) → b u ≡ c u) → (ss : List (Section ℤ)) → shown h b ss q ≡ shown h c ss q
  shown_as b c p ss = λ i. shown h (λ u. p u i) ss q

  -- where nothing is held, all are written down
  pub shown_all : (b : ℕ → Bool) → ((u : ℕ) → b u ≡ false) → (ss : List (Section ℤ)) → shown h b ss q ≡ bucket h ss q
  unfolding shown bucket
  shown_all b z [] = refl
  shown_all b z (s ∷ ss) = rw (z s.owner) (ap (cond (eqb s.top q) (entry_code (entry h s))) (shown_all b z ss))

  -- none has its last K so late
  pub shown_above : (b : ℕ → Bool) (n : ℕ) (ss : List (Section ℤ)) → Below n ss → n ≤ q → shown h b ss q ≡ 0
  unfolding shown
  shown_above b n [] l k = refl
  shown_above b n (s ∷ ss) l k = go (shown_above (but b s.owner) n ss l.1 k) (shown_above b n ss l.1 k) (b s.owner)
    where
      go : shown h (but b s.owner) ss q ≡ 0 → shown h b ss q ≡ 0 → (c : Bool) → cond c (shown h (but b s.owner) ss q) (cond (eqb s.top q) (entry_code (entry h s)) (shown h b ss q)) ≡ 0
      go r m true = r
      go r m false = rw (ne_eqb s.top q (λ e. omega (arith, e, l.0, k))) m

  -- ---- one event more, of thread t at position n

  module _ (t n : ℕ) (e : E.Event ℤ) where
    -- it joins the section of its thread, which holds something after it
    push_shown : (b : ℕ → Bool) → b t ≡ true → (ss : List (Section ℤ)) → shown h b (push t n e ss) q ≡ shown h b ss q
    unfolding shown push
    push_shown b w [] = rw w refl
    push_shown b w (s ∷ ss) = step (ℕ_discrete s.owner t) (λ w'. push_shown (but b s.owner) w' ss) (push_shown b w ss)
      where
        step : (d : Dec (s.owner ≡ t)) → (but b s.owner t ≡ true → shown h (but b s.owner) (push t n e ss) q ≡ shown h (but b s.owner) ss q) → shown h b (push t n e ss) q ≡ shown h b ss q
            → shown h b (ite {C = List (Section ℤ)} d (grown n e s ∷ ss) (s ∷ push t n e ss)) q ≡ shown h b (s ∷ ss) q
        step (yes p) r m = rw (ap b p ∙ w) refl
        step (no p) r m = λ i. cond (b s.owner) (r (but_other b s.owner t (λ z. p (sym z)) ∙ w) i) (cond (eqb s.top q) (entry_code (entry h s)) (m i))

    without_shown : (b : ℕ → Bool) → b t ≡ true → (ss : List (Section ℤ)) → shown h (but b t) (without t ss) q ≡ shown h b ss q
    unfolding shown without
    without_shown b w [] = refl
    without_shown b w (s ∷ ss) = step (ℕ_discrete s.owner t) (λ w'. without_shown (but b s.owner) w' ss) (without_shown b w ss)
      where
        step : (d : Dec (s.owner ≡ t)) → (but b s.owner t ≡ true → shown h (but (but b s.owner) t) (without t ss) q ≡ shown h (but b s.owner) ss q)
            → shown h (but b t) (without t ss) q ≡ shown h b ss q → shown h (but b t) (ite {C = List (Section ℤ)} d ss (s ∷ without t ss)) q ≡ shown h b (s ∷ ss) q
        step (yes p) r m = rw (ap b p ∙ w) (ap (λ (v : ℕ). shown h (but b v) ss q) (sym p))
        step (no p) r m =
            let x =
            shown_as (but (but b t) s.owner) (but (but b s.owner) t) (λ u. but_twice (b u) (not (eqb u t)) (not (eqb u s.owner))) (without t ss)
            ∙ r (but_other b s.owner t (λ z. p (sym z)) ∙ w) in
            λ i. cond (but_other b t s.owner p i) (x i) (cond (eqb s.top q) (entry_code (entry h s)) (m i))

    -- b tells who holds something before it, and c after it
    module _ (b c : ℕ → Bool) (o : Off t b c) where
      -- neither the last N of a section nor a K
      pub kept_shown : (busy : Bool) → b t ≡ busy → c t ≡ busy → (ss : List (Section ℤ)) → shown h c (shape false busy t n e ss) q ≡ shown h b ss q
      kept_shown true w z ss = push_shown c z ss ∙ sym (shown_as b c (same_as t b c o (w ∙ sym z)) ss)
      kept_shown false w z ss = sym (shown_as b c (same_as t b c o (w ∙ sym z)) ss)

      -- a K
      pub lock_shown : (busy : Bool) → b t ≡ busy → c t ≡ true → (ss : List (Section ℤ)) → shown h c (shape true busy t n e ss) q ≡ shown h b ss q
      unfolding shown
      lock_shown true w z ss = rw z (shown_as (but c t) (but b t) (λ u. ap (λ (x : Bool). x && not (eqb u t)) (sym (same_as t b c o (w ∙ sym z) u))) (without t ss) ∙ without_shown b w ss)
      lock_shown false w z ss = rw z (shown_as (but c t) b (but_is t c b (λ u k. sym (o u k)) w) ss)

    -- the last N of a section, which begins at line a and has its last K at index j
    pub end_shown : (a j : ℕ) (b c : ℕ → Bool) → Off t b c → b t ≡ true → c t ≡ false → (ss : List (Section ℤ)) → Falling ss → Latest h t a j ss
        → shown h c (push t n e ss) q ≡ cond (eqb (suc j) q) (code_of t a (line_of h n)) (shown h b ss q)
    unfolding shown push Falling Latest
    end_shown a j b c o w z [] f l = absurd l
    end_shown a j b c o w z (s ∷ ss) f l = step (ℕ_discrete s.owner t) l (λ o' w' z' l'. end_shown a j (but b s.owner) (but c s.owner) o' w' z' ss f.1 l') (λ l'. end_shown a j b c o w z ss f.1 l')
      where
        -- the sections behind the first, as b and c tell
        Behind : (ℕ → Bool) → (ℕ → Bool) → Type 0
        Behind b c = shown h c (push t n e ss) q ≡ cond (eqb (suc j) q) (code_of t a (line_of h n)) (shown h b ss q)

        swap : (x y : ℕ) → Latest h t a j ss → Dec (s.top ≡ q) → cond (eqb s.top q) x (cond (eqb (suc j) q) y (shown h b ss q)) ≡ cond (eqb (suc j) q) y (cond (eqb s.top q) x (shown h b ss q))
        swap x y l (yes e) = rw (eq-eqb s.top q e, ne_eqb (suc j) q (λ k. omega (arith, k, e, latest_below h t a j s.top ss f.0 l))) refl
        swap x y l (no e) = rw (ne_eqb s.top q e) refl

        go : (x : Bool) → Behind (but b s.owner) (but c s.owner) → Behind b c → Latest h t a j ss
            → cond x (shown h (but c s.owner) (push t n e ss) q) (cond (eqb s.top q) (entry_code (entry h s)) (shown h c (push t n e ss) q))
            ≡ cond (eqb (suc j) q) (code_of t a (line_of h n)) (cond x (shown h (but b s.owner) ss q) (cond (eqb s.top q) (entry_code (entry h s)) (shown h b ss q)))
        go true r m l = r
        go false r m l = ap (cond (eqb s.top q) (entry_code (entry h s))) m ∙ swap (entry_code (entry h s)) (code_of t a (line_of h n)) l (ℕ_discrete s.top q)

        step : (d : Dec (s.owner ≡ t)) → either d ((line_of h s.first ≡ a) × (s.top ≡ suc j)) (Latest h t a j ss)
            → (Off t (but b s.owner) (but c s.owner) → but b s.owner t ≡ true → but c s.owner t ≡ false → Latest h t a j ss → Behind (but b s.owner) (but c s.owner))
            → (Latest h t a j ss → Behind b c)
            → shown h c (ite {C = List (Section ℤ)} d (grown n e s ∷ ss) (s ∷ push t n e ss)) q ≡ cond (eqb (suc j) q) (code_of t a (line_of h n)) (shown h b (s ∷ ss) q)
        step (yes p) l r m =
            let x = sym (shown_as (but b t) c (but_is t b c o z) ss) ∙ ap (λ (v : ℕ). shown h (but b v) ss q) (sym p) in
            rw (ap c p ∙ z, ap b p ∙ w) (λ i. cond (eqb (l.1 i) q) (code_of (p i) (l.0 i) (line_of h n)) (x i))
        step (no p) l r m =
            rw (← o s.owner p)
            (go (b s.owner) (r (λ u k. ap (λ (x : Bool). x && not (eqb u s.owner)) (o u k)) (but_other b s.owner t (λ x. p (sym x)) ∙ w) (but_other c s.owner t (λ x. p (sym x)) ∙ z) l) (m l) l)
