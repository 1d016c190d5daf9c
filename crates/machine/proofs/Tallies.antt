-- The tallies beside the state: they start at 0, a changed cell moves the one of its thread, and they answer what K and N ask for.
use Prim.Native.Nat.{ℕ, zero, suc, ◌+◌, ◌*◌, ◌≤◌, ◌<◌}
use native.Mathlib.Omega.{arith}
use native.Mathlib.Nat.{not-suc-le-zero}
use native.Mathlib.Numerals.{add-one}
use mathlib.Core.Path.{◌≡◌, refl, sym, ap, ◌∙◌, subst}
use mathlib.Core.Bool.{Bool, true, false, cond, ◌&&◌, ◌||◌}
use mathlib.Core.List.{List, [], ◌∷◌}
use lib.Dec.{T, eqb, ltb}
use mir.Val.{bool_byte}
use lib.IntN.{ℤ}
use lib.ListN.{length, get_or, set, replicate, length-set}
use lib.Seq.{get_or-set_same, get_or-set_other, set-get_or}
use borrow.Author.Tests.{lt-ltb, ltb-true, eqb-true, eqb-false}
use Rattle.rules.specs.declared.Counts.{Counts}
use Rattle.rules.specs.declared.Slot.{Slot}
use Rattle.rules.specs.Events.{L, R, U, among}
use Rattle.rules.specs.Memories.{from}
use Rattle.rules.specs.Rules.{some}
use Rattle.rules.proofs.From.{length_from, from_at, from_all}
use Rattle.state.specs.declared.Cell.{Cell}
use Rattle.state.specs.declared.State.{State}
use Rattle.state.specs.State.{blank, cell_at, start}
use Rattle.state.specs.Step.{next_cell}
use Rattle.state.specs.Computed.Places.{cell_place}
use Rattle.state.proofs.LeafLaws.{place_is}
use Rattle.state.proofs.Stands.{start_cell}
use Rattle.judging.specs.declared.OnSome.{OnSome}
use Rattle.judging.specs.Computed.Turns.{awaits_write, some_of}
use Rattle.judging.proofs.Turned.{kept_tally}
use Rattle.machine.specs.declared.Tally.{Tally}
use Rattle.machine.specs.Computed.Tallies.{number, no_tally, tally_of, moved, tally_after, Small, some_in}

-- ---- numbers of what has something

pub one_le : (b : Bool) → cond b 1 0 ≤ 1
one_le true = omega arith
one_le false = omega arith

-- a flag as a number
byte_is : (b : Bool) → bool_byte b ≡ cond b 1 0
byte_is true = refl
byte_is false = refl

pub number_le : (n : ℕ) (f : ℕ → Bool) → number n f ≤ n
unfolding number
number_le zero f = omega arith
number_le (suc n) f = omega (arith, number_le n f, one_le (f n))

pub number_none : (f : ℕ → Bool) → 0 ≡ number 0 f
unfolding number
number_none f = refl

pub small_sum : (n : ℕ) (f : ℕ → Bool) {k m : ℕ} (b : Bool) → k ≡ bool_byte b → m ≡ number n f → m + k ≤ n + 1
small_sum n f b q p = omega (arith, number_le n f, one_le b, byte_is b)

-- one number more
pub number_more : (n : ℕ) (f : ℕ → Bool) {k m : ℕ} {b : Bool} → k ≡ bool_byte b → b ≡ f n → m ≡ number n f → m + k ≡ number (n + 1) f
unfolding number
number_more n f {k} {m} {b} q e p = let z : m + k ≡ k + m = omega arith in z ∙ rw (add-one n, q ∙ byte_is b, e, p) refl

number_some : (n : ℕ) (f : ℕ → Bool) → ltb 0 (number n f) ≡ some n f
unfolding number some
number_some zero f = refl
number_some (suc n) f = by (f n) (number n f) (some n f) (number_some n f)
  where
    by : (b : Bool) (m : ℕ) (o : Bool) → ltb 0 m ≡ o → ltb 0 (cond b 1 0 + m) ≡ (b || o)
    by true m o e = lt-ltb 0 (1 + m) (omega arith)
    by false m o e = ap (λ (x : ℕ). ltb 0 x) (let z : 0 + m ≡ m = omega arith in z) ∙ e

number_same : (n : ℕ) (f g : ℕ → Bool) → ((u : ℕ) → u < n → g u ≡ f u) → number n g ≡ number n f
unfolding number
number_same zero f g e = refl
number_same (suc n) f g e = rw (e n (omega arith), number_same n f g (λ u h. e u (omega arith))) refl

-- f and g differ at v alone
number_moved : (n v : ℕ) (f g : ℕ → Bool) → v < n → ((u : ℕ) → (u ≡ v → ⊥) → g u ≡ f u) → number n g + cond (f v) 1 0 ≡ number n f + cond (g v) 1 0
unfolding number
number_moved zero v f g h e = absurd (not-suc-le-zero h)
number_moved (suc n) v f g h e = by (eqb n v) refl (λ k. number_moved n v f g k e)
  where
    by : (b : Bool) → eqb n v ≡ b → (v < n → number n g + cond (f v) 1 0 ≡ number n f + cond (g v) 1 0)
        → cond (g n) 1 0 + number n g + cond (f v) 1 0 ≡ cond (f n) 1 0 + number n f + cond (g v) 1 0
    by true p r =
        let q : n ≡ v = eqb-true n v p in
        let same : number n g ≡ number n f = number_same n f g (λ u k. e u (λ x. omega arith)) in
        rw (q) (rw (← q) (omega (arith, same)))
    by false p r =
        let d : (n ≡ v → ⊥) = eqb-false n v p in
        let k : v < n = omega (arith, d) in
        rw (e n d) (omega (arith, r k))

-- ---- the tallies of all threads

pub tally_zero : {a : Tally} → a.pending ≡ 0 → a.fresh ≡ 0 → a.stored ≡ 0 → a ≡ no_tally
tally_zero p f s = λ j. record { pending = p j; fresh = f j; stored = s j }

pub record Tallied (s : State) (ts : List Tally) : Type 0 where
  pub eight : length ts ≡ 8
  pub each : (t : ℕ) → t < 8 → get_or ts t no_tally ≡ tally_of s t

pub tallied_from : (s : State) (ts : List Tally) → ts ≡ from (tally_of s) 0 8 → Tallied s ts
tallied_from s ts e = record {
  eight = ap length e ∙ length_from (tally_of s) 0 8;
  each = λ t h. ap (λ (l : List Tally). get_or l t no_tally) e ∙ from_at (tally_of s) no_tally 0 8 t h ∙ (let z : 0 + t ≡ t = omega arith in ap (tally_of s) z);
}

-- what changes neither counts nor cells
pub tallied_same : (s s' : State) (ts : List Tally) → s'.counts ≡ s.counts → s'.cells ≡ s.cells → Tallied s ts → Tallied s' ts
tallied_same s s' ts c e r = record { eight = r.eight; each = λ t h. r.each t h ∙ sym (same t) }
  where
    same : (t : ℕ) → tally_of s' t ≡ tally_of s t
    same t = unfold tally_of cell_at in rw (c, e) refl

nothing : (n : ℕ) → number n (λ v. false) ≡ 0
unfolding number
nothing zero = refl
nothing (suc n) = omega (arith, nothing n)

zeros : (n : ℕ) (f : ℕ → Bool) → ((v : ℕ) → f v ≡ false) → number n f ≡ 0
zeros n f z = number_same n (λ v. false) f (λ v l. z v) ∙ nothing n

start_tally : (h : Counts) (t : ℕ) → tally_of (start h) t ≡ no_tally
unfolding tally_of
start_tally h t = λ i. record {
  pending = zeros (start h).counts.variables (λ v. (cell_at (start h) t v).pending) (λ v. ap (λ (c : Cell). c.pending) (start_cell h t v)) i;
  fresh = zeros (start h).counts.variables (λ v. (cell_at (start h) t v).fresh) (λ v. ap (λ (c : Cell). c.fresh) (start_cell h t v)) i;
  stored = zeros (start h).counts.variables (λ v. awaits_write (cell_at (start h) t v)) (λ v. ap awaits_write (start_cell h t v)) i;
}

pub start_tallies : (h : Counts) → replicate 8 no_tally ≡ from (tally_of (start h)) 0 8
start_tallies h = sym (from_all (tally_of (start h)) no_tally 0 8 (start_tally h))

-- what K and N ask for
pub some_is : (s : State) (t : ℕ) (a : Tally) (any : OnSome) → a ≡ tally_of s t → any ≡ some_in a → any ≡ some_of s t s.counts.variables
unfolding some_in tally_of some_of
some_is s t a any ea ey = ey ∙ ap (λ (x : Tally). some_in x) ea ∙ (λ i. record {
  pending = number_some s.counts.variables (λ v. (cell_at s t v).pending) i;
  fresh = number_some s.counts.variables (λ v. (cell_at s t v).fresh) i;
  stored = number_some s.counts.variables (λ v. awaits_write (cell_at s t v)) i;
})

pub small : (s : State) (t : ℕ) (a : Tally) → s.counts.variables ≤ 16 → a ≡ tally_of s t → Small a
small s t a m e = subst Small (sym e) (unfold tally_of in record {
  pending = omega (arith, number_le s.counts.variables (λ v. (cell_at s t v).pending));
  fresh = omega (arith, number_le s.counts.variables (λ v. (cell_at s t v).fresh));
  stored = omega (arith, number_le s.counts.variables (λ v. awaits_write (cell_at s t v)));
})

-- a tally counted over all declared variables
pub tally_is : (s : State) (t : ℕ) {a : Tally} {n : ℕ} → n ≡ s.counts.variables → a.pending ≡ number n (λ v. (cell_at s t v).pending) → a.fresh ≡ number n (λ v. (cell_at s t v).fresh) → a.stored ≡ number n (λ v. awaits_write (cell_at s t v)) → a ≡ tally_of s t
unfolding tally_of
tally_is s t n p q r = λ j. record { pending = (p ∙ ap (λ (m : ℕ). number m (λ v. (cell_at s t v).pending)) n) j; fresh = (q ∙ ap (λ (m : ℕ). number m (λ v. (cell_at s t v).fresh)) n) j; stored = (r ∙ ap (λ (m : ℕ). number m (λ v. awaits_write (cell_at s t v))) n) j }

-- ---- after a cell has changed

-- the cell of thread t and variable v among all cells
cell_found : List Cell → ℕ → ℕ → Cell
cell_found cs t v = cond (ltb t 8 && ltb v 16) (get_or cs (16 * t + v) blank) blank

module _ (cs : List Cell) (t v : ℕ) (d : Cell) (len : length cs ≡ 128) (ht : t < 8) (hv : v < 16) where
  at_own : cell_found (set cs (16 * t + v) d) t v ≡ d
  unfolding cell_found
  at_own = rw (lt-ltb t 8 ht, lt-ltb v 16 hv) (get_or-set_same cs (16 * t + v) d blank (omega arith))

  at_other : (u w : ℕ) → ((u ≡ t) × (w ≡ v) → ⊥) → cell_found (set cs (16 * t + v) d) u w ≡ cell_found cs u w
  unfolding cell_found
  at_other u w n = go (ltb u 8) refl (ltb w 16) refl
    where
      go : (a : Bool) → ltb u 8 ≡ a → (b : Bool) → ltb w 16 ≡ b → cond (a && b) (get_or (set cs (16 * t + v) d) (16 * u + w) blank) blank ≡ cond (a && b) (get_or cs (16 * u + w) blank) blank
      go true p true q =
          let x = ltb-true u 8 p in
          let y = ltb-true w 16 q in
          get_or-set_other cs (16 * t + v) (16 * u + w) d blank (λ e. n (omega arith, omega arith))
      go true p false q = refl
      go false p b q = refl

module _ (s s' : State) (t v : ℕ) (d : Cell) (len : length s.cells ≡ 128) (ht : t < 8) (hv : v < 16) (hn : v < s.counts.variables) (same : s'.counts ≡ s.counts) (changed : s'.cells ≡ set s.cells (16 * t + v) d) where
  now_in : (u w : ℕ) → cell_at s' u w ≡ cell_found (set s.cells (16 * t + v) d) u w
  unfolding cell_at cell_found
  now_in u w = ap (λ (cs : List Cell). cond (ltb u 8 && ltb w 16) (get_or cs (16 * u + w) blank) blank) changed

  was_in : (u w : ℕ) → cell_found s.cells u w ≡ cell_at s u w
  unfolding cell_at cell_found
  was_in u w = refl

  was_own : cell_at s t v ≡ get_or s.cells (16 * t + v) blank
  unfolding cell_at
  was_own = rw (lt-ltb t 8 ht, lt-ltb v 16 hv) refl

  own : cell_at s' t v ≡ d
  own = now_in t v ∙ at_own s.cells t v d len ht hv

  other : (u w : ℕ) → ((u ≡ t) × (w ≡ v) → ⊥) → cell_at s' u w ≡ cell_at s u w
  other u w n = now_in u w ∙ at_other s.cells t v d len ht hv u w n ∙ was_in u w

  field_moved : (f : Cell → Bool) → number s'.counts.variables (λ w. f (cell_at s' t w)) ≡ moved (number s.counts.variables (λ w. f (cell_at s t w))) (f (get_or s.cells (16 * t + v) blank)) (f d)
  field_moved f =
      let q = number_moved s.counts.variables v (λ w. f (cell_at s t w)) (λ w. f (cell_at s' t w)) hn (λ u n. ap f (other t u (λ z. n z.1))) in
      let o : ◌≡◌ {A = ℕ} (cond (f (cell_at s' t v)) 1 0) (cond (f d) 1 0) = ap (λ (c : Cell). cond (f c) 1 0) own in
      let a : ◌≡◌ {A = ℕ} (cond (f (cell_at s t v)) 1 0) (cond (f (get_or s.cells (16 * t + v) blank)) 1 0) = ap (λ (c : Cell). cond (f c) 1 0) was_own in
      ap (λ (c : Counts). number c.variables (λ w. f (cell_at s' t w))) same ∙ omega (arith, q, o, a)

  tally_own : tally_of s' t ≡ tally_after (tally_of s t) (get_or s.cells (16 * t + v) blank) d
  unfolding tally_of tally_after
  tally_own = λ i. record { pending = field_moved (λ c. c.pending) i; fresh = field_moved (λ c. c.fresh) i; stored = field_moved awaits_write i }

  tally_other : (u : ℕ) → (u ≡ t → ⊥) → tally_of s' u ≡ tally_of s u
  unfolding tally_of
  tally_other u n = λ i. record {
    pending = number (same i).variables (λ w. (other u w (λ z. n z.0) i).pending);
    fresh = number (same i).variables (λ w. (other u w (λ z. n z.0) i).fresh);
    stored = number (same i).variables (λ w. awaits_write (other u w (λ z. n z.0) i));
  }

  pub tallied_set : (ts : List Tally) → Tallied s ts → (a : Tally) → a ≡ tally_after (get_or ts t no_tally) (get_or s.cells (16 * t + v) blank) d → Tallied s' (set ts t a)
  tallied_set ts r a ea = record { eight = length-set ts t a ∙ r.eight; each = λ u l. go u l (eqb u t) refl }
    where
      is : a ≡ tally_of s' t
      is = ea ∙ ap (λ (x : Tally). tally_after x (get_or s.cells (16 * t + v) blank) d) (r.each t ht) ∙ sym tally_own

      go : (u : ℕ) → u < 8 → (b : Bool) → eqb u t ≡ b → get_or (set ts t a) u no_tally ≡ tally_of s' u
      go u l true q =
          let k : t < length ts = omega (arith, r.eight) in
          rw (eqb-true u t q) (get_or-set_same ts t a no_tally k ∙ is)
      go u l false q = get_or-set_other ts t u a no_tally (eqb-false u t q) ∙ r.each u l ∙ sym (tally_other u (eqb-false u t q))

  -- a cell that keeps what is tallied
  pub tallied_kept : (ts : List Tally) → Tallied s ts → (let c = get_or s.cells (16 * t + v) blank in (d.pending ≡ c.pending) × (d.fresh ≡ c.fresh) × (d.stores ≡ c.stores)) → Tallied s' ts
  unfolding tally_after
  tallied_kept ts r q = subst (λ (l : List Tally). Tallied s' l) (set-get_or ts t no_tally) (tallied_set ts r (get_or ts t no_tally) (sym (same_tally (get_or ts t no_tally) (get_or s.cells (16 * t + v) blank) q)))
    where
      none : (n : ℕ) (b : Bool) → moved n b b ≡ n
      none n true = omega arith
      none n false = omega arith

      same_tally : (a : Tally) (c : Cell) → (d.pending ≡ c.pending) × (d.fresh ≡ c.fresh) × (d.stores ≡ c.stores) → tally_after a c d ≡ a
      same_tally a c q = unfold tally_after in (λ i. record {
        pending = (ap (λ (b : Bool). moved a.pending c.pending b) q.0 ∙ none a.pending c.pending) i;
        fresh = (ap (λ (b : Bool). moved a.fresh c.fresh b) q.1 ∙ none a.fresh c.fresh) i;
        stored = ((λ j. moved a.stored (awaits_write c) (ltb (cond (q.0 j) 1 0) (q.2 j).len)) ∙ none a.stored (awaits_write c)) i;
      })

-- ---- the same, for a cell at its place

module _ (s s' : State) (t v : ℕ) {i : ℕ} (d : Cell) (len : length s.cells ≡ 128) (ht : t < 8) (hv : v < 16) (hn : v < s.counts.variables) (same : s'.counts ≡ s.counts) (ei : i ≡ cell_place t v) (changed : s'.cells ≡ set s.cells i d) where
  changed_at : s'.cells ≡ set s.cells (16 * t + v) d
  changed_at = changed ∙ ap (λ (j : ℕ). set s.cells j d) (place_is t v ht hv ei)

  pub tallied_at : (ts : List Tally) → Tallied s ts → {a : Tally} → a ≡ tally_after (get_or ts t no_tally) (get_or s.cells i blank) d → Tallied s' (set ts t a)
  tallied_at ts r {a} e = tallied_set s s' t v d len ht hv hn same changed_at ts r a (e ∙ ap (λ (j : ℕ). tally_after (get_or ts t no_tally) (get_or s.cells j blank) d) (place_is t v ht hv ei))

  -- U, R and L leave what is tallied
  pub tallied_kept_at : (k p : ℕ) (r : Slot) (x : ℤ) → T (among (U ∷ R ∷ L ∷ []) k) → d ≡ next_cell p r k x (cell_at s t v) → (ts : List Tally) → Tallied s ts → Tallied s' ts
  tallied_kept_at k p r x h e ts f =
      let q = kept_tally k h p r x (cell_at s t v) in
      let c = was_own s s' t v d len ht hv hn same changed_at in
      tallied_kept s s' t v d len ht hv hn same changed_at ts f (
        ap (λ (z : Cell). z.pending) e ∙ q.0 ∙ ap (λ (z : Cell). z.pending) c,
        ap (λ (z : Cell). z.fresh) e ∙ q.1 ∙ ap (λ (z : Cell). z.fresh) c,
        ap (λ (z : Cell). z.stores) e ∙ q.2 ∙ ap (λ (z : Cell). z.stores) c,
      )
