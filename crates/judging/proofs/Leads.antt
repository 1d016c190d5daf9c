-- The checks that lead a row, from the parts of a state: what `lead_at` computes is 26, 27 and 28 of the rules.
use Prim.Native.Nat.{ℕ, ◌+◌, ◌*◌, ◌≤◌, ◌<◌}
use native.Mathlib.Omega.{arith}
use mathlib.Core.Path.{◌≡◌, refl, sym, ap, ◌∙◌, subst}
use mathlib.Core.List.{List}
use mathlib.Core.Bool.{Bool, true, false, not, cond, ◌&&◌, ◌||◌, and-false, or-false}
use lib.Dec.{T, eqb, ltb}
use lib.IntN.{ℤ}
use lib.ListN.{get_or}
use Rattle.std.specs.Prelude.{Option, Some, None}
use Rattle.rules.specs.declared.Event.{Event}
use Rattle.rules.specs.declared.Counts.{Counts}
use Rattle.rules.specs.declared.Slot.{Slot}
use Rattle.rules.specs.declared.Kind.{Kind}
use Rattle.rules.specs.declared.Kind.TheVariants as kind
use Rattle.rules.specs.Events.{A, B, C, F, K, L, N, P, R, S, U, W, Y, letter, place, among, is, lock_letters}
use Rattle.rules.specs.Limits.{volatile}
use Rattle.rules.specs.Words.{first}
use Rattle.rules.specs.Rules.{Words, some, wrong_neighbour, use_barred, write_barred, volatile_order, prescient_volatile, breaks, first_broken}
use Rattle.rules.specs.Rules as rule
use Rattle.rules.proofs.Laws.{cases, or_false_left, or_false_right, none_some, some_ext}
use Rattle.state.specs.declared.Cell.{Cell}
use Rattle.state.specs.declared.State.{State}
use Rattle.state.specs.State.{no_slot, blank, queued, cell_at, stores_at, words_in}
use Rattle.state.specs.Step.{var_of, Within}
use Rattle.state.specs.Computed.Places.{cell_place, slot_place}
use Rattle.state.proofs.LeafLaws.{cond_same, place_is, cell_read}
use Rattle.state.proofs.Letters.{by_letters}
use Rattle.state.proofs.Rings.{queued_none}
use Rattle.judging.specs.Computed.Checks.{oldest_of}
use Rattle.judging.specs.Computed.Leads.{is_access, lead_checks, lead_rule, bars_use, bars_write, bars_event, front_at, bars_at, order_at, lead_with, lead_at}
use Rattle.judging.proofs.Rows.{found, found_cond, leading, unled_plain, unled_lock}
use Rattle.judging.proofs.Turned.{By, var_place, oldest_is}

-- a letter of which 27 asks nothing
no_order : (h : Counts) (cs : List Cell) (ss : List Slot) (t v k : ℕ) → eqb k U ≡ false → eqb k W ≡ false → order_at h cs ss t v k ≡ false
unfolding order_at bars_at bars_event
no_order h cs ss t v k p q = none_some h.variables (λ u. volatile h u && bars_at cs ss t v k u) (λ u l. unfold bars_at bars_event in rw (p, q, and-false) refl)

module _ (s : State) (t line : ℕ) (ht : t < 8) (hn : s.counts.variables ≤ 16) where
  abbrev of : Kind → Event
  of k = record { thread = t; line = line; kind = k }

  abbrev h : Counts
  h = s.counts

  abbrev w : Words
  w = words_in s

  abbrev at : ℕ → Cell
  at u = get_or s.cells (cell_place t u) blank

  abbrev front : ℕ → Slot
  front u = front_at s.cells s.stores (cell_place t u)

  cell_in : (u : ℕ) → u < 16 → at u ≡ cell_at s t u
  cell_in u k = cell_read s t u ht k refl

  none_in : (u : ℕ) → u < 16 → eqb (at u).stores.len 0 ≡ rule.none? (w.stores t u)
  unfolding words_in stores_at
  none_in u k = ap (λ (c : Cell). eqb c.stores.len 0) (cell_in u k) ∙ sym (queued_none s.stores (16 * t + u) (cell_at s t u).stores)

  oldest_in : (u : ℕ) → u < 16 → cond (eqb (at u).stores.len 0) no_slot (front u) ≡ first (w.stores t u)
  unfolding words_in stores_at oldest_of
  oldest_in u k =
      let i = place_is t u ht k refl in
      oldest_is s.stores (at u).stores (omega (arith, i, ht, k)) refl ∙ (λ j. first (queued s.stores (i j) (cell_in u k j).stores))

  -- where there is an outstanding store, its position is that of the slot at the first place
  guarded : (b : Bool) (f : Slot) (g : ℕ → Bool) → (not b && g f.position) ≡ (not b && g (cond b no_slot f).position)
  guarded true f g = refl
  guarded false f g = refl

  oldest_guarded : (u : ℕ) → u < 16 → (g : ℕ → Bool) → (not (eqb (at u).stores.len 0) && g (front u).position) ≡ (not (rule.none? (w.stores t u)) && g (first (w.stores t u)).position)
  oldest_guarded u k g = guarded (eqb (at u).stores.len 0) (front u) g ∙ (λ j. not (none_in u k j) && g (oldest_in u k j).position)

  -- ---- 27

  bars_use_law : (u : ℕ) → u < 16 → (r : ℕ) → bars_use (at u) r ≡ rule.bars_use w t r u
  unfolding rule.bars_use
  bars_use_law u k r = (λ j. (at u).fresh || not (none_in u k j) || not (ltb (at u).written r) || not (ltb (at u).used r))
      ∙ unfold words_in in (λ j. (cell_in u k j).fresh || not (rule.none? (stores_at s t u)) || not (ltb (cell_in u k j).written r) || not (ltb (cell_in u k j).used r))

  bars_write_law : (u : ℕ) → u < 16 → (a : ℕ) → bars_write (at u) (front u) a ≡ rule.bars_write w t a u
  unfolding rule.bars_write
  bars_write_law u k a = (λ j. oldest_guarded u k (λ p. ltb p a) j || (at u).fresh && ltb (at u).assigned a)
      ∙ unfold words_in in (λ j. not (rule.none? (stores_at s t u)) && ltb (first (stores_at s t u)).position a || (cell_in u k j).fresh && ltb (cell_in u k j).assigned a)

  -- each declared variable has a cell
  low : (u : ℕ) → u < s.counts.variables → u < 16
  low u k = omega (arith, k, hn)

  loaded_in : (v : ℕ) → v < 16 → (at v).loaded ≡ w.loaded_read t v
  unfolding words_in
  loaded_in v k = ap (λ (c : Cell). c.loaded) (cell_in v k)

  use_order : (v : ℕ) → v < 16 → order_at h s.cells s.stores t v U ≡ rule.on_volatile h (rule.bars_use w t (w.loaded_read t v))
  unfolding order_at bars_at bars_event
  use_order v k = some_ext h.variables (λ u. volatile h u && (bars_use (at u) (at v).loaded || false)) (λ u. volatile h u && rule.bars_use w t (w.loaded_read t v) u)
      (λ u l. ap (λ (b : Bool). volatile h u && b) (or-false (bars_use (at u) (at v).loaded) ∙ bars_use_law u (low u l) (at v).loaded ∙ ap (λ (r : ℕ). rule.bars_use w t r u) (loaded_in v k)))

  write_order : (v : ℕ) → v < 16 → order_at h s.cells s.stores t v W ≡ (not (rule.none? (w.stores t v)) && rule.on_volatile h (rule.bars_write w t (first (w.stores t v)).position))
  unfolding order_at bars_at bars_event
  write_order v k =
      some_ext h.variables (λ u. volatile h u && (not (eqb (at v).stores.len 0) && bars_write (at u) (front u) (front v).position)) (λ u. volatile h u && (not (rule.none? (w.stores t v)) && rule.bars_write w t (first (w.stores t v)).position u))
      (λ u l. ap (λ (b : Bool). volatile h u && b) (oldest_guarded v k (λ p. bars_write (at u) (front u) p) ∙ ap (λ (b : Bool). not (rule.none? (w.stores t v)) && b) (bars_write_law u (low u l) (first (w.stores t v)).position)))
      ∙ apart (not (rule.none? (w.stores t v)))
    where
      apart : (b : Bool) → some h.variables (λ u. volatile h u && (b && rule.bars_write w t (first (w.stores t v)).position u)) ≡ (b && some h.variables (λ u. volatile h u && rule.bars_write w t (first (w.stores t v)).position u))
      apart true = refl
      apart false = none_some h.variables (λ u. volatile h u && false) (λ u l. and-false (volatile h u))

  -- ---- all three

  abbrev order : Kind → Bool
  order k = order_at h s.cells s.stores t (place k) (letter k)

  quiet : (v k : ℕ) → eqb k U ≡ false → eqb k W ≡ false → order_at h s.cells s.stores t v k ≡ false
  quiet v k p q = no_order h s.cells s.stores t v k p q

  checks_in : (k : Kind) → T (not (among lock_letters (letter k))) → place k < 16 → volatile h (place k) ≡ true → (o : Bool)
      → ((lead_checks (at (place k)) o (letter k)).neighbour ≡ wrong_neighbour h w (of k)) × (order k ≡ volatile_order h w (of k)) × ((lead_checks (at (place k)) o (letter k)).prescient ≡ prescient_volatile h (of k))
  unfolding is_access wrong_neighbour volatile_order use_barred write_barred prescient_volatile is words_in
  checks_in (kind.Lock _) m l q o = elim m [ ]
  checks_in (kind.Unlock _) m l q o = elim m [ ]
  checks_in (kind.Wait _) m l q o = elim m [ ]
  checks_in (kind.Notify _ _) m l q o = elim m [ ]
  checks_in (kind.Resume _) m l q o = elim m [ ]
  checks_in (kind.Use v x) m l q o = (rw (q, cell_in v l) refl, use_order v l ∙ sym (rw (q, or-false) refl), refl)
  checks_in (kind.Assign v x) m l q o = (rw (q, cell_in v l) refl, quiet v A refl refl, refl)
  checks_in (kind.Load v x) m l q o = (rw (q, cell_in v l) refl, quiet v L refl refl, refl)
  checks_in (kind.Store v x) m l q o = (rw (q, cell_in v l) refl, quiet v S refl refl, refl)
  checks_in (kind.Read v x) m l q o = (refl, quiet v R refl refl, refl)
  checks_in (kind.Write v x) m l q o = (refl, write_order v l ∙ sym (rw q refl), refl)
  checks_in (kind.PrescientStore v x) m l q o = (rw (q, cell_in v l) refl, quiet v P refl refl, rw q refl)
  checks_in (kind.PrescientAssign v x) m l q o = (rw (q, cell_in v l) refl, quiet v B refl refl, rw q refl)

  -- ---- the number

  lead_volatile : (k : Kind) → T (not (among lock_letters (letter k))) → place k < 16 → volatile h (place k) ≡ true → lead_rule (at (place k)) (order k) (letter k) ≡ found (leading h w (of k))
  unfolding lead_rule first_broken breaks
  lead_volatile k m l q = let c = checks_in k m l q (order k) in (λ j. cond (c.0 j) (Some 26) (cond (c.1 j) (Some 27) (cond (c.2 j) (Some 28) None))) ∙ sym (simp found_cond)

  lead_variable : (k : Kind) → T (not (among lock_letters (letter k))) → place k < 16 → lead_at s t (place k) (letter k) ≡ found (leading h w (of k))
  unfolding lead_with
  lead_variable k m l = go (volatile h (place k)) refl
    where
      go : (b : Bool) → volatile h (place k) ≡ b → cond b (lead_rule (at (place k)) (order k) (letter k)) None ≡ found (leading h w (of k))
      go true q = lead_volatile k m l q
      go false q = sym (ap found (unled_plain h w (of k) q))

  -- of a lock event: none
  lead_lock : (k : ℕ) → T (among lock_letters k) → (v : ℕ) → lead_at s t v k ≡ None
  unfolding lead_with lead_rule is_access
  lead_lock k h v = by_letters (λ k. lead_at s t v k ≡ None) lock_letters (none (quiet v K refl refl), (none (quiet v N refl refl), (none (quiet v Y refl refl), (none (quiet v F refl refl), (none (quiet v C refl refl), tt))))) k h
    where
      none : {o : Bool} → o ≡ false → ◌≡◌ {A = Option ℕ} (cond (volatile s.counts v) (cond o (Some 27) None) None) None
      none q = ap (λ (o : Bool). cond (volatile s.counts v) (cond o (Some 27) None) None) q ∙ cond_same {A = Option ℕ} (volatile s.counts v) None

  lead_in : (k : Kind) → var_of k < 16 → lead_at s t (var_of k) (letter k) ≡ found (leading h w (of k))
  lead_in k l = cases (among lock_letters (letter k))
      (λ q. lead_lock (letter k) (subst T (sym q) tt) (var_of k) ∙ sym (ap found (unled_lock h w (of k) (subst T (sym q) tt))))
      (λ q. let p : var_of k ≡ place k = unfold var_of in rw q refl in ap (λ (v : ℕ). lead_at s t v (letter k)) p ∙ lead_variable k (rw q tt) (subst (λ (v : ℕ). v < 16) p l))

module _ (s : State) (e : Event) (w : Within e.thread e.kind) (hn : s.counts.variables ≤ 16) where
  pub lead_is : lead_at s e.thread (var_of e.kind) (letter e.kind) ≡ found (leading s.counts (words_in s) e)
  lead_is = lead_in s e.thread e.line w.thread hn e.kind w.variable

  -- an event on a variable, by its numbers
  pub lead_by : {t v k : ℕ} {x : ℤ} → By e t v k x → among lock_letters k ≡ false → lead_at s t v k ≡ found (leading s.counts (words_in s) e)
  lead_by n q = (λ j. lead_at s (n.thread j) (var_place n q j) (n.letter j)) ∙ lead_is

-- ---- as it is computed

module _ (h : Counts) (c : Cell) (cs : List Cell) (ss : List Slot) (t v k : ℕ) {b : Bool} (y : b ≡ volatile h v) where
  pub lead_found : b ≡ true → {o : Bool} → o ≡ order_at h cs ss t v k → {r : Option ℕ} → r ≡ lead_rule c o k → r ≡ lead_with h c cs ss t v k
  unfolding lead_with
  lead_found q e p = p ∙ (λ j. lead_rule c (e j) k) ∙ sym (rw (← y, q) refl)

  pub lead_quiet : b ≡ true → (eqb k U || eqb k W) ≡ false → {r : Option ℕ} → r ≡ lead_rule c false k → r ≡ lead_with h c cs ss t v k
  lead_quiet q z p = lead_found q (sym (no_order h cs ss t v k (or_false_left (eqb k U) (eqb k W) z) (or_false_right (eqb k U) (eqb k W) z))) p

  pub lead_none : b ≡ false → None ≡ lead_with h c cs ss t v k
  unfolding lead_with
  lead_none q = rw (← y, q) refl

pub bars_is : (cs : List Cell) (ss : List Slot) (t v k u : ℕ) {i f j g : ℕ} → i ≡ cell_place t v → f ≡ slot_place i (get_or cs i blank).stores 0 → j ≡ cell_place t u → g ≡ slot_place j (get_or cs j blank).stores 0
    → {b : Bool} → b ≡ bars_event (get_or cs i blank) (get_or ss f no_slot) (get_or cs j blank) (get_or ss g no_slot) k → b ≡ bars_at cs ss t v k u
unfolding bars_at
bars_is cs ss t v k u {i} {f} {j} {g} ei ef ej eg eb =
    eb ∙ (λ z. bars_event (get_or cs i blank) (get_or ss (ef z) no_slot) (get_or cs j blank) (get_or ss (eg z) no_slot) k)
    ∙ (λ z. bars_event (get_or cs (ei z) blank) (front_at cs ss (ei z)) (get_or cs (ej z) blank) (front_at cs ss (ej z)) k)
