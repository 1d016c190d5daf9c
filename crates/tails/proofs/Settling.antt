-- The moves of a tail go on from a legal list of the ten kinds, each by the rules, and finish it.
use Prim.Native.Nat.{ℕ, zero, suc, pred, ◌+◌, ◌≤◌, ◌<◌}
use native.Mathlib.Omega.{arith}
use native.Mathlib.Nat.{not-suc-le-zero}
use mathlib.Core.Path.{◌≡◌, refl, sym, ap, ◌∙◌, subst}
use mathlib.Core.Bool.{Bool, true, false, cond, ◌&&◌, ◌||◌, and-false, false≢true}
use mathlib.Core.List.{List, [], ◌∷◌, ◌++◌, map}
use lib.Dec.{T, eqb}
use lib.IntN.{ℤ}
use lib.ListN.{length, replicate}
use borrow.Author.Tests.{eqb-true, eqb-false, eq-eqb, ne_eqb, lt-ltb}
use Rattle.rules.specs.declared.Kind.{Kind}
use Rattle.rules.specs.declared.Kind.TheVariants.{Assign, Load, Store, Write, Unlock, PrescientAssign}
use Rattle.rules.specs.declared.Event.{Event}
use Rattle.rules.specs.declared.Slot.{Slot}
use Rattle.rules.specs.declared.Counts.{Counts}
use Rattle.rules.specs.Events.{C, F, K, lock_letters, place, is, of, on, subject_of, on_lock, locks}
use Rattle.rules.specs.Limits.{declared}
use Rattle.rules.specs.Words.{by, locks_by, grip_after}
use Rattle.rules.specs.Rules.{Words, words_of, some, none?, held, unwritten, dead_read}
use Rattle.rules.specs.Memories.{below, each}
use Rattle.rules.specs.Ten.{ten_letters}
use Rattle.rules.proofs.Laws.{cases, is_among, is_apart, none_some}
use Rattle.rules.proofs.Signed.{eq_z_refl}
use Rattle.rules.proofs.Next.{others, next}
use Rattle.rules.proofs.Simulation.{legal_next}
use Rattle.rules.proofs.Held.{gripping, own_subject}
use Rattle.rules.proofs.Cells.{event_by, cell_of, slot_at, changed, changing}
use Rattle.rules.proofs.Rows.{Kept}
use Rattle.rules.proofs.Live.{live}
use Rattle.rules.proofs.Loads.{loads_row}
use Rattle.tails.specs.Tails.{unsettled, finished, Move, move, write, load, numbered, closes, settles, frees, moves_of}
use Rattle.tails.proofs.Runs.{after, after_append, after_each, Fit, AllPlain, fit_next}
use Rattle.tails.proofs.Parts.{Part, part_with, part_of, closing, closes_part, settles_part, part_own, part_off, depth_off}

-- Moves for each number below j in turn, each hanging on a state S of its number: they make it done and leave the other states as they were, and P goes
-- on holding.
module _ {X : Type 0} (S : ℕ → List Event → X) (D : ℕ → X → Type 0) (P : List Event → Type 0) where
  record Does (i : ℕ) (es fs : List Event) : Type 0 where
    keeps : P fs
    done : D i (S i fs)
    off : (m : ℕ) → eqb i m ≡ false → S m fs ≡ S m es

  record Upto (es : List Event) (i : ℕ) (fs : List Event) : Type 0 where
    keeps : P fs
    done : (m : ℕ) → m < i → D m (S m fs)
    ahead : (m : ℕ) → i ≤ m → S m fs ≡ S m es

  all_done : (f : ℕ → X → List Move) (j : ℕ) → ((i : ℕ) → i < j → (n : ℕ) (es : List Event) → P es → Does i es (after n (f i (S i es)) es))
      → (n : ℕ) (es : List Event) → P es → Upto es j (after n (each (λ i. f i (S i es)) (below j)) es)
  all_done f j one n es p = after_each (λ i. f i (S i es)) (Upto es) j
      (λ i b n fs u. subst (λ x. Upto es (suc i) (after n (f i x) fs)) (u.ahead i (omega arith)) (more i fs (after n (f i (S i fs)) fs) u (one i b n fs u.keeps)))
      n es (record { keeps = p; done = λ m q. absurd (not-suc-le-zero q); ahead = λ m q. refl })
    where
      more : (i : ℕ) (fs gs : List Event) → Upto es i fs → Does i fs gs → Upto es (suc i) gs
      more i fs gs u o = record {
        keeps = o.keeps;
        done = λ m q. cases (eqb i m)
            (λ e. subst (λ z. D z (S z gs)) (eqb-true i m e) o.done)
            (λ e. subst (D m) (sym (o.off m e)) (u.done m (omega (arith, q, eqb-false i m e))));
        ahead = λ m q. o.off m (ne_eqb i m (λ e. omega (arith, q, e))) ∙ u.ahead m (omega arith);
      }

-- ---- events of thread t on variable v: the other parts and the holds are as they were

record Run (h : Counts) (t v : ℕ) (es fs : List Event) : Type 0 where
  fit : Fit h fs
  parts : (u m : ℕ) → (eqb t u && eqb v m) ≡ false → part_of (words_of fs) u m ≡ part_of (words_of es) u m
  depths : (u l : ℕ) → (words_of fs).depth u l ≡ (words_of es).depth u l

run_none : {h : Counts} {t v : ℕ} {es : List Event} → Fit h es → Run h t v es es
run_none f = record { fit = f; parts = λ u m q. refl; depths = λ u l. refl }

run_on : {h : Counts} {t v : ℕ} {es fs gs : List Event} → Run h t v es fs → Run h t v fs gs → Run h t v es gs
run_on p q = record { fit = q.fit; parts = λ u m o. q.parts u m o ∙ p.parts u m o; depths = λ u l. q.depths u l ∙ p.depths u l }

-- nothing is outstanding, fresh or owed
record Clean (p : Part) : Type 0 where
  reads : p.reads ≡ []
  stores : p.stores ≡ []
  fresh : p.fresh ≡ false
  pending : p.pending ≡ false

module _ (h : Counts) (pl : AllPlain h) (t v : ℕ) (a : t < h.threads) (b : v < h.variables) where
  step : (k : Kind) (n : ℕ) (es : List Event) → T (is changing (event_by t n k)) → place k ≡ v → Fit h es → Kept h (words_of es) t k → Run h t v es (event_by t n k ∷ es)
  unfolding declared on_lock by of on locks_by locks
  step k n es o s f r =
      let e = event_by t n k in record {
        fit = fit_next h es t n k (is_among changing ten_letters e tt o) (rw (own_subject e (is_apart changing (F ∷ []) e tt o), is_apart changing lock_letters e tt o, s, lt-ltb t h.threads a, lt-ltb v h.variables b)) (simp (s, pl v b, and-false)) f r;
        parts = λ u m q. ap (λ w. part_of w u m) (legal_next h e es f.goes) ∙ part_off (words_of es) t n k u m (simp (s, q, and-false)) ∙ rw (is_apart changing (K ∷ C ∷ []) e tt o);
        depths = λ u l. ap (λ w. w.depth u l) (legal_next h e es f.goes) ∙ depth_off (words_of es) e u l (rw (is_apart changing gripping e tt o));
      }

  -- what it makes of V's own part
  own : (k : Kind) (n : ℕ) (es : List Event) → place k ≡ v → Fit h es
      → part_of (words_of (event_by t n k ∷ es)) t v ≡ part_with (changed (suc (words_of es).events) k (cell_of (words_of es) t v)) ((next (words_of es) (event_by t n k)).usable t v) ((next (words_of es) (event_by t n k)).copy t v)
  own k n es s f =
      ap (λ w. part_of w t v) (legal_next h (event_by t n k) es f.goes)
      ∙ subst (λ z. part_of (next (words_of es) (event_by t n k)) t z ≡ part_with (changed (suc (words_of es).events) k (cell_of (words_of es) t z)) ((next (words_of es) (event_by t n k)).usable t z) ((next (words_of es) (event_by t n k)).copy t z)) s (part_own (words_of es) t n k)

  -- ---- its stores are written

  abbrev written : Part → Part
  written p = record { reads = p.reads; stores = []; fresh = p.fresh; pending = p.pending; announced = p.announced; usable = p.usable; copy = p.copy }

  abbrev Wrote : List Event → List Event → Type 0
  Wrote es fs = Run h t v es fs × (part_of (words_of fs) t v ≡ written (part_of (words_of es) t v))

  writes : (ss : List Slot) (n : ℕ) (es : List Event) → Fit h es → (words_of es).stores t v ≡ ss
      → Wrote es (after n (map (write t v) ss) es)
  unfolding numbered cell_of next by is locks_by locks
  writes [] n es f q =
      (run_none f, λ i. record { reads = (words_of es).reads t v; stores = q i; fresh = (words_of es).fresh t v; pending = (words_of es).pending t v; announced = (words_of es).announced t v; usable = (words_of es).usable t v; copy = (words_of es).copy t v })
  writes (s ∷ ss) n es f q =
      let k = Write v s.value in
      let r = step k n es tt refl f (rw q, rw q (eq_z_refl s.value)) in
      let d = writes ss (suc n) (event_by t n k ∷ es) r.fit (ap (λ p. p.stores) (own k n es refl f) ∙ ap others q) in
      (run_on r d.0, d.1 ∙ ap written (own k n es refl f))

  -- ---- its assign is made, stored and written

  -- and only its reads are left
  record Closed (es fs : List Event) : Type 0 where
    run : Run h t v es fs
    reads : (words_of fs).reads t v ≡ (words_of es).reads t v
    stores : (words_of fs).stores t v ≡ []
    fresh : (words_of fs).fresh t v ≡ false
    pending : (words_of fs).pending t v ≡ false

  -- a fresh copy that is usable is stored and written
  stored : (n : ℕ) (es : List Event) (x : ℤ) → Fit h es → (words_of es).pending t v ≡ false → (words_of es).fresh t v ≡ true → (words_of es).usable t v ≡ true → (words_of es).copy t v ≡ x → (words_of es).stores t v ≡ []
      → Closed es (after n (move t (Store v x) ∷ move t (Write v x) ∷ []) es)
  unfolding numbered cell_of is
  stored n es x f p r u y s =
      let a = step (Store v x) n es tt refl f (record { not_pending = p; fresh = r; usable = u; room = rw s }, rw y (eq_z_refl x)) in
      let c = own (Store v x) n es refl f in
      let es' = event_by t n (Store v x) ∷ es in
      let one : (words_of es').stores t v ≡ slot_at ((words_of es).last_assign t v) x ∷ [] = ap (λ p. p.stores) c ∙ rw s in
      let d = own (Write v x) (suc n) es' refl a.fit in record {
        run = run_on a (step (Write v x) (suc n) es' tt refl a.fit (rw one, rw one (eq_z_refl x)));
        reads = ap (λ p. p.reads) d ∙ ap (λ p. p.reads) c;
        stores = ap (λ p. p.stores) d ∙ ap others one;
        fresh = ap (λ p. p.fresh) d ∙ ap (λ p. p.fresh) c;
        pending = ap (λ p. p.pending) d ∙ ap (λ p. p.pending) c ∙ p;
      }

  -- a fresh assign that is not owed leaves no read outstanding
  no_read : (es : List Event) → Fit h es → (words_of es).pending t v ≡ false → (words_of es).fresh t v ≡ true → none? ((words_of es).reads t v) ≡ true
  unfolding cell_of
  no_read es f p r = cases (none? ((words_of es).reads t v)) (λ q. q) (λ q. absurd (false≢true (sym p ∙ (live h es f.goes t v).stored q r)))

  closed : (n : ℕ) (es : List Event) → Fit h es → (words_of es).stores t v ≡ [] → Closed es (after n (closes_part t v (part_of (words_of es) t v)) es)
  unfolding numbered dead_read cell_of next by is of on locks_by locks
  closed n es f s = go ((words_of es).pending t v) ((words_of es).fresh t v) ((words_of es).usable t v) refl refl refl
    where
      x : ℤ
      x = (words_of es).copy t v

      y : ℤ
      y = (words_of es).announced t v

      go : (p r u : Bool) → (words_of es).pending t v ≡ p → (words_of es).fresh t v ≡ r → (words_of es).usable t v ≡ u
          → Closed es (after n (closing t v p r u x y) es)
      go true r u ep er eu =
          let c = own (PrescientAssign v y) n es refl f in record {
            run = step (PrescientAssign v y) n es tt refl f (ep, eq_z_refl y);
            reads = ap (λ p. p.reads) c;
            stores = ap (λ p. p.stores) c ∙ s;
            fresh = ap (λ p. p.fresh) c;
            pending = ap (λ p. p.pending) c;
          }
      go false true true ep er eu = stored n es x f ep er eu refl s
      go false true false ep er eu =
          let c = own (Assign v x) n es refl f in
          let a = step (Assign v x) n es tt refl f (rw (ep, no_read es f ep er)) in
          let d = stored (suc n) (event_by t n (Assign v x) ∷ es) x a.fit (ap (λ p. p.pending) c ∙ ep) (ap (λ p. p.fresh) c)
          (ap (λ p. p.usable) c ∙ rw (eq-eqb t t refl, eq-eqb v v refl)) (ap (λ p. p.copy) c ∙ rw (eq-eqb t t refl, eq-eqb v v refl)) (ap (λ p. p.stores) c ∙ s) in
          record { run = run_on a d.run; reads = d.reads ∙ ap (λ p. p.reads) c; stores = d.stores; fresh = d.fresh; pending = d.pending }
      go false false u ep er eu = record { run = run_none f; reads = refl; stores = s; fresh = er; pending = ep }

  -- ---- its reads are loaded

  loads : (rs : List Slot) (n : ℕ) (es : List Event) → Fit h es → (words_of es).reads t v ≡ rs → (words_of es).stores t v ≡ [] → (words_of es).fresh t v ≡ false → (words_of es).pending t v ≡ false
      → Run h t v es (after n (map (load t v) rs) es) × Clean (part_of (words_of (after n (map (load t v) rs) es)) t v)
  unfolding numbered cell_of is
  loads [] n es f q s r p = (run_none f, record { reads = q; stores = s; fresh = r; pending = p })
  loads (l ∷ rs) n es f q s r p =
      let k = Load v l.value in
      let c = own k n es refl f in
      let a = step k n es tt refl f (loads_row h t v l rs (words_of es) (live h es f.goes) q p r) in
      let d = loads rs (suc n) (event_by t n k ∷ es) a.fit (ap (λ p. p.reads) c ∙ ap others q) (ap (λ p. p.stores) c ∙ s) (ap (λ p. p.fresh) c ∙ r) (ap (λ p. p.pending) c ∙ p) in
      (run_on a d.0, d.1)

  -- ---- all of T's moves on V

  settle : (n : ℕ) (es : List Event) → Fit h es → Run h t v es (after n (settles_part t v (part_of (words_of es) t v)) es) × Clean (part_of (words_of (after n (settles_part t v (part_of (words_of es) t v)) es)) t v)
  unfolding cell_of
  settle n es f =
      let ws = map (write t v) ((words_of es).stores t v) in
      let cs = closes_part t v (part_of (words_of es) t v) in
      let ls = map (load t v) ((words_of es).reads t v) in
      let es₁ = after n ws es in
      let es₂ = after (n + length ws) cs es₁ in
      let a = writes ((words_of es).stores t v) n es f refl in
      let c : Closed es₁ es₂ = subst (λ ms. Closed es₁ (after (n + length ws) ms es₁)) (ap (closes_part t v) a.1) (closed (n + length ws) es₁ a.0.fit (ap (λ p. p.stores) a.1)) in
      let d = loads ((words_of es).reads t v) (n + length ws + length cs) es₂ c.run.fit (c.reads ∙ ap (λ p. p.reads) a.1) c.stores c.fresh c.pending in
      rw (after_append n ws (cs ++ ls) es, after_append (n + length ws) cs ls es₁) (run_on a.0 (run_on c.run d.0), d.1)

-- ---- T's unlocks

-- T has settled its variables
abbrev AllClean : Counts → Words → ℕ → Type 0
AllClean h w t = (m : ℕ) → m < h.variables → Clean (part_of w t m)

-- the hold of T on l is given up, the others and the parts are as they were
record Freed (h : Counts) (t l : ℕ) (es fs : List Event) : Type 0 where
  fit : Fit h fs
  parts : (u m : ℕ) → part_of (words_of fs) u m ≡ part_of (words_of es) u m
  free : (words_of fs).depth t l ≡ 0
  kept : (u m : ℕ) → (eqb t u && eqb l m) ≡ false → (words_of fs).depth u m ≡ (words_of es).depth u m

module _ (h : Counts) (t l : ℕ) (a : t < h.threads) (b : l < h.locks) where
  unlock_row_law : (w : Words) → AllClean h w t → 0 < w.depth t l → Kept h w t (Unlock l)
  unfolding unwritten cell_of
  unlock_row_law w c d = record {
    held = lt-ltb 0 (w.depth t l) d;
    stored = none_some h.variables (w.fresh t) (λ v q. (c v q).fresh);
    written = none_some h.variables (unwritten w t) (λ v q. rw ((c v q).pending, (c v q).stores));
  }

  unlocks : (d n : ℕ) (es : List Event) → Fit h es → AllClean h (words_of es) t → (words_of es).depth t l ≡ d → Freed h t l es (after n (replicate d (move t (Unlock l))) es)
  unfolding numbered
  unlocks zero n es f c q = record { fit = f; parts = λ u m. refl; free = q; kept = λ u m o. refl }
  unlocks (suc d) n es f c q =
      let e = event_by t n (Unlock l) in
      let r = unlocks d (suc n) (e ∷ es) fit (λ m o. subst Clean (sym (parts t m)) (c m o)) (depths t l ∙ rw (eq-eqb t t refl, eq-eqb l l refl, q)) in
      record { fit = r.fit; parts = λ u m. r.parts u m ∙ parts u m; free = r.free; kept = λ u m o. r.kept u m o ∙ depths u m ∙ rw o }
    where
      fit : Fit h (event_by t n (Unlock l) ∷ es)
      fit = fit_next h es t n (Unlock l) (unfold is in tt) (unfold declared on_lock is subject_of in rw (lt-ltb t h.threads a, lt-ltb l h.locks b)) (unfold on_lock is in refl) f (unlock_row_law (words_of es) c (rw q (omega arith)))

      parts : (u m : ℕ) → part_of (words_of (event_by t n (Unlock l) ∷ es)) u m ≡ part_of (words_of es) u m
      parts u m = ap (λ w. part_of w u m) (legal_next h (event_by t n (Unlock l)) es f.goes) ∙ part_off (words_of es) t n (Unlock l) u m (unfold by is in refl) ∙ unfold locks_by locks is in refl

      depths : (u m : ℕ) → (words_of (event_by t n (Unlock l) ∷ es)).depth u m ≡ cond (eqb t u && eqb l m) (pred ((words_of es).depth u m)) ((words_of es).depth u m)
      depths u m = ap (λ w. w.depth u m) (legal_next h (event_by t n (Unlock l)) es f.goes) ∙ unfold next grip_after by is of on in refl

-- ---- a thread, and all threads

-- what T has
record Own : Type 0 where
  parts : ℕ → Part
  holds : ℕ → ℕ

abbrev own_of : ℕ → List Event → Own
own_of t es = record { parts = λ v. part_of (words_of es) t v; holds = λ l. (words_of es).depth t l }

-- nothing of it is outstanding, fresh, owed or held
record Idle (h : Counts) (o : Own) : Type 0 where
  clean : (v : ℕ) → v < h.variables → Clean (o.parts v)
  free : (l : ℕ) → l < h.locks → o.holds l ≡ 0

abbrev settles_all : Counts → ℕ → Own → List Move
settles_all h t o = each (λ v. settles_part t v (o.parts v)) (below h.variables)

abbrev frees_all : Counts → ℕ → Own → List Move
frees_all h t o = each (λ l. replicate (o.holds l) (move t (Unlock l))) (below h.locks)

module _ (h : Counts) (pl : AllPlain h) where
  idles : (t : ℕ) → t < h.threads → (n : ℕ) (es : List Event) → Fit h es → Does own_of (λ t. Idle h) (Fit h) t es (after n (settles_all h t (own_of t es) ++ frees_all h t (own_of t es)) es)
  idles t a n es f =
      rw (after_append n ms (frees_all h t (own_of t es)) es)
      (subst (λ (g : ℕ → ℕ). Does own_of (λ t. Idle h) (Fit h) t es (after (n + length ms) (each (λ l. replicate (g l) (move t (Unlock l))) (below h.locks)) fs)) (λ i l. c.keeps.2 t l i) freed)
    where
      ms : List Move
      ms = settles_all h t (own_of t es)

      fs : List Event
      fs = after n ms es

      c : Upto (λ v gs. part_of (words_of gs) t v) (λ v. Clean) (λ gs. Fit h gs × ((u m : ℕ) → eqb t u ≡ false → part_of (words_of gs) u m ≡ part_of (words_of es) u m) × ((u l : ℕ) → (words_of gs).depth u l ≡ (words_of es).depth u l)) es h.variables fs
      c = all_done _ _ _ (settles_part t) h.variables (λ v b n gs p.
          let r = settle h pl t v a b n gs p.0 in record {
            keeps = (r.0.fit, λ u m q. r.0.parts u m (rw q) ∙ p.1 u m q, λ u l. r.0.depths u l ∙ p.2 u l);
            done = r.1;
            off = λ m q. r.0.parts t m (simp (q, and-false));
          }) n es (f, λ u m q. refl, λ u l. refl)

      d : Upto (λ l gs. (words_of gs).depth t l) (λ l k. k ≡ 0) (λ gs. Fit h gs × ((u m : ℕ) → part_of (words_of gs) u m ≡ part_of (words_of fs) u m) × ((u l : ℕ) → eqb t u ≡ false → (words_of gs).depth u l ≡ (words_of fs).depth u l)) fs h.locks (after (n + length ms) (frees_all h t (own_of t fs)) fs)
      d = all_done _ _ _ (λ l k. replicate k (move t (Unlock l))) h.locks (λ l b n gs p.
          let r = unlocks h t l a b ((words_of gs).depth t l) n gs p.0 (λ m o. subst Clean (sym (p.1 t m)) (c.done m o)) refl in record {
            keeps = (r.fit, λ u m. r.parts u m ∙ p.1 u m, λ u m q. r.kept u m (rw q) ∙ p.2 u m q);
            done = r.free;
            off = λ m q. r.kept t m (simp (q, and-false));
          }) (n + length ms) fs (c.keeps.0, λ u m. refl, λ u l q. refl)

      freed : Does own_of (λ t. Idle h) (Fit h) t es (after (n + length ms) (frees_all h t (own_of t fs)) fs)
      freed = record {
        keeps = d.keeps.0;
        done = record { clean = λ m b. subst Clean (sym (d.keeps.1 t m)) (c.done m b); free = d.done };
        off = λ u q i. record { parts = λ m. (d.keeps.1 u m ∙ c.keeps.1 u m q) i; holds = λ l. (d.keeps.2 u l q ∙ c.keeps.2 u l) i };
      }

  idle_finished : (es : List Event) → ((t : ℕ) → t < h.threads → Idle h (own_of t es)) → finished h (words_of es) ≡ true
  unfolding finished unsettled cell_of
  idle_finished es i =
      let w = words_of es in
      rw (none_some h.threads (λ t. some h.variables (unsettled w t) || some h.locks (held w t)) (λ t a. rw (
        none_some h.variables (unsettled w t) (λ v b. let c = (i t a).clean v b in rw (c.reads, c.stores, c.fresh, c.pending)),
        none_some h.locks (held w t) (λ l b. rw ((i t a).free l b)),
      )))

  -- the moves go on from es, and all is finished behind them
  pub moves_finish : (n : ℕ) (es : List Event) → Fit h es → Fit h (after n (moves_of h (words_of es)) es) × (finished h (words_of (after n (moves_of h (words_of es)) es)) ≡ true)
  unfolding moves_of settles closes frees cell_of
  moves_finish n es f =
      let u = all_done own_of (λ t. Idle h) (Fit h) (λ t o. settles_all h t o ++ frees_all h t o) h.threads idles n es f in
      (u.keeps, idle_finished _ u.done)
