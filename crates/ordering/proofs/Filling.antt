-- The second pass: the sections after one event more, and what the loop knows before each event.
use Prim.Native.Nat.{ℕ, zero, suc, ◌<◌, ◌≤◌}
use native.Mathlib.Decide.{dec_lt}
use native.Mathlib.Omega.{arith}
use mathlib.Core.Path.{◌≡◌, refl, sym, ◌∙◌, ap, ap₂, subst}
use mathlib.Core.Bool.{Bool, true, false, false≢true}
use mathlib.Core.List.{List, [], ◌∷◌, map}
use lib.Dec.{ltb}
use lib.IntN.{ℤ}
use lib.ListN.{length, get_or, replicate, get_or-replicate}
use Rattle.rules.specs.declared.Event.{Event}
use Rattle.rules.specs.declared.Counts.{Counts}
use Rattle.rules.specs.Events.{locks}
use Rattle.rules.specs.Words.{count}
use Rattle.serial.specs.Lists.{All}
use Rattle.serial.specs.Sections.{Section}
use Rattle.serial.proofs.Counted as H
use Rattle.serial.proofs.Memory.{all_map}
use Rattle.serial.proofs.Lines.{Falling, Placed, Traced, traced}
use Rattle.sections.specs.View.{view}
use Rattle.sections.specs.Places.{holds_some}
use Rattle.sections.specs.Order.{sections}
use Rattle.sections.specs.Refusals.{unfinished}
use Rattle.sections.proofs.Valid.{Declared}
use Rattle.sections.proofs.Viewed.{shape, next_shape}
use Rattle.sections.proofs.Cells.{length_view}
use Rattle.sections.proofs.Ordered.{settled, sections_same}
use Rattle.ordering.specs.declared.Holds.{Holds}
use Rattle.ordering.specs.declared.Begun.{Begun}
use Rattle.ordering.specs.Computed.Parts.{past, begun_at, no_holds, bucket, rank, scratch_at, Filled}
use Rattle.records.specs.Records.{event_at}
use Rattle.ordering.proofs.Grips.{Grips, grips_start, some_held}
use Rattle.ordering.proofs.Buckets.{Below, Latest}
use Rattle.ordering.proofs.Shown.{shown, shown_all}

-- ---- the sections after one event more

pub sections_next : (h : Counts) (e : Event) (es : List Event) (t n : ℕ) (lock busy : Bool) → e.thread ≡ t → length es ≡ n → locks e ≡ lock → holds_some h t es ≡ busy
    → sections h (e ∷ es) ≡ shape lock busy t (suc n) (view e) (sections h es)
unfolding sections
sections_next h e es t n lock busy a b c d =
    next_shape e (suc (length es)) (holds_some h e.thread es) (sections h es)
    ∙ ap₂ (λ l n. shape l (holds_some h e.thread es) e.thread (suc n) (view e) (sections h es)) c b
    ∙ ap (λ u. shape lock (holds_some h u es) u (suc n) (view e) (sections h es)) a
    ∙ ap (λ b. shape lock b t (suc n) (view e) (sections h es)) d

zeros : (n u : ℕ) → ◌≡◌ {A = ℕ} (get_or (replicate n 0) u 0) 0
zeros zero u = refl
zeros (suc n) zero = refl
zeros (suc n) (suc u) = zeros n u

-- they fall by their last K, which is one of the events
pub record Placing (n : ℕ) (ss : List (Section ℤ)) : Type 0 where
  pub falling : Falling ss
  pub below : Below (suc n) ss
  pub above : All (λ (s : Section ℤ). 0 < s.top) ss

pub placing : (h : Counts) (es : List Event) → All (Declared h) es → Placing (length es) (sections h es)
placing h es d = record {
  falling = tr.falling;
  below = all_map (Placed (map view es)) (λ (s : Section ℤ). s.top < suc (length es)) (sections h es) tr.placed (λ s p. omega (arith, p.over, p.ends, length_view es));
  above = all_map (Placed (map view es)) (λ (s : Section ℤ). 0 < s.top) (sections h es) tr.placed (λ s p. omega (arith, p.low, p.rise));
}
  where
    tr : Traced H.counted (map view es) (sections h es)
    tr = subst (λ ss. Traced H.counted (map view es) ss) (sym (sections_same h es d)) (traced H.counted (map view es))

module _ (h : Counts) (ws : List ℕ) (xs : List ℤ) where
  abbrev ev : ℕ → Event
  ev = event_at h ws xs

  -- thread t's current section after i events: its last K is the event at `index`; it begins in the line `first`, and `top` is the rank of that K
  pub record Current (begun : List Begun) (i t : ℕ) : Type 0 where
    pub index : ℕ
    pub earlier : index < i
    pub locking : locks (ev index) ≡ true
    pub place : (begun_at begun t).top ≡ rank ev index
    pub latest : Latest h t (begun_at begun t).first index (sections h (past ev i))

  -- what holds after i events, n of them K
  pub record Filling (s : Holds) (scratch : List ℕ) (begun : List Begun) (n i : ℕ) : Type 0 where
    pub upto : i ≤ length ws
    pub grips_are : Grips h s (past ev i)
    pub idle : (u : ℕ) → h.threads ≤ u → get_or s.depths u 0 ≡ 0
    pub long : length begun ≡ 8
    pub firsts : (t : ℕ) → t < 8 → (begun_at begun t).first < 4096
    pub count : n ≡ rank ev i
    pub written : (p : ℕ) → p < i → scratch_at ev scratch p ≡ shown h (λ u. ltb 0 (get_or s.depths u 0)) (sections h (past ev i)) (suc p)
    pub current : (t : ℕ) → t < 8 → holds_some h t (past ev i) ≡ true → Current begun i t

  pub filling_start : (scratch : List ℕ) → Filling no_holds scratch (replicate 8 (record { first = 0; top = 0 })) 0 0
  unfolding no_holds past rank count
  filling_start scratch = record {
    upto = omega arith;
    grips_are = grips_start h;
    idle = λ u q. zeros 8 u;
    long = refl;
    firsts = λ t ht. rw (get_or-replicate {A = Begun} 8 t (record { first = 0; top = 0 }) (record { first = 0; top = 0 }) ht) (omega arith);
    count = refl;
    written = λ p q. absurd (omega (arith, q));
    current = λ t ht q. absurd (false≢true (sym (ap (ltb 0) (get_or-replicate {A = ℕ} 8 t 0 0 ht)) ∙ some_held h no_holds [] (grips_start h) t ht ∙ q));
  }

  pub filling_end : {s : Holds} {scratch : List ℕ} {begun : List Begun} {n i : ℕ} → Filling s scratch begun n i → h.threads ≤ 8 → unfinished h (past ev (length ws)) ≡ false → length ws ≤ i → Filled h ws xs n scratch
  filling_end {s} {i = i} F low fin e =
      let q : i ≡ length ws = omega (arith, e, F.upto) in
      record {
        count = F.count ∙ ap (rank ev) q;
        buckets = λ p l. F.written p (omega (arith, l, q)) ∙ shown_all h (suc p) (λ u. ltb 0 (get_or s.depths u 0)) (none q) (sections h (past ev i)) ∙ ap (λ j. bucket h (sections h (past ev j)) (suc p)) q;
      }
    where
      -- nobody holds anything
      none : i ≡ length ws → (u : ℕ) → ltb 0 (get_or s.depths u 0) ≡ false
      none q u = go (dec_lt u h.threads)
        where
          go : Dec (u < h.threads) → ltb 0 (get_or s.depths u 0) ≡ false
          go (yes l) = some_held h s (past ev i) F.grips_are u (omega (arith, l, low)) ∙ ap (λ j. holds_some h u (past ev j)) q ∙ (settled h (past ev (length ws)) fin u l).0
          go (no l) = ap (ltb 0) (F.idle u (omega (arith, l)))
