-- The numbers that the second pass leaves, in rising order of their places, are the entries of the order.
use Prim.Native.Nat.{ℕ, zero, suc, ◌<◌, ◌≤◌}
use native.Mathlib.Decide.{ℕ_discrete, dec_lt}
use native.Mathlib.Omega.{arith}
use mathlib.Core.Path.{◌≡◌, refl, sym, ◌∙◌, ap, ap₂, subst}
use mathlib.Core.Bool.{Bool, true, false, cond}
use mathlib.Core.List.{List, [], ◌∷◌, ◌++◌, map, reverse, reverse_aux, reverse-cons, append-nil}
use lib.Dec.{eqb, leb}
use lib.IntN.{ℤ}
use lib.ListN.{length, get_or, take, drop, replicate}
use borrow.Author.Tests.{eq-eqb, ne_eqb, le-leb, lt-leb}
use Rattle.rules.specs.declared.Event.{Event}
use Rattle.rules.specs.declared.Counts.{Counts}
use Rattle.rules.specs.Events.{locks}
use Rattle.rules.specs.Words.{count}
use Rattle.rules.proofs.Bounds.{first_line_low}
use Rattle.serial.specs.Lists.{All}
use Rattle.serial.specs.Sections.{Section}
use Rattle.serial.proofs.Lines.{Falling}
use Rattle.sections.specs.Order.{sections, entry, order}
use Rattle.sections.specs.Entries.{entry_code}
use Rattle.records.specs.Records.{event_at, row_events}
use Rattle.rules.specs.Memories.{from}
use Rattle.ordering.specs.Answer.{entries_for}
use Rattle.ordering.specs.Computed.Parts.{Fits, past, bucket, rank, scratch_at, Filled, unless_zero, nonzero, Put, Orders, Written}
use Rattle.ordering.proofs.RowEvents.{past_length, past_all, known_past, locks_few}
use Rattle.ordering.proofs.Gathering.{non_more}
use Rattle.ordering.proofs.Ranks.{rank_lock, rank_other, rank_upto}
use Rattle.ordering.proofs.Buckets.{Below, bucket_above}
use Rattle.ordering.proofs.Filling.{Placing, placing}

module _ (h : Counts) where
  abbrev number : Section ℤ → ℕ
  number s = entry_code (entry h s)

  -- the numbers at the positions from 1 to m that are not 0
  unfoldable picked : List (Section ℤ) → ℕ → List ℕ
  picked ss zero = []
  picked ss (suc m) = picked ss m ++ unless_zero (bucket h ss (suc m))

  no_zero : (s : Section ℤ) → unless_zero (number s) ≡ number s ∷ []
  unfolding unless_zero entry_code
  no_zero s = rw (ne_eqb (number s) 0 (λ e. omega (arith, e, first_line_low h)))

  zero_none : unless_zero 0 ≡ []
  unfolding unless_zero
  zero_none = refl

  -- the numbers that are not 0 at the places of the K among the first n events
  gathered : (ev : ℕ → Event) (S : List ℕ) (ss : List (Section ℤ)) (n : ℕ) → rank ev n ≤ length S → ((p : ℕ) → p < n → scratch_at ev S p ≡ bucket h ss (suc p)) → nonzero (take (rank ev n) S) ≡ picked ss n
  unfolding picked nonzero scratch_at
  gathered ev S ss zero l f = unfold rank past count in refl
  gathered ev S ss (suc n) l f = by (locks (ev n)) refl (f n (omega arith)) (gathered ev S ss n (omega (arith, l, rank_upto ev n (suc n) (omega arith))) (λ p h. f p (omega (arith, h))))
    where
      by : (b : Bool) → locks (ev n) ≡ b → cond (locks (ev n)) (get_or S (rank ev n) 0) 0 ≡ bucket h ss (suc n) → nonzero (take (rank ev n) S) ≡ picked ss n
          → nonzero (take (rank ev (suc n)) S) ≡ picked ss n ++ unless_zero (bucket h ss (suc n))
      by true w q before =
          ap (λ k. nonzero (take k S)) (rank_lock ev n w) ∙ non_more S (rank ev n) (omega (arith, l, rank_lock ev n w))
          ∙ ap₂ (λ xs x. xs ++ unless_zero x) before (sym (ap (λ b. cond b (get_or S (rank ev n) 0) 0) w) ∙ q)
      by false w q before =
          ap (λ k. nonzero (take k S)) (rank_other ev n w) ∙ before ∙ sym (append-nil (picked ss n))
          ∙ ap (λ ys. picked ss n ++ ys) (sym zero_none ∙ ap unless_zero (sym (ap (λ b. cond b (get_or S (rank ev n) 0) 0) w) ∙ q))

  picked_none : (m : ℕ) → picked [] m ≡ []
  unfolding picked bucket
  picked_none zero = refl
  picked_none (suc m) = ap₂ (λ xs ys. xs ++ ys) (picked_none m) zero_none

  picked_cons : (s : Section ℤ) (ss : List (Section ℤ)) → Below s.top ss → 0 < s.top → (m : ℕ) → picked (s ∷ ss) m ≡ picked ss m ++ cond (leb s.top m) (number s ∷ []) []
  unfolding picked bucket
  picked_cons s ss f l zero = rw (lt-leb s.top 0 l)
  picked_cons s ss f l (suc m) = go (ℕ_discrete s.top (suc m)) (dec_lt s.top (suc m)) (picked_cons s ss f l m)
    where
      go : Dec (s.top ≡ suc m) → Dec (s.top < suc m) → picked (s ∷ ss) m ≡ picked ss m ++ cond (leb s.top m) (number s ∷ []) []
          → picked (s ∷ ss) m ++ unless_zero (cond (eqb s.top (suc m)) (number s) (bucket h ss (suc m))) ≡ (picked ss m ++ unless_zero (bucket h ss (suc m))) ++ cond (leb s.top (suc m)) (number s ∷ []) []
      go (yes p) d r =
          ap₂ (λ xs x. xs ++ unless_zero x) (r ∙ ap (λ b. picked ss m ++ cond b (number s ∷ []) []) (lt-leb s.top m (omega (arith, p))) ∙ append-nil (picked ss m)) (ap (λ b. cond b (number s) (bucket h ss (suc m))) (eq-eqb s.top (suc m) p))
          ∙ ap (λ ys. picked ss m ++ ys) (no_zero s)
          ∙ sym (ap₂ (λ x b. (picked ss m ++ unless_zero x) ++ cond b (number s ∷ []) []) (bucket_above h ss s.top (suc m) f (omega (arith, p))) (le-leb s.top (suc m) (omega (arith, p)))
          ∙ ap (λ ys. (picked ss m ++ ys) ++ (number s ∷ [])) zero_none ∙ ap (λ xs. xs ++ (number s ∷ [])) (append-nil (picked ss m)))
      go (no p) (yes d) r =
          ap₂ (λ xs x. xs ++ unless_zero x) (r ∙ ap (λ b. picked ss m ++ cond b (number s ∷ []) []) (le-leb s.top m (omega (arith, d))))
          (ap (λ b. cond b (number s) (bucket h ss (suc m))) (ne_eqb s.top (suc m) p) ∙ bucket_above h ss s.top (suc m) f (omega (arith, d)))
          ∙ ap (λ ys. (picked ss m ++ (number s ∷ [])) ++ ys) zero_none ∙ append-nil (picked ss m ++ (number s ∷ []))
          ∙ sym (ap₂ (λ x b. (picked ss m ++ unless_zero x) ++ cond b (number s ∷ []) []) (bucket_above h ss s.top (suc m) f (omega (arith, d))) (le-leb s.top (suc m) (omega (arith, d)))
          ∙ ap (λ ys. (picked ss m ++ ys) ++ (number s ∷ [])) zero_none ∙ ap (λ xs. xs ++ (number s ∷ [])) (append-nil (picked ss m)))
      go (no p) (no d) r =
          ap₂ (λ xs x. xs ++ unless_zero x) (r ∙ ap (λ b. picked ss m ++ cond b (number s ∷ []) []) (lt-leb s.top m (omega (arith, d))) ∙ append-nil (picked ss m))
          (ap (λ b. cond b (number s) (bucket h ss (suc m))) (ne_eqb s.top (suc m) p))
          ∙ sym (ap (λ b. (picked ss m ++ unless_zero (bucket h ss (suc m))) ++ cond b (number s ∷ []) []) (lt-leb s.top (suc m) (omega (arith, d, p))) ∙ append-nil (picked ss m ++ unless_zero (bucket h ss (suc m))))

  all_picked : (n : ℕ) (ss : List (Section ℤ)) → Falling ss → Below (suc n) ss → All (λ (s : Section ℤ). 0 < s.top) ss → picked ss n ≡ reverse (map number ss)
  unfolding Falling
  all_picked n [] f b a = picked_none n
  all_picked n (s ∷ ss) f b a =
      picked_cons s ss f.0 a.0 n ∙ ap (λ c. picked ss n ++ cond c (number s ∷ []) []) (le-leb s.top n (omega (arith, b.0)))
      ∙ ap (λ xs. xs ++ (number s ∷ [])) (all_picked n ss f.1 b.1 a.1) ∙ sym (reverse-cons (number s) (map number ss))

  turn_map : (xs ys : List (Section ℤ)) → map entry_code (map (entry h) (reverse_aux xs ys)) ≡ reverse_aux (map number xs) (map number ys)
  turn_map [] [] = refl
  turn_map [] (y ∷ ys) = ap (λ (l : List ℕ). number y ∷ l) (turn_map [] ys)
  turn_map (x ∷ xs) ys = turn_map xs (x ∷ ys)

  module _ (ws : List ℕ) (xs : List ℤ) where
    abbrev ev : ℕ → Event
    ev = event_at h ws xs

    abbrev ss : List (Section ℤ)
    ss = sections h (past ev (length ws))

    entries_are : entries_for h (row_events h ws xs) ≡ reverse (map number ss)
    unfolding entries_for order row_events
    entries_are = turn_map (sections h (reverse (from ev 0 (length ws)))) [] ∙ ap (λ (es : List Event). reverse (map number (sections h es))) (sym (past_all ev (length ws)))

    listed : Fits h ws xs → (S : List ℕ) (n : ℕ) → n ≤ length S → Filled h ws xs n S → nonzero (take n S) ≡ entries_for h (row_events h ws xs)
    listed f S n l F =
        let P : Placing (length ws) ss = subst (λ (n : ℕ). Placing n ss) (past_length ev (length ws)) (placing h (past ev (length ws)) (known_past h ws xs f (length ws) (omega arith))) in
        ap (λ k. nonzero (take k S)) F.count ∙ gathered ev S ss (length ws) (omega (arith, l, F.count)) F.buckets ∙ all_picked (length ws) ss P.falling P.below P.above ∙ sym entries_are

    -- ---- the order written out

    module _ (list scratch : List ℕ) (o : Orders h ws xs list scratch) (S : List ℕ) (long : length S ≡ length scratch) (n : ℕ) (F : Filled h ws xs n S) where
      pub part_in : n ≤ length S
      part_in = omega (arith, long, F.count, o.places, locks_few h ws xs o.fits o.ended)

      pub gather_in : length (nonzero (take n S)) ≤ length list
      gather_in = let e = ap length (listed o.fits S n part_in F) in omega (arith, e, o.room)

      pub written : (c : ℕ) (list' S' : List ℕ) → Put (nonzero (take n S)) list 0 c list' → S' ≡ replicate (length S) 0
          → Written (entries_for h (row_events h ws xs)) list scratch c list' S'
      written c list' S' p z =
          let x : nonzero (take n S) ≡ entries_for h (row_events h ws xs) = listed o.fits S n part_in F in
          let e : c ≡ length (entries_for h (row_events h ws xs)) = p.count ∙ (omega arith) ∙ ap length x in
          record { count = e; lists = p.lists ∙ ap₂ (λ (ys : List ℕ) (k : ℕ). ys ++ drop k list) x e; zeros = z ∙ ap (λ (k : ℕ). replicate k 0) long }
