-- One turn of the second pass: the event at i, by its letter k, thread t and place p.
use Prim.Native.Nat.{ℕ, zero, suc, ◌+◌, ◌<◌, ◌≤◌}
use native.Mathlib.Decide.{ℕ_discrete}
use native.Mathlib.Omega.{arith}
use native.Mathlib.Numerals.{add-one}
use mathlib.Core.Path.{◌≡◌, refl, sym, ◌∙◌, ap, ap₂, subst}
use mathlib.Core.Bool.{Bool, true, false, cond}
use mathlib.Core.List.{List, ◌∷◌}
use lib.Dec.{T, eqb, ltb}
use lib.IntN.{ℤ}
use lib.ListN.{length, get_or, set, length-set}
use lib.Seq.{get_or-set_same, get_or-set_other, set-get_or}
use borrow.Author.Tests.{eq-eqb, ne_eqb, lt-ltb}
use Rattle.rules.specs.declared.Event.{Event}
use Rattle.rules.specs.declared.Counts.{Counts}
use Rattle.rules.specs.Events.{locks}
use Rattle.rules.specs.Limits.{line_after}
use Rattle.rules.specs.Rules.{legal}
use Rattle.serial.specs.Sections.{push}
use Rattle.sections.specs.View.{view}
use Rattle.sections.specs.Places.{holds_some}
use Rattle.sections.specs.Order.{sections, line_of}
use Rattle.sections.proofs.Viewed.{shape}
use Rattle.ordering.specs.declared.Holds.{Holds}
use Rattle.ordering.specs.declared.Begun.{Begun}
use Rattle.ordering.specs.Computed.Parts.{Fits, begun_at, past, takes_hold, gives_hold, Holdable, Held, code_of, idle_or, rank, scratch_at}
use Rattle.rules.proofs.Bounds.{allowed_bounds, first_line_high}
use Rattle.records.specs.Records.{event_at}
use Rattle.ordering.proofs.RowEvents.{past_length, row_few, known_past, legal_past}
use Rattle.ordering.proofs.Scanned.{Reads}
use Rattle.ordering.proofs.Grips.{Grips, some_held, holdable, depth_here, depth_else, grips_after, grips_kept, holds_after, takes_hold_law, gives_up, gains, other_holds}
use Rattle.ordering.proofs.Ranks.{rank_lock, rank_other, rank_few, rank_below, scratch_set, scratch_none}
use Rattle.ordering.proofs.Buckets.{Latest, latest_push, latest_lock, latest_other}
use Rattle.ordering.proofs.Shown.{Off, shown, shown_above, kept_shown, lock_shown, end_shown}
use Rattle.ordering.proofs.Filling.{sections_next, Placing, placing, Current, Filling}

pub record Turn (h : Counts) (ws : List ℕ) (xs : List ℤ) (s : Holds) (scratch : List ℕ) (begun : List Begun) (n i k t p : ℕ) : Type 0 where
  pub fits : Fits h ws xs
  pub filling : Filling h ws xs s scratch begun n i
  pub more : i < length ws
  pub room : rank (event_at h ws xs) (length ws) ≤ length scratch
  pub reads : Reads k t p (event_at h ws xs i)

module _ {h : Counts} {ws : List ℕ} {xs : List ℤ} {s : Holds} {scratch : List ℕ} {begun : List Begun} {n i k t p : ℕ} (u : Turn h ws xs s scratch begun n i k t p) where
  abbrev ev : ℕ → Event
  ev = event_at h ws xs

  abbrev es : List Event
  es = past ev i

  abbrev e : Event
  e = ev i

  abbrev F : Filling h ws xs s scratch begun n i
  F = u.filling

  abbrev r : Reads k t p e
  r = u.reads

  -- who holds something before it, and whether its thread does
  abbrev b : ℕ → Bool
  b v = ltb 0 (get_or s.depths v 0)

  abbrev busy : Bool
  busy = b t

  pub early : i < 2000
  early = omega (arith, u.more, row_few h ws xs u.fits)

  pub place_few : n < 2000
  place_few = omega (arith, F.count, rank_few ev i, early)

  -- the rank of a K is a place of the scratch
  rank_in : (j : ℕ) → j < length ws → locks (ev j) ≡ true → rank ev j < length scratch
  rank_in j l q = omega (arith, u.room, rank_below ev j (length ws) l q)

  -- a K has a place
  pub place_in_law : takes_hold k ≡ true → n < length scratch
  place_in_law c = rw F.count (rank_in i u.more (r.locking ∙ c))

  next_legal : T (legal h (e ∷ es))
  unfolding past
  next_legal = legal_past h ws xs u.fits (suc i) u.more

  pub holdable_here : Holdable s t p k
  holdable_here = holdable h s es F.grips_are k t p e r next_legal (allowed_bounds h u.fits.accepted.head).2 (omega (arith, past_length ev i, early))

  held_was : holds_some h t es ≡ busy
  held_was = sym (some_held h s es F.grips_are t r.thread_low)

  P : Placing i (sections h es)
  P = subst (λ n. Placing n (sections h es)) (past_length ev i) (placing h es (known_past h ws xs u.fits i F.upto))

  own : busy ≡ true → Current h ws xs begun i t
  own q = F.current t r.thread_low (held_was ∙ q)

  shaped : sections h (e ∷ es) ≡ shape (takes_hold k) busy t (suc i) (view e) (sections h es)
  shaped = sections_next h e es t i (takes_hold k) busy r.whose (past_length ev i) r.locking held_was

  pushed : takes_hold k ≡ false → busy ≡ true → sections h (e ∷ es) ≡ push t (suc i) (view e) (sections h es)
  pushed c w = shaped ∙ ap₂ (λ x y. shape x y t (suc i) (view e) (sections h es)) c w

  declared_thread : t < h.threads
  unfolding past
  declared_thread = subst (λ (v : ℕ). v < h.threads) r.whose (known_past h ws xs u.fits (suc i) u.more).0.0

  line_is : line_after h i ≡ line_of h (suc i)
  line_is = omega arith

  -- a scratch that holds nothing for the event yet
  zeroed : (S : List ℕ) → ((p : ℕ) → scratch_at ev S p ≡ cond (eqb (suc i) (suc p)) 0 (scratch_at ev scratch p)) → (p : ℕ) → p < suc i → scratch_at ev S p ≡ shown h b (sections h es) (suc p)
  zeroed S f p q = f p ∙ go (ℕ_discrete p i)
    where
      go : Dec (p ≡ i) → cond (eqb (suc i) (suc p)) 0 (scratch_at ev scratch p) ≡ shown h b (sections h es) (suc p)
      go (yes z) = rw (z, eq-eqb (suc i) (suc i) refl) (sym (shown_above h (suc i) b (suc i) (sections h es) P.below (omega arith)))
      go (no z) = rw (ne_eqb (suc i) (suc p) (λ x. z (omega (arith, x)))) (F.written p (omega (arith, q, z)))

  -- a current section whose last K stays
  carried : (begun' : List Begun) (v : ℕ) (c : Current h ws xs begun i v) → (begun_at begun' v).top ≡ (begun_at begun v).top → Latest h v (begun_at begun' v).first c.index (sections h (e ∷ es)) → Current h ws xs begun' (suc i) v
  unfolding past
  carried begun' v c p l = record { index = c.index; earlier = omega (arith, c.earlier); locking = c.locking; place = p ∙ c.place; latest = l }

  -- the current sections, where those of the other threads stay
  current_after : (begun' : List Begun) → ((v : ℕ) → (v ≡ t → ⊥) → begun_at begun' v ≡ begun_at begun v)
      → (holds_some h t (e ∷ es) ≡ true → Current h ws xs begun' (suc i) t) → (v : ℕ) → v < 8 → holds_some h v (e ∷ es) ≡ true → Current h ws xs begun' (suc i) v
  current_after begun' o mine v hv q = go (ℕ_discrete v t)
    where
      go : Dec (v ≡ t) → Current h ws xs begun' (suc i) v
      go (yes z) = subst (Current h ws xs begun' (suc i)) (sym z) (mine (subst (λ v. holds_some h v (e ∷ es) ≡ true) z q))
      go (no z) =
          let c = F.current v hv (sym (other_holds h es k t p e r v (λ x. z (sym x))) ∙ q) in
          carried begun' v c (ap (λ x. x.top) (o v z))
          (subst (Latest h v (begun_at begun' v).first c.index) (sym shaped) (rw (o v z) (latest_other h i t (view e) (sections h es) (takes_hold k) busy v (begun_at begun v).first c.index (λ x. z (sym x)) c.latest)))

  -- an event other than a K leaves each its place
  stays : takes_hold k ≡ false → (v : ℕ) → v < 8 → holds_some h v (e ∷ es) ≡ true → Current h ws xs begun (suc i) v
  stays c = current_after begun (λ v z. refl) mine
    where
      mine : holds_some h t (e ∷ es) ≡ true → Current h ws xs begun (suc i) t
      mine q =
          let w = sym held_was ∙ gains h es k t p e r c q in
          let m = own w in
          carried begun t m refl
          (subst (Latest h t (begun_at begun t).first m.index) (sym (pushed c w)) (latest_push h t (suc i) (begun_at begun t).first m.index (view e) (sections h es) m.latest))

  count_stays : takes_hold k ≡ false → n ≡ rank ev (suc i)
  count_stays c = F.count ∙ sym (rank_other ev i (r.locking ∙ c))

  -- ---- the section of an unlock

  module _ (c : takes_hold k ≡ false) (m : gives_hold k ≡ true) where
    held : busy ≡ true
    held = sym held_was ∙ gives_up es k t p e r h next_legal m

    abbrev j : ℕ
    j = (own held).index

    j_in : rank ev j < length scratch
    j_in = rank_in j (omega (arith, (own held).earlier, u.more)) (own held).locking

    -- its section has a place
    pub top_in : (begun_at begun t).top < length scratch
    top_in = rw (own held).place j_in

    pub top_few : (begun_at begun t).top < 2000
    top_few = omega (arith, (own held).place, rank_few ev j, (own held).earlier, early)

  -- ---- another event than a lock or an unlock

  pub filling_other : takes_hold k ≡ false → gives_hold k ≡ false → Filling h ws xs s scratch begun n (i + 1)
  unfolding past
  filling_other a c = rw (add-one i) (record {
    upto = u.more;
    grips_are = grips_kept h s es F.grips_are k t p e r next_legal a c;
    idle = F.idle;
    long = F.long;
    firsts = F.firsts;
    count = count_stays a;
    written = λ p q. zeroed scratch (scratch_none ev scratch i (r.locking ∙ a)) p q ∙ sym (ap (λ ss. shown h b ss (suc p)) (shaped ∙ ap (λ x. shape x busy t (suc i) (view e) (sections h es)) a) ∙ kept_shown h (suc p) t (suc i) (view e) b b (λ v z. refl) busy refl refl (sections h es));
    current = stays a;
  })

  -- ---- a lock or an unlock

  module _ {z : ℕ} {s' : Holds} (H : Held s t p k z s') where
    abbrev after : ℕ → Bool
    after v = ltb 0 (get_or s'.depths v 0)

    else : (v : ℕ) → (v ≡ t → ⊥) → get_or s'.depths v 0 ≡ get_or s.depths v 0
    else = depth_else h s es F.grips_are k t p e r next_legal H

    off : Off t b after
    off v o = ap (ltb 0) (sym (else v o))

    after_own : after t ≡ ltb 0 z
    after_own = ap (ltb 0) (depth_here h s es F.grips_are k t p e r next_legal H)

    new_grips : Grips h s' (e ∷ es)
    new_grips = grips_after h s es F.grips_are k t p e r next_legal H

    new_idle : (v : ℕ) → h.threads ≤ v → get_or s'.depths v 0 ≡ 0
    new_idle v q = else v (λ o. omega (arith, o, q, declared_thread)) ∙ F.idle v q

    -- a lock
    pub filling_lock : takes_hold k ≡ true → {a : ℕ} → a ≡ idle_or (get_or s.depths t 0) (begun_at begun t).first (line_after h i) → {y : ℕ} → y ≡ 0 → {m : ℕ} → m ≡ n + 1
        → Filling h ws xs s' (set scratch n y) (set begun t (record { first = a; top = n })) m (i + 1)
    unfolding past idle_or
    filling_lock c {a} ea {y} ey em = rw (add-one i) (record {
      upto = u.more;
      grips_are = new_grips;
      idle = new_idle;
      long = length-set begun t _ ∙ F.long;
      firsts = λ v hv. new_first v hv (ℕ_discrete v t);
      count = omega (arith, em, F.count, rank_lock ev i (r.locking ∙ c));
      written = λ p q. zeroed (set scratch n y) fresh p q ∙ sym (ap (λ ss. shown h after ss (suc p)) (shaped ∙ ap (λ x. shape x busy t (suc i) (view e) (sections h es)) c) ∙ lock_shown h (suc p) t (suc i) (view e) b after off busy refl held (sections h es));
      current = current_after (set begun t (record { first = a; top = n })) (λ v o. get_or-set_other begun t v _ _ o) mine;
    })
      where
        fresh : (p : ℕ) → scratch_at ev (set scratch n y) p ≡ cond (eqb (suc i) (suc p)) 0 (scratch_at ev scratch p)
        fresh p = ap₂ (λ j x. scratch_at ev (set scratch j x) p) F.count ey ∙ scratch_set ev scratch i 0 (r.locking ∙ c) (rank_in i u.more (r.locking ∙ c)) p

        at_begun : begun_at (set begun t (record { first = a; top = n })) t ≡ record { first = a; top = n }
        at_begun = get_or-set_same begun t _ _ (omega (arith, r.thread_low, F.long))

        held : after t ≡ true
        held = after_own ∙ holds_after h s es F.grips_are k t p e r next_legal H ∙ takes_hold_law es k t p e r h next_legal c

        idle_or_law : (d : ℕ) → cond (eqb d 0) (line_after h i) (begun_at begun t).first ≡ cond (ltb 0 d) (begun_at begun t).first (line_after h i)
        idle_or_law zero = refl
        idle_or_law (suc d) = rw (ne_eqb (suc d) 0 (λ x. omega (arith, x)), lt-ltb 0 (suc d) (omega arith)) refl

        mine : holds_some h t (e ∷ es) ≡ true → Current h ws xs (set begun t (record { first = a; top = n })) (suc i) t
        mine q = record {
          index = i;
          earlier = omega arith;
          locking = r.locking ∙ c;
          place = ap (λ x. x.top) at_begun ∙ F.count;
          latest =
              subst (λ x. Latest h t x i (sections h (e ∷ es))) (sym (ap (λ x. x.first) at_begun ∙ ea ∙ idle_or_law (get_or s.depths t 0)))
              (subst (Latest h t (cond busy (begun_at begun t).first (line_after h i)) i) (sym (shaped ∙ ap (λ x. shape x busy t (suc i) (view e) (sections h es)) c))
              (latest_lock h i t (begun_at begun t).first (line_after h i) (view e) (sections h es) line_is busy (λ w. ((own w).index, (own w).latest))));
        }

        low : a < 4096
        low = go (eqb (get_or s.depths t 0) 0) ea
          where
            go : (x : Bool) → a ≡ cond x (line_after h i) (begun_at begun t).first → a < 4096
            go true q = omega (arith, q, early, first_line_high h)
            go false q = omega (arith, q, F.firsts t r.thread_low)

        new_first : (v : ℕ) → v < 8 → Dec (v ≡ t) → (begun_at (set begun t (record { first = a; top = n })) v).first < 4096
        new_first v hv (yes o) = rw (o, at_begun) low
        new_first v hv (no o) = rw (get_or-set_other begun t v (record { first = a; top = n }) (record { first = 0; top = 0 }) o) (F.firsts v hv)

    -- an unlock
    pub filling_unlock : (c : takes_hold k ≡ false) (m : gives_hold k ≡ true) {code y : ℕ} → code ≡ code_of t (begun_at begun t).first (line_after h i) → y ≡ idle_or z (get_or scratch (begun_at begun t).top 0) code
        → Filling h ws xs s' (set scratch (begun_at begun t).top y) begun n (i + 1)
    unfolding past idle_or
    filling_unlock c m {code} {y} ec ey = rw (add-one i) (record {
      upto = u.more;
      grips_are = new_grips;
      idle = new_idle;
      long = F.long;
      firsts = F.firsts;
      count = count_stays c;
      written = λ p q. subst (λ ss. scratch_at ev (set scratch (begun_at begun t).top y) p ≡ shown h after ss (suc p)) (sym (pushed c (held c m))) (by z refl p q);
      current = stays c;
    })
      where
        was : (p : ℕ) → p < suc i → scratch_at ev scratch p ≡ shown h b (sections h es) (suc p)
        was = zeroed scratch (scratch_none ev scratch i (r.locking ∙ c))

        here : (p : ℕ) → scratch_at ev (set scratch (begun_at begun t).top y) p ≡ cond (eqb (suc (j c m)) (suc p)) y (scratch_at ev scratch p)
        here p = ap (λ x. scratch_at ev (set scratch x y) p) (own (held c m)).place ∙ scratch_set ev scratch (j c m) y (own (held c m)).locking (j_in c m) p

        by : (d : ℕ) → z ≡ d → (p : ℕ) → p < suc i → scratch_at ev (set scratch (begun_at begun t).top y) p ≡ shown h after (push t (suc i) (view e) (sections h es)) (suc p)
        by zero w p q =
            here p
            ∙ ap₂ (λ x v. cond (eqb (suc (j c m)) (suc p)) x v) (ey ∙ ap (λ d. cond (eqb d 0) code (get_or scratch (begun_at begun t).top 0)) w ∙ ec ∙ ap (code_of t (begun_at begun t).first) line_is) (was p q)
            ∙ sym (end_shown h (suc p) t (suc i) (view e) (begun_at begun t).first (j c m) b after off (held c m) (after_own ∙ ap (ltb 0) w) (sections h es) P.falling (own (held c m)).latest)
        by (suc d) w p q =
            ap (λ x. scratch_at ev (set scratch (begun_at begun t).top x) p) (ey ∙ ap (λ x. cond x code (get_or scratch (begun_at begun t).top 0)) (ap (λ d. eqb d 0) w ∙ ne_eqb (suc d) 0 (λ x. omega (arith, x))))
            ∙ ap (λ l. scratch_at ev l p) (set-get_or scratch (begun_at begun t).top 0)
            ∙ was p q
            ∙ sym (kept_shown h (suc p) t (suc i) (view e) b after off true (held c m) (after_own ∙ ap (ltb 0) w ∙ lt-ltb 0 (suc d) (omega arith)) (sections h es))
