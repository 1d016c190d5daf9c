-- A trace without a `V` line is marked as without the volatile rules; one that is accepted with a `V` line is accepted without it.
use Prim.Native.Nat.{ℕ, zero, suc}
use native.Mathlib.Omega.{arith}
use mathlib.Core.Path.{◌≡◌, refl, sym, ap, ◌∙◌}
use mathlib.Core.Bool.{Bool, true, false, not, cond, ◌||◌, and-false}
use mathlib.Core.List.{List, [], ◌∷◌, ◌++◌, map}
use mathlib.Core.Option.{Option}
use lib.Dec.{T, eqb, leb}
use lib.IntN.{ℤ}
use lib.ListN.{length, drop, get_or-eq_default}
use borrow.Author.Tests.{leb-true, leb-false, not-true}
use Rattle.rules.specs.declared.Kind.{Kind}
use Rattle.rules.specs.declared.Event.{Event}
use Rattle.rules.specs.declared.Slot.{Slot}
use Rattle.rules.specs.declared.Counts.{Counts}
use Rattle.rules.specs.Events.{P, S, W, letter, among}
use Rattle.rules.specs.Limits.{Limits, volatile, any_volatile, first_line, declared}
use Rattle.rules.specs.Words.{count, slot, store_slot, in_order, first, by, stores}
use Rattle.rules.specs.Rules.{Words, Row, words_of, some, none?, loc, no_partner, lock_taken, not_held, pending_bars, not_fresh, not_stored, read_before_write, unwritten, not_written, not_usable, differs, eight_already, dead_read, wrong_neighbour, use_barred, write_barred, volatile_order, prescient_volatile, waits, of_waiting, not_notified, breaks, rows_behind, rows, row_in, first_broken, judge, answer, verdict, accepted, mark_from, mark, mark_by, mark_read, past_by, past_read}
use Rattle.rules.specs.Plain.{Plain, without_volatiles, plain_stores, plain_words_of, plain_judge, plain_verdict, mark_plain, past_plain}
use Rattle.rules.proofs.Laws.{is_true, all_of, at_letter, and_left, and_right, or_false_left, or_false_right, some_none, none_some, unbroken, accepts}
use Rattle.rules.proofs.Marking.{walk_parts, mark_on}
use Rattle.rules.proofs.Projections.{same_values, some_same}

-- sixteen flags, none of them set
pub plain_flags : (h : Counts) → length h.volatiles ≡ 16 → any_volatile h ≡ false → Plain h
unfolding any_volatile volatile
plain_flags h n p v = go (leb 16 v) refl
  where
    go : (b : Bool) → leb 16 v ≡ b → volatile h v ≡ false
    go true k = get_or-eq_default h.volatiles false {n = v} (omega (arith, leb-true 16 v k))
    go false k = some_none 16 (volatile h) p v (omega (arith, leb-false 16 v k))

-- events start at line 3
pub plain_line : (h : Counts) → Plain h → first_line h ≡ 3
unfolding first_line any_volatile
plain_line h p = rw (none_some 16 (volatile h) (λ v b. p v))

-- ---- on a variable that is not volatile, 26 to 28 refuse nothing

module _ (h : Counts) (w : Words) (e : Event) (p : volatile h (loc e) ≡ false) where
  plain_26 : wrong_neighbour h w e ≡ false
  unfolding wrong_neighbour
  plain_26 = simp (p, and-false)

  plain_27 : volatile_order h w e ≡ false
  unfolding volatile_order use_barred write_barred
  plain_27 = simp (p, and-false)

  plain_28 : prescient_volatile h e ≡ false
  unfolding prescient_volatile
  plain_28 = simp (p, and-false)

-- each row is the same behind what leads it
abbrev behind : List ℕ → List Row → List Row
behind lead rs = map (λ r. record { kind = r.kind; checks = lead ++ r.checks }) rs

row_behind : (lead : List ℕ) (rs : List Row) (k : ℕ) → T (among (map (λ r. r.kind) rs) k) → row_in (behind lead rs) k ≡ lead ++ row_in rs k
unfolding row_in
row_behind lead [] k h = absurd h
row_behind lead (r ∷ rs) k h = go (eqb r.kind k) h (row_behind lead rs k)
  where
    go : (b : Bool) → T (b || among (map (λ r. r.kind) rs) k) → (T (among (map (λ r. r.kind) rs) k) → row_in (behind lead rs) k ≡ lead ++ row_in rs k) → cond b (lead ++ r.checks) (row_in (behind lead rs) k) ≡ lead ++ cond b r.checks (row_in rs k)
    go true h f = refl
    go false h f = f h

pub row_led : (lead : List ℕ) (k : Kind) → row_in (rows_behind lead) (letter k) ≡ lead ++ row_in (rows_behind []) (letter k)
row_led lead k = row_behind lead (rows_behind []) (letter k) (at_letter (among (map (λ r. r.kind) (rows_behind []))) tt k)

-- so the row may be read without 26, 27, 28
pub row_plain : (h : Counts) (w : Words) (e : Event) → volatile h (loc e) ≡ false → judge h w e ≡ plain_judge h w e
unfolding judge plain_judge first_broken breaks rows
row_plain h w e p = rw (row_led (29 ∷ 30 ∷ 26 ∷ 27 ∷ 28 ∷ []) e.kind, row_led (29 ∷ 30 ∷ []) e.kind, plain_26 h w e p, plain_27 h w e p, plain_28 h w e p)

-- ---- the plain rules look at no position of a store

abbrev values : List Slot → List ℤ
values ss = map (λ s. s.value) ss

values_append : (ss rs : List Slot) → values (ss ++ rs) ≡ values ss ++ values rs
values_append [] rs = refl
values_append (s ∷ ss) rs = ap (λ l. s.value ∷ l) (values_append ss rs)

values_drop : (n : ℕ) (ss : List Slot) → values (drop n ss) ≡ drop n (values ss)
values_drop zero ss = refl
values_drop (suc n) [] = refl
values_drop (suc n) (s ∷ ss) = values_drop n ss

-- the way an event is kept changes no value
in_order_values : (f g : List Event → Event → Slot) → ((es : List Event) (e : Event) → (f es e).value ≡ (g es e).value) → (p : Event → Bool) (es : List Event) → values (in_order f p es) ≡ values (in_order g p es)
unfolding in_order
in_order_values f g h p [] = refl
in_order_values f g h p (e ∷ es) =
    rw (values_append (in_order f p es) (cond (p e) (f es e ∷ []) []), values_append (in_order g p es) (cond (p e) (g es e ∷ []) []), in_order_values f g h p es) (ap (λ l. values (in_order g p es) ++ l) (one (p e)))
  where
    one : (b : Bool) → values (cond b (f es e ∷ []) []) ≡ values (cond b (g es e ∷ []) [])
    one true = ap (λ x. x ∷ []) (h es e)
    one false = refl

store_values : (t v : ℕ) (es : List Event) → values (stores t v es) ≡ values (plain_stores t v es)
unfolding stores plain_stores
store_values t v es =
    let n = count (by (W ∷ []) t v) es in
    values_drop n (in_order (store_slot t v) (by (S ∷ P ∷ []) t v) es) ∙ ap (drop n) (in_order_values (store_slot t v) slot (λ es e. refl) (by (S ∷ P ∷ []) t v) es) ∙ sym (values_drop n (in_order slot (by (S ∷ P ∷ []) t v) es))

module _ (h : Counts) (p : Plain h) (es : List Event) (e : Event) where
  alike : (v : ℕ) → (none? (stores e.thread v es) ≡ none? (plain_stores e.thread v es)) × ((first (stores e.thread v es)).value ≡ (first (plain_stores e.thread v es)).value) × (length (stores e.thread v es) ≡ length (plain_stores e.thread v es))
  alike v = same_values (stores e.thread v es) (plain_stores e.thread v es) (store_values e.thread v es)

  plain_10 : no_partner (words_of es) e ≡ no_partner (plain_words_of es) e
  unfolding no_partner words_of plain_words_of
  plain_10 = rw (alike (loc e)).0

  plain_unwritten : (v : ℕ) → unwritten (words_of es) e.thread v ≡ unwritten (plain_words_of es) e.thread v
  unfolding unwritten words_of plain_words_of
  plain_unwritten v = rw (alike v).2

  plain_16 : not_written h (words_of es) e ≡ not_written h (plain_words_of es) e
  unfolding not_written read_before_write words_of plain_words_of
  plain_16 = rw (some_same h.variables _ _ plain_unwritten, (alike (loc e)).0)

  plain_18 : differs (words_of es) e ≡ differs (plain_words_of es) e
  unfolding differs words_of plain_words_of
  plain_18 = rw (alike (loc e)).1

  plain_19 : eight_already (words_of es) e ≡ eight_already (plain_words_of es) e
  unfolding eight_already words_of plain_words_of
  plain_19 = rw (alike (loc e)).2

  plain_23 : dead_read (words_of es) e ≡ dead_read (plain_words_of es) e
  unfolding dead_read words_of plain_words_of
  plain_23 = rw (alike (loc e)).0

  plain_broken : (ns : List ℕ) → first_broken ns h (words_of es) e ≡ first_broken ns h (plain_words_of es) e
  unfolding first_broken breaks lock_taken not_held pending_bars not_fresh not_stored not_usable waits of_waiting not_notified words_of plain_words_of
  plain_broken [] = refl
  plain_broken (n ∷ ns) =
      rw (
        plain_10,
        plain_16,
        plain_18,
        plain_19,
        plain_23,
        plain_26 h (words_of es) e (p (loc e)),
        plain_26 h (plain_words_of es) e (p (loc e)),
        plain_27 h (words_of es) e (p (loc e)),
        plain_27 h (plain_words_of es) e (p (loc e)),
        plain_broken ns,
      )

  -- Without volatile variables the verdict of a row is that without the volatile rules.
  pub plain_same : judge h (words_of es) e ≡ plain_judge h (plain_words_of es) e
  unfolding plain_judge
  plain_same = row_plain h (words_of es) e (p (loc e)) ∙ plain_broken (row_in (rows_behind (29 ∷ 30 ∷ [])) (letter e.kind))

  plain_verdict_law : (m : Limits) → plain_verdict m h es e ≡ verdict m h es e
  unfolding verdict answer plain_verdict words_of plain_words_of
  plain_verdict_law m = rw plain_same

-- Without volatile variables, lines are marked as without the volatile rules, number and line;
pub plain_marked : (m : Limits) (h : Counts) → Plain h → (es : List Event) (rs : List (Option Event)) → mark_plain m h es rs ≡ mark_read m h es rs
unfolding mark_plain mark_read
plain_marked m h p es rs = λ i. mark_by (λ es e. plain_verdict_law h p es e m i) h es rs

-- and after the same events.
pub plain_past : (m : Limits) (h : Counts) → Plain h → (es : List Event) (rs : List (Option Event)) → past_plain m h es rs ≡ past_read m h es rs
unfolding past_plain past_read
plain_past m h p es rs = λ i. past_by (λ es e. plain_verdict_law h p es e m i) es rs

-- ---- all plain rules stay: what is accepted with a `V` line is accepted without it

pub without_plain : (h : Counts) → Plain (without_volatiles h)
unfolding any_volatile some volatile
without_plain h = plain_flags (without_volatiles h) refl refl

-- the plain rules do not look at what is volatile
abbrev unled : ℕ → Bool
unled n = not (eqb n 26 || (eqb n 27 || eqb n 28))

broken_without : (h : Counts) (w : Words) (e : Event) (ns : List ℕ) → T (all_of unled ns) → first_broken ns (without_volatiles h) w e ≡ first_broken ns h w e
unfolding first_broken breaks lock_taken pending_bars not_stored not_written waits of_waiting
broken_without h w e [] m = refl
broken_without h w e (n ∷ ns) m =
    let p = not-true (eqb n 26 || (eqb n 27 || eqb n 28)) (is_true (and_left (unled n) (all_of unled ns) m)) in
    let q = or_false_right (eqb n 26) (eqb n 27 || eqb n 28) p in
    rw (or_false_left (eqb n 26) _ p, or_false_left (eqb n 27) _ q, or_false_right (eqb n 27) _ q, broken_without h w e ns (and_right (unled n) (all_of unled ns) m))

plain_without : (h : Counts) (w : Words) (e : Event) → plain_judge (without_volatiles h) w e ≡ plain_judge h w e
unfolding plain_judge row_in
plain_without h w e = broken_without h w e (row_in (rows_behind (29 ∷ 30 ∷ [])) (letter e.kind)) (at_letter (λ k. all_of unled (row_in (rows_behind (29 ∷ 30 ∷ [])) k)) tt e.kind)

-- the rules besides 26 to 28 are kept
plain_kept : (h : Counts) (w : Words) (e : Event) → judge h w e ≡ 0 → plain_judge h w e ≡ 0
unfolding judge plain_judge rows
plain_kept h w e p =
    let ns = row_in (rows_behind []) (letter e.kind) in
    let u = unbroken (29 ∷ 30 ∷ 26 ∷ 27 ∷ 28 ∷ ns) h w e (rw (row_led (29 ∷ 30 ∷ 26 ∷ 27 ∷ 28 ∷ []) e.kind) at p) in
    rw (row_led (29 ∷ 30 ∷ []) e.kind) (accepts (29 ∷ 30 ∷ ns) h w e (u.0, (u.1.0, u.1.1.1.1.1)))

without_kept : (h : Counts) (w : Words) (e : Event) → judge h w e ≡ 0 → judge (without_volatiles h) w e ≡ 0
without_kept h w e p = row_plain (without_volatiles h) w e (without_plain h (loc e)) ∙ plain_without h w e ∙ plain_kept h w e p

verdict_kept : (m : Limits) (h : Counts) (es : List Event) (e : Event) → verdict m h es e ≡ 0 → verdict m (without_volatiles h) es e ≡ 0
unfolding verdict answer declared
verdict_kept m h es e p = go (leb m.events (words_of es).events) (declared h e) p
  where
    go : (a b : Bool) → cond a m.excess (cond b (judge h (words_of es) e) 5) ≡ 0 → cond a m.excess (cond b (judge (without_volatiles h) (words_of es) e) 5) ≡ 0
    go true b p = p
    go false true p = without_kept h (words_of es) e p
    go false false p = p

walk_kept : (m : Limits) (h : Counts) (es rest : List Event) → mark_from m h es rest ≡ accepted → mark_from m (without_volatiles h) es rest ≡ accepted
unfolding mark_from
walk_kept m h es [] p = refl
walk_kept m h es (e ∷ rest) p = let w = walk_parts m h es e rest p in mark_on m (without_volatiles h) es e rest (verdict_kept m h es e w.0) ∙ walk_kept m h (e ∷ es) rest w.1

-- A trace that is accepted with a `V` line is accepted without it.
pub accepted_plainly : (m : Limits) (h : Counts) (events : List Event) → mark m h events ≡ accepted → mark m (without_volatiles h) events ≡ accepted
unfolding mark
accepted_plainly m h events p = walk_kept m h [] events p
