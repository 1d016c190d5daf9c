-- The words over a list one event longer are the words of `next`.
use Prim.Native.Nat.{ℕ, zero, suc, ◌+◌, ◌≤◌, ◌<◌, zero-le, suc-le-suc}
use native.Mathlib.Omega.{arith}
use mathlib.Core.Path.{◌≡◌, refl, subst}
use mathlib.Core.Bool.{Bool, true, false, not, cond, ◌&&◌}
use mathlib.Core.List.{List, [], ◌∷◌, ◌++◌, append-nil}
use mathlib.Core.Option.{some}
use lib.Dec.{T, eqb→eq}
use lib.ListN.{length, drop, length-append}
use lib.Seq.{drop-append-le}
use Rattle.rules.specs.declared.Event.{Event}
use Rattle.rules.specs.Events.{A, B, F, L, P, R, S, W, value, among, is, of, on}
use Rattle.rules.specs.declared.Slot.{Slot}
use Rattle.rules.specs.declared.Counts.{Counts}
use Rattle.rules.specs.Limits.{Limits}
use Rattle.rules.specs.Words.{latest, value_in, letter_in, last_at, count, slot, store_slot, in_order, by, accesses, reads, stores, copy, fresh, pending, announced, last_lock, last_write, usable, grip, depth, remembered, tells, notified, main, after_load, after_assign, loaded_read, used_read, last_assign}
use Rattle.rules.specs.Rules.{Words, words_of, none?, loc, judge, Accepted, legal}
use Rattle.rules.proofs.Laws.{and_left, and_right, accepted_legal, legal_row, legal_before, load_partner, write_partner, at_letter}
use Rattle.rules.proofs.Next.{others, next}

-- ---- laws of what the words are made of, at a longer list

push : {A B : Type 0} (f : A → B) (b : Bool) (x y : A) → f (cond b x y) ≡ cond b (f x) (f y)
push f true x y = refl
push f false x y = refl

pub value_latest : (p : Event → Bool) (e : Event) (es : List Event) → value_in (latest p (e ∷ es)) ≡ cond (p e) (value e.kind) (value_in (latest p es))
unfolding latest value_in
value_latest p e es = push value_in (p e) (some e) (latest p es)

pub letter_latest : (ks : List ℕ) (p : Event → Bool) (e : Event) (es : List Event) → letter_in ks (latest p (e ∷ es)) ≡ cond (p e) (is ks e) (letter_in ks (latest p es))
unfolding latest letter_in
letter_latest ks p e es = push (letter_in ks) (p e) (some e) (latest p es)

-- ---- the queues

drop_others : (n : ℕ) (ss : List Slot) → drop (suc n) ss ≡ others (drop n ss)
drop_others zero [] = refl
drop_others zero (s ∷ ss) = refl
drop_others (suc n) [] = refl
drop_others (suc n) (s ∷ ss) = drop_others n ss

-- the queue of what passes p, each kept as f says, with as many taken off as pass q: no event passes both
pub queue : (f : List Event → Event → Slot) (p q : Event → Bool) (e : Event) (es : List Event) → (T (p e) → T (q e) → ⊥) → count q es ≤ length (in_order f p es)
    → drop (count q (e ∷ es)) (in_order f p (e ∷ es))
    ≡ cond (p e) (drop (count q es) (in_order f p es) ++ (f es e ∷ [])) (cond (q e) (others (drop (count q es) (in_order f p es))) (drop (count q es) (in_order f p es)))
unfolding count in_order
queue f p q e es ne h = go (p e) (q e) ne
  where
    go : (b c : Bool) → (T b → T c → ⊥)
        → drop (cond c (suc (count q es)) (count q es)) (in_order f p es ++ cond b (f es e ∷ []) [])
        ≡ cond b (drop (count q es) (in_order f p es) ++ (f es e ∷ [])) (cond c (others (drop (count q es) (in_order f p es))) (drop (count q es) (in_order f p es)))
    go true true n = absurd (n tt tt)
    go true false n = drop-append-le (count q es) (in_order f p es) (f es e ∷ []) h
    go false true n = rw append-nil (drop_others (count q es) (in_order f p es))
    go false false n = rw append-nil

-- ---- no event has two letters

contrary : (b c d : Bool) → T (not (b && c)) → T (b && d) → T (c && d) → ⊥
contrary true true d h x y = h
contrary true false d h x y = y
contrary false c d h x y = x

pub read_load : (t v : ℕ) (e : Event) → T (by (R ∷ []) t v e) → T (by (L ∷ []) t v e) → ⊥
unfolding by is
read_load t v e = contrary (is (R ∷ []) e) (is (L ∷ []) e) (of t e && on v e) (at_letter (λ n. not (among (R ∷ []) n && among (L ∷ []) n)) tt e.kind)

pub store_write : (t v : ℕ) (e : Event) → T (by (S ∷ P ∷ []) t v e) → T (by (W ∷ []) t v e) → ⊥
unfolding by is
store_write t v e = contrary (is (S ∷ P ∷ []) e) (is (W ∷ []) e) (of t e && on v e) (at_letter (λ n. not (among (S ∷ P ∷ []) n && among (W ∷ []) n)) tt e.kind)

-- ---- the words at a longer list

-- what rule 10 keeps: no more loads than reads, writes than stores
pub record Paired (es : List Event) : Type 0 where
  pub loads : (t v : ℕ) → count (by (L ∷ []) t v) es ≤ length (in_order slot (by (R ∷ []) t v) es)
  pub writes : (t v : ℕ) → count (by (W ∷ []) t v) es ≤ length (in_order (store_slot t v) (by (S ∷ P ∷ []) t v) es)

pub words_next : (e : Event) (es : List Event) → Paired es → words_of (e ∷ es) ≡ next (words_of es) e
unfolding words_of next reads stores copy fresh pending announced last_lock last_write usable grip depth remembered notified main after_load after_assign loaded_read used_read last_assign last_at
words_next e es h = λ i. record {
  events = suc (length es);
  copy = λ t v. value_latest (by (A ∷ B ∷ L ∷ []) t v) e es i;
  fresh = λ t v. letter_latest (A ∷ []) (by (A ∷ B ∷ S ∷ []) t v) e es i;
  pending = λ t v. letter_latest (P ∷ []) (by (P ∷ B ∷ []) t v) e es i;
  announced = λ t v. value_latest (by (P ∷ []) t v) e es i;
  usable = λ t v. (next (words_of es) e).usable t v;
  reads = λ t v. queue slot (by (R ∷ []) t v) (by (L ∷ []) t v) e es (read_load t v e) (h.loads t v) i;
  stores = λ t v. queue (store_slot t v) (by (S ∷ P ∷ []) t v) (by (W ∷ []) t v) e es (store_write t v e) (h.writes t v) i;
  last_write = λ t v. (next (words_of es) e).last_write t v;
  last_lock = λ t. (next (words_of es) e).last_lock t;
  depth = λ t l. (next (words_of es) e).depth t l;
  remembered = λ t l. (next (words_of es) e).remembered t l;
  notified = λ t l. letter_latest (F ∷ []) (tells t l) e es i;
  main = λ v. value_latest (λ x. is (W ∷ []) x && on v x) e es i;
  after_load = λ t v. letter_latest (L ∷ []) (by accesses t v) e es i;
  after_assign = λ t v. letter_latest (A ∷ []) (by accesses t v) e es i;
  loaded_read = λ t v. (next (words_of es) e).loaded_read t v;
  used_read = λ t v. (next (words_of es) e).used_read t v;
  last_assign = λ t v. (next (words_of es) e).last_assign t v;
}

-- ---- an accepted list is paired

pub left : (n : ℕ) (ss : List Slot) → none? (drop n ss) ≡ false → n < length ss
left zero [] h = absurd (subst T h tt)
left zero (s ∷ ss) h = suc-le-suc zero-le
left (suc n) [] h = absurd (subst T h tt)
left (suc n) (s ∷ ss) h = suc-le-suc (left n ss h)

-- one more event: what passes q has a partner
grow : (f : List Event → Event → Slot) (p q : Event → Bool) (e : Event) (es : List Event) → (T (q e) → count q es < length (in_order f p es)) → count q es ≤ length (in_order f p es) → count q (e ∷ es) ≤ length (in_order f p (e ∷ es))
unfolding count in_order
grow f p q e es g h = rw length-append (go (q e) (length (cond (p e) (f es e ∷ []) [])) g)
  where
    go : (c : Bool) (k : ℕ) → (T c → count q es < length (in_order f p es)) → cond c (suc (count q es)) (count q es) ≤ length (in_order f p es) + k
    go true k g = let x = g tt in omega arith
    go false k g = omega arith

-- the thread and the place of an event that passes `by`
pub by_is : (ks : List ℕ) (t v : ℕ) (e : Event) → T (by ks t v e) → T (is ks e)
unfolding by
by_is ks t v e h = and_left (is ks e) (of t e && on v e) h

pub by_thread : (ks : List ℕ) (t v : ℕ) (e : Event) → T (by ks t v e) → e.thread ≡ t
unfolding by of
by_thread ks t v e h = eqb→eq e.thread t (and_left (of t e) (on v e) (and_right (is ks e) (of t e && on v e) h))

pub by_loc : (ks : List ℕ) (t v : ℕ) (e : Event) → T (by ks t v e) → loc e ≡ v
unfolding by on
by_loc ks t v e h = eqb→eq (loc e) v (and_right (of t e) (on v e) (and_right (is ks e) (of t e && on v e) h))

-- what rule 10 asks of e: a load has an outstanding read, a write an outstanding store
pub record Partnered (w : Words) (e : Event) : Type 0 where
  pub loads : T (is (L ∷ []) e) → none? (w.reads e.thread (loc e)) ≡ false
  pub writes : T (is (W ∷ []) e) → none? (w.stores e.thread (loc e)) ≡ false

pub partnered : (c : Counts) (w : Words) (e : Event) → judge c w e ≡ 0 → Partnered w e
partnered c w e p = record { loads = load_partner c w e p; writes = write_partner c w e p }

pub paired_next : (e : Event) (es : List Event) → Partnered (words_of es) e → Paired es → Paired (e ∷ es)
unfolding words_of reads stores
paired_next e es p h = record {
  loads = λ t v. grow slot (by (R ∷ []) t v) (by (L ∷ []) t v) e es
      (λ b. left _ _ (rw (by_thread (L ∷ []) t v e b, by_loc (L ∷ []) t v e b) at (p.loads (by_is (L ∷ []) t v e b)))) (h.loads t v);
  writes = λ t v. grow (store_slot t v) (by (S ∷ P ∷ []) t v) (by (W ∷ []) t v) e es
      (λ b. left _ _ (rw (by_thread (W ∷ []) t v e b, by_loc (W ∷ []) t v e b) at (p.writes (by_is (W ∷ []) t v e b)))) (h.writes t v);
}

pub paired_none : Paired []
unfolding count in_order
paired_none = record { loads = λ t v. zero-le; writes = λ t v. zero-le }

pub paired_legal : (c : Counts) (es : List Event) → T (legal c es) → Paired es
paired_legal c [] l = paired_none
paired_legal c (e ∷ es) l = paired_next e es (partnered c (words_of es) e (legal_row c e es l)) (paired_legal c es (legal_before c e es l))

pub paired : (m : Limits) (c : Counts) (es : List Event) → 0 < m.excess → T (Accepted m c es) → Paired es
paired m c es x a = paired_legal c es (accepted_legal m c es x a)

-- the words after a legal list and one event more
pub legal_next : (c : Counts) (e : Event) (es : List Event) → T (legal c es) → words_of (e ∷ es) ≡ next (words_of es) e
legal_next c e es l = words_next e es (paired_legal c es l)
