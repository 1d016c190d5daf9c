-- The parts of a record are read back, and what they say of its event.
use Prim.Native.Nat.{ℕ, ◌+◌, ◌*◌, ◌/◌, ◌%◌, ◌≤◌, ◌<◌}
use native.Mathlib.Decide.{ℕ_discrete, dec_lt}
use native.Mathlib.Omega.{arith}
use mathlib.Core.Path.{◌≡◌, refl, sym, ap, ap₂, ◌∙◌, subst}
use mathlib.Core.Bool.{Bool, true, false, cond, ◌||◌, or_assoc, or-false}
use mathlib.Core.Option.{none, some}
use lib.Dec.{eqb}
use lib.IntN.{ℤ, pos}
use borrow.Author.Tests.{eq-eqb, ne_eqb, lt-ltb}
use Rattle.rules.specs.declared.Event.{Event}
use Rattle.rules.specs.declared.Kind.{Kind}
use Rattle.rules.specs.declared.Kind.TheVariants.{Use, Assign, Load, Store, Read, Write, Lock, Unlock, PrescientStore, PrescientAssign, Wait, Notify, Resume}
use Rattle.std.specs.Prelude.{Some, None}
use Rattle.std.specs.Prelude.{Option as Option'}
use Rattle.rules.specs.Events.{A, B, C, F, K, L, N, P, R, S, U, W, Y, letter, place, capped, value, thread_of, is_letter, is_lock_letter, kind_of, event_with, subject_of, subject}
use Rattle.rules.proofs.Letters.{capped_same, capped_over, capped_low, capped_twice, thread_named}
use Rattle.records.specs.Records.{what_of, packed, value_in, letter_in, thread_in, place_in, event_in, or_read, unpacked}

-- ---- the parts read back

pub letter_back : (k t p : ℕ) → k < 256 → letter_in (what_of k t p) ≡ k
unfolding letter_in what_of
letter_back k t p h =
    let a = capped_low t in
    let b = capped_low p in
    let q : (k * 65536 + capped t * 256 + capped p) / 65536 ≡ k = omega arith in
    rw (q, lt-ltb k 256 h)

pub thread_back : (k t p : ℕ) → thread_in (what_of k t p) ≡ capped t
unfolding thread_in what_of
thread_back k t p =
    let a = capped_low t in
    let b = capped_low p in
    let q : (k * 65536 + capped t * 256 + capped p) / 256 ≡ k * 256 + capped t = omega arith in
    ap (λ (n : ℕ). n % 256) q ∙ omega arith

pub place_back : (k t p : ℕ) → place_in (what_of k t p) ≡ capped p
unfolding place_in what_of
place_back k t p =
    let b = capped_low p in
    omega arith

-- ---- the kind with a letter

-- the value of the event with letter k and the number x in the place of a value: a lock event has none, and an F has a thread there
abbrev pub kept_value : ℕ → ℤ → ℤ
kept_value k x = cond (is_lock_letter k) (cond (eqb k F) (pos (capped (thread_of x))) (pos 0)) x

-- the kind that a letter names: it has this letter, place, value and subject
pub record Kinded (k p : ℕ) (x : ℤ) (n : Option' Kind) : Type 0 where
  pub named : n ≡ Some (or_read n p x)
  pub letters : letter (or_read n p x) ≡ k
  pub places : place (or_read n p x) ≡ p
  pub values : value (or_read n p x) ≡ kept_value k x
  pub subjects : (t : ℕ) → subject_of k t (value (or_read n p x)) ≡ subject_of k t x

-- a letter's kind, or none where it is no letter
abbrev Right : ℕ → ℕ → ℤ → Option' Kind → Bool → Type 0
Right k p x n true = Kinded k p x n
Right k p x n false = n ≡ None

pick : (k c p : ℕ) (x : ℤ) (n rest : Option' Kind) (b : Bool) → Kinded c p x n → Right k p x rest b → Right k p x (cond (eqb k c) n rest) (eqb k c || b)
pick k c p x n rest b y z = go (ℕ_discrete k c)
  where
    go : Dec (k ≡ c) → Right k p x (cond (eqb k c) n rest) (eqb k c || b)
    go (yes q) = rw (eq-eqb k c q) (subst (λ (j : ℕ). Kinded j p x n) (sym q) y)
    go (no q) = rw (ne_eqb k c q) z

right : (k p : ℕ) (x : ℤ) → Right k p x (kind_of k p x) (is_letter k)
unfolding kind_of is_letter is_lock_letter subject_of
right k p x =
    simp or_assoc
    (pick k U p x (Some (Use p x)) _ _ (record { named = refl; letters = refl; places = refl; values = refl; subjects = λ t. refl })
    (pick k A p x (Some (Assign p x)) _ _ (record { named = refl; letters = refl; places = refl; values = refl; subjects = λ t. refl })
    (pick k L p x (Some (Load p x)) _ _ (record { named = refl; letters = refl; places = refl; values = refl; subjects = λ t. refl })
    (pick k S p x (Some (Store p x)) _ _ (record { named = refl; letters = refl; places = refl; values = refl; subjects = λ t. refl })
    (pick k R p x (Some (Read p x)) _ _ (record { named = refl; letters = refl; places = refl; values = refl; subjects = λ t. refl })
    (pick k W p x (Some (Write p x)) _ _ (record { named = refl; letters = refl; places = refl; values = refl; subjects = λ t. refl })
    (pick k K p x (Some (Lock p)) _ _ (record { named = refl; letters = refl; places = refl; values = refl; subjects = λ t. refl })
    (pick k N p x (Some (Unlock p)) _ _ (record { named = refl; letters = refl; places = refl; values = refl; subjects = λ t. refl })
    (pick k P p x (Some (PrescientStore p x)) _ _ (record { named = refl; letters = refl; places = refl; values = refl; subjects = λ t. refl })
    (pick k B p x (Some (PrescientAssign p x)) _ _ (record { named = refl; letters = refl; places = refl; values = refl; subjects = λ t. refl })
    (pick k Y p x (Some (Wait p)) _ _ (record { named = refl; letters = refl; places = refl; values = refl; subjects = λ t. refl })
    (pick k F p x (Some (Notify p (thread_of x))) _ _ (record { named = refl; letters = refl; places = refl; values = refl; subjects = λ t. thread_named x })
    (subst (Right k p x (cond (eqb k C) (Some (Resume p)) None)) (or-false (eqb k C)) (pick k C p x (Some (Resume p)) None false (record { named = refl; letters = refl; places = refl; values = refl; subjects = λ t. refl }) refl))))))))))))))

pub kinded : (k p : ℕ) (x : ℤ) → is_letter k ≡ true → Kinded k p x (kind_of k p x)
kinded k p x e = subst (Right k p x (kind_of k p x)) e (right k p x)

pub no_kind : (k p : ℕ) (x : ℤ) → is_letter k ≡ false → kind_of k p x ≡ None
no_kind k p x e = subst (Right k p x (kind_of k p x)) e (right k p x)

-- ---- the event of a record

pub event_some : (line w : ℕ) (x : ℤ) → is_letter (letter_in w) ≡ true → event_in line w x ≡ some (unpacked line w x)
unfolding event_in unpacked
event_some line w x e = ap (λ (n : Option' Kind). event_with line (thread_in w) n) (kinded (letter_in w) (place_in w) x e).named

pub event_none : (line w : ℕ) (x : ℤ) → is_letter (letter_in w) ≡ false → event_in line w x ≡ none
unfolding event_in
event_none line w x e = ap (λ (n : Option' Kind). event_with line (thread_in w) n) (no_kind (letter_in w) (place_in w) x e)

pub thread_is : (line w : ℕ) (x : ℤ) → (unpacked line w x).thread ≡ thread_in w
unfolding unpacked
thread_is line w x = refl

pub line_is : (line w : ℕ) (x : ℤ) → (unpacked line w x).line ≡ line
unfolding unpacked
line_is line w x = refl

module _ (line w : ℕ) (x : ℤ) (e : is_letter (letter_in w) ≡ true) where
  pub letter_is : letter (unpacked line w x).kind ≡ letter_in w
  unfolding unpacked
  letter_is = (kinded (letter_in w) (place_in w) x e).letters

  pub place_is : place (unpacked line w x).kind ≡ place_in w
  unfolding unpacked
  place_is = (kinded (letter_in w) (place_in w) x e).places

  -- a lock event has no value
  pub value_is : is_lock_letter (letter_in w) ≡ false → value (unpacked line w x).kind ≡ x
  unfolding unpacked
  value_is q = (kinded (letter_in w) (place_in w) x e).values ∙ rw q

  pub subject_is : subject (unpacked line w x) ≡ subject_of (letter_in w) (thread_in w) x
  unfolding unpacked
  subject_is =
      let m = kinded (letter_in w) (place_in w) x e in
      ap (λ (k : ℕ). subject_of k (thread_in w) (value (unpacked line w x).kind)) m.letters ∙ m.subjects (thread_in w)

-- ---- the record of an event

-- a number held below 255 is below it
capped_below : (n : ℕ) → capped n < 255 → n < 255
capped_below n h = go (dec_lt n 255)
  where
    go : Dec (n < 255) → n < 255
    go (yes q) = q
    go (no q) = let z : 255 ≤ n = omega (arith, q) in absurd (omega (arith, h, capped_over n z))

-- the event with its thread, its variable or lock, and the thread that it notifies, held at 255
unfoldable pub held_kind : Kind → Kind
held_kind k = or_read (kind_of (letter k) (capped (place k)) (value k)) (capped (place k)) (value k)

unfoldable pub held_event : Event → Event
held_event e = record { thread = capped e.thread; line = e.line; kind = held_kind e.kind }

-- what letter, place and value say of a kind, and what holding keeps of it
pub record Holds (k : Kind) : Type 0 where
  pub kind : kind_of (letter k) (capped (place k)) (value k) ≡ Some (held_kind k)
  pub letters : letter (held_kind k) ≡ letter k
  pub places : place (held_kind k) ≡ capped (place k)
  pub subjects : (t : ℕ) → subject_of (letter (held_kind k)) (capped t) (value (held_kind k)) ≡ capped (subject_of (letter k) t (value k))
  pub values : kept_value (letter k) (value k) ≡ value k
  pub lettered : is_letter (letter k) ≡ true
  pub low : letter k < 256
  pub small : (t : ℕ) → subject_of (letter k) t (value k) < 255 → place k < 255 → held_kind k ≡ k

pub holds : (k : Kind) → Holds k
unfolding held_kind kind_of subject_of is_letter is_lock_letter
holds (Use v x) = record { kind = refl; letters = refl; places = refl; subjects = λ t. refl; values = refl; lettered = refl; low = omega arith; small = λ t s h. ap (λ (p : ℕ). Use p x) (capped_same v h) }
holds (Assign v x) = record { kind = refl; letters = refl; places = refl; subjects = λ t. refl; values = refl; lettered = refl; low = omega arith; small = λ t s h. ap (λ (p : ℕ). Assign p x) (capped_same v h) }
holds (Load v x) = record { kind = refl; letters = refl; places = refl; subjects = λ t. refl; values = refl; lettered = refl; low = omega arith; small = λ t s h. ap (λ (p : ℕ). Load p x) (capped_same v h) }
holds (Store v x) = record { kind = refl; letters = refl; places = refl; subjects = λ t. refl; values = refl; lettered = refl; low = omega arith; small = λ t s h. ap (λ (p : ℕ). Store p x) (capped_same v h) }
holds (Read v x) = record { kind = refl; letters = refl; places = refl; subjects = λ t. refl; values = refl; lettered = refl; low = omega arith; small = λ t s h. ap (λ (p : ℕ). Read p x) (capped_same v h) }
holds (Write v x) = record { kind = refl; letters = refl; places = refl; subjects = λ t. refl; values = refl; lettered = refl; low = omega arith; small = λ t s h. ap (λ (p : ℕ). Write p x) (capped_same v h) }
holds (Lock l) = record { kind = refl; letters = refl; places = refl; subjects = λ t. refl; values = refl; lettered = refl; low = omega arith; small = λ t s h. ap (λ (p : ℕ). Lock p) (capped_same l h) }
holds (Unlock l) = record { kind = refl; letters = refl; places = refl; subjects = λ t. refl; values = refl; lettered = refl; low = omega arith; small = λ t s h. ap (λ (p : ℕ). Unlock p) (capped_same l h) }
holds (PrescientStore v x) = record { kind = refl; letters = refl; places = refl; subjects = λ t. refl; values = refl; lettered = refl; low = omega arith; small = λ t s h. ap (λ (p : ℕ). PrescientStore p x) (capped_same v h) }
holds (PrescientAssign v x) = record { kind = refl; letters = refl; places = refl; subjects = λ t. refl; values = refl; lettered = refl; low = omega arith; small = λ t s h. ap (λ (p : ℕ). PrescientAssign p x) (capped_same v h) }
holds (Wait l) = record { kind = refl; letters = refl; places = refl; subjects = λ t. refl; values = refl; lettered = refl; low = omega arith; small = λ t s h. ap (λ (p : ℕ). Wait p) (capped_same l h) }
holds (Notify l u) = record { kind = refl; letters = refl; places = refl; subjects = λ t. capped_twice (capped (capped u)); values = ap pos (capped_twice (capped u) ∙ capped_twice u); lettered = refl; low = omega arith; small = λ t s h. ap₂ Notify (capped_same l h) (capped_twice u ∙ capped_same u (capped_below u (capped_below (capped u) s))) }
holds (Resume l) = record { kind = refl; letters = refl; places = refl; subjects = λ t. refl; values = refl; lettered = refl; low = omega arith; small = λ t s h. ap (λ (p : ℕ). Resume p) (capped_same l h) }

pub kind_back : (k : Kind) (t : ℕ) → subject_of (letter k) t (value k) < 255 → place k < 255 → kind_of (letter k) (place k) (value k) ≡ Some k
kind_back k t hs hp = ap (λ (p : ℕ). kind_of (letter k) p (value k)) (sym (capped_same (place k) hp)) ∙ (holds k).kind ∙ ap (λ (c : Kind). Some c) ((holds k).small t hs hp)

module _ (e : Event) where
  abbrev k : Kind
  k = e.kind

  pub packed_letter : letter_in (packed e) ≡ letter k
  unfolding packed
  packed_letter = letter_back (letter k) e.thread (place k) (holds k).low

  pub packed_thread : thread_in (packed e) ≡ capped e.thread
  unfolding packed
  packed_thread = thread_back (letter k) e.thread (place k)

  pub packed_place : place_in (packed e) ≡ capped (place k)
  unfolding packed
  packed_place = place_back (letter k) e.thread (place k)

  packed_kind : kind_of (letter_in (packed e)) (place_in (packed e)) (value k) ≡ Some (held_kind k)
  packed_kind = (λ i. kind_of (packed_letter i) (packed_place i) (value k)) ∙ (holds k).kind

  -- an event's record gives the event back, with threads and place held
  pub held_some : event_in e.line (packed e) (value_in e) ≡ some (held_event e)
  unfolding event_in held_event
  held_some = λ i. event_with e.line (packed_thread i) (packed_kind i)

  pub held_unpacked : unpacked e.line (packed e) (value_in e) ≡ held_event e
  unfolding unpacked held_event
  held_unpacked = λ i. record { thread = packed_thread i; line = e.line; kind = or_read (packed_kind i) (place_in (packed e)) (value k) }

  -- with threads and a place below 255, as it was
  module _ (ht : e.thread < 255) (hs : subject e < 255) (hp : place k < 255) where
    pub held_event_law : held_event e ≡ e
    unfolding held_event
    held_event_law = λ i. record { thread = capped_same e.thread ht i; line = e.line; kind = (holds k).small e.thread hs hp i }

    pub held_back : unpacked e.line (packed e) (value_in e) ≡ e
    held_back = held_unpacked ∙ held_event_law
