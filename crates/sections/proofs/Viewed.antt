-- What the view of an event says of its kind. The theory's proofs take the kinds one by one here alone.
use Prim.Native.Nat.{ℕ, zero, suc}
use mathlib.Core.Path.{◌≡◌, refl}
use mathlib.Core.Bool.{Bool, true, false, cond}
use mathlib.Core.List.{List, [], ◌∷◌}
use lib.Dec.{T}
use lib.IntN.{ℤ}
use Rattle.rules.specs.declared.Event.{Event}
use Rattle.rules.specs.declared.Kind.{Kind}
use Rattle.rules.specs.declared.Kind.TheVariants.{Use, Assign, Load, Store, Read, Write, Lock, Unlock, PrescientStore, PrescientAssign, Wait, Notify, Resume}
use Rattle.rules.specs.Events.{A, B, C, F, K, L, N, P, R, S, U, W, Y, letter, place, value, among, is, locks, unlocks}
use Rattle.rules.specs.Rules.{loc}
use Rattle.rules.proofs.Laws.{is_true, is_apart}
use Rattle.rules.proofs.Cells.{event_by}
use Rattle.serial.specs.Events as E
use Rattle.serial.specs.Words as C
use Rattle.serial.specs.Sections as Q
use Rattle.serial.specs.Sections.{Section, raised, opened, current, without, push}
use Rattle.serial.proofs.Trace as Trace
use Rattle.sections.specs.View.{viewed, view}
use Rattle.sections.specs.Order.{told}

-- the kind of an event on a variable
abbrev pub on_variable : E.Kind → ℕ → ℤ → Kind
on_variable E.Use v x = Use v x
on_variable E.Assign v x = Assign v x
on_variable E.Load v x = Load v x
on_variable E.Store v x = Store v x
on_variable E.Read v x = Read v x
on_variable E.Write v x = Write v x
on_variable E.PrescientStore v x = PrescientStore v x
on_variable E.PrescientAssign v x = PrescientAssign v x

-- the letter of what locks, and of what unlocks
abbrev pub lock_letter : ℕ → ℕ
lock_letter zero = K
lock_letter (suc j) = C

abbrev pub unlock_letter : ℕ → ℕ
unlock_letter zero = N
unlock_letter (suc j) = Y

-- the letters of the events on a variable, and of those that the theory takes for idle
abbrev pub memory : List ℕ
memory = U ∷ A ∷ L ∷ S ∷ R ∷ W ∷ P ∷ B ∷ []

abbrev pub idling : List ℕ
idling = F ∷ []

-- k has one of these letters
abbrev pub Has : Kind → List ℕ → Type 0
Has k ks = T (among ks (letter k))

-- what the rules and the theory say of an event on a variable
pub record OnVariable (κ : E.Kind) (v : ℕ) (x : ℤ) : Type 0 where
  pub has : Has (on_variable κ v x) memory
  pub places : place (on_variable κ v x) ≡ v
  pub values : value (on_variable κ v x) ≡ x
  pub guarded : C.guarded κ ≡ among (U ∷ A ∷ B ∷ []) (letter (on_variable κ v x))
  pub written : (m : ℤ) → C.written κ x m ≡ cond (among (W ∷ []) (letter (on_variable κ v x))) x m
  pub assigned : (m : ℤ) → C.assigned κ x m ≡ cond (among (A ∷ B ∷ []) (letter (on_variable κ v x))) x m
  pub got : (u : ℕ) (m : ℕ → ℤ) (xs : List ℤ) → Trace.got (E.mem κ u v x) m xs ≡ cond (among (U ∷ []) (letter (on_variable κ v x))) (m v ∷ xs) xs
  pub says : (u : ℕ) (xs : List ℤ) → Trace.says (E.mem κ u v x) xs ≡ cond (among (U ∷ []) (letter (on_variable κ v x))) (x ∷ xs) xs

pub facts : (κ : E.Kind) (v : ℕ) (x : ℤ) → OnVariable κ v x
facts E.Use v x = record { has = tt; places = refl; values = refl; guarded = refl; written = λ m. refl; assigned = λ m. refl; got = λ u m xs. refl; says = λ u xs. refl }
facts E.Assign v x = record { has = tt; places = refl; values = refl; guarded = refl; written = λ m. refl; assigned = λ m. refl; got = λ u m xs. refl; says = λ u xs. refl }
facts E.Load v x = record { has = tt; places = refl; values = refl; guarded = refl; written = λ m. refl; assigned = λ m. refl; got = λ u m xs. refl; says = λ u xs. refl }
facts E.Store v x = record { has = tt; places = refl; values = refl; guarded = refl; written = λ m. refl; assigned = λ m. refl; got = λ u m xs. refl; says = λ u xs. refl }
facts E.Read v x = record { has = tt; places = refl; values = refl; guarded = refl; written = λ m. refl; assigned = λ m. refl; got = λ u m xs. refl; says = λ u xs. refl }
facts E.Write v x = record { has = tt; places = refl; values = refl; guarded = refl; written = λ m. refl; assigned = λ m. refl; got = λ u m xs. refl; says = λ u xs. refl }
facts E.PrescientStore v x = record { has = tt; places = refl; values = refl; guarded = refl; written = λ m. refl; assigned = λ m. refl; got = λ u m xs. refl; says = λ u xs. refl }
facts E.PrescientAssign v x = record { has = tt; places = refl; values = refl; guarded = refl; written = λ m. refl; assigned = λ m. refl; got = λ u m xs. refl; says = λ u xs. refl }

-- how an event of this kind by thread u is viewed
pub data Viewed (u : ℕ) : Kind → E.Event ℤ → Type 0 where
  mem : (κ : E.Kind) (v : ℕ) (x : ℤ) → Viewed u (on_variable κ v x) (E.mem κ u v x)
  lock : {k : Kind} (j : ℕ) → Has k (K ∷ C ∷ []) → letter k ≡ lock_letter j → Viewed u k (E.lock j u (place k))
  unlock : {k : Kind} (j : ℕ) → Has k (N ∷ Y ∷ []) → letter k ≡ unlock_letter j → Viewed u k (E.unlock j u (place k))
  idle : {k : Kind} → Has k idling → Viewed u k (E.idle u)

pub seen : (u : ℕ) (k : Kind) → Viewed u k (viewed u k)
seen u (Use v x) = mem E.Use v x
seen u (Assign v x) = mem E.Assign v x
seen u (Load v x) = mem E.Load v x
seen u (Store v x) = mem E.Store v x
seen u (Read v x) = mem E.Read v x
seen u (Write v x) = mem E.Write v x
seen u (Lock l) = lock 0 tt refl
seen u (Unlock l) = unlock 0 tt refl
seen u (PrescientStore v x) = mem E.PrescientStore v x
seen u (PrescientAssign v x) = mem E.PrescientAssign v x
seen u (Wait l) = unlock 1 tt refl
seen u (Notify l x) = idle tt
seen u (Resume l) = lock 1 tt refl

pub whose : (k : Kind) (u : ℕ) → E.thread (viewed u k) ≡ u
whose k u = go (seen u k)
  where
    go : {k : Kind} {x : E.Event ℤ} → Viewed u k x → E.thread x ≡ u
    go (mem κ v y) = refl
    go (lock j a i) = refl
    go (unlock j a i) = refl
    go (idle a) = refl

-- what is viewed as a lock locks, and what is viewed as an unlock unlocks
pub locking : (e : Event) (t l j : ℕ) → view e ≡ E.lock j t l → (locks e ≡ true) × (e.thread ≡ t) × (loc e ≡ l)
unfolding locks is
locking e t l j = go (seen e.thread e.kind)
  where
    go : {k : Kind} {x : E.Event ℤ} → Viewed e.thread k x → x ≡ E.lock j t l → (among (K ∷ C ∷ []) (letter k) ≡ true) × (e.thread ≡ t) × (place k ≡ l)
    go (mem κ v y) p = (cc, cc, cc)
    go (lock j a i) p = (is_true a, cc, cc)
    go (unlock j a i) p = (cc, cc, cc)
    go (idle a) p = (cc, cc, cc)

pub unlocking : (e : Event) (t l j : ℕ) → view e ≡ E.unlock j t l → (unlocks e ≡ true) × (e.thread ≡ t)
unfolding unlocks is
unlocking e t l j = go (seen e.thread e.kind)
  where
    go : {k : Kind} {x : E.Event ℤ} → Viewed e.thread k x → x ≡ E.unlock j t l → (among (N ∷ Y ∷ []) (letter k) ≡ true) × (e.thread ≡ t)
    go (mem κ v y) p = (cc, cc)
    go (lock j a i) p = (cc, cc)
    go (unlock j a i) p = (is_true a, cc)
    go (idle a) p = (cc, cc)

-- the sections after an event of thread t at position n: does it lock, was its thread busy
abbrev pub shape : Bool → Bool → ℕ → ℕ → E.Event ℤ → List (Section ℤ) → List (Section ℤ)
shape true true t n e ss = raised t n e (current t n ss) ∷ without t ss
shape true false t n e ss = opened t n e ∷ ss
shape false true t n e ss = push t n e ss
shape false false t n e ss = ss

pub next_shape : (e : Event) (n : ℕ) (b : Bool) (ss : List (Section ℤ)) → Q.next (view e) (told b) n ss ≡ shape (locks e) b e.thread n (view e) ss
unfolding Q.next locks is
next_shape e n b ss = go (seen e.thread e.kind) b
  where
    go : {k : Kind} {x : E.Event ℤ} → Viewed e.thread k x → (b : Bool) → Q.next x (told b) n ss ≡ shape (among (K ∷ C ∷ []) (letter k)) b e.thread n x ss
    go (mem κ v y) true = rw (is_apart memory (K ∷ C ∷ []) (event_by 0 0 (on_variable κ v y)) tt (facts κ v y).has)
    go (mem κ v y) false = rw (is_apart memory (K ∷ C ∷ []) (event_by 0 0 (on_variable κ v y)) tt (facts κ v y).has)
    go {k} (lock j a i) true = rw (is_true {b = among (K ∷ C ∷ []) (letter k)} a)
    go {k} (lock j a i) false = rw (is_true {b = among (K ∷ C ∷ []) (letter k)} a)
    go {k} (unlock j a i) true = rw (is_apart (N ∷ Y ∷ []) (K ∷ C ∷ []) (event_by 0 0 k) tt a)
    go {k} (unlock j a i) false = rw (is_apart (N ∷ Y ∷ []) (K ∷ C ∷ []) (event_by 0 0 k) tt a)
    go {k} (idle a) true = rw (is_apart idling (K ∷ C ∷ []) (event_by 0 0 k) tt a)
    go {k} (idle a) false = rw (is_apart idling (K ∷ C ∷ []) (event_by 0 0 k) tt a)
