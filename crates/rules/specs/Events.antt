-- The events as the rules read them: a letter, a place (variable or lock) and a value.
use Rattle.std.specs.Prelude.{ℕ, Bool, false, ◌||◌, cond, List, [], ◌∷◌, eqb, ltb, ℤ, pos, negsuc, Some, None}
use Rattle.std.specs.Prelude.{Option as Option'}
use Rattle.std.proofs.Math.Option.{Option, none, some}
use Rattle.rules.specs.declared.Kind.{Kind}
use Rattle.rules.specs.declared.Kind.TheVariants.{Use, Assign, Load, Store, Read, Write, Lock, Unlock, PrescientStore, PrescientAssign, Wait, Notify, Resume}
use Rattle.rules.specs.declared.Event.{Event}

-- the letter bytes of the thirteen kinds
abbrev pub A : ℕ
A = 65

abbrev pub B : ℕ
B = 66

abbrev pub C : ℕ
C = 67

abbrev pub F : ℕ
F = 70

abbrev pub K : ℕ
K = 75

abbrev pub L : ℕ
L = 76

abbrev pub N : ℕ
N = 78

abbrev pub P : ℕ
P = 80

abbrev pub R : ℕ
R = 82

abbrev pub S : ℕ
S = 83

abbrev pub U : ℕ
U = 85

abbrev pub W : ℕ
W = 87

abbrev pub Y : ℕ
Y = 89

abbrev pub letter : Kind → ℕ
letter (Use v x) = U
letter (Assign v x) = A
letter (Load v x) = L
letter (Store v x) = S
letter (Read v x) = R
letter (Write v x) = W
letter (Lock l) = K
letter (Unlock l) = N
letter (PrescientStore v x) = P
letter (PrescientAssign v x) = B
letter (Wait l) = Y
letter (Notify l u) = F
letter (Resume l) = C

-- the variable of an event; of a lock event, the lock
abbrev pub place : Kind → ℕ
place (Use v x) = v
place (Assign v x) = v
place (Load v x) = v
place (Store v x) = v
place (Read v x) = v
place (Write v x) = v
place (Lock l) = l
place (Unlock l) = l
place (PrescientStore v x) = v
place (PrescientAssign v x) = v
place (Wait l) = l
place (Notify l u) = l
place (Resume l) = l

-- a number held at 255, which no head declares
unfoldable pub capped : ℕ → ℕ
capped n = cond (ltb n 255) n 255

-- the value of an event; a lock event has none, and 0 stands here, or the thread that an F notifies
abbrev pub value : Kind → ℤ
value (Use v x) = x
value (Assign v x) = x
value (Load v x) = x
value (Store v x) = x
value (Read v x) = x
value (Write v x) = x
value (Lock l) = pos 0
value (Unlock l) = pos 0
value (PrescientStore v x) = x
value (PrescientAssign v x) = x
value (Wait l) = pos 0
value (Notify l u) = pos (capped u)
value (Resume l) = pos 0

-- the thread that the number in the place of a value names; a negative one names none, and 255 stands here
abbrev pub thread_of : ℤ → ℕ
thread_of (pos n) = capped n
thread_of (negsuc n) = 255

-- n is one of these numbers
abbrev pub among : List ℕ → ℕ → Bool
among [] n = false
among (k ∷ ks) n = eqb k n || among ks n

-- An event is one of ten kinds, and those of document 02 (i).
unfoldable pub is_letter : ℕ → Bool
is_letter k = eqb k U || eqb k A || eqb k L || eqb k S || eqb k R || eqb k W || eqb k K || eqb k N || eqb k P || eqb k B || eqb k Y || eqb k F || eqb k C

-- `K t l` lock and `N t l` unlock. `Y t l` waits, `F t l u` notifies thread u, `C t l` comes back.
unfoldable pub is_lock_letter : ℕ → Bool
is_lock_letter k = eqb k K || eqb k N || eqb k Y || eqb k F || eqb k C

-- the kind with this letter, variable or lock, and value; every other byte names none
unfoldable pub kind_of : ℕ → ℕ → ℤ → Option' Kind
kind_of k p x =
    cond (eqb k U) (Some (Use p x))
    (cond (eqb k A) (Some (Assign p x))
    (cond (eqb k L) (Some (Load p x))
    (cond (eqb k S) (Some (Store p x))
    (cond (eqb k R) (Some (Read p x))
    (cond (eqb k W) (Some (Write p x))
    (cond (eqb k K) (Some (Lock p))
    (cond (eqb k N) (Some (Unlock p))
    (cond (eqb k P) (Some (PrescientStore p x))
    (cond (eqb k B) (Some (PrescientAssign p x))
    (cond (eqb k Y) (Some (Wait p))
    (cond (eqb k F) (Some (Notify p (thread_of x)))
    (cond (eqb k C) (Some (Resume p))
    None))))))))))))

-- the event of a line: its number, thread and kind; none where there is no kind
abbrev pub event_with : ℕ → ℕ → Option' Kind → Option Event
event_with line t None = none
event_with line t (Some kind) = some (record { thread = t; line = line; kind = kind })

-- e is an event with one of these letters
unfoldable pub is : List ℕ → Event → Bool
is ks e = among ks (letter e.kind)

-- e is T's
unfoldable pub of : ℕ → Event → Bool
of t e = eqb e.thread t

-- e is on V, or on lock V
unfoldable pub on : ℕ → Event → Bool
on v e = eqb (place e.kind) v

-- the thread whose waiting an event with letter k, thread t and value x is about: the one that an F notifies, else its own
unfoldable pub subject_of : ℕ → ℕ → ℤ → ℕ
subject_of k t x = cond (eqb k F) (thread_of x) t

abbrev pub subject : Event → ℕ
subject e = subject_of (letter e.kind) e.thread (value e.kind)

-- the letters of the lock events
abbrev pub lock_letters : List ℕ
lock_letters = K ∷ N ∷ Y ∷ F ∷ C ∷ []

-- a lock event: its place is a lock, and it has no value; an F has a thread in the place of one
unfoldable pub on_lock : Event → Bool
on_lock e = is lock_letters e

-- e locks: which events lock and unlock is read here, and in `grip_after` how many holds. C counts "as a lock of each taken again".
unfoldable pub locks : Event → Bool
locks e = is (K ∷ C ∷ []) e

-- e unlocks. "Y counts as an unlock of each hold given up".
unfoldable pub unlocks : Event → Bool
unlocks e = is (N ∷ Y ∷ []) e

-- the same whole number
unfoldable pub eq_z : ℤ → ℤ → Bool
eq_z (pos m) (pos n) = eqb m n
eq_z (pos m) (negsuc n) = false
eq_z (negsuc m) (pos n) = false
eq_z (negsuc m) (negsuc n) = eqb m n
