-- Source document 001, section 3, the rules 4, in the words of document 02 (f): what proofs/Volatile.antt, VolatileOrder.antt
-- and VolatileExact.antt prove of accepted events. For thread T and a volatile variable V.
use Rattle.std.specs.Prelude.{ℕ, suc, ◌≡◌, Bool, true, ◌&&◌, ◌||◌, List, [], ◌∷◌, map, ◌⊎◌, T, eqb, length}
use Rattle.rules.specs.declared.Event.{Event}
use Rattle.rules.specs.Events.{A, L, S, U, W, letter}
use Rattle.rules.specs.Words.{first, by, accesses, stores, loaded_read}
use Rattle.rules.specs.Projections.{keep}

-- ---- rules 4.1 and 4.2: “A use action by t on v is permitted only if the previous action by t on v was load, and a load action by t on v is permitted
-- only if the next action by t on v is use.” The same of store and assign.

-- the letters of T's own events on V, R and W left aside, in the order of the list: where it has the latest event last, that of the trace
unfoldable pub letters_on : ℕ → ℕ → List Event → List ℕ
letters_on t v es = map (λ e. letter e.kind) (keep (by accesses t v) es)

-- a beginning of (L U | A S)*
abbrev pub beginning : List ℕ → Bool
beginning [] = true
beginning (k ∷ []) = eqb k L || eqb k A
beginning (k ∷ l ∷ ks) = (eqb k L && eqb l U || eqb k A && eqb l S) && beginning ks

-- ---- rule 4.3: read and write order follows use and assign order. The list holds the events, the latest first.

-- T's event on V with this letter stands at position i
abbrev pub At : ℕ → ℕ → ℕ → List Event → ℕ → Type 0
At k t v [] i = ⊥
At k t v (e ∷ es) i = (T (by (k ∷ []) t v e) × (i ≡ suc (length es))) ⊎ At k t v es i

-- “The use action is said to be “associated” with the read action that corresponds to the load.” T's use of V at position i has its read at p.
abbrev pub UseRead : ℕ → ℕ → List Event → ℕ → ℕ → Type 0
UseRead t v [] i p = ⊥
UseRead t v (e ∷ es) i p = (T (by (U ∷ []) t v e) × (i ≡ suc (length es)) × (p ≡ loaded_read t v es)) ⊎ UseRead t v es i p

-- “The assign action is said to be “associated” with the write action that corresponds to the store.” T's assign of V at position i has its write at p.
-- (A write's store is the oldest outstanding one, which has the position of its assign.)
abbrev pub AssignWrite : ℕ → ℕ → List Event → ℕ → ℕ → Type 0
AssignWrite t v [] i p = ⊥
AssignWrite t v (e ∷ es) i p = (T (by (W ∷ []) t v e) × (i ≡ (first (stores t v es)).position) × (p ≡ suc (length es))) ⊎ AssignWrite t v es i p

-- a use or assign by T on V stands at position i
abbrev pub Acts : ℕ → ℕ → List Event → ℕ → Type 0
Acts t v es i = At U t v es i ⊎ At A t v es i

-- its read or write stands at position p
abbrev pub Associated : ℕ → ℕ → List Event → ℕ → ℕ → Type 0
Associated t v es i p = UseRead t v es i p ⊎ AssignWrite t v es i p
