-- What the parts of the code compute: scans of records with a value beside each, and the entries of a tail.
use Rattle.std.specs.Prelude.{ℕ, suc, pred, ◌+◌, Bool, false, not, cond, ◌&&◌, ◌||◌, List, [], ◌∷◌, ◌++◌, map, filter, fold, eqb, ltb, ℤ, pos, length, get_or, set, replicate, drop}
use Rattle.std.specs.List.{list_any}
use Rattle.rules.specs.declared.Cached.{Cached}
use Rattle.rules.specs.declared.Counts.{Counts}
use Rattle.rules.specs.Events.{A, B, C, F, K, L, N, P, R, S, W, Y}
use Rattle.rules.specs.Limits.{cell_number}
use Rattle.rules.specs.Memories.{below, each}
use Rattle.records.specs.Records.{what_of, letter_in, thread_in, place_in}
use Rattle.finishing.specs.declared.Entry.{Entry}
use Rattle.finishing.specs.declared.Facts.{Facts}

-- ---- scans

abbrev pub entry : ℕ → ℤ → Entry
entry w x = record { what = w; value = x }

-- a record is of thread t on variable or lock p
unfoldable pub here : ℕ → ℕ → ℕ → Bool
here t p w = eqb (thread_in w) t && eqb (place_in w) p

-- only a record of t on p changes what is known
abbrev pub only_here : {X : Type 0} → ℕ → ℕ → (Entry → X → X) → Entry → X → X
only_here t p f e x = cond (here t p e.what) (f e x) x

unfoldable pub facts_after : Entry → Facts → Facts
facts_after e f =
    let k = letter_in e.what in
    record {
      pending = eqb k P || (f.pending && not (eqb k B));
      announced = cond (eqb k P) e.value f.announced;
      fresh = eqb k A || (f.fresh && not (eqb k B || eqb k S));
      loads = f.loads + cond (eqb k L) 1 0;
      writes = f.writes + cond (eqb k W) 1 0;
    }

abbrev pub no_facts : Facts
no_facts = record { pending = false; announced = pos 0; fresh = false; loads = 0; writes = 0 }

-- the facts of thread t and variable v, from records with their values
unfoldable pub facts_in : ℕ → ℕ → List (ℕ × ℤ) → Facts
facts_in t v rs = fold (λ f r. only_here t v facts_after (entry r.0 r.1) f) no_facts rs

unfoldable pub depth_after : ℕ → ℕ → ℕ
depth_after k d = cond (eqb k K) (suc d) (cond (eqb k N) (pred d) d)

abbrev pub hold_after : ℕ → ℕ → ℕ → ℕ → ℕ
hold_after t l d w = cond (here t l w) (depth_after (letter_in w) d) d

-- how often thread t holds lock l after these records
unfoldable pub depth_in : ℕ → ℕ → List ℕ → ℕ
depth_in t l ws = fold (hold_after t l) 0 ws

abbrev pub new_letter : ℕ → Bool
new_letter k = eqb k Y || (eqb k F || eqb k C)

-- a Y, F or C is among them
unfoldable pub any_new : List ℕ → Bool
any_new ws = list_any (λ w. new_letter (letter_in w)) ws

-- a record is of thread t on variable v with a letter that k pairs with: S or P with W, R with L
unfoldable pub feeds : ℕ → ℕ → ℕ → ℕ → Bool
feeds k t v w = let j = letter_in w in here t v w && (eqb k W && (eqb j S || eqb j P) || eqb k L && eqb j R)

-- the values of these but the first n
unfoldable pub rest_in : ℕ → ℕ → ℕ → ℕ → List (ℕ × ℤ) → List ℤ
rest_in k t v n rs = map (λ r. r.1) (drop n (filter (λ r. feeds k t v r.0) rs))

-- ---- the entries of a tail

abbrev pub entry_of : ℕ → ℕ → ℕ → ℤ → Entry
entry_of k t p x = entry (what_of k t p) x

unfoldable pub storing : Cached → ℕ → ℕ → List Entry
storing c t v = entry_of S t v c.value ∷ entry_of W t v c.value ∷ []

unfoldable pub assigning : Cached → ℕ → ℕ → List Entry
assigning c t v = cond c.usable [] (entry_of A t v c.value ∷ []) ++ storing c t v

unfoldable pub closing : Facts → Cached → ℕ → ℕ → List Entry
closing f c t v = cond f.pending (entry_of B t v f.announced ∷ []) (cond f.fresh (assigning c t v) [])

unfoldable pub cell_entries : Cached → ℕ → ℕ → List (ℕ × ℤ) → List Entry
cell_entries c t v rs =
    let f = facts_in t v rs in
    map (entry_of W t v) (rest_in W t v f.writes rs) ++ (closing f c t v ++ map (entry_of L t v) (rest_in L t v f.loads rs))

abbrev pub no_copy : Cached
no_copy = record { value = pos 0; usable = false }

unfoldable pub cells_entries : List Cached → ℕ → List (ℕ × ℤ) → ℕ → List Entry
cells_entries copies t rs v = cell_entries (get_or copies (cell_number t v) no_copy) t v rs

unfoldable pub lock_entries : ℕ → List ℕ → ℕ → List Entry
lock_entries t ws l = replicate (depth_in t l ws) (entry_of N t l (pos 0))

-- records without their values
abbrev pub whats_of : List (ℕ × ℤ) → List ℕ
whats_of rs = map (λ r. r.0) rs

unfoldable pub thread_entries : Counts → List Cached → List (ℕ × ℤ) → ℕ → List Entry
thread_entries h copies rs t = each (cells_entries copies t rs) (below h.variables) ++ each (lock_entries t (whats_of rs)) (below h.locks)

unfoldable pub tail_entries : Counts → List Cached → List (ℕ × ℤ) → List Entry
tail_entries h copies rs = each (thread_entries h copies rs) (below h.threads)

-- ---- two rows with entries at their front

-- how many entries there are, and what the rows hold
pub record Filled : Type 0 where
  pub count : ℕ
  pub whats : List ℕ
  pub values : List ℤ

-- one entry more, where both have a place for it
unfoldable pub added_one : Entry → Filled → Filled
added_one e r = cond (ltb r.count (length r.whats) && ltb r.count (length r.values)) (record { count = suc r.count; whats = set r.whats r.count e.what; values = set r.values r.count e.value }) r

unfoldable pub added : List Entry → Filled → Filled
added [] r = r
added (e ∷ es) r = added es (added_one e r)

abbrev pub filled : ℕ → List ℕ → List ℤ → Filled
filled n ws xs = record { count = n; whats = ws; values = xs }
