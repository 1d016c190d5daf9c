-- Entries are added one after the other; where both rows have places for all, they stand at the front.
use Prim.Native.Nat.{ℕ, suc, ◌+◌, ◌≤◌, ◌<◌}
use native.Mathlib.Omega.{arith}
use mathlib.Core.Path.{◌≡◌, refl, sym, ap, ◌∙◌, subst}
use mathlib.Core.Bool.{Bool, true, false, cond, ◌&&◌}
use mathlib.Core.List.{List, [], ◌∷◌, ◌++◌, map, map-append, append_assoc}
use lib.Dec.{ltb}
use lib.IntN.{ℤ}
use lib.ListN.{length, set, replicate, length-set, length-append}
use lib.Seq.{set-append_seam}
use Rattle.std.proofs.lemmas.List.{replicate-append-replicate}
use borrow.Author.Tests.{lt-ltb}
use Rattle.rules.specs.Memories.{below, each}
use Rattle.decimal.specs.Text.{over}
use Rattle.rules.proofs.From.{each_more}
use Rattle.finishing.specs.declared.Entry.{Entry}
use Rattle.finishing.specs.declared.Out.{Out}
use Rattle.finishing.specs.Computed.Parts.{Filled, filled, added_one, added}
use Rattle.finishing.specs.Computed.Filled.{filled_in, Adds}

pub added_append : (es fs : List Entry) (r : Filled) → added (es ++ fs) r ≡ added fs (added es r)
unfolding added
added_append [] fs r = refl
added_append (e ∷ es) fs r = added_append es fs (added_one e r)

-- the rows keep their lengths
pub record Long (r s : Filled) : Type 0 where
  pub whats : length s.whats ≡ length r.whats
  pub values : length s.values ≡ length r.values

one_long : (e : Entry) (r : Filled) → Long r (added_one e r)
unfolding added_one
one_long e r = go (ltb r.count (length r.whats) && ltb r.count (length r.values))
  where
    go : (b : Bool) → Long r (cond b (filled (suc r.count) (set r.whats r.count e.what) (set r.values r.count e.value)) r)
    go true = record { whats = length-set r.whats r.count e.what; values = length-set r.values r.count e.value }
    go false = record { whats = refl; values = refl }

pub added_long : (es : List Entry) (r : Filled) → Long r (added es r)
unfolding added
added_long [] r = record { whats = refl; values = refl }
added_long (e ∷ es) r =
    let a = one_long e r in
    let b = added_long es (added_one e r) in
    record { whats = b.whats ∙ a.whats; values = b.values ∙ a.values }

-- ---- of the functions

pub adds_none : (o : Out) → Adds [] o o
unfolding added
adds_none o = record { puts = refl; same_whats = refl; same_values = refl }

pub adds_then : {es fs : List Entry} {o o' o'' : Out} → Adds es o o' → Adds fs o' o'' → Adds (es ++ fs) o o''
adds_then {es = es} {fs = fs} {o = o} a b = record {
  puts = b.puts ∙ ap (added fs) a.puts ∙ sym (added_append es fs (filled_in o));
  same_whats = b.same_whats ∙ a.same_whats;
  same_values = b.same_values ∙ a.same_values;
}

-- both rows are as long as before
pub adds_long : {es : List Entry} {o o' : Out} → Adds es o o' → (length o'.whats.now ≡ length o.whats.now) × (length o'.values.now ≡ length o.values.now)
adds_long {es = es} {o = o} a =
    let l = added_long es (filled_in o) in
    (ap (λ (q : Filled). length q.whats) a.puts ∙ l.whats, ap (λ (q : Filled). length q.values) a.puts ∙ l.values)

-- another way to say which entries
pub adds_same : {es fs : List Entry} {o o' : Out} → es ≡ fs → Adds es o o' → Adds fs o o'
adds_same {o = o} q a = record {
  puts = a.puts ∙ ap (λ (l : List Entry). added l (filled_in o)) q;
  same_whats = a.same_whats;
  same_values = a.same_values;
}

-- one entry, with a place in both rows, and with none in one of them
pub one_put : (e : Entry) (n : ℕ) (ws : List ℕ) (xs : List ℤ) → n < length ws → n < length xs → filled (n + 1) (set ws n e.what) (set xs n e.value) ≡ added (e ∷ []) (filled n ws xs)
unfolding added added_one
one_put e n ws xs a b = let z : n + 1 ≡ suc n = omega arith in rw (lt-ltb n (length ws) a, lt-ltb n (length xs) b) (ap (λ (k : ℕ). filled k (set ws n e.what) (set xs n e.value)) z)

pub none_put : (e : Entry) (n : ℕ) (ws : List ℕ) (xs : List ℤ) → (ltb n (length ws) && ltb n (length xs)) ≡ false → filled n ws xs ≡ added (e ∷ []) (filled n ws xs)
unfolding added added_one
none_put e n ws xs q = rw q refl

-- ---- all of them

set_behind : {A : Type 0} (p : List A) (x y : A) (xs : List A) → set (p ++ (x ∷ xs)) (length p) y ≡ (p ++ (y ∷ [])) ++ xs
set_behind p x y xs = set-append_seam p x xs y ∙ sym (append_assoc p (y ∷ []) xs)

one_behind : (e : Entry) (p : List ℕ) (q : List ℤ) (w : ℕ) (ws : List ℕ) (x : ℤ) (xs : List ℤ) → length p ≡ length q
    → added_one e (filled (length p) (p ++ (w ∷ ws)) (q ++ (x ∷ xs))) ≡ filled (length (p ++ (e.what ∷ []))) ((p ++ (e.what ∷ [])) ++ ws) ((q ++ (e.value ∷ [])) ++ xs)
unfolding added_one
one_behind e p q w ws x xs l =
    let c : length p < length (p ++ (w ∷ ws)) = omega (arith, length-append p (w ∷ ws)) in
    let d : length p < length (q ++ (x ∷ xs)) = omega (arith, length-append q (x ∷ xs), l) in
    let f : suc (length p) ≡ length (p ++ (e.what ∷ [])) = omega (arith, length-append p (e.what ∷ [])) in
    rw (lt-ltb (length p) (length (p ++ (w ∷ ws))) c, lt-ltb (length p) (length (q ++ (x ∷ xs))) d)
    (λ i. filled (f i) (set_behind p w e.what ws i) ((ap (λ (n : ℕ). set (q ++ (x ∷ xs)) n e.value) l ∙ set_behind q x e.value xs) i))

behind : (es : List Entry) (p : List ℕ) (q : List ℤ) (ws : List ℕ) (xs : List ℤ) → length p ≡ length q → length es ≤ length ws → length es ≤ length xs
    → added es (filled (length p) (p ++ ws) (q ++ xs)) ≡ filled (length p + length es) (p ++ over (map (λ (e : Entry). e.what) es) ws) (q ++ over (map (λ (e : Entry). e.value) es) xs)
unfolding added
behind [] p q ws xs l a b = let z : length p ≡ length p + 0 = omega arith in ap (λ (n : ℕ). filled n (p ++ ws) (q ++ xs)) z
behind (e ∷ es) p q [] xs l a b = absurd (omega arith)
behind (e ∷ es) p q (w ∷ ws) [] l a b = absurd (omega arith)
behind (e ∷ es) p q (w ∷ ws) (x ∷ xs) l a b =
    let g : length (p ++ (e.what ∷ [])) ≡ length (q ++ (e.value ∷ [])) = omega (arith, length-append p (e.what ∷ []), length-append q (e.value ∷ []), l) in
    let k : length (p ++ (e.what ∷ [])) + length es ≡ length p + suc (length es) = omega (arith, length-append p (e.what ∷ [])) in
    ap (added es) (one_behind e p q w ws x xs l)
    ∙ behind es (p ++ (e.what ∷ [])) (q ++ (e.value ∷ [])) ws xs g (omega arith) (omega arith)
    ∙ (λ i. filled (k i) (append_assoc p (e.what ∷ []) (over (map (λ (e : Entry). e.what) es) ws) i) (append_assoc q (e.value ∷ []) (over (map (λ (e : Entry). e.value) es) xs) i))

pub added_all : (es : List Entry) (ws : List ℕ) (xs : List ℤ) → length es ≤ length ws → length es ≤ length xs
    → added es (filled 0 ws xs) ≡ filled (length es) (over (map (λ (e : Entry). e.what) es) ws) (over (map (λ (e : Entry). e.value) es) xs)
added_all es ws xs a b = let z : 0 + length es ≡ length es = omega arith in behind es [] [] ws xs refl a b ∙ ap (λ (k : ℕ). filled k (over (map (λ (e : Entry). e.what) es) ws) (over (map (λ (e : Entry). e.value) es) xs)) z

-- ---- loops

-- the same entry once more
pub adds_again : {e : Entry} {o o' o'' : Out} (i : ℕ) → Adds (replicate i e) o o' → Adds (e ∷ []) o' o'' → Adds (replicate (i + 1) e) o o''
adds_again {e = e} i a b = adds_same (replicate-append-replicate i 1 e) (adds_then a b)

-- the entry of the next item
pub adds_more : {A : Type 0} (f : A → Entry) (xs : List A) (x : A) {o o' o'' : Out} → Adds (map f xs) o o' → Adds (f x ∷ []) o' o'' → Adds (map f (xs ++ (x ∷ []))) o o''
adds_more f xs x a b = adds_same (sym (map-append f xs (x ∷ []))) (adds_then a b)

-- what the next number asks for
pub adds_next : (f : ℕ → List Entry) (v : ℕ) {o o' o'' : Out} → Adds (each f (below v)) o o' → Adds (f v) o' o'' → Adds (each f (below (v + 1))) o o''
adds_next f v a b = adds_same (sym (each_more f v)) (adds_then a b)

pub adds_end : (f : ℕ → List Entry) (v n : ℕ) {o o' : Out} → v ≡ n → Adds (each f (below v)) o o' → Adds (each f (below n)) o o'
adds_end f v n q a = adds_same (ap (λ (k : ℕ). each f (below k)) q) a

pub adds_start : (f : ℕ → List Entry) (o : Out) → Adds (each f (below 0)) o o
unfolding each below
adds_start f o = adds_none o

-- the event with a value, where the value is said in another way
pub adds_entry : (f : ℤ → Entry) {x y : ℤ} {e : Entry} {o o' : Out} → e ≡ f x → x ≡ y → Adds (e ∷ []) o o' → Adds (f y ∷ []) o o'
adds_entry f a b d = adds_same (ap (λ (e : Entry). e ∷ []) (a ∙ ap f b)) d

-- another way to say what the rows hold then
pub adds_to : {es : List Entry} {o o' o'' : Out} → o'' ≡ o' → Adds es o o' → Adds es o o''
adds_to {es = es} {o = o} q a = subst (Adds es o) (sym q) a
