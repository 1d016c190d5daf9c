-- The line of volatile variables is read back as their flags, and no event's line is taken for one.
use mathlib.Core.Path.{◌≡◌, refl, sym, ap, ◌∙◌}
use mathlib.Core.Bool.{Bool, true, false, false≢true}
use mathlib.Core.List.{List, [], ◌∷◌, ◌++◌, append_assoc}
use mathlib.Core.Logic.{⊎_elim}
use Prim.Native.Nat.{ℕ, suc, ◌≤◌, ◌<◌, ◌+◌}
use native.Mathlib.Omega.{arith}
use borrow.Author.Tests.{lt-ltb, le-leb, ne_eqb}
use lib.ListN.{length, get_or, set, replicate, length-append}
use lib.Seq.{set_at}
use Rattle.rules.specs.declared.Event.{Event}
use Rattle.rules.specs.Events.{letter, is_letter}
use Rattle.rules.specs.Limits.{full, no_volatiles}
use Rattle.lines.specs.Lines.{split_on}
use Rattle.lines.specs.Lines as lines
use Rattle.lines.proofs.PartLaws.{lt_or_le}
use Rattle.std.proofs.Common.{Some}
use Rattle.decimal.specs.Text.{word_row, word_value}
use Rattle.records.proofs.RecordLaws.{holds}
use Rattle.trace.specs.Trace.{volatiles_from, volatiles_of, begins_with_v}
use Rattle.trace.proofs.VolatileLaws.{Flags}
use Rattle.writer.specs.Text.{numbers_from, volatile_row, event_line, events_text}
use Rattle.writer.proofs.WriteLaws.{bare, event_text}
use Rattle.writer.proofs.NumberText.{natural_back}
use Rattle.writer.proofs.FieldText.{texts}
use Rattle.writer.proofs.EventBack.{row_fields}

-- The flags `ds` are read, and of `bs` the numbers are still to come; none of them is for a variable that is not declared.
flags_back : (v low : ℕ) (ds bs : List Bool) → v ≤ full.variables → low ≤ length ds → ((i : ℕ) → v ≤ length ds + i → get_or bs i false ≡ false)
    → volatiles_from v low (ds ++ replicate (length bs) false) (texts (numbers_from (length ds) bs)) ≡ Some (ds ++ bs)
unfolding volatiles_from texts numbers_from
flags_back v low ds [] h l w = refl
flags_back v low ds (false ∷ bs) h l w =
    let ds' = ds ++ (false ∷ []) in
    let n : length ds + 1 ≡ length ds' = omega (arith, length-append ds (false ∷ [])) in
    rw (n, sym (append_assoc ds (false ∷ []) (replicate (length bs) false)), sym (append_assoc ds (false ∷ []) bs))
    (flags_back v low ds' bs h (omega (arith, n)) (λ i k. w (suc i) (omega (arith, n))))
flags_back v low ds (true ∷ bs) h l w =
    let ds' = ds ++ (true ∷ []) in
    let n : length ds + 1 ≡ length ds' = omega (arith, length-append ds (true ∷ [])) in
    let z : length ds < v = ⊎_elim (λ k. k) (λ k. absurd (false≢true (sym (w 0 (omega arith))))) (lt_or_le (length ds) v) in
    let s : set (ds ++ (false ∷ replicate (length bs) false)) (length ds) true ≡ ds' ++ replicate (length bs) false =
    set_at ds false (replicate (length bs) false) true (length ds) refl ∙ sym (append_assoc ds (true ∷ []) (replicate (length bs) false)) in
    rw (natural_back (length ds) (omega arith), le-leb low (length ds) l, lt-ltb (length ds) v z, s, n)
    (flags_back v (length ds') ds' bs h (omega arith) (λ i k. w (suc i) (omega (arith, n))) ∙ ap Some (append_assoc ds (true ∷ []) bs))

-- the line of the numbers n and ns, which are those of the flags g
pub volatiles_back : (v : ℕ) (g : List Bool) (n : ℕ) (ns : List ℕ) → v ≤ full.variables → Flags v g → numbers_from 0 g ≡ n ∷ ns
    → volatiles_of v (split_on 32 (volatile_row (n ∷ ns))) ≡ Some g
unfolding volatiles_of texts lines.letter
volatiles_back v g n ns h w q =
    let l : 1 < suc (suc (length (texts ns))) = omega arith in
    let m : volatiles_from v 0 no_volatiles (texts (n ∷ ns)) ≡ Some g =
    (λ i. volatiles_from v 0 (replicate (sym w.size i) false) (texts (sym q i))) ∙ flags_back v 0 [] g h (omega arith) (λ i k. w.stray i (omega arith)) in
    ap (volatiles_of v) (row_fields 86 (n ∷ ns) (λ e. omega arith)) ∙ rw (lt-ltb 1 (suc (suc (length (texts ns)))) l) m

-- no number: no flag
numbers_none : (i : ℕ) (g : List Bool) → numbers_from i g ≡ [] → g ≡ replicate (length g) false
unfolding numbers_from
numbers_none i [] q = refl
numbers_none i (true ∷ g) q = absurd (let z : ◌≡◌ {A = ℕ} 0 1 = omega (arith, ap length q) in omega arith)
numbers_none i (false ∷ g) q = ap (λ (bs : List Bool). false ∷ bs) (numbers_none (i + 1) g q)

pub flags_none_back : (g : List Bool) → length g ≡ full.variables → numbers_from 0 g ≡ [] → g ≡ no_volatiles
flags_none_back g n q = numbers_none 0 g q ∙ ap (λ (k : ℕ). replicate k false) n

-- the first byte of an event's line is its letter, and V is none
first_letter : (e : Event) (u : List ℕ) → get_or (event_line e ++ u) 0 0 ≡ letter e.kind
unfolding word_row word_value
first_letter e u = by (bare (letter e.kind)) refl
  where
    by : (b : Bool) → bare (letter e.kind) ≡ b → get_or (event_line e ++ u) 0 0 ≡ letter e.kind
    by true q = rw (event_text e true q)
    by false q = rw (event_text e false q)

not_v : (x : ℕ) → is_letter x ≡ true → x ≡ 86 → ⊥
unfolding is_letter
not_v x k e = false≢true (ap is_letter (sym e) ∙ k)

pub events_begin : (es : List Event) → begins_with_v (events_text es) ≡ false
unfolding events_text
events_begin [] = refl
events_begin (e ∷ es) =
    let f = ap (λ (t : List ℕ). get_or t 0 0) (append_assoc (event_line e) (10 ∷ []) (events_text es)) ∙ first_letter e (10 ∷ events_text es) in
    ne_eqb _ 86 (λ q. not_v (letter e.kind) (holds e.kind).lettered (sym f ∙ q))
