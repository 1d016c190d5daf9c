-- An event that is written as its line is read back as it was.
use mathlib.Core.Path.{◌≡◌, refl, sym, ap, ◌∙◌}
use mathlib.Core.Bool.{Bool, true, false}
use mathlib.Core.List.{List, [], ◌∷◌, ◌++◌, append_assoc, append-nil}
use mathlib.Core.Option.{some}
use Prim.Native.Nat.{ℕ, ◌≤◌, ◌<◌}
use native.Mathlib.Omega.{arith}
use lib.Dec.{eqb}
use lib.IntN.{ℤ, pos}
use mir.Val.{SFits}
use Rattle.rules.specs.declared.Counts.{Counts}
use Rattle.rules.specs.declared.Event.{Event}
use Rattle.rules.specs.Events.{F, letter, place, capped, value, thread_of, is_letter, is_lock_letter, kind_of, event_with, subject}
use Rattle.rules.specs.Limits.{full, value_width, allowed}
use Rattle.rules.proofs.Bounds.{allowed_bounds, declared_bounds, subject_bound}
use Rattle.rules.proofs.Letters.{capped_low, capped_twice}
use Rattle.lines.specs.Lines.{split_on}
use Rattle.lines.specs.Lines as lines
use Rattle.decimal.specs.Decimal.{cap}
use Rattle.decimal.specs.Text.{natural_text, integer_text, row_text, word_row, word_value}
use Rattle.records.proofs.RecordLaws.{holds, kind_back}
use Rattle.events.specs.Events.{from_fields, line_of, event_in, event_of}
use Rattle.events.proofs.LineLaws.{not_end, not_space}
use Rattle.writer.specs.Text.{event_line, Declared}
use Rattle.writer.proofs.WriteLaws.{bare, event_text}
use Rattle.writer.proofs.NumberText.{natural_back, integer_back}
use Rattle.writer.proofs.FieldText.{Free, free_nil, free_cons, spaced, AllFree, none, more, split_spaced, free_spaced, texts, row_spaced, natural_free, integer_free, texts_free}

-- the fields of a line
pub row_fields : (k : ℕ) (ns : List ℕ) → (k ≡ 32 → ⊥) → split_on 32 (word_row (k ∷ []) ns) ≡ (k ∷ []) ∷ texts ns
unfolding word_row
row_fields k ns h =
    ap (λ (t : List ℕ). split_on 32 ((k ∷ []) ++ t)) (row_spaced ns)
    ∙ split_spaced (k ∷ []) (texts ns) (free_cons 32 k [] h (free_nil 32)) (texts_free 32 (omega arith) ns)

pub row_free : (k : ℕ) (ns : List ℕ) → (k ≡ 10 → ⊥) → Free 10 (word_row (k ∷ []) ns)
unfolding word_row
row_free k ns h = free_cons 10 k (row_text ns) h (rw (row_spaced ns) (free_spaced 10 (λ e. omega arith) (texts ns) (texts_free 10 (omega arith) ns)))

value_spaced : (k t v : ℕ) (x : ℤ) → word_value (k ∷ []) (t ∷ v ∷ []) x ≡ (k ∷ []) ++ spaced (natural_text t ∷ natural_text v ∷ integer_text x ∷ [])
unfolding word_value word_row row_text spaced
value_spaced k t v x =
    let a : List ℕ = 32 ∷ natural_text t in
    let b : List ℕ = 32 ∷ natural_text v in
    let c : List ℕ = 32 ∷ integer_text x in
    ap (λ (u : List ℕ). k ∷ u)
    (ap (λ (u : List ℕ). (a ++ u) ++ c) (append-nil b) ∙ append_assoc a b c ∙ ap (λ (u : List ℕ). a ++ (b ++ (32 ∷ u))) (sym (append-nil (integer_text x))))

value_free : (b : ℕ) → b < 45 → (t v : ℕ) (x : ℤ) → AllFree b (natural_text t ∷ natural_text v ∷ integer_text x ∷ [])
value_free b h t v x = more (natural_free b h t) (more (natural_free b h v) (more (integer_free b h x) none))

value_fields : (k t v : ℕ) (x : ℤ) → (k ≡ 32 → ⊥) → split_on 32 (word_value (k ∷ []) (t ∷ v ∷ []) x) ≡ (k ∷ []) ∷ natural_text t ∷ natural_text v ∷ integer_text x ∷ []
value_fields k t v x h =
    ap (split_on 32) (value_spaced k t v x)
    ∙ split_spaced (k ∷ []) (natural_text t ∷ natural_text v ∷ integer_text x ∷ []) (free_cons 32 k [] h (free_nil 32)) (value_free 32 (omega arith) t v x)

value_line_free : (k t v : ℕ) (x : ℤ) → (k ≡ 10 → ⊥) → Free 10 (word_value (k ∷ []) (t ∷ v ∷ []) x)
value_line_free k t v x h =
    rw (value_spaced k t v x)
    (free_cons 10 k (spaced (natural_text t ∷ natural_text v ∷ integer_text x ∷ [])) h
    (free_spaced 10 (λ e. omega arith) (natural_text t ∷ natural_text v ∷ integer_text x ∷ []) (value_free 10 (omega arith) t v x)))

-- ---- an event's line by its letter

-- the fields of a line with this letter
module _ (n k t v : ℕ) (ht : t ≤ cap) (hv : v ≤ cap) (l : is_letter k ≡ true) where
  lock_back : is_lock_letter k ≡ true → eqb k F ≡ false → event_of value_width n (word_row (k ∷ []) (t ∷ v ∷ [])) ≡ event_with n t (kind_of k v (pos 0))
  unfolding event_of line_of texts lines.letter
  lock_back q r = ap (λ (fs : List (List ℕ)). event_in n (from_fields value_width fs)) (row_fields k (t ∷ v ∷ []) (not_space k l)) ∙ rw (l, natural_back t ht, q, r, natural_back v hv)

  notify_back : (u : ℕ) → u ≤ cap → is_lock_letter k ≡ true → eqb k F ≡ true → event_of value_width n (word_value (k ∷ []) (t ∷ v ∷ []) (pos u)) ≡ event_with n t (kind_of k v (pos (capped u)))
  unfolding event_of line_of lines.letter integer_text
  notify_back u hu q r =
      ap (λ (fs : List (List ℕ)). event_in n (from_fields value_width fs)) (value_fields k t v (pos u) (not_space k l)) ∙ rw (l, natural_back t ht, q, r, natural_back v hv, natural_back u hu)

  value_back : (x : ℤ) → SFits value_width x → is_lock_letter k ≡ false → event_of value_width n (word_value (k ∷ []) (t ∷ v ∷ []) x) ≡ event_with n t (kind_of k v x)
  unfolding event_of line_of lines.letter
  value_back x f q =
      ap (λ (fs : List (List ℕ)). event_in n (from_fields value_width fs)) (value_fields k t v x (not_space k l)) ∙ rw (l, natural_back t ht, q, natural_back v hv, integer_back x f)

event_back : (e : Event) → e.thread < 255 → subject e < 255 → place e.kind < 255 → SFits value_width (value e.kind) → event_of value_width e.line (event_line e) ≡ some e
event_back e ht hs hv f = by (is_lock_letter k) refl (eqb k F) refl
  where
    k : ℕ
    k = letter e.kind

    p : ℕ
    p = place e.kind

    x : ℤ
    x = value e.kind

    made : (y : ℤ) → y ≡ x → event_with e.line e.thread (kind_of k p y) ≡ some e
    made y q = ap (event_with e.line e.thread) (ap (kind_of k p) q ∙ kind_back e.kind e.thread hs hv)

    by : (b : Bool) → is_lock_letter k ≡ b → (c : Bool) → eqb k F ≡ c → event_of value_width e.line (event_line e) ≡ some e
    by true q true r =
        let u = capped (thread_of x) in
        let z : pos u ≡ x = rw (q, r) at (holds e.kind).values in
        ap (event_of value_width e.line) (event_text e false (rw (q, r)) ∙ ap (word_value (k ∷ []) (e.thread ∷ p ∷ [])) (sym z))
        ∙ notify_back e.line k e.thread p (omega arith) (omega arith) (holds e.kind).lettered u (omega (arith, capped_low (thread_of x))) q r ∙ made (pos (capped u)) (ap pos (capped_twice (thread_of x)) ∙ z)
    by true q false r =
        ap (event_of value_width e.line) (event_text e true (rw (q, r))) ∙ lock_back e.line k e.thread p (omega arith) (omega arith) (holds e.kind).lettered q r
        ∙ made (pos 0) (rw (q, r) at (holds e.kind).values)
    by false q c r =
        ap (event_of value_width e.line) (event_text e false (rw q)) ∙ value_back e.line k e.thread p (omega arith) (omega arith) (holds e.kind).lettered x f q ∙ made x refl

-- Writing an event as its line and reading it back gives the event, for every declared event whose value is in range.
pub written_read : (h : Counts) (n : ℕ) (e : Event) → allowed full h ≡ true → Declared h n e → event_of value_width n (event_line e) ≡ some e
written_read h n e a d =
    let b = declared_bounds h e a d.known in
    ap (λ (i : ℕ). event_of value_width i (event_line e)) (sym d.at)
    ∙ event_back e (omega (arith, b)) (omega (arith, subject_bound h e d.known, allowed_bounds h a)) (omega (arith, b)) d.fits

-- an event's line holds no end of a line
pub event_free : (e : Event) → Free 10 (event_line e)
event_free e = by (bare (letter e.kind)) refl
  where
    n : letter e.kind ≡ 10 → ⊥
    n = not_end (letter e.kind) (holds e.kind).lettered

    by : (b : Bool) → bare (letter e.kind) ≡ b → Free 10 (event_line e)
    by true q = rw (event_text e true q) (row_free (letter e.kind) (e.thread ∷ place e.kind ∷ []) n)
    by false q = rw (event_text e false q) (value_line_free (letter e.kind) e.thread (place e.kind) (value e.kind) n)
