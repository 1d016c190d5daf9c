-- What the contract of a sheet says in each case, and whose verdict each number is.
use Prim.Native.Nat.{ℕ, zero, suc, ◌≤◌, ◌<◌}
use native.Mathlib.Omega.{arith}
use mathlib.Core.Path.{◌≡◌, refl, sym, ap, ◌∙◌}
use mathlib.Core.List.{List, [], ◌∷◌}
use borrow.Author.Tests.{lt-ltb, le-ltb}
use lib.IntN.{ℤ}
use lib.ListN.{length, get_or, take, drop}
use lib.Seq.{take-append_seam, drop-append_seam}
use Rattle.std.specs.Prelude.{Result}
use Rattle.rules.specs.declared.Refusal.{Refusal}
use Rattle.rules.specs.Limits.{Limits, full}
use Rattle.rules.specs.Rules.{refused, told, said, number_in}
use Rattle.decimal.specs.Text.{over}
use Rattle.marking.specs.declared.Marking.{Marking}
use Rattle.marking.specs.Marking.{Marks}
use Rattle.listing.specs.Listing.{refused_line, text_of}
use Rattle.session.specs.declared.Session.{Session}
use Rattle.session.specs.Sheet.{Sheet, turned_away, sheet_of}
use Rattle.session.specs.Counting.{numbers_of, times}
use Rattle.session.specs.Session.{sheet_lines, sheet_text, session_with, too_little, Sessions}

-- each number is that of the verdict which `marking::mark` gives of the trace alone
pub own_verdict : (m : Limits) (ts : List (List ℕ)) (k : ℕ) → k < length ts → (whats : List ℕ) (values : List ℤ) (r : Result Marking Refusal) (whats' : List ℕ) (values' : List ℤ)
    → Marks m (get_or ts k []) whats values r whats' values' → get_or (numbers_of m ts) k 0 ≡ number_in (told r)
unfolding numbers_of
own_verdict m [] k h whats values r whats' values' w = absurd (omega arith)
own_verdict m (t ∷ ts) zero h whats values r whats' values' w = ap number_in (sym w.says)
own_verdict m (t ∷ ts) (suc k) h whats values r whats' values' w = own_verdict m ts k (omega arith) whats values r whats' values' w

module _ (m : Limits) (s out : List ℕ) (r : Session) (out' : List ℕ) (w : Sessions m s out r out') where
  -- after 7 nothing else is said, and the output is untouched
  pub after_7 : length out < full.output → (r ≡ too_little) × (out' ≡ out)
  after_7 h =
      let e = lt-ltb (length out) full.output h in
      (w.says ∙ rw e refl, w.prints ∙ rw e refl)

  module _ (lent : full.output ≤ length out) where
    printed : out' ≡ over (sheet_text m s) out
    printed = w.prints ∙ rw (le-ltb (length out) full.output lent) refl

    -- the text lies at the front of the output, and past it the output is untouched
    pub front_text : take (length (sheet_text m s)) out' ≡ sheet_text m s
    front_text = ap (take (length (sheet_text m s))) printed ∙ take-append_seam (sheet_text m s) (drop (length (sheet_text m s)) out)

    pub past_text : drop (length (sheet_text m s)) out' ≡ drop (length (sheet_text m s)) out
    past_text = ap (drop (length (sheet_text m s))) printed ∙ drop-append_seam (sheet_text m s) (drop (length (sheet_text m s)) out)

    -- after 1 and 31 nothing but the refusal is said and printed
    pub refused_alone : (n : ℕ) → sheet_of s ≡ turned_away n
        → (r ≡ record { verdict = said (refused n 0); traces = 0; accepted = 0; written = length (text_of (refused_line 0 n ∷ [])) }) × (sheet_text m s ≡ text_of (refused_line 0 n ∷ []))
    unfolding sheet_text numbers_of times
    refused_alone n e =
        (w.says ∙ rw (le-ltb (length out) full.output lent) refl ∙ ap (session_with m) e, ap (λ (q : Sheet). text_of (sheet_lines m q)) e)
