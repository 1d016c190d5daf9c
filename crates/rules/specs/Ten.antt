-- The marking before waiting and notification: an event is one of the ten kinds of document 01, a line with another letter is none, K alone locks and N
-- alone unlocks, and no 29 and 30 stand in the rows. proofs/Ten.antt proves that a trace without Y, F and C is marked so.
use Rattle.std.specs.Prelude.{ℕ, suc, pred, Bool, false, not, cond, ◌&&◌, ◌||◌, List, [], ◌∷◌, ltb, length}
use Rattle.std.proofs.Math.Option.{Option}
use Rattle.rules.specs.declared.Event.{Event}
use Rattle.rules.specs.declared.Counts.{Counts}
use Rattle.rules.specs.Events.{A, B, K, L, N, P, R, S, U, W, letter, is, of}
use Rattle.rules.specs.Limits.{Limits}
use Rattle.rules.specs.Words.{last_at, first, by, reads}
use Rattle.rules.specs.Words as Earlier
use Rattle.rules.specs.Rules.{Words, rows_behind, row_in, first_broken, answer_with, Marked, mark_by, past_by}
use Rattle.rules.specs.Reading.{only_if, AllPass}

-- An event is one of ten kinds.
abbrev pub ten_letters : List ℕ
ten_letters = U ∷ A ∷ L ∷ S ∷ R ∷ W ∷ K ∷ N ∷ P ∷ B ∷ []

abbrev pub is_ten : Event → Bool
is_ten e = is ten_letters e

-- what a line is where an event of another kind is none: Y, F and C were 4
abbrev pub ten_line : Option Event → Option Event
ten_line = only_if is_ten

-- each of these lines that is an event is of one of the ten kinds
abbrev pub AllTen : List (Option Event) → Type 0
AllTen = AllPass is_ten

-- ---- the words, as they were

-- how many holds T has on the lock: one more with its K, one less with its N
unfoldable pub ten_depth : ℕ → ℕ → List Event → ℕ
ten_depth t l [] = 0
ten_depth t l (e ∷ es) = cond (by (K ∷ []) t l e) (suc (ten_depth t l es)) (cond (by (N ∷ []) t l e) (pred (ten_depth t l es)) (ten_depth t l es))

-- e is T's K, on whichever lock
unfoldable pub ten_locks : ℕ → Event → Bool
ten_locks t e = is (K ∷ []) e && of t e

-- the position of T's last K, on whichever lock; 0 is the start
unfoldable pub ten_last_lock : ℕ → List Event → ℕ
ten_last_lock t es = last_at (ten_locks t) es

-- Usable: since T's last K, on whichever lock (or the start), there is an A or B of V, or an L whose read came after that K.
unfoldable pub ten_usable : ℕ → ℕ → List Event → Bool
ten_usable t v [] = false
ten_usable t v (e ∷ es) =
    not (ten_locks t e)
    && (by (A ∷ B ∷ []) t v e || by (L ∷ []) t v e && ltb (ten_last_lock t es) (first (reads t v es)).position || ten_usable t v es)

-- as `words_of`; nobody waits
unfoldable pub ten_words_of : List Event → Words
ten_words_of es = record {
  events = length es;
  copy = λ t v. Earlier.copy t v es;
  fresh = λ t v. Earlier.fresh t v es;
  pending = λ t v. Earlier.pending t v es;
  announced = λ t v. Earlier.announced t v es;
  usable = λ t v. ten_usable t v es;
  reads = λ t v. Earlier.reads t v es;
  stores = λ t v. Earlier.stores t v es;
  last_write = λ t v. Earlier.last_write t v es;
  last_lock = λ t. ten_last_lock t es;
  depth = λ t l. ten_depth t l es;
  remembered = λ t l. 0;
  notified = λ t l. false;
  main = λ v. Earlier.main v es;
  after_load = λ t v. Earlier.after_load t v es;
  after_assign = λ t v. Earlier.after_assign t v es;
  loaded_read = λ t v. Earlier.loaded_read t v es;
  used_read = λ t v. Earlier.used_read t v es;
  last_assign = λ t v. Earlier.last_assign t v es;
}

-- ---- the marking, as it was

-- the first rule of its row that e breaks, where 26, 27 and 28 lead the rows; 0 where it breaks none. (Of the ten kinds K alone locks and N alone
-- unlocks.)
unfoldable pub ten_judge : Counts → Words → Event → ℕ
ten_judge h w e = first_broken (row_in (rows_behind (26 ∷ 27 ∷ 28 ∷ [])) (letter e.kind)) h w e

-- as `verdict`: 9 (25), 5, then the row
unfoldable pub ten_verdict : Limits → Counts → List Event → Event → ℕ
ten_verdict m h es e = answer_with m h (ten_words_of es) e (ten_judge h (ten_words_of es) e)

-- as `mark_read` and `past_read`
unfoldable pub mark_ten : Limits → Counts → List Event → List (Option Event) → Marked
mark_ten m h es rs = mark_by (ten_verdict m h) h es rs

unfoldable pub past_ten : Limits → Counts → List Event → List (Option Event) → List Event
past_ten m h es rs = past_by (ten_verdict m h) es rs
