-- Document 02 (a), what 23 is for: "Refuse the event that leaves T an outstanding read of V which can never be loaded".
-- proofs/DeadReads.antt proves that 23 is said of no other events, and on a variable that is not volatile, of a thread that does not wait, of all of
-- these that break no other rule.
use Rattle.std.specs.Prelude.{ℕ, suc, ◌≤◌, ◌<◌, ◌≡◌, cond, List, [], ◌∷◌, ◌++◌, T, eqb, length}
use Rattle.rules.specs.declared.Event.{Event}
use Rattle.rules.specs.declared.Counts.{Counts}
use Rattle.rules.specs.Events.{L, letter}
use Rattle.rules.specs.Words.{count, by, reads, pending}
use Rattle.rules.specs.Rules.{Words, rows, row_in, first_broken, legal_by, legal}

-- these numbers without n
unfoldable pub except : ℕ → List ℕ → List ℕ
except n [] = []
except n (k ∷ ks) = cond (eqb k n) (except n ks) (k ∷ except n ks)

-- the first rule of its row that e breaks, the rule n left aside; 0 where it breaks none
unfoldable pub judge_but : ℕ → Counts → Words → Event → ℕ
judge_but n h w e = first_broken (except n (row_in rows (letter e.kind))) h w e

-- T has an outstanding read of V which can never be loaded. The events es go by the other rules. Reads are loaded in their order; whatever
-- events go on from es by the other rules, no more loads come than there are outstanding reads before this one.
pub record Dead (h : Counts) (t v : ℕ) (es : List Event) : Type 0 where
  pub goes : T (legal_by (judge_but 23) h es)
  pub before : ℕ
  pub outstanding : before < length (reads t v es)
  pub never : (more : List Event) → T (legal_by (judge_but 23) h (more ++ es)) → count (by (L ∷ []) t v) more ≤ before

-- how many events load the outstanding reads of T on V: a load for each, and B before them where V is owed
unfoldable pub loads_of : ℕ → ℕ → List Event → ℕ
loads_of t v es = cond (pending t v es) (suc (length (reads t v es))) (length (reads t v es))

-- Each outstanding read of T on V may yet be loaded: at most n events go on from es by all rules, the limit of events set aside, and load them all.
pub record Loadable (h : Counts) (t v n : ℕ) (es : List Event) : Type 0 where
  pub more : List Event
  pub goes : T (legal h (more ++ es))
  pub loads : count (by (L ∷ []) t v) more ≡ length (reads t v es)
  pub few : length more ≤ n
