-- A legal list of events: each event is declared, and breaks no rule of its row.
use Prim.Native.Nat.{◌<◌}
use mathlib.Core.Path.{◌≡◌, sym, subst}
use mathlib.Core.Bool.{Bool, true, false, cond, ◌&&◌}
use mathlib.Core.List.{List, [], ◌∷◌}
use lib.Dec.{T, ltb}
use borrow.Author.Tests.{ltb-true}
use Rattle.rules.specs.declared.Event.{Event}
use Rattle.rules.specs.declared.Counts.{Counts}
use Rattle.rules.specs.Events.{subject, on_lock}
use Rattle.rules.specs.Limits.{declared}
use Rattle.rules.specs.Rules.{loc, words_of, judge, legal}
use Rattle.rules.proofs.Laws.{is_true, and_left, and_right, legal_known, legal_row, legal_before}
use Rattle.rules.proofs.Simulation.{Paired, paired_legal}
use Rattle.serial.specs.Lists.{All}

abbrev pub Valid : Counts → List Event → Type 0
Valid h es = T (legal h es)

pub before : (h : Counts) (e : Event) (es : List Event) → Valid h (e ∷ es) → Valid h es
before h e es a = legal_before h e es a

pub row : (h : Counts) (e : Event) (es : List Event) → Valid h (e ∷ es) → judge h (words_of es) e ≡ 0
row h e es a = legal_row h e es a

pub pairs : (h : Counts) (es : List Event) → Valid h es → Paired es
pairs h es a = paired_legal h es a

-- the thread of an event is declared, and its lock or variable
abbrev pub Declared : Counts → Event → Type 0
Declared h e = (e.thread < h.threads) × (loc e < cond (on_lock e) h.locks h.variables)

pub lock_low : (h : Counts) (e : Event) → Declared h e → on_lock e ≡ true → loc e < h.locks
lock_low h e d q = rw q at d.1

pub variable_low : (h : Counts) (e : Event) → Declared h e → on_lock e ≡ false → loc e < h.variables
variable_low h e d q = rw q at d.1

pub to_declared : (h : Counts) (e : Event) → declared h e ≡ true → Declared h e
unfolding declared
to_declared h e p = (ltb-true _ _ (is_true (and_left own (about && low) t)), ltb-true _ _ (is_true (and_right about low (and_right own (about && low) t))))
  where
    own : Bool
    own = ltb e.thread h.threads

    about : Bool
    about = ltb (subject e) h.threads

    low : Bool
    low = ltb (loc e) (cond (on_lock e) h.locks h.variables)

    t : T (own && (about && low))
    t = subst T (sym p) tt

pub all_declared : (h : Counts) (es : List Event) → Valid h es → All (Declared h) es
all_declared h [] a = tt
all_declared h (e ∷ es) a = (to_declared h e (legal_known h e es a), all_declared h es (before h e es a))
