-- Marking does not see that a record holds threads and place at 255: an event that is declared is kept as it is, and another is refused with the
-- same number.
use Prim.Native.Nat.{ℕ, zero, suc, ◌≤◌, ◌<◌}
use native.Mathlib.Decide.{dec_lt}
use native.Mathlib.Omega.{arith}
use mathlib.Core.Path.{◌≡◌, refl, sym, ap, ap₂, ◌∙◌, subst}
use mathlib.Core.Bool.{Bool, true, false, cond, ◌&&◌}
use mathlib.Core.List.{List, [], ◌∷◌, map}
use mathlib.Core.Option.{Option, none, some}
use lib.Dec.{ltb, leb}
use lib.ListN.{length}
use borrow.Author.Tests.{le-ltb}
use Rattle.rules.specs.declared.Event.{Event}
use Rattle.rules.specs.declared.Counts.{Counts}
use Rattle.rules.specs.Events.{C, F, K, N, Y, place, capped, subject, is, among, on_lock}
use Rattle.rules.specs.Limits.{Limits, full, line_after, allowed, declared}
use Rattle.rules.specs.Rules.{Marked, refused, words_of, answer, verdict, unless, mark_read, passing, past_read}
use Rattle.rules.proofs.Bounds.{allowed_bounds, declared_bounds, subject_bound}
use Rattle.rules.proofs.Letters.{capped_same, capped_over}
use Rattle.records.specs.Records.{packed, value_in, row_lines}
use Rattle.records.proofs.RowLaws.{Numbered, lines_held}
use Rattle.records.proofs.RecordLaws.{holds, held_event, held_event_law}

-- a line with its event held
abbrev pub held_line : Option Event → Option Event
held_line none = none
held_line (some e) = some (held_event e)

-- a count that is allowed does not reach 255
held_below : (n c : ℕ) → c ≤ 255 → ltb (capped n) c ≡ ltb n c
held_below n c h = go (dec_lt n 255)
  where
    go : Dec (n < 255) → ltb (capped n) c ≡ ltb n c
    go (yes q) = ap (λ (i : ℕ). ltb i c) (capped_same n q)
    go (no q) =
        let z : 255 ≤ n = omega (arith, q) in
        le-ltb (capped n) c (omega (arith, capped_over n z)) ∙ sym (le-ltb n c (omega arith))

module _ (h : Counts) (a : allowed full h ≡ true) where
  on_held : (e : Event) → on_lock (held_event e) ≡ on_lock e
  unfolding on_lock is held_event
  on_held e = ap (among (K ∷ N ∷ Y ∷ F ∷ C ∷ [])) (holds e.kind).letters

  pub declared_held : (e : Event) → declared h (held_event e) ≡ declared h e
  unfolding declared held_event
  declared_held e =
      ap₂ (λ (x y : Bool). x && y) (held_below e.thread h.threads threads)
      (ap₂ (λ (x y : Bool). x && y) (ap (λ (s : ℕ). ltb s h.threads) ((holds e.kind).subjects e.thread) ∙ held_below (subject e) h.threads threads)
      ((λ i. ltb ((holds e.kind).places i) (cond (on_held e i) h.locks h.variables)) ∙ held_below (place e.kind) (cond (on_lock e) h.locks h.variables) (most (on_lock e))))
    where
      threads : h.threads ≤ 255
      threads = omega (arith, allowed_bounds h a)

      most : (o : Bool) → cond o h.locks h.variables ≤ 255
      most true = omega (arith, allowed_bounds h a)
      most false = omega (arith, allowed_bounds h a)

  module _ (m : Limits) (x : 0 < m.excess) where
    -- an event that is not declared is refused
    stopped : (past : List Event) (e : Event) → declared h e ≡ false → verdict m h past e ≡ cond (leb m.events (length past)) m.excess 5
    unfolding verdict answer words_of
    stopped past e d = rw d

    -- two events that are not declared are refused alike
    record Alike (past : List Event) (e e' : Event) : Type 0 where
      same : verdict m h past e' ≡ verdict m h past e
      wrong : 0 < verdict m h past e

    alike : (past : List Event) (e : Event) → declared h e ≡ false → Alike past e (held_event e)
    alike past e d = record {
      same = stopped past (held_event e) (declared_held e ∙ d) ∙ sym (stopped past e d);
      wrong = subst (λ (n : ℕ). 0 < n) (sym (stopped past e d)) (positive (leb m.events (length past)));
    }
      where
        positive : (b : Bool) → 0 < cond b m.excess 5
        positive true = x
        positive false = omega arith

    -- an event that is declared is kept
    kept : (e : Event) → declared h e ≡ true → held_event e ≡ e
    kept e d =
        let b = declared_bounds h e a d in
        held_event_law e (omega (arith, b)) (omega (arith, subject_bound h e d, allowed_bounds h a)) (omega (arith, b))

    -- what is read line by line up to the first refusal does not see it
    module _ {X : Type 0} (read : List Event → List (Option Event) → X) (stop : ℕ → List Event → X)
        (ends : (past : List Event) (ls ls' : List (Option Event)) → read past (none ∷ ls) ≡ read past (none ∷ ls'))
        (goes : (past : List Event) (e : Event) (ls : List (Option Event)) → read past (some e ∷ ls) ≡ passing (verdict m h past e) (stop (verdict m h past e) past) (read (e ∷ past) ls)) where
      stop_same : (n n' : ℕ) (past : List Event) (r r' : X) → n' ≡ n → 0 < n → passing n' (stop n' past) r' ≡ passing n (stop n past) r
      stop_same zero n' past r r' q p = absurd (omega arith)
      stop_same (suc n) n' past r r' q p = rw q

      read_held : (past : List Event) (ls : List (Option Event)) → read past (map held_line ls) ≡ read past ls
      read_held past [] = refl
      read_held past (none ∷ ls) = ends past (map held_line ls) ls
      read_held past (some e ∷ ls) = go (declared h e) refl (read_held (e ∷ past) ls)
        where
          go : (b : Bool) → declared h e ≡ b → read (e ∷ past) (map held_line ls) ≡ read (e ∷ past) ls → read past (some (held_event e) ∷ map held_line ls) ≡ read past (some e ∷ ls)
          go true d r =
              ap (λ (f : Event). read past (some f ∷ map held_line ls)) (kept e d) ∙ goes past e (map held_line ls)
              ∙ ap (passing (verdict m h past e) (stop (verdict m h past e) past)) r ∙ sym (goes past e ls)
          go false d r =
              let w = alike past e d in
              goes past (held_event e) (map held_line ls)
              ∙ stop_same (verdict m h past e) (verdict m h past (held_event e)) past (read (e ∷ past) ls) (read (held_event e ∷ past) (map held_line ls)) w.same w.wrong
              ∙ sym (goes past e ls)

    unless_passing : (n line : ℕ) (r : Marked) → unless n line r ≡ passing n (refused n line) r
    unless_passing zero line r = refl
    unless_passing (suc n) line r = refl

    pub marks_held : (past : List Event) (ls : List (Option Event)) → mark_read m h past (map held_line ls) ≡ mark_read m h past ls
    unfolding mark_read
    marks_held =
        read_held (mark_read m h) (λ n past. refused n (line_after h (length past))) (λ past ls ls'. refl)
        (λ past e ls. unless_passing (verdict m h past e) (line_after h (length past)) (mark_read m h (e ∷ past) ls))

    pub past_held : (past : List Event) (ls : List (Option Event)) → past_read m h past (map held_line ls) ≡ past_read m h past ls
    unfolding past_read
    past_held = read_held (past_read m h) (λ n past. past) (λ past ls ls'. refl) (λ past e ls. refl)

    -- the rows of events that stand in their lines are marked as the events are
    module _ (es : List Event) (k : Numbered h 0 es) where
      lines : row_lines h (map packed es) (map value_in es) ≡ map held_line (map some es)
      lines = lines_held h es k ∙ same es
        where
          same : (l : List Event) → map some (map held_event l) ≡ map held_line (map some l)
          same [] = refl
          same (e ∷ l) = ap (λ (ls : List (Option Event)). some (held_event e) ∷ ls) (same l)

      pub row_marks : mark_read m h [] (row_lines h (map packed es) (map value_in es)) ≡ mark_read m h [] (map some es)
      row_marks = ap (mark_read m h []) lines ∙ marks_held [] (map some es)

      pub row_past_law : past_read m h [] (row_lines h (map packed es) (map value_in es)) ≡ past_read m h [] (map some es)
      row_past_law = ap (past_read m h []) lines ∙ past_held [] (map some es)
