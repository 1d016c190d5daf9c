-- Lines of which the events that pass a test alone are events: marked the same, or 4 at the first event that fails it.
use Prim.Native.Nat.{ℕ, zero, suc, ◌+◌}
use native.Mathlib.Omega.{arith}
use mathlib.Core.Path.{◌≡◌, refl, sym, ap, ◌∙◌, subst}
use mathlib.Core.Bool.{Bool, true, false, cond, false≢true}
use mathlib.Core.List.{List, [], ◌∷◌, ◌++◌, map, reverse_aux}
use mathlib.Core.Logic.{◌⊎◌, inl, inr}
use mathlib.Core.Option.{Option, none, some}
use lib.ListN.{length, get_or, take}
use Rattle.rules.specs.declared.Event.{Event}
use Rattle.rules.specs.declared.Counts.{Counts}
use Rattle.rules.specs.Limits.{line_after}
use Rattle.rules.specs.Rules.{refused, mark_by, passing, past_by}
use Rattle.rules.specs.Reading.{only_if, AllPass}

module _ (p : Event → Bool) where
  -- lines whose events pass are the same
  pub all_pass : (rs : List (Option Event)) → AllPass p rs → map (only_if p) rs ≡ rs
  all_pass [] a = refl
  all_pass (none ∷ rs) a = ap (λ (ls : List (Option Event)). none ∷ ls) (all_pass rs a)
  all_pass (some e ∷ rs) a = rw a.0 (ap (λ (ls : List (Option Event)). some e ∷ ls) (all_pass rs a.1))

  pub only_pass : (rs : List (Option Event)) → AllPass p (map (only_if p) rs)
  only_pass [] = tt
  only_pass (none ∷ rs) = only_pass rs
  only_pass (some e ∷ rs) = by (p e) refl (only_pass rs)
    where
      by : (b : Bool) → p e ≡ b → AllPass p (map (only_if p) rs) → AllPass p (cond b (some e) none ∷ map (only_if p) rs)
      by true q a = (q, a)
      by false q a = a

  -- a line among the first k + 1, if it is an event, passes
  pub pass_at : (k : ℕ) (rs : List (Option Event)) (e : Event) → AllPass p (take (suc k) rs) → get_or rs k none ≡ some e → p e ≡ true
  pass_at k [] e a q = absurd (let z : ◌≡◌ {A = ℕ} 0 1 = cc in omega arith)
  pass_at zero (none ∷ rs) e a q = absurd (let z : ◌≡◌ {A = ℕ} 0 1 = cc in omega arith)
  pass_at zero (some d ∷ rs) e a q = let z : d ≡ e = cc in ap p (sym z) ∙ a.0
  pass_at (suc k) (none ∷ rs) e a q = pass_at k rs e a q
  pass_at (suc k) (some d ∷ rs) e a q = pass_at k rs e a.1 q

  -- the events before the first refusal pass, whatever refuses them
  pub past_pass : (f : List Event → Event → ℕ) (es : List Event) (rs : List (Option Event)) → AllPass p (map some es) → AllPass p (map some (past_by f es (map (only_if p) rs)))
  past_pass f es [] a = a
  past_pass f es (none ∷ rs) a = a
  past_pass f es (some e ∷ rs) a = by (p e) refl (λ q. past_pass f (e ∷ es) rs (q, a))
    where
      by : (b : Bool) → p e ≡ b → (p e ≡ true → AllPass p (map some (past_by f (e ∷ es) (map (only_if p) rs)))) → AllPass p (map some (past_by f es (cond b (some e) none ∷ map (only_if p) rs)))
      by true q r = on (f es e)
        where
          on : (k : ℕ) → AllPass p (map some (passing k es (past_by f (e ∷ es) (map (only_if p) rs))))
          on zero = r q
          on (suc k) = a
      by false q r = a

  -- and so they do in their own order
  pub pass_turned : (es rest : List Event) → AllPass p (map some es) → AllPass p (map some rest) → AllPass p (map some (reverse_aux es rest))
  pass_turned [] rest a b = b
  pass_turned (e ∷ es) rest a b = pass_turned es (e ∷ rest) a.1 (a.0, b)

-- f refuses an event after those before it in the narrower marking, to which an event that fails the test is none; g refuses it in the other
module _ (p : Event → Bool) (f g : List Event → Event → ℕ) (h : Counts) where
  -- The lines that are marked, up to the one that is refused, pass, and they are marked the same after the same events.
  pub record Same (es : List Event) (rs : List (Option Event)) : Type 0 where
    pub narrow_marked : mark_by f h es (map (only_if p) rs) ≡ mark_by g h es rs
    pub narrow_past : past_by f es (map (only_if p) rs) ≡ past_by g es rs
    pub fitting : (k : ℕ) → length (past_by g es rs) ≡ k + length es → AllPass p (take (suc k) rs)

  -- After accepted events comes one that fails: the narrower marking ends there with 4, and the other goes on with it.
  pub record Wider (es : List Event) (rs : List (Option Event)) : Type 0 where
    pub earlier : List Event
    pub event : Event
    pub rest : List (Option Event)
    pub lines : rs ≡ map some earlier ++ (some event ∷ rest)
    pub fitting : AllPass p (map some earlier)
    pub outside : p event ≡ false
    pub narrow_marked : mark_by f h es (map (only_if p) rs) ≡ refused 4 (line_after h (length (reverse_aux earlier es)))
    pub narrow_past : past_by f es (map (only_if p) rs) ≡ reverse_aux earlier es
    pub marked : mark_by g h es rs ≡ mark_by g h (reverse_aux earlier es) (some event ∷ rest)
    pub past : past_by g es rs ≡ past_by g (reverse_aux earlier es) (some event ∷ rest)

  -- f and g refuse the same after events of which Q holds
  module _ (Q : List Event → Type 0) (grows : (e : Event) (es : List Event) → p e ≡ true → Q es → Q (e ∷ es)) (alike : (es : List Event) (e : Event) → Q es → p e ≡ true → f es e ≡ g es e) where
    pub fewer_marked : (es : List Event) (rs : List (Option Event)) → Q es → Same es rs ⊎ Wider es rs
    fewer_marked es [] c = inl (record { narrow_marked = refl; narrow_past = refl; fitting = λ k q. tt })
    fewer_marked es (none ∷ rs) c = inl (record { narrow_marked = refl; narrow_past = refl; fitting = ends })
      where
        ends : (k : ℕ) → length es ≡ k + length es → AllPass p (take (suc k) (none ∷ rs))
        ends zero q = tt
        ends (suc k) q = absurd (omega arith)
    fewer_marked es (some e ∷ rs) c = by (p e) refl (g es e) refl (λ q. fewer_marked (e ∷ es) rs (grows e es q c))
      where
        by : (b : Bool) → p e ≡ b → (n : ℕ) → g es e ≡ n → (p e ≡ true → Same (e ∷ es) rs ⊎ Wider (e ∷ es) rs) → Same es (some e ∷ rs) ⊎ Wider es (some e ∷ rs)
        by true q zero v r = go (r q)
          where
            go : Same (e ∷ es) rs ⊎ Wider (e ∷ es) rs → Same es (some e ∷ rs) ⊎ Wider es (some e ∷ rs)
            go (inl s) = inl (record { narrow_marked = rw (q, alike es e c q, v) s.narrow_marked; narrow_past = rw (q, alike es e c q, v) s.narrow_past; fitting = more })
              where
                more : (k : ℕ) → length (past_by g es (some e ∷ rs)) ≡ k + length es → AllPass p (take (suc k) (some e ∷ rs))
                more zero z = (q, tt)
                more (suc k) z = (q, s.fitting k (rw v at z ∙ omega arith))
            go (inr s) = inr (record {
              earlier = e ∷ s.earlier;
              event = s.event;
              rest = s.rest;
              lines = ap (λ (ls : List (Option Event)). some e ∷ ls) s.lines;
              fitting = (q, s.fitting);
              outside = s.outside;
              narrow_marked = rw (q, alike es e c q, v) s.narrow_marked;
              narrow_past = rw (q, alike es e c q, v) s.narrow_past;
              marked = rw v s.marked;
              past = rw v s.past;
            })
        by true q (suc n) v r = inl (record { narrow_marked = rw (q, alike es e c q, v) refl; narrow_past = rw (q, alike es e c q, v) refl; fitting = ends })
          where
            ends : (k : ℕ) → length (past_by g es (some e ∷ rs)) ≡ k + length es → AllPass p (take (suc k) (some e ∷ rs))
            ends zero z = (q, tt)
            ends (suc k) z = absurd (omega (arith, rw v at z))
        by false q n v r = inr (record {
          earlier = [];
          event = e;
          rest = rs;
          lines = refl;
          fitting = tt;
          outside = q;
          narrow_marked = rw q refl;
          narrow_past = rw q refl;
          marked = refl;
          past = refl;
        })

    -- lines whose events pass are marked the same
    pub pass_same : (es : List Event) (rs : List (Option Event)) → Q es → AllPass p rs → Same es rs
    pass_same es rs c a = by (fewer_marked es rs c)
      where
        behind : (earlier : List Event) (e : Event) (rest : List (Option Event)) → AllPass p (map some earlier ++ (some e ∷ rest)) → p e ≡ true
        behind [] e rest a = a.0
        behind (d ∷ earlier) e rest a = behind earlier e rest a.1

        by : Same es rs ⊎ Wider es rs → Same es rs
        by (inl s) = s
        by (inr s) = absurd (false≢true (sym s.outside ∙ behind s.earlier s.event s.rest (subst (AllPass p) s.lines a)))
