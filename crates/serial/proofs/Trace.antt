-- Demand 3 as document 01 words it: over the trace's list of events, the oldest first, and an order that is a list of
-- sections by thread, first and last position. Positions count from 1; an event's line is its position plus 2.
use Prim.Native.Nat.{ℕ, suc, ◌<◌}
use native.Mathlib.Decide.{ℕ_discrete, dec_le}
use mathlib.Core.Path.{◌≡◌, refl, sym, ◌∙◌, ap, ap₂}
use mathlib.Core.Logic.{ite}
use mathlib.Core.Bool.{Bool, true, false}
use mathlib.Core.List.{List, [], ◌∷◌, ◌++◌, map, reverse, reverse_aux, reverse-append, reverse-reverse, append_assoc, append-nil}
use lib.ListN.{length}
use Rattle.serial.specs.Events.{Kind, Use, Assign, Load, Store, Read, Write, PrescientStore, PrescientAssign, Event, lock, unlock, idle, mem, thread}
use Rattle.serial.specs.Sections.{Section, flat, Locks, Exclusive, TwoPhase, Under, sections}
use Rattle.serial.proofs.Order.{keep, proj, kept}
use Rattle.serial.specs.Entry.{Entry, entry}
use Rattle.serial.specs.Words.{Touch, at, elsewhere, touch, assigned, through, uses, main, plain, Accepted}
use Rattle.serial.specs.Lists.{All}
use Rattle.serial.proofs.Lines.{join, taken, Placed, traced}
use Rattle.serial.proofs.Serial.{Fits, Right, Ended, serial}

module _ {X : Type 0} where
  -- the events of thread t from position a to position b, of a list whose first position is n
  unfoldable pub between : ℕ → ℕ → ℕ → ℕ → List (Event X) → List (Event X)
  between n t a b [] = []
  between n t a b (e ∷ es) = join (ℕ_discrete (thread e) t) (dec_le a n) (dec_le n b) e (between (suc n) t a b es)

  -- the sections of the order, whole, one after the other
  unfoldable pub serially : List (Event X) → List Entry → List (Event X)
  serially trace [] = []
  serially trace (s ∷ ss) = between 1 s.owner s.first s.last trace ++ serially trace ss

  -- the plain memory: a value for each variable; A and B set one
  abbrev pub set : Event X → (ℕ → X) → ℕ → X
  set e m v = through assigned (touch v e) (m v)

  unfoldable pub after : List (Event X) → (ℕ → X) → ℕ → X
  after [] m = m
  after (e ∷ es) m = after es (set e m)

  -- what an event gets from the memory, put before a list: a use gets its variable's value
  abbrev pub got : Event X → (ℕ → X) → List X → List X
  got (lock j t l) m xs = xs
  got (unlock j t l) m xs = xs
  got (idle t) m xs = xs
  got (mem Use t v x) m xs = m v ∷ xs
  got (mem Assign t v x) m xs = xs
  got (mem Load t v x) m xs = xs
  got (mem Store t v x) m xs = xs
  got (mem Read t v x) m xs = xs
  got (mem Write t v x) m xs = xs
  got (mem PrescientStore t v x) m xs = xs
  got (mem PrescientAssign t v x) m xs = xs

  -- what the uses of a list are given, one after the other
  unfoldable pub given : (ℕ → X) → List (Event X) → List X
  given m [] = []
  given m (e ∷ es) = got e m (given (set e m) es)

  -- the values in the uses themselves
  abbrev pub says : Event X → List X → List X
  says (lock j t l) xs = xs
  says (unlock j t l) xs = xs
  says (idle t) xs = xs
  says (mem Use t v x) xs = x ∷ xs
  says (mem Assign t v x) xs = xs
  says (mem Load t v x) xs = xs
  says (mem Store t v x) xs = xs
  says (mem Read t v x) xs = xs
  says (mem Write t v x) xs = xs
  says (mem PrescientStore t v x) xs = xs
  says (mem PrescientAssign t v x) xs = xs

  unfoldable pub stated : List (Event X) → List X
  stated [] = []
  stated (e ∷ es) = says e (stated es)

  -- the event's variable is below n
  abbrev pub Names : ℕ → Event X → Type 0
  Names n (lock j t l) = Unit {0}
  Names n (unlock j t l) = Unit {0}
  Names n (idle t) = Unit {0}
  Names n (mem k t v x) = v < n

  -- ---- between and taken, serially and flat: the same events, the other way round

  turn_join : {A B C : Type 0} (p : Dec A) (q : Dec B) (r : Dec C) (e : Event X) (l m : List (Event X)) → reverse_aux (join p q r e l) m ≡ reverse_aux l (join p q r e m)
  turn_join (yes p) (yes q) (yes r) e l m = refl
  turn_join (yes p) (yes q) (no r) e l m = refl
  turn_join (yes p) (no q) (yes r) e l m = refl
  turn_join (yes p) (no q) (no r) e l m = refl
  turn_join (no p) (yes q) (yes r) e l m = refl
  turn_join (no p) (yes q) (no r) e l m = refl
  turn_join (no p) (no q) (yes r) e l m = refl
  turn_join (no p) (no q) (no r) e l m = refl

  turn_between : (t a b : ℕ) (rest es : List (Event X)) → reverse_aux (between (suc (length es)) t a b rest) (taken t a b es) ≡ taken t a b (reverse_aux rest es)
  unfolding between taken
  turn_between t a b [] es = refl
  turn_between t a b (e ∷ rest) es =
      turn_join (ℕ_discrete (thread e) t) (dec_le a (suc (length es))) (dec_le (suc (length es)) b) e (between (suc (suc (length es))) t a b rest) (taken t a b es)
      ∙ turn_between t a b rest (e ∷ es)

  between_taken : (t a b : ℕ) (trace : List (Event X)) → reverse (between 1 t a b trace) ≡ taken t a b (reverse trace)
  unfolding taken
  between_taken t a b trace = turn_between t a b trace []

  turn_serially : (trace : List (Event X)) (ss acc : List (Section X)) → All (Placed (reverse trace)) ss
      → reverse (serially trace (map entry (reverse_aux ss acc))) ≡ reverse (serially trace (map entry acc)) ++ flat ss
  unfolding serially flat
  turn_serially trace [] acc h = sym (append-nil (reverse (serially trace (map entry acc))))
  turn_serially trace (s ∷ ss) acc h =
      turn_serially trace ss (s ∷ acc) h.1
      ∙ ap (λ l. l ++ flat ss)
      (reverse-append (between 1 s.owner s.first s.last trace) (serially trace (map entry acc))
      ∙ ap (λ l. reverse (serially trace (map entry acc)) ++ l) (between_taken s.owner s.first s.last trace ∙ sym h.0.listed))
      ∙ append_assoc (reverse (serially trace (map entry acc))) s.events (flat ss)

  -- ---- the run, and the plain memory of the events so far

  module _ (z : X) where
    after_plain : (v : ℕ) (rest es : List (Event X)) → after rest (λ w. plain z w es) v ≡ plain z v (reverse_aux rest es)
    unfolding after plain
    after_plain v [] es = refl
    after_plain v (e ∷ rest) es = after_plain v rest (e ∷ es)

    right_tail : (v : ℕ) (rest es : List (Event X)) → Right z v (reverse_aux rest es) → Right z v es
    unfolding Right
    right_tail v [] es r = r
    right_tail v (e ∷ rest) es r = (right_tail v rest (e ∷ es) r).1

    touch_self : (k : Kind) (t v : ℕ) (x : X) → touch v (mem k t v x) ≡ at k x
    touch_self k t v x = step (ℕ_discrete v v)
      where
        step : (d : Dec (v ≡ v)) → ite {C = Touch X} d (at k x) elsewhere ≡ at k x
        step (yes p) = refl
        step (no p) = absurd (p refl)

    got_says : (n : ℕ) (e : Event X) (m : ℕ → X) (xs ys : List X) → Names n e → ((v : ℕ) → v < n → Fits (touch v e) (m v)) → xs ≡ ys → got e m xs ≡ says e ys
    got_says n (lock j t l) m xs ys d f p = p
    got_says n (unlock j t l) m xs ys d f p = p
    got_says n (idle t) m xs ys d f p = p
    got_says n (mem Use t v x) m xs ys d f p = ap₂ (λ a b. a ∷ b) (rw (touch_self Use t v x) at (f v d)) p
    got_says n (mem Assign t v x) m xs ys d f p = p
    got_says n (mem Load t v x) m xs ys d f p = p
    got_says n (mem Store t v x) m xs ys d f p = p
    got_says n (mem Read t v x) m xs ys d f p = p
    got_says n (mem Write t v x) m xs ys d f p = p
    got_says n (mem PrescientStore t v x) m xs ys d f p = p
    got_says n (mem PrescientAssign t v x) m xs ys d f p = p

    given_right : (n : ℕ) (rest es : List (Event X)) → All (Names n) rest → ((v : ℕ) → v < n → Right z v (reverse_aux rest es)) → given (λ w. plain z w es) rest ≡ stated rest
    unfolding given stated plain Right
    given_right n [] es d r = refl
    given_right n (e ∷ rest) es d r =
        got_says n e (λ w. plain z w es) (given (λ w. plain z w (e ∷ es)) rest) (stated rest) d.0
        (λ v h. (right_tail v rest (e ∷ es) (r v h)).0)
        (given_right n rest (e ∷ es) d.1 r)

  -- ---- every event of the serial list is the trace's

  all_join : (P : Event X → Type 0) {A B C : Type 0} (p : Dec A) (q : Dec B) (r : Dec C) (e : Event X) (l : List (Event X)) → P e → All P l → All P (join p q r e l)
  all_join P (yes p) (yes q) (yes r) e l a h = (a, h)
  all_join P (yes p) (yes q) (no r) e l a h = h
  all_join P (yes p) (no q) (yes r) e l a h = h
  all_join P (yes p) (no q) (no r) e l a h = h
  all_join P (no p) (yes q) (yes r) e l a h = h
  all_join P (no p) (yes q) (no r) e l a h = h
  all_join P (no p) (no q) (yes r) e l a h = h
  all_join P (no p) (no q) (no r) e l a h = h

  all_between : (P : Event X → Type 0) (n t a b : ℕ) (es : List (Event X)) → All P es → All P (between n t a b es)
  unfolding between
  all_between P n t a b [] h = tt
  all_between P n t a b (e ∷ es) h = all_join P (ℕ_discrete (thread e) t) (dec_le a n) (dec_le n b) e (between (suc n) t a b es) h.0 (all_between P (suc n) t a b es h.1)

  all_append_law : (P : Event X → Type 0) (l m : List (Event X)) → All P l → All P m → All P (l ++ m)
  all_append_law P [] m h k = k
  all_append_law P (e ∷ l) m h k = (h.0, all_append_law P l m h.1 k)

  all_serially : (P : Event X → Type 0) (trace : List (Event X)) (ss : List Entry) → All P trace → All P (serially trace ss)
  unfolding serially
  all_serially P trace [] h = tt
  all_serially P trace (s ∷ ss) h =
      all_append_law P (between 1 s.owner s.first s.last trace) (serially trace ss) (all_between P 1 s.owner s.first s.last trace h) (all_serially P trace ss h)

  turn_keep : (b : Bool) (e : Event X) (l m : List (Event X)) → reverse_aux (keep b e l) m ≡ reverse_aux l (keep b e m)
  turn_keep true e l m = refl
  turn_keep false e l m = refl

  turn_proj : (hit : Event X → Bool) (l m : List (Event X)) → reverse_aux (proj hit l) (proj hit m) ≡ proj hit (reverse_aux l m)
  unfolding proj
  turn_proj hit [] m = refl
  turn_proj hit (e ∷ l) m = turn_keep (hit e) e (proj hit l) (proj hit m) ∙ turn_proj hit l (e ∷ m)

  reverse_proj : (hit : Event X → Bool) (l : List (Event X)) → reverse (proj hit l) ≡ proj hit (reverse l)
  unfolding proj
  reverse_proj hit l = turn_proj hit l []

  reverse_inj : (l m : List (Event X)) → reverse l ≡ reverse m → l ≡ m
  reverse_inj l m p = sym (reverse-reverse l) ∙ ap reverse p ∙ reverse-reverse m

module _ {X : Type 0} (𝓛 : Locks X) where
  -- the sections of a trace in the order of their last K
  unfoldable pub order : List (Event X) → List Entry
  order trace = map entry (reverse (sections 𝓛 (reverse trace)))

module _ {X : Type 0} (z : X) (𝓛 : Locks X) where
  -- Run whole in this order on the plain memory of zeros, the sections hold each variable's U, A and B as the trace has
  -- them, give every use the value in its line, and leave every variable its value in main memory.
  pub record Serial (n : ℕ) (trace : List (Event X)) : Type 0 where
    pub whole : (v : ℕ) → v < n → proj (uses v) (serially trace (order 𝓛 trace)) ≡ proj (uses v) trace
    pub uses_right : given (λ v. z) (serially trace (order 𝓛 trace)) ≡ stated (serially trace (order 𝓛 trace))
    pub ends_right : (v : ℕ) → v < n → after (serially trace (order 𝓛 trace)) (λ v. z) v ≡ main z v (reverse trace)

  serial_flat : (trace : List (Event X)) → reverse (serially trace (order 𝓛 trace)) ≡ flat (sections 𝓛 (reverse trace))
  unfolding order serially
  serial_flat trace = turn_serially trace (sections 𝓛 (reverse trace)) [] (traced 𝓛 (reverse trace)).placed

  -- n variables, variable v guarded by lock guard v
  pub demand_3 : (n : ℕ) (guard : ℕ → ℕ) (trace : List (Event X)) → All (Names n) trace → Exclusive 𝓛 (reverse trace) → TwoPhase 𝓛 (reverse trace)
      → ((v : ℕ) → v < n → Accepted z v (reverse trace)) → ((v : ℕ) → v < n → Under 𝓛 (uses v) (guard v) (reverse trace)) → ((v : ℕ) → v < n → Ended z 𝓛 (guard v) v (reverse trace))
      → Serial n trace
  unfolding plain
  demand_3 n guard trace names ex tw ac un en = record {
    whole = λ v h. reverse_inj (proj (uses v) ran) (proj (uses v) trace)
        (reverse_proj (uses v) ran ∙ ap (proj (uses v)) (serial_flat trace)
        ∙ (kept 𝓛 (uses v) (guard v) (λ t l j. refl) (reverse trace) ex tw (un v h)).same ∙ sym (reverse_proj (uses v) trace));
    uses_right = given_right z n ran [] (all_serially (Names n) trace (order 𝓛 trace) names)
        (λ v h. rw (serial_flat trace) (proved v h).0);
    ends_right = λ v h. after_plain z v ran [] ∙ ap (plain z v) (serial_flat trace) ∙ (proved v h).1;
  }
    where
      ran : List (Event X)
      ran = serially trace (order 𝓛 trace)

      proved : (v : ℕ) → v < n → Right z v (flat (sections 𝓛 (reverse trace))) × (plain z v (flat (sections 𝓛 (reverse trace))) ≡ main z v (reverse trace))
      proved v h = serial z 𝓛 (guard v) v (reverse trace) ex tw (ac v h) (un v h) (en v h)
