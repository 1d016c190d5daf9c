-- What each arm of the loop over a row finds. Where a rule is broken, the steps over the row end with its number; else the loop goes on.
use Prim.Native.Nat.{ℕ, ◌+◌, ◌<◌}
use native.Mathlib.Omega.{arith}
use mathlib.Core.Path.{◌≡◌, refl, sym, ap, ◌∙◌, subst}
use mathlib.Core.Bool.{true, false}
use mathlib.Core.List.{List, [], ◌∷◌}
use lib.Dec.{T, eqb}
use lib.IntN.{ℤ, pos}
use lib.ListN.{get_or, set}
use Rattle.std.specs.Prelude.{Option, Some, None, Result, Err}
use Rattle.rules.specs.declared.Counts.{Counts}
use Rattle.rules.specs.declared.Memories.{Memories}
use Rattle.rules.specs.declared.Refusal.{Refusal}
use Rattle.rules.specs.Events.{A, B, C, F, K, L, N, P, R, S, U, W, Y, value, among, lock_letters, is_letter, is_lock_letter, subject_of}
use Rattle.rules.specs.Limits.{full, volatile, line_after}
use Rattle.rules.specs.Rules.{judge, refused, said, Verdict}
use Rattle.rules.proofs.Laws.{or_right}
use Rattle.rules.proofs.Letters.{lock_among}
use Rattle.records.specs.Records.{row_lines}
use Rattle.state.specs.declared.Cell.{Cell}
use Rattle.state.specs.declared.State.{State}
use Rattle.state.specs.State.{no_hold, no_main, no_slot, no_wait, blank, words_in}
use Rattle.state.specs.Computed.Places.{cell_place, slot_place}
use Rattle.state.proofs.Letters.{none_of}
use Rattle.judging.specs.declared.CellTurn.{CellTurn}
use Rattle.judging.specs.declared.LockTurn.{LockTurn}
use Rattle.judging.specs.declared.OnSome.{OnSome}
use Rattle.judging.specs.declared.ReadsTurn.{ReadsTurn}
use Rattle.judging.specs.declared.StoresTurn.{StoresTurn}
use Rattle.judging.specs.declared.WaitTurn.{WaitTurn}
use Rattle.judging.specs.Computed.Leads.{ahead_rule, barred_rule, lead_with, lead_at}
use Rattle.judging.specs.Computed.Turns.{after_use, cell_turn, is_used, lock_turn, reads_turn, some_of, stores_turn, use_rule, wait_turn}
use Rattle.judging.proofs.Rows.{found, found_none, ahead, leading, trailing, led_ahead, led, unled, unled_lock}
use Rattle.judging.proofs.Waits.{ahead_by, barred_by, no_untold}
use Rattle.judging.proofs.Leads.{lead_by, lead_none}
use Rattle.judging.proofs.Turned.{By, use_rule_law, use_next, use_put, use_kept, cell_rule, cell_put, reads_rule, reads_next, reads_put, stores_rule, stores_put, lock_rule, lock_put, wait_rule, wait_put}
use Rattle.machine.specs.declared.Answer.{Answer}
use Rattle.machine.specs.declared.Tally.{Tally}
use Rattle.machine.specs.Stepped.{unchanged}
use Rattle.machine.specs.Computed.Walk.{walk, outcome_of, marked}
use Rattle.machine.specs.Computed.Tallies.{no_tally, some_in, tally_after, Small}
use Rattle.machine.proofs.OneStep.{shallow}
use Rattle.machine.proofs.Tallies.{Tallied, some_is, small, tallied_at, tallied_kept_at, tallied_same}
use Rattle.machine.proofs.Running.{Running, Turn, here, numbers, numbers_valued, subject_numbers, Known, known, turn_broken, turn_more, lock_arm, own_subject, use_arm}

module _ {s₀ : State} {ws : List ℕ} {xs : List ℤ} {s : State} {ts : List Tally} {i k t v : ℕ} (u : Turn s₀ ws xs s ts i k t v) where
  abbrev whole : Answer
  whole = walk full s₀ (row_lines s₀.counts ws xs)

  abbrev Ends : ℕ → Type 0
  Ends n = unchanged s (refused n (line_after s.counts s.events)) ≡ whole

  -- where a rule is broken
  abbrev Stops : Option ℕ → Type 0
  Stops o = (n : ℕ) → o ≡ Some n → Ends n

  pub refused_at : {n : ℕ} {a : Refusal} → a ≡ record { number = n; line = line_after s₀.counts s.events } → Ends n → ◌≡◌ {A = Result Memories Refusal} (Err a) (outcome_of whole)
  refused_at {n} {a} ea p = (λ j. Err ((ea ∙ (λ j. record { number = n; line = line_after (sym u.running.counts j) s.events })) j)) ∙ ap outcome_of p

  pub refused_by : (o : Option ℕ) {a : Refusal} → ◌≡◌ {A = Verdict} (Err a) (said (marked o (line_after s₀.counts s.events))) → Stops o → ◌≡◌ {A = Result Memories Refusal} (Err a) (outcome_of whole)
  refused_by None q p = cc
  refused_by (Some n) {a} q p = refused_at (let e : a ≡ record { number = n; line = line_after s₀.counts s.events } = cc in e) (p n refl)

  module _ (l : is_letter k ≡ true) (room : s.events < 2000) (ht : t < s.counts.threads) where
    thread_low : t < 8
    thread_low = omega (arith, ht, u.running.threads)

    -- the tally of its thread
    pub tally_small : Small (get_or ts t no_tally)
    tally_small = small s t _ u.running.variables (u.running.tallied.each t thread_low)

    own_numbers : By (here u) t v k (value (here u).kind)
    own_numbers = numbers u l

    -- ---- on a lock

    module _ (b : is_lock_letter k ≡ true) (hv : v < s.counts.locks) {any : OnSome} (ea : any ≡ some_in (get_or ts t no_tally)) where
      lock_low : v < 8
      lock_low = omega (arith, hv, u.running.locks)

      lock_led : leading s.counts (words_in s) (here u) ≡ 0
      lock_led = unled_lock _ _ _ (subst (λ (m : ℕ). T (among lock_letters m)) own_numbers.letter (lock_arm k b))

      lock_some : any ≡ some_of s t s.counts.variables
      lock_some = some_is s t _ any (u.running.tallied.each t thread_low) ea

      deep : (get_or s.holds v no_hold).depth < 2000
      deep = shallow s u.running.ranged room v lock_low

      -- K, N
      module _ (h : T (among (K ∷ N ∷ []) k)) {q : Option ℕ} (eq : q ≡ barred_rule (get_or s.waits t no_wait) s.counts.locks k) where
        hold_own : among (F ∷ C ∷ []) k ≡ false
        hold_own = none_of (K ∷ N ∷ []) (F ∷ C ∷ []) tt k h

        hold_known : Known u l
        hold_known = known u l true b room ht (sym (own_subject k t _ hold_own)) ht hv

        hold_ahead : q ≡ found (ahead s.counts (words_in s) (here u))
        hold_ahead = barred_by s (here u) own_numbers hold_own eq

        pub hold_barred : Stops q
        hold_barred n z = turn_broken u l hold_known (led_ahead _ _ _ hold_ahead z) z

        module _ (z : q ≡ None) {a : LockTurn} (er : a ≡ lock_turn (get_or s.holds v no_hold) (get_or s.locked t 0) s.counts.threads any t k (s.events + 1)) where
          hold_rule : a.rule ≡ found (judge s.counts (words_in s) (here u))
          hold_rule = unled _ _ _ (sym hold_ahead ∙ z) lock_led (lock_rule s (here u) own_numbers hold_known.within h any er lock_some u.running.threads)

          pub hold_broken : Stops a.rule
          hold_broken n y = turn_broken u l hold_known hold_rule y

          pub hold_kept : a.rule ≡ None → {s' : State}
              → s' ≡ record { counts = s.counts; events = s.events + 1; cells = s.cells; reads = s.reads; stores = s.stores; locked = set s.locked t a.locked; holds = set s.holds v a.hold; memory = s.memory; waits = s.waits }
              → {ts' : List Tally} → ts' ≡ ts → Running s₀ ws xs s' ts' (i + 1)
          hold_kept y {s'} es {ts'} et = turn_more u l hold_known hold_rule y s' (es ∙ lock_put s (here u) own_numbers hold_known.within h any er deep) ts' (subst (Tallied s') (sym et) (tallied_same s s' ts (ap (λ (z : State). z.counts) es) (ap (λ (z : State). z.cells) es) u.running.tallied))

      -- Y, F, C: y is the thread whose waiting it is about
      module _ (h : T (among (Y ∷ F ∷ C ∷ []) k)) {y : ℕ} (ey : y ≡ subject_of k t (get_or xs i (pos 0))) (hy : y < s.counts.threads) {q : Option ℕ} (eq : q ≡ ahead_rule (get_or s.waits t no_wait) (get_or s.waits y no_wait) s.counts.locks v k) where
        wait_known : Known u l
        wait_known = known u l true b room ht ey hy hv

        wait_subject : y ≡ subject_of k t (value (here u).kind)
        wait_subject = subject_numbers u l ey

        wait_ahead : q ≡ found (ahead s.counts (words_in s) (here u))
        wait_ahead = ahead_by s (here u) own_numbers wait_subject eq

        pub wait_barred : Stops q
        wait_barred n z = turn_broken u l wait_known (led_ahead _ _ _ wait_ahead z) z

        module _ (z : q ≡ None) {a : WaitTurn} (er : a ≡ wait_turn (get_or s.holds v no_hold) (get_or s.waits y no_wait) (get_or s.locked t 0) s.counts.threads any t v k (s.events + 1)) where
          wait_judged : a.rule ≡ found (judge s.counts (words_in s) (here u))
          wait_judged = unled _ _ _ (sym wait_ahead ∙ z) lock_led (wait_rule s (here u) own_numbers wait_known.within h wait_subject any er lock_some u.running.threads)

          pub wait_broken : Stops a.rule
          wait_broken n y = turn_broken u l wait_known wait_judged y

          pub wait_kept : a.rule ≡ None → {s' : State}
              → s' ≡ record { counts = s.counts; events = s.events + 1; cells = s.cells; reads = s.reads; stores = s.stores; locked = set s.locked t a.locked; holds = set s.holds v a.hold; memory = s.memory; waits = set s.waits y a.wait }
              → {ts' : List Tally} → ts' ≡ ts → Running s₀ ws xs s' ts' (i + 1)
          wait_kept o {s'} es {ts'} et = turn_more u l wait_known wait_judged o s' (es ∙ wait_put s (here u) own_numbers wait_known.within h wait_subject any er deep) ts' (subst (Tallied s') (sym et) (tallied_same s s' ts (ap (λ (z : State). z.counts) es) (ap (λ (z : State). z.cells) es) u.running.tallied))

    -- ---- on a variable

    module _ (b : is_lock_letter k ≡ false) (hv : v < s.counts.variables) {q : Option ℕ} (eq : q ≡ barred_rule (get_or s.waits t no_wait) s.counts.locks k) where
      variable_low : v < 16
      variable_low = omega (arith, hv, u.running.variables)

      no_lock : among lock_letters k ≡ false
      no_lock = sym (lock_among k) ∙ b

      variable_known : Known u l
      variable_known = known u l false b room ht (sym (own_subject k t _ (no_untold k no_lock))) ht hv

      variable_ahead : q ≡ found (ahead s.counts (words_in s) (here u))
      variable_ahead = barred_by s (here u) own_numbers (no_untold k no_lock) eq

      pub variable_barred : Stops q
      variable_barred n z = turn_broken u l variable_known (led_ahead _ _ _ variable_ahead z) z

      module _ (z : q ≡ None) {j : ℕ} (ej : j ≡ cell_place t v) where
        lead_same : lead_at s t v k ≡ found (leading s.counts (words_in s) (here u))
        lead_same = lead_by s (here u) variable_known.within u.running.variables own_numbers no_lock

        -- what leads the row of an event on a volatile variable
        module _ {m : Option ℕ} (em : m ≡ lead_with s₀.counts (get_or s.cells j blank) s.cells s.stores t v k) where
          lead_is : m ≡ found (leading s.counts (words_in s) (here u))
          lead_is = em ∙ (λ o. lead_with (sym u.running.counts o) (get_or s.cells (ej o) blank) s.cells s.stores t v k) ∙ lead_same

          pub lead_broken : Stops m
          lead_broken n y = turn_broken u l variable_known (led _ _ _ (sym variable_ahead ∙ z) lead_is y) y

          pub lead_kept : m ≡ None → leading s.counts (words_in s) (here u) ≡ 0
          lead_kept y = found_none _ (sym lead_is ∙ y)

        pub lead_free : get_or s₀.counts.volatiles v false ≡ false → leading s.counts (words_in s) (here u) ≡ 0
        unfolding volatile
        lead_free f = found_none _ (sym lead_same ∙ sym (lead_none s.counts (get_or s.cells (cell_place t v) blank) s.cells s.stores t v k (ap (λ (h : Counts). get_or h.volatiles v false) (sym u.running.counts)) f))

        -- where nothing is broken that leads it
        module _ (o : leading s.counts (words_in s) (here u) ≡ 0) {y : ℤ} (ey : y ≡ get_or xs i (pos 0)) where
          by_numbers : By (here u) t v k y
          by_numbers = numbers_valued u l b ey

          judged : {n : Option ℕ} → n ≡ found (trailing s.counts (words_in s) (here u)) → n ≡ found (judge s.counts (words_in s) (here u))
          judged = unled _ _ _ (sym variable_ahead ∙ z) o

          broken : {n : Option ℕ} → n ≡ found (trailing s.counts (words_in s) (here u)) → Stops n
          broken en m z = turn_broken u l variable_known (judged en) z

          -- U
          module _ (h : k ≡ U) {n : Option ℕ} (en : n ≡ use_rule (get_or s.cells j blank) (get_or s.locked t 0) y) where
            use_trailing : n ≡ found (trailing s.counts (words_in s) (here u))
            use_trailing = use_rule_law s (here u) by_numbers variable_known.within h ej en

            pub use_broken : Stops n
            use_broken = broken use_trailing

            module _ (w : n ≡ None) {s' : State} {ts' : List Tally} (et : ts' ≡ ts) where
              pub unused : is_used (get_or s.cells j blank) ≡ true
                  → s' ≡ record { counts = s.counts; events = s.events + 1; cells = s.cells; reads = s.reads; stores = s.stores; locked = s.locked; holds = s.holds; memory = s.memory; waits = s.waits }
                  → Running s₀ ws xs s' ts' (i + 1)
              unused f es = turn_more u l variable_known (judged use_trailing) w s' (es ∙ use_kept s (here u) by_numbers variable_known.within h ej f) ts' (subst (Tallied s') (sym et) (tallied_same s s' ts (ap (λ (z : State). z.counts) es) (ap (λ (z : State). z.cells) es) u.running.tallied))

              pub used_kept : {d : Cell} → d ≡ after_use (get_or s.cells j blank)
                  → s' ≡ record { counts = s.counts; events = s.events + 1; cells = set s.cells j d; reads = s.reads; stores = s.stores; locked = s.locked; holds = s.holds; memory = s.memory; waits = s.waits }
                  → Running s₀ ws xs s' ts' (i + 1)
              used_kept {d} ed es = turn_more u l variable_known (judged use_trailing) w s' (es ∙ use_put s (here u) by_numbers variable_known.within h ej ed) ts' (subst (Tallied s') (sym et) (tallied_kept_at s s' t v d u.running.shape.cells thread_low variable_low hv (ap (λ (z : State). z.counts) es) ej (ap (λ (z : State). z.cells) es) k _ _ y (use_arm k h) (use_next s (here u) by_numbers variable_known.within h ej ed) ts u.running.tallied))

          -- R, L
          module _ (h : T (among (R ∷ L ∷ []) k)) {f e : ℕ} (ef : f ≡ slot_place j (get_or s.cells j blank).reads 0) (ee : e ≡ slot_place j (get_or s.cells j blank).reads (get_or s.cells j blank).reads.len)
              {a : ReadsTurn} (er : a ≡ reads_turn (get_or s.cells j blank) (get_or s.reads f no_slot) (get_or s.reads e no_slot) (get_or s.memory v no_main) k y (s.events + 1)) where
            reads_trailing : a.rule ≡ found (trailing s.counts (words_in s) (here u))
            reads_trailing = reads_rule s (here u) by_numbers variable_known.within h ej ef ee er

            pub reads_broken : Stops a.rule
            reads_broken = broken reads_trailing

            pub reads_kept : a.rule ≡ None → {s' : State}
                → s' ≡ record { counts = s.counts; events = s.events + 1; cells = set s.cells j a.cell; reads = set s.reads e a.slot; stores = s.stores; locked = s.locked; holds = s.holds; memory = s.memory; waits = s.waits }
                → {ts' : List Tally} → ts' ≡ ts → Running s₀ ws xs s' ts' (i + 1)
            reads_kept w {s'} es {ts'} et = turn_more u l variable_known (judged reads_trailing) w s' (es ∙ reads_put s (here u) by_numbers variable_known.within h ej ef ee er) ts' (subst (Tallied s') (sym et) (tallied_kept_at s s' t v a.cell u.running.shape.cells thread_low variable_low hv (ap (λ (z : State). z.counts) es) ej (ap (λ (z : State). z.cells) es) k _ _ y (or_right (eqb U k) (among (R ∷ L ∷ []) k) h) (reads_next s (here u) by_numbers variable_known.within h ej ef ee er) ts u.running.tallied))

          -- S, P, W
          module _ (h : T (among (S ∷ P ∷ W ∷ []) k)) {f e : ℕ} (ef : f ≡ slot_place j (get_or s.cells j blank).stores 0) (ee : e ≡ slot_place j (get_or s.cells j blank).stores (get_or s.cells j blank).stores.len)
              {a : StoresTurn} (er : a ≡ stores_turn (get_or s.cells j blank) (get_or s.stores f no_slot) (get_or s.stores e no_slot) (get_or s.memory v no_main) (get_or s.locked t 0) k y (s.events + 1)) where
            stores_trailing : a.rule ≡ found (trailing s.counts (words_in s) (here u))
            stores_trailing = stores_rule s (here u) by_numbers variable_known.within h ej ef ee er

            pub stores_broken : Stops a.rule
            stores_broken = broken stores_trailing

            pub stores_kept : a.rule ≡ None → {s' : State}
                → s' ≡ record { counts = s.counts; events = s.events + 1; cells = set s.cells j a.cell; reads = s.reads; stores = set s.stores e a.slot; locked = s.locked; holds = s.holds; memory = set s.memory v a.main; waits = s.waits }
                → {c : Tally} → c ≡ tally_after (get_or ts t no_tally) (get_or s.cells j blank) a.cell → {ts' : List Tally} → ts' ≡ set ts t c → Running s₀ ws xs s' ts' (i + 1)
            stores_kept w {s'} es ec {ts'} et = turn_more u l variable_known (judged stores_trailing) w s' (es ∙ stores_put s (here u) by_numbers variable_known.within h ej ef ee er) ts' (subst (Tallied s') (sym et) (tallied_at s s' t v a.cell u.running.shape.cells thread_low variable_low hv (ap (λ (z : State). z.counts) es) ej (ap (λ (z : State). z.cells) es) ts u.running.tallied ec))

          -- the cell alone
          module _ (h : T (among (U ∷ A ∷ B ∷ []) k)) {a : CellTurn} (er : a ≡ cell_turn (get_or s.cells j blank) (get_or s.locked t 0) k y (s.events + 1)) where
            cell_trailing : a.rule ≡ found (trailing s.counts (words_in s) (here u))
            cell_trailing = cell_rule s (here u) by_numbers variable_known.within h ej er

            pub cell_broken : Stops a.rule
            cell_broken = broken cell_trailing

            pub cell_kept : a.rule ≡ None → {s' : State}
                → s' ≡ record { counts = s.counts; events = s.events + 1; cells = set s.cells j a.cell; reads = s.reads; stores = s.stores; locked = s.locked; holds = s.holds; memory = s.memory; waits = s.waits }
                → {c : Tally} → c ≡ tally_after (get_or ts t no_tally) (get_or s.cells j blank) a.cell → {ts' : List Tally} → ts' ≡ set ts t c → Running s₀ ws xs s' ts' (i + 1)
            cell_kept w {s'} es ec {ts'} et = turn_more u l variable_known (judged cell_trailing) w s' (es ∙ cell_put s (here u) by_numbers variable_known.within h ej er) ts' (subst (Tallied s') (sym et) (tallied_at s s' t v a.cell u.running.shape.cells thread_low variable_low hv (ap (λ (z : State). z.counts) es) ej (ap (λ (z : State). z.cells) es) ts u.running.tallied ec))
