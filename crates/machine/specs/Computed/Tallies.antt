-- How many of a thread's declared variables have what lock events ask for. The loop keeps these numbers beside the state.
use Rattle.std.specs.Prelude.{ℕ, zero, suc, ◌+◌, ◌-◌, ◌≤◌, Bool, true, cond, ◌≡◌, List, ltb}
use Rattle.state.specs.declared.Cell.{Cell}
use Rattle.judging.specs.declared.OnSome.{OnSome}
use Rattle.judging.specs.Computed.Turns.{awaits_write}
use Rattle.state.specs.declared.State.{State}
use Rattle.state.specs.State.{cell_at}
use Rattle.state.specs.Range.{in_range}
use Rattle.state.specs.Computed.Places.{Shape}
use Rattle.rules.specs.Limits.{full}
use Rattle.rules.specs.Memories.{from}
use Rattle.machine.specs.declared.Tally.{Tally}

-- how many numbers below n have f
unfoldable pub number : ℕ → (ℕ → Bool) → ℕ
number zero f = 0
number (suc n) f = cond (f n) 1 0 + number n f

abbrev pub no_tally : Tally
no_tally = record { pending = 0; fresh = 0; stored = 0 }

unfoldable pub tally_of : State → ℕ → Tally
tally_of s t = record {
  pending = number s.counts.variables (λ v. (cell_at s t v).pending);
  fresh = number s.counts.variables (λ v. (cell_at s t v).fresh);
  stored = number s.counts.variables (λ v. awaits_write (cell_at s t v));
}

-- n things have it, of which one had it or not and has it or not now
abbrev pub moved : ℕ → Bool → Bool → ℕ
moved n was is = (n + cond is 1 0) - cond was 1 0

-- a tally after a cell of its thread, c, became d
unfoldable pub tally_after : Tally → Cell → Cell → Tally
tally_after a c d = record { pending = moved a.pending c.pending d.pending; fresh = moved a.fresh c.fresh d.fresh; stored = moved a.stored (awaits_write c) (awaits_write d) }

pub record Small (a : Tally) : Type 0 where
  pub pending : a.pending ≤ 16
  pub fresh : a.fresh ≤ 16
  pub stored : a.stored ≤ 16

-- what some variable has
unfoldable pub some_in : Tally → OnSome
some_in a = record { pending = ltb 0 a.pending; fresh = ltb 0 a.fresh; stored = ltb 0 a.stored }

-- a state in range, with the tallies of all threads
pub record Ready (s : State) (ts : List Tally) : Type 0 where
  pub shape : Shape s
  pub ranged : in_range full s ≡ true
  pub counted : ts ≡ from (tally_of s) 0 8
