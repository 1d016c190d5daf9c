-- `state::initial` meets its contract.
use Rattle.std.proofs.Common.{rules, ◌≡◌}
use lib.ListN.{replicate}
use Rattle.state.specs.State.{start, blank, no_hold, no_wait, no_slot, no_main}
use Rattle.state.proofs.initial.Goals as goal

pub returns : goal.returns
unfolding start
returns c =
    let e : c.default.result ≡ blank = search rules in
    let h : c.default-2.result ≡ no_hold = search rules in
    let w : c.default-3.result ≡ no_wait = search rules in
    λ i. record {
      counts = c.args.counts;
      events = 0;
      cells = replicate 128 (e i);
      reads = replicate 1024 no_slot;
      stores = replicate 1024 no_slot;
      locked = replicate 8 0;
      holds = replicate 8 (h i);
      memory = replicate 16 no_main;
      waits = replicate 8 (w i);
    }
