-- What a function puts into two rows: entries behind those that stand there.
use Rattle.std.specs.Prelude.{◌≡◌, List}
use Rattle.finishing.specs.declared.Entry.{Entry}
use Rattle.finishing.specs.declared.Out.{Out}
use Rattle.finishing.specs.Computed.Parts.{Filled, filled, added}

abbrev pub filled_in : Out → Filled
filled_in o = filled o.count o.whats.now o.values.now

pub record Adds (es : List Entry) (o o' : Out) : Type 0 where
  pub puts : filled_in o' ≡ added es (filled_in o)
  pub same_whats : o'.whats.ghost_name ≡ o.whats.ghost_name
  pub same_values : o'.values.ghost_name ≡ o.values.ghost_name
