-- Document 02 (c): the tail of a trace as text.
use Rattle.std.specs.Prelude.{ℕ, List}
use Rattle.rules.specs.declared.Event.{Event}
use Rattle.rules.specs.Limits.{Limits}
use Rattle.rules.specs.Rules.{Marked, accepted, refused}
use Rattle.decimal.specs.Text.{ended}
use Rattle.writer.specs.Text.{events_text}
use Rattle.listing.specs.Listing.{refused_line}
use Rattle.finishing.specs.Tail.{tail_of, tail_verdict}

-- the lines of the events as they would stand in the paper, or the one line of a refusal
abbrev pub text_for : Marked → List Event → List ℕ
text_for accepted es = events_text es
text_for (refused number line) es = ended (refused_line line number)

-- the tail of a trace, where 2,256 records are lent for it: no tail has more (`paper_room`)
unfoldable pub tail_text : Limits → List ℕ → List ℕ
tail_text m s = text_for (tail_verdict m s 2256) (tail_of m s)

-- an output of so many bytes has room for every tail (`tail_text_room`)
abbrev pub tail_output : ℕ
tail_output = 65536
