-- What is read of an input, and what is printed of it.
use Rattle.std.specs.Prelude.{ℕ, List, Result, Ok, Err}
use Rattle.rules.specs.Limits.{Limits}
use Rattle.report.specs.Report.{listing_of}
use Rattle.session.specs.Session.{sheet_text}
use Rattle.tail_text.specs.TailText.{tail_text}
use Rattle.print.specs.declared.Printed.{Printed}
use Rattle.print.specs.declared.Printed.TheVariants as printed
use Rattle.print.specs.declared.ReadFailed.{ReadFailed}

-- how many bytes are read: all that there is room for or that there are, or those before a read that failed
abbrev pub bytes_read : Result ℕ ReadFailed → ℕ
bytes_read (Ok n) = n
bytes_read (Err e) = e.count

-- the listing of a trace, the text of its tail, or the counts of a session sheet, by these limits
abbrev pub printed_of : Printed → Limits → List ℕ → List ℕ
printed_of printed.Listing m s = listing_of m s
printed_of printed.Tail m s = tail_text m s
printed_of printed.Sheet m s = sheet_text m s
