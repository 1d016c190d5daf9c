-- What a program in C is told in plain numbers: of one step, of a whole trace, of its tail, and of the sheet of a sitting.
use Rattle.std.specs.Prelude.{ℕ, ◌≡◌, cond, List, ℤ, Some, None, is_some, Option, Result, Ok, Err}
use Rattle.std.specs.Option.{unwrap_or}
use Rattle.rules.specs.declared.Refusal.{Refusal}
use Rattle.rules.specs.declared.Kind.{Kind}
use Rattle.rules.specs.Events.{kind_of}
use Rattle.rules.specs.Limits.{Limits, no_volatiles, line_after}
use Rattle.rules.specs.Rules.{Verdict, told, number_in, line_in}
use Rattle.state.specs.declared.State.{State}
use Rattle.state.specs.State.{start}
use Rattle.state.specs.Range.{in_range}
use Rattle.machine.specs.declared.Answer.{Answer}
use Rattle.machine.specs.Stepped.{stepped}
use Rattle.ordering.specs.declared.Ordering.{Ordering}
use Rattle.ordering.specs.declared.Ordering.TheVariants.{Ordered, Unordered, NoOrder}
use Rattle.finishing.specs.declared.Tail.{Tail}
use Rattle.finishing.specs.Tail.{Gives}
use Rattle.report.specs.declared.Report.{Report}
use Rattle.report.specs.Report.{Fills, Briefs}
use Rattle.session.specs.declared.Session.{Session}
use Rattle.session.specs.Session.{Sessions}
use Rattle.c_api.specs.declared.Reply.{Reply}
use Rattle.c_api.specs.declared.StepReply.{StepReply}
use Rattle.c_api.specs.declared.OrderReply.{OrderReply}
use Rattle.c_api.specs.declared.MarkReply.{MarkReply}
use Rattle.c_api.specs.declared.TailReply.{TailReply}
use Rattle.c_api.specs.declared.SheetReply.{SheetReply}

-- the number of a refusal and its line: both are 0 where nothing is refused
abbrev pub refusal_reply : Refusal → Reply
refusal_reply r = record { number = r.number; line = r.line }

unfoldable pub reply_of : Verdict → Reply
reply_of v = record { number = number_in (told v); line = line_in (told v) }

-- ---- one step

-- the state before the first event, with these counts and no variable volatile
abbrev pub initial_of : ℕ → ℕ → ℕ → State
initial_of t v l = start (record { threads = t; variables = v; locks = l; volatiles = no_volatiles })

abbrev pub answered : Answer → StepReply
answered a = record { reply = reply_of a.verdict; state = a.state }

-- 4. Line is no event of the form above: a letter that is none of the thirteen. Where the state is out of range it is 8 (line 0), before 4.
unfoldable pub no_letter : Limits → State → Reply
no_letter m s = cond (in_range m s) (record { number = 4; line = line_after s.counts s.events }) (record { number = 8; line = 0 })

-- what the letter names; the state stays as it was where that is nothing
abbrev pub on_named : Limits → State → ℕ → Option Kind → StepReply
on_named m s t None = record { reply = no_letter m s; state = s }
on_named m s t (Some k) = answered (stepped m s (record { thread = t; line = line_after s.counts s.events; kind = k }))

-- one step, 8, 4, 9, 5, row: letter, thread, variable or lock, and value, of F the thread that it notifies
unfoldable pub step_reply : Limits → State → ℕ → ℕ → ℕ → ℤ → StepReply
step_reply m s k t p x = on_named m s t (kind_of k p x)

-- ---- a whole trace

-- an order has so many sections, none too; a denied one has a number, 20 to 22, and a line; without guards, after a refusal and where none is
-- wanted there is none
abbrev pub order_reply : Ordering → OrderReply
order_reply (Ordered c) = record { sections = Some c; denial = record { number = 0; line = 0 } }
order_reply (Unordered r) = record { sections = None; denial = refusal_reply r }
order_reply NoOrder = record { sections = None; denial = record { number = 0; line = 0 } }

abbrev pub with_order : Report → Reply → OrderReply → MarkReply
with_order r v o = record {
  number = v.number;
  line = v.line;
  events = r.events;
  written = r.written;
  ordered = cond (is_some o.sections) 1 0;
  sections = unwrap_or o.sections 0;
  denial = o.denial.number;
  denial_line = o.denial.line;
}

-- the numbers of a report: its refusal, the events of an accepted trace, the length of the listing, and the order
unfoldable pub mark_reply : Report → MarkReply
mark_reply r = with_order r (reply_of r.verdict) (order_reply r.ordering)

-- where an order is wanted: the numbers of the report, and what the lent memory holds
pub record MarkReplies (m : Limits) (s whats : List ℕ) (values : List ℤ) (out list scratch : List ℕ) (r : MarkReply) (whats' : List ℕ) (values' : List ℤ) (out' list' scratch' : List ℕ) : Type 0 where
  pub report : Report
  pub fills : Fills m s whats values out list scratch report whats' values' out' list' scratch'
  pub says : r ≡ mark_reply report

-- where no order is wanted
pub record BriefReplies (m : Limits) (s whats : List ℕ) (values : List ℤ) (out : List ℕ) (r : MarkReply) (whats' : List ℕ) (values' : List ℤ) (out' : List ℕ) : Type 0 where
  pub report : Report
  pub briefs : Briefs m s whats values out report whats' values' out'
  pub says : r ≡ mark_reply report

-- ---- the tail of a trace

-- how many events it has, and the line of the first; or number and line of the refusal
abbrev pub tail_reply : Result Tail Refusal → TailReply
tail_reply (Ok t) = record { number = 0; line = 0; events = t.events; first = t.line }
tail_reply (Err r) = record { number = r.number; line = r.line; events = 0; first = 0 }

-- the numbers of the tail, and what the lent rows hold
pub record TailReplies (m : Limits) (s whats : List ℕ) (values : List ℤ) (r : TailReply) (whats' : List ℕ) (values' : List ℤ) : Type 0 where
  pub tail : Result Tail Refusal
  pub gives : Gives m s whats values tail whats' values'
  pub says : r ≡ tail_reply tail

-- ---- the sheet of a sitting

abbrev pub with_counts : Session → Reply → SheetReply
with_counts s v = record { number = v.number; line = v.line; papers = s.traces; accepted = s.accepted; written = s.written }

-- number and line of the refusal of the sheet, how many papers it holds and how many are accepted, and the length of the text
unfoldable pub sheet_reply : Session → SheetReply
sheet_reply s = with_counts s (reply_of s.verdict)

-- the numbers of the sheet, and what the lent output holds
pub record SheetReplies (m : Limits) (s out : List ℕ) (r : SheetReply) (out' : List ℕ) : Type 0 where
  pub session : Session
  pub sessions : Sessions m s out session out'
  pub says : r ≡ sheet_reply session
