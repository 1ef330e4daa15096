-- The lines of events, as a script prints them if it traces.
use Rattle.std.specs.Prelude.{ℕ, List, [], ◌∷◌, reverse, Bool, true, false, flat_map}
use Rattle.actor_names.specs.MailNames.{members}
use Rattle.mail_world.specs.History.{Event}
use Rattle.mail_world.specs.History.Event.{Start, Act, Child, Generation, Report, End, Stop, Moment, Halt}
use Rattle.script_lines.specs.declared.line.Line.{Line}
use Rattle.script_lines.specs.declared.line.Line.TheVariants as line
use Rattle.script_lines.specs.declared.keyword.Alone.TheVariants as alone
use Rattle.script_traces.specs.Acts.{act_line}
use Rattle.script_traces.specs.Events.{start_line, report_line, end_line, stop_line, moment_line, halt_line}
use Rattle.scenario.specs.Deeds.{Deed, event_in}

-- the letter of a report, by the output that stands for it
abbrev pub letter_in : List ℕ → ℕ
letter_in (r ∷ nul ∷ letter ∷ rest) = letter
letter_in output = 0

-- The line of an event: `ACTOR start`, that of what an actor did, `rspawn report SLOT LETTER`, `ACTOR end STATUS`,
-- `ACTOR stop`, `world moment N` or `world halt WORD`. A generation has a line for each of its members.
abbrev pub event_line : Event → List ℕ
event_line (Start a program) = start_line a
event_line (Act a own wrote) = act_line a own.due own.came
event_line (Child parent own a program) = start_line a
event_line (Generation crew) = flat_map start_line members
event_line (Report slot output) = report_line slot (letter_in output)
event_line (End a read ready status) = end_line a status
event_line (Stop a) = stop_line a
event_line (Moment m) = moment_line m
event_line (Halt how contents) = halt_line how

abbrev pub deed_line : Deed → List ℕ
deed_line deed = event_line (event_in deed)

-- if events are traced, the lines of these deeds, which are given the newest first, from the oldest on
abbrev pub traced_text : Bool → List Deed → List ℕ
traced_text true deeds = flat_map deed_line (reverse deeds)
traced_text false deeds = []

-- whether events are traced after a line
abbrev pub traced_after : Bool → Line → Bool
traced_after traced (line.Mail name message envelope) = traced
traced_after traced (line.Alone alone.Trace) = true
traced_after traced (line.Alone alone.Show) = traced
traced_after traced (line.Alone alone.Sum) = traced
traced_after traced (line.Alone alone.Sender) = traced
traced_after traced (line.Alone alone.Turn) = traced
traced_after traced (line.Actor first actor) = traced
traced_after traced (line.Count first n) = traced
traced_after traced (line.Moment first m) = traced
traced_after traced (line.Survival first how) = traced
traced_after traced (line.Word first read) = traced
traced_after traced (line.Letter first letter) = traced
traced_after traced (line.Report slot letter text) = traced
