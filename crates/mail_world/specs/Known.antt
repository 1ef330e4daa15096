-- What kept events tell, whatever the disk is.
use Rattle.std.specs.Prelude.{List, map, reverse, None, []}
use Rattle.call_fs.specs.Disk.{Disk}
use Rattle.call_fs.specs.Apply.{empty_file}
use Rattle.world_events.specs.declared.event.Event.{Event as Kept}
use Rattle.world_events.specs.declared.event.Event.TheVariants as kept
use Rattle.world_events.specs.Programs.{crew_at}
use Rattle.world_events.specs.Inputs.{with_inputs}
use Rattle.mail_world.specs.History.{Event, State, after, report_text}
use Rattle.mail_world.specs.History.Event.{Start, Act, Child, Generation, Report, End, Stop, Moment, Halt}

-- A kept event, read as one whose failed write had written nothing, or that left nothing of any file.
abbrev pub event_of : Kept → Event
event_of (kept.Start a program) = Start a program
event_of (kept.Act a own) = Act a own 0
event_of (kept.Child a own c program) = Child a own c program
event_of (kept.Feed a own c message envelope) = Act a own 0
event_of (kept.Generation start) = Generation (crew_at start)
event_of (kept.Report slot letter text) = Report slot (report_text letter text)
event_of (kept.End a read ready status) = End a read ready status
event_of (kept.Stop a) = Stop a
event_of (kept.Moment m) = Moment m
event_of (kept.Halt how) = Halt how (λ _. [])

-- any disk
abbrev pub nowhere : Disk
nowhere = record { dirs = []; names = λ _. None; files = λ _. empty_file 0; opens = λ _. None }

-- What the kept events tell of the actors, of who holds each descriptor, and of the moment, whatever the disk is.
abbrev pub known : List Kept → State
known events = after nowhere (map event_of (with_inputs (reverse events)))
