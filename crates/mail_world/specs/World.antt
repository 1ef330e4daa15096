-- A world: what it keeps of its history, and what is promised of that.
use Rattle.std.specs.Prelude.{◌≡◌, ℕ, ◌+◌, ◌-◌, ◌^◌, min, List, [], ◌∷◌, ◌++◌, length, reverse, ◌⊎◌, Bool, true, false, bytes_eq, if◌then◌else◌, Option, Some, None, IsSomeAnd}
use Rattle.std.specs.List.{AllZip, list_any, sum_by}
use Rattle.call_fs.specs.declared.calls.Told.{Told}
use Rattle.call_fs.specs.declared.past.NeedData.{NeedData}
use Rattle.call_fs.specs.declared.past.Own.{Own}
use Rattle.call_fs.specs.declared.past.NeedData.TheVariants.{File, Take, Give, Command}
use Rattle.call_fs.specs.declared.past.NeedData.TheVariants.{Start as StartOf, Ended as EndOf}
use Rattle.call_fs.specs.declared.program.Port.TheVariants as port
use Rattle.call_fs.specs.declared.file_system.TheConstants.{PIECE}
use Rattle.call_fs.specs.declared.past.GotData.{GotData}
use Rattle.call_fs.specs.declared.past.GotData.TheVariants.{Answered, Ended, Gave, Started}
use Rattle.call_fs.specs.declared.crash_file_system.Survival.{Survival}
use Rattle.call_fs.specs.Choices.{AreNamed, contents_by}
use Rattle.call_fs.specs.Plan.{Plan}
use Rattle.call_fs.specs.Disk.{Disk}
use Rattle.world_events.specs.declared.event.Event.{Event as Kept}
use Rattle.world_events.specs.declared.event.Event.TheVariants as kept
use Rattle.world_events.specs.declared.event.Program.{Program}
use Rattle.world_events.specs.declared.event.Program.TheVariants.{Injector, Cleaner}
use Rattle.world_events.specs.Programs.{crew_at}
use Rattle.world_pipes.specs.Pipes.{offered}
use Rattle.mail_world.specs.Pipework.{Tenant, is_member}
use Rattle.mail_world.specs.Pipework.Tenant.{Remote, Runs}
use Rattle.world_events.specs.Inputs.{with_texts}
use Rattle.mail_world.specs.History.{Event, Actor, State, netstring, report_text, TenantEnds, next_of, program_of, after, EachAllowed, Legal}
use Rattle.mail_world.specs.History.Event.{Start, Act, Child, Generation, Report, End, Stop, Moment, Halt}
use Rattle.mail_world.specs.Known.{known}
use Rattle.mail_world.specs.Readiness.{found_in}
-- how many programs an event starts, and what the injector of a mail is started with
pub use Rattle.world_events.specs.Starting.{starts_in}
pub use Rattle.world_events.specs.Mails.{mail}
-- the children that actors start, and how many there are
pub use Rattle.world_events.specs.Children.{Counts, counted, is_bounce, is_delivery, is_bounce_start, is_delivery_start, counts_in, child_of}
-- with what the command of a user exits
pub use Rattle.world_pipes.specs.Commands.{command_exits}
-- what the plan of a disk says of an event of an actor
pub use Rattle.world_events.specs.Planned.{IsPlannedOwn}
-- the kept events with the input of each child in its start, where a history has it
pub use Rattle.world_events.specs.Inputs.{with_inputs}

-- A kept event tells an event: all of it but how much a failed write had written, which no program is told. A giving to a child is
-- told by the event that `with_inputs` makes of it. A world keeps of a report its letter and its text, which stand for an output.
abbrev pub Tells : Kept → Event → Type 0
Tells event (Start a program) = event ≡ kept.Start a program
Tells event (Act a own wrote) = event ≡ kept.Act a own
Tells event (Child parent own a program) = event ≡ kept.Child parent own a program
Tells event (Generation crew) = (start : ℕ) × (event ≡ kept.Generation start) × (crew ≡ crew_at start)
Tells event (Report slot output) = (letter : ℕ) × (text : List ℕ) × (event ≡ kept.Report slot letter text) × (output ≡ report_text letter text)
Tells event (End a read ready status) = event ≡ kept.End a read ready status
Tells event (Stop a) = event ≡ kept.Stop a
Tells event (Moment m) = event ≡ kept.Moment m
Tells event (Halt how contents) = event ≡ kept.Halt how

-- a machine stop left of this disk what its name says
abbrev pub IsByName : Disk → Event → Type 0
IsByName d (Start a program) = Unit {0}
IsByName d (Act a own wrote) = Unit {0}
IsByName d (Child parent own a program) = Unit {0}
IsByName d (Generation crew) = Unit {0}
IsByName d (Report slot output) = Unit {0}
IsByName d (End a read ready status) = Unit {0}
IsByName d (Stop a) = Unit {0}
IsByName d (Moment m) = Unit {0}
IsByName d (Halt how contents) = (numbers : List ℕ) × AreNamed d numbers × (contents ≡ contents_by how d numbers)

-- so did each machine stop of a history that began with this disk
abbrev pub AreByName : Disk → List Event → Type 0
AreByName d [] = Unit {0}
AreByName d (event ∷ before) = AreByName d before × IsByName (after d before).disk event

-- What led from one disk to another one, at this moment: a history of which each event might happen when it did, and
-- was kept by a world, the oldest first. A world keeps the start of a child without the input that it is given later.
pub record Leads (opening now : Disk) (events : List Kept) (present : ℕ) (h : List Event) : Type 0 where
  pub allowed : EachAllowed opening h
  pub told : AllZip Tells (with_inputs (reverse events)) h
  pub named : AreByName opening h
  pub disk : (after opening h).disk ≡ now
  pub moment : (after opening h).now ≡ present

-- What happened in a world that began with one disk and now has another one, at this moment: a legal history, of which
-- the world kept each event, the oldest first.
pub record IsHistory (opening now : Disk) (events : List Kept) (present : ℕ) (h : List Event) : Type 0 where
  pub legal : Legal opening h
  pub told : AllZip Tells (with_inputs (reverse events)) h
  pub named : AreByName opening h
  pub disk : (after opening h).disk ≡ now
  pub moment : (after opening h).now ≡ present

-- a world: its disk, the events that it kept, the oldest first, and the present moment
pub record Seen (D : Type 0) : Type 0 where
  pub disk : D
  pub events : List Kept
  pub present : ℕ

-- What happened in the world since it began with this disk: the disk tells, and this history led from the one to the
-- other.
abbrev pub Happened : {D : Type 0} → (D → Option Disk) → Disk → Seen D → List Event → Type 0
Happened tells opening w h = IsSomeAnd (tells w.disk) (λ now. IsHistory opening now w.events w.present h)

-- the history, the newest event first, with these texts as the input in the start of that child
abbrev pub begun_with : List ℕ → List ℕ → List ℕ → List Event → List Event
begun_with c message envelope [] = []
begun_with c message envelope ((Child parent own a program) ∷ before) =
    if bytes_eq a c then (Child parent own a (with_texts message envelope program)) ∷ before
    else (Child parent own a program ∷ begun_with c message envelope before)
begun_with c message envelope (e ∷ before) = e ∷ begun_with c message envelope before

-- an event gives a child its whole input, with which the child began in the later history
pub record IsGivenBy (e : Event) (h later : List Event) : Type 0 where
  pub parent : List ℕ
  pub own : Own
  pub slot : ℕ
  pub child : List ℕ
  pub message : List ℕ
  pub envelope : List ℕ
  pub is : e ≡ Act parent own 0
  pub due : own.due ≡ Give (port.Program slot) (netstring message ++ netstring envelope)
  pub came : own.came ≡ Gave
  pub later_is : later ≡ begun_with child message envelope h

-- what came before an event is what it was; but if the event gives a child its whole input, the child began with it
abbrev pub IsBefore : Event → List Event → List Event → Type 0
IsBefore e h later = (later ≡ h) ⊎ IsGivenBy e h later

-- Whatever happened in the old world, one event more happened in the new one. In a history the whole input of a child stands in its
-- start; so what happened before is told anew by an event that gives a child its input, and by no other.
abbrev pub GoesOn : {D : Type 0} → (D → Option Disk) → Seen D → Seen D → Type 0
GoesOn tells old new = (opening : Disk) (h : List Event) → Happened tells opening old h
    → (e : Event) × (later : List Event) × IsBefore e h later × Happened tells opening new (e ∷ later)

-- a start of that actor, with its generation if it is a member
abbrev pub starts : List ℕ → Kept → Bool
starts a (kept.Start b program) = bytes_eq b a
starts a (kept.Act b own) = false
starts a (kept.Child b own c program) = bytes_eq c a
starts a (kept.Feed b own c message envelope) = false
starts a (kept.Generation start) = is_member a
starts a (kept.Report slot letter text) = false
starts a (kept.End b read ready status) = false
starts a (kept.Stop b) = false
starts a (kept.Moment m) = false
starts a (kept.Halt how) = false

-- an actor of that name was started
abbrev pub was_started : List Kept → List ℕ → Bool
was_started events a = list_any (starts a) events

-- an event with which the life of that actor ends, if it lives: its end or its stop, or a machine stop
abbrev pub ends : List ℕ → Kept → Bool
ends a (kept.Start b program) = false
ends a (kept.Act b own) = false
ends a (kept.Child b own c program) = false
ends a (kept.Feed b own c message envelope) = false
ends a (kept.Generation start) = false
ends a (kept.Report slot letter text) = false
ends a (kept.End b read ready status) = bytes_eq b a
ends a (kept.Stop b) = bytes_eq b a
ends a (kept.Moment m) = false
ends a (kept.Halt how) = true

-- the newest life of an actor: not begun, lasting, or over with the event at this index
pub data Span : Type 0 where
  Unborn : Span
  Lasting : Span
  OverAt : (at : ℕ) → Span

-- after one event more, which has this index; who is over may start again, as a member does with its next generation
abbrev pub span_after : List ℕ → Kept → ℕ → Span → Span
span_after a event at Unborn = if starts a event then Lasting else Unborn
span_after a event at Lasting = if ends a event then OverAt at else Lasting
span_after a event at (OverAt before) = if starts a event then Lasting else OverAt before

-- by these events, the newest first
abbrev pub span_of : List ℕ → List Kept → Span
span_of a [] = Unborn
span_of a (event ∷ before) = span_after a event (length before) (span_of a before)

-- the life of that actor ended with the event at this index
abbrev pub EndsAt : List Kept → List ℕ → ℕ → Type 0
EndsAt events a at = span_of a (reverse events) ≡ OverAt at

-- the process number of the next actor after so many starts: 77 and on; it stands still at the last u32
abbrev pub pid_after : ℕ → ℕ
pid_after starts = min (77 + starts) (2 ^ 32 - 1)

-- the process number of the next actor
abbrev pub next_pid : List Kept → ℕ
next_pid events = pid_after (sum_by starts_in events)

-- the world after the start of a mail
abbrev pub started_world : {D : Type 0} → Seen D → List ℕ → List ℕ → List ℕ → Seen D
started_world old name message envelope = record {
  disk = old.disk;
  events = old.events ++ kept.Start name (Injector (mail (next_pid old.events) old.present message envelope)) ∷ [];
  present = old.present;
}

-- how many bytes a program takes at once: a cleaner a piece, any other all that lies there
abbrev pub most_of : Program → ℕ
most_of (Cleaner start) = PIECE
most_of other = 18446744073709551615

-- the status of the program in a slot: in a world a remote program ends with 0
abbrev pub EndsInWorld : State → Option Tenant → GotData → Type 0
EndsInWorld s (Some (Runs a)) came = TenantEnds s (Some (Runs a)) came
EndsInWorld s (Some (Remote true)) came = came ≡ Ended 0
EndsInWorld s other came = ⊥

-- What comes of what is due to an actor in a world whose next process number is this: of a file call an answer; of a taking all
-- that lies there; a giving goes well, a program starts, and a command exits as its text says.
abbrev pub ComesWhole : State → ℕ → List ℕ → Program → NeedData → GotData → Type 0
ComesWhole s pid a program (File call) came = (told : Told) × (came ≡ Answered told)
ComesWhole s pid a program (Take (port.Status d)) came = EndsInWorld s (s.pipework.programs a d) came
ComesWhole s pid a program (Take port) came = offered (most_of program) (s.pipework.pipes a port) ≡ Some came
ComesWhole s pid a program (Give port bytes) came = came ≡ Gave
ComesWhole s pid a program (StartOf asked) came = came ≡ Started pid
ComesWhole s pid a program (Command bytes) came = came ≡ Ended (command_exits bytes)
ComesWhole s pid a program due came = ⊥

-- An event of that actor at this moment, in a world whose next process number is this: what was due, with all that it finds
-- ready, and what came of it.
pub record IsOwnOf (s : State) (pid present : ℕ) (a : List ℕ) (own : Own) : Type 0 where
  pub actor : Actor
  pub is : s.actors a ≡ Some actor
  pub read : own.read ≡ present
  pub ready : own.ready ≡ found_in s a
  pub due : next_of actor.program actor.past present (found_in s a) ≡ own.due
  pub came : ComesWhole s pid a actor.program own.due own.came

-- As what an event of an actor's past is kept: the start of a child as one, and what was given to an injector as its message and its
-- envelope.
abbrev pub IsKeptStart : Option (List ℕ × Program) → List ℕ → Own → Kept → Type 0
IsKeptStart None a own event = event ≡ kept.Act a own
IsKeptStart (Some born) a own event = event ≡ kept.Child a own born.0 born.1

abbrev pub IsKeptTo : Option Program → List ℕ → List ℕ → Own → List ℕ → Kept → Type 0
IsKeptTo (Some (Injector args)) c a own bytes event =
    (message envelope : List ℕ) × (bytes ≡ netstring message ++ netstring envelope) × (event ≡ kept.Feed a own c message envelope)
IsKeptTo other c a own bytes event = event ≡ kept.Act a own

abbrev pub IsKeptGiving : State → Option Tenant → List ℕ → Own → List ℕ → Kept → Type 0
IsKeptGiving s (Some (Runs c)) a own bytes event = IsKeptTo (program_of (s.actors c)) c a own bytes event
IsKeptGiving s other a own bytes event = event ≡ kept.Act a own

abbrev pub IsKeptBy : State → Counts → List ℕ → Own → NeedData → GotData → Kept → Type 0
IsKeptBy s before a own (StartOf asked) (Started pid) event = IsKeptStart (child_of before a asked pid own.read) a own event
IsKeptBy s before a own (Give (port.Program d) bytes) Gave event = IsKeptGiving s (s.pipework.programs a d) a own bytes event
IsKeptBy s before a own due came event = event ≡ kept.Act a own

-- An end of that actor with this status, at this moment: it was due, with all that it finds ready.
pub record IsEndOf (s : State) (present : ℕ) (a : List ℕ) (status : ℕ) : Type 0 where
  pub actor : Actor
  pub is : s.actors a ≡ Some actor
  pub due : next_of actor.program actor.past present (found_in s a) ≡ EndOf status

-- A step of that actor appends one event: what it did, or its end. Either was due, and it finds ready what the events so far tell.
abbrev pub IsStep : {D : Type 0} → List ℕ → Option ℕ → Seen D → Seen D → Type 0
IsStep a None old new =
    (own : Own) × (event : Kept) × IsOwnOf (known old.events) (next_pid old.events) old.present a own
    × IsKeptBy (known old.events) (counts_in old.events) a own own.due own.came event × (new.events ≡ old.events ++ event ∷ [])
IsStep a (Some status) old new =
    IsEndOf (known old.events) old.present a status × (new.events ≡ old.events ++ kept.End a old.present (found_in (known old.events) a) status ∷ [])

-- a stop of that actor appends one event, and the present moment stays
abbrev pub IsStop : {D : Type 0} → List ℕ → Seen D → Seen D → Type 0
IsStop a old new = (new.events ≡ old.events ++ kept.Stop a ∷ []) × (new.present ≡ old.present)

-- the world after a moment came
abbrev pub moment_world : {D : Type 0} → Seen D → ℕ → Seen D
moment_world old m = record { disk = old.disk; events = old.events ++ kept.Moment m ∷ []; present = m }

-- the world after a machine stop of this name: one event more, and the present moment stays
abbrev pub IsHalt : {D : Type 0} → Survival → Seen D → Seen D → Type 0
IsHalt how old new = (new.events ≡ old.events ++ kept.Halt how ∷ []) × (new.present ≡ old.present)

-- whatever happened in the old world, this machine stop happened next, and left what its name says of the disk
abbrev pub GoesOnWith : {D : Type 0} → (D → Option Disk) → Survival → Seen D → Seen D → Type 0
GoesOnWith tells how old new = (opening : Disk) (h : List Event) → Happened tells opening old h
    → (contents : ℕ → List ℕ) × Happened tells opening new (Halt how contents ∷ h)

-- the world is as before, by all that its disk tells
pub record IsAsBefore {D : Type 0} (tells : D → Option Disk) (plan : D → Option Plan) (old new : Seen D) : Type 0 where
  pub events : new.events ≡ old.events
  pub present : new.present ≡ old.present
  pub disk : tells new.disk ≡ tells old.disk
  pub plan_is : plan new.disk ≡ plan old.disk

-- what the plan of a disk says of an event, and what is left of it: a call is by the plan, and nothing else uses it up
abbrev pub IsPlannedEvent : Kept → Option Plan → Option Plan → Option Disk → Option Disk → Type 0
IsPlannedEvent (kept.Start a program) old new told told_after = new ≡ old
IsPlannedEvent (kept.Act a own) old new disk disk_after = IsPlannedOwn own.due own.came old new disk disk_after
IsPlannedEvent (kept.Child a own c program) old new told told_after = new ≡ old
IsPlannedEvent (kept.Feed a own c message envelope) old new told told_after = new ≡ old
IsPlannedEvent (kept.Generation start) old new told told_after = new ≡ old
IsPlannedEvent (kept.Report slot letter text) old new told told_after = new ≡ old
IsPlannedEvent (kept.End a read ready status) old new told told_after = new ≡ old
IsPlannedEvent (kept.Stop a) old new told told_after = new ≡ old
IsPlannedEvent (kept.Moment m) old new told told_after = new ≡ old
IsPlannedEvent (kept.Halt how) old new told told_after = new ≡ old

-- The one event that was appended is by the plan that the disk had, and the disk has what is left of it.
abbrev pub GoesByPlan : {D : Type 0} → (D → Option Plan) → (D → Option Disk) → D → D → List Kept → List Kept → Type 0
GoesByPlan plan tells old new before now =
    (e : Kept) → now ≡ before ++ e ∷ [] → IsPlannedEvent e (plan old) (plan new) (tells old) (tells new)
