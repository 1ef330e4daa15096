-- Histories: what happens, the state after it, and which histories are legal. A history is the list of its events,
-- the newest first, so that what is left of it is a history too.
use Rattle.std.specs.Prelude.{◌≡◌, ◌≢◌, ◌⊎◌, ℕ, ◌+◌, ◌^◌, ◌<◌, ◌≤◌, List, [], ◌∷◌, ◌++◌, length, Bool, true, false, Option, Some, None, option_map, if◌then◌else◌, bytes_eq, codes, Contains}
use Rattle.call_fs.specs.declared.calls.CallData.{CallData}
use Rattle.call_fs.specs.declared.calls.CallData.TheVariants.{Append}
use Rattle.call_fs.specs.declared.calls.Answer.{Answer}
use Rattle.call_fs.specs.declared.calls.Told.{Told}
use Rattle.call_fs.specs.declared.program.Port.TheVariants as port
use Rattle.call_fs.specs.declared.program.Ready.{Ready}
use Rattle.call_fs.specs.declared.crash_file_system.Survival.{Survival}
use Rattle.call_fs.specs.Maps.{put_at}
use Rattle.call_fs.specs.Disk.{Disk, IsSynced}
use Rattle.mail_bytes.specs.Moments.{IsMoment}
use Rattle.call_fs.specs.Apply.{effect, Fits, IsReadBy}
use Rattle.call_fs.specs.Survival.{AllSurvive, halted}
use Rattle.call_fs.specs.declared.past.ChildData.{ChildData}
use Rattle.call_fs.specs.declared.past.ChildData.TheVariants as child
use Rattle.call_fs.specs.declared.past.GotData.{GotData}
use Rattle.call_fs.specs.declared.past.GotData.TheVariants.{Answered, Ended, Crashed, Gave, Started, Failed, Memory}
use Rattle.call_fs.specs.declared.past.NeedData.{NeedData}
use Rattle.call_fs.specs.declared.past.NeedData.TheVariants as needs
use Rattle.call_fs.specs.declared.past.Own.{Own}
use Rattle.call_fs.specs.Past.{HasCall}
use Rattle.call_fs.specs.Program.{IsKind}
use Rattle.received_line.specs.declared.line.Invoked.TheVariants as invoking
use Rattle.queue_limits.specs.declared.times.TheConstants.{LONGEST_STALL}
use Rattle.queue_inject.specs.declared.injection.InputEnd.TheVariants.{Whole}
use Rattle.queue_paths.specs.Dirs.{queue_dirs}
use Rattle.queue_paths.specs.Names.{Part, path}
use Rattle.queue_paths.specs.Names.Name.{Of}
use Rattle.queue_inject.specs.Table.{Next, has_input}
use Rattle.queue_clean.specs.Table.{Next as CleansNext}
use Rattle.queue_law.specs.Entered.{Child as Bouncer}
use Rattle.send_core.specs.Booked.{booked_at}
use Rattle.send_core.specs.Table.{Next as SendsNext, place_after as sender_after, row_now}
use Rattle.local_spawn.specs.Table.{Next as LspawnNext}
use Rattle.local_deliver.specs.Table.{Next as DeliversNext}
use Rattle.local_parts.specs.Arguments.{local_args}
use Rattle.remote_spawn.specs.Table.{Next as SpawnsNext}
use Rattle.world_events.specs.declared.event.Program.{Program}
use Rattle.world_events.specs.declared.event.Program.TheVariants.{Injector, Cleaner, Sender, LocalSpawner, RemoteSpawner, Delivery}
use Rattle.actor_names.specs.declared.member.Member.{Member}
use Rattle.actor_names.specs.declared.member.Member.TheVariants as member
use Rattle.world_events.specs.Programs.{StartsAlone, class_of, generation}
use Rattle.actor_names.specs.MailNames.{members}
use Rattle.mail_world.specs.Pipework.{Pipework, Tenant, Slot, is_ready, Yields, no_pipework, slot_of, pipework_after, with_child, without_writer, with_generation, with_report}
use Rattle.mail_world.specs.Pipework.Tenant.{Runs, Remote}
-- a text as a netstring, and the output of a remote program that its report stands for
pub use Rattle.mail_bytes.specs.Netstring.{netstring}
pub use Rattle.world_pipes.specs.Mouths.{report_text}
-- whether an actor's event started a program
pub use Rattle.world_events.specs.Starting.{starts_program}
-- the injections of the books
pub use Rattle.queue_law.specs.Books.{own_call, last_read, Injection, Books, begun, accept, linked, booked, held_by}
pub use Rattle.queue_law.specs.Entered.{booked_all}

-- One event. `own` is an event of the actor's own past, and the start of a child is its parent's too. `wrote` is how many
-- bytes a failed write had written, or a failed giving had given, which no program is told. A generation is what its
-- members run, in their order, who start together. A report is the end of the remote program in a slot, with all that it wrote; with which status
-- it ended is told when that is taken. `contents` is what a machine stop left of each file; `how` is what it was called, and
-- limits nothing.
pub data Event : Type 0 where
  Start : (actor : List ℕ) (program : Program) → Event
  Act : (actor : List ℕ) (own : Own) (wrote : ℕ) → Event
  Child : (parent : List ℕ) (own : Own) (actor : List ℕ) (program : Program) → Event
  Generation : (crew : List Program) → Event
  Report : (slot : ℕ) (output : List ℕ) → Event
  End : (actor : List ℕ) (read : ℕ) (ready : Ready) (status : ℕ) → Event
  Stop : (actor : List ℕ) → Event
  Moment : ℕ → Event
  Halt : (how : Survival) (contents : ℕ → List ℕ) → Event

-- an actor's file call
abbrev pub call_act : List ℕ → ℕ → Ready → CallData → Told → ℕ → Event
call_act a read ready call told wrote = Act a (own_call read ready call told) wrote

-- how many programs an event starts: each takes a process number, a remote program too
abbrev pub started_by : Event → ℕ
started_by (Start a program) = 1
started_by (Act a own wrote) = if starts_program own.due own.came then 1 else 0
started_by (Child parent own a program) = 1
started_by (Generation crew) = length crew
started_by (Report slot output) = 0
started_by (End a read ready status) = 0
started_by (Stop a) = 0
started_by (Moment m) = 0
started_by (Halt how contents) = 0

-- What a program must do next: after this past, newest event first, at this moment, with this ready. A sender has no last turn.
abbrev pub next_of : Program → List Own → ℕ → Ready → NeedData
next_of (Injector args) past now ready = Next args past now ready
next_of (Cleaner start) past now ready = CleansNext tt past now ready
next_of (Sender start) past now ready = SendsNext None past now ready
next_of (LocalSpawner start) past now ready = LspawnNext tt past now ready
next_of (RemoteSpawner start) past now ready = SpawnsNext tt past now ready
next_of (Delivery start args) past now ready = DeliversNext args past now ready

-- the moment at which a program was started
abbrev pub start_of : Program → ℕ
start_of (Injector args) = args.start
start_of (Cleaner start) = start
start_of (Sender start) = start
start_of (LocalSpawner start) = start
start_of (RemoteSpawner start) = start
start_of (Delivery start args) = start

-- alive, ended with a status, or stopped from outside
pub data Life : Type 0 where
  Alive : Life
  Over : (status : ℕ) → Life
  Stopped : Life

-- an actor: the program that it runs, its own past, newest event first, and whether it lives
pub record Actor : Type 0 where
  pub program : Program
  pub past : List Own
  pub life : Life

-- an actor that has just started
abbrev pub newborn : Program → Actor
newborn program = record { program = program; past = []; life = Alive }

-- what an actor runs
abbrev pub program_of : Option Actor → Option Program
program_of None = None
program_of (Some x) = Some x.program

-- The state after a history: the disk, who holds each open descriptor, the present moment, the actors, the books, and the
-- pipes and slots between actors.
pub record State : Type 0 where
  pub disk : Disk
  pub holder : ℕ → Option (List ℕ)
  pub now : ℕ
  pub actors : List ℕ → Option Actor
  pub books : Books
  pub pipework : Pipework

-- the injector of a bounce, which a sender has started: in its slot 0
abbrev pub bouncing : List ℕ → Program → Option Bouncer
bouncing a (Injector args) = Some (record { actor = a; args = args })
bouncing a other = None

abbrev pub bouncer_at : List ℕ → Option Actor → Option Bouncer
bouncer_at a None = None
bouncer_at a (Some x) = bouncing a x.program

abbrev pub bouncer_in : (List ℕ → Option Actor) → Option Tenant → Option Bouncer
bouncer_in actors (Some (Runs a)) = bouncer_at a (actors a)
bouncer_in actors tenant = None

abbrev pub bouncer_of : State → List ℕ → Option Bouncer
bouncer_of s a = bouncer_in s.actors (s.pipework.programs a 0)

-- What they say after a call, by the program that made it, of injections.
abbrev pub booked_by : Books → List ℕ → Program → CallData → Answer → Books
booked_by b a (Injector args) call answer = booked b a args call answer
booked_by b a other call answer = b

-- What a sender did is entered by what came, and with the controls that it has read: what the reports of a taking say, a note that is synced, what it
-- reads of a bounce file, a bounce whose injector ended with 0, and a bounce file that it drops. A mark and a todo command are entered whatever comes.
abbrev pub told_by : Option Bouncer → Books → Program → List Own → ℕ → Ready → GotData → Books
told_by child b (Sender start) past read ready came =
    let d = sender_after None past in booked_all child d.book.controls (booked_at (row_now d read ready) came d) b
told_by child b other past read ready came = b

-- What an event of an actor does to the disk, to the descriptors and to the books: a file call its effect, that and a taking and a giving what a
-- sender enters, any other nothing.
abbrev pub disk_after : Disk → ℕ → NeedData → GotData → ℕ → Disk
disk_after d read (needs.File call) (Answered told) wrote = effect d read call told.answer wrote
disk_after d read due came wrote = d

abbrev pub holder_after : (ℕ → Option (List ℕ)) → List ℕ → NeedData → GotData → ℕ → Option (List ℕ)
holder_after holder a (needs.File call) (Answered told) = held_by holder a call told.answer
holder_after holder a due came = holder

abbrev pub books_after : Option Bouncer → Books → List ℕ → Program → List Own → ℕ → Ready → NeedData → GotData → Books
books_after child b a program past read ready (needs.File call) (Answered told) = told_by child (booked_by b a program call told.answer) program past read ready (Answered told)
books_after child b a program past read ready (needs.Take port) came = told_by child b program past read ready came
books_after child b a program past read ready (needs.Give port bytes) came = told_by child b program past read ready came
books_after child b a program past read ready due came = b

-- the state after an event of an actor, which is the newest of its own past then
abbrev pub acted : State → List ℕ → Own → ℕ → Option Actor → State
acted s a own wrote None = s
acted s a own wrote (Some x) = record {
  disk = disk_after s.disk own.read own.due own.came wrote;
  holder = holder_after s.holder a own.due own.came;
  now = s.now;
  actors = put_at s.actors a (Some (record { program = x.program; past = own ∷ x.past; life = x.life }));
  books = books_after (bouncer_of s a) s.books a x.program x.past own.read own.ready own.due own.came;
  pipework = pipework_after s.pipework a own.due own.came wrote;
}

-- so after a file call
abbrev pub called : State → List ℕ → ℕ → Ready → CallData → Told → ℕ → Option Actor → State
called s a read ready call told wrote x = acted s a (own_call read ready call told) wrote x

-- a descriptor of that actor is gone
abbrev pub unless_by : {X : Type 0} → List ℕ → Option (List ℕ) → Option X → Option X
unless_by a None o = o
unless_by a (Some b) o = if bytes_eq b a then None else o

-- the descriptors of one actor are closed
abbrev pub shut_by : List ℕ → (ℕ → Option (List ℕ)) → Disk → Disk
shut_by a holder d = record { dirs = d.dirs; names = d.names; files = d.files; opens = λ fd. unless_by a (holder fd) (d.opens fd) }

-- an actor that ends or is stopped has its descriptors closed with that event
abbrev pub finished : State → List ℕ → Life → Option Actor → State
finished s a life None = s
finished s a life (Some x) = record {
  disk = shut_by a s.holder s.disk;
  holder = λ fd. unless_by a (s.holder fd) (s.holder fd);
  now = s.now;
  actors = put_at s.actors a (Some (record { program = x.program; past = x.past; life = life }));
  books = s.books;
  pipework = without_writer s.pipework a;
}

abbrev pub cut_off : Life → Life
cut_off Alive = Stopped
cut_off (Over status) = Over status
cut_off Stopped = Stopped

abbrev pub stopped : Actor → Actor
stopped x = record { program = x.program; past = x.past; life = cut_off x.life }

-- an actor has started
abbrev pub begins : State → List ℕ → Program → Pipework → State
begins s a program pipework = record {
  disk = s.disk;
  holder = s.holder;
  now = s.now;
  actors = put_at s.actors a (Some (newborn program));
  books = s.books;
  pipework = pipework;
}

-- the slot in which a child starts
abbrev pub slot_by : NeedData → ℕ
slot_by (needs.Start asked) = slot_of asked
slot_by due = 0

-- the state after the start of a child, which was its parent's event
abbrev pub bears : State → List ℕ → Own → List ℕ → Program → State
bears s parent own a program = begins s a program (with_child s.pipework parent (slot_by own.due) a)

-- The actors when each of these programs has started under its name. One that may start has all of them, so all members' pipes are new with it.
abbrev pub with_crew : List (List ℕ) → List Program → (List ℕ → Option Actor) → List ℕ → Option Actor
with_crew (a ∷ names) (program ∷ crew) actors = with_crew names crew (put_at actors a (Some (newborn program)))
with_crew names crew actors = actors

-- the state after one event more
abbrev pub happens : State → Event → State
happens s (Start a program) = begins s a program s.pipework
happens s (Act a own wrote) = acted s a own wrote (s.actors a)
happens s (Child parent own a program) = bears (acted s parent own 0 (s.actors parent)) parent own a program
happens s (Generation crew) = record {
  disk = s.disk;
  holder = s.holder;
  now = s.now;
  actors = with_crew members crew s.actors;
  books = s.books;
  pipework = with_generation s.pipework;
}
happens s (Report slot output) = record {
  disk = s.disk;
  holder = s.holder;
  now = s.now;
  actors = s.actors;
  books = s.books;
  pipework = with_report s.pipework slot output;
}
happens s (End a read ready status) = finished s a (Over status) (s.actors a)
happens s (Stop a) = finished s a Stopped (s.actors a)
happens s (Moment m) = record { disk = s.disk; holder = s.holder; now = m; actors = s.actors; books = s.books; pipework = s.pipework }
happens s (Halt how contents) = record {
  disk = halted contents s.disk;
  holder = λ _. None;
  now = s.now;
  actors = λ a. option_map stopped (s.actors a);
  books = s.books;
  pipework = no_pipework;
}

-- the last moment that an actor read
abbrev pub latest : Program → List Own → ℕ
latest program past = last_read (start_of program) past

-- A living actor may read this moment: none that lies before one that it read, or after the present one, and none
-- that lies over twelve hours back.
pub record MayRead (s : State) (a : List ℕ) (x : Actor) (read : ℕ) : Type 0 where
  pub is : s.actors a ≡ Some x
  pub alive : x.life ≡ Alive
  pub no_earlier : latest x.program x.past ≤ read
  pub no_later : read ≤ s.now
  pub no_stall : s.now ≤ read + LONGEST_STALL

-- a program that starts alone: no member of a generation, whose four start together, and no local delivery, which a local spawner starts
abbrev pub MayRun : Program → Type 0
MayRun program = StartsAlone (class_of program)

-- a start takes a name that no actor had, for a program that starts alone
pub record MayStart (s : State) (a : List ℕ) (program : Program) : Type 0 where
  pub new : s.actors a ≡ None
  pub runs : StartsAlone (class_of program)

-- a call is an append
abbrev pub IsAppend : CallData → Answer → Type 0
IsAppend (Append fd bytes) answer = Unit {0}
IsAppend call answer = ⊥

-- An injector may find its input ready: a mail's, which stands in its start, at any point; a child's before its first
-- append, and if it was given or its writer is gone.
abbrev pub InputIsFound : Pipework → List ℕ → Option Slot → List Own → Ready → Type 0
InputIsFound pipework a None past ready = Unit {0}
InputIsFound pipework a (Some slot) past ready =
    (HasCall past IsAppend → ⊥) ⊎ (has_input ready ≡ true → is_ready (pipework.pipes a port.Input) ≡ true)

-- nothing but its input is ready to an actor that has no other pipe, and no program in a slot
abbrev pub FindsInputAlone : Ready → Type 0
FindsInputAlone ready = (ready.links ≡ has_input ready ∷ false ∷ false ∷ false ∷ []) × (ready.child ≡ None)

-- its links to the cleaner and to the spawners, and its only child, the injector of a bounce
abbrev pub FindsItsLinks : Ready → Type 0
FindsItsLinks ready = (clean lspawn rspawn : Bool) × (ready.links ≡ clean ∷ lspawn ∷ rspawn ∷ false ∷ []) × ((ready.child ≡ None) ⊎ (ready.child ≡ Some 0))

-- its input, and a program in a slot
abbrev pub FindsInputOrChild : Ready → Type 0
FindsInputOrChild ready = ready.links ≡ has_input ready ∷ false ∷ false ∷ false ∷ []

-- What an actor found ready is no more than what lies in its pipes, and may be less. A member of a generation and a delivery may find
-- each of its pipes, and each program in a slot of its own, ready at any point: of a pipe in which nothing lies only a failure
-- may come (`Yields`), and so of a program that hasn't ended. A sender has one such slot.
abbrev pub MayFind : State → List ℕ → Program → List Own → Ready → Type 0
MayFind s a (Injector args) past ready = FindsInputAlone ready × InputIsFound s.pipework a (s.pipework.slots a) past ready
MayFind s a (Cleaner start) past ready = FindsInputAlone ready
MayFind s a (Sender start) past ready = FindsItsLinks ready
MayFind s a (LocalSpawner start) past ready = FindsInputOrChild ready
MayFind s a (RemoteSpawner start) past ready = FindsInputOrChild ready
MayFind s a (Delivery start args) past ready = FindsInputOrChild ready

-- a status of a program that has ended, or was stopped
abbrev pub IsStatusOf : Life → GotData → Type 0
IsStatusOf Alive came = ⊥
IsStatusOf (Over status) came = came ≡ Ended status
IsStatusOf Stopped came = came ≡ Crashed

-- how a process may end: with any status, or by a crash
abbrev pub IsEnding : GotData → Type 0
IsEnding (Ended status) = status < 2 ^ 8
IsEnding Crashed = Unit {0}
IsEnding came = ⊥

-- what may come of taking the status of the program in a slot
abbrev pub TenantEnds : State → Option Tenant → GotData → Type 0
TenantEnds s (Some (Runs a)) came = (x : Actor) × (s.actors a ≡ Some x) × IsStatusOf x.life came
TenantEnds s (Some (Remote true)) came = IsEnding came
TenantEnds s other came = ⊥

-- these bytes are the whole input of a child: of an injector its message and its envelope, each as a netstring. A delivery takes what it
-- is given.
abbrev pub IsInputOf : Program → List ℕ → Type 0
IsInputOf (Injector args) bytes =
    (bytes ≡ netstring args.message ++ netstring args.envelope) × (args.message_end ≡ Whole) × (args.envelope_end ≡ Whole)
IsInputOf (Delivery start args) bytes = Unit {0}
IsInputOf other bytes = ⊥

-- What is given to a child is the input that stands in its start. A remote program takes what it is given.
abbrev pub IsFed : State → Option Tenant → List ℕ → Type 0
IsFed s (Some (Runs a)) bytes = (x : Actor) → s.actors a ≡ Some x → IsInputOf x.program bytes
IsFed s other bytes = Unit {0}

-- What may come of what was due: of a file call an answer that the disk may give, with the bytes of a read; of a taking
-- what lies in the pipe; of a giving that it was given, or a failure after some of the bytes; of a start that was no child's
-- a remote program's, or a failure. A child's start is an event of its own.
abbrev pub ComesOf : State → List ℕ → NeedData → GotData → ℕ → Type 0
ComesOf s a (needs.File call) (Answered told) wrote = Fits s.disk call told.answer wrote × IsReadBy s.disk call told
ComesOf s a (needs.Take (port.Status d)) came wrote = (came ≡ Failed) ⊎ TenantEnds s (s.pipework.programs a d) came
ComesOf s a (needs.Take port) came wrote = Yields (s.pipework.pipes a port) came
ComesOf s a (needs.Give (port.Program d) bytes) Gave wrote = IsFed s (s.pipework.programs a d) bytes
ComesOf s a (needs.Give port bytes) Gave wrote = Unit {0}
ComesOf s a (needs.Give port bytes) Failed wrote = wrote ≤ length bytes
ComesOf s a (needs.Start (child.Remote slot domain sender recipient)) (Started pid) wrote = Unit {0}
ComesOf s a (needs.Start asked) Failed wrote = Unit {0}
ComesOf s a (needs.Start asked) Memory wrote = Unit {0}
ComesOf s a (needs.Command bytes) came wrote = IsKind (needs.Command bytes) came
ComesOf s a due came wrote = ⊥

-- what an actor does is next by its table, and what came of it may come
pub record MayDo (s : State) (a : List ℕ) (own : Own) (wrote : ℕ) : Type 0 where
  pub actor : Actor
  pub reads : MayRead s a actor own.read
  pub finds : MayFind s a actor.program actor.past own.ready
  pub due : next_of actor.program actor.past own.read own.ready ≡ own.due
  pub came : ComesOf s a own.due own.came wrote

-- the program of a child that was asked for, with this process number; the input of an injector is what its parent gives it later
abbrev pub IsProgramOf : ChildData → ℕ → Program → Type 0
IsProgramOf (child.Bounce room) pid (Injector args) = (args.invoked ≡ invoking.Bounce) × (args.uid ≡ 0) × (args.pid ≡ pid)
IsProgramOf (child.Forward uid room) pid (Injector args) = (args.invoked ≡ invoking.Uid uid) × (args.uid ≡ uid) × (args.pid ≡ pid)
IsProgramOf (child.Local slot words uid) pid (Delivery start args) = args ≡ local_args words uid pid
IsProgramOf asked pid program = ⊥

-- A child starts under a name that no actor had, if its start is next by the table of its parent, which is told its process
-- number. Its own clock tells its start, not before what its parent read.
pub record MayBear (s : State) (parent : List ℕ) (own : Own) (a : List ℕ) (program : Program) : Type 0 where
  pub actor : Actor
  pub reads : MayRead s parent actor own.read
  pub finds : MayFind s parent actor.program actor.past own.ready
  pub due : next_of actor.program actor.past own.read own.ready ≡ own.due
  pub asked : ChildData
  pub starts : own.due ≡ needs.Start asked
  pub pid : ℕ
  pub came : own.came ≡ Started pid
  pub new : s.actors a ≡ None
  pub is : IsProgramOf asked pid program
  pub no_earlier : own.read ≤ start_of program
  pub no_later : start_of program ≤ s.now

-- an actor that lives
pub record IsLiving (s : State) (a : List ℕ) : Type 0 where
  pub actor : Actor
  pub is : s.actors a ≡ Some actor
  pub alive : actor.life ≡ Alive

-- Which program each member of a generation is.
abbrev pub IsSender : Program → Type 0
IsSender (Sender start) = Unit {0}
IsSender other = ⊥

abbrev pub IsCleaner : Program → Type 0
IsCleaner (Cleaner start) = Unit {0}
IsCleaner other = ⊥

abbrev pub IsLocalSpawner : Program → Type 0
IsLocalSpawner (LocalSpawner start) = Unit {0}
IsLocalSpawner other = ⊥

abbrev pub IsRemoteSpawner : Program → Type 0
IsRemoteSpawner (RemoteSpawner start) = Unit {0}
IsRemoteSpawner other = ⊥

-- a local delivery
abbrev pub IsDelivery : Program → Type 0
IsDelivery (Delivery start args) = Unit {0}
IsDelivery other = ⊥

-- which program a member runs
abbrev pub RunsAs : Member → Program → Type 0
RunsAs member.Sender program = IsSender program
RunsAs member.Cleaner program = IsCleaner program
RunsAs member.LocalSpawner program = IsLocalSpawner program
RunsAs member.RemoteSpawner program = IsRemoteSpawner program

-- these members run these programs, each its own
abbrev pub AreRunBy : List Member → List Program → Type 0
AreRunBy [] [] = Unit {0}
AreRunBy (one ∷ others) (program ∷ crew) = RunsAs one program × AreRunBy others crew
AreRunBy others crew = ⊥

-- A generation starts only when no member of the old one lives, and if no program that starts alone had one of their names.
pub record MayBegin (s : State) (crew : List Program) : Type 0 where
  pub over : (a : List ℕ) (x : Actor) → Contains members a → s.actors a ≡ Some x → x.life ≢ Alive
  pub apart : (a : List ℕ) (x : Actor) → Contains members a → s.actors a ≡ Some x → StartsAlone (class_of x.program) → ⊥
  pub kinds : AreRunBy generation crew

-- a report comes only for a slot in which the living remote spawner has a program without one
pub record MayReport (s : State) (slot : ℕ) : Type 0 where
  pub lives : IsLiving s (codes "rspawn")
  pub runs : s.pipework.programs (codes "rspawn") slot ≡ Some (Remote false)

-- an end that is next by the actor's table
pub record MayEnd (s : State) (a : List ℕ) (read : ℕ) (ready : Ready) (status : ℕ) : Type 0 where
  pub actor : Actor
  pub reads : MayRead s a actor read
  pub finds : MayFind s a actor.program actor.past ready
  pub due : next_of actor.program actor.past read ready ≡ needs.Ended status

-- a moment that comes: moments don't fall
pub record MayCome (s : State) (m : ℕ) : Type 0 where
  pub moment : IsMoment m
  pub no_earlier : s.now ≤ m

-- which events may happen in a state
abbrev pub Allowed : State → Event → Type 0
Allowed s (Start a program) = MayStart s a program
Allowed s (Act a own wrote) = MayDo s a own wrote
Allowed s (Child parent own a program) = MayBear s parent own a program
Allowed s (Generation crew) = MayBegin s crew
Allowed s (Report slot output) = MayReport s slot
Allowed s (End a read ready status) = MayEnd s a read ready status
Allowed s (Stop a) = IsLiving s a
Allowed s (Moment m) = MayCome s m
Allowed s (Halt how contents) = AllSurvive s.disk contents

-- An initial disk: the queue's directories are there, of the queue's names there are pid names at most, nothing
-- is open, and each file is synced.
pub record Opening (d : Disk) : Type 0 where
  pub dirs : (dir : List ℕ) → Contains queue_dirs dir → Contains d.dirs dir
  pub empty : (part : Part) (n : ℕ) → d.names (path (Of part n)) ≡ None
  pub shut : (fd : ℕ) → d.opens fd ≡ None
  pub settled : (name : List ℕ) (n : ℕ) → d.names name ≡ Some n → IsSynced (d.files n) (d.files n).bytes

abbrev pub opening : Disk → State
opening d = record { disk = d; holder = λ _. None; now = 0; actors = λ _. None; books = record { living = λ _. None; over = [] }; pipework = no_pipework }

-- the state after a history that began with this disk
abbrev pub after : Disk → List Event → State
after d [] = opening d
after d (event ∷ before) = happens (after d before) event

-- each event of a history that began with this disk might happen when it did
abbrev pub EachAllowed : Disk → List Event → Type 0
EachAllowed d [] = Unit {0}
EachAllowed d (event ∷ before) = EachAllowed d before × Allowed (after d before) event

-- A legal history: it began with an opening disk, and each event might happen when it did.
abbrev pub Legal : Disk → List Event → Type 0
Legal d [] = Opening d
Legal d (event ∷ before) = Legal d before × Allowed (after d before) event
