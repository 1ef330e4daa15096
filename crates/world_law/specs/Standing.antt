-- What else holds in each state of a legal history: of the numbers that a sender has in hand, of the channel files, and of injectors at work.
use Rattle.std.specs.Prelude.{◌≡◌, ◌⊎◌, ℕ, List, ◌∷◌, ◌++◌, flat_map, Bool, true, false, Option, Some, None, Contains, codes}
use Rattle.call_fs.specs.Disk.{Among, Disk, IsSynced}
use Rattle.call_fs.specs.declared.calls.CallData.{CallData}
use Rattle.call_fs.specs.declared.calls.CallData.TheVariants.{Link}
use Rattle.call_fs.specs.declared.past.NeedData.TheVariants as needs
use Rattle.call_fs.specs.declared.past.Own.{Own}
use Rattle.call_fs.specs.declared.program.Port.TheVariants as port
use Rattle.program_law.specs.Channel.Files.{IsOpen}
use Rattle.envelope_records.specs.declared.channel.Record.{Record}
use Rattle.local_spawn.specs.Table.{place_after as local_after}
use Rattle.local_parts.specs.declared.arguments.LocalArgs.{LocalArgs}
use Rattle.program_law.specs.Post.Posts.{HasPlainFields}
use Rattle.program_law.specs.Post.Senders.{is_on}
use Rattle.queue_inject.specs.declared.injection.Arguments.{Arguments}
use Rattle.queue_inject.specs.declared.row.Row.{Row}
use Rattle.queue_inject.specs.declared.row.Row.TheVariants as at
use Rattle.queue_inject.specs.Table.{place_after as inject_after}
use Rattle.queue_inject.specs.Texts.{intd_text, message_text}
use Rattle.queue_law.specs.Accounts.{AreOfRecipients}
use Rattle.queue_law.specs.Books.{Injection, lane_in}
use Rattle.queue_law.specs.Injectors.{InTime}
use Rattle.queue_law.specs.Numbers.Role.{AsOld}
use Rattle.queue_law.specs.Ledgers.{Named}
use Rattle.queue_law.specs.Marks.{IsMarked, MayBeMarked}
use Rattle.queue_law.specs.Routes.{lane_part}
use Rattle.queue_paths.specs.Names.{path, split_text}
use Rattle.queue_paths.specs.Names.Name.{Of}
use Rattle.queue_paths.specs.Names.Part.{Intd, Mess, Todo}
use Rattle.queue_paths.specs.Parts.{in_todo, parts_of}
use Rattle.queue_states.specs.declared.state.State.TheVariants.{S5}
use Rattle.queue_states.specs.States.{state_of}
use Rattle.send_core.specs.declared.desk.Desk.{Desk}
use Rattle.send_core.specs.Desk.{due_on}
use Rattle.send_core.specs.Table.{place_after as sender_after, row_now}
use Rattle.send_parts.specs.declared.row.Row.TheVariants.{Sweep}
use Rattle.send_jobs.specs.declared.attempts.Attempt.{Attempt}
use Rattle.send_known.specs.declared.channel.Channel.{Channel}
use Rattle.send_known.specs.declared.channel.Channel.TheVariants as channel
use Rattle.send_jobs.specs.Sending.{lane}
use Rattle.send_jobs.specs.Slots.{attempt_in}
use Rattle.send_links.specs.Records.{records_of}
use Rattle.send_parts.specs.declared.rows.SweepRow.TheVariants.{Give}
use Rattle.program_law.specs.Sender.Rows.{IsAged}
use Rattle.spawn_protocol.specs.declared.inbox.Intake.TheVariants as intake
use Rattle.spawn_protocol.specs.declared.request.Request.{Request}
use Rattle.spawn_protocol.specs.Request.{request_text}
use Rattle.spawner_parts.specs.declared.place.Place.{Place}
use Rattle.spawner_parts.specs.declared.row.Row.{Row as SpawnRow}
use Rattle.spawner_parts.specs.declared.row.Row.TheVariants as spawn
use Rattle.spawner_parts.specs.Asked.{runs_in}
use Rattle.program_law.specs.Sender.Views.{files_of}
use Rattle.world_events.specs.declared.event.Program.TheVariants.{Delivery, Injector, LocalSpawner, Sender}
use Rattle.world_pipes.specs.Pipework.Tenant.{Runs}
use Rattle.mail_world.specs.History.{Actor, Event, Legal, State, after}
use Rattle.mail_world.specs.History.Event.{Act}
use Rattle.mail_world.specs.History.Life.{Alive}
use Rattle.mail_world.specs.Untouched.{queue}

-- The sender

-- an attempt is at a record that reads `T`, of a message in S5
pub record IsAtRecord (s : State) (ch : Channel) (t : Attempt) : Type 0 where
  pub reads : IsOpen (files_of (queue s (λ n. AsOld)) ch) t
  pub stays : state_of s.disk t.n ≡ S5

-- So is each attempt that a sender has in flight or still to give, and no two slots have attempts at one record. Each message that is due on a
-- channel is in S5.
pub record HandsStand (s : State) (d : Desk) : Type 0 where
  pub flies : (ch : Channel) (slot : ℕ) (t : Attempt) → attempt_in (lane ch d.slots).slots slot ≡ Some t → IsAtRecord s ch t
  pub to_come : (ch : Channel) (t : Attempt) → Contains (lane ch d.slots).left t → IsAtRecord s ch t
  pub apart : (ch : Channel) (i j : ℕ) (t u : Attempt) → attempt_in (lane ch d.slots).slots i ≡ Some t → attempt_in (lane ch d.slots).slots j ≡ Some u → t.n ≡ u.n → t.place ≡ u.place → i ≡ j
  pub due : (ch : Channel) (e : ℕ × ℕ) → Contains (due_on ch d.book.messages) e → state_of s.disk e.1 ≡ S5

-- What a living sender has in hand stands.
abbrev pub HandsAlwaysStand : Type 0
HandsAlwaysStand = (d : Disk) (before : List Event) → Legal d before → (a : List ℕ) (x : Actor) → (after d before).actors a ≡ Some x
    → x.life ≡ Alive → (start : ℕ) → x.program ≡ Sender start → HandsStand (after d before) (sender_after None x.past)

-- Channel files

-- A channel file holds the text that preprocessing wrote for these recipients, except that `D` may stand at the place of one over which a sender
-- wrote a mark: it was reported delivered, or its note is synced. If it is read as records, then each is that of a recipient, and each recipient of
-- the channel has one.
pub record HoldsItsRecords (i : Injection) (ch : Channel) (bytes : List ℕ) : Type 0 where
  pub marked : IsMarked (lane_in i ch) i.ledger ch bytes
  -- whoever wrote a mark might: the recipient was reported delivered, or noted by the name that the same sender gives it
  pub may : (it : Named) → Among it i.ledger.marked → MayBeMarked i.ledger it
  pub routed : (records : List Record) → records_of bytes ≡ Some records → AreOfRecipients i ch records

-- After todo is gone so does each channel file, for the recipients of the accepted injection of its number that go to that channel, with their
-- routed addresses.
abbrev pub RecordsAreRouted : Type 0
RecordsAreRouted = (d : Disk) (before : List Event) → Legal d before → (n : ℕ) → in_todo (parts_of (after d before).disk.names n) ≡ None
    → (ch : Channel) (file : ℕ) → (after d before).disk.names (path (Of (lane_part ch) n)) ≡ Some file
    → (i : Injection) × ((after d before).books.living n ≡ Some i) × (i.accepted ≡ true) × HoldsItsRecords i ch ((after d before).disk.files file).bytes

-- Injectors

-- the number of the injection at which an injector is, once its message file is there
abbrev pub number_at : Row → Option ℕ
number_at (at.UnlinkPid seq n fd) = Some n
number_at (at.AppendMess n fd done) = Some n
number_at (at.SyncMess n fd) = Some n
number_at (at.CreateIntd n) = Some n
number_at (at.AppendTodo n fd done) = Some n
number_at (at.SyncTodo n fd) = Some n
number_at (at.LinkTodo n) = Some n
number_at (at.CleanIntd n status) = Some n
number_at (at.CleanMess n status) = Some n
number_at row = None

-- an injector that is at that number, and may call still
pub record IsInjecting (s : State) (a : List ℕ) (n : ℕ) : Type 0 where
  pub actor : Actor
  pub is : s.actors a ≡ Some actor
  pub alive : actor.life ≡ Alive
  pub args : Arguments
  pub program : actor.program ≡ Injector args
  pub number : number_at (inject_after args actor.past) ≡ Some n
  pub soon : InTime s.now args

-- No two injectors are at one number.
abbrev pub InjectionsAreApart : Type 0
InjectionsAreApart = (d : Disk) (before : List Event) → Legal d before → (n : ℕ) (a b : List ℕ)
    → IsInjecting (after d before) a n → IsInjecting (after d before) b n → a ≡ b

-- An injector makes a call within a day and the longest stall of its start.
abbrev pub InjectionsAreInTime : Type 0
InjectionsAreInTime = (d : Disk) (a : List ℕ) (own : Own) (wrote : ℕ) (before : List Event) → Legal d (Act a own wrote ∷ before) → (x : Actor) → (after d before).actors a ≡ Some x
    → (args : Arguments) → x.program ≡ Injector args → (call : CallData) → own.due ≡ needs.File call → InTime (after d before).now args

-- both files of an injection hold its texts, and all of them is on the disk
pub record AreWhole (d : Disk) (args : Arguments) (n : ℕ) : Type 0 where
  pub mess : ℕ
  pub mess_there : d.names (path (Of Mess n)) ≡ Some mess
  pub message : IsSynced (d.files mess) (message_text args).bytes
  pub intd : ℕ
  pub intd_there : d.names (path (Of Intd n)) ≡ Some intd
  pub text : IsSynced (d.files intd) (intd_text args).bytes

-- So they are before an injector makes the link to todo.
abbrev pub LinksAreOfWholeFiles : Type 0
LinksAreOfWholeFiles = (d : Disk) (a : List ℕ) (own : Own) (wrote : ℕ) (before : List Event) → Legal d (Act a own wrote ∷ before)
    → (x : Actor) → (after d before).actors a ≡ Some x → (args : Arguments) → x.program ≡ Injector args
    → (n : ℕ) → own.due ≡ needs.File (Link (path (Of Intd n)) (path (Of Todo n))) → AreWhole (after d before).disk args n

-- it is in flight, or still to be given
abbrev pub IsOut : Desk → Channel → Attempt → Type 0
IsOut d ch t = ((slot : ℕ) × (attempt_in (lane ch d.slots).slots slot ≡ Some t)) ⊎ Contains (lane ch d.slots).left t

-- The attempts that a sender had in flight or still to give are of numbers in S5 also once it has ended or was stopped, until a new generation
-- starts: so long a spawner may be at work on them.
abbrev pub FlightsStand : Type 0
FlightsStand = (d : Disk) (before : List Event) → Legal d before → (x : Actor) → (after d before).actors (codes "sender") ≡ Some x
    → (start : ℕ) → x.program ≡ Sender start → (ch : Channel) (t : Attempt) → IsOut (sender_after None x.past) ch t → state_of (after d before).disk t.n ≡ S5

-- The local spawner

-- a request is of the attempt in flight in its slot, for its recipient and of its message, which is in S5
pub record IsOfFlight (s : State) (d : Desk) (slot : ℕ) (r : Request) : Type 0 where
  pub attempt : Attempt
  pub flies : attempt_in (lane channel.Local d.slots).slots slot ≡ Some attempt
  pub recipient : r.recipient ≡ attempt.address
  pub mess : r.mess ≡ split_text attempt.n
  pub stays : state_of s.disk attempt.n ≡ S5

-- it reads the message of a request, or is to start its delivery
abbrev pub is_at_work : SpawnRow → Bool
is_at_work spawn.OpenMess = true
is_at_work (spawn.ReadMess fd) = true
is_at_work (spawn.CloseMess fd whole) = true
is_at_work spawn.Start = true
is_at_work row = false

-- the delivery that runs in a slot is for the attempt in flight there, of a message in S5
pub record RunsForFlight (s : State) (d : Desk) (slot : ℕ) : Type 0 where
  pub name : List ℕ
  pub runs : s.pipework.programs (codes "lspawn") slot ≡ Some (Runs name)
  pub delivery : Actor
  pub is : s.actors name ≡ Some delivery
  pub start : ℕ
  pub args : LocalArgs
  pub program : delivery.program ≡ Delivery start args
  pub attempt : Attempt
  pub flies : attempt_in (lane channel.Local d.slots).slots slot ≡ Some attempt
  pub recipient : attempt.address ≡ args.local ++ 64 ∷ args.domain
  pub stays : state_of s.disk attempt.n ≡ S5

-- So is each request that the local spawner hasn't read or taken up, the one at work, and what runs in each slot. What it hasn't read is
-- requests whose fields have no NUL, so it is no other ones. After a field that is too long it reads no more, and nothing is said of what
-- lies unread.
pub record HoldsFlights (s : State) (d : Desk) (p : Place) (given : List ℕ) : Type 0 where
  pub waits : List Request
  pub text : p.inbox.intake ≡ intake.Open → p.inbox.ahead ++ given ≡ flat_map request_text waits
  pub plain : (r : Request) → Among r waits → HasPlainFields r
  pub unread : (r : Request) → Among r waits → IsOfFlight s d r.slot r
  pub work : is_at_work p.row ≡ true → IsOfFlight s d p.request.slot p.request
  pub runs : (slot : ℕ) → runs_in p.running slot ≡ true → RunsForFlight s d slot

-- it hasn't ended
abbrev pub goes_on : SpawnRow → Bool
goes_on (spawn.Ended status) = false
goes_on row = true

-- So it is while both the sender and the local spawner live, and neither has ended or lost a link.
abbrev pub RequestsAreOfFlights : Type 0
RequestsAreOfFlights = (d : Disk) (before : List Event) → Legal d before
    → (x : Actor) → (after d before).actors (codes "sender") ≡ Some x → x.life ≡ Alive → (start : ℕ) → x.program ≡ Sender start → is_on (sender_after None x.past).row ≡ true
    → (y : Actor) → (after d before).actors (codes "lspawn") ≡ Some y → y.life ≡ Alive → (begun : ℕ) → y.program ≡ LocalSpawner begun → goes_on (local_after y.past).work.row ≡ true
    → HoldsFlights (after d before) (sender_after None x.past) (local_after y.past).work ((after d before).pipework.pipes (codes "lspawn") port.Input).bytes

-- The sweep

-- A sweep gives the cleaner a message to remove only if its file was written last more than 36 hours ago.
abbrev pub SweepsAreOld : Type 0
SweepsAreOld = (d : Disk) (a : List ℕ) (own : Own) (wrote : ℕ) (before : List Event) → Legal d (Act a own wrote ∷ before)
    → (x : Actor) → (after d before).actors a ≡ Some x → (start : ℕ) → x.program ≡ Sender start
    → (split n : ℕ) → row_now (sender_after None x.past) own.read own.ready ≡ Sweep (Give split n) → IsAged (after d before).now (queue (after d before) (λ i. AsOld)) n
