-- What a sender's past says of a channel (qmail-send(8)), from its events alone: which records of the open pass are still to
-- be given, which attempts are in flight, and which records are still to be marked, after which note.
use Rattle.std.specs.Prelude.{ℕ, List, [], ◌∷◌, ◌++◌, length, drop, Bool, true, false, ◌&&◌, Option, Some, None, if◌then◌else◌, ◌==◌, nat_lt, slice_get}
use Rattle.std.specs.List.{filter_map}
use Rattle.call_fs.specs.declared.calls.Answer.{Answer}
use Rattle.call_fs.specs.declared.calls.Answer.TheVariants as answer
use Rattle.call_fs.specs.declared.calls.CallData.{CallData}
use Rattle.call_fs.specs.declared.calls.CallData.TheVariants as call
use Rattle.call_fs.specs.declared.calls.Fd.{Fd}
use Rattle.call_fs.specs.declared.calls.FsError.TheVariants as why
use Rattle.call_fs.specs.declared.calls.How.TheVariants as how
use Rattle.call_fs.specs.declared.calls.Told.{Told}
use Rattle.call_fs.specs.declared.past.GotData.{GotData}
use Rattle.call_fs.specs.declared.past.GotData.TheVariants as came
use Rattle.call_fs.specs.declared.past.NeedData.{NeedData}
use Rattle.call_fs.specs.declared.past.NeedData.TheVariants as needs
use Rattle.call_fs.specs.declared.past.Own.{Own}
use Rattle.call_fs.specs.declared.program.Port.{Port}
use Rattle.call_fs.specs.declared.program.Port.TheVariants as port
use Rattle.call_fs.specs.Maps.{put}
use Rattle.envelope_records.specs.declared.channel.Record.{Record}
use Rattle.queue_paths.specs.Names.{Name, parse}
use Rattle.queue_paths.specs.Names.Name.{Of}
use Rattle.queue_paths.specs.Names.Part.{Bounce as BounceFile, Local as LocalFile, Remote as RemoteFile}
use Rattle.send_jobs.specs.declared.attempts.Failure.{Failure}
use Rattle.send_known.specs.declared.channel.Channel.{Channel}
use Rattle.send_known.specs.declared.channel.Channel.TheVariants.{Local, Remote}
use Rattle.send_jobs.specs.Failures.{failure_in, is_final}
use Rattle.send_links.specs.Records.{records_of}
use Rattle.spawn_protocol.specs.declared.report.Report.{Report}
use Rattle.spawn_protocol.specs.Report.{counted, read_on}
use Rattle.spawn_protocol.specs.Report.Reader.{AtBegin}
use Rattle.send_core.specs.Births.{is_late}

-- The records of a channel file

-- A recipient's record: the message, the place of its letter in the channel file, the address, and whether its pass is a dying one, so
-- that it isn't tried again whatever is reported.
pub record Task : Type 0 where
  pub n : ℕ
  pub place : ℕ
  pub address : List ℕ
  pub dying : Bool

-- A record that isn't tried again and is to be marked, and what is noted of it before: nothing after K, and else the text of its
-- report and whether the message is too old to be tried again.
pub record Owed : Type 0 where
  pub task : Task
  pub note : Option Failure

-- if it reads `T`
abbrev pub task_if : ℕ → Bool → Record → Option Task
task_if n dying r = if r.done then None else Some (record { n = n; place = r.place; address = r.address; dying = dying })

abbrev pub tasks_by : ℕ → Bool → Option (List Record) → List Task
tasks_by n dying None = []
tasks_by n dying (Some records) = filter_map (task_if n dying) records

-- Those of these bytes that read `T`, in order; none if the bytes aren't records alone. Of `Ta@x`, NUL, `Db@x`, NUL, `Tc@x`, NUL of
-- message 7 they are (7, 0, a@x) and (7, 10, c@x).
abbrev pub tasks_in : ℕ → Bool → List ℕ → List Task
tasks_in n dying bytes = tasks_by n dying (records_of bytes)

-- The file at work

-- A channel file that is being read: whose it is, its descriptor, the bytes so far, whether the last read brought fewer bytes than
-- were asked for, and whether a pass that began at its open is a dying one.
pub record Source : Type 0 where
  pub channel : Channel
  pub n : ℕ
  pub fd : Fd
  pub bytes : List ℕ
  pub over : Bool
  pub dying : Bool

pub data Work : Type 0 where
  -- a channel file is read
  Reading : (source : Source) → Work
  -- a bounce file is missing, and is to be created for a note
  Missing : Work
  -- a note is put into a bounce file; whether that is on the disk since
  Noting : (fd : Fd) (synced : Bool) → Work

-- for each message, whether a pass over it that begins now is a dying one
abbrev pub source_of : (ℕ → Bool) → Option Name → Fd → Option Work
source_of late (Some (Of LocalFile n)) fd = Some (Reading (record { channel = Local; n = n; fd = fd; bytes = []; over = false; dying = late n }))
source_of late (Some (Of RemoteFile n)) fd = Some (Reading (record { channel = Remote; n = n; fd = fd; bytes = []; over = false; dying = late n }))
source_of late other fd = None

abbrev pub opened_as : (ℕ → Bool) → Option Name → Answer → Option Work
opened_as late name (answer.Opened fd) = source_of late name fd
opened_as late name other = None

-- one of which a read failed isn't read whole
abbrev pub longer : Source → ℕ → Answer → List ℕ → Option Work
longer s len (answer.Count count) bytes = Some (Reading (record s { bytes = s.bytes ++ bytes; over = nat_lt (length bytes) len }))
longer s len told bytes = None

-- a read goes on with it if it is by its descriptor, from the end of the bytes so far
abbrev pub goes_on : Source → Fd → ℕ → Bool
goes_on s fd at = (fd.0 == s.fd.0) && (at == length s.bytes)

abbrev pub read_more : Option Work → Fd → ℕ → ℕ → Told → Option Work
read_more None fd at len told = None
read_more (Some (Reading s)) fd at len told = if goes_on s fd at then longer s len told.answer told.bytes else Some (Reading s)
read_more (Some Missing) fd at len told = Some Missing
read_more (Some (Noting f synced)) fd at len told = Some (Noting f synced)

-- a bounce file was opened for a note, or was created
abbrev pub note_opened : Option Name → Answer → Option Work
note_opened (Some (Of BounceFile n)) (answer.Opened fd) = Some (Noting fd false)
note_opened (Some (Of BounceFile n)) (answer.Refused why.NotThere) = Some Missing
note_opened name told = None

abbrev pub note_created : Option Name → Answer → Option Work
note_created (Some (Of BounceFile n)) (answer.Created fd number) = Some (Noting fd false)
note_created name told = None

abbrev pub note_synced : Option Work → Fd → Answer → Option Work
note_synced None fd told = None
note_synced (Some (Reading s)) fd told = Some (Reading s)
note_synced (Some Missing) fd told = Some Missing
note_synced (Some (Noting f synced)) fd answer.Done = Some (Noting f (fd.0 == f.0))
note_synced (Some (Noting f synced)) fd told = Some (Noting f synced)

abbrev pub work_on : (ℕ → Bool) → Option Work → CallData → Told → Option Work
work_on late before (call.Open name how.Read) told = opened_as late (parse name) told.answer
work_on late before (call.Open name how.Append) told = note_opened (parse name) told.answer
work_on late before (call.CreateExcl name) told = note_created (parse name) told.answer
work_on late before (call.ReadAt fd at len) told = read_more before fd at len told
work_on late before (call.Sync fd) told = note_synced before fd told.answer
work_on late before (call.Close fd) told = None
work_on late before call told = before

abbrev pub work_by : (ℕ → Bool) → Option Work → NeedData → GotData → Option Work
work_by late before (needs.File call) (came.Answered told) = work_on late before call told
work_by late before due came = before

-- after a past, newest event first: from its open until a close, or until a read fails
abbrev pub work : List Own → Option Work
work [] = None
work (event ∷ before) = work_by (λ n. is_late before n event.read) (work before) event.due event.came

-- What an event is on a channel

pub data Happening : Type 0 where
  Nothing : Happening
  -- bytes came of the spawner
  Takes : (bytes : List ℕ) → Happening
  -- a request for this slot was given
  Gives : (slot : ℕ) → Happening
  -- a channel file was read whole
  Reads : (tasks : List Task) → Happening
  -- a channel file was opened for a mark, or couldn't be
  Marks : Happening
  -- the note of the first record to be marked couldn't be written
  GivesUp : Happening

abbrev pub taken : Port → Channel → GotData → Happening
taken port.Lspawn Local (came.Took bytes) = Takes bytes
taken port.Rspawn Remote (came.Took bytes) = Takes bytes
taken p c got = Nothing

abbrev pub given : Port → Channel → List ℕ → GotData → Happening
given port.Lspawn Local (slot ∷ rest) came.Gave = Gives slot
given port.Rspawn Remote (slot ∷ rest) came.Gave = Gives slot
given p c text got = Nothing

abbrev pub whole_of : Channel → Channel → Source → Happening
whole_of Local Local s = Reads (tasks_in s.n s.dying s.bytes)
whole_of Remote Remote s = Reads (tasks_in s.n s.dying s.bytes)
whole_of other c s = Nothing

-- a close of it comes after a read that brought fewer bytes than were asked for
abbrev pub ends : Source → Fd → Bool
ends s fd = (fd.0 == s.fd.0) && s.over

abbrev pub closed_if : Bool → Source → Channel → Happening
closed_if true s c = whole_of s.channel c s
closed_if false s c = Nothing

-- The mark of a note is the first one of the local channel, and if that has none the first one of the remote channel: what is to
-- be marked of the local channel is told beside it.
abbrev pub given_up : Channel → List Owed → Happening
given_up Local owed = GivesUp
given_up Remote [] = GivesUp
given_up Remote (first ∷ rest) = Nothing

-- a bounce file that is closed without a sync after the note has no whole note
abbrev pub note_closed : Bool → Channel → List Owed → Happening
note_closed true c owed = Nothing
note_closed false c owed = given_up c owed

abbrev pub closed : Option Work → Fd → List Owed → Channel → Happening
closed None fd owed c = Nothing
closed (Some (Reading s)) fd owed c = closed_if (ends s fd) s c
closed (Some Missing) fd owed c = Nothing
closed (Some (Noting f synced)) fd owed c = note_closed synced c owed

-- a file was opened for writing, or couldn't be
abbrev pub opened : Option Name → Channel → Happening
opened (Some (Of LocalFile n)) Local = Marks
opened (Some (Of RemoteFile n)) Remote = Marks
opened name c = Nothing

-- a bounce file couldn't be opened for a note, though it isn't missing, or couldn't be created; no other file is opened to append
abbrev pub unopened_note : Answer → List Owed → Channel → Happening
unopened_note (answer.Opened fd) owed c = Nothing
unopened_note (answer.Refused why.NotThere) owed c = Nothing
unopened_note told owed c = given_up c owed

abbrev pub uncreated_note : Option Name → Answer → List Owed → Channel → Happening
uncreated_note (Some (Of BounceFile n)) (answer.Created fd number) owed c = Nothing
uncreated_note (Some (Of BounceFile n)) told owed c = given_up c owed
uncreated_note name told owed c = Nothing

abbrev pub called : CallData → Told → Option Work → List Owed → Channel → Happening
called (call.Close fd) told s owed c = closed s fd owed c
called (call.Open name how.Write) told s owed c = opened (parse name) c
called (call.Open name how.Append) told s owed c = unopened_note told.answer owed c
called (call.CreateExcl name) told s owed c = uncreated_note (parse name) told.answer owed c
called other told s owed c = Nothing

-- with the file that was at work before it, and what was to be marked of the local channel
abbrev pub happening : NeedData → GotData → Option Work → List Owed → Channel → Happening
happening (needs.File call) (came.Answered told) s owed c = called call told s owed c
happening (needs.Take p) got s owed c = taken p c got
happening (needs.Give p text) got s owed c = given p c text got
happening due got s owed c = Nothing

-- The account of a channel

pub record Account : Type 0 where
  -- how many deliveries its spawner runs at once, as the first byte that was taken of it says; 0 before that
  pub limit : ℕ
  -- what was taken of its spawner after the first taking; none before that
  pub heard : Option (List ℕ)
  -- the records of the file that was read last that weren't given since
  pub to_give : List Task
  -- in each slot the record of which a request was given, and no report taken since
  pub in_flight : ℕ → Option Task
  -- the records of which a final report was taken, in this order, without those whose files were opened for a mark and those whose
  -- note couldn't be written
  pub to_mark : List Owed

abbrev pub none_yet : Account
none_yet = record { limit = 0; heard = None; to_give = []; in_flight = λ slot. None; to_mark = [] }

abbrev pub reports_in : List ℕ → List Report
reports_in bytes = (read_on AtBegin bytes).0

-- the reports that end in these bytes, which came after those
abbrev pub news : List ℕ → List ℕ → List Report
news before bytes = drop (length (reports_in before)) (reports_in (before ++ bytes))

-- a final report leads to a mark: K, D, and in a dying pass any other letter
abbrev pub mark_if : Bool → Owed → List Owed → List Owed
mark_if true it owed = owed ++ it ∷ []
mark_if false it owed = owed

abbrev pub owed_by : Task → Report → Owed
owed_by t r = record { task = t; note = failure_in r }

abbrev pub settle_by : Option Task → Report → Account → Account
settle_by None r a = a
settle_by (Some t) r a = record a { in_flight = put a.in_flight r.slot None; to_mark = mark_if (is_final (counted r.letter) t.dying) (owed_by t r) a.to_mark }

-- a report was taken: of the attempt in its slot, if one is in flight there
abbrev pub settle : Report → Account → Account
settle r a = settle_by (a.in_flight r.slot) r a

abbrev pub settle_all : List Report → Account → Account
settle_all [] a = a
settle_all (r ∷ rs) a = settle_all rs (settle r a)

abbrev pub first_of : List ℕ → ℕ
first_of [] = 0
first_of (byte ∷ rest) = byte

abbrev pub took : Option (List ℕ) → List ℕ → Account → Account
took None bytes a = record a { limit = first_of bytes; heard = Some [] }
took (Some before) bytes a = settle_all (news before bytes) (record a { heard = Some (before ++ bytes) })

abbrev pub account_by : Happening → Account → Account
account_by Nothing a = a
account_by (Takes bytes) a = took a.heard bytes a
account_by (Gives slot) a = record a { to_give = drop 1 a.to_give; in_flight = put a.in_flight slot (slice_get a.to_give 0) }
account_by (Reads tasks) a = record a { to_give = tasks }
account_by Marks a = record a { to_mark = drop 1 a.to_mark }
account_by GivesUp a = record a { to_mark = drop 1 a.to_mark }

-- Of a past, newest event first. When that file was read whole and a request for slot 0 given, c is still to be given and a in
-- flight in slot 0; after the bytes 0, `Kok`, NUL nothing is in flight and a is to be marked; after the bytes 0, `Dno`, NUL a is to
-- be marked after a note of `no`; after the open of the file for writing none is to be marked.
abbrev pub account : Channel → List Own → Account
account c [] = none_yet
account c (event ∷ before) = account_by (happening event.due event.came (work before) (account Local before).to_mark c) (account c before)
