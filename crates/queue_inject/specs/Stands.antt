-- Which injector stands for which past, that it doesn't store.
use Rattle.std.specs.Prelude.{◌≡◌, ℕ, ◌≤◌, List, ◌++◌, length, take, drop, Option, Some, None, slice_get}
use Rattle.call_fs.specs.declared.past.Own.{Own}
use Rattle.envelope_records.specs.Envelope.{step, bytes_to, records_of, Reading, read_envelope, todo_head, HasRead}
use Rattle.envelope_records.specs.Envelope.Reading.{Whole, Open, Broken}
use Rattle.queue_inject.specs.declared.injection.Arguments.{Arguments}
use Rattle.queue_inject.specs.declared.injection.InputEnd.{InputEnd}
use Rattle.queue_inject.specs.declared.injection.Part.{Part}
use Rattle.queue_inject.specs.declared.injection.Part.TheVariants.{Message, Envelope}
use Rattle.queue_inject.specs.declared.intake.Verdict.{Verdict}
use Rattle.queue_inject.specs.declared.intake.Verdict.TheVariants as verdict
use Rattle.received_line.specs.declared.line.Invoked.{Invoked}
use Rattle.queue_inject.specs.declared.row.Row.{Row}
use Rattle.queue_inject.specs.declared.row.Row.TheVariants as at
use Rattle.received_line.specs.Received.{received_text}
use Rattle.queue_inject.specs.Texts.{Text, limit, fault_status, past_limit, message_text, intd_text}
use Rattle.queue_inject.specs.Table.{work_of, past_bytes, place_after}
use Rattle.queue_inject.specs.Machine.{Heard, Machine, asks}

-- What is known of a text after so many written bytes: the piece that comes next, and whether the text goes on after it,
-- or how it ends.
abbrev pub IsNext : Verdict → List ℕ → Text → ℕ → Type 0
IsNext verdict.Open piece text done = (rest : List ℕ) × (drop done text.bytes ≡ piece ++ rest)
IsNext verdict.Whole piece text done = (drop done text.bytes ≡ piece) × (text.fault ≡ None)
IsNext (verdict.Faulty status) piece text done = (drop done text.bytes ≡ piece) × (text.fault ≡ Some status)

-- The message

-- the text of the message file, as far as so many bytes of the message lead
abbrev pub message_read : Arguments → ℕ → List ℕ
message_read args fed = received_text args.pid args.invoked args.start ++ take limit (take fed args.message)

-- so much of the message was fed, within the limit, and of its text the bytes after the written ones are kept
pub record HearsOn (h : Heard) (args : Arguments) (done : ℕ) : Type 0 where
  pub inside : h.fed ≤ length args.message
  pub within : h.fed ≤ limit
  pub written : done ≤ length (message_read args h.fed)
  pub piece : h.piece ≡ drop done (message_read args h.fed)

abbrev pub HearsMessage : Verdict → Heard → Arguments → ℕ → Type 0
HearsMessage verdict.Open h args done = HearsOn h args done
HearsMessage verdict.Whole h args done = IsNext verdict.Whole h.piece (message_text args) done
HearsMessage (verdict.Faulty status) h args done = IsNext (verdict.Faulty status) h.piece (message_text args) done

-- The envelope

-- what an envelope is of which so many bytes were read, and then that one, past the limit
abbrev pub verdict_by : Reading → Option ℕ → Verdict
verdict_by (Whole sender recipients) next = verdict.Whole
verdict_by (Broken before fault) next = verdict.Faulty (fault_status fault)
verdict_by (Open stage) None = verdict.Open
verdict_by (Open stage) (Some b) = verdict.Faulty (past_limit (step stage b))

abbrev pub verdict_of : List ℕ → Verdict
verdict_of read = verdict_by (read_envelope (take limit read)) (slice_get read limit)

-- what of it stands in intd and todo
abbrev pub taken_by : Reading → List ℕ
taken_by (Whole sender recipients) = records_of sender recipients
taken_by (Open stage) = bytes_to stage
taken_by (Broken before fault) = before

abbrev pub taken : List ℕ → List ℕ
taken read = taken_by (read_envelope (take limit read))

-- These bytes of the envelope were fed; the todo text begins with that head, and its bytes after the written ones are
-- kept.
pub record Reads (h : Heard) (done : ℕ) (head read : List ℕ) : Type 0 where
  pub fed : h.fed ≡ length read
  pub verdict_is : h.verdict ≡ verdict_of read
  pub written : done ≤ length (head ++ taken read)
  pub piece : h.piece ≡ drop done (head ++ taken read)
  pub reader : h.verdict ≡ verdict.Open → HasRead read h.reader

pub record ReadsOn (h : Heard) (args : Arguments) (done : ℕ) : Type 0 where
  pub inside : h.fed ≤ length args.envelope
  pub read : Reads h done (todo_head args.uid args.pid) (take h.fed args.envelope)

abbrev pub HearsTodo : Verdict → Heard → Arguments → ℕ → Type 0
HearsTodo verdict.Open h args done = ReadsOn h args done
HearsTodo verdict.Whole h args done = IsNext verdict.Whole h.piece (intd_text args) done
HearsTodo (verdict.Faulty status) h args done = IsNext (verdict.Faulty status) h.piece (intd_text args) done

-- The past

-- what is held of the text that comes next
abbrev pub Hears : Row → Heard → Arguments → Type 0
Hears (at.Create seq) h args = HearsMessage h.verdict h args 0
Hears (at.LinkMess seq n fd) h args = HearsMessage h.verdict h args 0
Hears (at.UnlinkPid seq n fd) h args = HearsMessage h.verdict h args 0
Hears (at.AppendMess n fd done) h args = HearsMessage h.verdict h args done
Hears (at.AppendTodo n fd done) h args = HearsTodo h.verdict h args done
Hears row h args = Unit {0}

-- The injector stands for these arguments and this past, newest event first: it is theirs, it holds what comes next of
-- their texts, and the row after the past is the one to which their texts lead from where its last answer led.
pub record Stands (m : Machine) (args : Arguments) (past : List Own) : Type 0 where
  pub uid : m.uid ≡ args.uid
  pub pid : m.pid ≡ args.pid
  pub start : m.start ≡ args.start
  pub hears : Hears m.row m.heard args
  pub row : place_after args past ≡ past_bytes (work_of args) m.row

-- the arguments of an injector that was started so
pub record IsStartedBy (args : Arguments) (uid pid : ℕ) (invoked : Invoked) (start : ℕ) : Type 0 where
  pub uid_is : args.uid ≡ uid
  pub pid_is : args.pid ≡ pid
  pub invoked_is : args.invoked ≡ invoked
  pub start_is : args.start ≡ start

-- How the input goes on

-- an input goes on with these bytes after the first so many
pub record GoesOn (whole : List ℕ) (fed : ℕ) (bytes : List ℕ) : Type 0 where
  pub rest : List ℕ
  pub next : drop fed whole ≡ bytes ++ rest

-- the part of the arguments' input that is asked for goes on with these bytes
abbrev pub ContinuesBy : Option Part → ℕ → Arguments → List ℕ → Type 0
ContinuesBy None fed args bytes = Unit {0}
ContinuesBy (Some Message) fed args bytes = GoesOn args.message fed bytes
ContinuesBy (Some Envelope) fed args bytes = GoesOn args.envelope fed bytes

abbrev pub Continues : Machine → Arguments → List ℕ → Type 0
Continues m args bytes = ContinuesBy (asks m) m.heard.fed args bytes

-- it ends so after what was fed
abbrev pub EndsBy : Option Part → ℕ → Arguments → InputEnd → Type 0
EndsBy None fed args end = Unit {0}
EndsBy (Some Message) fed args end = (fed ≡ length args.message) × (args.message_end ≡ end)
EndsBy (Some Envelope) fed args end = (fed ≡ length args.envelope) × (args.envelope_end ≡ end)

abbrev pub Ends : Machine → Arguments → InputEnd → Type 0
Ends m args end = EndsBy (asks m) m.heard.fed args end
