-- What a spawner's place tells of its past: where it stands, what it holds of its requests, which programs run, and how many
-- requests have their report.
use Rattle.std.specs.Prelude.{◌≡◌, ℕ, ◌+◌, List, [], ◌∷◌, ◌++◌, length, All, Bool, true, false, Option, Some, flat_map}
use Rattle.call_fs.specs.declared.calls.Answer.{Answer}
use Rattle.call_fs.specs.declared.calls.Answer.TheVariants as answer
use Rattle.call_fs.specs.declared.calls.CallData.TheVariants as call
use Rattle.call_fs.specs.declared.calls.How.TheVariants as how
use Rattle.call_fs.specs.declared.modes.Mode.{Mode}
use Rattle.call_fs.specs.declared.past.GotData.{GotData}
use Rattle.call_fs.specs.declared.past.GotData.TheVariants as came
use Rattle.call_fs.specs.declared.past.NeedData.{NeedData}
use Rattle.call_fs.specs.declared.past.NeedData.TheVariants as needs
use Rattle.call_fs.specs.declared.past.Own.{Own}
use Rattle.call_fs.specs.Past.{held, taken}
use Rattle.spawn_protocol.specs.Cut.{cut}
use Rattle.spawn_protocol.specs.Cut.Cut.{More}
use Rattle.spawn_protocol.specs.Report.{numbered}
use Rattle.spawn_protocol.specs.Request.{IsRequest, IsText, IsTooLong, Start, request_text}
use Rattle.spawn_protocol.specs.declared.inbox.Inbox.{Inbox}
use Rattle.spawn_protocol.specs.declared.inbox.Intake.{Intake}
use Rattle.spawn_protocol.specs.declared.inbox.Intake.TheVariants as intake
use Rattle.spawn_protocol.specs.declared.request.Request.{Request}
use Rattle.spawner_parts.specs.declared.place.Place.{Place}
use Rattle.spawner_parts.specs.declared.place.TheConstants.{SLOTS}
use Rattle.spawner_parts.specs.declared.row.Row.{Row}
use Rattle.spawner_parts.specs.declared.row.Row.TheVariants as at
use Rattle.spawner_parts.specs.Asked.{is_bad, runs_in}
use Rattle.spawner_parts.specs.Causes.{IsFailed, has_end, programs}
use Rattle.spawner_parts.specs.Counts.{asked, reported, runs, times}

-- Why it has ended

-- of these bytes whole requests were dealt with
pub record Heard (ahead taken : List ℕ) : Type 0 where
  pub requests : List Request
  pub whole : All IsRequest requests
  pub text : taken ≡ flat_map request_text requests ++ ahead

-- by whether it takes more: what isn't dealt with; or why nothing is left
abbrev pub Hears : Intake → List ℕ → List ℕ → Bool → Type 0
Hears intake.Open ahead taken ended = Heard ahead taken
Hears intake.Ended ahead taken ended = (ahead ≡ []) × (ended ≡ true)
Hears intake.TooLong ahead taken ended = (ahead ≡ []) × ((requests : List Request) × IsTooLong taken requests)

abbrev pub HearsIn : Inbox → List ℕ → Bool → Type 0
HearsIn i taken ended = Hears i.intake i.ahead taken ended

-- the row between two events: it is never a taking of requests, and an end has its cause
abbrev pub Kept : List Own → Row → Type 0
Kept past at.TakeInput = ⊥
Kept past (at.Ended status) = IsFailed past status
Kept past row = Unit {0}

pub record Knows (past : List Own) (p : Place) : Type 0 where
  pub kept : Kept past p.row
  pub running : p.running ≡ programs past
  pub hears : HearsIn p.inbox (taken past) (has_end past)

-- How many requests have their report

-- which requests were pulled out of the bytes that were taken
abbrev pub Reads : Intake → List ℕ → List ℕ → Bool → List Request → Type 0
Reads intake.Open ahead bytes ended dealt = All IsRequest dealt × (bytes ≡ flat_map request_text dealt ++ ahead) × (ended ≡ false)
Reads intake.Ended ahead bytes ended dealt = (ahead ≡ []) × (ended ≡ true) × ((start : Start) × IsText bytes dealt start)
Reads intake.TooLong ahead bytes ended dealt = (ahead ≡ []) × (ended ≡ false) × IsTooLong bytes dealt

-- between two steps no whole request is left
abbrev pub Rests : Intake → List ℕ → Type 0
Rests intake.Open ahead = cut ahead ≡ More
Rests intake.Ended ahead = Unit {0}
Rests intake.TooLong ahead = Unit {0}

-- the request at work is the last that was pulled out, and isn't bad
pub record AtWork (p : Place) (owed : List ℕ) (dealt : List Request) : Type 0 where
  pub owes : owed ≡ p.request.slot ∷ []
  pub before : List Request
  pub last : dealt ≡ before ++ p.request ∷ []
  pub good : is_bad p.running p.request ≡ false

pub record IsReport (p : Place) (owed : List ℕ) : Type 0 where
  pub slot : ℕ
  pub text : List ℕ
  pub is : p.report ≡ numbered slot text
  pub owes : owed ≡ slot ∷ []

-- what is known at a row: for which slot a report is owed that no program is at work for
abbrev pub At : Row → Place → List ℕ → List Request → Type 0
At at.Greet p owed dealt = (owed ≡ []) × (p.inbox.intake ≡ intake.Open) × (cut p.inbox.ahead ≡ More)
At at.Idle p owed dealt = (owed ≡ []) × Rests p.inbox.intake p.inbox.ahead
At at.TakeInput p owed dealt = (owed ≡ []) × (p.inbox.intake ≡ intake.Open) × (cut p.inbox.ahead ≡ More)
At at.OpenMess p owed dealt = AtWork p owed dealt
At (at.ReadMess fd) p owed dealt = AtWork p owed dealt
At (at.CloseMess fd whole) p owed dealt = AtWork p owed dealt
At at.Start p owed dealt = AtWork p owed dealt
At at.Feed p owed dealt = (owed ≡ []) × (runs_in p.running p.request.slot ≡ true)
At (at.TakeOutput slot) p owed dealt = (owed ≡ []) × (runs_in p.running slot ≡ true)
At (at.TakeStatus slot) p owed dealt = (owed ≡ []) × (runs_in p.running slot ≡ true)
At at.Report p owed dealt = IsReport p owed
At (at.Ended code) p owed dealt = Unit {0}

-- each request that was pulled out has its report, a program, or is owed one
abbrev pub Sums : List ℕ → List Bool → List ℕ → List Request → Type 0
Sums told running owed dealt = (slot : ℕ) → asked slot dealt ≡ times slot (owed ++ told) + runs slot running

pub record Counts (told : List ℕ) (running : List Bool) (bytes : List ℕ) (ended : Bool) (p : Place) : Type 0 where
  pub dealt : List Request
  pub owed : List ℕ
  pub reads : Reads p.inbox.intake p.inbox.ahead bytes ended dealt
  pub same : p.running ≡ running
  pub long : length running ≡ SLOTS
  pub sums : Sums told running owed dealt
  pub at : At p.row p owed dealt

-- What it holds open

abbrev pub HoldsRow : (ℕ → Option Mode) → Row → Type 0
HoldsRow h (at.ReadMess fd) = h fd.0 ≡ Some (Mode.Opened how.Read)
HoldsRow h (at.CloseMess fd whole) = h fd.0 ≡ Some (Mode.Opened how.Read)
HoldsRow h row = Unit {0}

-- all of it
pub record Tells (past : List Own) (p : Place) : Type 0 where
  pub knows : Knows past p
  pub counts : Counts (reported past) (programs past) (taken past) (has_end past) p
  pub holds : HoldsRow (held past) p.row

-- The message

abbrev pub more_read : List ℕ → Answer → List ℕ → List ℕ
more_read old (answer.Count count) bytes = old ++ bytes
more_read old told bytes = old

abbrev pub read_after : List ℕ → NeedData → GotData → List ℕ
read_after old (needs.File (call.Open name how)) got = []
read_after old (needs.File (call.ReadAt fd from count)) (came.Answered told) = more_read old told.answer told.bytes
read_after old due got = old

-- the bytes that were read since a file was opened last
abbrev pub last_read : List Own → List ℕ
last_read [] = []
last_read (event ∷ before) = read_after (last_read before) event.due event.came

-- the message so far, and then what the program is given
abbrev pub Carries : (given : List ℕ → List ℕ) → List ℕ → Row → Place → Type 0
Carries given read at.OpenMess p = p.message ≡ []
Carries given read (at.ReadMess fd) p = p.message ≡ read
Carries given read (at.CloseMess fd true) p = p.message ≡ read
Carries given read at.Start p = p.message ≡ given read
Carries given read at.Feed p = p.message ≡ given read
Carries given read row p = Unit {0}
