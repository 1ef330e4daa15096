-- Which rows come next.
use Rattle.std.proofs.Common.{ℕ, List, length, Bool, true, false, if◌then◌else◌, nat_lt, Option, Some, None}
use Rattle.call_fs.specs.declared.calls.Answer.{Answer}
use Rattle.call_fs.specs.declared.calls.Answer.TheVariants as answer
use Rattle.call_fs.specs.declared.calls.Fd.{Fd}
use Rattle.call_fs.specs.declared.calls.FsError.TheVariants as why
use Rattle.call_fs.specs.declared.past.GotData.{GotData}
use Rattle.call_fs.specs.declared.past.GotData.TheVariants as came
use Rattle.call_fs.specs.declared.program.Ready.{Ready}
use Rattle.spawn_protocol.specs.Inbox.{pull, with_more}
use Rattle.spawn_protocol.specs.declared.inbox.Intake.{Intake}
use Rattle.spawn_protocol.specs.declared.inbox.Intake.TheVariants as intake
use Rattle.spawn_protocol.specs.declared.request.Request.{Request}
use Rattle.spawner_parts.specs.declared.place.Place.{Place}
use Rattle.spawner_parts.specs.declared.row.Row.{Row}
use Rattle.spawner_parts.specs.declared.row.Row.TheVariants as at
use Rattle.spawner_parts.specs.Asked.{is_bad, runs_in}
use Rattle.spawner_parts.specs.Table.{IsNoStart, Kind, act, arrive, bad_request, ended_by, gave, heeded, is_asked, launched, next_request, none_runs, opened, opened_by, opens, printed, read_by, read_on, reports, resting, took, turning}

-- What holds of a row, and of each that a look may make of the one between two steps, holds after a look.
module _ (P : Row → Type 0) (idle : P at.Idle) (asked : P at.TakeInput) (over : (slot : ℕ) → P (at.TakeOutput slot)) (ended : (status : ℕ) → P (at.Ended status)) (p : Place) where
  ending : (state : Intake) → P (ended_by state)
  ending intake.Open = idle
  ending intake.Ended = ended 0
  ending intake.TooLong = ended 91

  rests : P (resting p)
  rests = by (none_runs p.running) where
    by : (b : Bool) → P (if b then ended_by p.inbox.intake else at.Idle)
    by true = ending p.inbox.intake
    by false = idle

  turns : (child : Option ℕ) → P (turning p child)
  turns None = rests
  turns (Some slot) = by (runs_in p.running slot) where
    by : (b : Bool) → P (if b then at.TakeOutput slot else resting p)
    by true = over slot
    by false = rests

  looks : (ready : Ready) → P (arrive at.Idle p ready)
  looks ready = by (is_asked p ready) where
    by : (b : Bool) → P (if b then at.TakeInput else turning p ready.child)
    by true = asked
    by false = turns ready.child

  pub arrive_keeps : (row : Row) (ready : Ready) → P row → P (arrive row p ready)
  arrive_keeps at.Idle ready own = looks ready
  arrive_keeps at.Greet ready own = own
  arrive_keeps at.TakeInput ready own = own
  arrive_keeps at.OpenMess ready own = own
  arrive_keeps (at.ReadMess fd) ready own = own
  arrive_keeps (at.CloseMess fd whole) ready own = own
  arrive_keeps at.Start ready own = own
  arrive_keeps at.Feed ready own = own
  arrive_keeps (at.TakeOutput slot) ready own = own
  arrive_keeps (at.TakeStatus slot) ready own = own
  arrive_keeps at.Report ready own = own
  arrive_keeps (at.Ended code) ready own = own

-- A program is to be started only after the close of a message that was read.

heeded_on : (o : Option Request) (p : Place) → IsNoStart (heeded o p).row
heeded_on None p = tt
heeded_on (Some r) p = by (is_bad p.running r) where
  by : (b : Bool) → IsNoStart (if b then reports bad_request r.slot p else opens r p).row
  by true = tt
  by false = tt

next_on : (p : Place) → IsNoStart (next_request p).row
next_on p = heeded_on (pull p.inbox).request (record p { inbox = (pull p.inbox).inbox })

gave_on : (got : GotData) (p : Place) → IsNoStart (gave got p).row
gave_on came.Gave p = next_on p
gave_on got p = tt

took_on : (got : GotData) (p : Place) → IsNoStart (took got p).row
took_on (came.Took bytes) p = next_on (record p { inbox = with_more bytes p.inbox })
took_on came.End p = tt
took_on got p = tt

opened_on : (told : Answer) (p : Place) → IsNoStart (opened_by told p).row
opened_on (answer.Opened fd) p = tt
opened_on (answer.Refused why.NotThere) p = tt
opened_on (answer.Refused why.Exists) p = tt
opened_on (answer.Refused why.Fault) p = tt
opened_on (answer.Refused why.Memory) p = tt
opened_on told p = tt

opens_on : (got : GotData) (p : Place) → IsNoStart (opened got p).row
opens_on (came.Answered told) p = opened_on told.answer p
opens_on got p = tt

counted_on : (fd : Fd) (told : Answer) (bytes : List ℕ) (p : Place) → IsNoStart (read_by fd told bytes p).row
counted_on fd (answer.Count count) bytes p = by (nat_lt (length bytes) 8192) where
  by : (b : Bool) → IsNoStart (if b then at.CloseMess fd true else at.ReadMess fd)
  by true = tt
  by false = tt
counted_on fd told bytes p = tt

reads_on : (fd : Fd) (got : GotData) (p : Place) → IsNoStart (read_on fd got p).row
reads_on fd (came.Answered told) p = counted_on fd told.answer told.bytes p
reads_on fd got p = tt

launched_on : (report : List ℕ) (got : GotData) (p : Place) → IsNoStart (launched report got p).row
launched_on report (came.Started pid) p = tt
launched_on report came.Memory p = tt
launched_on report got p = tt

printed_on : (slot : ℕ) (got : GotData) (p : Place) → IsNoStart (printed slot got p).row
printed_on slot (came.Took bytes) p = tt
printed_on slot came.End p = tt
printed_on slot got p = tt

-- each row at which something comes, but the close of a message that was read
abbrev pub IsOther : Row → Type 0
IsOther (at.CloseMess fd true) = ⊥
IsOther at.Idle = ⊥
IsOther (at.Ended code) = ⊥
IsOther row = Unit {0}

pub no_start : (kind : Kind) (row : Row) (got : GotData) (p : Place) → IsOther row → IsNoStart (act kind row got p).row
no_start kind at.Greet got p other = gave_on got p
no_start kind at.TakeInput got p other = took_on got p
no_start kind at.OpenMess got p other = opens_on got p
no_start kind (at.ReadMess fd) got p other = reads_on fd got p
no_start kind (at.CloseMess fd true) got p other = absurd other
no_start kind (at.CloseMess fd false) got p other = tt
no_start kind at.Start got p other = launched_on kind.unstarted got p
no_start kind at.Feed got p other = next_on p
no_start kind (at.TakeOutput slot) got p other = printed_on slot got p
no_start kind (at.TakeStatus slot) got p other = tt
no_start kind at.Report got p other = gave_on got p
no_start kind at.Idle got p other = absurd other
no_start kind (at.Ended code) got p other = absurd other
