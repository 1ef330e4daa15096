-- What is known of a spawner's table, and that it holds of both.
use Rattle.std.proofs.Common.{◌≡◌, ◌⊎◌, ℕ, List, true, false, inl, inr}
use Rattle.call_fs.specs.declared.past.ChildData.{ChildData}
use Rattle.call_fs.specs.declared.past.NeedData.TheVariants as needs
use Rattle.call_fs.specs.declared.past.Own.{Own}
use Rattle.call_fs.specs.declared.program.Port.TheVariants as port
use Rattle.call_fs.specs.declared.program.Ready.{Ready}
use Rattle.call_fs.specs.Past.{IsRunBy, Table, taken}
use Rattle.program_runner.specs.Members.{IsCarried}
use Rattle.spawn_protocol.specs.Request.{HasRead, Reader}
use Rattle.spawn_protocol.specs.declared.request.Request.{Request}
use Rattle.spawner_parts.specs.declared.place.Place.{Place as Work}
use Rattle.spawner_parts.specs.declared.row.Row.{Row as WorkRow}
use Rattle.spawner_parts.specs.declared.row.Row.TheVariants as work_at
use Rattle.spawner_parts.specs.Asked.{runs_in}
use Rattle.spawner_parts.specs.Causes.{IsEnded, IsFailed, IsOver, has_end, programs}
use Rattle.spawner_parts.specs.Counts.{IsAtRest, IsSettled, asked, dealt_with}
use Rattle.spawner_parts.specs.Table.{due_at as work_due, row_now}
use Rattle.remote_spawn.specs.Table as remote
use Rattle.remote_spawn.proofs.Tells as remote_tells
use Rattle.local_spawn.specs.declared.place.Place.{Place}
use Rattle.local_spawn.specs.declared.row.Row.{Row}
use Rattle.local_spawn.specs.declared.row.Row.TheVariants as at
use Rattle.local_spawn.specs.Causes.{HasEnded}
use Rattle.local_spawn.specs.Causes.HasEnded.{AsAny, InItsStart}
use Rattle.local_spawn.specs.Causes.HasFailed.{AsAny as failed_as_any}
use Rattle.local_spawn.specs.Table as local
use Rattle.local_spawn.proofs.Ends as local_ends
use Rattle.local_spawn.proofs.Tells as local_tells
use Rattle.spawn_command.specs.Spawned.{HasLongField}
use Rattle.spawn_command.proofs.Places.{input_at, program_at}

-- The causes of its end, which events end it, what became of its requests, and when it takes what.
pub record Laws (next : Table) (cause : List Own → ℕ → Type 0) : Type 0 where
  pub ends : (past : List Own) (now : ℕ) (ready : Ready) (status : ℕ) → IsRunBy next past → next past now ready ≡ needs.Ended status → cause past status
  pub splits : (past : List Own) (status : ℕ) → cause past status → IsEnded past status ⊎ (status ≡ 51)
  pub fails : (past : List Own) (now : ℕ) (ready : Ready) (status : ℕ) → IsRunBy next past → IsFailed past status → next past now ready ≡ needs.Ended status
  pub settles : (past : List Own) (now : ℕ) (ready : Ready) (status : ℕ) → IsRunBy next past → IsOver past status → IsSettled past → next past now ready ≡ needs.Ended status
  pub each : (past : List Own) (now : ℕ) (ready : Ready) (requests : List Request) (reader : Reader) (slot : ℕ) → IsRunBy next past → HasRead (taken past) requests reader
      → IsAtRest past (next past now ready) → asked slot requests ≡ dealt_with slot past
  pub input : (past : List Own) (now : ℕ) (ready : Ready) → IsRunBy next past → next past now ready ≡ needs.Take port.Input → (has_end past ≡ false) × (¬ (HasLongField (taken past)))
  pub program : (past : List Own) (now : ℕ) (ready : Ready) (slot : ℕ) → IsRunBy next past → next past now ready ≡ needs.Take (port.Program slot) → runs_in (programs past) slot ≡ true

-- The remote spawner

remote_input : (past : List Own) (now : ℕ) (ready : Ready) → IsRunBy (remote.Next tt) past → remote.Next tt past now ready ≡ needs.Take port.Input → (has_end past ≡ false) × (¬ (HasLongField (taken past)))
remote_input past now ready run due =
    let p : Work = remote.place_after past in input_at (remote.program_of p.request) past p ready (remote_tells.tells tt past run) due

remote_program : (past : List Own) (now : ℕ) (ready : Ready) (slot : ℕ) → IsRunBy (remote.Next tt) past → remote.Next tt past now ready ≡ needs.Take (port.Program slot) → runs_in (programs past) slot ≡ true
remote_program past now ready slot run due =
    let p : Work = remote.place_after past in program_at (remote.program_of p.request) past p ready (remote_tells.tells tt past run) slot due

pub remote_laws : Laws (remote.Next tt) IsEnded
remote_laws = record {
  ends = remote_tells.ends tt;
  splits = λ past status why. inl why;
  fails = remote_tells.failed tt;
  settles = remote_tells.settles tt;
  each = remote_tells.each tt;
  input = remote_input;
  program = remote_program;
}

-- The local spawner: in its start it takes nothing

local_input : (past : List Own) (now : ℕ) (ready : Ready) → IsRunBy (local.Next tt) past → local.Next tt past now ready ≡ needs.Take port.Input → (has_end past ≡ false) × (¬ (HasLongField (taken past)))
local_input past now ready run due = let p : Place = local.place_after past in by p p.row (local_tells.tells tt past run) due where
  by : (p : Place) (row : Row) → local_tells.At past row p → local.due_at row ready p ≡ needs.Take port.Input → (has_end past ≡ false) × (¬ (HasLongField (taken past)))
  by p at.Serves a due = input_at (local.program_of p) past p.work ready a.tells due
  by p at.OpenUsers a due = absurd (cc)
  by p (at.ReadUsers fd) a due = absurd (cc)
  by p (at.CloseUsers fd whole) a due = absurd (cc)
  by p at.OutOfMemory a due = absurd (cc)

local_program : (past : List Own) (now : ℕ) (ready : Ready) (slot : ℕ) → IsRunBy (local.Next tt) past → local.Next tt past now ready ≡ needs.Take (port.Program slot) → runs_in (programs past) slot ≡ true
local_program past now ready slot run due = let p : Place = local.place_after past in by p p.row (local_tells.tells tt past run) due where
  by : (p : Place) (row : Row) → local_tells.At past row p → local.due_at row ready p ≡ needs.Take (port.Program slot) → runs_in (programs past) slot ≡ true
  by p at.Serves a due = program_at (local.program_of p) past p.work ready a.tells slot due
  by p at.OpenUsers a due = absurd (cc)
  by p (at.ReadUsers fd) a due = absurd (cc)
  by p (at.CloseUsers fd whole) a due = absurd (cc)
  by p at.OutOfMemory a due = absurd (cc)

local_splits : (past : List Own) (status : ℕ) → HasEnded past status → IsEnded past status ⊎ (status ≡ 51)
local_splits past status (AsAny why) = inl why
local_splits past status (InItsStart starved is) = inr is

pub local_laws : Laws (local.Next tt) HasEnded
local_laws = record {
  ends = local_ends.ends tt;
  splits = local_splits;
  fails = λ past now ready status run why. local_ends.fails tt past now ready status run (failed_as_any why);
  settles = local_ends.settles tt;
  each = local_ends.each tt;
  input = local_input;
  program = local_program;
}

-- Neither runs a command of a user.

work_carried : (program : ChildData) (p : Work) (row : WorkRow) → IsCarried (work_due program row p)
work_carried program p work_at.Greet = tt
work_carried program p work_at.Idle = tt
work_carried program p work_at.TakeInput = tt
work_carried program p work_at.OpenMess = tt
work_carried program p (work_at.ReadMess fd) = tt
work_carried program p (work_at.CloseMess fd whole) = tt
work_carried program p work_at.Start = tt
work_carried program p work_at.Feed = tt
work_carried program p (work_at.TakeOutput slot) = tt
work_carried program p (work_at.TakeStatus slot) = tt
work_carried program p work_at.Report = tt
work_carried program p (work_at.Ended code) = tt

pub remote_carried : (past : List Own) (now : ℕ) (ready : Ready) → IsCarried (remote.Next tt past now ready)
remote_carried past now ready = let p : Work = remote.place_after past in work_carried (remote.program_of p.request) p (row_now p ready)

local_carried_at : (p : Place) (ready : Ready) (row : Row) → IsCarried (local.due_at row ready p)
local_carried_at p ready at.Serves = work_carried (local.program_of p) p.work (row_now p.work ready)
local_carried_at p ready at.OpenUsers = tt
local_carried_at p ready (at.ReadUsers fd) = tt
local_carried_at p ready (at.CloseUsers fd whole) = tt
local_carried_at p ready at.OutOfMemory = tt

pub local_carried : (past : List Own) (now : ℕ) (ready : Ready) → IsCarried (local.Next tt past now ready)
local_carried past now ready = let p : Place = local.place_after past in local_carried_at p ready p.row
