-- What a drop does next, as a function of its own past (maildir(5)).
use Rattle.std.specs.Prelude.{ℕ, List, [], ◌∷◌, take, drop, Bool, true, false, if◌then◌else◌}
use Rattle.call_fs.specs.declared.file_system.TheConstants.{PIECE}
use Rattle.call_fs.specs.declared.calls.Answer.{Answer}
use Rattle.call_fs.specs.declared.calls.Answer.TheVariants as answer
use Rattle.call_fs.specs.declared.calls.CallData.TheVariants as call
use Rattle.call_fs.specs.declared.calls.Fd.{Fd}
use Rattle.call_fs.specs.declared.calls.FsError.TheVariants as error
use Rattle.call_fs.specs.declared.past.GotData.{GotData}
use Rattle.call_fs.specs.declared.past.GotData.TheVariants.{Answered}
use Rattle.call_fs.specs.declared.past.NeedData.{NeedData}
use Rattle.call_fs.specs.declared.past.NeedData.TheVariants as needs
use Rattle.call_fs.specs.declared.past.Own.{Own}
use Rattle.call_fs.specs.declared.program.Ready.{Ready}
use Rattle.queue_limits.specs.declared.statuses.TheConstants.{DONE, MEMORY}
use Rattle.maildir_drop.specs.declared.arguments.Arguments.{Arguments}
use Rattle.maildir_drop.specs.declared.names.DropNames.{DropNames}
use Rattle.maildir_drop.specs.declared.row.Attempt.{Attempt}
use Rattle.maildir_drop.specs.declared.row.Attempt.TheVariants.{First, Second, Third}
use Rattle.maildir_drop.specs.declared.row.Outcome.{Outcome}
use Rattle.maildir_drop.specs.declared.row.Outcome.TheVariants.{Dropped, Failed}
use Rattle.maildir_drop.specs.declared.row.Row.{Row}
use Rattle.maildir_drop.specs.declared.row.Row.TheVariants as at
use Rattle.maildir_drop.specs.declared.row.TheConstants.{DEFER}
use Rattle.maildir_drop.specs.declared.row.Why.{Why}
use Rattle.maildir_drop.specs.declared.row.Why.TheVariants as why
use Rattle.maildir_drop.specs.Names.{names_of, pair_at, is_name}

-- where a drop stands, and what of its bytes is still to be written
pub record Place : Type 0 where
  pub row : Row
  pub left : List ℕ

-- Where an answer leads. If no row names an answer, it leads where a failure does.

abbrev pub why_of : Answer → Why
why_of (answer.Refused error.Memory) = why.Memory
why_of told = why.Defer

-- it failed with no file made
abbrev pub failed : Attempt → Why → Row
failed attempt reason = at.Ended attempt (Failed reason)

-- A name that isn't of the form of one counts as one in a missing directory, and no call is made.
abbrev pub begin_row : DropNames → Attempt → Row
begin_row names attempt = if is_name (pair_at names attempt).tmp then at.Create attempt else failed attempt why.Defer

-- three names are tried
abbrev pub taken_row : DropNames → Attempt → Row
taken_row names First = begin_row names Second
taken_row names Second = begin_row names Third
taken_row names Third = failed Third why.Defer

-- after the last piece comes the sync
abbrev pub next_row : Attempt → Fd → Bool → Row
next_row attempt fd true = at.Sync attempt fd
next_row attempt fd false = at.Append attempt fd

abbrev pub create_row : DropNames → Attempt → Bool → Answer → Row
create_row names attempt complete (answer.Created fd number) = next_row attempt fd complete
create_row names attempt complete (answer.Refused error.Exists) = taken_row names attempt
create_row names attempt complete told = failed attempt (why_of told)

abbrev pub is_complete : List ℕ → Bool
is_complete [] = true
is_complete (b ∷ left) = false

abbrev pub appended : Attempt → Fd → List ℕ → Answer → Place
appended attempt fd left answer.Done = record { row = next_row attempt fd (is_complete (drop PIECE left)); left = drop PIECE left }
appended attempt fd left told = record { row = at.Shut attempt fd (why_of told); left = left }

abbrev pub sync_row : Attempt → Fd → Answer → Row
sync_row attempt fd answer.Done = at.Close attempt fd
sync_row attempt fd told = at.Shut attempt fd (why_of told)

-- the drop is made once the link is, whatever comes of the unlink
abbrev pub link_row : Attempt → Answer → Row
link_row attempt answer.Done = at.Unlink attempt Dropped
link_row attempt told = at.Unlink attempt (Failed (why_of told))

abbrev pub goes : Place → Row → Place
goes p row = record { row = row; left = p.left }

-- after the answer to the call of this row
abbrev pub answered : DropNames → Row → Place → Answer → Place
answered names (at.Create attempt) p told = goes p (create_row names attempt (is_complete p.left) told)
answered names (at.Append attempt fd) p told = appended attempt fd p.left told
answered names (at.Sync attempt fd) p told = goes p (sync_row attempt fd told)
answered names (at.Close attempt fd) p told = goes p (at.Link attempt)
answered names (at.Link attempt) p told = goes p (link_row attempt told)
answered names (at.Shut attempt fd reason) p told = goes p (at.Unlink attempt (Failed reason))
answered names (at.Unlink attempt outcome) p told = goes p (at.Ended attempt outcome)
answered names (at.Ended attempt outcome) p told = p

abbrev pub moved : DropNames → Place → GotData → Place
moved names p (Answered told) = answered names p.row p told.answer
moved names p other = p

-- What is due

-- it ends with 0, with 111 for another try, or with 51 if out of memory
abbrev pub status_of : Outcome → ℕ
status_of Dropped = DONE
status_of (Failed why.Defer) = DEFER
status_of (Failed why.Memory) = MEMORY

abbrev pub link_due : DropNames → Attempt → NeedData
link_due names attempt = needs.File (call.Link (pair_at names attempt).tmp (pair_at names attempt).new)

abbrev pub due_at : DropNames → Row → List ℕ → NeedData
due_at names (at.Create attempt) left = needs.File (call.CreateExcl (pair_at names attempt).tmp)
due_at names (at.Append attempt fd) left = needs.File (call.Append fd (take PIECE left))
due_at names (at.Sync attempt fd) left = needs.File (call.Sync fd)
due_at names (at.Close attempt fd) left = needs.File (call.Close fd)
due_at names (at.Link attempt) left = link_due names attempt
due_at names (at.Shut attempt fd reason) left = needs.File (call.Close fd)
due_at names (at.Unlink attempt outcome) left = needs.File (call.Unlink (pair_at names attempt).tmp)
due_at names (at.Ended attempt outcome) left = needs.Ended (status_of outcome)

-- The past

abbrev pub begun : Arguments → Place
begun args = record { row = begin_row (names_of args) First; left = args.bytes }

-- where a drop stands after a past, newest event first
abbrev pub place_after : Arguments → List Own → Place
place_after args [] = begun args
place_after args (event ∷ before) = moved (names_of args) (place_after args before) event.came

-- what a drop does next: neither the moment nor what is ready makes a difference
abbrev pub Next : Arguments → List Own → ℕ → Ready → NeedData
Next args past now ready = due_at (names_of args) (place_after args past).row (place_after args past).left
