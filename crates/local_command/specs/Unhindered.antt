-- When nothing hinders a delivery (qmail-local(8), dot-qmail(5), maildir(5)), by what it met.
use Rattle.std.specs.Prelude.{◌≡◌, ◌≢◌, ℕ, List, true, false, ◌==◌, Some, Contains}
use Rattle.call_fs.specs.declared.calls.Answer.{Answer}
use Rattle.call_fs.specs.declared.calls.Answer.TheVariants.{Refused}
use Rattle.call_fs.specs.declared.calls.CallData.{CallData}
use Rattle.call_fs.specs.declared.calls.CallData.TheVariants.{Open}
use Rattle.call_fs.specs.declared.calls.FsError.TheVariants.{NotThere, Exists}
use Rattle.call_fs.specs.declared.calls.How.TheVariants.{Read}
use Rattle.call_fs.specs.declared.past.GotData.{GotData}
use Rattle.call_fs.specs.declared.past.GotData.TheVariants as came
use Rattle.call_fs.specs.declared.past.NeedData.{NeedData}
use Rattle.call_fs.specs.declared.past.NeedData.TheVariants.{Take, Command}
use Rattle.call_fs.specs.declared.past.Own.{Own}
use Rattle.call_fs.specs.declared.program.Port.TheVariants.{Status}
use Rattle.call_fs.specs.Past.{HasCall, taken}
use Rattle.dot_qmail.specs.declared.line.Line.{Line}
use Rattle.dot_qmail.specs.declared.line.Line.TheVariants.{Maildir, Mailbox}
use Rattle.local_parts.specs.declared.arguments.LocalArgs.{LocalArgs}
use Rattle.local_parts.specs.Inputs.{message_in}
use Rattle.local_parts.specs.Looping.{is_looping}
use Rattle.local_parts.specs.Texts.{delivered_to}
use Rattle.maildir_drop.specs.declared.row.Attempt.TheVariants.{First}
use Rattle.maildir_drop.specs.Names.{is_name, names_of, pair_at}
use Rattle.local_deliver.specs.Carried.{instructions}
use Rattle.local_deliver.specs.Deeds.{host_read, me_name}
use Rattle.local_deliver.specs.Drops.{drop_arguments}
use Rattle.program_runner.specs.Runs.{HasEvent}

-- a directory or a file was missing, other than control/me
abbrev pub IsMissing : CallData → Answer → Type 0
IsMissing call answer = (answer ≡ Refused NotThere) × (call ≢ Open me_name Read)

-- a name was taken
abbrev pub IsTaken : CallData → Answer → Type 0
IsTaken call answer = answer ≡ Refused Exists

-- a command ended otherwise than with 0 or 99, or the injector otherwise than with 0
abbrev pub EndsBadly : NeedData → GotData → Type 0
EndsBadly (Command text) (came.Ended code) = ((code == 0) ≡ false) × ((code == 99) ≡ false)
EndsBadly (Command text) came.Crashed = Unit {0}
EndsBadly (Take (Status slot)) (came.Ended code) = (code == 0) ≡ false
EndsBadly (Take (Status slot)) came.Crashed = Unit {0}
EndsBadly due got = ⊥

abbrev pub IsBadEnd : Own → Type 0
IsBadEnd event = EndsBadly event.due event.came

-- The input is a whole netstring, and its message isn't looping; control/me is good, or isn't there; the file that was chosen, or
-- the default line, has instructions, none of them a mailbox file; all names are names; no directory or file is missing, and no
-- name is taken; each command ends with 0 or 99, and the injector with 0.
pub record IsUnhindered (args : LocalArgs) (past : List Own) : Type 0 where
  pub message : List ℕ
  pub whole : message_in (taken past) ≡ Some message
  pub no_loop : is_looping (delivered_to args) message ≡ false
  pub host : List ℕ
  pub host_is : host_read past ≡ Some host
  pub home : is_name args.home ≡ true
  pub lines : List Line
  pub told : instructions args past ≡ Some lines
  pub no_mailbox : (path : List ℕ) → ¬ (Contains lines (Mailbox path))
  pub names : (path : List ℕ) (moment : ℕ) → Contains lines (Maildir path) → is_name (pair_at (names_of (drop_arguments args moment path host message)) First).tmp ≡ true
  pub there : ¬ (HasCall past IsMissing)
  pub free : ¬ (HasCall past IsTaken)
  pub ends : ¬ (HasEvent past IsBadEnd)
