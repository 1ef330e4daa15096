-- What a cleaner can ask for.
use Rattle.std.proofs.Common.{ℕ, List, Option, Bool, true, false}
use Rattle.std.specs.Prelude.{if◌then◌else◌, codes}
use Rattle.call_fs.specs.declared.calls.CallData.TheVariants as call
use Rattle.call_fs.specs.declared.program.Ready.{Ready}
use Rattle.call_fs.specs.declared.past.NeedData.{NeedData}
use Rattle.call_fs.specs.declared.past.NeedData.TheVariants as needs
use Rattle.call_fs.specs.declared.past.Own.{Own}
use Rattle.call_fs.specs.declared.modes.Mode.{Mode}
use Rattle.call_fs.specs.Past.{UsesHeld}
use Rattle.queue_paths.specs.Names.{path}
use Rattle.queue_clean.specs.declared.row.Row.{Row}
use Rattle.queue_clean.specs.declared.row.Row.TheVariants as at
use Rattle.queue_clean.specs.Commands.{first_name, second_name}
use Rattle.queue_clean.specs.Table.{is_old, place_after, pid_path, reply_text, due_at, Next}
use Rattle.queue_clean.specs.Asked.{IsAsked}
use Rattle.queue_clean.specs.Asked.IsAsked.{Searches, Stats, Unlinks, Takes, Gives, Ends}

judged : (t : Bool) (name : List ℕ) → IsAsked (if t then needs.File (call.Unlink (pid_path name)) else needs.File (call.NextName (codes "pid") name))
judged true name = Unlinks (pid_path name)
judged false name = Searches (codes "pid") name

row_asks : (row : Row) (name : List ℕ) (now : ℕ) → IsAsked (due_at row name now)
row_asks at.FindPid name now = Searches (codes "pid") name
row_asks at.StatPid name now = Stats (pid_path name)
row_asks (at.JudgePid moment) name now = judged (is_old moment now) name
row_asks at.TakeInput name now = Takes
row_asks (at.UnlinkIntd command) name now = Unlinks (path (first_name command))
row_asks (at.UnlinkSecond command) name now = Unlinks (path (second_name command))
row_asks (at.Answer reply) name now = Gives (reply_text reply)
row_asks (at.Ended status) name now = Ends status

pub asks : (args : Unit {0}) (past : List Own) (now : ℕ) (ready : Ready) → IsAsked (Next args past now ready)
asks args past now ready = row_asks (place_after past).row (place_after past).name now

-- none of it needs a descriptor
pub needs_none : (held : ℕ → Option Mode) {due : NeedData} → IsAsked due → UsesHeld held due
needs_none held (Searches dir after) = tt
needs_none held (Stats name) = tt
needs_none held (Unlinks name) = tt
needs_none held Takes = tt
needs_none held (Gives bytes) = tt
needs_none held (Ends status) = tt
