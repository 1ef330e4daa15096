-- Which channel files are gone, by the sender's past (qmail-send(8)).
use Rattle.std.specs.Prelude.{◌≡◌, ℕ, List, [], ◌∷◌, Bool, true, false, ◌&&◌, Option, Some, None, Contains}
use Rattle.call_fs.specs.Past.{IsRunBy}
use Rattle.call_fs.specs.declared.calls.Answer.TheVariants as answer
use Rattle.call_fs.specs.declared.calls.Answer.{Answer}
use Rattle.call_fs.specs.declared.calls.CallData.TheVariants as call
use Rattle.call_fs.specs.declared.past.GotData.TheVariants as came
use Rattle.call_fs.specs.declared.past.GotData.{GotData}
use Rattle.call_fs.specs.declared.past.NeedData.TheVariants as needs
use Rattle.call_fs.specs.declared.past.NeedData.{NeedData}
use Rattle.call_fs.specs.declared.past.Own.{Own}
use Rattle.queue_paths.specs.Names.{parse}
use Rattle.retry_law.specs.Retries.{has_file}
use Rattle.send_core.specs.Table.{Next, place_after, row_now}
use Rattle.send_core.specs.declared.desk.Desk.{Desk}
use Rattle.send_parts.specs.declared.row.Row.TheVariants as at
use Rattle.send_parts.specs.declared.row.Row.{Row}
use Rattle.send_known.specs.declared.channel.Channel.{Channel}
use Rattle.send_known.specs.declared.known.Known.{Known}
use Rattle.send_parts.specs.declared.rows.StartRow.TheVariants as start
use Rattle.send_runs.specs.DueMoments.{is_file}
use Rattle.send_runs.specs.Files.{has_in, there_in}
use Rattle.send_runs.specs.Knowing.{known_in}
use Rattle.todo_pass.specs.Table.{Pass}
use Rattle.todo_pass.specs.declared.part.Target.TheVariants as target
use Rattle.todo_pass.specs.declared.row.Row.TheVariants as todo
use Rattle.todo_pass.specs.declared.row.Row.{Row as PassRow}

abbrev pub is_there : Answer → Bool
is_there (answer.Stat stat) = true
is_there told = false

abbrev pub is_made : Answer → Bool
is_made (answer.Created fd number) = true
is_made told = false

-- an event finds the channel file of a message, or makes it
abbrev pub shows : Channel → ℕ → NeedData → GotData → Bool
shows c n (needs.File (call.Stat name)) (came.Answered told) = is_file c n (parse name) && is_there told.answer
shows c n (needs.File (call.CreateExcl name)) (came.Answered told) = is_file c n (parse name) && is_made told.answer
shows c n due got = false

-- each did so before the message was known
abbrev pub AreShownFirst : Channel → ℕ → List Own → Type 0
AreShownFirst c n [] = Unit {0}
AreShownFirst c n (event ∷ past) = AreShownFirst c n past × (shows c n event.due event.came ≡ true → known_in past n ≡ false)

-- Then a known message that doesn't have its file has none: as the past told last, that is gone.
abbrev pub MissingAreGone : Type 0
MissingAreGone = (c : Channel) (n : ℕ) (past : List Own) → AreShownFirst c n past → known_in past n ≡ true → has_in c n past ≡ false → there_in c n past ≡ false

-- so it is of each message that a sender knows
abbrev pub KnownAreGone : Type 0
KnownAreGone = (turns : Option ℕ) (past : List Own) → IsRunBy (Next turns) past → (c : Channel) (k : Known) → Contains (place_after turns past).book.messages.known k
    → has_file c k ≡ false → AreShownFirst c k.n past → there_in c k.n past ≡ false

-- By rows: a channel file of a message is looked for or made, before the message is known

abbrev pub made_in : PassRow → ℕ → Option ℕ
made_in (todo.Create target.Local) n = Some n
made_in (todo.Create target.Remote) n = Some n
made_in row n = None

abbrev pub meets : Row → Pass → Option ℕ
meets (at.Start (start.StatLocal split n birth)) p = Some n
meets (at.Start (start.StatRemote split n birth local)) p = Some n
meets at.InTodo p = made_in p.row p.n
meets row p = None

abbrev pub AreMetUnknown : Option ℕ → List Own → Type 0
AreMetUnknown turns [] = Unit {0}
AreMetUnknown turns (event ∷ past) =
    let d : Desk = place_after turns past in AreMetUnknown turns past × ((n : ℕ) → meets (row_now d event.read event.ready) d.pass ≡ Some n → known_in past n ≡ false)

-- If each message isn't known at such a row, each of its files was shown first.
abbrev pub MetAreShownFirst : Type 0
MetAreShownFirst = (turns : Option ℕ) (past : List Own) → IsRunBy (Next turns) past → AreMetUnknown turns past → (c : Channel) (n : ℕ) → AreShownFirst c n past
