-- Which channel files each known message has, by the sender's past alone (qmail-send(8)).
use Rattle.std.specs.Prelude.{◌≡◌, ◌↔◌, ℕ, List, [], ◌∷◌, Bool, true, false, not, ◌&&◌, Option, All, if◌then◌else◌}
use Rattle.call_fs.specs.Past.{IsRunBy}
use Rattle.call_fs.specs.declared.calls.Answer.{Answer}
use Rattle.call_fs.specs.declared.calls.Answer.TheVariants as answer
use Rattle.call_fs.specs.declared.calls.CallData.TheVariants as call
use Rattle.call_fs.specs.declared.calls.FsError.TheVariants as why
use Rattle.call_fs.specs.declared.past.GotData.{GotData}
use Rattle.call_fs.specs.declared.past.GotData.TheVariants as came
use Rattle.call_fs.specs.declared.past.NeedData.{NeedData}
use Rattle.call_fs.specs.declared.past.NeedData.TheVariants as needs
use Rattle.call_fs.specs.declared.past.Own.{Own}
use Rattle.queue_paths.specs.Names.{parse}
use Rattle.retry_schedule.specs.Due.{HasEntry}
use Rattle.send_core.specs.Births.{births}
use Rattle.send_core.specs.Table.{Next, place_after}
use Rattle.send_known.specs.declared.channel.Channel.{Channel}
use Rattle.send_known.specs.declared.channel.Channel.TheVariants.{Local, Remote}
use Rattle.send_jobs.specs.Tries.{due_on}
use Rattle.send_known.specs.declared.known.Known.{Known}
use Rattle.send_known.specs.declared.messages.Messages.{Messages}
use Rattle.send_runs.specs.DueMoments.{has_unlinked, is_file}
use Rattle.send_runs.specs.Knowing.{known_by}

-- Whether a channel file is there, as the past told last: it was looked for, made or unlinked

abbrev pub looked : Answer → Bool → Bool
looked (answer.Stat stat) was = true
looked (answer.Refused why.NotThere) was = false
looked told was = was

abbrev pub made : Answer → Bool → Bool
made (answer.Created fd number) was = true
made told was = was

abbrev pub gone : Answer → Bool → Bool
gone answer.Done was = false
gone (answer.Refused why.NotThere) was = false
gone told was = was

abbrev pub there_by : Channel → ℕ → NeedData → GotData → Bool → Bool
there_by c n (needs.File (call.Stat name)) (came.Answered told) was = if is_file c n (parse name) then looked told.answer was else was
there_by c n (needs.File (call.CreateExcl name)) (came.Answered told) was = if is_file c n (parse name) then made told.answer was else was
there_by c n (needs.File (call.Unlink name)) (came.Answered told) was = if is_file c n (parse name) then gone told.answer was else was
there_by c n due got was = was

abbrev pub there_in : Channel → ℕ → List Own → Bool
there_in c n [] = false
there_in c n (event ∷ before) = there_by c n event.due event.came (there_in c n before)

-- Whether a message has it: as it was there when the message became known, until it is unlinked as nothing of it is left to do

abbrev pub is_done : Answer → Bool
is_done answer.Done = true
is_done told = false

abbrev pub drops : Channel → ℕ → Bool → NeedData → GotData → Bool
drops c n clears (needs.File (call.Unlink name)) (came.Answered told) = (not clears && is_file c n (parse name)) && is_done told.answer
drops c n clears due got = false

-- by whether it becomes known, whether the file is unlinked, and whether it is there
abbrev pub has_by : Bool → Bool → Bool → Bool → Bool
has_by true drops there was = there
has_by false true there was = false
has_by false false there was = was

abbrev pub has_in : Channel → ℕ → List Own → Bool
has_in c n [] = false
has_in c n (event ∷ before) =
    has_by (known_by event.due event.came (births before).command n false) (drops c n (has_unlinked before) event.due event.came) (there_in c n (event ∷ before)) (has_in c n before)

-- so it is of each message that a sender knows, and it is due on just the channels of which it has a file
pub record FilesAreOfPast : Type 0 where
  pub files : (turns : Option ℕ) (past : List Own) → IsRunBy (Next turns) past
      → All (λ (k : Known). (k.local ≡ has_in Local k.n past) × (k.remote ≡ has_in Remote k.n past)) (place_after turns past).book.messages.known
  pub due : (turns : Option ℕ) (past : List Own) → IsRunBy (Next turns) past → let m : Messages = (place_after turns past).book.messages in
      All (λ (k : Known). (c : Channel) → (has_in c k.n past ≡ true) ↔ HasEntry k.n (due_on c m)) m.known
