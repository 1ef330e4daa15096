-- From when each known message may be finished, by the sender's past alone (qmail-send(8)): at once when it becomes known, and whenever a finish of
-- it fails 123 seconds after that.
use Rattle.std.specs.Prelude.{◌≡◌, ℕ, List, [], ◌∷◌, Bool, true, false, not, ◌&&◌, ◌==◌, Option, Some, None, All}
use Rattle.call_fs.specs.Past.{IsRunBy}
use Rattle.call_fs.specs.declared.calls.Answer.{Answer}
use Rattle.call_fs.specs.declared.calls.Answer.TheVariants as answer
use Rattle.call_fs.specs.declared.calls.CallData.TheVariants as call
use Rattle.call_fs.specs.declared.calls.FsError.TheVariants as why
use Rattle.call_fs.specs.declared.calls.How.TheVariants as how
use Rattle.call_fs.specs.declared.past.GotData.{GotData}
use Rattle.call_fs.specs.declared.past.GotData.TheVariants as came
use Rattle.call_fs.specs.declared.past.NeedData.{NeedData}
use Rattle.call_fs.specs.declared.past.NeedData.TheVariants as needs
use Rattle.call_fs.specs.declared.past.Own.{Own}
use Rattle.call_fs.specs.declared.program.Port.TheVariants as port
use Rattle.queue_paths.specs.Names.{Name, parse}
use Rattle.queue_paths.specs.Names.Name.{Of}
use Rattle.queue_paths.specs.Names.Part.{Bounce as BounceFile, Info as InfoFile, Mess as MessFile}
use Rattle.send_core.specs.Births.{births}
use Rattle.send_core.specs.Desk.{later}
use Rattle.send_core.specs.Table.{Next, place_after}
use Rattle.send_known.specs.declared.known.Known.{Known}
use Rattle.send_runs.specs.Knowing.{known_by}

-- The message whose bounce is read or returned: only a finish opens a bounce file or a message file for reading

abbrev pub opened_for : Option Name → Option ℕ
opened_for (Some (Of BounceFile n)) = Some n
opened_for (Some (Of MessFile n)) = Some n
opened_for name = None

abbrev pub returning_by : Option ℕ → NeedData → Option ℕ
returning_by before (needs.File (call.Open name how.Read)) = opened_for (parse name)
returning_by before (needs.File (call.ReadAt fd at len)) = before
returning_by before (needs.File (call.Close fd)) = before
returning_by before (needs.File (call.Unlink name)) = before
returning_by before (needs.Start child) = before
returning_by before (needs.Give (port.Program k) text) = before
returning_by before (needs.Take (port.Status k)) = before
returning_by before due = None

abbrev pub returning : List Own → Option ℕ
returning [] = None
returning (event ∷ before) = returning_by (returning before) event.due

-- A finish unlinks the info file directly after an open or another unlink, and a todo pass does so directly after a search

abbrev pub is_search : NeedData → Bool
is_search (needs.File (call.NextName dir after)) = true
is_search due = false

abbrev pub has_searched : List Own → Bool
has_searched [] = false
has_searched (event ∷ before) = is_search event.due

-- A file that couldn't be read is closed directly after that

abbrev pub isnt_counted : Answer → Bool
isnt_counted (answer.Count count) = false
isnt_counted told = true

abbrev pub is_misread : NeedData → GotData → Bool
is_misread (needs.File (call.ReadAt fd at len)) (came.Answered told) = isnt_counted told.answer
is_misread due got = false

abbrev pub has_misread : List Own → Bool
has_misread [] = false
has_misread (event ∷ before) = is_misread event.due event.came

-- Which events make the finish of message n fail

abbrev pub is_message : ℕ → Option ℕ → Bool
is_message n None = false
is_message n (Some k) = k == n

-- a bounce file that is missing is no failure
abbrev pub isnt_opened : ℕ → Option Name → Answer → Bool
isnt_opened n name (answer.Opened fd) = false
isnt_opened n (Some (Of BounceFile k)) (answer.Refused why.NotThere) = false
isnt_opened n (Some (Of BounceFile k)) told = k == n
isnt_opened n (Some (Of MessFile k)) told = k == n
isnt_opened n name told = false

-- the bounce file, or the info file unless a todo pass does it
abbrev pub isnt_unlinked : Bool → ℕ → Option Name → Answer → Bool
isnt_unlinked searched n name answer.Done = false
isnt_unlinked searched n (Some (Of BounceFile k)) told = k == n
isnt_unlinked searched n (Some (Of InfoFile k)) told = not searched && (k == n)
isnt_unlinked searched n name told = false

abbrev pub isnt_started : GotData → Bool
isnt_started (came.Started pid) = false
isnt_started got = true

abbrev pub isnt_given : GotData → Bool
isnt_given came.Gave = false
isnt_given got = true

abbrev pub isnt_queued : GotData → Bool
isnt_queued (came.Ended status) = not (status == 0)
isnt_queued got = true

abbrev pub fails_by : ℕ → Option ℕ → Bool → Bool → NeedData → GotData → Bool
fails_by n at_work searched misread (needs.File (call.Open name how.Read)) (came.Answered told) = isnt_opened n (parse name) told.answer
fails_by n at_work searched misread (needs.File (call.Close fd)) (came.Answered told) = misread && is_message n at_work
fails_by n at_work searched misread (needs.File (call.Unlink name)) (came.Answered told) = isnt_unlinked searched n (parse name) told.answer
fails_by n at_work searched misread (needs.Start child) got = isnt_started got && is_message n at_work
fails_by n at_work searched misread (needs.Give (port.Program k) text) got = isnt_given got && is_message n at_work
fails_by n at_work searched misread (needs.Take (port.Status k)) got = isnt_queued got && is_message n at_work
fails_by n at_work searched misread due got = false

-- From when

-- after an event by which it becomes known, or doesn't, and by which a finish of it fails, or doesn't
abbrev pub finish_by : Bool → Bool → ℕ → ℕ → ℕ
finish_by true fails now was = 0
finish_by false true now was = later now
finish_by false false now was = was

-- When `bounce/7` couldn't be opened at 500, that is 623 for message 7, until it becomes known again or a finish of it fails again.
abbrev pub finish_in : ℕ → List Own → ℕ
finish_in n [] = 0
finish_in n (event ∷ before) =
    finish_by (known_by event.due event.came (births before).command n false) (fails_by n (returning before) (has_searched before) (has_misread before) event.due event.came) event.read (finish_in n before)

-- so it is of each message that a sender knows
abbrev pub FinishesAreOfPast : Type 0
FinishesAreOfPast = (turns : Option ℕ) (past : List Own) → IsRunBy (Next turns) past → All (λ (k : Known). k.finish_at ≡ finish_in k.n past) (place_after turns past).book.messages.known
