-- When each message is due on each channel, exactly: by the sender's past, and by whether it unlinks the channel file next (qmail-send(8)).
use Rattle.std.specs.Prelude.{◌≡◌, ℕ, zero, suc, List, [], ◌∷◌, Bool, true, false, not, ◌&&◌, ◌||◌, ◌==◌, Option, Some, None}
use Rattle.std.specs.List.{list_any}
use Rattle.call_fs.specs.Disk.{Among}
use Rattle.call_fs.specs.Past.{IsRunBy}
use Rattle.call_fs.specs.declared.calls.Answer.{Answer}
use Rattle.call_fs.specs.declared.calls.Answer.TheVariants as answer
use Rattle.call_fs.specs.declared.calls.CallData.TheVariants as call
use Rattle.call_fs.specs.declared.calls.How.TheVariants as how
use Rattle.call_fs.specs.declared.past.GotData.{GotData}
use Rattle.call_fs.specs.declared.past.GotData.TheVariants as came
use Rattle.call_fs.specs.declared.past.NeedData.{NeedData}
use Rattle.call_fs.specs.declared.past.NeedData.TheVariants as needs
use Rattle.call_fs.specs.declared.past.Own.{Own}
use Rattle.queue_limits.specs.declared.counts.TheConstants.{MAX_SLOTS}
use Rattle.queue_paths.specs.Names.{parse}
use Rattle.retry_schedule.specs.Retry.{next_retry}
use Rattle.send_core.specs.Births.{births}
use Rattle.send_core.specs.Desk.{later, never}
use Rattle.send_core.specs.Past.{Account, Task, account}
use Rattle.send_core.specs.Table.{Next, place_after}
use Rattle.send_known.specs.declared.channel.Channel.{Channel}
use Rattle.send_jobs.specs.Channels.{skip_of}
use Rattle.send_jobs.specs.Tries.{due_on, moment_of}
use Rattle.send_runs.specs.DueMoments.{Shift, is_file, is_owed, is_unlink, shift}
use Rattle.send_runs.specs.DueMoments.Shift.{Begins, Fails, Learns, Same}

-- Whether a pass goes on

-- an attempt at it is in flight in one of so many slots
abbrev pub is_at : ℕ → Option Task → Bool
is_at n None = false
is_at n (Some t) = t.n == n

abbrev pub flies_in : ℕ → ℕ → (ℕ → Option Task) → Bool
flies_in zero n of = false
flies_in (suc k) n of = is_at n (of 0) || flies_in k n (λ slot. of (suc slot))

-- a channel has at most `MAX_SLOTS`
abbrev pub flies : ℕ → Account → Bool
flies n a = flies_in MAX_SLOTS n a.in_flight

abbrev pub is_task : ℕ → Task → Bool
is_task n t = t.n == n

-- no record of it is to be given, in flight or to be marked
abbrev pub is_over : ℕ → Account → Bool
is_over n a = (not (list_any (is_task n) a.to_give) && not (flies n a)) && not (list_any (is_owed n) a.to_mark)

-- A mark goes on from the open of its file until that is closed.
abbrev pub is_open : Answer → Bool
is_open (answer.Opened fd) = true
is_open told = false

abbrev pub is_marking : NeedData → GotData → Bool
is_marking (needs.File (call.Open name how.Write)) (came.Answered told) = is_open told.answer
is_marking (needs.File (call.WriteAt fd at bytes)) got = true
is_marking due got = false

abbrev pub over_at : Channel → ℕ → List Own → Own → Bool
over_at c n before event = is_over n (account c (event ∷ before)) && not (is_marking event.due event.came)

-- until it is over
abbrev pub unless : Bool → Option ℕ → Option ℕ
unless true pass = None
unless false pass = pass

-- After an event, by whether an attempt at it was in flight before that, and whether nothing is left to do after it. While one is in flight no
-- other pass begins.
abbrev pub pass_by : Shift → Bool → Bool → Option ℕ → Option ℕ
pass_by (Begins begun) true over was = None
pass_by (Begins begun) false over was = unless over (Some begun)
pass_by Fails flies over was = None
pass_by Same flies over was = unless over was
pass_by (Learns moment) flies over was = unless over was

-- when the pass began that goes on, if one does
abbrev pub pass_in : Channel → ℕ → List Own → Option ℕ
pass_in c n [] = None
pass_in c n (event ∷ before) = pass_by (shift c n before event) (flies n (account c before)) (over_at c n before event) (pass_in c n before)

-- When it is due

-- The sender unlinks its file. A todo pass does so directly after an unlink.
abbrev pub unlinks : Channel → ℕ → Bool → NeedData → Bool
unlinks c n clears (needs.File (call.Unlink name)) = not clears && is_file c n (parse name)
unlinks c n clears due = false

abbrev pub retry_at : List Own → Channel → ℕ → ℕ → ℕ
retry_at past c n begun = next_retry (moment_of ((births past).of n)) (moment_of begun) (skip_of c)

-- if its pass ends by an event
abbrev pub again : Bool → Option ℕ → (ℕ → ℕ) → ℕ → ℕ
again true (Some begun) retry was = retry begun
again true None retry was = was
again false pass retry was = was

abbrev pub due_by : Shift → ℕ → Bool → Bool → Option ℕ → (ℕ → ℕ) → ℕ → ℕ
due_by (Learns moment) now flies ends pass retry was = moment
due_by (Begins begun) now true ends pass retry was = later now
due_by (Begins begun) now false ends pass retry was = never
due_by Fails now flies ends pass retry was = later now
due_by Same now flies ends pass retry was = again ends pass retry was

-- After a past, where that is done next. A message that the scan of the start finds is due at 0, and one whose todo pass is done at that moment. It is
-- due 123 seconds after its file couldn't be opened, read or unlinked, or was read while an attempt at it was in flight; and never from when a
-- pass of it begins. Once nothing of that is to be given, in flight or to be marked it is due at the next retry, but for one whose file is
-- unlinked next. Nothing else changes the moment.
abbrev pub due_in : Channel → ℕ → NeedData → List Own → ℕ
due_in c n next [] = 0
due_in c n next (event ∷ before) =
    due_by (shift c n before event) event.read (flies n (account c before)) (over_at c n before event && not (unlinks c n (is_unlink event.due) next)) (pass_in c n before)
    (retry_at (event ∷ before) c n) (due_in c n event.due before)

-- so it is of each message that is due on a channel, at each event of a run
abbrev pub DueExactly : Type 0
DueExactly = (turns : Option ℕ) (past : List Own) (event : Own) → IsRunBy (Next turns) (event ∷ past) → (c : Channel) (n due : ℕ)
    → Among (due, n) (due_on c (place_after turns past).book.messages) → due ≡ due_in c n event.due past
