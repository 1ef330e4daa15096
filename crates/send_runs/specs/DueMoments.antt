-- When each message is due on each channel, by the sender's past alone (qmail-send(8)).
use Rattle.std.specs.Prelude.{◌≡◌, ◌⊎◌, ℕ, List, [], ◌∷◌, Bool, true, false, not, ◌&&◌, ◌==◌, Option, Some, None, is_some, bytes_eq}
use Rattle.std.specs.List.{list_any}
use Rattle.call_fs.specs.Disk.{Among}
use Rattle.call_fs.specs.Past.{IsRunBy}
use Rattle.call_fs.specs.declared.calls.Answer.{Answer}
use Rattle.call_fs.specs.declared.calls.Answer.TheVariants as answer
use Rattle.call_fs.specs.declared.calls.CallData.TheVariants as call
use Rattle.call_fs.specs.declared.calls.Fd.{Fd}
use Rattle.call_fs.specs.declared.calls.FsError.TheVariants as why
use Rattle.call_fs.specs.declared.calls.How.TheVariants as how
use Rattle.call_fs.specs.declared.past.GotData.{GotData}
use Rattle.call_fs.specs.declared.past.GotData.TheVariants as came
use Rattle.call_fs.specs.declared.past.NeedData.{NeedData}
use Rattle.call_fs.specs.declared.past.NeedData.TheVariants as needs
use Rattle.call_fs.specs.declared.past.Own.{Own}
use Rattle.call_fs.specs.declared.program.Port.TheVariants as port
use Rattle.queue_paths.specs.Names.{Name, parse}
use Rattle.queue_paths.specs.Names.Name.{Of}
use Rattle.queue_paths.specs.Names.Part.{Local as LocalFile, Remote as RemoteFile}
use Rattle.retry_schedule.specs.Retry.{next_retry}
use Rattle.send_core.specs.Agrees.{is_same}
use Rattle.send_core.specs.Births.{births}
use Rattle.send_core.specs.Desk.{later, never}
use Rattle.send_core.specs.Past.{Account, Owed, Task, Work, account, ends, work}
use Rattle.send_core.specs.Past.Work.{Reading}
use Rattle.send_core.specs.Table.{Next, place_after}
use Rattle.send_known.specs.declared.channel.Channel.{Channel}
use Rattle.send_known.specs.declared.channel.Channel.TheVariants.{Local, Remote}
use Rattle.send_jobs.specs.Channels.{skip_of}
use Rattle.send_jobs.specs.Tries.{due_on, moment_of}
use Rattle.send_links.specs.Records.{records_of}
use Rattle.todo_pass.specs.Table.{command_text}

-- The pass at work

-- a channel file that was opened for a pass: of which message, and when
pub record Trial : Type 0 where
  pub channel : Channel
  pub n : ℕ
  pub begun : ℕ

abbrev pub tried : ℕ → Option Work → Option Trial
tried now (Some (Reading s)) = Some (record { channel = s.channel; n = s.n; begun = now })
tried now other = None

abbrev pub trial_by : ℕ → Option Work → Option Trial → NeedData → Option Trial
trial_by now at_work before (needs.File (call.Open name how.Read)) = tried now at_work
trial_by now at_work before (needs.File (call.Close fd)) = None
trial_by now at_work before due = before

-- from its open until a close
abbrev pub trial : List Own → Option Trial
trial [] = None
trial (event ∷ before) = trial_by event.read (work (event ∷ before)) (trial before) event.due

abbrev pub is_trial_of : Channel → ℕ → Trial → Bool
is_trial_of c n t = is_same c t.channel && (t.n == n)

-- at its close: it was read to its end, and is records alone
abbrev pub is_whole : Option Work → Fd → Bool
is_whole (Some (Reading s)) fd = ends s fd && is_some (records_of s.bytes)
is_whole other fd = false

-- What an event is for a message on a channel

pub data Shift : Type 0 where
  Same : Shift
  -- it becomes known, and is due then
  Learns : (moment : ℕ) → Shift
  -- its file was read for a pass, which began then
  Begins : (begun : ℕ) → Shift
  -- its channel file couldn't be opened, read or unlinked
  Fails : Shift

abbrev pub is_file : Channel → ℕ → Option Name → Bool
is_file Local n (Some (Of LocalFile m)) = m == n
is_file Remote n (Some (Of RemoteFile m)) = m == n
is_file c n name = false

abbrev pub shift_if : Bool → Shift → Shift
shift_if true s = s
shift_if false s = Same

-- what the scan of the start finds is due at 0
abbrev pub found : Option Name → Answer → ℕ → Shift
found (Some (Of RemoteFile m)) (answer.Stat stat) n = shift_if (m == n) (Learns 0)
found (Some (Of RemoteFile m)) (answer.Refused why.NotThere) n = shift_if (m == n) (Learns 0)
found name told n = Same

abbrev pub unless_opened : Answer → Shift
unless_opened (answer.Opened fd) = Same
unless_opened told = Fails

abbrev pub unless_done : Answer → Shift
unless_done answer.Done = Same
unless_done told = Fails

abbrev pub began : Bool → ℕ → Shift
began true begun = Begins begun
began false begun = Fails

abbrev pub closed : Option Trial → Bool → Channel → ℕ → Shift
closed None whole c n = Same
closed (Some t) whole c n = shift_if (is_trial_of c n t) (began whole t.begun)

-- A todo pass unlinks the info file, the local and the remote one, one directly after the other. The sender unlinks the one of a pass that left
-- nothing to do, directly after a close.
abbrev pub is_unlink : NeedData → Bool
is_unlink (needs.File (call.Unlink name)) = true
is_unlink due = false

abbrev pub has_unlinked : List Own → Bool
has_unlinked [] = false
has_unlinked (event ∷ before) = is_unlink event.due

abbrev pub shift_by : Channel → ℕ → ℕ → List ℕ → Bool → Option Work → Option Trial → NeedData → GotData → Shift
shift_by c n now command clears at_work t (needs.File (call.Stat name)) (came.Answered told) = found (parse name) told.answer n
shift_by c n now command clears at_work t (needs.File (call.Open name how.Read)) (came.Answered told) = shift_if (is_file c n (parse name)) (unless_opened told.answer)
shift_by c n now command clears at_work t (needs.File (call.Close fd)) (came.Answered told) = closed t (is_whole at_work fd) c n
shift_by c n now command clears at_work t (needs.File (call.Unlink name)) (came.Answered told) = shift_if (not clears && is_file c n (parse name)) (unless_done told.answer)
shift_by c n now command clears at_work t (needs.Take port.Clean) (came.Took bytes) = shift_if (bytes_eq command (command_text n) && bytes_eq bytes (43 ∷ [])) (Learns now)
shift_by c n now command clears at_work t due got = Same

abbrev pub shift : Channel → ℕ → List Own → Own → Shift
shift c n before event = shift_by c n event.read (births before).command (has_unlinked before) (work before) (trial before) event.due event.came

-- What goes on

-- an attempt at it is in flight
abbrev pub Flies : ℕ → Account → Type 0
Flies n a = (slot : ℕ) × (t : Task) × (a.in_flight slot ≡ Some t) × (t.n ≡ n)

abbrev pub is_owed : ℕ → Owed → Bool
is_owed n owed = owed.task.n == n

-- none is, and no record of it is to be marked
abbrev pub IsOver : ℕ → Account → Type 0
IsOver n a = (Flies n a → ⊥) × (list_any (is_owed n) a.to_mark ≡ false)

-- When it is due

abbrev pub begun_by : Shift → Option ℕ → Option ℕ
begun_by (Begins begun) was = Some begun
begun_by Fails was = None
begun_by s was = was

-- when its last pass began
abbrev pub begun_in : Channel → ℕ → List Own → Option ℕ
begun_in c n [] = None
begun_in c n (event ∷ before) = begun_by (shift c n before event) (begun_in c n before)

-- the next retry after that, reckoned from its birth
abbrev pub IsRetryOf : Option ℕ → ℕ → Channel → ℕ → Type 0
IsRetryOf None birth c due = ⊥
IsRetryOf (Some begun) birth c due = due ≡ next_retry (moment_of birth) (moment_of begun) (skip_of c)

-- After an event at this moment, by what was so before it, by whether an attempt at it was in flight then, and by whether its pass is over after it.
-- While an attempt at it is in flight no other pass begins.
abbrev pub IsDueBy : Shift → ℕ → Type 0 → Type 0 → Type 0 → Type 0 → ℕ → Type 0
IsDueBy Same now was flies over retry due = was ⊎ (over × retry)
IsDueBy (Learns moment) now was flies over retry due = due ≡ moment
IsDueBy (Begins begun) now was flies over retry due = ((flies → ⊥) × (due ≡ never)) ⊎ (flies × (due ≡ later now))
IsDueBy Fails now was flies over retry due = due ≡ later now

-- It may be due then: found by the scan of the start at 0; at the moment of the `+` of its todo pass; 123 seconds after its channel file couldn't
-- be opened, read or unlinked; and since a pass of it began never while that goes on, and once that is over at the next retry.
abbrev pub IsDue : Channel → ℕ → List Own → ℕ → Type 0
IsDue c n [] due = ⊥
IsDue c n (event ∷ before) due =
    let past : List Own = event ∷ before in
    IsDueBy (shift c n before event) event.read (IsDue c n before due) (Flies n (account c before)) (IsOver n (account c past))
    (IsRetryOf (begun_in c n past) ((births past).of n) c due) due

-- so is what a sender has as due on a channel
abbrev pub DuesAreOfPast : Type 0
DuesAreOfPast = (turns : Option ℕ) (past : List Own) → IsRunBy (Next turns) past → (c : Channel) (n due : ℕ) → Among (due, n) (due_on c (place_after turns past).book.messages) → IsDue c n past due
