-- What a living sender relies on, over the queue: by its row, and by what it knows and keeps.
use Rattle.std.specs.Prelude.{◌≡◌, ℕ, List, Option, Some, None, All, IsSome}
use Rattle.address_rules.specs.Nuls.{HaveNoNul}
use Rattle.program_law.specs.Channel.Tied.{IsTied, waiting}
use Rattle.queue_paths.specs.Names.Name.{Of}
use Rattle.queue_paths.specs.Names.Part.{Info}
use Rattle.queue_paths.specs.Parts.{in_todo}
use Rattle.send_core.specs.declared.desk.Desk.{Desk}
use Rattle.send_parts.specs.declared.row.Row.{Row}
use Rattle.send_parts.specs.declared.row.Row.TheVariants as at
use Rattle.send_core.specs.Desk.{due_on, never}
use Rattle.send_parts.specs.declared.rows.StartRow.TheVariants as start
use Rattle.send_jobs.specs.declared.attempts.Mark.{Mark}
use Rattle.send_known.specs.declared.channel.Channel.{Channel}
use Rattle.send_jobs.specs.declared.jobs.Job.{Job}
use Rattle.send_jobs.specs.declared.slots.Slots.{Slots}
use Rattle.send_jobs.specs.Jobs.{job_of}
use Rattle.send_jobs.specs.Sending.{lane}
use Rattle.send_known.specs.declared.known.Known.{Known}
use Rattle.send_known.specs.declared.messages.Messages.{Messages}
use Rattle.send_parts.specs.declared.book.Book.{Book}
use Rattle.queue_law.specs.Numbers.{Queue, Entry, look, about}
use Rattle.queue_law.specs.Rests.{IsClosed}
use Rattle.queue_law.specs.Senders.{LeadsOn}
use Rattle.program_law.specs.Sender.Views.{files_of, first_at}
use Rattle.program_law.specs.Sender.Knows.{Knows, Serves, IsEntered}
use Rattle.program_law.specs.Sender.Rows.{IsTakenUp, RowStands, Works, works}

-- Each known message is preprocessed, and of each that is due on a channel the file is there.
pub record KnowsAll (q : Queue) (row : Row) (m : Messages) : Type 0 where
  pub known : All (λ (k : Known). Knows row (about q k.n) k) m.known
  pub due : (ch : Channel) → All (λ (e : ℕ × ℕ). Serves (about q e.1) ch) (due_on ch m)

-- What is kept of a channel is tied to its files, as they read now; of each job the file is there; and each mark whose record may read
-- `T` is of a recipient that was reported delivered, or if something is noted of it, as failed for good.
pub record LaneStands (q : Queue) (row : Row) (ch : Channel) (s : Slots) : Type 0 where
  pub tied : IsTied (files_of q ch) (first_at row ch) (lane ch s)
  pub jobs : (n : ℕ) (job : Job) → job_of n (lane ch s).jobs ≡ Some job → Serves (about q n) ch
  pub marks : All (λ (m : Mark). IsEntered (about q m.attempt.n) ch m) (waiting (first_at row ch) (lane ch s).marks)

-- A message with a job on a channel is due there, if it is, at the moment that never comes.
abbrev pub DueApart : Messages → Slots → Type 0
DueApart m s = (ch : Channel) → All (λ (e : ℕ × ℕ). IsSome (job_of e.1 (lane ch s).jobs) → e.0 ≡ never) (due_on ch m)

-- it has read the control files, and hasn't ended
abbrev pub HasControls : Row → Type 0
HasControls (at.Start (start.Control file reading)) = ⊥
HasControls (at.Ended status) = ⊥
HasControls row = Unit {0}

-- At this row, with this book and these slots, and with what stands at work beside them.
pub record Stands (now : ℕ) (q : Queue) (a : List ℕ) (row : Row) (b : Book) (s : Slots) (p : Works) : Type 0 where
  pub knows : KnowsAll q row b.messages
  pub lanes : (ch : Channel) → LaneStands q row ch s
  pub apart : DueApart b.messages s
  pub no_nul : HasControls row → HaveNoNul b.controls
  pub rests : RowStands now q a row b s p

-- so it is of a sender with this desk
abbrev pub SenderStands : ℕ → Queue → List ℕ → Desk → Type 0
SenderStands now q a d = Stands now q a d.row d.book d.slots (works d)

-- at this row, to which it has come
abbrev pub StandsAt : ℕ → Queue → List ℕ → Row → Desk → Type 0
StandsAt now q a row d = Stands now q a row d.book d.slots (works d)

-- What an event of a sender leads to: what holds of the queue holds then too, of all but one number nothing changed, which is one that no
-- injector touches, and the sender has what it relies on.
pub record SenderLeads (now : ℕ) (a : List ℕ) (q r : Queue) (next : Desk) : Type 0 where
  pub number : Option ℕ
  pub closed : (n : ℕ) → number ≡ Some n → IsClosed now q n
  pub leads : LeadsOn now a number q r
  pub stands : SenderStands now r a next

-- What a step of another actor leaves to a sender: that a number is taken up, and all that concerns a preprocessed one.
pub record SparesSorted (q r : Queue) : Type 0 where
  pub taken_up : (n : ℕ) → IsTakenUp (about q n) → IsTakenUp (about r n)
  pub sorted : (n : ℕ) → in_todo (about q n).parts ≡ None → (info : Entry) → look q (Of Info n) ≡ Some info → about r n ≡ about q n
