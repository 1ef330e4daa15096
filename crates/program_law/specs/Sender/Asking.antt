-- The text of each request that lies ready: it is for the record of its attempt, with the sender of the message.
use Rattle.std.specs.Prelude.{◌≡◌, ℕ, ◌≤◌, List, [], ◌∷◌, true, Option, Some}
use Rattle.call_fs.specs.declared.past.GotData.{GotData}
use Rattle.call_fs.specs.declared.past.NeedData.TheVariants as needs
use Rattle.call_fs.specs.declared.program.Ready.{Ready}
use Rattle.program_law.specs.Channel.Files.{IsOpen}
use Rattle.program_law.specs.Channel.Laws.{IsAlone}
use Rattle.mail_bytes.specs.Moments.{IsMoment}
use Rattle.retry_schedule.specs.Due.{is_due}
use Rattle.send_core.specs.declared.desk.Desk.{Desk}
use Rattle.send_parts.specs.declared.row.Row.{Row}
use Rattle.send_parts.specs.declared.row.Row.TheVariants as at
use Rattle.send_core.specs.Desk.{due_on, link}
use Rattle.send_core.specs.Table.{begun, due_at, moved_by, port_of, row_now}
use Rattle.send_jobs.specs.declared.attempts.Attempt.{Attempt}
use Rattle.send_known.specs.declared.channel.Channel.{Channel}
use Rattle.send_jobs.specs.Lanes.{next}
use Rattle.send_jobs.specs.Sending.{lane}
use Rattle.send_jobs.specs.Slots.{lowest}
use Rattle.send_known.specs.declared.known.Known.{Known}
use Rattle.send_known.specs.Known.{is_known}
use Rattle.send_links.specs.Requests.{addressed, request_of, to_slot}
use Rattle.queue_law.specs.Books.{Injection}
use Rattle.queue_law.specs.Ledgers.{Line}
use Rattle.queue_law.specs.Numbers.{Queue}
use Rattle.queue_law.specs.Routes.{sender_of}
use Rattle.queue_law.specs.Senders.{entered_queue}
use Rattle.program_law.specs.Sender.Views.{files_of}
use Rattle.program_law.specs.Sender.Stands.{SenderStands, SparesSorted}

-- The text is the request for the attempt's record, for some slot, with the sender of the injection whose life lasts.
pub record IsTextFor (q : Queue) (a : Attempt) (text : List ℕ) : Type 0 where
  pub injection : Injection
  pub lives : q.books.living a.n ≡ Some injection
  pub slot : ℕ
  pub is : text ≡ to_slot slot (request_of a.n (sender_of injection.args) a.address)

-- so is each of them, in order
abbrev pub AreTextsFor : Queue → List (List ℕ) → List Attempt → Type 0
AreTextsFor q [] [] = Unit {0}
AreTextsFor q (text ∷ texts) (a ∷ left) = IsTextFor q a text × AreTextsFor q texts left
AreTextsFor q texts left = ⊥

-- the message whose file is read is known
abbrev pub IsKnownAt : Row → List Known → Type 0
IsKnownAt (at.ReadFile c n begun reading) known = is_known n known ≡ true
IsKnownAt row known = Unit {0}

-- The requests that lie ready are those of the attempts that are still to be given, and the first is for the lowest free slot; and each
-- message that is due, or whose file is read, is known.
pub record TextsStand (q : Queue) (d : Desk) : Type 0 where
  pub texts : (ch : Channel) → AreTextsFor q (link ch d).requests (lane ch d.slots).left
  pub first : (ch : Channel) → addressed (lowest (lane ch d.slots).slots) (link ch d).requests ≡ (link ch d).requests
  pub due : (ch : Channel) (n : ℕ) → is_due n (due_on ch d.book.messages) ≡ true → is_known n d.book.messages.known ≡ true
  pub reads : IsKnownAt d.row d.book.messages.known

-- What is given to a spawner: the request for a record that reads `T` in its channel file as it is now, with the sender of its message,
-- for the lowest free slot; and no other attempt at that record is in flight.
pub record IsRequestFor (q : Queue) (ch : Channel) (d : Desk) (text : List ℕ) : Type 0 where
  pub attempt : Attempt
  pub next_is : next (lane ch d.slots) ≡ Some attempt
  pub reads : IsOpen (files_of q ch) attempt
  pub alone : IsAlone attempt (lane ch d.slots)
  pub slot : ℕ
  pub free : lowest (lane ch d.slots).slots ≡ Some slot
  pub injection : Injection
  pub lives : q.books.living attempt.n ≡ Some injection
  pub is : text ≡ to_slot slot (request_of attempt.n (sender_of injection.args) attempt.address)

-- The laws

pub record TextsKeep : Type 0 where
  pub begins : (q : Queue) (turns : Option ℕ) → TextsStand q (begun turns)
  -- whatever comes of what is due
  pub goes_on : (now : ℕ) (q : Queue) (a : List ℕ) (d : Desk) (read : ℕ) (ready : Ready) (came : GotData) → read ≤ now → IsMoment read
      → SenderStands now q a d → TextsStand q d → TextsStand q (moved_by (row_now d read ready) read came d)
  -- a line is entered in a ledger
  pub enters : (q : Queue) (n : ℕ) (line : Line) (d : Desk) → TextsStand q d → TextsStand (entered_queue q n line) d
  -- a step of another actor leaves alone what is preprocessed
  pub others : (now : ℕ) (q r : Queue) (a : List ℕ) (d : Desk) → SparesSorted q r → SenderStands now q a d → TextsStand q d → TextsStand r d

-- Each giving to a spawner is a request.
abbrev pub RequestsAreTexts : Type 0
RequestsAreTexts = (now : ℕ) (q : Queue) (a : List ℕ) (d : Desk) (read : ℕ) (ready : Ready) (ch : Channel) (text : List ℕ) → read ≤ now → IsMoment read
    → SenderStands now q a d → TextsStand q d → due_at (row_now d read ready) d ≡ needs.Give (port_of ch) text → IsRequestFor q ch d text
