-- What a sender does to the bounce file of a message (INTERNALS, section 5): it makes it, puts notes at its end, and syncs it, by which the
-- recipient is noted; and once the notes were returned, or are dropped, it takes it away.
use Rattle.std.specs.Prelude.{◌≡◌, ◌≢◌, ℕ, List, ◌++◌, codes, Some, None}
use Rattle.address_rules.specs.declared.controls.Controls.{Controls}
use Rattle.address_rules.specs.Names.{stripped}
use Rattle.bounce_record.specs.Notes.{with_note}
use Rattle.call_fs.specs.declared.calls.CallData.{CallData}
use Rattle.call_fs.specs.declared.calls.CallData.TheVariants.{Append, Close, CreateExcl, Sync, Unlink}
use Rattle.call_fs.specs.declared.calls.Answer.{Answer}
use Rattle.call_fs.specs.declared.calls.Answer.TheVariants.{Created, Done}
use Rattle.call_fs.specs.declared.calls.Fd.{Fd}
use Rattle.call_fs.specs.declared.modes.Mode.{Mode}
use Rattle.call_fs.specs.Apply.{effect, empty_file, Fits}
use Rattle.call_fs.specs.Disk.{Among, File, Open}
use Rattle.queue_paths.specs.Names.{Part, path}
use Rattle.queue_paths.specs.Names.Name.{Of}
use Rattle.queue_paths.specs.Names.Part.{Bounce, Info}
use Rattle.queue_paths.specs.Parts.{in_todo}
use Rattle.send_known.specs.declared.channel.Channel.{Channel}
use Rattle.queue_law.specs.Ledgers.{Bounced, Line}
use Rattle.queue_law.specs.Ledgers.Line.{Drops, Notes}
use Rattle.queue_law.specs.Books.{Books, Injection, entered_in, held_by, routed_in, spot_in}
use Rattle.queue_law.specs.Notes.{Covers}
use Rattle.queue_law.specs.Routes.{Recipient, lane_part, sender_of}
use Rattle.queue_law.specs.Numbers.{Role, Queue, Entry, look, About, about, Sound}
use Rattle.queue_law.specs.Injectors.{IsHeld, created}
use Rattle.queue_law.specs.Senders.{HasLane, LeadsOn, MayEnter, called_queue}

-- a call enters this line if its answer is Ok
abbrev pub entered_if : Answer → Books → ℕ → Line → Books
entered_if Done b n line = entered_in b n line
entered_if answer b n line = b

-- the queue after such a call
abbrev pub entering_queue : Queue → List ℕ → (read : ℕ) → CallData → Answer → (wrote : ℕ) → ℕ → Line → Queue
entering_queue q a read call answer wrote n line = record {
  disk = effect q.disk read call answer wrote;
  holder = held_by q.holder a call answer;
  books = entered_if answer q.books n line;
  role = q.role;
}

-- the bounce file of a number is there, and this descriptor of the actor's is open on it
pub record HoldsBounce (q : Queue) (a : List ℕ) (n fd : ℕ) : Type 0 where
  pub file : Entry
  pub there : look q (Of Bounce n) ≡ Some file
  pub mode : Mode
  pub opened : IsHeld q.disk.opens q.holder a fd (record { number = file.number; mode = mode })

-- nothing else of the number changed
abbrev pub OthersStay : Queue → Queue → ℕ → Type 0
OthersStay q r n = (part : Part) → part ≢ Bounce → look r (Of part n) ≡ look q (Of part n)

-- what the actor held it holds still
abbrev pub KeepsOpen : Queue → Queue → List ℕ → Type 0
KeepsOpen q r a = (fd : ℕ) (how : Open) → IsHeld q.disk.opens q.holder a fd how → IsHeld r.disk.opens r.holder a fd how

-- A create

-- a new bounce file is there, and open
pub record IsBegunAs (r : Queue) (a : List ℕ) (n read fd i : ℕ) : Type 0 where
  pub there : look r (Of Bounce n) ≡ Some (record { number = i; file = empty_file read })
  pub opened : IsHeld r.disk.opens r.holder a fd (created i)

-- what a create leads to
pub record BounceBegins (now : ℕ) (q : Queue) (a : List ℕ) (read n : ℕ) (answer : Answer) (wrote : ℕ) : Type 0 where
  pub role : ℕ → Role
  pub leads : LeadsOn now a (Some n) q (called_queue q a read (CreateExcl (path (Of Bounce n))) answer wrote role)
  pub others : OthersStay q (called_queue q a read (CreateExcl (path (Of Bounce n))) answer wrote role) n
  pub begins : (fd : Fd) (i : ℕ) → answer ≡ Created fd i → IsBegunAs (called_queue q a read (CreateExcl (path (Of Bounce n))) answer wrote role) a n read fd.0 i

-- The bounce file may be created while a channel file is there: so nothing of the message was returned.
abbrev pub BouncesBegin : Type 0
BouncesBegin = (now : ℕ) (q : Queue) (a : List ℕ) (read n : ℕ) (ch : Channel) (answer : Answer) (wrote : ℕ)
    → Sound q → HasLane (about q n) ch → Fits q.disk (CreateExcl (path (Of Bounce n))) answer wrote → BounceBegins now q a read n answer wrote

-- An append

-- what an append leads to
pub record BounceGrows (now : ℕ) (q r : Queue) (a : List ℕ) (n fd : ℕ) (held : HoldsBounce q a n fd) (more : List ℕ) (answer : Answer) : Type 0 where
  pub leads : LeadsOn now a (Some n) q r
  pub others : OthersStay q r n
  pub opens : KeepsOpen q r a
  pub file : File
  pub there : look r (Of Bounce n) ≡ Some (record { number = held.file.number; file = file })
  pub reads : answer ≡ Done → file.bytes ≡ held.file.file.bytes ++ more

-- whatever is put at its end, and however much of it was
abbrev pub BouncesGrow : Type 0
BouncesGrow = (now : ℕ) (q : Queue) (a : List ℕ) (read n : ℕ) (fd : Fd) (more : List ℕ) (answer : Answer) (wrote : ℕ)
    → Sound q → (held : HoldsBounce q a n fd.0) → Fits q.disk (Append fd more) answer wrote
    → BounceGrows now q (called_queue q a read (Append fd more) answer wrote q.role) a n fd.0 held more answer

-- A sync

-- The bounce file may be synced with the note of this recipient, which failed for good: that stands at its end, under the name that these controls
-- give it, and what was there before names each recipient that is noted.
pub record MayNote (by : Controls) (q : Queue) (a : List ℕ) (n fd : ℕ) : Type 0 where
  pub held : HoldsBounce q a n fd
  pub injection : Injection
  pub lives : q.books.living n ≡ Some injection
  pub recipient : Recipient injection.args
  pub failed : Among (spot_in injection recipient) injection.ledger.failed
  pub base : List ℕ
  pub report : List ℕ
  pub covers : Covers injection base
  pub reads : held.file.file.bytes ≡ with_note base (stripped by.virtual_domains (routed_in injection recipient)) report

-- what it leads to: if the answer is Ok, it is noted under that name
pub record NoteLeads (now : ℕ) (q r : Queue) (a : List ℕ) (n : ℕ) : Type 0 where
  pub leads : LeadsOn now a (Some n) q r
  pub others : OthersStay q r n
  pub opens : KeepsOpen q r a

abbrev pub NotesSync : Type 0
NotesSync = (by : Controls) (now : ℕ) (q : Queue) (a : List ℕ) (read n : ℕ) (fd : Fd) (answer : Answer) (wrote : ℕ)
    → Sound q → (may : MayNote by q a n fd.0) → Fits q.disk (Sync fd) answer wrote
    → NoteLeads now q (entering_queue q a read (Sync fd) answer wrote n (Notes (record { spot = spot_in may.injection may.recipient; by = by }))) a n

-- An unlink

-- The bounce file may go: a bounce with what it holds was accepted.
pub record MayUnlink (w : About) : Type 0 where
  pub file : Entry
  pub there : w.parts Bounce ≡ Some file
  pub injection : Injection
  pub lives : w.living ≡ Some injection
  pub bounce : Bounced
  pub accepted : Among bounce injection.ledger.bounced
  pub notes : bounce.read.notes ≡ file.file.bytes

abbrev pub BouncesGo : Type 0
BouncesGo = (now : ℕ) (q : Queue) (a : List ℕ) (read n : ℕ) (answer : Answer) (wrote : ℕ)
    → Sound q → MayUnlink (about q n) → Fits q.disk (Unlink (path (Of Bounce n))) answer wrote
    → LeadsOn now a (Some n) q (called_queue q a read (Unlink (path (Of Bounce n))) answer wrote q.role)

-- It may be dropped: the message is a bounce of a bounce, and its channel files are gone.
pub record MayDiscard (w : About) : Type 0 where
  pub file : Entry
  pub there : w.parts Bounce ≡ Some file
  pub injection : Injection
  pub lives : w.living ≡ Some injection
  pub sender : sender_of injection.args ≡ codes "#@[]"
  pub gone : (ch : Channel) → w.parts (lane_part ch) ≡ None

-- if the answer is Ok, the ledger tells so
abbrev pub BouncesDrop : Type 0
BouncesDrop = (now : ℕ) (q : Queue) (a : List ℕ) (read n : ℕ) (answer : Answer) (wrote : ℕ)
    → Sound q → MayDiscard (about q n) → Fits q.disk (Unlink (path (Of Bounce n))) answer wrote
    → LeadsOn now a (Some n) q (entering_queue q a read (Unlink (path (Of Bounce n))) answer wrote n Drops)

-- Of the number of a bounce file this holds: it is preprocessed, and the file names each recipient that is noted.
pub record IsBouncing (w : About) : Type 0 where
  pub no_todo : in_todo w.parts ≡ None
  pub info : Entry
  pub info_there : w.parts Info ≡ Some info
  pub injection : Injection
  pub lives : w.living ≡ Some injection
  pub covers : (y : Entry) → w.parts Bounce ≡ Some y → Covers injection y.file.bytes

abbrev pub BouncesCover : Type 0
BouncesCover = (q : Queue) (n : ℕ) (y : Entry) → Sound q → look q (Of Bounce n) ≡ Some y → IsBouncing (about q n)

-- A close of what the actor holds may enter a line, as what was read of the bounce file.
abbrev pub ClosesEnter : Type 0
ClosesEnter = (now : ℕ) (q : Queue) (a : List ℕ) (read n : ℕ) (fd : Fd) (line : Line) (answer : Answer) (wrote : ℕ)
    → Sound q → MayEnter (about q n) line → q.holder fd.0 ≡ Some a → Fits q.disk (Close fd) answer wrote
    → LeadsOn now a (Some n) q (entering_queue q a read (Close fd) answer wrote n line)
