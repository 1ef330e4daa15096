-- What a sender does to the queue: it reads, marks records, takes channel files and info away, and enters what was reported and returned.
-- What it does to bounce files stands in Bouncing.antt.
use Rattle.std.specs.Prelude.{◌≡◌, ◌≢◌, ◌⊎◌, ℕ, List, [], ◌∷◌, length, true, Option, Some, None, slice_get}
use Rattle.call_fs.specs.declared.calls.CallData.{CallData}
use Rattle.call_fs.specs.declared.calls.CallData.TheVariants.{Open, ReadAt, WriteAt, Close, Unlink, Stat, NextName}
use Rattle.call_fs.specs.declared.calls.Answer.{Answer}
use Rattle.call_fs.specs.declared.calls.Answer.TheVariants.{Opened, Done}
use Rattle.call_fs.specs.declared.calls.Fd.{Fd}
use Rattle.call_fs.specs.declared.calls.How.{How}
use Rattle.call_fs.specs.declared.calls.How.TheVariants.{Write}
use Rattle.call_fs.specs.declared.modes.Mode.{Mode}
use Rattle.call_fs.specs.Apply.{effect, Fits}
use Rattle.call_fs.specs.Disk.{Among, File, Open as OpenFile}
use Rattle.queue_paths.specs.Names.{Name, Part, path}
use Rattle.queue_paths.specs.Names.Name.{Of}
use Rattle.queue_paths.specs.Names.Part.{Mess, Info, Bounce}
use Rattle.queue_paths.specs.Parts.{in_todo}
use Rattle.send_known.specs.declared.channel.Channel.{Channel}
use Rattle.queue_law.specs.Ledgers.{Bounced, Ledger, Line, Named}
use Rattle.queue_law.specs.Ledgers.Line.{Delivers, Drops, Fails, Marks, Notes, Reads, Returns, Routes}
use Rattle.queue_law.specs.Books.{Injection, entered_in, held_by, spot_in}
use Rattle.queue_law.specs.Routes.{Recipient, IsSpot, lane_part}
use Rattle.queue_law.specs.Marks.{IsDone, MayBeMarked}
use Rattle.queue_law.specs.Numbers.{Role, Queue, Entry, look, About, about, Sound}
use Rattle.queue_law.specs.Injectors.{IsHeld}
use Rattle.queue_law.specs.Steps.{Elsewhere, LeavesOld, Outside}

-- the queue after a call of a program that injects nothing: the books are as before
abbrev pub called_queue : Queue → List ℕ → (read : ℕ) → CallData → Answer → (wrote : ℕ) → (ℕ → Role) → Queue
called_queue q a read call answer wrote role = record {
  disk = effect q.disk read call answer wrote;
  holder = held_by q.holder a call answer;
  books = q.books;
  role = role;
}

-- What a step of a, from q to r, leads to: what holds of the queue holds then too, and of all but the number in m nothing changed.
pub record LeadsOn (now : ℕ) (a : List ℕ) (m : Option ℕ) (q r : Queue) : Type 0 where
  pub sound : Sound r
  pub elsewhere : Elsewhere now a m q r
  pub outside : Outside q.disk r.disk
  pub old : LeavesOld q r

-- A call that changes no name and no file, and closes nothing but what its actor holds.
abbrev pub OnlyReads : Queue → List ℕ → CallData → Type 0
OnlyReads q a (Open name how) = Unit {0}
OnlyReads q a (ReadAt fd at len) = Unit {0}
OnlyReads q a (Close fd) = q.holder fd.0 ≡ Some a
OnlyReads q a (Stat name) = Unit {0}
OnlyReads q a (NextName dir after) = Unit {0}
OnlyReads q a call = ⊥

-- the number is preprocessed, and of this channel a file is there, of the injection whose life lasts
pub record HasLane (w : About) (ch : Channel) : Type 0 where
  pub no_todo : in_todo w.parts ≡ None
  pub file : Entry
  pub there : w.parts (lane_part ch) ≡ Some file
  pub injection : Injection
  pub lives : w.living ≡ Some injection

-- The record of a recipient may be marked: it was reported delivered, or its note is synced under the name that it has by these controls. The
-- descriptor is the actor's own, opened for this on the channel file.
pub record MayMark (q : Queue) (a : List ℕ) (n fd : ℕ) (it : Named) : Type 0 where
  pub lane : HasLane (about q n) it.spot.channel
  pub opened : IsHeld q.disk.opens q.holder a fd (record { number = lane.file.number; mode = Mode.Opened Write })
  pub may : MayBeMarked lane.injection.ledger it

-- The channel file may go: each of its records reads `D`, or its recipient is done.
pub record MayDrop (w : About) (ch : Channel) : Type 0 where
  pub lane : HasLane w ch
  pub each : (r : Recipient lane.injection.args) → (spot_in lane.injection r).channel ≡ ch
      → (slice_get lane.file.file.bytes (spot_in lane.injection r).place ≡ Some 68)
      ⊎ IsDone lane.injection.ledger ch (spot_in lane.injection r).place

-- The info file may go: the number is preprocessed, and its channel files are gone, and so is its bounce file.
pub record MayEnd (w : About) : Type 0 where
  pub no_todo : in_todo w.parts ≡ None
  pub info : Entry
  pub there : w.parts Info ≡ Some info
  pub gone : (ch : Channel) → w.parts (lane_part ch) ≡ None
  pub no_bounce : w.parts Bounce ≡ None

-- A bounce that carries these notes may be entered: they were read of the bounce file, once both channel files were gone.
pub record MayReturn (w : About) (l : Ledger) (b : Bounced) : Type 0 where
  pub no_todo : in_todo w.parts ≡ None
  pub gone : (ch : Channel) → w.parts (lane_part ch) ≡ None
  pub read : Among b.read l.reads

-- What a line needs that comes without a change of a file. A message is routed while it is queued, and nothing else is entered of it then.
abbrev pub LineFits : About → Injection → Line → Type 0
LineFits w i (Routes by) = in_todo w.parts ≢ None
LineFits w i (Delivers s) = (in_todo w.parts ≡ None) × IsSpot i.ledger.routes i.args s
LineFits w i (Fails s) = (in_todo w.parts ≡ None) × IsSpot i.ledger.routes i.args s
LineFits w i (Notes it) = ⊥
LineFits w i (Marks it) = (in_todo w.parts ≡ None) × MayBeMarked i.ledger it
LineFits w i (Reads it) = in_todo w.parts ≡ None
LineFits w i (Returns b) = MayReturn w i.ledger b
LineFits w i Drops = ⊥

-- this line may be entered: the message is accepted, and its file is there
pub record MayEnter (w : About) (line : Line) : Type 0 where
  pub mess : Entry
  pub there : w.parts Mess ≡ Some mess
  pub injection : Injection
  pub lives : w.living ≡ Some injection
  pub accepted : injection.accepted ≡ true
  pub fits : LineFits w injection line

-- the queue when a line is entered for a number's message
abbrev pub entered_queue : Queue → ℕ → Line → Queue
entered_queue q n line = record { disk = q.disk; holder = q.holder; books = entered_in q.books n line; role = q.role }

-- the queue when a mark is written over a record: the ledger has it whatever the answer, since a write that failed may have written its byte
abbrev pub marked_queue : Queue → List ℕ → (read n : ℕ) → Fd → Named → Answer → (wrote : ℕ) → Queue
marked_queue q a read n fd it answer wrote = entered_queue (called_queue q a read (WriteAt fd it.spot.place (68 ∷ [])) answer wrote q.role) n (Marks it)

-- The laws. Each is of any answer that may come: of a fault too, and of a write that was cut off.

-- reading what is there changes nothing that concerns a number
abbrev pub ReadsKeep : Type 0
ReadsKeep = (now : ℕ) (q : Queue) (a : List ℕ) (read : ℕ) (call : CallData) (answer : Answer) (wrote : ℕ)
    → Sound q → OnlyReads q a call → Fits q.disk call answer wrote
    → LeadsOn now a None q (called_queue q a read call answer wrote q.role)

-- so does a mark, of all but its number
abbrev pub MarksKeep : Type 0
MarksKeep = (now : ℕ) (q : Queue) (a : List ℕ) (read n : ℕ) (fd : Fd) (it : Named) (answer : Answer) (wrote : ℕ)
    → Sound q → MayMark q a n fd.0 it → Fits q.disk (WriteAt fd it.spot.place (68 ∷ [])) answer wrote
    → LeadsOn now a (Some n) q (marked_queue q a read n fd it answer wrote)

-- and the unlink of a channel file of which all is done, and of the info file after both and the bounce file
abbrev pub DropsKeep : Type 0
DropsKeep = (now : ℕ) (q : Queue) (a : List ℕ) (read n : ℕ) (ch : Channel) (answer : Answer) (wrote : ℕ)
    → Sound q → MayDrop (about q n) ch → Fits q.disk (Unlink (path (Of (lane_part ch) n))) answer wrote
    → LeadsOn now a (Some n) q (called_queue q a read (Unlink (path (Of (lane_part ch) n))) answer wrote q.role)

abbrev pub EndsKeep : Type 0
EndsKeep = (now : ℕ) (q : Queue) (a : List ℕ) (read n : ℕ) (answer : Answer) (wrote : ℕ)
    → Sound q → MayEnd (about q n) → Fits q.disk (Unlink (path (Of Info n))) answer wrote
    → LeadsOn now a (Some n) q (called_queue q a read (Unlink (path (Of Info n))) answer wrote q.role)

-- and what is entered when a report is taken that is final, when the bounce file was read, and when a bounce was accepted
abbrev pub EntriesKeep : Type 0
EntriesKeep = (now : ℕ) (q : Queue) (a : List ℕ) (n : ℕ) (line : Line) → Sound q → MayEnter (about q n) line
    → LeadsOn now a (Some n) q (entered_queue q n line)

-- What an actor holds open after a call that only reads: what it opened, and what it held and didn't close.
pub record OpensKeep : Type 0 where
  pub opened : (q : Queue) (a : List ℕ) (read : ℕ) (name : List ℕ) (how : How) (fd : Fd) (wrote : ℕ) → Fits q.disk (Open name how) (Opened fd) wrote
      → (i : ℕ) × (q.disk.names name ≡ Some i)
      × IsHeld (called_queue q a read (Open name how) (Opened fd) wrote q.role).disk.opens (called_queue q a read (Open name how) (Opened fd) wrote q.role).holder a fd.0
      (record { number = i; mode = Mode.Opened how })
  pub held : (q : Queue) (a : List ℕ) (read : ℕ) (call : CallData) (answer : Answer) (wrote : ℕ) → OnlyReads q a call → Fits q.disk call answer wrote
      → (fd : ℕ) (how : OpenFile) → IsHeld q.disk.opens q.holder a fd how → ((f : Fd) → call ≡ Close f → f.0 ≢ fd)
      → IsHeld (called_queue q a read call answer wrote q.role).disk.opens (called_queue q a read call answer wrote q.role).holder a fd how

-- What a mark changes of its number: the bytes of its file at one place, which reads `D` if the answer is Ok, and nothing else.
pub record MarksOne (q r : Queue) (n : ℕ) (ch : Channel) (file : Entry) (place : ℕ) (answer : Answer) : Type 0 where
  pub parts : (part : Part) → part ≢ lane_part ch → look r (Of part n) ≡ look q (Of part n)
  pub marked : File
  pub there : look r (Of (lane_part ch) n) ≡ Some (record { number = file.number; file = marked })
  pub long : length marked.bytes ≡ length file.file.bytes
  pub others : (k : ℕ) → k ≢ place → slice_get marked.bytes k ≡ slice_get file.file.bytes k
  pub reads : answer ≡ Done → slice_get marked.bytes place ≡ Some 68

abbrev pub MarksChangeOne : Type 0
MarksChangeOne = (q : Queue) (a : List ℕ) (read n : ℕ) (fd : Fd) (it : Named) (answer : Answer) (wrote : ℕ)
    → Sound q → (may : MayMark q a n fd.0 it) → Fits q.disk (WriteAt fd it.spot.place (68 ∷ [])) answer wrote
    → MarksOne q (marked_queue q a read n fd it answer wrote) n it.spot.channel may.lane.file it.spot.place answer

-- An unlink takes one name away, if its answer is Ok, and changes no other.
pub record UnlinksOne (q r : Queue) (x : Name) (answer : Answer) : Type 0 where
  pub others : (y : Name) → y ≢ x → look r y ≡ look q y
  pub gone : answer ≡ Done → look r x ≡ None

abbrev pub UnlinksChangeOne : Type 0
UnlinksChangeOne = (q : Queue) (a : List ℕ) (read : ℕ) (x : Name) (answer : Answer) (wrote : ℕ) → Fits q.disk (Unlink (path x)) answer wrote
    → UnlinksOne q (called_queue q a read (Unlink (path x)) answer wrote q.role) x answer
