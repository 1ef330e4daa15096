-- Control files stay as they are, whatever happens to the queue, and what a sender reads of them is what they hold.
use Rattle.std.specs.Prelude.{◌≡◌, ℕ, List, length, take, Option, Some, None}
use Rattle.address_rules.specs.declared.control_file.ControlFile.{ControlFile}
use Rattle.address_rules.specs.declared.controls.Controls.{Controls}
use Rattle.address_rules.specs.Files.{controls_of, first_fault, place}
use Rattle.call_fs.specs.declared.calls.CallData.{CallData}
use Rattle.call_fs.specs.declared.calls.How.TheVariants as how
use Rattle.call_fs.specs.declared.calls.Told.{Told}
use Rattle.call_fs.specs.declared.modes.Mode.{Mode}
use Rattle.call_fs.specs.declared.past.GotData.TheVariants.{Answered}
use Rattle.call_fs.specs.declared.past.NeedData.TheVariants as needs
use Rattle.call_fs.specs.Apply.{Fits, IsReadBy}
use Rattle.call_fs.specs.Disk.{Disk, Open, IsSynced}
use Rattle.call_fs.specs.Survival.{AllSurvive}
use Rattle.send_core.specs.declared.desk.Desk.{Desk}
use Rattle.send_parts.specs.declared.row.Row.{Row}
use Rattle.send_parts.specs.declared.row.Row.TheVariants as at
use Rattle.send_core.specs.Table.{begun, due_at, moved_by}
use Rattle.send_parts.specs.declared.book.Book.{Book}
use Rattle.send_parts.specs.declared.reading.Reading.{Reading}
use Rattle.send_parts.specs.declared.reading.Reading.TheVariants as reading
use Rattle.send_parts.specs.declared.rows.StartRow.TheVariants as start
use Rattle.send_parts.specs.Steps.{control_text}
use Rattle.queue_law.specs.Cleaners.{LeavesButPid}
use Rattle.queue_law.specs.Injectors.{IsHeld}
use Rattle.queue_law.specs.Numbers.{Queue, Role}
use Rattle.queue_law.specs.Numbers.Role.{AsOld}
use Rattle.queue_law.specs.Senders.{called_queue}
use Rattle.queue_law.specs.Steps.{LeavesOld, Outside, after_halt}
use Rattle.program_law.specs.Sender.Control.{AreControls, control_on, controls_on}
use Rattle.program_law.specs.Sender.Stands.{HasControls}

-- Each control file that is there was there at the beginning, and all of it is on the disk. A name in `pid` that was left over may lead to
-- it too.
abbrev pub AreOld : Queue → Type 0
AreOld q = (f : ControlFile) (i : ℕ) → q.disk.names (control_text f) ≡ Some i → (q.role i ≡ AsOld) × IsSynced (q.disk.files i) (q.disk.files i).bytes

-- What a step leaves of them: all that they hold, and that they are old.
pub record LeavesControls (q r : Queue) : Type 0 where
  pub names : (f : ControlFile) → r.disk.names (control_text f) ≡ q.disk.names (control_text f)
  pub bytes : (f : ControlFile) (i : ℕ) → q.disk.names (control_text f) ≡ Some i → (r.disk.files i).bytes ≡ (q.disk.files i).bytes
  pub old : AreOld r

-- a descriptor of this actor, open on this control file
pub record HasControl (q : Queue) (a : List ℕ) (f : ControlFile) (fd : ℕ) : Type 0 where
  pub number : ℕ
  pub there : q.disk.names (control_text f) ≡ Some number
  pub opened : IsHeld q.disk.opens q.holder a fd (record { number = number; mode = Mode.Opened how.Read })

-- what was read of a control file is where it begins, or all of it
abbrev pub ReadsFile : Queue → List ℕ → ControlFile → Reading → List ℕ → Type 0
ReadsFile q a f reading.Opening read = Unit {0}
ReadsFile q a f (reading.Going fd) read = (h : HasControl q a f fd.0) × (read ≡ take (length read) (q.disk.files h.number).bytes)
ReadsFile q a f (reading.Closing fd) read = control_on q.disk f ≡ Some read
ReadsFile q a f (reading.Shutting fd) read = Unit {0}

-- What a sender at its start has filed of the control files before this one is what they hold, and so it reads this one.
pub record FilesRead (q : Queue) (a : List ℕ) (f : ControlFile) (g : Reading) (b : Book) : Type 0 where
  pub filed : take (place f) b.files ≡ take (place f) (controls_on q.disk)
  pub long : length b.files ≡ 12
  pub reads : ReadsFile q a f g b.read

abbrev pub ControlStands : Queue → List ℕ → Row → Book → Type 0
ControlStands q a (at.Start (start.Control f reading)) b = FilesRead q a f reading b
ControlStands q a row b = Unit {0}

-- none of them is bad, and this is what they say
pub record TheySay (d : Disk) (controls : Controls) : Type 0 where
  pub fine : first_fault (controls_on d) ≡ None
  pub say : controls_of (controls_on d) ≡ controls

-- The laws

-- No program of the queue changes them: not a step that leaves what isn't the queue's and what is old, nor one that takes a name in `pid`
-- away besides. They survive a machine stop.
pub record ControlsStay : Type 0 where
  pub outside : (q r : Queue) → Outside q.disk r.disk → LeavesOld q r → AreOld q → LeavesControls q r
  pub but_pid : (q r : Queue) → LeavesButPid q.disk r.disk → LeavesOld q r → AreOld q → LeavesControls q r
  pub halts : (q : Queue) (contents : ℕ → List ℕ) → AllSurvive q.disk contents → AreOld q → LeavesControls q (after_halt contents q)
  -- so they say what they said
  pub said : (controls : Controls) (q r : Queue) → LeavesControls q r → AreControls controls q.disk → AreControls controls r.disk

-- A sender reads them as they are. It begins with none. Whatever is answered to a call by which it reads one, it has read what they hold. Then it is
-- at one of them still, or it has ended, or none of them is bad and its controls are what they say. What others do leaves what it read.
pub record ControlsAreRead : Type 0 where
  pub begins : (q : Queue) (a : List ℕ) (turns : Option ℕ) → ControlStands q a (begun turns).row (begun turns).book × (HasControls (begun turns).row → ⊥)
  pub calls : (q : Queue) (a : List ℕ) (d : Desk) (f : ControlFile) (g : Reading) (read : ℕ) (call : CallData) (told : Told) (wrote : ℕ) (role : ℕ → Role)
      → FilesRead q a f g d.book → due_at (at.Start (start.Control f g)) d ≡ needs.File call → Fits q.disk call told.answer wrote → IsReadBy q.disk call told
      → (HasControls (moved_by (at.Start (start.Control f g)) read (Answered told) d).row
      → TheySay q.disk (moved_by (at.Start (start.Control f g)) read (Answered told) d).book.controls)
      × ControlStands (called_queue q a read call told.answer wrote role) a (moved_by (at.Start (start.Control f g)) read (Answered told) d).row
      (moved_by (at.Start (start.Control f g)) read (Answered told) d).book
  pub others : (q r : Queue) (a : List ℕ) (row : Row) (b : Book) → LeavesControls q r
      → ((fd : ℕ) (how : Open) → IsHeld q.disk.opens q.holder a fd how → IsHeld r.disk.opens r.holder a fd how)
      → ControlStands q a row b → ControlStands r a row b
