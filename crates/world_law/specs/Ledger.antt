-- How each recipient of an accepted message is accounted for, by what happened in the life of the message: by the reports that senders took, by
-- what its bounce file held, and by its unlink. No ledger is read, and nothing that a sender keeps: who routes and who names is told by what senders
-- asked for (`Routed`), in the life of the message.
use Rattle.std.specs.Prelude.{◌≡◌, ◌≢◌, ℕ, ◌≤◌, List, Bool, true, false, Some, codes}
use Rattle.address_rules.specs.declared.controls.Controls.{Controls}
use Rattle.bounce_record.specs.Notes.{count}
use Rattle.call_fs.specs.Disk.{Disk}
use Rattle.call_fs.specs.declared.calls.Answer.TheVariants.{Done}
use Rattle.call_fs.specs.declared.calls.CallData.TheVariants.{Unlink, Close}
use Rattle.call_fs.specs.declared.calls.Fd.{Fd}
use Rattle.call_fs.specs.declared.calls.How.TheVariants.{Read}
use Rattle.call_fs.specs.declared.calls.Told.{Told}
use Rattle.call_fs.specs.declared.modes.Mode.TheVariants.{Opened}
use Rattle.call_fs.specs.declared.past.GotData.TheVariants.{Answered}
use Rattle.call_fs.specs.declared.past.NeedData.TheVariants as needs
use Rattle.local_deliver.specs.Deeds.{read_of}
use Rattle.local_deliver.specs.Deeds.FileText.{Whole}
use Rattle.queue_paths.specs.Names.{path}
use Rattle.queue_paths.specs.Names.Name.{Of}
use Rattle.queue_paths.specs.Names.Part.{Bounce}
use Rattle.queue_law.specs.Accounts.{IsInTodo, IsUnmarked, is_open}
use Rattle.queue_law.specs.Books.{Injection, IsInjected}
use Rattle.queue_law.specs.Ledgers.{Spot}
use Rattle.queue_law.specs.Routes.{Recipient, routed, sender_of, spot_of}
use Rattle.send_core.specs.Papers.{controls_told}
use Rattle.mail_world.specs.History.{Event, after}
use Rattle.world_law.specs.Bounces.{IsAddressed, IsBounceOf}
use Rattle.world_law.specs.Lives.{IsInLife, SenderDid}
use Rattle.world_law.specs.Reported.{WasTaken}
use Rattle.world_law.specs.Routed.{counted_by, name_by}

-- Each of these recipients failed for good, and was never delivered to.
abbrev pub AreLost : Disk → List Event → Injection → (Spot → Bool) → Type 0
AreLost d h i such = (s : Spot) → such s ≡ true → WasTaken d h false i s × (WasTaken d h true i s → ⊥)

-- The bounce file is there, and names as many of this name as there are to tell, as it is and as it was at its last sync: of any recipients of the
-- message that failed for good, weren't delivered to, and whose record doesn't read `T`. So for two such recipients `b@y` it has the name twice.
pub record IsTold (d : Disk) (h : List Event) (routes : Controls) (namer : Spot → Controls) (i : Injection) (name : List ℕ) : Type 0 where
  pub file : ℕ
  pub there : (after d h).disk.names (path (Of Bounce i.number)) ≡ Some file
  pub named : (such : Spot → Bool) → AreLost d h i such → ((s : Spot) → such s ≡ true → is_open (after d h).disk i.number s ≡ false)
      → (counted_by routes namer i.args such name ≤ count ((after d h).disk.files file).bytes name) × (counted_by routes namer i.args such name ≤ count ((after d h).disk.files file).kept name)

-- At a point of the life of this injection its bounce file read so, and a sender that had read these controls closed it, having read all of that.
pub record WasRead (d : Disk) (h : List Event) (i : Injection) (notes : List ℕ) (by : Controls) : Type 0 where
  pub until : List Event
  pub life : IsInLife d h until i
  pub file : ℕ
  pub there : (after d until).disk.names (path (Of Bounce i.number)) ≡ Some file
  pub reads : ((after d until).disk.files file).bytes ≡ notes
  pub event : SenderDid d until
  pub fd : Fd
  pub opened : (after d event.earlier).disk.opens fd.0 ≡ Some (record { number = file; mode = Opened Read })
  pub closes : event.own.due ≡ needs.File (Close fd)
  pub all_read : read_of (path (Of Bounce i.number)) event.sender.past ≡ Whole notes
  pub controls_are : controls_told event.sender.past ≡ by

-- A recipient is named in an accepted bounce: what the bounce file held, in the life of the message's injection, has as many notes under that
-- name as recipients of that name failed for good and weren't delivered to; and an accepted injection is that of the bounce of the message with
-- those notes, by the controls of the sender that read them, from its sender and to its recipient alone.
pub record WasReturned (d : Disk) (h : List Event) (routes : Controls) (namer : Spot → Controls) (i : Injection) (name : List ℕ) : Type 0 where
  pub notes : List ℕ
  pub by : Controls
  pub read : WasRead d h i notes by
  pub named : (such : Spot → Bool) → AreLost d h i such → counted_by routes namer i.args such name ≤ count notes name
  pub bounce : Injection
  pub injected : IsInjected (after d h).books bounce
  pub accepted : bounce.accepted ≡ true
  pub carries : IsBounceOf by i.args notes bounce.args
  pub addressed : IsAddressed carries.bounce bounce.args
  -- and the message is no double bounce
  pub single : sender_of i.args ≢ codes "#@[]"

-- in the life of this injection a sender's unlink of its bounce file was answered Ok
pub record WasDropped (d : Disk) (h : List Event) (i : Injection) : Type 0 where
  pub until : List Event
  pub life : IsInLife d h until i
  pub event : SenderDid d until
  pub unlinks : event.own.due ≡ needs.File (Unlink (path (Of Bounce i.number)))
  pub told : Told
  pub came : event.own.came ≡ Answered told
  pub done : told.answer ≡ Done

-- Of `mail a a@x b@y : hi` with `a@x` local, after `run a` both are Pending. After preprocessing both are Unmarked, by local/1 and
-- remote/1. Once a K report of `a@x` was taken it is Delivered, whatever its record reads then, and stays so when all files are gone. When
-- `b@y` failed and its record reads `D`, it is Held by bounce/1, which names it once; and Returned when a bounce with those notes was
-- accepted, also once bounce/1 is gone. If the message came from `#@[]` it is Dropped instead. By who routes the message and names its recipients.
pub data IsAccounted (d : Disk) (h : List Event) (routes : Controls) (namer : Spot → Controls) (i : Injection) (r : Recipient i.args) : Type 0 where
  Pending : (after d h).books.living i.number ≡ Some i → IsInTodo (after d h).disk i → IsAccounted d h routes namer i r
  Unmarked : (after d h).books.living i.number ≡ Some i → IsUnmarked (after d h).disk i.number (spot_of routes i.args r) (routed routes i.args r)
      → IsAccounted d h routes namer i r
  Delivered : WasTaken d h true i (spot_of routes i.args r) → IsAccounted d h routes namer i r
  Held : (after d h).books.living i.number ≡ Some i → WasTaken d h false i (spot_of routes i.args r) → IsTold d h routes namer i (name_by routes namer i.args r) → IsAccounted d h routes namer i r
  Returned : WasTaken d h false i (spot_of routes i.args r) → WasReturned d h routes namer i (name_by routes namer i.args r) → IsAccounted d h routes namer i r
  Dropped : WasTaken d h false i (spot_of routes i.args r) → WasDropped d h i → sender_of i.args ≡ codes "#@[]" → IsAccounted d h routes namer i r
