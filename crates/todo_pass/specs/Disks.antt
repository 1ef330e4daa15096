-- What a run of a pass does to a disk, while other programs make steps of their own.
use Rattle.std.specs.Prelude.{◌≡◌, ℕ, List, [], ◌∷◌, length, Option, Some, None, IfSome}
use Rattle.address_rules.specs.declared.controls.Controls.{Controls}
use Rattle.call_fs.specs.declared.calls.Fd.{Fd}
use Rattle.call_fs.specs.declared.past.Own.{Own}
use Rattle.call_fs.specs.Disk.{Disk, IsWhole}
use Rattle.call_fs.specs.Past.{Makes}
use Rattle.todo_pass.specs.declared.part.Part.{Part}
use Rattle.todo_pass.specs.declared.part.Part.TheVariants as part
use Rattle.todo_pass.specs.declared.row.Row.{Row}
use Rattle.todo_pass.specs.declared.row.Row.TheVariants as at
use Rattle.todo_pass.specs.Parts.{path_in}
use Rattle.todo_pass.specs.Table.{Pass, place_after}

-- What other programs leave alone

-- this part of a message is named as before, and its file is as before
pub record SameAt (n : ℕ) (part : Part) (before after : Disk) : Type 0 where
  pub name : after.names (path_in part n) ≡ before.names (path_in part n)
  pub file : (k : ℕ) → before.names (path_in part n) ≡ Some k → after.files k ≡ before.files k

-- the descriptor that a pass holds
abbrev pub fd_in : Row → Option Fd
fd_in (at.ReadTodo fd) = Some fd
fd_in (at.CloseTodo fd) = Some fd
fd_in (at.Append t fd done) = Some fd
fd_in (at.Sync t fd) = Some fd
fd_in (at.Close t fd) = Some fd
fd_in (at.Shut fd why) = Some fd
fd_in row = None

-- the todo file is its own until the cleaner has the command
abbrev pub HoldsTodo : Row → Type 0
HoldsTodo at.Answer = ⊥
HoldsTodo at.Done = ⊥
HoldsTodo (at.Left why) = ⊥
HoldsTodo at.Lost = ⊥
HoldsTodo row = Unit {0}

abbrev pub IsHeld : Row → Part → Type 0
IsHeld row part.Todo = HoldsTodo row
IsHeld row other = Unit {0}

-- Other programs made steps of their own, and left alone what a pass at this row holds: the parts of its message, and its
-- descriptor.
pub record LeaveAlone (n : ℕ) (row : Row) (before after : Disk) : Type 0 where
  pub parts : (part : Part) → IsHeld row part → SameAt n part before after
  pub descriptor : IfSome (fd_in row) (λ fd. after.opens fd.0 ≡ before.opens fd.0)

-- The events of a past, newest first, led from this disk to that one, with steps of other programs before and after each.
abbrev pub LeadsTo : Controls → ℕ → Disk → List Own → Disk → Type 0
LeadsTo controls n first [] last = LeaveAlone n (place_after controls n []).row first last
LeadsTo controls n first (event ∷ before) last =
    (mid : Disk) × (next : Disk) × LeadsTo controls n first before mid × Makes mid event.read event.due event.came next
    × LeaveAlone n (place_after controls n (event ∷ before)).row next last

-- What stands at the end

-- the file of a channel that has recipients is whole; one without has none
abbrev pub IsMade : Disk → List ℕ → List ℕ → Type 0
IsMade d name [] = d.names name ≡ None
IsMade d name (b ∷ text) = IsWhole d name (b ∷ text)

-- The files of a pass are complete, and all of them on the disk; the message is there, as long as its stat told.
pub record IsComplete (n : ℕ) (p : Pass) (d : Disk) : Type 0 where
  pub info : IsWhole d (path_in part.Info n) p.sorted.info
  pub local : IsMade d (path_in part.Local n) p.sorted.local
  pub remote : IsMade d (path_in part.Remote n) p.sorted.remote
  pub mess : (k : ℕ) × (d.names (path_in part.Mess n) ≡ Some k) × (length (d.files k).bytes ≡ p.size)

-- the todo file is there, and holds what was read of it
abbrev pub HoldsWhatWasRead : ℕ → Pass → Disk → Type 0
HoldsWhatWasRead n p d = (k : ℕ) × (d.names (path_in part.Todo n) ≡ Some k) × ((d.files k).bytes ≡ p.todo)
