-- The records of a todo text that is read byte by byte.
use Rattle.std.specs.Prelude.{◌≡◌, ℕ, ◌+◌, ◌≤◌, List, [], ◌∷◌, ◌++◌, length, Bool, true, false, Result, Err}
use Rattle.address_rules.specs.declared.controls.Controls.{Controls}
use Rattle.envelope_records.specs.declared.envelope.EnvStep.{EnvStep}
use Rattle.envelope_records.specs.declared.envelope.EnvStep.TheVariants as byte
use Rattle.envelope_records.specs.Envelope.{Stage, read_envelope, reader_of, step_of, ended_address, HasRead}
use Rattle.envelope_records.specs.Envelope.Stage.{Begin, InSender, Between, InRecipient}
use Rattle.envelope_records.specs.Envelope.Reading.{Open}
use Rattle.todo_pass.specs.declared.head.Head.{Head}
use Rattle.todo_pass.specs.declared.sorted.Sorted.{Sorted}
use Rattle.todo_pass.specs.declared.sorter.Sorter.{Sorter}
use Rattle.todo_pass.specs.declared.sorting.TodoError.{TodoError}
use Rattle.todo_pass.specs.declared.sorting.TodoError.TheVariants.{BadRecord, Memory}
use Rattle.todo_pass.specs.Todo.{Todo}
use Rattle.todo_pass.specs.Sorting.{sorted_of, none_sorted, with_sender, with_recipient}

-- why what was to be sorted wasn't; out of memory has no cause in it
abbrev pub IsFaultOf : Result Sorted ℕ → TodoError → Type 0
IsFaultOf outcome (BadRecord at) = outcome ≡ Err at
IsFaultOf outcome Memory = Unit {0}

abbrev pub todo_with : Head → List ℕ → List (List ℕ) → Todo
todo_with head sender recipients = record { uid = head.uid; pid = head.pid; sender = sender; recipients = recipients }

-- what is sorted when the records have come so far
abbrev pub sorted_at : Controls → Head → Stage → Sorted
sorted_at controls head Begin = none_sorted head.uid head.pid
sorted_at controls head (InSender begun) = none_sorted head.uid head.pid
sorted_at controls head (Between sender recipients) = sorted_of controls (todo_with head sender recipients)
sorted_at controls head (InRecipient sender recipients begun) = sorted_of controls (todo_with head sender recipients)

-- these bytes were read after this head, and sorted
pub record Sorts (controls : Controls) (head : Head) (read : List ℕ) (sorter : Sorter) : Type 0 where
  pub stage : Stage
  pub opened : read_envelope read ≡ Open stage
  pub reader : sorter.reader ≡ reader_of (Open stage)
  pub sorted : sorter.sorted ≡ sorted_at controls head stage
  pub counted : sorter.sorted.locals + sorter.sorted.remotes ≤ length read

-- One byte more

-- what the byte after these did
abbrev pub step_after : List ℕ → ℕ → EnvStep
step_after read b = step_of (read_envelope (read ++ b ∷ []))

-- records may have it there
abbrev pub fits_in : EnvStep → Bool
fits_in byte.More = true
fits_in byte.Sender = true
fits_in byte.Recipient = true
fits_in byte.End = false
fits_in (byte.Fault fault) = false

-- an address that it ended is sorted
abbrev pub sorted_on : Controls → Sorted → EnvStep → List ℕ → Sorted
sorted_on controls s byte.More address = s
sorted_on controls s byte.Sender address = with_sender s address
sorted_on controls s byte.Recipient address = with_recipient controls s address
sorted_on controls s byte.End address = s
sorted_on controls s (byte.Fault fault) address = s

pub record FeedsOn (controls : Controls) (read : List ℕ) (b : ℕ) (old new : Sorter) (fits : Bool) : Type 0 where
  pub fits_is : fits ≡ fits_in (step_after read b)
  pub reader : HasRead (read ++ b ∷ []) new.reader
  pub sorted : new.sorted ≡ sorted_on controls old.sorted (step_after read b) (ended_address new.reader)
