-- The laws of todo passes.
use Rattle.std.specs.Prelude.{◌≡◌, ℕ, List, [], ◌∷◌}
use Rattle.address_rules.specs.declared.controls.Controls.{Controls}
use Rattle.call_fs.specs.declared.past.GotData.TheVariants.{Took}
use Rattle.call_fs.specs.declared.past.Own.{Own}
use Rattle.call_fs.specs.Disk.{Disk}
use Rattle.call_fs.specs.Past.{LeadsTo as LeadsAlone}
use Rattle.todo_pass.specs.declared.row.Row.{Row}
use Rattle.todo_pass.specs.declared.row.Row.TheVariants as at
use Rattle.todo_pass.specs.declared.row.Why.{Why}
use Rattle.todo_pass.specs.Causes.{HasStep, IsCause, LosesLink}
use Rattle.todo_pass.specs.Disks.{LeadsTo, IsComplete, HoldsWhatWasRead}
use Rattle.todo_pass.specs.Run.{IsRun}
use Rattle.todo_pass.specs.Sorting.{sorted_of}
use Rattle.todo_pass.specs.Table.{place_after}
use Rattle.todo_pass.specs.Todo.{Todo, IsTodo}

-- the rows from the command to the cleaner to a good end
abbrev pub IsMadeRow : Row → Type 0
IsMadeRow at.Give = Unit {0}
IsMadeRow at.Answer = Unit {0}
IsMadeRow at.Done = Unit {0}
IsMadeRow row = ⊥

-- From the command to the cleaner to a good end the files are complete and on the disk. What was read of todo is a todo text,
-- and the files are those of its sender and of the routes of its recipients; until the command is given todo holds just
-- that.
pub record FilesAreMade (controls : Controls) (n : ℕ) (past : List Own) (d : Disk) : Type 0 where
  pub complete : IsComplete n (place_after controls n past) d
  pub sorted : (it : Todo) × IsTodo (place_after controls n past).todo it × ((place_after controls n past).sorted ≡ sorted_of controls it)
  pub todo : (place_after controls n past).row ≡ at.Give → HoldsWhatWasRead n (place_after controls n past) d

abbrev pub MadeBeforeTheCommand : Type 0
MadeBeforeTheCommand = (controls : Controls) (n : ℕ) (past : List Own) (first last : Disk) → IsRun controls n past → LeadsTo controls n first past last
    → IsMadeRow (place_after controls n past).row → FilesAreMade controls n past last

-- If the pass's events alone led from one disk to another, nobody disturbed it.
abbrev pub AloneIsLeftAlone : Type 0
AloneIsLeftAlone = (controls : Controls) (n : ℕ) (past : List Own) (first last : Disk) → LeadsAlone first past last → LeadsTo controls n first past last

-- A pass ends done with the cleaner's `+` and nothing else.
abbrev pub DoneWithPlus : Type 0
DoneWithPlus = (controls : Controls) (n : ℕ) (event : Own) (before : List Own) → IsRun controls n (event ∷ before)
    → (place_after controls n (event ∷ before)).row ≡ at.Done → (place_after controls n before).row ≡ at.Answer × (event.came ≡ Took (43 ∷ []))

-- A pass that left its number has the cause of its reason in its past, and one that lost the cleaner too.
pub record EndsHaveCauses : Type 0 where
  pub left : (controls : Controls) (n : ℕ) (past : List Own) (why : Why) → IsRun controls n past → (place_after controls n past).row ≡ at.Left why
      → HasStep controls n past (IsCause why)
  pub lost : (controls : Controls) (n : ℕ) (past : List Own) → IsRun controls n past → (place_after controls n past).row ≡ at.Lost
      → HasStep controls n past LosesLink
  pub done : DoneWithPlus
