-- Why a pass ended as it did.
use Rattle.std.specs.Prelude.{◌≡◌, ◌≢◌, ◌⊎◌, ℕ, List, [], ◌∷◌, Option, Some, None}
use Rattle.address_rules.specs.declared.controls.Controls.{Controls}
use Rattle.call_fs.specs.declared.calls.Answer.TheVariants.{Refused}
use Rattle.call_fs.specs.declared.calls.Fd.{Fd}
use Rattle.call_fs.specs.declared.calls.FsError.{FsError}
use Rattle.call_fs.specs.declared.calls.FsError.TheVariants as error
use Rattle.call_fs.specs.declared.calls.Told.{Told}
use Rattle.call_fs.specs.declared.past.GotData.{GotData}
use Rattle.call_fs.specs.declared.past.GotData.TheVariants as came
use Rattle.call_fs.specs.declared.past.Own.{Own}
use Rattle.todo_pass.specs.declared.part.Part.{Part}
use Rattle.todo_pass.specs.declared.part.Part.TheVariants as part
use Rattle.todo_pass.specs.declared.row.Row.{Row}
use Rattle.todo_pass.specs.declared.row.Row.TheVariants as at
use Rattle.todo_pass.specs.declared.row.Why.{Why}
use Rattle.todo_pass.specs.declared.row.Why.TheVariants as left
use Rattle.todo_pass.specs.Parts.{part_of}
use Rattle.todo_pass.specs.Table.{Pass, place_after}
use Rattle.todo_pass.specs.Todo.{IsFirstBad}

-- at some event of the past this held of the pass before it and of what came
abbrev pub HasStep : Controls → ℕ → List Own → (Pass → GotData → Type 0) → Type 0
HasStep controls n [] P = ⊥
HasStep controls n (event ∷ before) P = P (place_after controls n before) event.came ⊎ HasStep controls n before P

-- a call was refused so
abbrev pub IsRefused : FsError → GotData → Type 0
IsRefused why got = (told : Told) × (got ≡ came.Answered told) × (told.answer ≡ Refused why)

-- the file at which the call of a row is made, if its failure leaves the pass
abbrev pub part_at : Row → Option Part
part_at (at.Clear t) = Some (part_of t)
part_at at.StatMess = Some part.Mess
part_at at.OpenTodo = Some part.Todo
part_at (at.ReadTodo fd) = Some part.Todo
part_at (at.Create t) = Some (part_of t)
part_at (at.Append t fd done) = Some (part_of t)
part_at (at.Sync t fd) = Some (part_of t)
part_at row = None

-- its table has a row for this: what is cleared away may be missing, and a missing message is told apart
abbrev pub IsNamed : Row → FsError → Type 0
IsNamed (at.Clear t) error.NotThere = Unit {0}
IsNamed at.StatMess error.NotThere = Unit {0}
IsNamed row why = ⊥

-- a call at this file failed: it was refused, not for memory, and not as its table expects
pub record Fails (it : Part) (p : Pass) (got : GotData) : Type 0 where
  pub refusal : FsError
  pub refused : IsRefused refusal got
  pub place : part_at p.row ≡ Some it
  pub no_memory : refusal ≢ error.Memory
  pub unnamed : ¬ (IsNamed p.row refusal)

-- the cause of each reason to leave a number
abbrev pub IsCause : Why → Pass → GotData → Type 0
IsCause (left.Fault it) p got = Fails it p got
IsCause left.NoMess p got = (p.row ≡ at.StatMess) × IsRefused error.NotThere got
IsCause (left.BadRecord place) p got = (fd : Fd) × (p.row ≡ at.CloseTodo fd) × IsFirstBad p.todo place
IsCause left.Unclean p got = (p.row ≡ at.Answer) × ((bytes : List ℕ) × (got ≡ came.Took bytes) × (bytes ≢ 43 ∷ []))
IsCause left.Memory p got = IsRefused error.Memory got

-- the link to the cleaner ended, or failed
abbrev pub LosesLink : Pass → GotData → Type 0
LosesLink p got = ((p.row ≡ at.Give) × (got ≡ came.Failed)) ⊎ ((p.row ≡ at.Answer) × ((got ≡ came.End) ⊎ (got ≡ came.Failed)))
