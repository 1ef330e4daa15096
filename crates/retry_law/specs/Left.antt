-- Which number of `todo` was left last, and from which name a search of `todo` goes on, by the sender's past (qmail-send(8)).
use Rattle.std.specs.Prelude.{◌≡◌, ◌∷◌, ℕ, List, [], Bool, true, false, Option, None, codes}
use Rattle.call_fs.specs.Past.{IsRunBy}
use Rattle.call_fs.specs.declared.calls.Answer.TheVariants as answer
use Rattle.call_fs.specs.declared.calls.CallData.TheVariants as call
use Rattle.call_fs.specs.declared.calls.Told.{Told}
use Rattle.call_fs.specs.declared.past.GotData.TheVariants as came
use Rattle.call_fs.specs.declared.past.NeedData.TheVariants as needs
use Rattle.call_fs.specs.declared.past.Own.{Own}
use Rattle.send_core.specs.declared.desk.Desk.{Desk}
use Rattle.send_parts.specs.declared.row.Row.{Row}
use Rattle.send_parts.specs.declared.row.Row.TheVariants as at
use Rattle.send_core.specs.Table.{Next, place_after, row_now}
use Rattle.send_parts.specs.declared.rows.Search.TheVariants as search
use Rattle.send_parts.specs.Files.{message_number}
use Rattle.todo_pass.specs.declared.row.Row.{Row as PassRow}
use Rattle.todo_pass.specs.declared.row.Row.TheVariants as todo
use Rattle.todo_pass.specs.Table.{moved}

-- A todo pass is left

abbrev pub is_left : PassRow → Bool
is_left (todo.Left why) = true
is_left row = false

-- at an event
abbrev pub leaves : Row → Desk → Own → Bool
leaves at.InTodo d event = is_left (moved d.book.controls d.pass event.read event.came).row
leaves row d event = false

abbrev pub leaves_at : Option ℕ → List Own → Own → Bool
leaves_at turns past event = let d : Desk = place_after turns past in leaves (row_now d event.read event.ready) d event

-- None was left
abbrev pub NoneLeft : Option ℕ → List Own → Type 0
NoneLeft turns [] = Unit {0}
NoneLeft turns (event ∷ past) = NoneLeft turns past × (leaves_at turns past event ≡ false)

-- Then no number was.
abbrev pub NoNumberLeft : Type 0
NoNumberLeft = (turns : Option ℕ) (past : List Own) → NoneLeft turns past → (place_after turns past).last_left ≡ []

-- A search goes on after a name that is no number

-- An event is a search of `todo` that gave a name which is no number.
pub record GivesStray (event : Own) : Type 0 where
  pub after : List ℕ
  pub due : event.due ≡ needs.File (call.NextName (codes "todo") after)
  pub told : Told
  pub came : event.came ≡ came.Answered told
  pub name : List ℕ
  pub gives : told.answer ≡ answer.Name name
  pub stray : message_number name ≡ None

-- It does so only directly after such an event.
abbrev pub StraysWereGiven : Type 0
StraysWereGiven = (turns : Option ℕ) (past : List Own) → IsRunBy (Next turns) past → (again : Bool) → (place_after turns past).row ≡ at.FindTodo (search.AfterStray again)
    → (event : Own) × (before : List Own) × (past ≡ event ∷ before) × GivesStray event
