-- An errand as it goes: `todo/7`, up to its answer.
use Rattle.std.specs.Prelude.{◌≡◌, [], ◌∷◌, ◌++◌, false, None, codes}
use Rattle.call_fs.specs.declared.calls.Answer.{Answer as Told}
use Rattle.call_fs.specs.declared.calls.Answer.TheVariants as answer
use Rattle.call_fs.specs.declared.past.GotData.{GotData}
use Rattle.call_fs.specs.declared.past.GotData.TheVariants as came
use Rattle.call_fs.specs.declared.program.Ready.{Ready}
use Rattle.queue_clean.specs.declared.command.Command.TheVariants.{Todo}
use Rattle.queue_clean.specs.declared.row.Row.TheVariants as at
use Rattle.queue_clean.specs.Table.{due_by}
use Rattle.program_law.specs.Errand.Errands.{Link, fresh, asks, cleans, waiting}
use Rattle.program_law.specs.Errand.Errands.Awaits.{Answer}

abbrev not_ready : Ready
not_ready = record { links = false ∷ false ∷ false ∷ false ∷ []; child = None }

abbrev told : Told → GotData
told it = came.Answered (record { answer = it; bytes = [] })

-- the cleaner does what is due, and this comes of it
abbrev does : GotData → Link → Link
does got x = cleans (record { read = 5; ready = not_ready; due = due_by x.place 5; came = got }) 0 x

-- the scan of `pid` finds no name, and the sender gives the command
abbrev asked : Link
asked = asks (Todo 7) (does (told answer.NoName) fresh)

-- the cleaner takes it in two pieces
abbrev taken : Link
taken = does (came.Took (codes "/7" ++ 0 ∷ [])) (does (came.Took (codes "todo")) asked)

abbrev answered : Link
answered = does came.Gave (does (told answer.Done) (does (told answer.Done) taken))

pub record WorkedErrand : Type 0 where
  pub waits : waiting asked ≡ codes "todo/7" ∷ []
  pub works : (taken.place.row ≡ at.UnlinkIntd (Todo 7)) × (waiting taken ≡ [])
  pub ends : (answered.answers ≡ codes "+") × (answered.awaits ≡ Answer (Todo 7))
