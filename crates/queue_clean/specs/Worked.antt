-- A worked run: a scan that finds an old name and a young one, then `foop/1`.
use Rattle.std.specs.Prelude.{ℕ, List, [], ◌∷◌, ◌++◌, false, None, codes}
use Rattle.call_fs.specs.declared.calls.Answer.{Answer}
use Rattle.call_fs.specs.declared.calls.Answer.TheVariants as answer
use Rattle.call_fs.specs.declared.calls.CallData.TheVariants as call
use Rattle.call_fs.specs.declared.calls.FsError.TheVariants.{NotThere}
use Rattle.call_fs.specs.declared.program.Port.TheVariants.{Input, Output}
use Rattle.call_fs.specs.declared.program.Ready.{Ready}
use Rattle.call_fs.specs.declared.past.NeedData.{NeedData}
use Rattle.call_fs.specs.declared.past.NeedData.TheVariants as needs
use Rattle.call_fs.specs.declared.past.GotData.{GotData}
use Rattle.call_fs.specs.declared.past.GotData.TheVariants.{Answered, Took, End, Gave}
use Rattle.call_fs.specs.declared.past.Own.{Own}
use Rattle.queue_clean.specs.Table.{Next}

abbrev pub unready : Ready
unready = record { links = false ∷ (false ∷ (false ∷ (false ∷ []))); child = None }

-- what a cleaner does after a past, and then at each of these moments, when this came of it
abbrev pub does : List Own → List (ℕ × GotData) → List NeedData
does past [] = []
does past ((now, came) ∷ later) =
    let due = Next tt past now unready in due ∷ does (record { read = now; ready = unready; due = due; came = came } ∷ past) later

abbrev pub told : Answer → GotData
told given = Answered (record { answer = given; bytes = [] })

-- a file of that moment
abbrev pub file_of : ℕ → GotData
file_of moment = told (answer.Stat (record { number = 9; length = 0; moment = moment }))

abbrev pub events : List (ℕ × GotData)
events =
    (129601, told (answer.Name (codes "77.0.1"))) ∷
    (129601, file_of 0) ∷
    (129601, told answer.Done) ∷
    (129601, told (answer.Name (codes "78.1.1"))) ∷
    (129601, file_of 1) ∷
    (129601, told answer.NoName) ∷
    (129601, Took (codes "foop/1" ++ 0 ∷ [])) ∷
    (129601, told (answer.Refused NotThere)) ∷
    (129601, told answer.Done) ∷
    (129601, Gave) ∷
    (129601, End) ∷
    (129601, End) ∷
    []

abbrev pub dues : List NeedData
dues =
    needs.File (call.NextName (codes "pid") []) ∷
    needs.File (call.Stat (codes "pid/77.0.1")) ∷
    needs.File (call.Unlink (codes "pid/77.0.1")) ∷
    needs.File (call.NextName (codes "pid") (codes "77.0.1")) ∷
    needs.File (call.Stat (codes "pid/78.1.1")) ∷
    needs.File (call.NextName (codes "pid") (codes "78.1.1")) ∷
    needs.Take Input ∷
    needs.File (call.Unlink (codes "intd/1")) ∷
    needs.File (call.Unlink (codes "mess/1/1")) ∷
    needs.Give Output (codes "+") ∷
    needs.Take Input ∷
    needs.Ended 0 ∷
    []
