-- Worked runs: a delivery; bad requests; requests that come to no program; and a field that is too long.
use Rattle.std.specs.Prelude.{ℕ, List, [], ◌∷◌, ◌++◌, replicate, Bool, true, false, Option, Some, None, codes}
use Rattle.call_fs.specs.declared.calls.Answer.{Answer}
use Rattle.call_fs.specs.declared.calls.Answer.TheVariants as answer
use Rattle.call_fs.specs.declared.calls.CallData.TheVariants as call
use Rattle.call_fs.specs.declared.calls.FsError.TheVariants as why
use Rattle.call_fs.specs.declared.calls.How.TheVariants as how
use Rattle.call_fs.specs.declared.past.ChildData.TheVariants as child
use Rattle.call_fs.specs.declared.past.GotData.{GotData}
use Rattle.call_fs.specs.declared.past.GotData.TheVariants as came
use Rattle.call_fs.specs.declared.past.NeedData.{NeedData}
use Rattle.call_fs.specs.declared.past.NeedData.TheVariants as needs
use Rattle.call_fs.specs.declared.past.Own.{Own}
use Rattle.call_fs.specs.declared.program.Port.TheVariants as port
use Rattle.call_fs.specs.declared.program.Ready.{Ready}
use Rattle.remote_spawn.specs.Table.{Next}

-- requests are ready or not, and this program has ended
abbrev pub found : Bool → Option ℕ → Ready
found requests program = record { links = requests ∷ (false ∷ (false ∷ (false ∷ []))); child = program }

abbrev pub nothing : Ready
nothing = found false None

abbrev pub asked : Ready
asked = found true None

abbrev pub ended : Ready
ended = found false (Some 0)

-- what a remote spawner does after a past, and then with each of these ready, when this came of it
abbrev pub does : List Own → List (Ready × GotData) → List NeedData
does past [] = []
does past ((ready, got) ∷ later) =
    let due = Next tt past 0 ready in due ∷ does (record { read = 0; ready = ready; due = due; came = got } ∷ past) later

abbrev pub told : Answer → List ℕ → GotData
told given bytes = came.Answered (record { answer = given; bytes = bytes })

-- a word and NUL
abbrev pub field : List ℕ → List ℕ
field word = word ++ 0 ∷ []

-- a request of a@x to b@y
abbrev pub request : (slot : ℕ) (mess : List ℕ) → List ℕ
request slot mess = slot ∷ (field mess ++ (field (codes "a@x") ++ field (codes "b@y")))

-- One delivery: its report is byte 0, `Kok`, NUL
abbrev pub delivery : List (Ready × GotData)
delivery =
    (asked, came.Gave) ∷
    (asked, came.Took (request 0 (codes "1/1"))) ∷
    (asked, told (answer.Opened (record { 0 = 4 })) []) ∷
    (asked, told (answer.Count 2) (codes "hi")) ∷
    (asked, told answer.Done []) ∷
    (asked, came.Started 77) ∷
    (asked, came.Gave) ∷
    (asked, came.End) ∷
    (ended, came.Took (field (codes "r") ++ field (codes "Kok"))) ∷
    (ended, came.End) ∷
    (ended, came.Ended 0) ∷
    (nothing, came.Gave) ∷
    (nothing, came.End) ∷
    []

abbrev pub delivery_dues : List NeedData
delivery_dues =
    needs.Give port.Output (120 ∷ []) ∷
    needs.Take port.Input ∷
    needs.File (call.Open (codes "mess/1/1") how.Read) ∷
    needs.File (call.ReadAt (record { 0 = 4 }) 0 8192) ∷
    needs.File (call.Close (record { 0 = 4 })) ∷
    needs.Start (child.Remote 0 (codes "y") (codes "a@x") (codes "b@y")) ∷
    needs.Give (port.Program 0) (codes "hi") ∷
    needs.Take port.Input ∷
    needs.Take (port.Program 0) ∷
    needs.Take (port.Program 0) ∷
    needs.Take (port.Status 0) ∷
    needs.Give port.Output (0 ∷ (75 ∷ (111 ∷ (107 ∷ (0 ∷ []))))) ∷
    needs.Ended 0 ∷
    []

-- Two bad requests in one taking, one that can't be opened, and then a field of 4097 bytes
abbrev pub refusals : List (Ready × GotData)
refusals =
    (asked, came.Gave) ∷
    (asked, came.Took (request 120 (codes "1/1") ++ (request 5 (codes "2/1") ++ request 6 (codes "1/24")))) ∷
    (asked, came.Gave) ∷
    (asked, came.Gave) ∷
    (asked, told (answer.Refused why.NotThere) []) ∷
    (asked, came.Gave) ∷
    (asked, came.Took (7 ∷ replicate 4097 65)) ∷
    (asked, came.End) ∷
    []

abbrev pub bad : ℕ → NeedData
bad slot = needs.Give port.Output (slot ∷ field (codes "ZBad request. (#4.3.0)"))

abbrev pub refusal_dues : List NeedData
refusal_dues =
    needs.Give port.Output (120 ∷ []) ∷
    needs.Take port.Input ∷
    bad 120 ∷
    bad 5 ∷
    needs.File (call.Open (codes "mess/1/24") how.Read) ∷
    needs.Give port.Output (6 ∷ field (codes "ZUnable to open the message. (#4.3.0)")) ∷
    needs.Take port.Input ∷
    needs.Ended 91 ∷
    []
