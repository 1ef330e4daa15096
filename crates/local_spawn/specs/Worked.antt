-- Worked runs: a delivery; requests without one; and a file users/assign that can't be used.
use Rattle.std.specs.Prelude.{ℕ, List, [], ◌∷◌, ◌++◌, replicate, Bool, true, false, Option, Some, None, codes}
use Rattle.call_fs.specs.declared.calls.Answer.{Answer}
use Rattle.call_fs.specs.declared.calls.Answer.TheVariants as answer
use Rattle.call_fs.specs.declared.calls.CallData.TheVariants as call
use Rattle.call_fs.specs.declared.calls.Fd.{Fd}
use Rattle.call_fs.specs.declared.calls.FsError.TheVariants as why
use Rattle.call_fs.specs.declared.calls.How.TheVariants as how
use Rattle.call_fs.specs.declared.past.ChildData.TheVariants as child
use Rattle.call_fs.specs.declared.past.GotData.{GotData}
use Rattle.call_fs.specs.declared.past.GotData.TheVariants as came
use Rattle.call_fs.specs.declared.past.NeedData.{NeedData}
use Rattle.call_fs.specs.declared.past.NeedData.TheVariants as needs
use Rattle.call_fs.specs.declared.past.Own.{Own}
use Rattle.call_fs.specs.declared.program.Port.TheVariants as port
use Rattle.call_fs.specs.declared.program.Ready.{Ready}
use Rattle.local_spawn.specs.Table.{Next}
use Rattle.mail_bytes.specs.Texts.{line}

-- requests are ready or not, and this delivery has ended
abbrev pub found : Bool → Option ℕ → Ready
found requests program = record { links = requests ∷ (false ∷ (false ∷ (false ∷ []))); child = program }

abbrev pub nothing : Ready
nothing = found false None

abbrev pub asked : Ready
asked = found true None

abbrev pub ended : Ready
ended = found false (Some 7)

-- what a local spawner does after a past, and then with each of these ready, when this came of it
abbrev pub does : List Own → List (Ready × GotData) → List NeedData
does past [] = []
does past ((ready, got) ∷ later) =
    let due = Next tt past 0 ready in due ∷ does (record { read = 0; ready = ready; due = due; came = got } ∷ past) later

abbrev pub told : Answer → List ℕ → GotData
told given bytes = came.Answered (record { answer = given; bytes = bytes })

-- a word and NUL
abbrev pub field : List ℕ → List ℕ
field word = word ++ 0 ∷ []

-- a request of a@x to this recipient
abbrev pub request : (slot : ℕ) (mess recipient : List ℕ) → List ℕ
request slot mess recipient = slot ∷ (field mess ++ (field (codes "a@x") ++ field recipient))

abbrev pub fd : Fd
fd = record { 0 = 4 }

abbrev pub users : NeedData
users = needs.File (call.Open (codes "users/assign") how.Read)

-- a report is its slot, its letter and text, and NUL; `line` ends with a newline
abbrev pub reports : ℕ → List ℕ → NeedData
reports slot text = needs.Give port.Output (slot ∷ field text)

-- The line `+j-:joe:507:50:/home/joe:-:x-:` is for `J-b`, and the extension is `x-b`. What the delivery prints counts up to its NUL.
abbrev pub delivery : List (Ready × GotData)
delivery =
    (nothing, told (answer.Opened fd) []) ∷
    (nothing, told (answer.Count 33) (line (codes "+j-:joe:507:50:/home/joe:-:x-:") ++ line (codes "."))) ∷
    (nothing, told answer.Done []) ∷
    (nothing, came.Gave) ∷
    (asked, came.Took (request 7 (codes "1/1") (codes "J-b@c@localhost"))) ∷
    (asked, told (answer.Opened fd) []) ∷
    (asked, told (answer.Count 2) (codes "hi")) ∷
    (asked, told answer.Done []) ∷
    (asked, came.Started 77) ∷
    (asked, came.Gave) ∷
    (asked, came.End) ∷
    (ended, came.Took (field (line (codes "did 1+0+0")) ++ codes "more")) ∷
    (ended, came.End) ∷
    (ended, came.Ended 0) ∷
    (nothing, came.Gave) ∷
    (nothing, came.End) ∷
    []

abbrev pub delivery_dues : List NeedData
delivery_dues =
    users ∷
    needs.File (call.ReadAt fd 0 8192) ∷
    needs.File (call.Close fd) ∷
    needs.Give port.Output (120 ∷ []) ∷
    needs.Take port.Input ∷
    needs.File (call.Open (codes "mess/1/1") how.Read) ∷
    needs.File (call.ReadAt fd 0 8192) ∷
    needs.File (call.Close fd) ∷
    needs.Start (child.Local 7 (record {
      user = codes "joe";
      home = codes "/home/joe";
      local = codes "J-b@c";
      dash = codes "-";
      ext = codes "x-b@c";
      domain = codes "localhost";
      sender = codes "a@x";
      line = codes "./Maildir/";
    }) 507) ∷
    needs.Give (port.Program 7) (codes "2:hi,") ∷
    needs.Take port.Input ∷
    needs.Take (port.Program 7) ∷
    needs.Take (port.Program 7) ∷
    needs.Take (port.Status 7) ∷
    reports 7 (line (codes "Kdid 1+0+0")) ∷
    needs.Ended 0 ∷
    []

-- No file: a bad request makes no call, one to nobody has its message read, and one has none to read.
abbrev pub refusals : List (Ready × GotData)
refusals =
    (nothing, told (answer.Refused why.NotThere) []) ∷
    (nothing, came.Gave) ∷
    (asked, came.Took (request 120 (codes "1/1") (codes "j@x") ++ (request 5 (codes "1/1") (codes "j@x") ++ request 6 (codes "1/24") (codes "j@x")))) ∷
    (asked, came.Gave) ∷
    (asked, told (answer.Opened fd) []) ∷
    (asked, told (answer.Count 0) []) ∷
    (asked, told answer.Done []) ∷
    (asked, came.Gave) ∷
    (asked, told (answer.Refused why.NotThere) []) ∷
    (asked, came.Gave) ∷
    (asked, came.End) ∷
    (asked, came.End) ∷
    []

abbrev pub refusal_dues : List NeedData
refusal_dues =
    users ∷
    needs.Give port.Output (120 ∷ []) ∷
    needs.Take port.Input ∷
    reports 120 (codes "ZBad request. (#4.3.0)") ∷
    needs.File (call.Open (codes "mess/1/1") how.Read) ∷
    needs.File (call.ReadAt fd 0 8192) ∷
    needs.File (call.Close fd) ∷
    reports 5 (line (codes "DSorry, no mailbox here by that name. (#5.1.1)")) ∷
    needs.File (call.Open (codes "mess/1/24") how.Read) ∷
    reports 6 (codes "ZUnable to open the message. (#4.3.0)") ∷
    needs.Take port.Input ∷
    needs.Ended 0 ∷
    []

-- A file without the line `.`: the message is read first. Then a field of 4097 bytes ends it.
abbrev pub troubles : List (Ready × GotData)
troubles =
    (nothing, told (answer.Opened fd) []) ∷
    (nothing, told (answer.Count 11) (line (codes "=j:j:1:1:::"))) ∷
    (nothing, told answer.Done []) ∷
    (nothing, came.Gave) ∷
    (asked, came.Took (request 3 (codes "1/1") (codes "j@x"))) ∷
    (asked, told (answer.Opened fd) []) ∷
    (asked, told (answer.Count 0) []) ∷
    (asked, told answer.Done []) ∷
    (asked, came.Gave) ∷
    (asked, came.Took (8 ∷ replicate 4097 65)) ∷
    (asked, came.End) ∷
    []

abbrev pub trouble_dues : List NeedData
trouble_dues =
    users ∷
    needs.File (call.ReadAt fd 0 8192) ∷
    needs.File (call.Close fd) ∷
    needs.Give port.Output (120 ∷ []) ∷
    needs.Take port.Input ∷
    needs.File (call.Open (codes "mess/1/1") how.Read) ∷
    needs.File (call.ReadAt fd 0 8192) ∷
    needs.File (call.Close fd) ∷
    reports 3 (line (codes "ZTrouble reading users/assign. (#4.3.0)")) ∷
    needs.Take port.Input ∷
    needs.Ended 91 ∷
    []
