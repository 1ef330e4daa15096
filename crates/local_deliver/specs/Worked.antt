-- Worked runs: a drop by the default line; a forward and a command that has the later lines passed over; and an input that is no
-- message.
use Rattle.std.specs.Prelude.{ℕ, List, [], ◌∷◌, ◌++◌, false, None, codes}
use Rattle.call_fs.specs.declared.calls.Answer.{Answer}
use Rattle.call_fs.specs.declared.calls.Answer.TheVariants as answer
use Rattle.call_fs.specs.declared.calls.CallData.TheVariants as call
use Rattle.call_fs.specs.declared.calls.FsError.TheVariants as why
use Rattle.call_fs.specs.declared.calls.How.TheVariants as how
use Rattle.call_fs.specs.declared.past.ChildData.TheVariants as child
use Rattle.call_fs.specs.declared.past.GotData.{GotData}
use Rattle.call_fs.specs.declared.past.GotData.TheVariants as came
use Rattle.call_fs.specs.declared.past.NeedData.{NeedData}
use Rattle.call_fs.specs.declared.past.NeedData.TheVariants as needs
use Rattle.call_fs.specs.declared.past.Own.{Own}
use Rattle.call_fs.specs.declared.program.Port.TheVariants as port
use Rattle.call_fs.specs.declared.program.Ready.{Ready}
use Rattle.local_parts.specs.declared.arguments.LocalArgs.{LocalArgs}
use Rattle.local_deliver.specs.Table.{Next}
use Rattle.mail_bytes.specs.Texts.{line}

abbrev pub nothing : Ready
nothing = record { links = false ∷ (false ∷ (false ∷ (false ∷ []))); child = None }

-- what a delivery does after a past, and then when this came of each need
abbrev pub does : LocalArgs → List Own → List GotData → List NeedData
does args past [] = []
does args past (got ∷ later) =
    let due = Next args past 0 nothing in due ∷ does args (record { read = 0; ready = nothing; due = due; came = got } ∷ past) later

abbrev pub told : Answer → GotData
told given = came.Answered (record { answer = given; bytes = [] })

abbrev pub told_bytes : ℕ → List ℕ → GotData
told_bytes count bytes = came.Answered (record { answer = answer.Count count; bytes = bytes })

-- to the user j, whose home is home/j, from a@x; process 82
abbrev pub to_j : LocalArgs
to_j = record {
  user = codes "j";
  home = codes "home/j";
  local = codes "j";
  dash = [];
  ext = [];
  domain = codes "localhost";
  sender = codes "a@x";
  line = codes "./Maildir/";
  uid = 1000;
  pid = 82;
}

abbrev pub not_there : GotData
not_there = told (answer.Refused why.NotThere)

-- A drop: the home has no `.qmail`, so the default line counts, at moment 0
abbrev pub drop : List GotData
drop =
    came.Took (codes "3:hi" ++ (10 ∷ codes ",")) ∷
    came.End ∷
    not_there ∷
    told answer.NoName ∷
    told (answer.Created (record { 0 = 1 }) 9) ∷
    told answer.Done ∷
    told answer.Done ∷
    told answer.Done ∷
    told answer.Done ∷
    told answer.Done ∷
    came.Gave ∷
    came.End ∷
    []

abbrev pub drop_dues : List NeedData
drop_dues =
    needs.Take port.Input ∷
    needs.Take port.Input ∷
    needs.File (call.Open (codes "control/me") how.Read) ∷
    needs.File (call.NextName (codes "home/j") []) ∷
    needs.File (call.CreateExcl (codes "home/j/Maildir/tmp/0.82.localhost")) ∷
    needs.File (call.Append (record { 0 = 1 }) (line (codes "Return-Path: <a@x>") ++ (line (codes "Delivered-To: j@localhost") ++ line (codes "hi")))) ∷
    needs.File (call.Sync (record { 0 = 1 })) ∷
    needs.File (call.Close (record { 0 = 1 })) ∷
    needs.File (call.Link (codes "home/j/Maildir/tmp/0.82.localhost") (codes "home/j/Maildir/new/0.82.localhost")) ∷
    needs.File (call.Unlink (codes "home/j/Maildir/tmp/0.82.localhost")) ∷
    needs.Give port.Output (line (codes "did 1+0+0")) ∷
    needs.Ended 0 ∷
    []

-- A forward, and `|exit 99` before a maildir, in `.qmail`: the injector is process 83
abbrev pub forward : List GotData
forward =
    came.Took (codes "3:hi") ∷
    came.Took (10 ∷ codes ",") ∷
    came.End ∷
    told (answer.Opened (record { 0 = 1 })) ∷
    told_bytes 2 (line (codes "h")) ∷
    told answer.Done ∷
    told (answer.Name (codes ".qmail")) ∷
    told answer.NoName ∷
    told (answer.Opened (record { 0 = 1 })) ∷
    told_bytes 25 (line (codes "&a@b") ++ (line (codes "|exit 99") ++ line (codes "./Maildir/"))) ∷
    told answer.Done ∷
    came.Ended 99 ∷
    came.Started 83 ∷
    came.Gave ∷
    came.Ended 0 ∷
    came.Gave ∷
    came.End ∷
    []

abbrev pub forward_dues : List NeedData
forward_dues =
    needs.Take port.Input ∷
    needs.Take port.Input ∷
    needs.Take port.Input ∷
    needs.File (call.Open (codes "control/me") how.Read) ∷
    needs.File (call.ReadAt (record { 0 = 1 }) 0 8192) ∷
    needs.File (call.Close (record { 0 = 1 })) ∷
    needs.File (call.NextName (codes "home/j") []) ∷
    needs.File (call.NextName (codes "home/j") (codes ".qmail")) ∷
    needs.File (call.Open (codes "home/j/.qmail") how.Read) ∷
    needs.File (call.ReadAt (record { 0 = 1 }) 0 8192) ∷
    needs.File (call.Close (record { 0 = 1 })) ∷
    needs.Command (codes "exit 99") ∷
    needs.Start (child.Forward 1000 40) ∷
    needs.Give (port.Program 0) (codes "29:" ++ (line (codes "Delivered-To: j@localhost") ++ (line (codes "hi")
    ++ (codes ",11:Fa@x" ++ (0 ∷ (codes "Ta@b" ++ (0 ∷ (0 ∷ codes ",")))))))) ∷
    needs.Take (port.Status 0) ∷
    needs.Give port.Output (line (codes "did 0+1+1") ++ line (codes "qp 83")) ∷
    needs.Ended 0 ∷
    []

-- An input without its comma
abbrev pub no_message : List GotData
no_message = came.Took (codes "2:hi") ∷ came.End ∷ came.Gave ∷ came.End ∷ []

abbrev pub no_message_dues : List NeedData
no_message_dues =
    needs.Take port.Input ∷
    needs.Take port.Input ∷
    needs.Give port.Output (line (codes "Unable to read the message. (#4.3.0)")) ∷
    needs.Ended 111 ∷
    []
