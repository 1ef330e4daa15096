-- Worked runs: what came of each step, and what was due. The calls and bytes are those of a run that was worked out by hand from
-- the rules, not by this table.
use Rattle.std.specs.Prelude.{ℕ, List, [], ◌∷◌, ◌++◌, map, replicate, Bool, true, false, None, codes}
use Rattle.call_fs.specs.declared.calls.Answer.{Answer}
use Rattle.call_fs.specs.declared.calls.Answer.TheVariants as answer
use Rattle.call_fs.specs.declared.calls.CallData.TheVariants as call
use Rattle.call_fs.specs.declared.calls.Fd.{Fd}
use Rattle.call_fs.specs.declared.calls.FsError.TheVariants.{NotThere, Fault}
use Rattle.call_fs.specs.declared.calls.How.TheVariants as how
use Rattle.call_fs.specs.declared.past.GotData.{GotData}
use Rattle.call_fs.specs.declared.past.GotData.TheVariants.{Answered, Took, Gave}
use Rattle.call_fs.specs.declared.past.NeedData.{NeedData}
use Rattle.call_fs.specs.declared.past.NeedData.TheVariants as needs
use Rattle.call_fs.specs.declared.program.Port.TheVariants as port
use Rattle.call_fs.specs.declared.program.Ready.{Ready}
use Rattle.mail_bytes.specs.Decimal.{digits}
use Rattle.send_core.specs.declared.desk.Desk.{Desk}
use Rattle.send_core.specs.Log.{lines_at}
use Rattle.send_core.specs.Table.{due_at, moved, moved_by, row_now}

-- one list after the other
abbrev pub joined : {A : Type 0} → List (List A) → List A
joined [] = []
joined (part ∷ parts) = part ++ joined parts

-- An event: the moment read, what was ready, and what came

abbrev pub Event : Type 0
Event = ℕ × Ready × GotData

abbrev pub found : Bool → Bool → ℕ → GotData → Event
found local remote now came = (now, record { links = false ∷ (local ∷ (remote ∷ (false ∷ []))); child = None }, came)

abbrev pub quiet : ℕ → GotData → Event
quiet now came = found false false now came

abbrev pub times : ℕ → Event → List Event
times count event = replicate count event

-- what a sender that keeps this does at each of these events, oldest first
abbrev pub asks : Desk → List Event → List NeedData
asks d [] = []
asks d ((now, ready, came) ∷ events) =
    let due = due_at (row_now d now ready) d in due ∷ asks (moved d (record { read = now; ready = ready; due = due; came = came })) events

-- the lines that it logs
abbrev pub logs : Desk → List Event → List ℕ
logs d [] = []
logs d ((now, ready, came) ∷ events) =
    let row = row_now d now ready in
    lines_at row now came d ++ logs (moved_by row now came d) events

-- What came

abbrev pub told : Answer → GotData
told given = Answered (record { answer = given; bytes = [] })

abbrev pub fd : ℕ → Fd
fd k = record { 0 = k }

abbrev pub absent : GotData
absent = told (answer.Refused NotThere)

abbrev pub failed : GotData
failed = told (answer.Refused Fault)

abbrev pub no_name : GotData
no_name = told answer.NoName

abbrev pub done : GotData
done = told answer.Done

abbrev pub opened : ℕ → GotData
opened k = told (answer.Opened (fd k))

abbrev pub created : ℕ → ℕ → GotData
created k number = told (answer.Created (fd k) number)

abbrev pub named : List ℕ → GotData
named name = told (answer.Name name)

abbrev pub stated : ℕ → ℕ → ℕ → GotData
stated number length moment = told (answer.Stat (record { number = number; length = length; moment = moment }))

abbrev pub read : ℕ → List ℕ → GotData
read count bytes = Answered (record { answer = answer.Count count; bytes = bytes })

-- What was due

abbrev pub search : List ℕ → NeedData
search dir = needs.File (call.NextName dir [])

abbrev pub splits_from : List ℕ → List ℕ → List NeedData
splits_from dir splits = map (λ k. search (dir ++ digits k)) splits

abbrev pub from_two : List ℕ
from_two = 2 ∷ 3 ∷ 4 ∷ 5 ∷ 6 ∷ 7 ∷ 8 ∷ 9 ∷ 10 ∷ 11 ∷ 12 ∷ 13 ∷ 14 ∷ 15 ∷ 16 ∷ 17 ∷ 18 ∷ 19 ∷ 20 ∷ 21 ∷ 22 ∷ []

-- all 23 directories
abbrev pub splits : List ℕ → List NeedData
splits dir = splits_from dir (0 ∷ (1 ∷ from_two))

abbrev pub control_file : List ℕ → NeedData
control_file name = needs.File (call.Open (codes "control/" ++ name) how.Read)

abbrev pub control_files : List NeedData
control_files =
    control_file (codes "me") ∷ control_file (codes "locals") ∷ control_file (codes "percenthack") ∷ control_file (codes "virtualdomains") ∷
    control_file (codes "envnoathost") ∷ control_file (codes "bouncefrom") ∷ control_file (codes "bouncehost") ∷ control_file (codes "doublebounceto") ∷
    control_file (codes "doublebouncehost") ∷ control_file (codes "concurrencylocal") ∷ control_file (codes "concurrencyremote") ∷
    control_file (codes "queuelifetime") ∷ []

-- The runs

-- One message to a remote recipient, from the start until its number is free (96 events):
-- `mail a a@x b@y : hi / run a / sender / turn / turn / turn / report 0 K ok / run rspawn / turn / turn`.
abbrev pub remote_run : List Event
remote_run = joined (
    (times 12 (quiet 0 absent)) ∷
    (
    found true true 0 (Took (codes "x")) ∷
    found false true 0 (Took (codes "x")) ∷ []) ∷
    (times 23 (quiet 0 no_name)) ∷
    (
    quiet 0 (named (codes "1")) ∷ []) ∷
    (times 3 (quiet 0 absent)) ∷
    (
    quiet 0 (stated 1 70 0) ∷
    quiet 0 (opened 1) ∷
    quiet 0 (read 20 (codes "u1000" ++ (0 ∷ codes "p77" ++ (0 ∷ codes "Fa@x" ++ (0 ∷ codes "Tb@y" ++ (0 ∷ [])))))) ∷
    quiet 0 done ∷
    quiet 0 (created 1 3) ∷ []) ∷
    (times 3 (quiet 0 done)) ∷
    (
    quiet 0 (created 1 4) ∷ []) ∷
    (times 3 (quiet 0 done)) ∷
    (
    quiet 0 Gave ∷
    quiet 0 (Took (codes "+")) ∷
    quiet 0 no_name ∷
    quiet 0 (named (codes "1")) ∷ []) ∷
    (times 22 (quiet 0 no_name)) ∷
    (
    quiet 0 (opened 1) ∷
    quiet 0 (read 5 (codes "Tb@y" ++ (0 ∷ []))) ∷
    quiet 0 done ∷
    quiet 0 Gave ∷
    quiet 0 no_name ∷
    quiet 0 no_name ∷
    found false true 0 (Took (0 ∷ codes "Kok" ++ (0 ∷ []))) ∷
    quiet 0 (opened 1) ∷ []) ∷
    (times 3 (quiet 0 done)) ∷
    (
    quiet 0 no_name ∷
    quiet 0 absent ∷
    quiet 0 done ∷
    quiet 0 Gave ∷
    quiet 0 (Took (codes "+")) ∷
    quiet 0 no_name ∷ []) ∷
    [])

abbrev pub remote_dues : List NeedData
remote_dues = joined (
    control_files ∷
    (
    needs.Take port.Lspawn ∷
    needs.Take port.Rspawn ∷ []) ∷
    (splits (codes "info/")) ∷
    (
    search (codes "todo") ∷
    needs.File (call.Unlink (codes "info/1/1")) ∷
    needs.File (call.Unlink (codes "local/1/1")) ∷
    needs.File (call.Unlink (codes "remote/1/1")) ∷
    needs.File (call.Stat (codes "mess/1/1")) ∷
    needs.File (call.Open (codes "todo/1") how.Read) ∷
    needs.File (call.ReadAt (fd 1) 0 8192) ∷
    needs.File (call.Close (fd 1)) ∷
    needs.File (call.CreateExcl (codes "info/1/1")) ∷
    needs.File (call.Append (fd 1) (codes "Fa@x" ++ (0 ∷ []))) ∷
    needs.File (call.Sync (fd 1)) ∷
    needs.File (call.Close (fd 1)) ∷
    needs.File (call.CreateExcl (codes "remote/1/1")) ∷
    needs.File (call.Append (fd 1) (codes "Tb@y" ++ (0 ∷ []))) ∷
    needs.File (call.Sync (fd 1)) ∷
    needs.File (call.Close (fd 1)) ∷
    needs.Give port.Clean (codes "todo/1" ++ (0 ∷ [])) ∷
    needs.Take port.Clean ∷
    search (codes "mess/0") ∷
    search (codes "mess/1") ∷
    needs.File (call.NextName (codes "mess/1") (codes "1")) ∷ []) ∷
    (splits_from (codes "mess/") from_two) ∷
    (
    needs.File (call.Open (codes "remote/1/1") how.Read) ∷
    needs.File (call.ReadAt (fd 1) 0 8192) ∷
    needs.File (call.Close (fd 1)) ∷
    needs.Give port.Rspawn (0 ∷ codes "1/1" ++ (0 ∷ codes "a@x" ++ (0 ∷ codes "b@y" ++ (0 ∷ [])))) ∷
    search (codes "todo") ∷
    search (codes "todo") ∷
    needs.Take port.Rspawn ∷
    needs.File (call.Open (codes "remote/1/1") how.Write) ∷
    needs.File (call.WriteAt (fd 1) 0 (codes "D")) ∷
    needs.File (call.Close (fd 1)) ∷
    needs.File (call.Unlink (codes "remote/1/1")) ∷
    search (codes "todo") ∷
    needs.File (call.Open (codes "bounce/1") how.Read) ∷
    needs.File (call.Unlink (codes "info/1/1")) ∷
    needs.Give port.Clean (codes "foop/1" ++ (0 ∷ [])) ∷
    needs.Take port.Clean ∷
    search (codes "todo") ∷ []) ∷
    [])

-- its lines
abbrev pub remote_log : List ℕ
remote_log = joined (
    codes "new msg 1" ∷ (10 ∷ []) ∷
    codes "info msg 1: bytes 70 from <a@x> qp 77 uid 1000" ∷ (10 ∷ []) ∷
    codes "starting delivery 1: msg 1 to remote b@y" ∷ (10 ∷ []) ∷
    codes "status: local 0/10 remote 1/20" ∷ (10 ∷ []) ∷
    codes "delivery 1: success: ok" ∷ (10 ∷ []) ∷
    codes "status: local 0/10 remote 0/20" ∷ (10 ∷ []) ∷
    codes "end msg 1" ∷ (10 ∷ []) ∷
    [])

-- Of two recipients one is deferred, and tried again 400 seconds later (110 events):
-- `mail a a@x b@y c@y : hi / run a / sender / turn / turn / turn / report 0 Z no / report 1 K ok / run rspawn / turn / moment 399 / turn / moment 400 / turn / report 0 K ok / run rspawn / turn / turn`.
abbrev pub deferred_run : List Event
deferred_run = joined (
    (times 12 (quiet 0 absent)) ∷
    (
    found true true 0 (Took (codes "x")) ∷
    found false true 0 (Took (codes "x")) ∷ []) ∷
    (times 23 (quiet 0 no_name)) ∷
    (
    quiet 0 (named (codes "1")) ∷ []) ∷
    (times 3 (quiet 0 absent)) ∷
    (
    quiet 0 (stated 1 70 0) ∷
    quiet 0 (opened 1) ∷
    quiet 0 (read 25 (codes "u1000" ++ (0 ∷ codes "p77" ++ (0 ∷ codes "Fa@x" ++ (0 ∷ codes "Tb@y" ++ (0 ∷ codes "Tc@y" ++ (0 ∷ []))))))) ∷
    quiet 0 done ∷
    quiet 0 (created 1 3) ∷ []) ∷
    (times 3 (quiet 0 done)) ∷
    (
    quiet 0 (created 1 4) ∷ []) ∷
    (times 3 (quiet 0 done)) ∷
    (
    quiet 0 Gave ∷
    quiet 0 (Took (codes "+")) ∷
    quiet 0 no_name ∷
    quiet 0 (named (codes "1")) ∷ []) ∷
    (times 22 (quiet 0 no_name)) ∷
    (
    quiet 0 (opened 1) ∷
    quiet 0 (read 10 (codes "Tb@y" ++ (0 ∷ codes "Tc@y" ++ (0 ∷ [])))) ∷
    quiet 0 done ∷
    quiet 0 Gave ∷
    quiet 0 Gave ∷
    quiet 0 no_name ∷
    quiet 0 no_name ∷
    found false true 0 (Took (0 ∷ codes "Zno" ++ (0 ∷ 1 ∷ codes "Kok" ++ (0 ∷ [])))) ∷
    quiet 0 (opened 1) ∷
    quiet 0 done ∷
    quiet 0 done ∷
    quiet 0 no_name ∷
    quiet 0 no_name ∷
    quiet 399 no_name ∷
    quiet 400 (opened 1) ∷
    quiet 400 (read 10 (codes "Tb@y" ++ (0 ∷ codes "Dc@y" ++ (0 ∷ [])))) ∷
    quiet 400 done ∷
    quiet 400 Gave ∷
    quiet 400 no_name ∷
    quiet 400 no_name ∷
    found false true 400 (Took (0 ∷ codes "Kok" ++ (0 ∷ []))) ∷
    quiet 400 (opened 1) ∷ []) ∷
    (times 3 (quiet 400 done)) ∷
    (
    quiet 400 no_name ∷
    quiet 400 absent ∷
    quiet 400 done ∷
    quiet 400 Gave ∷
    quiet 400 (Took (codes "+")) ∷
    quiet 400 no_name ∷ []) ∷
    [])

abbrev pub deferred_dues : List NeedData
deferred_dues = joined (
    control_files ∷
    (
    needs.Take port.Lspawn ∷
    needs.Take port.Rspawn ∷ []) ∷
    (splits (codes "info/")) ∷
    (
    search (codes "todo") ∷
    needs.File (call.Unlink (codes "info/1/1")) ∷
    needs.File (call.Unlink (codes "local/1/1")) ∷
    needs.File (call.Unlink (codes "remote/1/1")) ∷
    needs.File (call.Stat (codes "mess/1/1")) ∷
    needs.File (call.Open (codes "todo/1") how.Read) ∷
    needs.File (call.ReadAt (fd 1) 0 8192) ∷
    needs.File (call.Close (fd 1)) ∷
    needs.File (call.CreateExcl (codes "info/1/1")) ∷
    needs.File (call.Append (fd 1) (codes "Fa@x" ++ (0 ∷ []))) ∷
    needs.File (call.Sync (fd 1)) ∷
    needs.File (call.Close (fd 1)) ∷
    needs.File (call.CreateExcl (codes "remote/1/1")) ∷
    needs.File (call.Append (fd 1) (codes "Tb@y" ++ (0 ∷ codes "Tc@y" ++ (0 ∷ [])))) ∷
    needs.File (call.Sync (fd 1)) ∷
    needs.File (call.Close (fd 1)) ∷
    needs.Give port.Clean (codes "todo/1" ++ (0 ∷ [])) ∷
    needs.Take port.Clean ∷
    search (codes "mess/0") ∷
    search (codes "mess/1") ∷
    needs.File (call.NextName (codes "mess/1") (codes "1")) ∷ []) ∷
    (splits_from (codes "mess/") from_two) ∷
    (
    needs.File (call.Open (codes "remote/1/1") how.Read) ∷
    needs.File (call.ReadAt (fd 1) 0 8192) ∷
    needs.File (call.Close (fd 1)) ∷
    needs.Give port.Rspawn (0 ∷ codes "1/1" ++ (0 ∷ codes "a@x" ++ (0 ∷ codes "b@y" ++ (0 ∷ [])))) ∷
    needs.Give port.Rspawn (1 ∷ codes "1/1" ++ (0 ∷ codes "a@x" ++ (0 ∷ codes "c@y" ++ (0 ∷ [])))) ∷
    search (codes "todo") ∷
    search (codes "todo") ∷
    needs.Take port.Rspawn ∷
    needs.File (call.Open (codes "remote/1/1") how.Write) ∷
    needs.File (call.WriteAt (fd 1) 5 (codes "D")) ∷
    needs.File (call.Close (fd 1)) ∷
    search (codes "todo") ∷
    search (codes "todo") ∷
    search (codes "todo") ∷
    needs.File (call.Open (codes "remote/1/1") how.Read) ∷
    needs.File (call.ReadAt (fd 1) 0 8192) ∷
    needs.File (call.Close (fd 1)) ∷
    needs.Give port.Rspawn (0 ∷ codes "1/1" ++ (0 ∷ codes "a@x" ++ (0 ∷ codes "b@y" ++ (0 ∷ [])))) ∷
    search (codes "todo") ∷
    search (codes "todo") ∷
    needs.Take port.Rspawn ∷
    needs.File (call.Open (codes "remote/1/1") how.Write) ∷
    needs.File (call.WriteAt (fd 1) 0 (codes "D")) ∷
    needs.File (call.Close (fd 1)) ∷
    needs.File (call.Unlink (codes "remote/1/1")) ∷
    search (codes "todo") ∷
    needs.File (call.Open (codes "bounce/1") how.Read) ∷
    needs.File (call.Unlink (codes "info/1/1")) ∷
    needs.Give port.Clean (codes "foop/1" ++ (0 ∷ [])) ∷
    needs.Take port.Clean ∷
    search (codes "todo") ∷ []) ∷
    [])

-- its lines
abbrev pub deferred_log : List ℕ
deferred_log = joined (
    codes "new msg 1" ∷ (10 ∷ []) ∷
    codes "info msg 1: bytes 70 from <a@x> qp 77 uid 1000" ∷ (10 ∷ []) ∷
    codes "starting delivery 1: msg 1 to remote b@y" ∷ (10 ∷ []) ∷
    codes "status: local 0/10 remote 1/20" ∷ (10 ∷ []) ∷
    codes "starting delivery 2: msg 1 to remote c@y" ∷ (10 ∷ []) ∷
    codes "status: local 0/10 remote 2/20" ∷ (10 ∷ []) ∷
    codes "delivery 1: deferral: no" ∷ (10 ∷ []) ∷
    codes "status: local 0/10 remote 1/20" ∷ (10 ∷ []) ∷
    codes "delivery 2: success: ok" ∷ (10 ∷ []) ∷
    codes "status: local 0/10 remote 0/20" ∷ (10 ∷ []) ∷
    codes "starting delivery 3: msg 1 to remote b@y" ∷ (10 ∷ []) ∷
    codes "status: local 0/10 remote 1/20" ∷ (10 ∷ []) ∷
    codes "delivery 3: success: ok" ∷ (10 ∷ []) ∷
    codes "status: local 0/10 remote 0/20" ∷ (10 ∷ []) ∷
    codes "end msg 1" ∷ (10 ∷ []) ∷
    [])

-- A sender that finds a preprocessed message by its scan, as after another one was stopped (86 events).
abbrev pub restarted_run : List Event
restarted_run = joined (
    (times 12 (quiet 0 absent)) ∷
    (
    found true true 0 (Took (codes "x")) ∷
    found false true 0 (Took (codes "x")) ∷
    quiet 0 no_name ∷
    quiet 0 (named (codes "1")) ∷
    quiet 0 absent ∷
    quiet 0 (opened 1) ∷
    quiet 0 (read 5 (codes "Fa@x" ++ (0 ∷ []))) ∷
    quiet 0 done ∷
    quiet 0 (stated 3 5 0) ∷
    quiet 0 absent ∷
    quiet 0 (stated 4 5 0) ∷ []) ∷
    (times 22 (quiet 0 no_name)) ∷
    (
    quiet 0 (opened 1) ∷
    quiet 0 (read 5 (codes "Tb@y" ++ (0 ∷ []))) ∷
    quiet 0 done ∷
    quiet 0 Gave ∷
    quiet 0 no_name ∷
    quiet 0 no_name ∷
    quiet 0 (named (codes "1")) ∷ []) ∷
    (times 22 (quiet 0 no_name)) ∷
    (
    quiet 0 no_name ∷
    found false true 0 (Took (0 ∷ codes "Kok" ++ (0 ∷ []))) ∷
    quiet 0 (opened 1) ∷ []) ∷
    (times 3 (quiet 0 done)) ∷
    (
    quiet 0 no_name ∷
    quiet 0 absent ∷
    quiet 0 done ∷
    quiet 0 Gave ∷
    quiet 0 (Took (codes "+")) ∷
    quiet 0 no_name ∷ []) ∷
    [])

abbrev pub restarted_dues : List NeedData
restarted_dues = joined (
    control_files ∷
    (
    needs.Take port.Lspawn ∷
    needs.Take port.Rspawn ∷
    search (codes "info/0") ∷
    search (codes "info/1") ∷
    needs.File (call.Stat (codes "todo/1")) ∷
    needs.File (call.Open (codes "info/1/1") how.Read) ∷
    needs.File (call.ReadAt (fd 1) 0 8192) ∷
    needs.File (call.Close (fd 1)) ∷
    needs.File (call.Stat (codes "info/1/1")) ∷
    needs.File (call.Stat (codes "local/1/1")) ∷
    needs.File (call.Stat (codes "remote/1/1")) ∷
    needs.File (call.NextName (codes "info/1") (codes "1")) ∷ []) ∷
    (splits_from (codes "info/") from_two) ∷
    (
    needs.File (call.Open (codes "remote/1/1") how.Read) ∷
    needs.File (call.ReadAt (fd 1) 0 8192) ∷
    needs.File (call.Close (fd 1)) ∷
    needs.Give port.Rspawn (0 ∷ codes "1/1" ++ (0 ∷ codes "a@x" ++ (0 ∷ codes "b@y" ++ (0 ∷ [])))) ∷
    search (codes "todo") ∷
    search (codes "mess/0") ∷
    search (codes "mess/1") ∷
    needs.File (call.NextName (codes "mess/1") (codes "1")) ∷ []) ∷
    (splits_from (codes "mess/") from_two) ∷
    (
    search (codes "todo") ∷
    needs.Take port.Rspawn ∷
    needs.File (call.Open (codes "remote/1/1") how.Write) ∷
    needs.File (call.WriteAt (fd 1) 0 (codes "D")) ∷
    needs.File (call.Close (fd 1)) ∷
    needs.File (call.Unlink (codes "remote/1/1")) ∷
    search (codes "todo") ∷
    needs.File (call.Open (codes "bounce/1") how.Read) ∷
    needs.File (call.Unlink (codes "info/1/1")) ∷
    needs.Give port.Clean (codes "foop/1" ++ (0 ∷ [])) ∷
    needs.Take port.Clean ∷
    search (codes "todo") ∷ []) ∷
    [])

-- A message file without an envelope, more than 36 hours old (68 events):
-- `mail a a@x b@y : hi / step a / step a / stop a / moment 129601 / sender / turn / turn`.
abbrev pub swept_run : List Event
swept_run = joined (
    (times 12 (quiet 129601 absent)) ∷
    (
    found true true 129601 (Took (codes "x")) ∷
    found false true 129601 (Took (codes "x")) ∷ []) ∷
    (times 25 (quiet 129601 no_name)) ∷
    (
    quiet 129601 (named (codes "1")) ∷
    quiet 129601 (stated 1 0 0) ∷
    quiet 129601 absent ∷
    quiet 129601 absent ∷
    quiet 129601 Gave ∷
    quiet 129601 (Took (codes "+")) ∷ []) ∷
    (times 23 (quiet 129601 no_name)) ∷
    [])

abbrev pub swept_dues : List NeedData
swept_dues = joined (
    control_files ∷
    (
    needs.Take port.Lspawn ∷
    needs.Take port.Rspawn ∷ []) ∷
    (splits (codes "info/")) ∷
    (
    search (codes "todo") ∷
    search (codes "mess/0") ∷
    search (codes "mess/1") ∷
    needs.File (call.Stat (codes "mess/1/1")) ∷
    needs.File (call.Stat (codes "todo/1")) ∷
    needs.File (call.Stat (codes "info/1/1")) ∷
    needs.Give port.Clean (codes "foop/1" ++ (0 ∷ [])) ∷
    needs.Take port.Clean ∷
    needs.File (call.NextName (codes "mess/1") (codes "1")) ∷ []) ∷
    (splits_from (codes "mess/") from_two) ∷
    (search (codes "todo") ∷ []) ∷
    [])

-- Calls that fail: the open of a channel file for its pass, which is tried again 123 seconds later, and the open of one for a
-- mark, whose place stays `T` (143 events):
-- `mail a a@x b@y : hi / mail b a@x c@y : ho / run a / run b / sender / turn / turn / fault 2 / turn / turn / report 0 K ok / run rspawn / fault 1 / turn / turn / moment 123 / turn / turn / report 0 K ok / report 1 K ok / run rspawn / turn / turn / moment 600 / turn / report 0 K ok / run rspawn / turn / turn`.
abbrev pub faulted_run : List Event
faulted_run = joined (
    (times 12 (quiet 0 absent)) ∷
    (
    found true true 0 (Took (codes "x")) ∷
    found false true 0 (Took (codes "x")) ∷ []) ∷
    (times 23 (quiet 0 no_name)) ∷
    (
    quiet 0 (named (codes "1")) ∷ []) ∷
    (times 3 (quiet 0 absent)) ∷
    (
    quiet 0 (stated 1 70 0) ∷
    quiet 0 (opened 1) ∷
    quiet 0 (read 20 (codes "u1000" ++ (0 ∷ codes "p77" ++ (0 ∷ codes "Fa@x" ++ (0 ∷ codes "Tb@y" ++ (0 ∷ [])))))) ∷
    quiet 0 done ∷
    quiet 0 (created 1 5) ∷ []) ∷
    (times 3 (quiet 0 done)) ∷
    (
    quiet 0 (created 1 6) ∷ []) ∷
    (times 3 (quiet 0 done)) ∷
    (
    quiet 0 Gave ∷
    quiet 0 (Took (codes "+")) ∷
    quiet 0 no_name ∷
    quiet 0 failed ∷
    quiet 0 no_name ∷
    quiet 0 (named (codes "3")) ∷
    quiet 0 (stated 3 70 0) ∷ []) ∷
    (times 20 (quiet 0 no_name)) ∷
    (
    quiet 0 (opened 1) ∷
    quiet 0 (read 5 (codes "Tb@y" ++ (0 ∷ []))) ∷
    quiet 0 done ∷
    quiet 0 Gave ∷
    quiet 0 (named (codes "3")) ∷ []) ∷
    (times 3 (quiet 0 absent)) ∷
    (
    quiet 0 (stated 3 70 0) ∷
    quiet 0 (opened 1) ∷
    quiet 0 (read 20 (codes "u1000" ++ (0 ∷ codes "p78" ++ (0 ∷ codes "Fa@x" ++ (0 ∷ codes "Tc@y" ++ (0 ∷ [])))))) ∷
    quiet 0 done ∷
    quiet 0 (created 1 2) ∷ []) ∷
    (times 3 (quiet 0 done)) ∷
    (
    quiet 0 (created 1 7) ∷ []) ∷
    (times 3 (quiet 0 done)) ∷
    (
    quiet 0 Gave ∷
    quiet 0 (Took (codes "+")) ∷
    quiet 0 (opened 1) ∷
    quiet 0 (read 5 (codes "Tc@y" ++ (0 ∷ []))) ∷
    quiet 0 done ∷
    quiet 0 Gave ∷
    quiet 0 no_name ∷
    quiet 0 no_name ∷
    found false true 0 (Took (0 ∷ codes "Kok" ++ (0 ∷ []))) ∷
    quiet 0 failed ∷ []) ∷
    (times 3 (quiet 0 no_name)) ∷
    (
    quiet 123 no_name ∷
    quiet 123 no_name ∷
    found false true 123 (Took (1 ∷ codes "Kok" ++ (0 ∷ []))) ∷
    quiet 123 (opened 1) ∷ []) ∷
    (times 3 (quiet 123 done)) ∷
    (
    quiet 123 no_name ∷
    quiet 123 absent ∷
    quiet 123 done ∷
    quiet 123 Gave ∷
    quiet 123 (Took (codes "+")) ∷
    quiet 123 no_name ∷
    quiet 600 (opened 1) ∷
    quiet 600 (read 5 (codes "Tb@y" ++ (0 ∷ []))) ∷
    quiet 600 done ∷
    quiet 600 Gave ∷
    quiet 600 no_name ∷
    quiet 600 no_name ∷
    found false true 600 (Took (0 ∷ codes "Kok" ++ (0 ∷ []))) ∷
    quiet 600 (opened 1) ∷ []) ∷
    (times 3 (quiet 600 done)) ∷
    (
    quiet 600 no_name ∷
    quiet 600 absent ∷
    quiet 600 done ∷
    quiet 600 Gave ∷
    quiet 600 (Took (codes "+")) ∷
    quiet 600 no_name ∷ []) ∷
    [])

abbrev pub faulted_dues : List NeedData
faulted_dues = joined (
    control_files ∷
    (
    needs.Take port.Lspawn ∷
    needs.Take port.Rspawn ∷ []) ∷
    (splits (codes "info/")) ∷
    (
    search (codes "todo") ∷
    needs.File (call.Unlink (codes "info/1/1")) ∷
    needs.File (call.Unlink (codes "local/1/1")) ∷
    needs.File (call.Unlink (codes "remote/1/1")) ∷
    needs.File (call.Stat (codes "mess/1/1")) ∷
    needs.File (call.Open (codes "todo/1") how.Read) ∷
    needs.File (call.ReadAt (fd 1) 0 8192) ∷
    needs.File (call.Close (fd 1)) ∷
    needs.File (call.CreateExcl (codes "info/1/1")) ∷
    needs.File (call.Append (fd 1) (codes "Fa@x" ++ (0 ∷ []))) ∷
    needs.File (call.Sync (fd 1)) ∷
    needs.File (call.Close (fd 1)) ∷
    needs.File (call.CreateExcl (codes "remote/1/1")) ∷
    needs.File (call.Append (fd 1) (codes "Tb@y" ++ (0 ∷ []))) ∷
    needs.File (call.Sync (fd 1)) ∷
    needs.File (call.Close (fd 1)) ∷
    needs.Give port.Clean (codes "todo/1" ++ (0 ∷ [])) ∷
    needs.Take port.Clean ∷ []) ∷
    (splits_from (codes "mess/") (0 ∷ 1 ∷ 2 ∷ 3 ∷ [])) ∷
    (
    needs.File (call.Stat (codes "mess/3/3")) ∷
    needs.File (call.NextName (codes "mess/3") (codes "3")) ∷ []) ∷
    (splits_from (codes "mess/") (4 ∷ 5 ∷ 6 ∷ 7 ∷ 8 ∷ 9 ∷ 10 ∷ 11 ∷ 12 ∷ 13 ∷ 14 ∷ 15 ∷ 16 ∷ 17 ∷ 18 ∷ 19 ∷ 20 ∷ 21 ∷ 22 ∷ [])) ∷
    (
    needs.File (call.Open (codes "remote/1/1") how.Read) ∷
    needs.File (call.ReadAt (fd 1) 0 8192) ∷
    needs.File (call.Close (fd 1)) ∷
    needs.Give port.Rspawn (0 ∷ codes "1/1" ++ (0 ∷ codes "a@x" ++ (0 ∷ codes "b@y" ++ (0 ∷ [])))) ∷
    search (codes "todo") ∷
    needs.File (call.Unlink (codes "info/3/3")) ∷
    needs.File (call.Unlink (codes "local/3/3")) ∷
    needs.File (call.Unlink (codes "remote/3/3")) ∷
    needs.File (call.Stat (codes "mess/3/3")) ∷
    needs.File (call.Open (codes "todo/3") how.Read) ∷
    needs.File (call.ReadAt (fd 1) 0 8192) ∷
    needs.File (call.Close (fd 1)) ∷
    needs.File (call.CreateExcl (codes "info/3/3")) ∷
    needs.File (call.Append (fd 1) (codes "Fa@x" ++ (0 ∷ []))) ∷
    needs.File (call.Sync (fd 1)) ∷
    needs.File (call.Close (fd 1)) ∷
    needs.File (call.CreateExcl (codes "remote/3/3")) ∷
    needs.File (call.Append (fd 1) (codes "Tc@y" ++ (0 ∷ []))) ∷
    needs.File (call.Sync (fd 1)) ∷
    needs.File (call.Close (fd 1)) ∷
    needs.Give port.Clean (codes "todo/3" ++ (0 ∷ [])) ∷
    needs.Take port.Clean ∷
    needs.File (call.Open (codes "remote/3/3") how.Read) ∷
    needs.File (call.ReadAt (fd 1) 0 8192) ∷
    needs.File (call.Close (fd 1)) ∷
    needs.Give port.Rspawn (1 ∷ codes "3/3" ++ (0 ∷ codes "a@x" ++ (0 ∷ codes "c@y" ++ (0 ∷ [])))) ∷
    search (codes "todo") ∷
    search (codes "todo") ∷
    needs.Take port.Rspawn ∷
    needs.File (call.Open (codes "remote/1/1") how.Write) ∷
    search (codes "todo") ∷
    search (codes "todo") ∷
    search (codes "todo") ∷
    search (codes "todo") ∷
    search (codes "todo") ∷
    needs.Take port.Rspawn ∷
    needs.File (call.Open (codes "remote/3/3") how.Write) ∷
    needs.File (call.WriteAt (fd 1) 0 (codes "D")) ∷
    needs.File (call.Close (fd 1)) ∷
    needs.File (call.Unlink (codes "remote/3/3")) ∷
    search (codes "todo") ∷
    needs.File (call.Open (codes "bounce/3") how.Read) ∷
    needs.File (call.Unlink (codes "info/3/3")) ∷
    needs.Give port.Clean (codes "foop/3" ++ (0 ∷ [])) ∷
    needs.Take port.Clean ∷
    search (codes "todo") ∷
    needs.File (call.Open (codes "remote/1/1") how.Read) ∷
    needs.File (call.ReadAt (fd 1) 0 8192) ∷
    needs.File (call.Close (fd 1)) ∷
    needs.Give port.Rspawn (0 ∷ codes "1/1" ++ (0 ∷ codes "a@x" ++ (0 ∷ codes "b@y" ++ (0 ∷ [])))) ∷
    search (codes "todo") ∷
    search (codes "todo") ∷
    needs.Take port.Rspawn ∷
    needs.File (call.Open (codes "remote/1/1") how.Write) ∷
    needs.File (call.WriteAt (fd 1) 0 (codes "D")) ∷
    needs.File (call.Close (fd 1)) ∷
    needs.File (call.Unlink (codes "remote/1/1")) ∷
    search (codes "todo") ∷
    needs.File (call.Open (codes "bounce/1") how.Read) ∷
    needs.File (call.Unlink (codes "info/1/1")) ∷
    needs.Give port.Clean (codes "foop/1" ++ (0 ∷ [])) ∷
    needs.Take port.Clean ∷
    search (codes "todo") ∷ []) ∷
    [])
