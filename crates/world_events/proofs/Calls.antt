-- What a call brings, and what came of asking a machine.
use Rattle.std.proofs.Common.{◌≡◌, ℕ, List, Option, Some, None, refl, sym, subst, arith}
use Rattle.call_fs.specs.declared.calls.Call.{Call}
use Rattle.call_fs.specs.declared.program.Need.{Need}
use Rattle.call_fs.specs.declared.program.Need.TheVariants as need
use Rattle.call_fs.specs.declared.calls.CallData.{CallData}
use Rattle.call_fs.specs.declared.calls.CallData.TheVariants as call
use Rattle.call_fs.specs.declared.calls.Answer.{Answer}
use Rattle.call_fs.specs.declared.calls.Told.{Told}
use Rattle.call_fs.specs.declared.calls.Answer.TheVariants as told
use Rattle.call_fs.specs.Columns.{HasRoomFor, IsAnswerTo}
use Rattle.call_fs.specs.Calls.{told_with}
use Rattle.call_fs.specs.Kept.{HasRoomForName}
use Rattle.call_fs.specs.Disk.{Disk}
use Rattle.call_fs.specs.Apply.{Apply, IsReadBy}
use Rattle.mail_bytes.specs.Told.{OnTold, Meets}
use Rattle.call_fs.specs.declared.past.NeedData.{NeedData}
use Rattle.call_fs.specs.declared.past.NeedData.TheVariants.{File, Take, Give, Start, Command, Wait, Ended}
use Rattle.call_fs.specs.declared.past.GotData.{GotData}
use Rattle.call_fs.specs.declared.past.GotData.TheVariants as got
use Rattle.call_fs.specs.Program.{IsKind, IsWithin, due_of}
use Rattle.world_events.specs.Asking.{IsCall}
use Rattle.world_events.specs.Reads.{most_brought, HasFew}
use Rattle.world_pipes.specs.Exchanges.{IsNoAct}

-- a need that is neither a call nor an end
pub no_act : (n : Need) → ((c : Call) → n ≡ need.File c → ⊥) → ((status : ℕ) → n ≡ need.Ended status → ⊥) → IsNoAct (due_of n)
no_act (need.File c) no_file no_end = absurd (no_file c refl)
no_act (need.Take port) no_file no_end = tt
no_act (need.Give port bytes) no_file no_end = tt
no_act (need.Start child) no_file no_end = tt
no_act (need.Command bytes) no_file no_end = tt
no_act need.Wait no_file no_end = tt
no_act (need.Ended status) no_file no_end = absurd (no_end status refl)

-- a read counts no more bytes than it asked for
pub keeps_few : (c : CallData) (answer : Answer) → HasRoomFor 8192 c → IsAnswerTo c answer → HasFew (most_brought c) answer
keeps_few c (told.Created fd n) room kind = tt
keeps_few c (told.Opened fd) room kind = tt
keeps_few c told.Done room kind = tt
keeps_few c (told.Stat stat) room kind = tt
keeps_few c (told.Name name) room kind = tt
keeps_few c told.NoName room kind = tt
keeps_few c (told.Refused why) room kind = tt
keeps_few (call.ReadAt fd at len) (told.Count n) room kind = (kind, omega (arith, room, kind))
keeps_few (call.CreateExcl name) (told.Count n) room kind = absurd kind
keeps_few (call.Open name how) (told.Count n) room kind = absurd kind
keeps_few (call.WriteAt fd at bytes) (told.Count n) room kind = absurd kind
keeps_few (call.Append fd bytes) (told.Count n) room kind = absurd kind
keeps_few (call.Truncate fd len) (told.Count n) room kind = absurd kind
keeps_few (call.Sync fd) (told.Count n) room kind = absurd kind
keeps_few (call.Close fd) (told.Count n) room kind = absurd kind
keeps_few (call.Link old new) (told.Count n) room kind = absurd kind
keeps_few (call.Unlink name) (told.Count n) room kind = absurd kind
keeps_few (call.Stat name) (told.Count n) room kind = absurd kind
keeps_few (call.NextName dir last) (told.Count n) room kind = absurd kind

-- only a search brings a name
pub keeps_name : (c : CallData) (answer : Answer) → IsAnswerTo c answer → HasRoomForName (most_brought c) answer
keeps_name c (told.Created fd n) kind = tt
keeps_name c (told.Opened fd) kind = tt
keeps_name c (told.Count n) kind = tt
keeps_name c told.Done kind = tt
keeps_name c (told.Stat stat) kind = tt
keeps_name c told.NoName kind = tt
keeps_name c (told.Refused why) kind = tt
keeps_name (call.NextName dir last) (told.Name name) kind = omega arith
keeps_name (call.ReadAt fd at len) (told.Name found) kind = absurd kind
keeps_name (call.CreateExcl name) (told.Name found) kind = absurd kind
keeps_name (call.Open name how) (told.Name found) kind = absurd kind
keeps_name (call.WriteAt fd at bytes) (told.Name found) kind = absurd kind
keeps_name (call.Append fd bytes) (told.Name found) kind = absurd kind
keeps_name (call.Truncate fd len) (told.Name found) kind = absurd kind
keeps_name (call.Sync fd) (told.Name found) kind = absurd kind
keeps_name (call.Close fd) (told.Name found) kind = absurd kind
keeps_name (call.Link old new) (told.Name found) kind = absurd kind
keeps_name (call.Unlink name) (told.Name found) kind = absurd kind
keeps_name (call.Stat name) (told.Name found) kind = absurd kind

-- a call was made, and this is what it told
pub told_made : (old new : Option Disk) (now : ℕ) (c : CallData) (answer : Answer) (into : List ℕ) (what : Told) → what ≡ told_with answer into
    → Meets old new (λ d e. Apply d now c answer e) → OnTold old (λ d. IsReadBy d c (told_with answer into))
    → Meets old new (λ d e. Apply d now c what.answer e × IsReadBy d c what)
told_made None None now c answer into what is made read = tt
told_made None (Some e) now c answer into what is made read = absurd made
told_made (Some d) None now c answer into what is made read = absurd made
told_made (Some d) (Some e) now c answer into what is made read =
    subst (λ (what : Told). Apply d now c what.answer e × IsReadBy d c what) (sym is) (made, read)

-- what came is of the kind of what was due
pub call_kind : (due : NeedData) (came : GotData) → IsCall due came → IsKind due came
call_kind (File c) (got.Answered told) call = call.1
call_kind (File c) (got.Took bytes) call = absurd call
call_kind (File c) got.End call = absurd call
call_kind (File c) (got.Ended status) call = absurd call
call_kind (File c) got.Crashed call = absurd call
call_kind (File c) got.Gave call = absurd call
call_kind (File c) (got.Started pid) call = absurd call
call_kind (File c) got.Failed call = absurd call
call_kind (File c) got.Memory call = absurd call
call_kind (Take port) came call = absurd call
call_kind (Give port bytes) came call = absurd call
call_kind (Start child) came call = absurd call
call_kind (Command bytes) came call = absurd call
call_kind Wait came call = absurd call
call_kind (Ended status) came call = absurd call

-- and no taking of too much
pub call_within : (most : ℕ) (due : NeedData) (came : GotData) → IsCall due came → IsWithin most came
call_within most (File c) (got.Answered told) call = tt
call_within most (File c) (got.Took bytes) call = absurd call
call_within most (File c) got.End call = absurd call
call_within most (File c) (got.Ended status) call = absurd call
call_within most (File c) got.Crashed call = absurd call
call_within most (File c) got.Gave call = absurd call
call_within most (File c) (got.Started pid) call = absurd call
call_within most (File c) got.Failed call = absurd call
call_within most (File c) got.Memory call = absurd call
call_within most (Take port) came call = absurd call
call_within most (Give port bytes) came call = absurd call
call_within most (Start child) came call = absurd call
call_within most (Command bytes) came call = absurd call
call_within most Wait came call = absurd call
call_within most (Ended status) came call = absurd call
