-- An unlink closes nothing.
use Rattle.std.proofs.Common.{ℕ, List, Option}
use Rattle.std.specs.Prelude.{Result, Ok, Err}
use Rattle.call_fs.specs.declared.calls.Answer.TheVariants as answer
use Rattle.call_fs.specs.declared.calls.CallData.TheVariants as call
use Rattle.call_fs.specs.declared.calls.FsError.{FsError}
use Rattle.call_fs.specs.declared.modes.Mode.{Mode}
use Rattle.call_fs.specs.Apply.{Apply}
use Rattle.call_fs.specs.Calls.{done}
use Rattle.call_fs.specs.Disk.{Disk}
use Rattle.call_fs.specs.Past.{Backs}
use Rattle.mail_bytes.specs.Told.{Meets, OnTold}
use Rattle.test_sender.proofs.Running.{backed}

pub keeps_open : (o e : Option Disk) (name : List ℕ) (r : Result (Unit {0}) FsError) → Meets o e (λ before after. Apply before 0 (call.Unlink name) (done r) after)
    → (h : ℕ → Option Mode) → OnTold o (λ d. Backs d h) → OnTold e (λ d. Backs d h)
keeps_open o e name (Ok none) told h backs = backed o e h 0 (call.Unlink name) answer.Done backs told
keeps_open o e name (Err why) told h backs = backed o e h 0 (call.Unlink name) (answer.Refused why) backs told
